-- `definition_order` meets its contract: 59, then the circle that the rows show, then the turns on clocks, which are those on records. Assumes
-- nothing.
use Rattle.std.proofs.Common.{◌≡◌, sym, ap, ◌∙◌, None, Some}
use Rattle.std.specs.Option.{option_copied}
use Rattle.constraint.specs.Lists.{broken_record}
use Rattle.order.specs.Order.{definitions, rests_on, order_of}
use Rattle.order.specs.Rests.{circle, order}
use Rattle.order.proofs.GatherLaws.{gathered_few, gathered_below}
use Rattle.order.proofs.LowestLaws.{told}
use Rattle.order.proofs.RowLaws.{circle_found}
use Rattle.order.proofs.TurnLaws.{turns_listed}
use Rattle.order.proofs.Working.{few_listed, listing_told}
use Rattle.order.proofs.definition_order.Goals as goal
use Rattle.order.proofs.definition_order.Goals.{After-lowest_on_circle, In_default}

pub returns-in-Some : goal.returns-in-Some
unfolding order_of
returns-in-Some c =
    let e : broken_record c.args.clocks c.args.records.now ≡ Some c.in-Some.place = sym c.broken_record.ensures ∙ c.in-Some.is in
    rw (c.at.ensures, e)

-- 59 lets the records pass
passed : (c : In_default) → broken_record c.args.clocks c.args.records.now ≡ None
passed c = sym c.broken_record.ensures ∙ c.in_default.is

pub gather-definitions-requires : goal.gather-definitions-requires
gather-definitions-requires c = gathered_few c.args.clocks c.args.records.now (passed c)

pub lowest_on_circle-requires : goal.lowest_on_circle-requires
lowest_on_circle-requires c =
    rw (c.deref.ensures.0, c.gather-definitions.ensures) (gathered_below c.args.clocks c.args.records.now (passed (goal.at.lowest_on_circle-requires c).In_default))

-- the circle that is found is that of the records
found : (c : After-lowest_on_circle) → let rs = c.args.records.now in told (option_copied c.lowest_on_circle.result) ≡ circle (rests_on rs) (definitions rs)
found c =
    rw (c.lowest_on_circle.ensures, c.deref.ensures.0, c.gather-definitions.ensures) (circle_found c.args.clocks c.args.records.now (passed (goal.at.After-lowest_on_circle c).In_default))

pub returns-in-Some-lowest_on_circle : goal.returns-in-Some-lowest_on_circle
unfolding order_of
returns-in-Some-lowest_on_circle c =
    let w = (goal.at.returns-in-Some-lowest_on_circle c).After-lowest_on_circle in
    let there = sym (found w) ∙ ap (λ x. told (option_copied x)) c.in-Some-lowest_on_circle.is in
    rw (c.at-in-Some-lowest_on_circle.ensures, passed (goal.at.returns-in-Some-lowest_on_circle c).In_default, there)

pub returns : goal.returns
unfolding order_of
returns c =
    let w = (goal.at.returns c).After-lowest_on_circle in
    let rs = c.args.records.now in
    let e = passed (goal.at.returns c).In_default in
    let none = sym (found w) ∙ ap (λ x. told (option_copied x)) c.in_default-lowest_on_circle.is in
    let turns : c.in_turns.result.items ≡ order (rests_on rs) (definitions rs) = rw (c.in_turns.ensures, c.deref-2.ensures.0, c.gather-definitions.ensures) (turns_listed c.args.clocks rs e) in
    listing_told c.in_turns.result.items (rw turns (few_listed c.args.clocks rs e)) ∙ rw (e, none, turns)
