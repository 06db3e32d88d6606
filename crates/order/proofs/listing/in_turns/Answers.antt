-- A turn lists the lowest definition that is ready; where none is, or no turn is left, all are listed.
use Rattle.std.proofs.Common.{◌≡◌, ◌++◌, ◌-◌, ap, sym, ◌∙◌, length, Some, arith, append-nil}
use lib.Seq.{append_snoc}
use Rattle.std.specs.List.{find}
use Rattle.std.specs.Option.{option_copied}
use Rattle.order.specs.Rows.{ready_among}
use Rattle.order.proofs.Turns.{turns_none, turns_over, turns_on}
use Rattle.order.proofs.listing.in_turns.Goals as goal

pub loop-preserved : goal.loop-preserved
loop-preserved c =
    let ds = c.args.definitions.now in
    let found : find (ready_among c.loop.left) ds ≡ Some c.in-Some.next.now = sym c.lowest_ready.ensures ∙ ap option_copied c.in-Some.is in
    record {
      many = c.push.ensures.len ∙ omega (arith, c.loop.invariant.many);
      gives =
          c.loop.invariant.gives
          ∙ ap (λ xs. c.loop.order.items ++ xs) (turns_on (length ds) c.loop.index c.loop.left ds c.in-Some.next.now c.loop-test.true found)
          ∙ rw (c.push.ensures.items, c.without-left.ensures) (sym (append_snoc c.loop.order.items c.in-Some.next.now.number _));
    }

pub returns-after-loop : goal.returns-after-loop
returns-after-loop c =
    let ds = c.args.definitions.now in
    sym (c.loop.invariant.gives ∙ ap (λ xs. c.loop.order.items ++ xs) (turns_over (length ds) c.loop.index c.loop.left ds c.loop-test.false) ∙ append-nil c.loop.order.items)

pub returns-in_default : goal.returns-in_default
returns-in_default c =
    let ds = c.args.definitions.now in
    let none = turns_none (length ds - c.loop.index) c.loop.left ds (sym c.lowest_ready.ensures ∙ ap option_copied c.in_default.is) in
    sym (c.loop.invariant.gives ∙ ap (λ xs. c.loop.order.items ++ xs) none ∙ append-nil c.loop.order.items)
