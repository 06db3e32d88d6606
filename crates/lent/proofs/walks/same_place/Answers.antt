-- What is known behind the last of the first 64 answers the question. Assumes nothing.
use Rattle.std.proofs.Common.{◌≡◌, ap, ◌∙◌, length, rules}
use Rattle.constraint.proofs.Demand3.{answered}
use Rattle.constraint.proofs.Walk.{length_mapped}
use Rattle.lent.specs.Compare.{begins_same, concluded_same}
use Rattle.lent.specs.declared.Comparison.{Comparison}
use Rattle.lent.proofs.CompareLaws.{compare_places}
use Rattle.lent.proofs.LentLaws.{compare_done}
use Rattle.lent.proofs.walks.same_place.Goals as goal

pub returns : goal.returns
returns c =
    let s = c.args in
    let l : length s.first.words ≡ 64 = search (rules, length_mapped) in
    let m : length s.second.words ≡ 64 = search (rules, length_mapped) in
    let e = compare_done s.records.now c.loop-i.i c.min.result c.min.ensures c.loop-i-test.false s.first.words s.second.words c.loop-i.comparison (begins_same s.clocks) c.loop-i.invariant in
    answered s.clocks s.records.now s.first.words s.second.words l m _
    (c.conclude.ensures
    ∙ ap (λ (k : Comparison). concluded_same k (length s.records.now) s.first.words s.second.words) e
    ∙ compare_places s.first.words s.second.words l m s.clocks s.records.now)
