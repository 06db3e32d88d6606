-- Comparing the records from this one on, from what is known, comes to comparing all from the beginning.
use Rattle.std.proofs.Common.{◌≡◌, drop}
use Rattle.lent.specs.Compare.{begins_same, compared_all}
use Rattle.lent.proofs.walks.same_place.Given as goal

abbrev pub invariant-loop-i : goal.invariant-loop-i
invariant-loop-i l =
    compared_all l.i l.comparison (drop l.i l.compared) l.first.words l.second.words
    ≡ compared_all 0 (begins_same l.fn.clocks) l.compared l.first.words l.second.words
