-- The definitions so far, and those of the records from this one on, are all.
use Rattle.std.proofs.Common.{◌≡◌, ◌+◌, ◌++◌, drop}
use Rattle.order.specs.Rows.{gathered}
use Rattle.order.proofs.gathering.gather.Given as goal

abbrev pub invariant-loop-i : goal.invariant-loop-i
invariant-loop-i l = gathered 1 l.records ≡ l.definitions.items ++ gathered (l.i + 1) (drop l.i l.records)
