-- The records from i on, and the clocks that those before them define, decide.
use Rattle.std.proofs.Common.{◌≡◌, ◌+◌, drop}
use Rattle.constraint.specs.Lists.{broken_record, first_unfit}
use Rattle.constraint.specs.Ticks.{bits}
use Rattle.constraint.proofs.place.broken_record.Given as goal

abbrev pub invariant-loop-i : goal.invariant-loop-i
invariant-loop-i l = broken_record l.clocks l.records ≡ first_unfit l.clocks (bits l.earlier) (l.i + 1) (drop l.i l.records)
