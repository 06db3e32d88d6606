-- The records before i are written.
use Rattle.std.proofs.Common.{◌≡◌, take}
use Rattle.monitor_c.specs.Numbers.{record_numbers}
use Rattle.reading.specs.Written.{written}
use Rattle.monitor_c.proofs.lists.put_records.Given as goal

abbrev pub invariant-loop-i : goal.invariant-loop-i
invariant-loop-i l = l.numbers ≡ written (record_numbers (take l.i l.records)) l.initial.numbers
