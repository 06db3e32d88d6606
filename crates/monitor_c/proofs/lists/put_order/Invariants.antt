-- The numbers before i are written.
use Rattle.std.proofs.Common.{◌≡◌, take}
use Rattle.reading.specs.Written.{written}
use Rattle.monitor_c.proofs.lists.put_order.Given as goal

abbrev pub invariant-loop-i : goal.invariant-loop-i
invariant-loop-i l = l.numbers ≡ written (take l.i l.records) l.initial.numbers
