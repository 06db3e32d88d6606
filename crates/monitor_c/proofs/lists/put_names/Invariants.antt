-- The names before i are written.
use Rattle.std.proofs.Common.{◌≡◌, take}
use Rattle.monitor_c.specs.Numbers.{name_numbers}
use Rattle.reading.specs.Written.{written}
use Rattle.monitor_c.proofs.lists.put_names.Given as goal

abbrev pub invariant-loop-i : goal.invariant-loop-i
invariant-loop-i l = l.numbers ≡ written (name_numbers (take l.i l.spans)) l.initial.numbers
