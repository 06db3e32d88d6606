-- The pairs before i are read.
use Rattle.std.proofs.Common.{◌≡◌, take, length}
use Rattle.monitor_c.specs.Numbers.{pairs}
use Rattle.monitor_c.proofs.records.configuration_of.Given as goal

abbrev pub invariant-loop-i : goal.invariant-loop-i
invariant-loop-i l = record { size : length l.pairs ≡ 64; so_far : take l.i l.pairs ≡ take l.i (pairs l.words) }
