use Rattle.std.proofs.Common.{◌≡◌, take}
use Rattle.monitor_c.proofs.kinds.list_of.Given as goal

abbrev pub invariant-loop-number : goal.invariant-loop-number
invariant-loop-number l = l.list ≡ take l.number-index l.given
