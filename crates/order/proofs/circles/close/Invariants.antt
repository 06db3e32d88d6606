-- The rows closed so far, by the clocks from k on, are closed by all.
use Rattle.std.proofs.Common.{◌≡◌, ◌-◌}
use Rattle.order.specs.Rows.{closed_from}
use Rattle.order.proofs.circles.close.Given as goal

abbrev pub invariant-loop-k : goal.invariant-loop-k
invariant-loop-k l = closed_from 32 0 l.fn.rows ≡ closed_from (32 - l.k) l.k l.rows
