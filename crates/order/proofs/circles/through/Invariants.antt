-- The rows before this one are closed, and the others are as they were.
use Rattle.std.proofs.Common.{◌≡◌, ◌++◌, map, take, drop}
use Rattle.order.specs.Rows.{row_through}
use Rattle.order.proofs.circles.through.Given as goal

abbrev pub invariant-loop-row : goal.invariant-loop-row
invariant-loop-row l = l.row-items ≡ map (row_through l.k l.by) (take l.row-index l.fn.rows) ++ drop l.row-index l.fn.rows
