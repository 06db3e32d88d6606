-- The rows so far, with the definitions from this one on, are all; and the clocks of these have numbers below 32.
use Rattle.std.proofs.Common.{◌≡◌, true, length, drop}
use Rattle.constraint.specs.Meaning.{all_below}
use Rattle.order.specs.Rows.{clocks_in, rows_of, rows_with}
use Rattle.order.proofs.circles.rows_of.Given as goal

abbrev pub invariant-loop-definition : goal.invariant-loop-definition
invariant-loop-definition l = record {
  size : length l.rows ≡ 32;
  below : all_below 32 (clocks_in (drop l.definition-index l.definitions)) ≡ true;
  given : rows_of l.definitions ≡ rows_with l.rows (drop l.definition-index l.definitions);
}
