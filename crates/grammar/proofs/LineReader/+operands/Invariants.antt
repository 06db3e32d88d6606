-- An operand in parentheses calls for an expression with one level less, an expression for one of its two kinds, and that for operands, each
-- with the levels that it has. So the measure is three times the level, with one more for each step down to an operand.
use Rattle.std.proofs.Common.{◌+◌, ◌*◌}
use Rattle.grammar.proofs.LineReader.+operands.Given as goal

abbrev pub decreases-expression : goal.decreases-expression
decreases-expression l = 3 * l.level + 2

abbrev pub decreases-pair : goal.decreases-pair
decreases-pair l = 3 * l.level + 1

abbrev pub decreases-await_side : goal.decreases-await_side
decreases-await_side l = 3 * l.level + 1

abbrev pub decreases-operand : goal.decreases-operand
decreases-operand l = 3 * l.level
