-- What the lines that are left make of the table so far is what all make of it; and no more lines are read than the text has bytes, and one.
-- Assumes nothing.
use Rattle.std.proofs.Common.{◌≡◌, ◌≤◌, ◌+◌, length}
use Rattle.table.specs.Answers.{lines_left}
use Rattle.table.specs.Reader.{tell_of, read_lines, read_table}
use Rattle.table.proofs.reader.read_table.Given as goal

abbrev pub invariant-loop-line : goal.invariant-loop-line
invariant-loop-line l =
    (goal.iterator-loop-line).can_next l.line-iterator
    × (goal.iterator-loop-line).is_finite l.line-iterator
    × (l.line-iterator.text.now ≡ l.text)
    × (l.number ≤ l.line-iterator.at + 1)
    × (length l.text ≤ 4_096)
    × (tell_of (read_lines l.text l.number l.builder (lines_left l.line-iterator)) ≡ read_table l.text)
