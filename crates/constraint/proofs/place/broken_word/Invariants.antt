-- The records and words from i on decide.
use Rattle.std.proofs.Common.{◌≡◌, ◌+◌, drop}
use Rattle.constraint.specs.Lists.{broken_word, first_out}
use Rattle.constraint.proofs.place.broken_word.Given as goal

abbrev pub invariant-loop-i : goal.invariant-loop-i
invariant-loop-i l = broken_word l.records l.configuration.words ≡ first_out (l.i + 1) (drop l.i l.records) (drop l.i l.configuration.words)
