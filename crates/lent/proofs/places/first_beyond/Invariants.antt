-- The words from this one on decide.
use Rattle.std.proofs.Common.{◌≡◌, ◌+◌, [], drop, length}
use Rattle.constraint.specs.Lists.{first_out}
use Rattle.lent.proofs.places.first_beyond.Given as goal

abbrev pub invariant-loop-i : goal.invariant-loop-i
invariant-loop-i l =
    first_out (l.from + 1) [] (drop l.from l.configuration.words)
    ≡ first_out (l.from + length l.yielded + 1) [] (drop (l.from + length l.yielded) l.configuration.words)
