-- The first i words are start words.
use Rattle.std.proofs.Common.{◌≡◌, length, take}
use Rattle.constraint.specs.Lists.{slots, start_words}
use Rattle.constraint.proofs.Configuration.start.Given as goal

abbrev pub invariant-loop-i : goal.invariant-loop-i
invariant-loop-i l = record { size : length l.words ≡ 64; started : take l.i l.words ≡ take l.i (start_words (slots 64 l.records)) }
