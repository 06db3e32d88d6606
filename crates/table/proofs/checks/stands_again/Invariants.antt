-- The words that are left decide. Assumes nothing.
use Rattle.std.proofs.Common.{◌≡◌}
use Rattle.text.specs.Words.{words_left}
use Rattle.table.specs.Reader.{any_word, same_as}
use Rattle.table.proofs.checks.stands_again.Given as goal

abbrev pub invariant-loop-word : goal.invariant-loop-word
invariant-loop-word l =
    (goal.iterator-loop-word).can_next l.word-iterator
    × (goal.iterator-loop-word).is_finite l.word-iterator
    × (l.word-iterator.text.now ≡ l.words.text.now)
    × (any_word (same_as l.words.text.now l.name) (words_left l.word-iterator) ≡ any_word (same_as l.words.text.now l.name) (words_left l.words))
