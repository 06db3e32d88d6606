-- The keys of the names so far, and the words that are left, decide whether keys differ. Assumes nothing.
use Rattle.std.proofs.Common.{◌≡◌, []}
use Rattle.text.specs.Words.{words_left}
use Rattle.table.proofs.KeyLaws.{alike_in}
use Rattle.table.proofs.keys.by_keys.Given as goal

abbrev pub invariant-loop-word : goal.invariant-loop-word
invariant-loop-word l =
    (goal.iterator-loop-word).can_next l.word-iterator
    × (goal.iterator-loop-word).is_finite l.word-iterator
    × (l.word-iterator.text.now ≡ l.words.text.now)
    × (alike_in l.words.text.now l.keys.items (words_left l.word-iterator) ≡ alike_in l.words.text.now [] (words_left l.words))
