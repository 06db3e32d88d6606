-- What the words that are left add to the names so far is what all add. Assumes nothing.
use Rattle.std.proofs.Common.{◌≡◌}
use Rattle.text.specs.Words.{words_left}
use Rattle.grammar.specs.Names.{with_words}
use Rattle.grammar.proofs.Names.insert.Given as goal

abbrev pub invariant-loop-word : goal.invariant-loop-word
invariant-loop-word l =
    (goal.iterator-loop-word).can_next l.word-iterator
    × (goal.iterator-loop-word).is_finite l.word-iterator
    × (l.word-iterator.text.now ≡ l.words.text.now)
    × (with_words l.words.text.now l.self (words_left l.word-iterator) ≡ with_words l.words.text.now l.initial.self (words_left l.initial.word-iterator))
