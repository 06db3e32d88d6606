-- Where a name among the words that are left stands twice, one of all does. Assumes nothing.
use Rattle.std.proofs.Common.{◌≡◌, true, length}
use Rattle.text.specs.Words.{words_left}
use Rattle.table.specs.Reader.{any_word, twice}
use Rattle.table.proofs.keys.twice_with_key.Given as goal

abbrev pub invariant-loop-word : goal.invariant-loop-word
invariant-loop-word l = record {
  text : l.behind.text.now ≡ l.words.text.now;
  again : any_word (twice l.words.text.now) (words_left l.behind) ≡ true → any_word (twice l.words.text.now) (words_left l.words) ≡ true;
}

abbrev pub decreases-loop-word : goal.decreases-loop-word
decreases-loop-word l = length (words_left l.behind)
