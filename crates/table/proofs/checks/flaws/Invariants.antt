-- What was found, or is found in the words that are left, is what is found in all. Assumes nothing.
use Rattle.std.proofs.Common.{◌≡◌, length}
use Rattle.text.specs.Words.{words_left}
use Rattle.table.specs.Answers.{either, flaws_of}
use Rattle.table.proofs.checks.flaws.Given as goal

abbrev pub invariant-loop-word : goal.invariant-loop-word
invariant-loop-word l = record {
  text : l.behind.text.now ≡ l.words.text.now;
  found : either l.found (flaws_of l.words.text.now l.ask (words_left l.behind)) ≡ flaws_of l.words.text.now l.ask (words_left l.words);
}

abbrev pub decreases-loop-word : goal.decreases-loop-word
decreases-loop-word l = length (words_left l.behind)
