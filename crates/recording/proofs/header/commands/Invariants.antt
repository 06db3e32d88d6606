-- The header from the words at hand on, with the variables declared so far, is the header from the start on.
use Rattle.std.proofs.Common.{◌≡◌, [], length}
use Rattle.recording.specs.Answers.{naming_of}
use Rattle.recording.specs.Header.{header, words}
use Rattle.recording.specs.Left.{words_left}
use Rattle.recording.proofs.header.commands.Given as goal

abbrev pub invariant-loop-word : goal.invariant-loop-word
invariant-loop-word l = record {
  text : l.words.text.now ≡ l.recording;
  left : header (naming_of l.naming) l.recording l.variables (words_left l.words) ≡ header (naming_of l.naming) l.recording [] (words l.recording 0);
}

abbrev pub decreases-loop-word : goal.decreases-loop-word
decreases-loop-word l = length (words_left l.words)
