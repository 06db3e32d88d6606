-- What is left behind the first `$end` is what was left at the start.
use Rattle.std.proofs.Common.{◌≡◌, ◌≤◌, length}
use Rattle.recording.specs.Answers.{after_end}
use Rattle.recording.specs.Left.{words_left}
use Rattle.recording.proofs.header.skip_command.Given as goal

abbrev pub invariant-loop-word : goal.invariant-loop-word
invariant-loop-word l = record {
  text : l.words.text.now ≡ l.initial.words.text.now;
  fewer : length (words_left l.words) ≤ length (words_left l.initial.words);
  left : after_end l.words.text.now (words_left l.words) ≡ after_end l.words.text.now (words_left l.initial.words);
}

abbrev pub decreases-loop-word : goal.decreases-loop-word
decreases-loop-word l = length (words_left l.words)
