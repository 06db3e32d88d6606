use Rattle.std.proofs.Common.{◌≡◌, None, length}
use Rattle.recording.specs.Body.{body_steps}
use Rattle.recording.specs.Left.{words_left, steps_left}
use Rattle.recording.proofs.steps.Steps.take.Given as goal

-- no mark is pending, and what is left is what was left at the start
abbrev pub invariant-loop-word : goal.invariant-loop-word
invariant-loop-word l = record {
  read : l.self.pending ≡ None;
  left : steps_left l.fn.self ≡ body_steps l.self.variables.now l.self.words.text.now l.self.current (words_left l.self.words);
}

abbrev pub decreases-loop-word : goal.decreases-loop-word
decreases-loop-word l = length (words_left l.self.words)
