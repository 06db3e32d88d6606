-- What is left to judge is what was to be judged at the start; the words are in range, and there are no more steps than a recording has.
use Rattle.std.proofs.Common.{◌≡◌, ◌+◌, ◌≤◌, None, length}
use Rattle.constraint.specs.Lists.{broken_word}
use Rattle.recording.specs.Answers.{naming_of}
use Rattle.recording.specs.Body.{reading}
use Rattle.recording.specs.Left.{steps_left}
use Rattle.run.specs.StepByStep.{judge_on}
use Rattle.run.proofs.whole_run.Progress.judge.Given as goal

abbrev pub invariant-loop-step : goal.invariant-loop-step
invariant-loop-step l =
    (goal.iterator-loop-step).can_next l.step-iterator
    × (goal.iterator-loop-step).is_finite l.step-iterator
    × (broken_word l.records l.self.configuration.words ≡ None)
    × (l.self.steps + length (steps_left l.step-iterator).steps ≤ 65_536)
    × (judge_on l.clocks.named l.records l.self (steps_left l.step-iterator) ≡ judge_on l.clocks.named l.records l.fn.self (reading (naming_of l.naming) l.recording))
