-- What is left of the recording, written behind the steps so far, is the whole recording, written into the lists as they were; and for each
-- step that is left there is a place.
use Rattle.std.proofs.Common.{◌≡◌, ◌+◌, ◌≤◌, length}
use Rattle.recording.specs.Answers.{naming_of}
use Rattle.recording.specs.Body.{reading}
use Rattle.recording.specs.Left.{steps_left}
use Rattle.reading.specs.Filling.{steps, onto}
use Rattle.reading.specs.Recorded.{recorded, filled}
use Rattle.reading.proofs.steps.write_steps.Given as goal

abbrev pub invariant-loop-step : goal.invariant-loop-step
invariant-loop-step l =
    (goal.iterator-loop-step).can_next l.step-iterator
    × (goal.iterator-loop-step).is_finite l.step-iterator
    × (length l.times ≡ length l.fn.times)
    × (length l.marks ≡ length l.fn.marks)
    × (length l.ticks ≡ length l.fn.ticks)
    × (l.count + length (steps_left l.step-iterator).steps ≤ length l.recording)
    × (onto (steps_left l.step-iterator) (steps l.count l.times l.marks l.ticks) ≡ filled (recorded (reading (naming_of l.naming) l.recording)) l.fn.times l.fn.marks l.fn.ticks)
