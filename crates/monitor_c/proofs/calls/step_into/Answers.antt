-- `step_into` meets its contract past the checks: the step on the records that the numbers stand for, written back where it is accepted.
use Rattle.std.proofs.Common.{◌∙◌, ap, sym, refl, Ok, Err}
use Rattle.judging.specs.Single.{stopped_said, step_told}
use Rattle.monitor_c.specs.Calls.{answered_left}
use Rattle.monitor_c.specs.Numbers.{of_step}
use Rattle.monitor_c.proofs.CallLaws.{stepped, left_alone}
use Rattle.monitor_c.proofs.calls.step_into.Goals as goal

pub returns-in-Ok : goal.returns-in-Ok
returns-in-Ok c =
    let s = c.args in
    rw (c.put_answer.ensures, c.put_words.ensures)
    (stepped s.records.now s.answer.now s.words.now (sym c.room.ensures ∙ c.in_ok-room.was) (sym c.room-2.ensures ∙ c.in_ok-room-2.was) (sym c.shape.ensures ∙ c.in_ok-shape.was)
    s.named s.clocks s.ticks (step_told c.configuration_of-before.result (Ok c.in-Ok.after))
    (c.in-Ok.ensures ∙ rw (c.clocks_of.ensures, c.as_slice-records.ensures.value, c.records_of-read.ensures, c.configuration_of-before.ensures, c.from_bits-ticks.ensures) refl))

pub returns-in-Err : goal.returns-in-Err
returns-in-Err c =
    let s = c.args in
    let before = c.configuration_of-before.result in
    let why = c.in-Err.stopped in
    rw (c.put_answer-in-Err.ensures, c.into.ensures)
    (ap (λ vs. answered_left (of_step (stopped_said why)) vs s.answer.now) (left_alone why before s.words.now)
    ∙ stepped s.records.now s.answer.now s.words.now (sym c.room.ensures ∙ c.in_ok-room.was) (sym c.room-2.ensures ∙ c.in_ok-room-2.was) (sym c.shape.ensures ∙ c.in_ok-shape.was)
    s.named s.clocks s.ticks (step_told before (Err why))
    (c.in-Err.ensures ∙ rw (c.clocks_of.ensures, c.as_slice-records.ensures.value, c.records_of-read.ensures, c.configuration_of-before.ensures, c.from_bits-ticks.ensures) refl))
