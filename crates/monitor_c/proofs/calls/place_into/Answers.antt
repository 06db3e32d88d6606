-- `place_into` meets its contract past the checks: the question on the records that the numbers stand for.
use Rattle.std.proofs.Common.{◌∙◌, sym, refl}
use Rattle.constraint.specs.SamePlace.{answer}
use Rattle.monitor_c.proofs.CallLaws.{compared}
use Rattle.monitor_c.proofs.calls.place_into.Goals as goal

pub returns : goal.returns
returns c =
    let s = c.args in
    rw (c.put_answer.ensures, c.into.ensures)
    (compared s.records.now s.named s.clocks s.first.now s.second.now s.answer.now (sym c.room.ensures ∙ c.in_ok-room.was) (sym c.room-2.ensures ∙ c.in_ok-room-2.was)
    (sym c.room-3.ensures ∙ c.in_ok-room-3.was) (sym c.shape.ensures ∙ c.in_ok-shape.was) (answer c.same_place-likeness.result)
    (c.same_place-likeness.ensures.given
    ∙ rw (c.clocks_of.ensures, c.configuration_of.ensures, c.configuration_of-2.ensures, c.as_slice-records.ensures.value, c.records_of-read.ensures) refl))
