-- `start_into` meets its contract past the checks: the start of the records that the numbers stand for.
use Rattle.std.proofs.Common.{◌∙◌, ap₂, sym, Ok, Err}
use Rattle.lent.specs.Start.{start_told, start_of}
use Rattle.monitor_c.proofs.CallLaws.{started}
use Rattle.monitor_c.proofs.calls.start_into.Goals as goal

pub returns-in-Ok : goal.returns-in-Ok
returns-in-Ok c =
    let s = c.args in
    rw (c.put_answer.ensures, c.put_words.ensures)
    (started s.records.now s.answer.now s.words.now (sym c.room.ensures ∙ c.in_ok-room.was) (sym c.room-2.ensures ∙ c.in_ok-room-2.was) (sym c.shape.ensures ∙ c.in_ok-shape.was)
    s.named s.clocks (start_told (Ok c.in-Ok.monitor)) (c.in-Ok.ensures ∙ ap₂ start_of c.clocks_of.ensures (c.as_slice-records.ensures.value ∙ c.records_of-read.ensures)))

pub returns-in-Err : goal.returns-in-Err
returns-in-Err c =
    let s = c.args in
    rw (c.put_answer-in-Err.ensures, c.into.ensures, c.put_words-in-Err.ensures)
    (started s.records.now s.answer.now s.words.now (sym c.room.ensures ∙ c.in_ok-room.was) (sym c.room-2.ensures ∙ c.in_ok-room-2.was) (sym c.shape.ensures ∙ c.in_ok-shape.was)
    s.named s.clocks (start_told (Err c.in-Err.refusal)) (c.in-Err.ensures ∙ ap₂ start_of c.clocks_of.ensures (c.as_slice-records.ensures.value ∙ c.records_of-read.ensures)))
