-- `recording_into` meets its contract past the checks: the steps that reading gives.
use Rattle.std.proofs.Common.{◌∙◌, sym, Ok, Err}
use Rattle.reading.specs.Recorded.{left}
use Rattle.std.proofs.lemmas.Result.{err_from_is_err_and}
use Rattle.monitor_c.proofs.CallLaws.{read}
use Rattle.monitor_c.proofs.calls.recording_into.Goals as goal

pub returns : goal.returns
returns c =
    let s = c.args in
    let q = c.read_recording.new in
    rw (c.put_answer.ensures, c.into.ensures)
    (read s.table.now s.recording.now s.unknown c.in_ok-unknown.unknown (sym c.choice.ensures ∙ c.in_ok-unknown.was) s.answer.now s.times.now s.marks.now s.ticks.now
    (sym c.room.ensures ∙ c.in_ok-room.was) (left (Ok c.in_ok-read.read) q.times q.marks q.ticks) c.in_ok-read.ensures)

pub returns-in_err-read : goal.returns-in_err-read
returns-in_err-read c =
    let s = c.args in
    let q = c.read_recording.new in
    let p = err_from_is_err_and c.from_residual-in_err-read.result c.from_residual-in_err-read.ensures.1 in
    rw (p.1, p.2)
    (read s.table.now s.recording.now s.unknown c.in_ok-unknown.unknown (sym c.choice.ensures ∙ c.in_ok-unknown.was) s.answer.now s.times.now s.marks.now s.ticks.now
    (sym c.room.ensures ∙ c.in_ok-room.was) (left (Err c.in_err-read.field-0.0) q.times q.marks q.ticks) c.in_err-read.ensures)
