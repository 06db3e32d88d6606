-- `run_into` meets its contract past the checks: the run.
use Rattle.std.proofs.Common.{◌∙◌, sym}
use Rattle.run.specs.Run.{told}
use Rattle.monitor_c.proofs.CallLaws.{judged}
use Rattle.monitor_c.proofs.calls.run_into.Goals as goal

pub returns : goal.returns
returns c =
    let s = c.args in
    rw (c.put_answer.ensures, c.into.ensures, c.put_words.ensures)
    (judged s.table.now s.recording.now s.unknown c.in_ok-unknown.unknown (sym c.choice.ensures ∙ c.in_ok-unknown.was) s.answer.now s.words.now
    (sym c.room.ensures ∙ c.in_ok-room.was) (sym c.room-2.ensures ∙ c.in_ok-room-2.was) (told c.run-report.result) c.run-report.ensures)
