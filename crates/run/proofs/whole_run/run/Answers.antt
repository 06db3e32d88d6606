use Rattle.std.proofs.Common.{sym, ap, ◌∙◌, refl}
use Rattle.run.specs.Run.{ran}
use Rattle.run.proofs.RunLaws.{table_passes, table_refused, ready, run_is}
use Rattle.run.proofs.whole_run.run.Goals as goal
use Rattle.run.proofs.whole_run.run.Goals.{in-Ok-judge, in-Err-judge}

pub clocks_of-requires : goal.clocks_of-requires
clocks_of-requires c = (table_passes _ _ c.in-Ok.ensures).clocks

pub judge-requires : goal.judge-requires
judge-requires c = (ready _ (table_passes _ _ c.in-Ok.ensures) _ _ c.start.result c.clocks_of.ensures c.constraints-records.ensures c.start.ensures, refl)

pub returns-in-Err : goal.returns-in-Err
returns-in-Err c = sym (table_refused _ _ _ _ c.in-Err.ensures)

pub returns-after-judge : goal.returns-after-judge
returns-after-judge c =
    let is = run_is _ _ c.in-Ok.ensures c.args.recording.now c.args.unknown c.clocks_of.result _ c.start.result c.clocks_of.ensures c.constraints-records.ensures c.start.ensures in
    elim c.match-judge.branch [
      | in-Ok-judge w ↦ rw w.verdict-is (ap (ran _) w.in-Ok-judge.ensures ∙ is)
      | in-Err-judge w ↦ rw w.verdict-is (ap (ran _) w.in-Err-judge.ensures ∙ is)
    ]
