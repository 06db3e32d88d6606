-- `judge` meets its contract: where all clocks are named, the set is complete. Assumes nothing.
use Rattle.std.proofs.Common.{◌≡◌, sym, ap, ◌∙◌}
use Rattle.constraint.specs.Ticks.{bits}
use Rattle.constraint.proofs.ImplicitLaws.{completed_flat}
use Rattle.judging.specs.Code.{taken}
use Rattle.judging.specs.Single.{all_ticks}
use Rattle.judging.specs.Step.{judged, left}
use Rattle.judging.proofs.StepLaws.{judge_told}
use Rattle.judging.proofs.step.judge.Goals as goal
use Rattle.judging.proofs.step.judge.Goals.{Joined-clocks, After-judge_each, else-clocks, then-clocks}

-- where the branch ends, the set is complete
complete : (c : Joined-clocks) → let s = c.args in bits c.if-clocks.all ≡ all_ticks s.clocks s.records.now s.configuration.now.words s.ticks
complete c =
    let s = c.args in
    ap bits (elim c.if-clocks.branch [
      | then-clocks w ↦ w.all-is ∙ sym (completed_flat s.clocks s.records.now s.configuration.now.words s.ticks c.requires.fit w.if-clocks.true)
      | else-clocks w ↦ w.all-is ∙ w.complete-all.ensures
    ])

-- what is left of the configuration is the step's
step : (c : After-judge_each) → let s = c.args in
    left s.configuration.now (taken c.judge_each.result c.judge_each.new.words) ≡ judged (all_ticks s.clocks s.records.now s.configuration.now.words s.ticks) s.records.now s.configuration.now
step c =
    judge_told (bits c.if-clocks.all) c.args.records.now c.args.configuration.now (taken c.judge_each.result c.judge_each.new.words) c.requires.inside c.judge_each.ensures
    ∙ ap (λ F. judged F c.args.records.now c.args.configuration.now) (complete (goal.at.After-judge_each c).Joined-clocks)

pub returns-in-Err : goal.returns-in-Err
returns-in-Err c = ap (λ r. left c.args.configuration.now (taken r c.judge_each.new.words)) (sym c.in-Err.is) ∙ step (goal.at.returns-in-Err c).After-judge_each

pub returns : goal.returns
returns c = ap (λ r. left c.args.configuration.now (taken r c.judge_each.new.words)) (sym c.in_default.is) ∙ step (goal.at.returns c).After-judge_each
