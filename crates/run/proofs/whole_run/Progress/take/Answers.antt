use Rattle.std.proofs.Common.{sym, ap, ◌∙◌, refl, Err}
use Rattle.run.proofs.RunLaws.{taken, stopped, still_inside}
use Rattle.run.specs.StepByStep.{after, came_to}
use Rattle.run.proofs.whole_run.Progress.take.Goals as goal

pub returns-in-Err : goal.returns-in-Err
returns-in-Err c = λ g.
    let s = c.args.self.now in
    stopped c.args.clocks.named c.args.records.now s c.args.step c.in-Err.reason _ c.in-Err.ensures g
    ∙ ap (λ v. came_to (Err v) (after s.steps c.judge_ticks.new.configuration)) (sym c.verdict_of.ensures)

pub returns : goal.returns
returns c =
    let s = c.args.self.now in
    (still_inside c.args.clocks.named c.args.records.now s c.args.step _ c.in_default.ensures c.requires.0.inside, refl, λ g. taken c.args.clocks.named c.args.records.now s c.args.step _ c.in_default.ensures g)
