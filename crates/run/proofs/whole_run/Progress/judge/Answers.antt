use Rattle.std.proofs.Common.{arith, sym, ap, ◌∙◌, ◌≡◌, length, Some, None}
use Rattle.recording.specs.Answers.{naming_of}
use Rattle.recording.specs.Body.{body_steps, closing}
use Rattle.recording.specs.Header.{words}
use Rattle.recording.specs.Left.{steps_left}
use Rattle.run.specs.StepByStep.{judge_on}
use Rattle.run.proofs.RunLaws.{reading_is, few_steps_in, one_fewer}
use Rattle.run.proofs.whole_run.Progress.judge.Goals as goal

pub loop-step-init : goal.loop-step-init
loop-step-init c =
    let a = c.args in
    let r = a.recording.now in
    let h = c.in-Ok.ensures in
    let read = rw h.text at h.header in
    let s : steps_left c.into_iter-step-iterator.result ≡ body_steps c.in-Ok.header.variables r None (words r c.in-Ok.header.body.at) =
    ap steps_left c.into_iter-step-iterator.ensures.into_iter_gives ∙ (rw h.text at c.new-step-items.ensures) in
    (tt, tt, c.requires.0.inside, omega (arith, c.requires.1, few_steps_in (naming_of a.naming) r _ c.in-Ok.header.body.at read, ap (λ g. length g.steps) s), ap (judge_on a.clocks.named a.records.now a.self.now) (s ∙ reading_is (naming_of a.naming) r _ read))

pub loop-step-preserved : goal.loop-step-preserved
loop-step-preserved c =
    let i = c.loop-step.invariant in
    let t = c.in_ok-take.ensures in
    let g = steps_left c.next.new.self in
    let e : steps_left c.loop-step.step-iterator ≡ closing (Some c.in_ok-step.field-0) g = rw c.in_ok-step.was at c.in-Some.ensures.steps in
    (tt, tt, t.0, omega (arith, i.3, t.1, one_fewer c.in_ok-step.field-0 g _ e), sym (t.2 g) ∙ ap (judge_on c.args.clocks.named c.args.records.now c.loop-step.self) (sym e) ∙ i.4)
