use Rattle.std.proofs.Common.{arith, refl, sym, ap, ◌∙◌, ◌≡◌, length, length-set, Some, None}
use Rattle.std.proofs.lemmas.Result.{err_from_is_err_and}
use Rattle.recording.specs.Answers.{naming_of}
use Rattle.recording.specs.Body.{body_steps, reading, closing}
use Rattle.recording.specs.Header.{words}
use Rattle.recording.specs.Left.{steps_left}
use Rattle.recording.proofs.FewSteps.{few_steps}
use Rattle.run.proofs.RunLaws.{reading_is, one_fewer}
use Rattle.reading.specs.Filling.{steps, onto}
use Rattle.reading.proofs.FillingLaws.{onto_closing, ends_read, ends_refused, onto_all, place}
use Rattle.reading.proofs.RecordedLaws.{header_refused}
use Rattle.reading.proofs.steps.write_steps.Goals as goal

pub returns-in-Err : goal.returns-in-Err
returns-in-Err c = rw (c.requires.1) (header_refused _ _ _ _ _ _ c.in-Err.ensures.header)

pub loop-step-init : goal.loop-step-init
loop-step-init c =
    let a = c.args in
    let r = a.recording.now in
    let h = c.in-Ok.ensures in
    let read = rw h.text at h.header in
    let s : steps_left c.into_iter-step-iterator.result ≡ body_steps c.in-Ok.header.variables r None (words r c.in-Ok.header.body.at) =
    ap steps_left c.into_iter-step-iterator.ensures.into_iter_gives ∙ (rw h.text at c.new-step-items.ensures) in
    let few = few_steps c.in-Ok.header.variables r c.in-Ok.header.body.at in
    let all = s ∙ reading_is (naming_of a.naming) r _ read in
    (tt, tt, refl, refl, refl, omega (arith, c.requires.1, few, ap (λ g. length g.steps) s), rw (c.requires.1, all) (onto_all r (reading (naming_of a.naming) r) (rw (← all, s) few) a.times.now a.marks.now a.ticks.now c.requires.0))

pub returns-in_err-step : goal.returns-in_err-step
returns-in_err-step c =
    let l = c.loop-step in
    let p = err_from_is_err_and c.from_residual.result c.from_residual.ensures.1 in
    let e = rw c.in_err-step.was at c.in-Some.ensures.steps in
    rw (p.1, p.2) (ends_refused _ l.count l.times l.marks l.ticks ∙ ap (λ g. onto g (steps l.count l.times l.marks l.ticks)) (sym e.0) ∙ l.invariant.6)

pub loop-step-preserved : goal.loop-step-preserved
loop-step-preserved c =
    let l = c.loop-step in
    let i = l.invariant in
    let s = c.in_ok-step.step in
    let g = steps_left c.next.new.self in
    let e : steps_left l.step-iterator ≡ closing (Some s) g = rw c.in_ok-step.was at c.in-Some.ensures.steps in (
      tt,
      tt,
      length-set l.times l.count s.time.0 ∙ i.2,
      length-set l.marks l.count s.mark.0 ∙ i.3,
      length-set l.ticks l.count _ ∙ i.4,
      omega (arith, i.5, one_fewer s g _ e),
      rw c.bits.ensures (sym (onto_closing s g l.count l.times l.marks l.ticks) ∙ ap (λ h. onto h (steps l.count l.times l.marks l.ticks)) (sym e) ∙ i.6),
    )

pub returns : goal.returns
returns c =
    let l = c.loop-step in
    ends_read l.count l.times l.marks l.ticks ∙ ap (λ g. onto g (steps l.count l.times l.marks l.ticks)) (sym c.in-None.ensures.steps.0) ∙ l.invariant.6

-- each list has a place for the step
pub bounds-times-count : goal.bounds-times-count
bounds-times-count c =
    let i = c.loop-step.invariant in
    place c.in_ok-step.step (steps_left c.next.new.self) _ c.loop-step.count _ _ _ (rw c.in_ok-step.was at c.in-Some.ensures.steps) i.5 i.2 c.requires.0.times

pub bounds-marks-count : goal.bounds-marks-count
bounds-marks-count c =
    let i = c.loop-step.invariant in
    place c.in_ok-step.step (steps_left c.next.new.self) _ c.loop-step.count _ _ _ (rw c.in_ok-step.was at c.in-Some.ensures.steps) i.5 i.3 c.requires.0.marks

pub bounds-ticks-count : goal.bounds-ticks-count
bounds-ticks-count c =
    let i = c.loop-step.invariant in
    place c.in_ok-step.step (steps_left c.next.new.self) _ c.loop-step.count _ _ _ (rw c.in_ok-step.was at c.in-Some.ensures.steps) i.5 i.4 c.requires.0.ticks
