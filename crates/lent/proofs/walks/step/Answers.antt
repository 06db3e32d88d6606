-- What is known behind the last of the first 64 answers the step. Assumes nothing.
use Rattle.std.proofs.Common.{◌≡◌, sym, ap, ◌∙◌, length, rules, Err}
use Rattle.constraint.proofs.Walk.{length_mapped}
use Rattle.judging.specs.Single.{step_told, step_of}
use Rattle.lent.specs.Survey.{Walked, begins, ended, concluded}
use Rattle.lent.proofs.SurveyLaws.{survey_steps}
use Rattle.lent.proofs.LentLaws.{survey_done}
use Rattle.lent.proofs.walks.step.Goals as goal
use Rattle.lent.proofs.walks.step.Goals.{After-conclude}

answer : (c : After-conclude) → let s = c.args in ended s.configuration c.loop-i.after c.conclude.result ≡ step_of s.clocks s.records.now s.configuration s.ticks
answer c =
    let s = c.args in
    let l : length s.configuration.words ≡ 64 = search (rules, length_mapped) in
    let e = survey_done s.records.now c.loop-i.i c.min.result c.min.ensures c.loop-i-test.false (record { known = c.loop-i.survey; words = c.loop-i.after.words }) (record { known = begins s.clocks s.ticks; words = s.configuration.words }) c.loop-i.invariant.same in
    c.conclude.ensures c.loop-i.after
    ∙ ap (λ (k : Walked). concluded k.known (length s.records.now) s.configuration (record { words = k.words })) e
    ∙ survey_steps s.clocks s.records.now s.configuration s.ticks l

pub returns-in_err-conclude : goal.returns-in_err-conclude
returns-in_err-conclude c =
    let b = c.args.configuration in
    let e : c.from_residual.result ≡ Err c.in_err-conclude.field-0.0 = search rules in
    ap (step_told b) e ∙ ap (ended b c.loop-i.after) (sym c.in_err-conclude.was) ∙ answer (goal.at.returns-in_err-conclude c).After-conclude

pub returns : goal.returns
returns c = ap (ended c.args.configuration c.loop-i.after) (sym c.in_ok-conclude.was) ∙ answer (goal.at.returns c).After-conclude
