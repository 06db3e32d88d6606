use Rattle.std.proofs.Common.{refl, ap, List, None, length, ◌≤◌, arith}
use Rattle.text.proofs.Runs.{words_over}
use Rattle.text.specs.declared.Class.TheVariants.{Parting}
use Rattle.text.specs.declared.Span.{Span}
use Rattle.recording.specs.Body.{closing, body_steps}
use Rattle.recording.proofs.steps.Steps.refuse.Goals as goal

pub returns : goal.returns
unfolding body_steps closing
returns c =
    let s = c.args.self.now in
    let t = s.words.text.now in
    let past : length t ≤ length t = omega arith in
    (refl, ap (λ (ws : List Span). body_steps s.variables.now t None ws) (words_over t Parting (length t) past))
