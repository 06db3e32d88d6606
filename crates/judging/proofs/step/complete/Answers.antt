-- No record is left, or no word.
use Rattle.std.proofs.Common.{sym, ◌∙◌}
use mathlib.Core.Logic.{⊎_elim}
use Rattle.judging.proofs.StepLaws.{no_record, no_word}
use Rattle.judging.proofs.step.complete.Goals as goal

pub returns : goal.returns
returns c =
    let l = c.loop-constraint in
    let rs = l.constraint-iterator.a.rest.now in
    let ws = l.constraint-iterator.b.rest.now in
    sym (l.invariant ∙ ⊎_elim (λ e. no_record c.args.named l.all rs ws e.1.0) (λ e. no_word c.args.named l.all rs ws e.1.0) c.in-None.ensures.steps)
