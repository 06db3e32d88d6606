-- What was written to an empty text is the report's three lines. Assumes nothing.
use Rattle.std.proofs.Common.{ap, ◌∙◌, ℕ, List, ◌++◌}
use Rattle.std.proofs.lemmas.Fmt.{contents_after_writes}
use Rattle.arrayvec.specs.ArrayString.{ArrayString}
use Rattle.printing.specs.Printed as p
use Rattle.run.specs.Run as run
use Rattle.printing.proofs.text_of.Goals as goal

pub returns-in-Ok : goal.returns-in-Ok
returns-in-Ok c =
    contents_after_writes _ (λ (s : ArrayString). s.bytes) (λ w bs v e. e) _ _ _ c.in-Ok.ensures.writes
    ∙ ap (λ (bs : List ℕ). bs ++ p.printed (run.told c.args.report.now)) c.new-text.ensures
