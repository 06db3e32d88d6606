-- `report_text` meets its contract: its three lines, one behind the other. Assumes nothing.
use borrow.Author.Rules.{rules}
use Rattle.printing.proofs.PutLaws.{put_then, begins}
use Rattle.printing.proofs.report.report_text.Goals as goal

pub returns : goal.returns
returns c =
    let words = rw c.shown.ensures.words at c.config_line.ensures.put in
    begins (put_then (put_then c.verdict_line-a.ensures.put c.steps_line-b.ensures.put) words) (search rules)
