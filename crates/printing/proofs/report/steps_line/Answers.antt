-- `steps_line` meets its contract: its three parts, one behind the other. Assumes nothing.
use borrow.Author.Rules.{rules}
use Rattle.printing.proofs.PutLaws.{put_then}
use Rattle.printing.proofs.report.steps_line.Goals as goal

pub returns : goal.returns
returns c =
    record { put = put_then c.put_text-a.ensures (put_then c.put_steps-b.ensures.put c.put_text.ensures); short = search rules }
