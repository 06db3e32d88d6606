-- `refused` meets its contract: its four parts, one behind the other. Assumes nothing.
use borrow.Author.Rules.{rules}
use Rattle.printing.proofs.PutLaws.{put_then}
use Rattle.printing.proofs.report.refused.Goals as goal

pub returns : goal.returns
returns c =
    record { put = put_then c.put_text-a.ensures (put_then c.put_limit-b.ensures.put (put_then c.put_place-c.ensures.put c.put_text.ensures)); short = search rules }
