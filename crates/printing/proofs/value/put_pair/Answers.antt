-- `put_pair` meets its contract: its two words, one behind the other. Assumes nothing.
use mir.Facts.{to_z-of_z}
use mir.Syntax.{w64}
use mir.Val.{SFits}
use borrow.Author.Rules.{rules}
use Rattle.printing.proofs.PutLaws.{put_then}
use Rattle.printing.proofs.value.put_pair.Goals as goal

pub returns : goal.returns
returns c =
    let k : SFits w64 c.args.w.first = search rules in
    let l : SFits w64 c.args.w.second = search rules in
    let a = rw (to_z-of_z k) at c.put_word-to.ensures.put in
    let b = rw (to_z-of_z l) at c.put_word.ensures.put in
    record { put = put_then a b; short = search rules }
