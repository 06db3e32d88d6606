use Rattle.std.proofs.Common.{arith, ap₂, ◌∙◌, ◌+◌, ◌-◌, length}
use borrow.Rule.Slice.PartMut.{put_mid}
use Rattle.monitor_c.proofs.Writes.{behind_answer}
use Rattle.monitor_c.proofs.lists.put_answer.Goals as goal

pub returns : goal.returns
returns c =
    let n = c.args.numbers in
    let xs = c.args.answer.now in
    let k = 3 + length c.args.more.now - 3 in
    ap₂ (λ ns ms. put_mid 3 k (put_mid 0 3 xs ns) ms) c.copy_from_slice.ensures.after c.copy_from_slice-2.ensures.after
    ∙ behind_answer n.said n.first n.second c.args.more.now xs k (omega arith)
