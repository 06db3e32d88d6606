-- `put_text` meets its contract. Assumes nothing.
use Rattle.std.proofs.Common.{arith, refl, sym, ◌∙◌, ◌≡◌, ◌+◌, ◌-◌, length}
use mathlib.Core.List.{append_assoc}
use lib.ListN.{take, drop}
use lib.Seq.{sets-eq, drop-drop}
use Rattle.printing.proofs.put.put_text.Goals as goal

pub returns : goal.returns
returns c =
    let t = c.args.text.now in
    let i = c.args.at in
    let n : i + length t - i ≡ length t = omega arith in
    record {
      stored = rw (c.copy_from_slice.ensures.after, n, drop-drop (length t) i c.args.out.now) (sym (append_assoc (take i c.args.out.now) t (drop (i + length t) c.args.out.now)) ∙ sym (sets-eq t c.args.out.now i (omega (arith, c.requires))));
      ends = refl;
    }
