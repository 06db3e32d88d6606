-- `put_word` meets its contract: the sign where it is negative, then the digits of how far it is from 0. Assumes nothing.
use Prim.Native.Nat.{◌≤◌}
use mathlib.Core.Path.{◌≡◌, sym, ◌∙◌}
use native.Mathlib.Omega.{arith}
use lib.IntN.{nat_abs}
use lib.ListN.{length}
use mir.Facts.{to_z-of_z}
use mir.Syntax.{w64}
use mir.Val.{SFits}
use borrow.Author.Rules.{rules}
use Rattle.text.specs.Digits.{digits}
use Rattle.printing.proofs.DecimalLaws.{magnitude_few}
use Rattle.printing.proofs.PrintedLaws.{negative_is, signed_below, signed_above}
use Rattle.printing.proofs.PutLaws.{put_then}
use Rattle.printing.proofs.value.put_word.Goals as goal
use Rattle.printing.proofs.value.put_word.Goals.{After-unsigned_abs-n}

module _ (c : After-unsigned_abs-n) where
  fits : SFits w64 c.args.z
  fits = search rules

  far : c.unsigned_abs-n.result ≡ nat_abs c.args.z
  far = rw (to_z-of_z fits) at c.unsigned_abs-n.ensures.value

  -- a word has at most 19 digits
  few : length (digits c.unsigned_abs-n.result) ≤ 19
  few = rw far (magnitude_few c.args.z fits.sfits)

pub put_number-requires : goal.put_number-requires
put_number-requires c =
    omega (arith, few (goal.at.put_number-requires c).After-unsigned_abs-n, c.put_text-to.ensures.ends, c.put_text-to.auto.out)

pub returns-then-z-lt0 : goal.returns-then-z-lt0
returns-then-z-lt0 c =
    let z = c.args.z in
    let e = signed_below z (far (goal.at.returns-then-z-lt0 c).After-unsigned_abs-n) (sym (negative_is z) ∙ (rw (to_z-of_z (fits (goal.at.returns-then-z-lt0 c).After-unsigned_abs-n)) at c.if-z-lt0.true)) in
    record { put = rw e (put_then c.put_text-to.ensures c.put_number.ensures); short = omega (arith, few (goal.at.returns-then-z-lt0 c).After-unsigned_abs-n, c.put_text-to.ensures.ends, c.put_number.ensures.ends) }

pub returns : goal.returns
returns c =
    let m = (goal.at.returns c).After-unsigned_abs-n in
    let z = c.args.z in
    let e = signed_above z (far m) (sym (negative_is z) ∙ (rw (to_z-of_z (fits m)) at c.if-z-lt0.false)) in
    rw e c.spaced.ensures
