-- `beyond_clocks` meets its contract: shifted by the named count, something is left of the set, or nothing is. Assumes nothing.
use Rattle.std.proofs.Common.{◌∙◌, sym}
use Rattle.lent.proofs.PlaceLaws.{shifted, ticks_below, ticks_beyond}
use Rattle.lent.proofs.surveying.beyond_clocks.Goals as goal

pub returns-then-unbounded_shr-ne0 : goal.returns-then-unbounded_shr-ne0
returns-then-unbounded_shr-ne0 c =
    let left = shifted c.args.ticks c.args.clocks.named (rw c.bits.ensures at c.bits.type_inv) in
    ticks_beyond c.args.clocks c.args.ticks (λ e. c.if-unbounded_shr-ne0.true (rw (c.into.ensures, c.bits.ensures) at c.unbounded_shr.ensures ∙ left ∙ e))

pub returns : goal.returns
returns c =
    let left = shifted c.args.ticks c.args.clocks.named (rw c.bits.ensures at c.bits.type_inv) in
    ticks_below c.args.clocks c.args.ticks (sym left ∙ sym (rw (c.into.ensures, c.bits.ensures) at c.unbounded_shr.ensures) ∙ c.if-unbounded_shr-ne0.false)
