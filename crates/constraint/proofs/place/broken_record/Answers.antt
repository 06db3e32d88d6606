use Rattle.std.proofs.Common.{rules, arith, sym, ◌∙◌, ◌≡◌, true}
use borrow.Author.Tests.{leb-true, not-false}
use Rattle.constraint.specs.Lists.{counts_fit}
use Rattle.constraint.proofs.Booleans.{and_l}
use Rattle.constraint.proofs.Walk.{unfit_on}
use Rattle.constraint.proofs.place.broken_record.Goals as goal

pub loop-i-preserved : goal.loop-i-preserved
loop-i-preserved c =
    let few : counts_fit c.args.clocks ≡ true = sym c.fit.ensures ∙ c.if-not-fit.false in
    let fits = not-false c.fits_clocks-fitted.result.fits c.if-not-fitted.false in
    let turn = unfit_on c.args.clocks c.loop-i.earlier c.args.records.now c.loop-i.i _ (search rules) c.index-records-i.result c.index-records-i.is (leb-true c.args.clocks.count 32 (and_l _ _ few)) (omega arith) (rw c.fits_clocks-fitted.ensures at fits) in
    rw c.fits_clocks-fitted.ensures (c.loop-i.invariant ∙ turn)
