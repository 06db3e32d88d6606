use Rattle.constraint.proofs.LookLaws.{fits_both}
use Rattle.constraint.proofs.Constraint.fits_clocks.Goals as goal

pub returns : goal.returns
returns c = fits_both c.args.clocks c.args.earlier c.args.self.now c.fits_among-among.ensures c.uses_known-known.ensures
