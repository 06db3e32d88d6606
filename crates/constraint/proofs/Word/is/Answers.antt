use Rattle.std.proofs.Common.{rules}
use mir.Syntax.{w64}
use mir.Val.{SFits}
use Rattle.constraint.proofs.Words.{is_is}
use Rattle.constraint.proofs.Word.is.Goals as goal

pub returns : goal.returns
returns c =
    let f : SFits w64 c.args.self.first = search rules in
    is_is c.args.n c.args.self c.ranges.n.fits f
