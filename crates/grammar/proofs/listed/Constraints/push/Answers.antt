-- One constraint more, with empty records behind it. Assumes nothing.
use Rattle.std.proofs.Common.{arith, ap, length}
use mathlib.Core.List.{List}
use Rattle.constraint.specs.Lists.{empty}
use Rattle.constraint.specs.declared.Constraint.{Constraint}
use Rattle.grammar.proofs.Padding.{padded_more}
use Rattle.grammar.proofs.listed.Constraints.push.Goals as goal

pub invariant_of-self : goal.invariant_of-self
invariant_of-self g c =
    let shown = ap (λ (rs : List Constraint). length rs) c.self.view_is in
    padded_more g.row.ROOM c.self.inside.count empty c.args.constraint c.self.inside.slots (omega (arith, shown, c.self.invariant.1, c.requires)) c.self.invariant
