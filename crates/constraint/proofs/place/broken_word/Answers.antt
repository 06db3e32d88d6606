use Rattle.std.proofs.Common.{rules, ◌∙◌}
use Rattle.constraint.specs.Pairs.{together}
use Rattle.constraint.proofs.Walk.{out_on}
use Rattle.constraint.proofs.place.broken_word.Goals as goal

pub loop-i-preserved : goal.loop-i-preserved
loop-i-preserved c =
    c.loop-i.invariant ∙ out_on c.args.records.now c.args.configuration.now.words c.loop-i.i (together 0 0) (search rules) (search rules)
