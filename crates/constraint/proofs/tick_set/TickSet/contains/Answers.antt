use Rattle.std.proofs.Common.{sym, rules, ◌<◌, ◌^◌, ◌∙◌}
use borrow.Author.Tests.{le-ltb}
use Rattle.constraint.proofs.TickSets.{no_bit}
use Rattle.constraint.proofs.tick_set.TickSet.contains.Goals as goal

pub returns-else-clock-lt32 : goal.returns-else-clock-lt32
returns-else-clock-lt32 c =
    let f : c.args.self < 2 ^ 32 = search rules in
    le-ltb c.args.clock 32 c.if-clock-lt32.false ∙ sym (no_bit c.args.self 32 c.args.clock f c.if-clock-lt32.false)
