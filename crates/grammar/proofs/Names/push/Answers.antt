-- One name more, with empty spans behind it. Assumes nothing.
use Rattle.std.proofs.Common.{arith}
use Rattle.text.specs.Split.{span}
use Rattle.grammar.proofs.Padding.{padded_more}
use Rattle.grammar.proofs.Names.push.Goals as goal

pub invariant_of-self-2 : goal.invariant_of-self-2
invariant_of-self-2 c = padded_more 32 c.self.inside.count (span 0 0) c.args.word c.self.inside.spans (omega (arith, c.if-self-ge32.false)) c.self.invariant
