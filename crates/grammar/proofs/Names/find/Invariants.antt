-- No name so far is the one that is looked for. Assumes nothing.
use Rattle.std.proofs.Common.{◌≡◌, drop}
use Rattle.grammar.specs.Names.{position}
use Rattle.grammar.proofs.Names.find.Given as goal

abbrev pub invariant-loop-i : goal.invariant-loop-i
invariant-loop-i l = position l.text l.name 0 l.self.spans ≡ position l.text l.name l.i (drop l.i l.self.spans)
