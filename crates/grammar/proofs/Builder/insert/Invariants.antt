-- What the definitions that are left add to the table so far is what all add. Assumes nothing.
use Rattle.std.proofs.Common.{◌≡◌, drop}
use Rattle.grammar.specs.Building.{with_constraints}
use Rattle.grammar.proofs.Builder.insert.Given as goal

abbrev pub invariant-loop-definition : goal.invariant-loop-definition
invariant-loop-definition l = with_constraints l.place.0 l.self (drop l.definition-index l.definition-items) ≡ with_constraints l.place.0 l.initial.self l.definition-items
