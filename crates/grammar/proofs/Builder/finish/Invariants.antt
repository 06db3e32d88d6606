-- The constraints so far have their numbers behind the names. Assumes nothing.
use Rattle.std.proofs.Common.{◌≡◌, map, take}
use Rattle.grammar.specs.Building.{renumbered}
use Rattle.grammar.proofs.Builder.finish.Given as goal

abbrev pub invariant-loop-constraint : goal.invariant-loop-constraint
invariant-loop-constraint l = l.records ≡ map (renumbered l.named) (take l.constraint-index l.constraint-items)
