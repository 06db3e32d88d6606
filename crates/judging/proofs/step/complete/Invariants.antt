-- The records and words that are left complete what is completed so far.
use Rattle.std.proofs.Common.{◌≡◌}
use Rattle.constraint.specs.Implicit.{completed}
use Rattle.judging.proofs.step.complete.Given as goal

abbrev pub invariant-loop-constraint : goal.invariant-loop-constraint
invariant-loop-constraint l =
    completed l.named l.records l.configuration.words l.fn.ticks ≡ completed l.named l.constraint-iterator.a.rest.now l.constraint-iterator.b.rest.now l.all
