-- What a lent monitor comes to, and the records that a doorway lends: the first of its 66, as many as are asked for, or all. Assumes
-- nothing.
use Rattle.std.specs.Prelude.{cond, List, ℕ, leb, take, Result}
use Rattle.constraint.specs.declared.Constraint.{Constraint}
use Rattle.judging.specs.Single.{StepTold, step_said}
use Rattle.lent.specs.declared.Monitor.{Monitor}
use Rattle.judging.specs.declared.Stopped.{Stopped}

-- the answer, and where the monitor then stands
abbrev pub moved_to : Result (Unit {0}) Stopped → Monitor → StepTold
moved_to a m = record { said = step_said a; configuration = m.configuration }

-- how many records a doorway lends, and which
abbrev pub at_most : (count : ℕ) → ℕ
at_most count = cond (leb count 66) count 66

abbrev pub lent : (count : ℕ) → List Constraint → List Constraint
lent count rs = take (at_most count) rs
