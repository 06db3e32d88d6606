-- The variables from i on decide.
use Rattle.std.proofs.Common.{◌≡◌, drop}
use Rattle.recording.specs.Index.{declared}
use Rattle.recording.specs.Variables.{with_id}
use Rattle.recording.proofs.variables.Variables.find.Given as goal

abbrev pub invariant-loop-i : goal.invariant-loop-i
invariant-loop-i l = with_id (drop l.i (declared l.self-inside)) l.id ≡ with_id (declared l.self-inside) l.id
