-- The clocks below the one at hand decide.
use Rattle.std.proofs.Common.{◌≡◌}
use Rattle.recording.specs.Variables.{all_declared}
use Rattle.recording.proofs.variables.Variables.all_declared.Given as goal

abbrev pub invariant-loop-clock : goal.invariant-loop-clock
invariant-loop-clock l = all_declared l.self l.clock ≡ all_declared l.self l.clocks
