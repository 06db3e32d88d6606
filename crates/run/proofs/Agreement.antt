-- A run's steps are single steps, as demand 2 has it, and their named clocks are the recorded ones. And two recordings of one exercise, each of
-- which is completed and judged as the steps in which something ticks alone are. Assumes nothing.
use lib.ListN.{length}
use Prim.Native.Nat.{ℕ}
use Rattle.grammar.specs.Building.{clocks_in}
use Rattle.table.proofs.TableVerdict.{read_exactly, every_table_passes}
use Rattle.run.specs.Agreement.{RunIsSingleSteps, StepsAsRecorded, SameRuns, TwoRecordings}
use Rattle.run.specs.Judgement.{timed, untimed}
use Rattle.run.specs.Run.{records_of, start_of, table_of, recorded_by}
use Rattle.run.proofs.Demands.{run_read, demand_2}
use Rattle.run.proofs.SameExercise.{completed_same, same_exercise}
use Rattle.run.proofs.SingleSteps.{steps_recorded}

pub run_is_single_steps : RunIsSingleSteps
run_is_single_steps t r u h =
    let j = (demand_2 t r u h).1 in
    record { accepted = j.accepted; left = j.left; steps = j.steps; count = j.count; configuration = j.words; single = j.single }

pub steps_as_recorded : StepsAsRecorded
steps_as_recorded t r u h = steps_recorded t r u ((read_exactly t).1 h)

same_runs : (stamp : ℕ → ℕ) → SameRuns stamp
same_runs stamp t r q u h er eq same =
    let e = (read_exactly t).1 h in
    let alike = completed_same stamp (records_of (table_of t)) (clocks_in (table_of t)).named (start_of (table_of t)).words (recorded_by t r u).steps (recorded_by t q u).steps same in
    rw (run_read t r u e, run_read t q u e, er, eq) (same_exercise stamp (records_of (table_of t)) (length (records_of (table_of t))) (start_of (table_of t)) _ _ (every_table_passes t e).words alike)

pub two_recordings : TwoRecordings
two_recordings = (same_runs timed, same_runs untimed)
