-- A run agrees with single steps, and with the run of another recording of the same exercise. The proofs stand in proofs/Agreement.
-- Assumes nothing.
use Rattle.std.specs.Prelude.{◌≡◌, List, ◌++◌, map, ℕ, length}
use Rattle.grammar.specs.Building.{clocks_in}
use Rattle.grammar.specs.declared.Table.{Table}
use Rattle.forms.specs.Lines.{TableReads}
use Rattle.recording.specs.Body.{ended, Reading}
use Rattle.recording.specs.declared.Step.{Step}
use Rattle.recording.specs.declared.UnknownNames.{UnknownNames}
use Rattle.run.specs.Complete.{as_recorded}
use Rattle.run.specs.Judgement.{after, SingleSteps, ticking, timed, untimed, SameExercise}
use Rattle.run.specs.Run.{Told, table_of, recorded_by, reading_by, run_of}

-- a run is the single steps on the table's records, one after the other from the start words, as far as they are accepted
pub record RunSteps (b : Table) (g : Reading) (told : Told) : Type 0 where
  pub accepted : List Step
  pub left : List Step
  pub steps : g.steps ≡ accepted ++ left
  pub count : told.steps ≡ length accepted
  pub configuration : told.configuration ≡ after b accepted
  pub single : SingleSteps b accepted left told.said

abbrev pub RunIsSingleSteps : Type 0
RunIsSingleSteps = (t r : List ℕ) (u : UnknownNames) → TableReads t → RunSteps (table_of t) (reading_by t r u) (run_of t r u)

-- the steps of a run, each with its named clocks alone, are the recorded ones
abbrev pub StepsAsRecorded : Type 0
StepsAsRecorded = (t r : List ℕ) (u : UnknownNames) → TableReads t → map (as_recorded (clocks_in (table_of t)).named) (reading_by t r u).steps ≡ (recorded_by t r u).steps

-- two recordings of one exercise, in whose steps, as recorded, the same clocks tick together, steps without ticks left out, have the same verdict
-- and words; where the times of these steps are the same too, the time of a violation is the same
abbrev pub SameRuns : (stamp : ℕ → ℕ) → Type 0
SameRuns stamp =
    (t r q : List ℕ) (u : UnknownNames)
    → TableReads t
    → (recorded_by t r u).ending ≡ ended
    → (recorded_by t q u).ending ≡ ended
    → ticking stamp (recorded_by t r u).steps ≡ ticking stamp (recorded_by t q u).steps
    → SameExercise stamp (reading_by t r u) (reading_by t q u) (run_of t r u) (run_of t q u)

abbrev pub TwoRecordings : Type 0
TwoRecordings = SameRuns timed × SameRuns untimed
