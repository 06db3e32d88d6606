-- The whole run: the table is read, then the recording, its steps are completed, and judged one after the other, up to the first that is not
-- accepted (document 01, "What the monitor does", "Recording" and "Where each refusal is checked"; document 02, M-101 and M-103). Assumes nothing.
use Rattle.std.specs.Prelude.{◌≡◌, refl, List, [], ◌∷◌, ℕ, suc, ◌-◌, ℤ, pos, get_or, replicate, length, Result, Ok, Err}
use Rattle.limit.specs.Limit.{number_of}
use Rattle.limit.specs.declared.Limit.TheVariants.{BodyWord, Million}
use Rattle.limit.specs.declared.Place.{Place}
use Rattle.constraint.specs.Implicit.{nested_records}
use Rattle.constraint.specs.Lists.{empty, slots, start_words}
use Rattle.constraint.specs.Meaning.{word}
use Rattle.constraint.specs.Ticks.{bits}
use Rattle.constraint.specs.declared.Configuration.{Configuration}
use Rattle.constraint.specs.declared.Constraint.{Constraint}
use Rattle.table.specs.Reader as table
use Rattle.grammar.specs.Building.{clocks_in, constraints_in}
use Rattle.grammar.specs.declared.Table.{Table}
use Rattle.recording.specs.Body.{Ending, ended, refused_at, Reading, reading}
use Rattle.recording.specs.Variables.{naming_in}
use Rattle.recording.specs.declared.Step.{Step}
use Rattle.recording.specs.declared.UnknownNames.{UnknownNames}
use Rattle.judging.specs.Single.{example_records}
use Rattle.judging.specs.Step.{Judged, judged}
use Rattle.judging.specs.declared.NotHeld.{NotHeld}
use Rattle.judging.specs.declared.NotHeld.TheVariants.{Failed, PastMillion}
use Rattle.run.specs.Complete.{complete_all, mark, nested_steps}
use Rattle.run.specs.declared.Report.{Report}
use Rattle.run.specs.declared.Verdict.{Verdict}
use Rattle.run.specs.declared.Verdict.TheVariants.{Accepted, Violated, Refused}

-- ---- the verdict in document 01's words: `violated` with table line and time, `refused` with number and place

pub data Said : Type 0 where
  accepted : Said
  violated : (line time : ℕ) → Said
  refused : (number place : ℕ) → Said

abbrev pub said : Verdict → Said
said Accepted = accepted
said (Violated line time) = violated line.0 time.0
said (Refused r) = refused (number_of r.limit) r.place.0

-- the claim: no two verdicts in code have one meaning
abbrev pub SaidDetermines : Type 0
SaidDetermines = (v w : Verdict) → said v ≡ said w → v ≡ w

-- what a run gives: verdict, number of accepted steps, number of constraints, configuration
pub record Told : Type 0 where
  pub said : Said
  pub steps : ℕ
  pub constraints : ℕ
  pub configuration : Configuration

abbrev pub told : Report → Told
told r = record { said = said r.verdict; steps = r.steps.0; constraints = r.constraints; configuration = r.configuration }

-- ---- judging the steps of a recording

-- the table line of the record at a place, from 1
abbrev pub line_of : List Constraint → Place → ℕ
line_of rs p = (get_or rs (p.0 - 1) empty).line.0

-- once every step was accepted, the verdict is how reading ended
abbrev pub ending_said : Ending → Said
ending_said ended = accepted
ending_said (refused_at l p) = refused (number_of l) p

-- how judging ends: the verdict, the number of accepted steps, and the configuration after them
pub record Judging : Type 0 where
  pub said : Said
  pub steps : ℕ
  pub configuration : Configuration

-- n steps were accepted; in a whole run 51 has the step's mark offset as its place
unfoldable pub after_step : List Constraint → (n : ℕ) → Step → Result (Unit {0}) NotHeld → (before after : Configuration) → (Configuration → Judging) → Judging
after_step rs n s (Ok u) b a onward = onward a
after_step rs n s (Err (Failed p)) b a onward = record { said = violated (line_of rs p) s.time.0; steps = n; configuration = b }
after_step rs n s (Err (PastMillion p)) b a onward = record { said = refused (number_of Million) s.mark.0; steps = n; configuration = b }

unfoldable pub judge_all : List Constraint → (n : ℕ) → Configuration → List Step → Ending → Judging
judge_all rs n c [] e = record { said = ending_said e; steps = n; configuration = c }
judge_all rs n c (s ∷ ss) e =
    let j : Judged = judged (bits s.ticks) rs c in
    after_step rs n s j.outcome c j.configuration (λ d. judge_all rs (suc n) d ss e)

-- ---- the run

-- a table's constraints, and the start words of 64 slots, those behind the constraints being empty
abbrev pub records_of : Table → List Constraint
records_of = constraints_in

abbrev pub start_of : Table → Configuration
start_of t = record { words = start_words (slots 64 (records_of t)) }

abbrev pub zeros : Configuration
zeros = record { words = replicate 64 (word (pos 0)) }

abbrev pub ran : (constraints : ℕ) → Judging → Told
ran n j = record { said = j.said; steps = j.steps; constraints = n; configuration = j.configuration }

-- the table that a text is read as
abbrev pub table_of : List ℕ → Table
table_of t = (table.read_table t).table

-- the recording as read with the table's names, and a choice what becomes of others (document 02, M-103): what was recorded
abbrev pub recorded_by : (table recording : List ℕ) → UnknownNames → Reading
recorded_by t r u = reading (naming_in t (table_of t).names u) r

-- the steps of a reading with the ticks of implicit clocks, from the start words on
abbrev pub completed_for : Table → Reading → Reading
completed_for b g = record { steps = complete_all (clocks_in b).named (records_of b) (start_of b).words g.steps; ending = g.ending }

abbrev pub reading_by : (table recording : List ℕ) → UnknownNames → Reading
reading_by t r u = completed_for (table_of t) (recorded_by t r u)

-- the run of what was read by a table
abbrev pub run_table : Table → Reading → Told
run_table b g = ran (length (records_of b)) (judge_all (records_of b) 0 (start_of b) g.steps g.ending)

-- a refused table: no records, 64 zero words, 0 steps
unfoldable pub with_table : table.Said → (run : Told) → Told
with_table table.read d = d
with_table (table.refused n p) d = record { said = refused n p; steps = 0; constraints = 0; configuration = zeros }

abbrev pub run_of : (table recording : List ℕ) → UnknownNames → Told
run_of t r u = with_table (table.read_table t).said (run_table (table_of t) (reading_by t r u))

-- ---- document 01's example: #0 req; #3; #5 ack and req; #8 ack and done; #9 req and ack. It prints `violated 1 9`, `steps 4`, `config 0 0`

abbrev from : (w v : ℤ) → Configuration
from w v = record { words = word w ∷ word v ∷ [] }

example_run :
    judge_all example_records 0 (from (pos 0) (pos 2)) (mark 0 1 ∷ mark 3 0 ∷ mark 5 3 ∷ mark 8 6 ∷ mark 9 3 ∷ []) ended
    ≡ record { said = violated 1 9; steps = 4; configuration = from (pos 0) (pos 0) }
unfolding judge_all after_step judged
example_run = refl

-- its first four steps, and a recording that is refused behind them
four_steps : (judge_all example_records 0 (from (pos 0) (pos 2)) (mark 0 1 ∷ mark 3 0 ∷ mark 5 3 ∷ mark 8 6 ∷ []) (refused_at BodyWord 77)).said ≡ refused 40 77
unfolding judge_all after_step judged
four_steps = refl

-- ---- document 02's nested line: it prints `violated 1 7`, `steps 4`, `config 0 0 0`

nested_run :
    judge_all nested_records 0 (record { words = start_words nested_records }) (complete_all 4 nested_records (start_words nested_records) nested_steps) ended
    ≡ record { said = violated 1 7; steps = 4; configuration = record { words = replicate 3 (word (pos 0)) } }
unfolding judge_all after_step judged complete_all
nested_run = refl
