-- What the demands say of a run, in their words: one record through a list of steps, how judging ends, and two recordings of one exercise. A
-- step of a run has the ticks of implicit clocks too. Assumes nothing.
use Rattle.std.specs.Prelude.{◌≡◌, true, cond, List, [], ◌∷◌, ◌++◌, map, ℕ, suc, eqb, length, take}
use Rattle.limit.specs.Limit.{number_of}
use Rattle.limit.specs.declared.Limit.TheVariants.{Million}
use Rattle.limit.specs.declared.Place.{Place}
use Rattle.constraint.specs.Lists.{slots}
use Rattle.constraint.specs.Meaning.{holds, next_word, start}
use Rattle.constraint.specs.Ticks.{bits}
use Rattle.constraint.specs.declared.Configuration.{Configuration}
use Rattle.constraint.specs.declared.Constraint.{Constraint}
use Rattle.constraint.specs.declared.Word.{Word}
use Rattle.grammar.specs.Building.{clocks_in}
use Rattle.grammar.specs.declared.Table.{Table}
use Rattle.recording.specs.Body.{Ending, Reading}
use Rattle.recording.specs.declared.Step.{Step}
use Rattle.constraint.specs.Million.{in_million}
use Rattle.judging.specs.Single as single
use Rattle.judging.specs.Single.{StepTold, step_of}
use Rattle.run.specs.Complete.{as_recorded}
use Rattle.run.specs.Run.{Said, accepted, violated, refused, Told, line_of, ending_said, records_of}

-- ---- one record through a list of steps

-- the record's start word, moved by the rules through the steps, one after the other
abbrev pub moved_by : Constraint → Word → List Step → Word
moved_by r w [] = w
moved_by r w (s ∷ ss) = moved_by r (next_word r w (bits s.ticks)) ss

abbrev pub word_after : List Step → Constraint → Word
word_after ss r = moved_by r (start r) ss

-- a step after others: the record holds, with its word from before the step; and its word after the step is within its million
abbrev pub HoldsAt : (before : List Step) → Step → Constraint → Type 0
HoldsAt before s r = holds r (word_after before r) (bits s.ticks) ≡ true

abbrev pub StaysAt : (before : List Step) → Step → Constraint → Type 0
StaysAt before s r = in_million r (word_after (before ++ s ∷ []) r) ≡ true

pub data Every {A : Type 0} (P : A → Type 0) : List A → Type 0 where
  none : Every P []
  more : {x : A} {xs : List A} → P x → Every P xs → Every P (x ∷ xs)

-- the first of a list that has no P, all before it having P
pub record FirstWithout {A : Type 0} (P : A → Type 0) (xs : List A) (x : A) : Type 0 where
  pub earlier : List A
  pub later : List A
  pub place : xs ≡ earlier ++ x ∷ later
  pub before : Every P earlier
  pub here : P x → ⊥

-- ---- how judging a recording ends

-- every record holds in every step of a list, and no word leaves its million
abbrev pub Accepted : List Constraint → List Step → Type 0
Accepted rs ss = (before after : List Step) (s : Step) → ss ≡ before ++ s ∷ after → Every (HoldsAt before s) rs × Every (StaysAt before s) rs

-- what ends a run: the end of what was read; or the first step after the accepted ones, in which a record, the first that does in table
-- order, fails; or in which every record holds and a word leaves its million, 51
pub data Ends (rs : List Constraint) (ending : Ending) (accepted : List Step) : List Step → Said → Type 0 where
  at_end : Ends rs ending accepted [] (ending_said ending)
  fails : {s : Step} {later : List Step} {r : Constraint} → FirstWithout (HoldsAt accepted s) rs r → Ends rs ending accepted (s ∷ later) (violated r.line.0 s.time.0)
  past : {s : Step} {later : List Step} {r : Constraint} → Every (HoldsAt accepted s) rs → FirstWithout (StaysAt accepted s) rs r → Ends rs ending accepted (s ∷ later) (refused (number_of Million) s.mark.0)

-- ---- the same, in terms of the single step

-- the configuration after accepted steps
abbrev pub after : Table → List Step → Configuration
after b ss = record { words = map (word_after ss) (slots 64 (records_of b)) }

-- a step of the run, asked as a single step on the table's records: it is handed as it was recorded, and works out the other ticks itself
abbrev pub step_on : Table → Configuration → Step → StepTold
step_on b c s = step_of (clocks_in b) (records_of b) c (as_recorded (clocks_in b).named s).ticks

-- the step that stops a run is violated, and the run names the line of its record; or 51, and the run names the step's mark
pub data Stops (b : Table) (c : Configuration) (s : Step) : Said → Type 0 where
  by_record : {p : Place} → step_on b c s ≡ record { said = single.violated p.0; configuration = c } → Stops b c s (violated (line_of (records_of b) p) s.time.0)
  by_million : {p : Place} → step_on b c s ≡ record { said = single.refused (number_of Million) p.0; configuration = c } → Stops b c s (refused (number_of Million) s.mark.0)

-- each accepted step, from the words after those before it, is accepted and leaves the words after it; and so for the step that stops the run
pub record SingleSteps (b : Table) (accepted left : List Step) (said : Said) : Type 0 where
  pub each : (before later : List Step) (s : Step) → accepted ≡ before ++ s ∷ later → step_on b (after b before) s ≡ record { said = single.accepted; configuration = after b (before ++ s ∷ []) }
  pub stop : (later : List Step) (s : Step) → left ≡ s ∷ later → Stops b (after b accepted) s said

-- ---- of a run

-- a recording is accepted up to the first step at which some constraint fails, the one highest in the table is named, and after each accepted
-- step, the last among them, every word is what the rules give
pub record Judges (b : Table) (g : Reading) (told : Told) : Type 0 where
  pub accepted : List Step
  pub left : List Step
  pub steps : g.steps ≡ accepted ++ left
  pub held : Accepted b.records accepted
  pub ends : Ends b.records g.ending accepted left told.said
  pub count : told.steps ≡ length accepted
  pub constraints : told.constraints ≡ length (records_of b)
  pub words : told.configuration ≡ after b accepted
  pub single : SingleSteps b accepted left told.said

-- ---- two recordings of one exercise

-- the steps in which something ticks: of each its time, as `stamp` has it, and its tick set
abbrev pub ticking : (stamp : ℕ → ℕ) → List Step → List (ℕ × ℕ)
ticking stamp [] = []
ticking stamp (s ∷ ss) = cond (eqb s.ticks 0) (ticking stamp ss) ((stamp s.time.0, s.ticks) ∷ ticking stamp ss)

-- the recorded time, and no time
abbrev pub timed : ℕ → ℕ
timed t = t

abbrev pub untimed : ℕ → ℕ
untimed t = 0

-- a verdict with its time so stamped, and without the place of a refusal
abbrev pub bare : (stamp : ℕ → ℕ) → Said → Said
bare stamp accepted = accepted
bare stamp (violated l t) = violated l (stamp t)
bare stamp (refused n p) = refused n 0

-- both are accepted, or violated at the same line and time, or both stopped by 51; the steps in which something ticks, up to and with the one
-- that stops them, are the same; the words are equal
pub record SameExercise (stamp : ℕ → ℕ) (g h : Reading) (one other : Told) : Type 0 where
  pub verdict : bare stamp one.said ≡ bare stamp other.said
  pub steps : ticking stamp (take (suc one.steps) g.steps) ≡ ticking stamp (take (suc other.steps) h.steps)
  pub configuration : one.configuration ≡ other.configuration
