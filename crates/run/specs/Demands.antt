-- The three demands on the checker, each in the words of the person that it is built for, and as a claim over the definitions alone. t is a table, r a
-- recording, u the choice what becomes of a variable whose name the table lacks: the demands hold for both (document 02, M-103). The claims on
-- the single step and on the same-place question are those of the crates `judging` and `constraint`, by name. The proofs stand in
-- proofs/Demands. Assumes nothing.
use Rattle.std.specs.Prelude.{◌≡◌, false, ◌↔◌, List, ◌∷◌, ◌++◌, ℕ}
use Rattle.limit.specs.Limit.{number_of}
use Rattle.limit.specs.declared.Limit.TheVariants.{VariableUnknown}
use Rattle.constraint.specs.Implicit.{defines_implicit}
use Rattle.constraint.specs.SamePlace.{SamePlaceRefused, SamePlaceMeant}
use Rattle.constraint.specs.declared.Constraint.{Constraint}
use Rattle.grammar.specs.Building.{clocks_in}
use Rattle.forms.specs.Lines.{TableRefuses, TableReads}
use Rattle.table.specs.Claims.{ReadAs}
use Rattle.recording.specs.declared.Step.{Step}
use Rattle.recording.specs.declared.UnknownNames.{UnknownNames}
use Rattle.recording.specs.declared.UnknownNames.TheVariants.{Refused, Ignored}
use Rattle.judging.specs.Answers.{EveryStepAnswers}
use Rattle.run.specs.Judgement.{Accepted, FirstWithout, HoldsAt, Judges}
use Rattle.run.specs.Refusals.{RunRefuses}
use Rattle.run.specs.Run as run

-- 1. Exactly when a table, a recording as far as it is read, a configuration or a tick set breaks one of document 01's limits, the call ends
-- with that limit's number and place. A whole run then gives the configuration after its last accepted step (demand 2 says which that is), or
-- all zeros where the table was refused; a single step gives back the one it was handed.
pub record Demand1 : Type 0 where
  pub run_refused : (t r : List ℕ) (u : UnknownNames) (n p : ℕ) → (run.run_of t r u).said ≡ run.refused n p ↔ RunRefuses t r u n p
  pub table_refused : (t r : List ℕ) (u : UnknownNames) (n p : ℕ) → TableRefuses t n p
      → run.run_of t r u ≡ record { said = run.refused n p; steps = 0; constraints = 0; configuration = run.zeros }
  pub step_answers : EveryStepAnswers
  pub same_place_refused : SamePlaceRefused

-- 2. Unless a refusal comes first, a recording is accepted up to the first step at which some constraint fails under the operational rules as
-- document 01 fixes them. The failing constraint highest in the table is named. After each accepted step every word of the configuration is
-- what those rules give. (The constraints are the forms of the table's lines; the ticks of a step are the recorded ones, and those of implicit
-- clocks that it works out.)
abbrev pub Demand2 : Type 0
Demand2 = (t r : List ℕ) (u : UnknownNames) → TableReads t → ReadAs t (run.table_of t) × Judges (run.table_of t) (run.reading_by t r u) (run.run_of t r u)

-- A violation never names the definition of an implicit clock: the first constraint that fails in the step after accepted ones defines none.
abbrev pub NeverImplicit : Type 0
NeverImplicit =
    (t r : List ℕ) (u : UnknownNames) (accepted later : List Step) (s : Step) (c : Constraint)
    → TableReads t
    → (run.reading_by t r u).steps ≡ accepted ++ s ∷ later
    → Accepted (run.table_of t).records accepted
    → FirstWithout (HoldsAt accepted s) (run.table_of t).records c
    → defines_implicit (clocks_in (run.table_of t)).named c ≡ false

-- Where the run that refuses unknown names does not answer 38, it is the run that ignores them (document 02, M-103).
abbrev pub ChoicesAgree : Type 0
ChoicesAgree = (t r : List ℕ) → ((p : ℕ) → (run.run_of t r Refused).said ≡ run.refused (number_of VariableUnknown) p → ⊥) → run.run_of t r Refused ≡ run.run_of t r Ignored

-- 3. For every table and every two configurations of it, each with all words in range, whether or not a run can reach them, the same-place
-- question says yes exactly when, for every constraint judged by itself and for every continuation, the constraint accepts it from both or from
-- neither. Where it says no, some constraint accepts some continuation from one of the two and not from the other.
abbrev pub Demand3 : Type 0
Demand3 = SamePlaceMeant
