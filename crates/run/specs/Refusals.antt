-- When a run is refused, and with which number and place: document 01, "Where each refusal is checked". Of a table the crate `forms` says it, of
-- the calls on records `judging` and `constraint`. Assumes nothing.
use Rattle.std.specs.Prelude.{◌≡◌, List, ◌∷◌, ◌++◌, ℕ}
use Rattle.limit.specs.Limit.{number_of}
use Rattle.limit.specs.declared.Limit.{Limit}
use Rattle.limit.specs.declared.Limit.TheVariants.{Million}
use Rattle.constraint.specs.declared.Constraint.{Constraint}
use Rattle.forms.specs.Lines.{TableRefuses, TableReads}
use Rattle.recording.specs.Body.{refused_at}
use Rattle.recording.specs.declared.Step.{Step}
use Rattle.recording.specs.declared.UnknownNames.{UnknownNames}
use Rattle.run.specs.Judgement.{Accepted, Every, FirstWithout, HoldsAt, StaysAt}
use Rattle.run.specs.Run.{table_of, reading_by}

-- a run is refused: the table is; or every step that was read is accepted, and reading is refused; or a word leaves its million, that of a
-- constraint which defines an implicit clock too, 51
pub data RunRefuses (t r : List ℕ) (u : UnknownNames) : (number place : ℕ) → Type 0 where
  by_table : {n p : ℕ} → TableRefuses t n p → RunRefuses t r u n p
  by_reading : {l : Limit} {p : ℕ}
      → TableReads t
      → (reading_by t r u).ending ≡ refused_at l p
      → Accepted (table_of t).records (reading_by t r u).steps
      → RunRefuses t r u (number_of l) p
  by_million : (before later : List Step) (s : Step) (c : Constraint)
      → TableReads t
      → (reading_by t r u).steps ≡ before ++ s ∷ later
      → Accepted (table_of t).records before
      → Every (HoldsAt before s) (table_of t).records
      → FirstWithout (StaysAt before s) (table_of t).records c
      → RunRefuses t r u (number_of Million) s.mark.0
