-- What a single step answers, and when: refused, violated, accepted, each exactly then (document 01, "Where each refusal is checked", its last
-- three rows; document 02, M-101). The proofs stand in proofs/AnswerLaws. Assumes nothing.
use Rattle.std.specs.Prelude.{◌≡◌, true, false, ◌↔◌, List, ℕ, ◌+◌, ◌^◌, ◌<◌, ◌≤◌, pos, length, None, Some}
use Rattle.limit.specs.Limit.{number_of}
use Rattle.limit.specs.declared.Limit.TheVariants.{Records, ConfigurationWord, TickSet, Million}
use Rattle.limit.specs.declared.Place.{Place}
use Rattle.constraint.specs.Implicit.{defines_implicit}
use Rattle.constraint.specs.Lists.{broken_record, broken_word}
use Rattle.constraint.specs.Meaning.{word, holds, next_word}
use Rattle.constraint.specs.Million.{in_million}
use Rattle.constraint.specs.SamePlace.{record_at, word_at}
use Rattle.constraint.specs.Ticks.{Ticks}
use Rattle.constraint.specs.declared.Clocks.{Clocks}
use Rattle.constraint.specs.declared.Configuration.{Configuration}
use Rattle.constraint.specs.declared.Constraint.{Constraint}
use Rattle.constraint.specs.declared.Word.{Word}
use Rattle.judging.specs.Single.{all_ticks, step_of, accepted, violated, refused}

-- ---- one record and its word, by their index from 0

abbrev pub HasBoth : List Constraint → List Word → ℕ → Type 0
HasBoth rs ws i = (i < length rs) × (i < length ws)

-- record i allows the step with the ticks F; and its word after the step is within its million
abbrev pub Holds : List Constraint → List Word → (F : Ticks) → ℕ → Type 0
Holds rs ws F i = holds (record_at rs i) (word_at ws i) F ≡ true

abbrev pub Stays : List Constraint → List Word → (F : Ticks) → ℕ → Type 0
Stays rs ws F i = in_million (record_at rs i) (next_word (record_at rs i) (word_at ws i) F) ≡ true

-- all records do
abbrev pub All : List Constraint → List Word → (ℕ → Type 0) → Type 0
All rs ws P = (i : ℕ) → HasBoth rs ws i → P i

-- the record at a place, from 1, is the first that does not
pub record FirstNot (rs : List Constraint) (ws : List Word) (P : ℕ → Type 0) (place : ℕ) : Type 0 where
  pub index : ℕ
  pub at : place ≡ 1 + index
  pub there : HasBoth rs ws index
  pub before : (i : ℕ) → i < index → P i
  pub here : P index → ⊥

-- ---- when a step is refused, violated, accepted

-- 59, 60 and 61 let the step pass
pub record Passes (clocks : Clocks) (rs : List Constraint) (ws : List Word) (f : ℕ) : Type 0 where
  pub records : broken_record clocks rs ≡ None
  pub words : broken_word rs ws ≡ None
  pub ticks : f < 2 ^ clocks.named

-- refused: 59; 60; 61; and 51, after every constraint held; each where those before it are kept
pub data StepRefuses (clocks : Clocks) (rs : List Constraint) (ws : List Word) (f : ℕ) : (number place : ℕ) → Type 0 where
  by_records : {p : Place} → broken_record clocks rs ≡ Some p → StepRefuses clocks rs ws f (number_of Records) p.0
  by_words : {p : Place} → broken_record clocks rs ≡ None → broken_word rs ws ≡ Some p → StepRefuses clocks rs ws f (number_of ConfigurationWord) p.0
  by_ticks : broken_record clocks rs ≡ None → broken_word rs ws ≡ None → 2 ^ clocks.named ≤ f → StepRefuses clocks rs ws f (number_of TickSet) 0
  by_million : {p : ℕ} → Passes clocks rs ws f → All rs ws (Holds rs ws (all_ticks clocks rs ws f)) → FirstNot rs ws (Stays rs ws (all_ticks clocks rs ws f)) p
      → StepRefuses clocks rs ws f (number_of Million) p

-- violated: the record at this place is the first that fails
pub record StepViolates (clocks : Clocks) (rs : List Constraint) (ws : List Word) (f place : ℕ) : Type 0 where
  pub passes : Passes clocks rs ws f
  pub fails : FirstNot rs ws (Holds rs ws (all_ticks clocks rs ws f)) place

-- accepted: every constraint holds, and no word leaves its million
pub record StepAccepts (clocks : Clocks) (rs : List Constraint) (ws : List Word) (f : ℕ) : Type 0 where
  pub passes : Passes clocks rs ws f
  pub hold : All rs ws (Holds rs ws (all_ticks clocks rs ws f))
  pub stay : All rs ws (Stays rs ws (all_ticks clocks rs ws f))

-- ---- the claims: exactly then; the record that a violated step names never defines an implicit clock; what is not accepted hands back the
-- configuration that it was given; what is accepted moves every word by the rules, and leaves those beyond the records 0

pub record StepAnswers (clocks : Clocks) (rs : List Constraint) (c : Configuration) (f : ℕ) : Type 0 where
  pub refuses : (n p : ℕ) → (step_of clocks rs c f).said ≡ refused n p ↔ StepRefuses clocks rs c.words f n p
  pub violates : (p : ℕ) → (step_of clocks rs c f).said ≡ violated p ↔ StepViolates clocks rs c.words f p
  pub accepts : (step_of clocks rs c f).said ≡ accepted ↔ StepAccepts clocks rs c.words f
  pub never_implicit : (i : ℕ) → (step_of clocks rs c f).said ≡ violated (1 + i) → defines_implicit clocks.named (record_at rs i) ≡ false
  pub given_back : ((step_of clocks rs c f).said ≡ accepted → ⊥) → (step_of clocks rs c f).configuration ≡ c
  pub moves : (step_of clocks rs c f).said ≡ accepted → (i : ℕ) → i < length c.words
      → word_at (step_of clocks rs c f).configuration.words i ≡ next_word (record_at rs i) (word_at c.words i) (all_ticks clocks rs c.words f)
  pub beyond : (step_of clocks rs c f).said ≡ accepted → (i : ℕ) → length rs ≤ i → word_at (step_of clocks rs c f).configuration.words i ≡ word (pos 0)

abbrev pub EveryStepAnswers : Type 0
EveryStepAnswers = (clocks : Clocks) (rs : List Constraint) (c : Configuration) (f : ℕ) → StepAnswers clocks rs c f
