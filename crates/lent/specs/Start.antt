-- Where single steps begin: the start words of a list of records, where limit 59 lets it pass (document 01, "Table text", its third column, and
-- "Where each refusal is checked", 59; document 02, M-101). Assumes nothing.
use Rattle.std.specs.Prelude.{Result, Ok, Err, ◌≡◌, refl, List, ◌∷◌, ℕ, ◌<◌, ◌^◌, pos, replicate, Option, None, Some}
use Rattle.limit.specs.Limit.{number_of}
use Rattle.limit.specs.declared.Limit.TheVariants.{Records}
use Rattle.limit.specs.declared.Place.{Place}
use Rattle.limit.specs.declared.Refusal.{Refusal}
use Rattle.constraint.specs.Implicit.{nested_clocks, nested_records}
use Rattle.constraint.specs.Lists.{counting, broken_record, slots, start_words}
use Rattle.constraint.specs.Meaning.{word}
use Rattle.constraint.specs.declared.Clocks.{Clocks}
use Rattle.constraint.specs.declared.Configuration.{Configuration}
use Rattle.constraint.specs.declared.Constraint.{Constraint}
use Rattle.judging.specs.Answers.{Passes}
use Rattle.judging.specs.Single as single
use Rattle.judging.specs.Single.{step_of, example_records}
use Rattle.lent.specs.declared.Monitor.{Monitor}

-- ---- the answer in document 01's words: the records have start words, or `refused` with number and place

pub data StartSaid : Type 0 where
  started : StartSaid
  refused : (number place : ℕ) → StartSaid

pub record StartTold : Type 0 where
  pub said : StartSaid
  pub configuration : Configuration

-- where there is no monitor the words are zeros
abbrev pub zeros : Configuration
zeros = record { words = replicate 64 (word (pos 0)) }

abbrev pub start_told : Result Monitor Refusal → StartTold
start_told (Ok m) = record { said = started; configuration = m.configuration }
start_told (Err r) = record { said = refused (number_of r.limit) r.place.0; configuration = zeros }

-- the claim: no two values of the answer in code have one meaning
abbrev pub StartSaidDetermines : Type 0
StartSaidDetermines = (x y : Result Monitor Refusal) → start_told x ≡ start_told y → x ≡ y

-- ---- 59, with 64 zero words; else the start word of each record, the rest 0, which is the start word of an empty slot

abbrev pub start_at : Option Place → List Constraint → StartTold
start_at None rs = record { said = started; configuration = record { words = start_words (slots 64 rs) } }
start_at (Some p) rs = record { said = refused (number_of Records) p.0; configuration = zeros }

unfoldable pub start_of : Clocks → List Constraint → StartTold
start_of clocks rs = start_at (broken_record clocks rs) rs

-- ---- the claims: 59, 60 and 61 let a step of named clocks pass from the start words; and where a start is refused, so is every step

pub record Starts (clocks : Clocks) (rs : List Constraint) : Type 0 where
  pub passes : (start_of clocks rs).said ≡ started → (f : ℕ) → f < 2 ^ clocks.named → Passes clocks rs (start_of clocks rs).configuration.words f
  pub refuses : (n p : ℕ) → (start_of clocks rs).said ≡ refused n p → (c : Configuration) (f : ℕ) → (step_of clocks rs c f).said ≡ single.refused n p

abbrev pub EveryStart : Type 0
EveryStart = (clocks : Clocks) (rs : List Constraint) → Starts clocks rs

-- ---- document 01's example table, `req strictly precedes ack` and `done clockDef await 2 ack`: its start words are 0 2

example_starts : start_of (counting 3) example_records ≡ record { said = started; configuration = record { words = word (pos 0) ∷ word (pos 2) ∷ replicate 62 (word (pos 0)) } }
unfolding start_of
example_starts = refl

-- on two clocks there is no `done`
two_clocks : start_of (counting 2) example_records ≡ record { said = refused 59 2; configuration = record { words = replicate 64 (word (pos 0)) } }
unfolding start_of
two_clocks = refl

-- ---- document 02's nested line: its start words are 0 1 0

nested_starts : start_of nested_clocks nested_records ≡ record { said = started; configuration = record { words = word (pos 0) ∷ word (pos 1) ∷ replicate 62 (word (pos 0)) } }
unfolding start_of
nested_starts = refl
