-- Of the code's shape: what a step starts from, and the step as a walk over records and words. Assumes nothing.
use Rattle.std.specs.Prelude.{◌≡◌, List, [], ◌∷◌, ℕ, suc, ◌≤◌, length, Option, Some, None, Result, Ok, Err}
use Rattle.std.specs.Option.{option_or}
use Rattle.limit.specs.declared.Place.{Place}
use Rattle.constraint.specs.Lists.{broken_record, broken_word}
use Rattle.constraint.specs.Look.{looked}
use Rattle.constraint.specs.Ticks.{Ticks}
use Rattle.constraint.specs.declared.Clocks.{Clocks}
use Rattle.constraint.specs.declared.Configuration.{Configuration}
use Rattle.constraint.specs.declared.Constraint.{Constraint}
use Rattle.constraint.specs.declared.Seen.{Seen}
use Rattle.constraint.specs.declared.Seen.TheVariants.{Out, Fails, Leaves, Moves}
use Rattle.constraint.specs.declared.Word.{Word}
use Rattle.judging.specs.declared.NotHeld.{NotHeld}
use Rattle.judging.specs.declared.NotHeld.TheVariants.{Failed, PastMillion}

-- there is room for the records, and limits 59 and 60 let them and the words pass
pub record Ready (clocks : Clocks) (records : List Constraint) (words : List Word) : Type 0 where
  pub room : length records ≤ 64
  pub fit : broken_record clocks records ≡ None
  pub inside : broken_word records words ≡ None

-- ---- the step as a walk over records and words

-- the word of a record put in front of what the records behind it come to
abbrev pub put : Word → Result (List Word) NotHeld → Result (List Word) NotHeld
put v (Ok ws) = Ok (v ∷ ws)
put v (Err e) = Err e

-- what the record at place p comes to, by what those behind it come to; past is the first place whose word left its million
abbrev pub turned : Seen → (p : Place) (past : Option Place) → (behind : Option Place → Result (List Word) NotHeld) → Result (List Word) NotHeld
turned Out p past behind = Err (Failed p)
turned Fails p past behind = Err (Failed p)
turned (Leaves v) p past behind = put v (behind (option_or past (Some p)))
turned (Moves v) p past behind = put v (behind past)

abbrev pub ended : (past : Option Place) → List Word → Result (List Word) NotHeld
ended (Some p) ws = Err (PastMillion p)
ended None ws = Ok ws

-- the words after a step, or why it is not taken, the first record having the place i
abbrev pub walked : Ticks → (i : ℕ) (past : Option Place) → List Constraint → List Word → Result (List Word) NotHeld
walked F i past [] ws = ended past ws
walked F i past (r ∷ rs) [] = ended past []
walked F i past (r ∷ rs) (w ∷ ws) = turned (looked r w F) (record { 0 = i }) past (λ b. walked F (suc i) b rs ws)

abbrev pub words_of : Result Configuration NotHeld → Result (List Word) NotHeld
words_of (Ok c) = Ok c.words
words_of (Err e) = Err e

-- what a walk that moves words where they stand leaves of them, where the step is taken
abbrev pub taken : Result (Unit {0}) NotHeld → List Word → Result Configuration NotHeld
taken (Ok u) ws = Ok (record { words = ws })
taken (Err e) ws = Err e
