-- One step of all records: document 01, "Table text", "Where each refusal is checked" and "Tempting, and wrong". Every record is judged,
-- and every word moved, with the words from before the step. Assumes nothing.
use Rattle.std.specs.Prelude.{List, [], ◌∷◌, ℕ, Option, None, Some, Ok, Err, Result}
use Rattle.limit.specs.declared.Place.{Place}
use Rattle.constraint.specs.Lists.{first_not}
use Rattle.constraint.specs.Meaning.{holds, next_word}
use Rattle.constraint.specs.Million.{first_past}
use Rattle.constraint.specs.Ticks.{Ticks}
use Rattle.constraint.specs.declared.Configuration.{Configuration}
use Rattle.constraint.specs.declared.Constraint.{Constraint}
use Rattle.constraint.specs.declared.Word.{Word}
use Rattle.judging.specs.declared.NotHeld.{NotHeld}
use Rattle.judging.specs.declared.NotHeld.TheVariants.{Failed, PastMillion}

-- a step as judged: whether every record holds and no word leaves its million, and the configuration after it, or the one before it
pub record Judged : Type 0 where
  pub outcome : Result (Unit {0}) NotHeld
  pub configuration : Configuration

abbrev pub judged_as : Result (Unit {0}) NotHeld → Configuration → Judged
judged_as r c = record { outcome = r; configuration = c }

abbrev pub left : (before : Configuration) → Result Configuration NotHeld → Judged
left before (Ok after) = judged_as (Ok tt) after
left before (Err r) = judged_as (Err r) before

-- the first record that does not hold, the first of these having the place i
abbrev pub first_failing : Ticks → (i : ℕ) → List Constraint → List Word → Option Place
first_failing F = first_not (λ r w. holds r w F)

-- every word after the step; those beyond the records stay
abbrev pub moved : Ticks → List Constraint → List Word → List Word
moved F [] ws = ws
moved F (r ∷ rs) [] = []
moved F (r ∷ rs) (w ∷ ws) = next_word r w F ∷ moved F rs ws

abbrev pub handed_back : (Place → NotHeld) → Option Place → Configuration → Judged → Judged
handed_back stop None c j = j
handed_back stop (Some p) c j = record { outcome = Err (stop p); configuration = c }

-- the first record that fails; 51, after every constraint held, the first whose word would leave its million; else every word moves
unfoldable pub judged : Ticks → List Constraint → Configuration → Judged
judged F rs c =
    handed_back Failed (first_failing F 1 rs c.words) c
    (handed_back PastMillion (first_past 1 rs (moved F rs c.words)) c
    (record { outcome = Ok tt; configuration = record { words = moved F rs c.words } }))
