-- A check that is broken, and one that is passed. Assumes nothing.
use mathlib.Core.Path.{◌≡◌}
use mathlib.Core.Bool.{Bool, true, false}
use Prim.Native.Nat.{ℕ}
use Rattle.limit.specs.Checked.{Checked, passed, stopped, refuse_if, and_then, checked}
use Rattle.std.specs.Prelude.{Result, Ok, Err}
use Rattle.limit.specs.declared.Limit.{Limit}
use Rattle.limit.specs.declared.Refusal.{Refusal}

module _ {A : Type 0} (x : Bool) (l : Limit) (p : ℕ) (c : Checked A) where
  pub refuses : x ≡ true → refuse_if x l p c ≡ stopped l p
  refuses e = rw e

  pub allows : x ≡ false → refuse_if x l p c ≡ c
  allows e = rw e

pub stays_stopped : {A B : Type 0} (c : Checked A) (f : A → Checked B) (l : Limit) (p : ℕ) → c ≡ stopped l p → and_then c f ≡ stopped l p
unfolding and_then
stays_stopped c f l p e = rw e

pub goes_to : {A B : Type 0} (c : Checked A) (f : A → Checked B) (a : A) → c ≡ passed a → and_then c f ≡ f a
unfolding and_then
goes_to c f a e = rw e

pub then_same : {A B : Type 0} (c d : Checked A) (f : A → Checked B) → c ≡ d → and_then c f ≡ and_then d f
then_same c d f e = rw e

-- what was read goes on, and what was refused is at its end
pub goes_on_lem : {A B : Type 0} (o : Result A Refusal) (a : A) (f : A → Checked B) → o ≡ Ok a → and_then (checked o) f ≡ f a
goes_on_lem o a f e = goes_to (checked o) f a (rw e)

pub ends_there : {A : Type 0} (o : Result A Refusal) (f : A → Checked A) (r : Refusal) → o ≡ Err r → and_then (checked o) f ≡ checked o
unfolding and_then
ends_there o f r e = rw e

-- an answer in code that breaks a limit
pub stops : {A : Type 0} (o : Result A Refusal) (l : Limit) (p : ℕ) → o ≡ Err (record { limit = l; place = record { 0 = p } }) → checked o ≡ stopped l p
stops o l p e = rw e
