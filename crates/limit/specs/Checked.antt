-- What a check comes to: a value, or the limit that is broken first and its place. Checks in their order are nested `refuse_if`s, a row of
-- document 01, "Where each refusal is checked", a line. Assumes nothing.
use Rattle.std.specs.Prelude.{◌≡◌, refl, Bool, true, false, ℕ, suc, Result, Ok, Err}
use Rattle.limit.specs.declared.Limit.{Limit}
use Rattle.limit.specs.declared.Limit.TheVariants.{LineByte, LineForm, NameLength}
use Rattle.limit.specs.declared.Refusal.{Refusal}

pub data Checked (A : Type 0) : Type 0 where
  passed : A → Checked A
  stopped : Limit → (place : ℕ) → Checked A

abbrev pub refuse_if : {A : Type 0} → Bool → Limit → (place : ℕ) → Checked A → Checked A
refuse_if true l p c = stopped l p
refuse_if false l p c = c

unfoldable pub and_then : {A B : Type 0} → Checked A → (A → Checked B) → Checked B
and_then (passed a) f = f a
and_then (stopped l p) f = stopped l p

-- what an answer in code stands for
abbrev pub checked : {A : Type 0} → Result A Refusal → Checked A
checked (Ok a) = passed a
checked (Err r) = stopped r.limit r.place.0

-- the first that is broken is told; what follows a value goes on with it
first_broken : refuse_if {A = ℕ} false LineByte 1 (refuse_if true LineForm 1 (refuse_if true NameLength 1 (passed 0))) ≡ stopped LineForm 1
first_broken = refl

goes_on_lem : and_then (passed 2) (λ (n : ℕ). passed (suc n)) ≡ passed 3
unfolding and_then
goes_on_lem = refl
