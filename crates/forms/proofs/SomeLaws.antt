-- Some element of a list: none of an empty list, one of two lists, one of a list with one more at its end; and some that passes a test. Assumes
-- nothing.
use mathlib.Core.Path.{◌≡◌, refl}
use mathlib.Core.Logic.{◌↔◌, ◌⊎◌, inl, inr}
use mathlib.Core.Bool.{Bool, true, false, ◌||◌, false≢true}
use mathlib.Core.List.{List, [], ◌∷◌, ◌++◌}
use Prim.Native.Nat.{ℕ}
use native.Mathlib.Omega.{arith}
use Rattle.forms.specs.Lines.{Some, here, later}

pub or_true : (x : Bool) → (x || true) ≡ true
or_true true = refl
or_true false = refl

module _ {A : Type 0} (P : A → Type 0) where
  pub some_none : (xs : List A) → xs ≡ [] → Some P xs → ⊥
  some_none xs e (here h) = let z : ◌≡◌ {A = ℕ} 0 1 = cc in omega arith
  some_none xs e (later s) = let z : ◌≡◌ {A = ℕ} 0 1 = cc in omega arith

  some_first : (x : A) (xs : List A) → Some P (x ∷ xs) → P x ⊎ Some P xs
  some_first x xs (here h) = inl h
  some_first x xs (later s) = inr s

  -- ---- of one list behind another
  pub some_left : (xs ys : List A) → Some P xs → Some P (xs ++ ys)
  some_left _ ys (here h) = here h
  some_left _ ys (later {xs = xs} s) = later (some_left xs ys s)

  pub some_right : (xs ys : List A) → Some P ys → Some P (xs ++ ys)
  some_right [] ys s = s
  some_right (x ∷ xs) ys s = later (some_right xs ys s)

  -- ---- one more at the end
  module _ (x : A) where
    pub some_more : (xs : List A) → Some P xs → Some P (xs ++ x ∷ [])
    some_more xs = some_left xs (x ∷ [])

    pub some_last : (xs : List A) → P x → Some P (xs ++ x ∷ [])
    some_last xs h = some_right xs (x ∷ []) (here h)

    pub some_cases : (xs : List A) → Some P (xs ++ x ∷ []) → Some P xs ⊎ P x
    some_cases [] s = go (some_first x [] s)
      where
        go : P x ⊎ Some P [] → Some P [] ⊎ P x
        go (inl h) = inr h
        go (inr s) = inl s
    some_cases (y ∷ xs) s = go (some_first y (xs ++ x ∷ []) s) (some_cases xs)
      where
        later_case : Some P xs ⊎ P x → Some P (y ∷ xs) ⊎ P x
        later_case (inl s) = inl (later s)
        later_case (inr h) = inr h

        go : P y ⊎ Some P (xs ++ x ∷ []) → (Some P (xs ++ x ∷ []) → Some P xs ⊎ P x) → Some P (y ∷ xs) ⊎ P x
        go (inl h) ih = inl (here h)
        go (inr s) ih = later_case (ih s)

-- ---- an element that passes a test
abbrev pub any_of : {A : Type 0} → (A → Bool) → List A → Bool
any_of p [] = false
any_of p (x ∷ xs) = p x || any_of p xs

module _ {A : Type 0} (p : A → Bool) (P : A → Type 0) where
  any_some : ((x : A) → p x ≡ true → P x) → (xs : List A) → any_of p xs ≡ true → Some P xs
  any_some f [] e = absurd (false≢true e)
  any_some f (x ∷ xs) e = go (p x) refl e (any_some f xs)
    where
      go : (y : Bool) → p x ≡ y → (y || any_of p xs) ≡ true → (any_of p xs ≡ true → Some P xs) → Some P (x ∷ xs)
      go true q e ih = here (f x q)
      go false q e ih = later (ih e)

  some_any : ((x : A) → P x → p x ≡ true) → (xs : List A) → Some P xs → any_of p xs ≡ true
  some_any f _ (here {x = x} {xs = xs} h) = rw (f x h)
  some_any f _ (later {x = x} {xs = xs} s) = rw (some_any f xs s) (or_true (p x))

  pub some_row : ((x : A) → (p x ≡ true) ↔ P x) → (xs : List A) → (any_of p xs ≡ true) ↔ Some P xs
  some_row f xs = (any_some (λ x. (f x).0) xs, some_any (λ x. (f x).1) xs)
