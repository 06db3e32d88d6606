-- Which numbers stand in a list, in two joined, in one without a number; and of numbers that rise, the first that passes a test is the lowest.
-- Assumes nothing.
use mathlib.Core.Path.{◌≡◌, refl, sym, ap, ◌∙◌}
use mathlib.Core.Logic.{◌⊎◌, inl, inr, ⊎_elim}
use mathlib.Core.Bool.{Bool, true, false, not, cond, ◌&&◌, ◌||◌, false≢true, or_assoc, or-true, and-false}
use mathlib.Core.List.{List, [], ◌∷◌, ◌++◌}
use Prim.Native.Nat.{ℕ, suc, ◌+◌, ◌<◌, ◌≤◌}
use native.Mathlib.Omega.{arith}
use borrow.Author.Tests.{eqb-true, eqb-false, eq-eqb, ne_eqb, not-true}
use lib.Dec.{eqb}
use lib.ListN.{length}
use Rattle.constraint.specs.Meaning.{among, distinct}
use Rattle.constraint.specs.Ticks.{any, bit}
use Rattle.constraint.proofs.Booleans.{and_l, and_r, never}
use Rattle.order.specs.Rests.{Links, Lowest, nothing, is, Stands, lowest, without}

-- ---- where a number stands

pub head_stands : (i : ℕ) (xs : List ℕ) → Stands i (i ∷ xs)
head_stands i xs = rw (eq-eqb i i refl)

pub tail_stands : (i x : ℕ) (xs : List ℕ) → Stands i xs → Stands i (x ∷ xs)
tail_stands i x xs s = rw s (or-true (eqb i x))

pub head_or_tail : (i x : ℕ) (xs : List ℕ) → Stands i (x ∷ xs) → (i ≡ x) ⊎ Stands i xs
head_or_tail i x xs s = go (eqb i x) refl s
  where
    go : (t : Bool) → eqb i x ≡ t → (t || among i xs) ≡ true → (i ≡ x) ⊎ Stands i xs
    go true e s = inl (eqb-true i x e)
    go false e s = inr s

pub among_joined : (i : ℕ) (xs ys : List ℕ) → among i (xs ++ ys) ≡ (among i xs || among i ys)
among_joined i [] ys = refl
among_joined i (x ∷ xs) ys = rw (among_joined i xs ys) (sym (or_assoc (eqb i x) (among i xs) (among i ys)))

pub stands_between : (i : ℕ) (before later : List ℕ) → Stands i (before ++ i ∷ later)
stands_between i before later = rw (among_joined i before (i ∷ later), head_stands i later) (or-true (among i before))

-- what stands in a list parts it
pub split : (i : ℕ) (xs : List ℕ) → Stands i xs → (before later : List ℕ) × (xs ≡ before ++ i ∷ later)
split i [] s = absurd (false≢true s)
split i (x ∷ xs) s =
    ⊎_elim
    (λ e. ([], xs, ap (λ (y : ℕ). y ∷ xs) (sym e)))
    (λ t. let r = split i xs t in (x ∷ r.0, r.1, ap (λ (ys : List ℕ). x ∷ ys) r.2))
    (head_or_tail i x xs s)

-- in a list with no number twice, one stands at one place only
pub once_only : (i : ℕ) (before later : List ℕ) → distinct (before ++ i ∷ later) ≡ true → Stands i before → ⊥
once_only i [] later d s = false≢true s
once_only i (x ∷ before) later d s =
    ⊎_elim
    (λ e. never (among x (before ++ i ∷ later)) true (rw (← e) (stands_between i before later)) (not-true _ (and_l _ _ d)))
    (once_only i before later (and_r (not (among x (before ++ i ∷ later))) _ d))
    (head_or_tail i x before s)

-- ---- a test of some of a list

pub any_one : (F : ℕ → Bool) (xs : List ℕ) → any F xs ≡ true → (j : ℕ) × Stands j xs × (F j ≡ true)
any_one F [] e = absurd (false≢true e)
any_one F (x ∷ xs) e = go (F x) refl e (any_one F xs)
  where
    go : (t : Bool) → F x ≡ t → (t || any F xs) ≡ true → (any F xs ≡ true → (j : ℕ) × Stands j xs × (F j ≡ true)) → (j : ℕ) × Stands j (x ∷ xs) × (F j ≡ true)
    go true q e ih = (x, head_stands x xs, q)
    go false q e ih = let r = ih e in (r.0, tail_stands r.0 x xs r.1, r.2)

pub one_any : (F : ℕ → Bool) (j : ℕ) (xs : List ℕ) → Stands j xs → F j ≡ true → any F xs ≡ true
one_any F j [] s e = absurd (false≢true s)
one_any F j (x ∷ xs) s e = ⊎_elim (λ q. rw (← q, e)) (λ t. rw (one_any F j xs t e) (or-true (F x))) (head_or_tail j x xs s)

-- ---- without a number

pub among_without : (k i : ℕ) (xs : List ℕ) → among k (without i xs) ≡ (among k xs && not (eqb k i))
among_without k i [] = refl
among_without k i (x ∷ xs) = go (eqb i x) (eqb k x) refl refl (among_without k i xs)
  where
    apart : (y z : Bool) → (y && not z) ≡ ((z || y) && not z)
    apart y true = and-false y
    apart y false = refl

    go : (s t : Bool) → eqb i x ≡ s → eqb k x ≡ t → among k (without i xs) ≡ (among k xs && not (eqb k i))
        → among k (cond s (without i xs) (x ∷ without i xs)) ≡ ((t || among k xs) && not (eqb k i))
    go true t p q ih = ih ∙ rw (← q, ← eqb-true i x p) (apart (among k xs) (eqb k i))
    go false true p q ih = rw (q, ne_eqb k i (λ e. eqb-false i x p (sym e ∙ eqb-true k x q)))
    go false false p q ih = rw q ih

-- a list is shorter without a number that stands in it
pub shorter : (i : ℕ) (xs : List ℕ) → length (without i xs) + bit (among i xs) ≤ length xs
shorter i [] = omega arith
shorter i (x ∷ xs) = go (eqb i x) (shorter i xs)
  where
    go : (t : Bool) → length (without i xs) + bit (among i xs) ≤ length xs → length (cond t (without i xs) (x ∷ without i xs)) + bit (t || among i xs) ≤ suc (length xs)
    go true h = omega arith
    go false h = omega arith

-- ---- numbers that rise, and that rest on some of them alone

abbrev pub Rises : List ℕ → Type 0
Rises [] = Unit {0}
Rises (i ∷ ds) = ((j : ℕ) → Stands j ds → i < j) × Rises ds

abbrev pub Within : Links → List ℕ → Type 0
Within R ds = (i j : ℕ) → R i j ≡ true → Stands j ds

pub rising_without : (i : ℕ) (xs : List ℕ) → Rises xs → Rises (without i xs)
rising_without i [] r = tt
rising_without i (x ∷ xs) r = go (eqb i x) (rising_without i xs r.1)
  where
    go : (t : Bool) → Rises (without i xs) → Rises (cond t (without i xs) (x ∷ without i xs))
    go true h = h
    go false h = (λ j s. r.0 j (and_l (among j xs) _ (sym (among_without j i xs) ∙ s)), h)

-- what the first that passes a test is, of numbers that rise
abbrev pub FirstIs : (test : ℕ → Bool) → List ℕ → Lowest → Type 0
FirstIs test xs nothing = (k : ℕ) → Stands k xs → test k ≡ false
FirstIs test xs (is i) = Stands i xs × (test i ≡ true) × ((k : ℕ) → Stands k xs → test k ≡ true → i ≤ k)

pub first_is : (test : ℕ → Bool) (xs : List ℕ) → Rises xs → FirstIs test xs (lowest test xs)
first_is test [] r = λ k s. absurd (false≢true s)
first_is test (x ∷ xs) r = go (test x) (lowest test xs) refl (first_is test xs r.1)
  where
    go : (t : Bool) (l : Lowest) → test x ≡ t → FirstIs test xs l → FirstIs test (x ∷ xs) (cond t (is x) l)
    go true l e h = (head_stands x xs, e, λ k s f. ⊎_elim (λ q. omega arith) (λ t. omega (arith, r.0 k t)) (head_or_tail k x xs s))
    go false nothing e h = λ k s. ⊎_elim (λ q. ap test q ∙ e) (h k) (head_or_tail k x xs s)
    go false (is i) e h = (tail_stands i x xs h.0, h.1, λ k s f. ⊎_elim (λ q. absurd (never (test k) true f (ap test q ∙ e))) (λ t. h.2 k t f) (head_or_tail k x xs s))
