-- Different numbers below n are at most n. Assumes nothing.
use mathlib.Core.Path.{◌≡◌, refl, ap}
use mathlib.Core.Bool.{Bool, true, false, not, cond}
use mathlib.Core.List.{List, [], ◌∷◌}
use Prim.Native.Nat.{ℕ, zero, suc, ◌<◌, ◌≤◌}
use native.Mathlib.Omega.{arith}
use borrow.Author.Tests.{ltb-true, lt-ltb, eqb-true, eqb-false, not-true}
use lib.Dec.{ltb, eqb}
use lib.ListN.{length}
use Rattle.constraint.specs.Meaning.{all_below, among, distinct}
use Rattle.constraint.proofs.Booleans.{and_l, and_r, or_l, or_r}
use Rattle.order.specs.Rests.{without}
use Rattle.order.proofs.Standing.{among_without}

-- the first of different numbers, and the others
pub first_new : (x : ℕ) (xs : List ℕ) → distinct (x ∷ xs) ≡ true → among x xs ≡ false
first_new x xs e = not-true (among x xs) (and_l (not (among x xs)) _ e)

pub others_differ : (x : ℕ) (xs : List ℕ) → distinct (x ∷ xs) ≡ true → distinct xs ≡ true
others_differ x xs e = and_r (not (among x xs)) _ e

module _ (i : ℕ) where
  without_none : (xs : List ℕ) → among i xs ≡ false → without i xs ≡ xs
  without_none [] e = refl
  without_none (x ∷ xs) e = rw (or_l (eqb i x) _ e) (ap (λ (ys : List ℕ). x ∷ ys) (without_none xs (or_r (eqb i x) _ e)))

  without_differ : (xs : List ℕ) → distinct xs ≡ true → distinct (without i xs) ≡ true
  without_differ [] e = refl
  without_differ (x ∷ xs) e = go (eqb i x) (without_differ xs (others_differ x xs e))
    where
      go : (t : Bool) → distinct (without i xs) ≡ true → distinct (cond t (without i xs) (x ∷ without i xs)) ≡ true
      go true q = q
      go false q = rw (among_without x i xs, first_new x xs e) q

  -- a number stands but once among different ones
  without_one : (xs : List ℕ) → distinct xs ≡ true → length xs ≤ suc (length (without i xs))
  without_one [] e = omega arith
  without_one (x ∷ xs) e = go (eqb i x) refl (without_one xs (others_differ x xs e))
    where
      go : (t : Bool) → eqb i x ≡ t → length xs ≤ suc (length (without i xs)) → suc (length xs) ≤ suc (length (cond t (without i xs) (x ∷ without i xs)))
      go true q h = let s : without i xs ≡ xs = without_none xs (rw (eqb-true i x q) (first_new x xs e)) in omega (arith, ap length s)
      go false q h = omega arith

below_without : (n : ℕ) (xs : List ℕ) → all_below (suc n) xs ≡ true → all_below n (without n xs) ≡ true
below_without n [] e = refl
below_without n (x ∷ xs) e = go (eqb n x) refl (below_without n xs (and_r (ltb x (suc n)) _ e))
  where
    go : (t : Bool) → eqb n x ≡ t → all_below n (without n xs) ≡ true → all_below n (cond t (without n xs) (x ∷ without n xs)) ≡ true
    go true q h = h
    go false q h =
        let l : x < suc n = ltb-true x (suc n) (and_l (ltb x (suc n)) _ e) in
        let d : n ≡ x → ⊥ = eqb-false n x q in
        rw (lt-ltb x n (omega arith)) h

pub few : (n : ℕ) (xs : List ℕ) → all_below n xs ≡ true → distinct xs ≡ true → length xs ≤ n
few zero [] b d = omega arith
few zero (x ∷ xs) b d = absurd (omega (arith, ltb-true x 0 (and_l (ltb x 0) _ b)))
few (suc n) xs b d = omega (arith, few n (without n xs) (below_without n xs b) (without_differ n xs d), without_one n xs d)
