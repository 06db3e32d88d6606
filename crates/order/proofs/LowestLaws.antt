-- Of definitions, by their records' numbers: those that pass a test, and the lowest that does. Assumes nothing.
use mathlib.Core.Path.{◌≡◌, refl, ap}
use mathlib.Core.Bool.{Bool, true, false, not, cond, ◌&&◌, false≢true, or-true}
use mathlib.Core.List.Memᴰ
use mathlib.Core.List.{List, [], ◌∷◌}
use Prim.Native.Nat.{ℕ}
use native.Mathlib.Omega.{arith}
use lib.Dec.{eqb}
use Rattle.std.specs.Prelude.{Option, None, Some}
use Rattle.constraint.specs.Ticks.{any}
use Rattle.order.specs.Rests.{without, Lowest, nothing, is, lowest}
use Rattle.std.specs.List.{find}
use Rattle.order.specs.declared.Defined.{Defined}
use Rattle.order.proofs.Gathered.{In}
use Rattle.order.proofs.GatherLaws.{numbers_in}

abbrev pub told : Option Defined → Lowest
told None = nothing
told (Some d) = is d.number

-- the numbers of those that pass a test
abbrev pub kept : (Defined → Bool) → List Defined → List ℕ
kept keep [] = []
kept keep (d ∷ ds) = cond (keep d) (d.number ∷ kept keep ds) (kept keep ds)

pub all_kept : (keep : Defined → Bool) (ts : List Defined) → ((d : Defined) → In d ts → keep d ≡ true) → kept keep ts ≡ numbers_in ts
all_kept keep [] all = refl
all_kept keep (d ∷ ts) all = rw (all d (Memᴰ.head refl)) (ap (λ (xs : List ℕ). d.number ∷ xs) (all_kept keep ts (λ x m. all x (Memᴰ.tail m))))

-- one of them passes another test
pub some_kept : (keep : Defined → Bool) (test : ℕ → Bool) (ts : List Defined) (d : Defined) → In d ts → keep d ≡ true → test d.number ≡ true → any test (kept keep ts) ≡ true
some_kept keep test [] d m k p = elim m [ ]
some_kept keep test (t ∷ ts) d (Memᴰ.head q) k p = rw (← q, k, p)
some_kept keep test (t ∷ ts) d (Memᴰ.tail m) k p = go (keep t) (some_kept keep test ts d m k p)
  where
    go : (b : Bool) → any test (kept keep ts) ≡ true → any test (cond b (t.number ∷ kept keep ts) (kept keep ts)) ≡ true
    go true e = rw e (or-true (test t.number))
    go false e = e

pub kept_some : (keep : Defined → Bool) (test : ℕ → Bool) (ts : List Defined) → any test (kept keep ts) ≡ true → (d : Defined) × In d ts × (keep d ≡ true) × (test d.number ≡ true)
kept_some keep test [] e = absurd (false≢true e)
kept_some keep test (t ∷ ts) e = go (keep t) (test t.number) refl refl e (λ u. later (kept_some keep test ts u))
  where
    Found : List Defined → Type 0
    Found us = (d : Defined) × In d us × (keep d ≡ true) × (test d.number ≡ true)

    later : Found ts → Found (t ∷ ts)
    later (d, m, k, p) = (d, Memᴰ.tail m, k, p)

    go : (b c : Bool) → keep t ≡ b → test t.number ≡ c → any test (cond b (t.number ∷ kept keep ts) (kept keep ts)) ≡ true → (any test (kept keep ts) ≡ true → Found (t ∷ ts)) → Found (t ∷ ts)
    go true true k p u ih = (t, Memᴰ.head refl, k, p)
    go true false k p u ih = ih (rw p at u)
    go false c k p u ih = ih u

-- those without one
pub without_kept : (keep more : Defined → Bool) (n : ℕ) (ts : List Defined) → ((d : Defined) → In d ts → keep d ≡ (not (eqb n d.number) && more d)) → without n (kept more ts) ≡ kept keep ts
without_kept keep more n [] same = refl
without_kept keep more n (t ∷ ts) same = rw (same t (Memᴰ.head refl)) (go (eqb n t.number) (more t) refl (without_kept keep more n ts (λ d m. same d (Memᴰ.tail m))))
  where
    go : (b c : Bool) → eqb n t.number ≡ b → without n (kept more ts) ≡ kept keep ts → without n (cond c (t.number ∷ kept more ts) (kept more ts)) ≡ cond (not b && c) (t.number ∷ kept keep ts) (kept keep ts)
    go true true q e = rw q e
    go true false q e = e
    go false true q e = rw q (ap (λ (xs : List ℕ). t.number ∷ xs) e)
    go false false q e = e

-- the lowest that passes two tests is the lowest of those that pass one, by the other
pub lowest_told : (keep test : Defined → Bool) (by : ℕ → Bool) (ts : List Defined) → ((d : Defined) → In d ts → test d ≡ by d.number)
    → told (find (λ d. keep d && test d) ts) ≡ lowest by (kept keep ts)
lowest_told keep test by [] same = refl
lowest_told keep test by (d ∷ ts) same = go (keep d) (lowest_told keep test by ts (λ x m. same x (Memᴰ.tail m)))
  where
    passes : (t : Bool) → told (find (λ x. keep x && test x) ts) ≡ lowest by (kept keep ts)
        → told (cond t (Some d) (find (λ x. keep x && test x) ts)) ≡ cond t (is d.number) (lowest by (kept keep ts))
    passes true e = refl
    passes false e = e

    go : (t : Bool) → told (find (λ x. keep x && test x) ts) ≡ lowest by (kept keep ts)
        → told (cond (t && test d) (Some d) (find (λ x. keep x && test x) ts)) ≡ lowest by (cond t (d.number ∷ kept keep ts) (kept keep ts))
    go true e = rw (same d (Memᴰ.head refl)) (passes (by d.number) e)
    go false e = e

-- what is found stands in the list, and passes
pub lowest_found : (test : Defined → Bool) (ts : List Defined) (d : Defined) → find test ts ≡ Some d → In d ts × (test d ≡ true)
lowest_found test [] d e = let z : ◌≡◌ {A = ℕ} 0 1 = cc in absurd (omega arith)
lowest_found test (t ∷ ts) d e = go (test t) refl e (lowest_found test ts d)
  where
    go : (b : Bool) → test t ≡ b → cond b (Some t) (find test ts) ≡ Some d → (find test ts ≡ Some d → In d ts × (test d ≡ true)) → In d (t ∷ ts) × (test d ≡ true)
    go true q u ih = let s : d ≡ t = cc in (Memᴰ.head s, rw s q)
    go false q u ih = let (m, p) = ih u in (Memᴰ.tail m, p)
