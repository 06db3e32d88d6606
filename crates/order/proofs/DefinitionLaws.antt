-- The numbers of the definitions of a list rise, and what rests on something rests on one of them. Assumes nothing.
use mathlib.Core.Path.{◌≡◌, refl}
use mathlib.Core.Bool.{Bool, true, false, ◌||◌, false≢true, or-true}
use mathlib.Core.List.{List, [], ◌∷◌, ◌++◌, map}
use Prim.Native.Nat.{ℕ, zero, suc, ◌+◌, ◌≤◌}
use native.Mathlib.Omega.{arith}
use borrow.Author.Tests.{eqb-true, eq-eqb}
use lib.Dec.{eqb}
use Rattle.constraint.specs.Meaning.{defined_of, among}
use Rattle.constraint.specs.SamePlace.{record_at}
use Rattle.constraint.specs.Ticks.{Ticks, any}
use Rattle.constraint.specs.declared.Constraint.{Constraint}
use Rattle.order.specs.Order.{definitions_from, definitions, rests_on}
use Rattle.order.specs.Rests.{Stands}
use Rattle.order.proofs.GatherLaws.{by_defined}
use Rattle.order.proofs.Standing.{Rises, Within}

-- ---- the numbers rise

none_lower : (i : ℕ) (rs : List Constraint) (j : ℕ) → Stands j (definitions_from i rs) → i ≤ j
none_lower i [] j s = absurd (false≢true s)
none_lower i (r ∷ rs) j s =
    by_defined r (λ ks. Stands j (map (λ c. i) ks ++ definitions_from (suc i) rs) → i ≤ j) (λ u. later (none_lower (suc i) rs j u))
    (λ u. go (eqb j i) refl u (none_lower (suc i) rs j)) s
  where
    later : suc i ≤ j → i ≤ j
    later h = omega arith

    go : (t : Bool) → eqb j i ≡ t → (t || among j (definitions_from (suc i) rs)) ≡ true → (Stands j (definitions_from (suc i) rs) → suc i ≤ j) → i ≤ j
    go true q u h = omega (arith, eqb-true j i q)
    go false q u h = later (h u)

rises_from : (i : ℕ) (rs : List Constraint) → Rises (definitions_from i rs)
rises_from i [] = tt
rises_from i (r ∷ rs) =
    by_defined r (λ ks. Rises (map (λ c. i) ks ++ definitions_from (suc i) rs))
    (rises_from (suc i) rs) (none_lower (suc i) rs, rises_from (suc i) rs)

pub definitions_rise : (rs : List Constraint) → Rises (definitions rs)
definitions_rise rs = rises_from 1 rs

-- ---- a record that defines a clock is one of them

defines_stands : (F : Ticks) (i : ℕ) (rs : List Constraint) (k n : ℕ) → n ≡ i + k → any F (defined_of (record_at rs k)) ≡ true → Stands n (definitions_from i rs)
defines_stands F i [] k n q e = absurd (false≢true e)
defines_stands F i (r ∷ rs) zero n q e =
    by_defined r (λ ks. any F ks ≡ true → Stands n (map (λ c. i) ks ++ definitions_from (suc i) rs))
    (λ u. absurd (false≢true u)) (λ u. rw (eq-eqb n i (omega arith))) e
defines_stands F i (r ∷ rs) (suc k) n q e =
    let h = defines_stands F (suc i) rs k n (omega arith) e in
    by_defined r (λ ks. Stands n (map (λ c. i) ks ++ definitions_from (suc i) rs)) h (rw h (or-true (eqb n i)))

pub rests_within : (rs : List Constraint) → Within (rests_on rs) (definitions rs)
rests_within rs i zero e = absurd (false≢true e)
rests_within rs i (suc k) e = defines_stands _ 1 rs k (suc k) (omega arith) e
