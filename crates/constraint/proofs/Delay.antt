-- The list of a delay: its numbers, each of which has its bit, and the pending ticks, which stay 32 bits. Assumes nothing.
use mathlib.Core.Path.{◌≡◌, refl}
use mathlib.Core.Bool.{Bool, true, false, cond}
use mathlib.Core.List.{List, [], ◌∷◌}
use Prim.Native.Nat.{ℕ, zero, suc, ◌-◌, ◌<◌, ◌≤◌, ◌^◌}
use native.Mathlib.Omega.{arith}
use borrow.Author.Tests.{leb-true, lt-ltb, ltb-true}
use lib.Bits.{bit_or, or_lt, or_zero_l}
use lib.Dec.{leb, ltb}
use lib.ListN.{length, get_or}
use lib.Pow.{pow-lt, pow_pos}
use Rattle.std.specs.List.{list_all}
use Rattle.constraint.specs.Meaning.{delay_fits}
use Rattle.constraint.specs.Ticks.{with_tick}
use Rattle.constraint.proofs.Booleans.{and_l, and_r}

-- ---- the numbers of a list

-- one in the list is 1 to 32
pub number_in : (ns : List ℕ) (i : ℕ) → list_all delay_fits ns ≡ true → i < length ns → (m : ℕ) × (get_or ns i 0 ≡ suc m) × (m < 32)
number_in [] i e h = absurd (omega arith)
number_in (n ∷ ns) zero e h =
    let some = leb-true 1 n (and_l (leb 1 n) _ (and_l (delay_fits n) _ e)) in
    let most = leb-true n 32 (and_r (leb 1 n) _ (and_l (delay_fits n) _ e)) in
    (n - 1, omega arith, omega arith)
number_in (n ∷ ns) (suc i) e h = number_in ns i (and_r (delay_fits n) _ e) (omega arith)

-- past its end there is none
pub number_past : (ns : List ℕ) (i : ℕ) → length ns ≤ i → get_or ns i 0 ≡ 0
number_past [] i h = refl
number_past (n ∷ ns) zero h = absurd (omega arith)
number_past (n ∷ ns) (suc i) h = number_past ns i (omega arith)

number_used : (ns : List ℕ) (i : ℕ) → 0 < get_or ns i 0 → i < length ns
number_used [] i h = absurd (omega arith)
number_used (n ∷ ns) zero h = omega arith
number_used (n ∷ ns) (suc i) h = let g = number_used ns i h in omega arith

pub number_left : (a : Bool) (ns : List ℕ) (i : ℕ) → 0 < cond a (get_or ns i 0) 0 → i < length ns
number_left true ns i h = number_used ns i h
number_left false ns i h = absurd (omega arith)

-- ---- the pending ticks

pub plan_small : (p k : ℕ) → p < 4294967296 → with_tick p k < 4294967296
plan_small p k h = go (ltb k 32) refl
  where
    go : (t : Bool) → ltb k 32 ≡ t → cond t (bit_or p (2 ^ k)) p < 4294967296
    go true e = or_lt 32 p (2 ^ k) h (pow-lt (ltb-true k 32 e))
    go false e = h

pub plan_first : (k : ℕ) → k < 32 → 0 < with_tick 0 k
plan_first k h = rw (lt-ltb k 32 h, or_zero_l (2 ^ k)) (pow_pos k)
