-- Rows of bits as links: closed through one number after another they are the links so closed. Assumes nothing.
use mathlib.Core.Path.{◌≡◌, refl, sym, ap, ◌∙◌, fun_ext}
use mathlib.Core.Bool.{Bool, true, false, cond, ◌&&◌, ◌||◌, or-false}
use mathlib.Core.List.{List, [], ◌∷◌, map}
use Prim.Native.Nat.{ℕ, zero, suc, ◌+◌, ◌-◌, ◌<◌, ◌≤◌}
use native.Mathlib.Numerals.{add-one}
use native.Mathlib.Omega.{arith}
use borrow.Author.Tests.{eqb-false}
use lib.Bits.{bit_or}
use lib.Dec.{eqb}
use lib.ListN.{get_or, get_or-map}
use Rattle.constraint.specs.Meaning.{among}
use Rattle.constraint.specs.Ticks.{bits}
use Rattle.constraint.proofs.TickSets.{bits_or, bits_zero}
use Rattle.order.specs.Rests.{Links, through, closed}
use Rattle.order.specs.Rows.{row_through, rows_through, closed_from}

abbrev pub linked : List ℕ → Links
linked rows i j = bits (get_or rows i 0) j

-- ---- through one number

none_through : (k by : ℕ) → 0 ≡ row_through k by 0
none_through k by = ap (λ F. cond (F k) (bit_or 0 by) 0) (sym bits_zero)

row_through_lem : (k by row j : ℕ) → bits (row_through k by row) j ≡ (bits row j || bits row k && bits by j)
row_through_lem k by row j = go (bits row k)
  where
    go : (t : Bool) → bits (cond t (bit_or row by) row) j ≡ (bits row j || t && bits by j)
    go true = bits_or row by j
    go false = sym (or-false (bits row j))

linked_through : (k : ℕ) (rows : List ℕ) → linked (rows_through k rows) ≡ through k (linked rows)
linked_through k rows = fun_ext (λ i. fun_ext (λ j. ap (λ (x : ℕ). bits x j) (at i) ∙ row_through_lem k (get_or rows k 0) (get_or rows i 0) j))
  where
    step : ℕ → ℕ
    step = row_through k (get_or rows k 0)

    at : (i : ℕ) → get_or (map step rows) i 0 ≡ step (get_or rows i 0)
    at i = ap (λ (x : ℕ). get_or (map step rows) i x) (none_through k (get_or rows k 0)) ∙ get_or-map step rows i 0

-- ---- through so many, from k on

abbrev pub up_from : (n k : ℕ) → List ℕ
up_from zero k = []
up_from (suc n) k = k ∷ up_from n (suc k)

pub up_from_lem : (n k j : ℕ) → k ≤ j → j < k + n → among j (up_from n k) ≡ true
up_from_lem zero k j h l = absurd (omega arith)
up_from_lem (suc n) k j h l = go (eqb j k) refl (up_from_lem n (suc k) j)
  where
    go : (t : Bool) → eqb j k ≡ t → (suc k ≤ j → j < suc k + n → among j (up_from n (suc k)) ≡ true) → (t || among j (up_from n (suc k))) ≡ true
    go true q up = refl
    go false q up = let d : j ≡ k → ⊥ = eqb-false j k q in up (omega arith) (omega arith)

pub linked_closed : (n k : ℕ) (rows : List ℕ) → linked (closed_from n k rows) ≡ closed (up_from n k) (linked rows)
unfolding closed_from closed
linked_closed zero k rows = refl
linked_closed (suc n) k rows = linked_closed n (suc k) (rows_through k rows) ∙ ap (closed (up_from n (suc k))) (linked_through k rows)

-- ---- a turn of the loop over the clocks

pub closed_on : (turns k : ℕ) (rows : List ℕ) → k < turns → closed_from (turns - k) k rows ≡ closed_from (turns - (k + 1)) (k + 1) (rows_through k rows)
unfolding closed_from
closed_on turns k rows h =
    let t : turns - k ≡ suc (turns - (k + 1)) = omega arith in
    rw (t, add-one k)

pub closed_done : (turns k : ℕ) (rows : List ℕ) → turns ≤ k → closed_from (turns - k) k rows ≡ rows
unfolding closed_from
closed_done turns k rows h = let z : turns - k ≡ 0 = omega arith in rw z
