-- Of the code's shape: the definitions of a list as a list of their own, with sets of clocks as numbers; the links between their clocks in 32 rows.
-- Assumes nothing.
use Rattle.std.specs.Prelude.{Bool, cond, ◌&&◌, List, [], ◌∷◌, ◌++◌, map, ℕ, zero, suc, ◌^◌, eqb, get_or, set, replicate, Option, None, Some}
use Rattle.std.specs.List.{find, fold}
use Rattle.std.specs.Int.Bits.{bit_and, bit_or, bit_xor}
use Rattle.constraint.specs.Meaning.{defined_of, used_of}
use Rattle.constraint.specs.Ticks.{bits, with_tick, with_ticks}
use Rattle.constraint.specs.declared.Constraint.{Constraint}
use Rattle.order.specs.declared.Defined.{Defined}

-- ---- the definitions of records, the first of these having the number i

abbrev pub defined_as : ℕ → Constraint → (clock : ℕ) → Defined
defined_as i r c = record { number = i; clock = c; operands = with_ticks 0 (used_of r) }

abbrev pub gathered : (i : ℕ) → List Constraint → List Defined
gathered i [] = []
gathered i (r ∷ rs) = map (defined_as i r) (defined_of r) ++ gathered (suc i) rs

-- the clocks that they define
abbrev pub clocks_in : List Defined → List ℕ
clocks_in ds = map (λ d. d.clock) ds

-- ---- the order; left: the clocks whose definitions are not listed yet

abbrev pub ready_among : (left : ℕ) → Defined → Bool
ready_among left d = bits left d.clock && eqb (bit_and d.operands left) 0

-- the clocks that are left before the first turn: all that are defined
abbrev pub clocks_left : List Defined → ℕ
clocks_left ds = fold (λ f d. with_tick f d.clock) 0 ds

unfoldable pub goes_on : Option Defined → (Defined → List ℕ) → List ℕ
goes_on None f = []
goes_on (Some d) f = d.number ∷ f d

unfoldable pub turns_of : (turns left : ℕ) → List Defined → List ℕ
turns_of zero left ds = []
turns_of (suc n) left ds = goes_on (find (ready_among left) ds) (λ d. turns_of n (bit_xor left (2 ^ d.clock)) ds)

-- ---- circles; row c: the operands of the definition of clock c

abbrev pub rows_with : List ℕ → List Defined → List ℕ
rows_with rows [] = rows
rows_with rows (d ∷ ds) = rows_with (set rows d.clock d.operands) ds

abbrev pub rows_of : List Defined → List ℕ
rows_of ds = rows_with (replicate 32 0) ds

-- a row with what clock k leads to, if it leads to k
abbrev pub row_through : (k by row : ℕ) → ℕ
row_through k by row = cond (bits row k) (bit_or row by) row

abbrev pub rows_through : (k : ℕ) → List ℕ → List ℕ
rows_through k rows = map (row_through k (get_or rows k 0)) rows

-- through so many clocks, from k on
unfoldable pub closed_from : (turns k : ℕ) → List ℕ → List ℕ
closed_from zero k rows = rows
closed_from (suc n) k rows = closed_from n (suc k) (rows_through k rows)

abbrev pub on_circle : (rows : List ℕ) → Defined → Bool
on_circle rows d = bits (get_or rows d.clock 0) d.clock
