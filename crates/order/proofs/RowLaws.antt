-- Circles found in rows of bits, by clock, are circles of records. Assumes nothing.
use mathlib.Core.Path.{◌≡◌, refl, sym, ap, ap₂, ◌∙◌}
use mathlib.Core.Bool.{Bool, true, false, false≢true}
use mathlib.Core.List.Memᴰ
use mathlib.Core.List.{List, [], ◌∷◌}
use Prim.Native.Nat.{ℕ, zero, suc}
use native.Mathlib.Omega.{arith}
use borrow.Author.Tests.{eqb-false, ltb-true}
use lib.Dec.{eqb, ltb}
use lib.ListN.{length, get_or, set, replicate, length-set}
use lib.Seq.{get_or-set_same, get_or-set_other}
use Rattle.std.specs.Prelude.{None}
use Rattle.constraint.specs.Lists.{broken_record}
use Rattle.constraint.specs.Meaning.{among, all_below, distinct}
use Rattle.constraint.specs.Ticks.{bits}
use Rattle.constraint.specs.declared.Clocks.{Clocks}
use Rattle.constraint.specs.declared.Constraint.{Constraint}
use Rattle.constraint.proofs.Booleans.{and_l, and_r, or_l, or_r, both_ways}
use Rattle.constraint.proofs.TickSets.{bits_zero, bits_below}
use Rattle.order.specs.Order.{rests_on, definitions}
use Rattle.order.specs.Rests.{Links, lowest, closed, circle, Chain}
use Rattle.std.specs.List.{find}
use Rattle.order.specs.Rows.{gathered, clocks_in, rows_with, rows_of, closed_from, on_circle}
use Rattle.order.specs.declared.Defined.{Defined}
use Rattle.order.proofs.Carried.{carried}
use Rattle.order.proofs.Chains.{closed_chain, chain_closed}
use Rattle.order.proofs.Closing.{linked, up_from, up_from_lem, linked_closed}
use Rattle.order.proofs.DefinitionLaws.{rests_within}
use Rattle.order.proofs.Few.{first_new, others_differ}
use Rattle.order.proofs.Gathered.{In, found, operands_below, rests_bits}
use Rattle.order.proofs.GatherLaws.{gathered_numbers, gathered_below, gathered_differ}
use Rattle.order.proofs.LowestLaws.{told, all_kept, lowest_told}
use Rattle.order.proofs.Standing.{Within}

-- ---- the rows of definitions

row_other : (ts : List Defined) (rows : List ℕ) (c : ℕ) → among c (clocks_in ts) ≡ false → get_or (rows_with rows ts) c 0 ≡ get_or rows c 0
row_other [] rows c e = refl
row_other (t ∷ ts) rows c e =
    row_other ts (set rows t.clock t.operands) c (or_r (eqb c t.clock) _ e) ∙ get_or-set_other rows t.clock c t.operands 0 (eqb-false c t.clock (or_l (eqb c t.clock) _ e))

row_of : (ts : List Defined) (rows : List ℕ) (d : Defined) → In d ts → distinct (clocks_in ts) ≡ true → all_below (length rows) (clocks_in ts) ≡ true → get_or (rows_with rows ts) d.clock 0 ≡ d.operands
row_of [] rows d m u b = elim m [ ]
row_of (t ∷ ts) rows d (Memᴰ.head q) u b =
    rw q (row_other ts (set rows t.clock t.operands) t.clock (first_new t.clock (clocks_in ts) u) ∙ get_or-set_same rows t.clock t.operands 0 (ltb-true t.clock (length rows) (and_l _ _ b)))
row_of (t ∷ ts) rows d (Memᴰ.tail m) u b =
    row_of ts (set rows t.clock t.operands) d m (others_differ t.clock (clocks_in ts) u) (rw (length-set rows t.clock t.operands) (and_r (ltb t.clock (length rows)) _ b))

no_row : (n c : ℕ) → ◌≡◌ {A = ℕ} (get_or (replicate n 0) c 0) 0
no_row zero c = refl
no_row (suc n) zero = refl
no_row (suc n) (suc c) = no_row n c

-- ---- where 59 lets the list pass
module _ (clocks : Clocks) (rs : List Constraint) (ok : broken_record clocks rs ≡ None) where
  abbrev ts : List Defined
  ts = gathered 1 rs

  abbrev L : Links
  L = linked (rows_of ts)

  row_is : (d : Defined) → In d ts → get_or (rows_of ts) d.clock 0 ≡ d.operands
  row_is d m = row_of ts (replicate 32 0) d m (gathered_differ clocks rs ok) (gathered_below clocks rs ok)

  -- a clock that leads to one is defined
  defined : (c k : ℕ) → L c k ≡ true → (d : Defined) × In d ts × (d.clock ≡ c)
  defined c k e = go (among c (clocks_in ts)) refl
    where
      go : (t : Bool) → among c (clocks_in ts) ≡ t → (d : Defined) × In d ts × (d.clock ≡ c)
      go true q = found (λ d. d.clock) ts c q
      go false q = absurd (false≢true (sym (ap (λ F. F k) bits_zero) ∙ ap (λ (x : ℕ). bits x k) (sym (row_other ts (replicate 32 0) c q ∙ no_row 32 c)) ∙ e))

  rows_within : Within L (up_from 32 0)
  rows_within c k e =
      let (d, m, q) = defined c k e in
      let b : bits d.operands k ≡ true = sym (ap (λ (x : ℕ). bits x k) (ap (λ (x : ℕ). get_or (rows_of ts) x 0) (sym q) ∙ row_is d m)) ∙ e in
      up_from_lem 32 0 k (omega arith) (bits_below d.operands 32 (operands_below clocks rs ok d m) k b)

  -- ---- records and their clocks

  abbrev Of : (n c : ℕ) → Type 0
  Of n c = (d : Defined) × In d ts × (d.number ≡ n) × (d.clock ≡ c)

  links_same : (i j a b : ℕ) → Of i a → Of j b → rests_on rs i j ≡ L a b
  links_same i j a b (d, m, p, q) (e, n, s, t) =
      ap₂ (rests_on rs) (sym p) (sym s) ∙ rests_bits clocks rs ok d e m n ∙ ap (λ (x : ℕ). bits x e.clock) (sym (row_is d m)) ∙ ap₂ L q t

  clock_of_lem : (i k l : ℕ) → rests_on rs i k ≡ true → rests_on rs k l ≡ true → (c : ℕ) × Of k c
  clock_of_lem i k l e u =
      let (d, m, q) = found (λ d. d.number) ts k (rw (gathered_numbers rs) (rests_within rs i k e)) in
      (d.clock, (d, m, q, refl))

  number_of : (a c b : ℕ) → L a c ≡ true → L c b ≡ true → (n : ℕ) × Of n c
  number_of a c b e u =
      let (d, m, q) = defined c b u in
      (d.number, (d, m, refl, q))

  to_clocks : (n c : ℕ) → Of n c → Chain (rests_on rs) n n → Chain L c c
  to_clocks n c o = carried (rests_on rs) L Of (λ i j a b p q e. sym (links_same i j a b p q) ∙ e) clock_of_lem c c o o

  to_records : (n c : ℕ) → Of n c → Chain L c c → Chain (rests_on rs) n n
  to_records n c o = carried L (rests_on rs) (λ a i. Of i a) (λ a b i j p q e. links_same i j a b p q ∙ e) number_of n n o o

  same_circles : (d : Defined) → In d ts → on_circle (closed_from 32 0 (rows_of ts)) d ≡ closed (definitions rs) (rests_on rs) d.number d.number
  same_circles d m =
      ap (λ (R : Links). R d.clock d.clock) (linked_closed 32 0 (rows_of ts))
      ∙ both_ways _ _
      (λ e. chain_closed (definitions rs) (rests_on rs) (rests_within rs) (to_records d.number d.clock here (closed_chain (up_from 32 0) L d.clock d.clock e)))
      (λ e. chain_closed (up_from 32 0) L rows_within (to_clocks d.number d.clock here (closed_chain (definitions rs) (rests_on rs) d.number d.number e)))
    where
      here : Of d.number d.clock
      here = (d, m, refl, refl)

  pub circle_found : told (find (on_circle (closed_from 32 0 (rows_of ts))) ts) ≡ circle (rests_on rs) (definitions rs)
  circle_found =
      lowest_told (λ d. true) (on_circle (closed_from 32 0 (rows_of ts))) (λ i. closed (definitions rs) (rests_on rs) i i) ts same_circles
      ∙ ap (lowest (λ i. closed (definitions rs) (rests_on rs) i i)) (all_kept (λ d. true) ts (λ d m. refl) ∙ gathered_numbers rs)
