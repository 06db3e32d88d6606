-- The turns on a set of clocks that are left are the turns on the numbers of their records. Assumes nothing.
use mathlib.Core.Path.{◌≡◌, refl, sym, ap, ap₂, ◌∙◌}
use mathlib.Core.Bool.{Bool, true, false, not, ◌&&◌, ◌||◌, true≢false}
use mathlib.Core.List.{List, ◌∷◌}
use Prim.Native.Nat.{ℕ, zero, suc, ◌<◌, ◌^◌}
use native.Mathlib.Omega.{arith}
use borrow.Author.Tests.{eq-eqb, ne_eqb}
use lib.Bits.{bit_and, bit_xor, and_lt, xor_lt}
use lib.Dec.{eqb}
use lib.ListN.{length, length-map}
use lib.Pow.{pow-lt}
use Rattle.std.specs.Prelude.{None, Option, Some}
use Rattle.constraint.specs.Lists.{broken_record}
use Rattle.constraint.specs.Meaning.{among}
use Rattle.constraint.specs.Ticks.{any, bits}
use Rattle.constraint.specs.declared.Clocks.{Clocks}
use Rattle.constraint.specs.declared.Constraint.{Constraint}
use Rattle.constraint.proofs.Booleans.{and_l, and_r}
use Rattle.constraint.proofs.TickSets.{bits_zero, bits_below}
use Rattle.order.specs.Order.{rests_on, definitions}
use Rattle.order.specs.Rests.{Links, ready, lowest_ready, without, and_then, in_turns, order}
use Rattle.std.specs.List.{find}
use Rattle.order.specs.Rows.{gathered, clocks_in, ready_among, clocks_left, goes_on, turns_of}
use Rattle.order.specs.declared.Defined.{Defined}
use Rattle.order.proofs.BitLaws.{bits_and, bits_without, bits_fold, fold_below, no_clock_lem}
use Rattle.order.proofs.Gathered.{In, found, stands, clock_below, eqb_same, operands_below, rests_bits}
use Rattle.order.proofs.GatherLaws.{gathered_numbers}
use Rattle.order.proofs.LowestLaws.{told, kept, all_kept, some_kept, kept_some, without_kept, lowest_told, lowest_found}

abbrev is_left : (left : ℕ) → Defined → Bool
is_left left d = bits left d.clock

-- ---- where 59 lets the list pass
module _ (clocks : Clocks) (rs : List Constraint) (ok : broken_record clocks rs ≡ None) where
  abbrev ts : List Defined
  ts = gathered 1 rs

  abbrev R : Links
  R = rests_on rs

  -- the records of the clocks left
  abbrev numbers_left : ℕ → List ℕ
  numbers_left left = kept (is_left left) ts

  -- the clocks left are clocks of definitions
  record Left (left : ℕ) : Type 0 where
    below : left < 2 ^ 32
    some : (c : ℕ) → bits left c ≡ true → among c (clocks_in ts) ≡ true

  module _ (left : ℕ) (l : Left left) (d : Defined) (m : In d ts) where
    -- none of its operands is left exactly when it rests on none that is
    ready_same : eqb (bit_and d.operands left) 0 ≡ ready R (numbers_left left) d.number
    ready_same = go (any (R d.number) (numbers_left left)) refl
      where
        both : (c : ℕ) → bits (bit_and d.operands left) c ≡ (bits d.operands c && bits left c)
        both c = bits_and d.operands left c

        waits : (c : ℕ) → (bits d.operands c && bits left c) ≡ true → any (R d.number) (numbers_left left) ≡ true
        waits c q =
            let (e, n, s) = found (λ x. x.clock) ts c (l.some c (and_r (bits d.operands c) _ q)) in
            some_kept (is_left left) (R d.number) ts e n (rw s (and_r (bits d.operands c) _ q)) (rests_bits clocks rs ok d e m n ∙ rw s (and_l _ _ q))

        none : any (R d.number) (numbers_left left) ≡ false → (c : ℕ) (t : Bool) → (bits d.operands c && bits left c) ≡ t → t ≡ false
        none u c true q = absurd (true≢false (sym (waits c q) ∙ u))
        none u c false q = refl

        go : (t : Bool) → any (R d.number) (numbers_left left) ≡ t → eqb (bit_and d.operands left) 0 ≡ not t
        go true u =
            let (e, n, k, p) = kept_some (is_left left) (R d.number) ts u in
            let b : bits (bit_and d.operands left) e.clock ≡ true = both e.clock ∙ rw (k, sym (rests_bits clocks rs ok d e m n) ∙ p) in
            ne_eqb _ 0 (λ z. true≢false (sym b ∙ ap (λ (x : ℕ). bits x e.clock) z ∙ ap (λ F. F e.clock) bits_zero))
        go false u = eq-eqb _ 0 (no_clock_lem _ (and_lt 32 d.operands left (operands_below clocks rs ok d m) l.below) (λ c. both c ∙ none u c _ refl))

    -- one that was left is listed
    module _ (was : bits left d.clock ≡ true) where
      after : (c : ℕ) → bits (bit_xor left (2 ^ d.clock)) c ≡ (not (eqb c d.clock) && bits left c)
      after c = bits_without left d.clock c was

      without_same : without d.number (numbers_left left) ≡ numbers_left (bit_xor left (2 ^ d.clock))
      without_same =
          without_kept (is_left (bit_xor left (2 ^ d.clock))) (is_left left) d.number ts
          (λ e n. after e.clock ∙ ap (λ (t : Bool). not t && bits left e.clock) (eqb_same clocks rs ok e d n m))

      still_left : Left (bit_xor left (2 ^ d.clock))
      still_left = record {
        below = xor_lt 32 left (2 ^ d.clock) l.below (pow-lt (clock_below clocks rs ok d m));
        some = λ c q. l.some c (and_r (not (eqb c d.clock)) _ (sym (after c) ∙ q));
      }

  turns : (n left : ℕ) → Left left → turns_of n left ts ≡ in_turns R n (numbers_left left)
  unfolding turns_of in_turns goes_on and_then
  turns zero left l = refl
  turns (suc n) left l = go (find (ready_among left) ts) refl (turns n) ∙ ap (λ x. and_then x (λ i. in_turns R n (without i (numbers_left left)))) lowest_same
    where
      lowest_same : told (find (ready_among left) ts) ≡ lowest_ready R (numbers_left left)
      lowest_same = lowest_told (is_left left) (λ d. eqb (bit_and d.operands left) 0) (ready R (numbers_left left)) ts (ready_same left l)

      go : (x : Option Defined) → find (ready_among left) ts ≡ x → ((f : ℕ) → Left f → turns_of n f ts ≡ in_turns R n (numbers_left f))
          → goes_on x (λ d. turns_of n (bit_xor left (2 ^ d.clock)) ts) ≡ and_then (told x) (λ i. in_turns R n (without i (numbers_left left)))
      go None q ih = refl
      go (Some d) q ih =
          let (m, p) = lowest_found (ready_among left) ts d q in
          let was = and_l _ _ p in
          ap (λ (xs : List ℕ). d.number ∷ xs) (ih (bit_xor left (2 ^ d.clock)) (still_left left l d m was) ∙ ap (in_turns R n) (sym (without_same left l d m was)))

  -- ---- from the start

  all_left : (c : ℕ) → c < 32 → bits (clocks_left ts) c ≡ among c (clocks_in ts)
  all_left c h = bits_fold ts 0 c h ∙ ap (λ F. F c || among c (clocks_in ts)) bits_zero

  first_below : clocks_left ts < 2 ^ 32
  first_below = fold_below ts 0 (omega arith)

  first_left : Left (clocks_left ts)
  first_left = record { below = first_below; some = λ c q. sym (all_left c (bits_below (clocks_left ts) 32 first_below c q)) ∙ q }

  first_numbers : numbers_left (clocks_left ts) ≡ definitions rs
  first_numbers = all_kept (is_left (clocks_left ts)) ts (λ d m. all_left d.clock (clock_below clocks rs ok d m) ∙ stands (λ x. x.clock) ts d m) ∙ gathered_numbers rs

  pub turns_listed : turns_of (length ts) (clocks_left ts) ts ≡ order R (definitions rs)
  turns_listed = turns (length ts) (clocks_left ts) first_left ∙ ap₂ (in_turns R) (sym (length-map ts (λ d. d.number)) ∙ ap length (gathered_numbers rs)) first_numbers
