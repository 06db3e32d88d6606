-- The same-place question's walk over the records comes to the definition: whatever is known of the records seen, the walk adds what the definition
-- says of those to come. Assumes nothing.
use mathlib.Core.Path.{◌≡◌, refl, sym, ap, ◌∙◌}
use mathlib.Core.Bool.{Bool, true, false, cond, ◌&&◌, and-true, and_assoc}
use mathlib.Core.List.{List, [], ◌∷◌}
use Prim.Native.Nat.{ℕ, suc, ◌+◌, ◌<◌, ◌≤◌}
use native.Mathlib.Numerals.{add-one}
use native.Mathlib.Omega.{arith}
use lib.Dec.{ltb}
use lib.ListN.{length, take, drop, length-take, length-drop}
use lib.Seq.{drop-cons, take_all}
use Rattle.std.specs.Prelude.{Option, None, Some}
use Rattle.limit.specs.declared.Limit.{Limit}
use Rattle.limit.specs.declared.Limit.TheVariants.{Records, ConfigurationWord}
use Rattle.limit.specs.declared.Place.{Place}
use Rattle.constraint.specs.Lists.{at, empty, counts_fit, first_unfit, broken_record, first_out, broken_word}
use Rattle.constraint.specs.Meaning.{in_range}
use Rattle.constraint.specs.SamePlace.{Answer, refuse_at, same, different, same_word, same_words, same_place_of, word_at}
use Rattle.constraint.specs.Ticks.{none, bits}
use Rattle.constraint.specs.declared.Clocks.{Clocks}
use Rattle.constraint.specs.declared.Constraint.{Constraint}
use Rattle.constraint.specs.declared.Word.{Word}
use Rattle.constraint.proofs.Demand3.{nowhere}
use Rattle.constraint.proofs.Words.{only_zero}
use Rattle.constraint.proofs.TickSets.{bits_zero}
use Rattle.std.specs.Option.{option_or}
use Rattle.lent.specs.Compare.{begins_same, compared, compared_all, concluded_same}
use Rattle.lent.specs.Places.{lowest, unfit_at, out_at}
use Rattle.lent.specs.declared.Comparison.{Comparison}
use Rattle.lent.proofs.PlaceLaws.{lowest_placed, unfit_on, unfit_is, few_pass}

-- a limit is broken at the same place, or else what follows is the same
refuses : (l : Limit) {a b : Option Place} {t u : Answer} → a ≡ b → (b ≡ None → t ≡ u) → refuse_at l a t ≡ refuse_at l b u
refuses l {b = None} p n = rw p (n refl)
refuses l {b = Some x} p n = rw p

-- words beyond the records are 0, in both configurations
zeros_same : (i j : ℕ) (ws vs : List Word) → length ws ≡ length vs → first_out i [] ws ≡ None → first_out j [] vs ≡ None → same_words ws vs ≡ true
zeros_same i j [] [] e p q = refl
zeros_same i j [] (v ∷ vs) e p q = absurd (omega (arith, e))
zeros_same i j (w ∷ ws) [] e p q = absurd (omega (arith, e))
zeros_same i j (w ∷ ws) (v ∷ vs) e p q =
    let a = nowhere (in_range empty w) _ i p in
    let b = nowhere (in_range empty v) _ j q in
    rw (only_zero w a.0, only_zero v b.0) (zeros_same (suc i) (suc j) ws vs (omega (arith, e)) a.1 b.1)

word_here : (us : List Word) → length us ≡ 64 → (i : ℕ) → i < 64 → drop i us ≡ word_at us i ∷ drop (suc i) us
word_here us l i m = drop-cons us i _ (omega (arith, l))

module _ (ws vs : List Word) (h : length ws ≡ 64) (k : length vs ≡ 64) where
  clocks_kept : (rs : List Constraint) (i : ℕ) (c : Comparison) → (compared_all i c rs ws vs).clocks ≡ c.clocks
  unfolding compared_all compared
  clocks_kept [] i c = refl
  clocks_kept (r ∷ rs) i c = clocks_kept rs (suc i) (compared c (record { 0 = suc i }) r (word_at ws i) (word_at vs i))

  -- ---- 59
  unfit_found : (rs : List Constraint) (i : ℕ) (c : Comparison) → counts_fit c.clocks ≡ true → i + length rs ≤ 64 → (b : Option Place)
      → option_or (compared_all i c rs ws vs).unfit b ≡ option_or c.unfit (option_or (first_unfit c.clocks (bits c.earlier) (suc i) rs) b)
  unfolding compared_all compared
  unfit_found [] i c ok room b = refl
  unfit_found (r ∷ rs) i c ok room b =
      unfit_found rs (suc i) (compared c (record { 0 = suc i }) r (word_at ws i) (word_at vs i)) ok (omega (arith, room)) b
      ∙ unfit_on c.clocks ok c.earlier c.unfit i r rs b (omega (arith, room))

  -- ---- 60, of one of the configurations, whose place is read by g
  out_found : (g : Comparison → Option Place) (us : List Word) → length us ≡ 64 → ((c : Comparison) (i : ℕ) (r : Constraint) → g (compared c (record { 0 = suc i }) r (word_at ws i) (word_at vs i)) ≡ lowest (g c) (in_range r (word_at us i)) (record { 0 = suc i }))
      → (rs : List Constraint) (i n : ℕ) (c : Comparison) → i + length rs ≤ 64 → i + length rs ≡ n → out_at (g (compared_all i c rs ws vs)) n us ≡ option_or (g c) (first_out (suc i) rs (drop i us))
  unfolding compared_all
  out_found g us l adds [] i n c room e = let p : n ≡ i = omega arith in rw (p, add-one i)
  out_found g us l adds (r ∷ rs) i n c room e =
      out_found g us l adds rs (suc i) n (compared c (record { 0 = suc i }) r (word_at ws i) (word_at vs i)) (omega (arith, room)) (omega (arith, e))
      ∙ rw (adds c i r, word_here us l i (omega (arith, room))) (lowest_placed (g c) (in_range r (word_at us i)) (record { 0 = suc i }) _)

  -- ---- whether the words are the same
  same_found : (rs : List Constraint) (i : ℕ) (c : Comparison) → i + length rs ≤ 64 → first_out (suc i) rs (drop i ws) ≡ None → first_out (suc i) rs (drop i vs) ≡ None
      → (compared_all i c rs ws vs).same ≡ (c.same && same_words (drop i ws) (drop i vs))
  unfolding compared_all compared
  same_found [] i c room p q = rw (zeros_same (suc i) (suc i) (drop i ws) (drop i vs) (omega (arith, length-drop i ws, length-drop i vs, h, k)) p q) (sym (and-true c.same))
  same_found (r ∷ rs) i c room p q =
      let m : i < 64 = omega (arith, room) in
      let a = nowhere (in_range r (word_at ws i)) _ (suc i) (rw (word_here ws h i m) at p) in
      let b = nowhere (in_range r (word_at vs i)) _ (suc i) (rw (word_here vs k i m) at q) in
      same_found rs (suc i) (compared c (record { 0 = suc i }) r (word_at ws i) (word_at vs i)) (omega (arith, room)) a.1 b.1
      ∙ rw (word_here ws h i m, word_here vs k i m) (and_assoc c.same (same_word (word_at ws i) (word_at vs i)) (same_words (drop (suc i) ws) (drop (suc i) vs)))

  -- ---- the answer
  module _ (clocks : Clocks) (rs : List Constraint) where
    abbrev to : Comparison
    to = compared_all 0 (begins_same clocks) (take 64 rs) ws vs

    answer_59 : unfit_at to.clocks to.unfit (length rs) ≡ broken_record clocks rs
    answer_59 = rw (clocks_kept (take 64 rs) 0 (begins_same clocks)) (go (counts_fit clocks) refl)
      where
        go : (x : Bool) → counts_fit clocks ≡ x → cond x (option_or to.unfit (cond (ltb 64 (length rs)) (at 65) None)) (at 0) ≡ cond x (first_unfit clocks none 1 rs) (at 0)
        go true e = unfit_found (take 64 rs) 0 (begins_same clocks) e (omega (arith, length-take 64 rs)) _ ∙ rw bits_zero (sym (unfit_is clocks rs))
        go false e = refl

    module _ (p : broken_record clocks rs ≡ None) where
      all_seen : take 64 rs ≡ rs
      all_seen = take_all 64 rs (few_pass clocks rs p)

      room : 0 + length rs ≤ 64
      room = omega (arith, few_pass clocks rs p)

      first_60 : out_at to.first (length rs) ws ≡ broken_word rs ws
      unfolding compared
      first_60 = rw all_seen (out_found (λ c. c.first) ws h (λ c i r. refl) rs 0 (length rs) (begins_same clocks) room (omega arith))

      second_60 : out_at to.second (length rs) vs ≡ broken_word rs vs
      unfolding compared
      second_60 = rw all_seen (out_found (λ c. c.second) vs k (λ c i r. refl) rs 0 (length rs) (begins_same clocks) room (omega arith))

      answer_same : broken_word rs ws ≡ None → broken_word rs vs ≡ None → to.same ≡ same_words ws vs
      answer_same a b = rw all_seen (same_found rs 0 (begins_same clocks) room a b)

    pub compare_places : concluded_same to (length rs) ws vs ≡ same_place_of clocks rs ws vs
    unfolding concluded_same
    compare_places =
        refuses Records answer_59 (λ p.
        refuses ConfigurationWord (first_60 p) (λ a.
        refuses ConfigurationWord (second_60 p) (λ b.
        ap (λ (x : Bool). cond x same different) (answer_same p a b))))
