-- The lowest place, one record more of limit 59, and a tick set that is shifted. Assumes nothing.
use mathlib.Core.Path.{◌≡◌, refl, sym, ap, ◌∙◌}
use mathlib.Core.Bool.{Bool, true, false, cond, ◌||◌}
use mathlib.Core.List.{List, [], ◌∷◌}
use Prim.Native.Nat.{ℕ, zero, suc, ◌+◌, ◌/◌, ◌<◌, ◌≤◌, ◌^◌}
use native.Mathlib.Nat.{div-eq_of_lt, div-add-mod', mod-lt, lt_of_lt_of_le}
use native.Mathlib.Omega.{arith}
use borrow.Author.Tests.{lt-ltb, le-ltb, ltb-true, ltb-false, leb-true, le-leb}
use lib.Dec.{ltb, leb, leb-suc-suc}
use lib.ListN.{length, take}
use lib.Pow.{pow_pos, pow_mono}
use Rattle.std.specs.Prelude.{Option, Some, None}
use Rattle.limit.specs.declared.Place.{Place}
use Rattle.constraint.specs.Lists.{at, record_fits, first_unfit, counts_fit, broken_record}
use Rattle.constraint.specs.Look.{fitted_among, fitted}
use Rattle.constraint.specs.Meaning.{defined_of}
use Rattle.constraint.specs.Ticks.{Ticks, none, adding_all, bits}
use Rattle.constraint.specs.declared.Clocks.{Clocks}
use Rattle.constraint.specs.declared.Constraint.{Constraint}
use Rattle.constraint.proofs.Booleans.{and_l, and_r}
use Rattle.constraint.proofs.Demand3.{clocks_pass, records_pass}
use Rattle.constraint.proofs.OneMore.{named_fits}
use Rattle.constraint.proofs.Walk.{defined_bits}
use Rattle.std.specs.Option.{option_or}
use Rattle.judging.specs.Single.{beyond_clocks}
use Rattle.lent.specs.Places.{lowest, fitted_here}

-- ---- the lowest place

-- one test more: where it fails, the place is known
pub lowest_placed : (u : Option Place) (x : Bool) (p : Place) (later : Option Place) → option_or (lowest u x p) later ≡ option_or u (cond x later (Some p))
lowest_placed u true p later = refl
lowest_placed (Some q) false p later = refl
lowest_placed None false p later = refl

pub none_more : (u : Option Place) → option_or u None ≡ u
none_more (Some q) = refl
none_more None = refl

-- ---- limit 59

first_cond : (x : Bool) (a : Option Place) (i : ℕ) (b : Option Place) → option_or (cond x a (at i)) b ≡ cond x (option_or a b) (at i)
first_cond true a i b = refl
first_cond false a i b = refl

-- where the counts of clocks fit, the first fits among all, too
here_fits : (clocks : Clocks) → counts_fit clocks ≡ true → (e : ℕ) (r : Constraint) → (fitted_here clocks e r).fits ≡ (fitted clocks e r).fits
here_fits clocks ok e r = go (fitted_among clocks.named e r).fits refl
  where
    go : (x : Bool) → (fitted_among clocks.named e r).fits ≡ x → (x || (fitted clocks e r).fits) ≡ (fitted clocks e r).fits
    go true p = sym (named_fits clocks e r (leb-true clocks.named clocks.count (and_r (leb clocks.count 32) _ ok)) p)
    go false p = refl

-- one record more
module _ (clocks : Clocks) (ok : counts_fit clocks ≡ true) (e : ℕ) (u : Option Place) (i : ℕ) (r : Constraint) (rs : List Constraint) (b : Option Place) (here : i < 64) where
  abbrev behind : ℕ → Option Place
  behind d = option_or (first_unfit clocks (bits d) (suc (suc i)) rs) b

  -- where the record fits, the clocks that it defines are added
  adds : (x : Bool) → (fitted clocks e r).fits ≡ x → cond x (behind (fitted clocks e r).defined) (at (suc i)) ≡ cond x (option_or (first_unfit clocks (adding_all (defined_of r) (bits e)) (suc (suc i)) rs) b) (at (suc i))
  adds false p = refl
  adds true p = rw (defined_bits clocks.count e r (leb-true clocks.count 32 (and_l _ _ ok)) (and_l _ _ p))

  pub unfit_on : option_or (lowest u (fitted_here clocks e r).fits (record { 0 = suc i })) (behind (fitted_here clocks e r).defined) ≡ option_or u (option_or (first_unfit clocks (bits e) (suc i) (r ∷ rs)) b)
  unfit_on =
      ap (λ (x : Bool). option_or (lowest u x (record { 0 = suc i })) (behind (fitted clocks e r).defined)) (here_fits clocks ok e r)
      ∙ lowest_placed u (fitted clocks e r).fits (record { 0 = suc i }) _
      ∙ ap (option_or u) (adds (fitted clocks e r).fits refl ∙ sym (rw (le-leb (suc i) 64 here) (first_cond (fitted clocks e r).fits _ (suc i) b)))

-- over 64 records, the first 64 of them, or the 65th
unfit_first : (clocks : Clocks) (F : Ticks) (i k : ℕ) (rs : List Constraint) → i + k ≡ 65 → first_unfit clocks F i rs ≡ option_or (first_unfit clocks F i (take k rs)) (cond (ltb k (length rs)) (at 65) None)
unfit_first clocks F i zero [] e = refl
unfit_first clocks F i zero (r ∷ rs) e = let p : i ≡ 65 = omega arith in rw (p, lt-ltb 0 (suc (length rs)) (omega arith))
unfit_first clocks F i (suc k) [] e = rw (le-ltb (suc k) 0 (omega arith))
unfit_first clocks F i (suc k) (r ∷ rs) e =
    let later = unfit_first clocks (adding_all (defined_of r) F) (suc i) k rs (omega (arith, e)) in
    ap (λ (a : Option Place). cond (record_fits clocks F i r) a (at i)) later
    ∙ sym (rw (leb-suc-suc (suc k) (length rs)) (first_cond (record_fits clocks F i r) _ i _))

pub unfit_is : (clocks : Clocks) (rs : List Constraint) → first_unfit clocks none 1 rs ≡ option_or (first_unfit clocks none 1 (take 64 rs)) (cond (ltb 64 (length rs)) (at 65) None)
unfit_is clocks rs = unfit_first clocks none 1 64 rs refl

-- 59 lets no more than 64 records pass
pub few_pass : (clocks : Clocks) (rs : List Constraint) → broken_record clocks rs ≡ None → length rs ≤ 64
few_pass clocks rs p = omega (arith, records_pass clocks none 1 rs (omega arith) (clocks_pass clocks rs p).1)

-- ---- the tick set

-- shifted by the named count, nothing is left of it, or something is
pub ticks_below : (clocks : Clocks) (f : ℕ) → f / 2 ^ clocks.named ≡ 0 → None ≡ beyond_clocks clocks f
ticks_below clocks f e = rw (lt-ltb f (2 ^ clocks.named) (omega (arith, rw e at (div-add-mod' f (2 ^ clocks.named)), mod-lt f (pow_pos clocks.named))))

pub ticks_beyond : (clocks : Clocks) (f : ℕ) → (f / 2 ^ clocks.named ≡ 0 → ⊥) → at 0 ≡ beyond_clocks clocks f
ticks_beyond clocks f n = go (ltb f (2 ^ clocks.named)) refl
  where
    go : (x : Bool) → ltb f (2 ^ clocks.named) ≡ x → at 0 ≡ cond x None (at 0)
    go true e = absurd (n (div-eq_of_lt (ltb-true _ _ e)))
    go false e = refl

-- shifted by 32 bits or more, nothing is left of 32 bits
pub shifted : (f n : ℕ) → f < 2 ^ 32 → cond (ltb n 32) (f / 2 ^ n) 0 ≡ f / 2 ^ n
shifted f n h = go (ltb n 32) refl
  where
    go : (x : Bool) → ltb n 32 ≡ x → cond x (f / 2 ^ n) 0 ≡ f / 2 ^ n
    go true e = refl
    go false e = sym (div-eq_of_lt (lt_of_lt_of_le h (pow_mono (ltb-false n 32 e))))
