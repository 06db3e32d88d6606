-- The answer for more than 66 records is that for the first 66: 59 refuses them at one of the first 65, and nothing behind it is asked.
-- Assumes nothing.
use mathlib.Core.Path.{◌≡◌, refl, ap}
use mathlib.Core.Bool.{Bool, true, false, cond}
use mathlib.Core.List.{List, [], ◌∷◌}
use Prim.Native.Nat.{ℕ, zero, suc, ◌+◌, ◌≤◌, ◌<◌}
use native.Mathlib.Omega.{arith}
use borrow.Author.Tests.{leb-true, leb-false}
use lib.Dec.{leb}
use lib.ListN.{length, take}
use lib.Seq.{take_all}
use Rattle.std.specs.Prelude.{Option, None, Some}
use Rattle.limit.specs.declared.Limit.TheVariants.{Records, ConfigurationWord, TickSet}
use Rattle.limit.specs.declared.Place.{Place}
use Rattle.constraint.specs.Lists.{at, record_fits, first_unfit, counts_fit, broken_record, broken_word}
use Rattle.constraint.specs.Meaning.{defined_of}
use Rattle.constraint.specs.SamePlace.{same_place_of, refuse_at, same, different, same_words}
use Rattle.constraint.specs.Ticks.{Ticks, none, adding_all}
use Rattle.constraint.specs.declared.Clocks.{Clocks}
use Rattle.constraint.specs.declared.Configuration.{Configuration}
use Rattle.constraint.specs.declared.Constraint.{Constraint}
use Rattle.constraint.specs.declared.Word.{Word}
use Rattle.constraint.proofs.Booleans.{and_l}
use Rattle.constraint.proofs.Demand3.{nowhere, clocks_pass, place_passes}
use Rattle.judging.specs.Single.{step_of, refuses_at, beyond_clocks, all_ticks, judged_told}
use Rattle.judging.specs.Step.{judged}

first_unfit_take : (clocks : Clocks) (earlier : Ticks) (i k : ℕ) (rs : List Constraint) → i ≤ 65 → 65 < i + k → first_unfit clocks earlier i (take k rs) ≡ first_unfit clocks earlier i rs
first_unfit_take clocks earlier i zero rs low high = absurd (omega (arith, low, high))
first_unfit_take clocks earlier i (suc k) [] low high = refl
first_unfit_take clocks earlier i (suc k) (r ∷ rs) low high =
    go (record_fits clocks earlier i r) refl (λ more. first_unfit_take clocks (adding_all (defined_of r) earlier) (suc i) k rs more (omega (arith, high)))
  where
    go : (x : Bool) → record_fits clocks earlier i r ≡ x
        → (suc i ≤ 65 → first_unfit clocks (adding_all (defined_of r) earlier) (suc i) (take k rs) ≡ first_unfit clocks (adding_all (defined_of r) earlier) (suc i) rs)
        → cond x (first_unfit clocks (adding_all (defined_of r) earlier) (suc i) (take k rs)) (at i) ≡ cond x (first_unfit clocks (adding_all (defined_of r) earlier) (suc i) rs) (at i)
    go true e onward = onward (omega (arith, leb-true i 64 (and_l (leb i 64) _ e)))
    go false e onward = refl

many_unfit : (clocks : Clocks) (earlier : Ticks) (i : ℕ) (rs : List Constraint) → 65 < i + length rs → i ≤ 65 → first_unfit clocks earlier i rs ≡ None → ⊥
many_unfit clocks earlier i [] many low e = omega (arith, many, low)
many_unfit clocks earlier i (r ∷ rs) many low e =
    many_unfit clocks (adding_all (defined_of r) earlier) (suc i) rs (omega (arith, many)) (omega (arith, place_passes clocks earlier i r rs e)) (nowhere (record_fits clocks earlier i r) _ i e).1

broken_take : (clocks : Clocks) (rs : List Constraint) → broken_record clocks (take 66 rs) ≡ broken_record clocks rs
broken_take clocks rs = ap (λ (x : Option Place). cond (counts_fit clocks) x (at 0)) (first_unfit_take clocks none 1 66 rs (omega arith) (omega arith))

many_broken : (clocks : Clocks) (rs : List Constraint) → 64 < length rs → broken_record clocks rs ≡ None → ⊥
many_broken clocks rs many e = many_unfit clocks none 1 rs (omega (arith, many)) (omega arith) (clocks_pass clocks rs e).1

-- where there are more than 64 records, 59 stops what is asked behind it: so the first 66 are asked as all are
module _ {T : Type 0} (clocks : Clocks) (asked : List Constraint → Option Place → T) (stops : (p : Place) (rs qs : List Constraint) → asked rs (Some p) ≡ asked qs (Some p)) where
  pub by_broken : (qs rs : List Constraint) (b : Option Place) → broken_record clocks rs ≡ b → 64 < length rs → asked qs b ≡ asked rs b
  by_broken qs rs None e many = absurd (many_broken clocks rs many e)
  by_broken qs rs (Some p) e many = stops p qs rs

  pub asked_take : (rs : List Constraint) → asked (take 66 rs) (broken_record clocks (take 66 rs)) ≡ asked rs (broken_record clocks rs)
  asked_take rs = go (leb (length rs) 66) refl
    where
      go : (x : Bool) → leb (length rs) 66 ≡ x → asked (take 66 rs) (broken_record clocks (take 66 rs)) ≡ asked rs (broken_record clocks rs)
      go true e = rw (take_all 66 rs (leb-true (length rs) 66 e)) refl
      go false e = rw (broken_take clocks rs) (by_broken (take 66 rs) rs (broken_record clocks rs) refl (omega (arith, leb-false (length rs) 66 e)))

pub step_first_66 : (clocks : Clocks) (rs : List Constraint) (c : Configuration) (f : ℕ) → step_of clocks (take 66 rs) c f ≡ step_of clocks rs c f
unfolding step_of
step_first_66 clocks rs c f =
    asked_take clocks (λ qs b. refuses_at Records b c (refuses_at ConfigurationWord (broken_word qs c.words) c (refuses_at TickSet (beyond_clocks clocks f) c (judged_told (judged (all_ticks clocks qs c.words f) qs c))))) (λ p qs us. refl) rs

pub place_first_66 : (clocks : Clocks) (rs : List Constraint) (ws vs : List Word) → same_place_of clocks (take 66 rs) ws vs ≡ same_place_of clocks rs ws vs
place_first_66 clocks rs ws vs =
    asked_take clocks (λ qs b. refuse_at Records b (refuse_at ConfigurationWord (broken_word qs ws) (refuse_at ConfigurationWord (broken_word qs vs) (cond (same_words ws vs) same different)))) (λ p qs us. refl) rs
