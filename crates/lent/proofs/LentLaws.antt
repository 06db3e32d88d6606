-- The first 64 of the records, and what a walk over them comes to past the last; how many a doorway lends. Assumes nothing.
use mathlib.Core.Path.{◌≡◌, refl, sym, ap, ◌∙◌, subst}
use mathlib.Core.Bool.{Bool, true, false, cond}
use mathlib.Core.List.{List, []}
use Prim.Native.Nat.{ℕ, ◌≤◌, min}
use native.Mathlib.Omega.{arith}
use lib.Dec.{leb, lit≤}
use lib.ListN.{length, take, drop, drop_of_length-le}
use Rattle.std.proofs.lemmas.List.{take_min}
use borrow.Author.Tests.{leb-true}
use Rattle.constraint.specs.declared.Constraint.{Constraint}
use Rattle.constraint.specs.declared.Word.{Word}
use Rattle.lent.specs.Compare.{compared_all}
use Rattle.lent.specs.Lent.{at_most}
use Rattle.lent.specs.Survey.{Walked, surveyed}
use Rattle.lent.specs.declared.Comparison.{Comparison}

first_64 : (rs : List Constraint) (n : ℕ) → n ≡ min (length rs) 64 → take n rs ≡ take 64 rs
first_64 rs n e = let m : n ≡ min 64 (length rs) = omega (arith, e) in rw m (take_min 64 rs)

module _ (rs : List Constraint) (i n : ℕ) (first : n ≡ min (length rs) 64) (past : length (take n rs) ≤ i) where
  none_left : drop i (take n rs) ≡ []
  none_left = drop_of_length-le (take n rs) {i = i} past

  pub survey_done : (k s : Walked) → surveyed i k (drop i (take n rs)) ≡ surveyed 0 s (take n rs) → k ≡ surveyed 0 s (take 64 rs)
  unfolding surveyed
  survey_done k s e = rw (none_left) at e ∙ ap (surveyed 0 s) (first_64 rs n first)

  pub compare_done : (ws vs : List Word) (k c : Comparison) → compared_all i k (drop i (take n rs)) ws vs ≡ compared_all 0 c (take n rs) ws vs → k ≡ compared_all 0 c (take 64 rs) ws vs
  unfolding compared_all
  compare_done ws vs k c e = rw (none_left) at e ∙ ap (λ (qs : List Constraint). compared_all 0 c qs ws vs) (first_64 rs n first)

-- ---- how many a doorway lends

pub few_lent : (count m : ℕ) → m ≡ at_most count → m ≤ 66
few_lent count m is = subst (λ (k : ℕ). k ≤ 66) (sym is) (go (leb count 66) refl)
  where
    go : (t : Bool) → leb count 66 ≡ t → cond t count 66 ≤ 66
    go true e = leb-true count 66 e
    go false e = lit≤ tt
