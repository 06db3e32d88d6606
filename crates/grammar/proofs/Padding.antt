-- An array with one value behind its list: one item more. Assumes nothing.
use mathlib.Core.Path.{◌≡◌, refl, sym, ap, ◌∙◌}
use mathlib.Core.List.{List, [], ◌∷◌, ◌++◌}
use Prim.Native.Nat.{ℕ, suc, ◌+◌, ◌-◌, ◌≤◌, ◌<◌}
use native.Mathlib.Omega.{arith}
use lib.ListN.{length, take, set, replicate}
use Rattle.std.proofs.Common.{subst}
use Rattle.grammar.specs.Fields.{padded, IsPadded}

module _ {A : Type 0} where
  length_more : (xs : List A) (x : A) → length (xs ++ x ∷ []) ≡ length xs + 1
  length_more [] x = omega arith
  length_more (y ∷ ys) x = omega (arith, length_more ys x)

  put : (xs : List A) (k : ℕ) (d x : A) → set (xs ++ replicate (suc k) d) (length xs) x ≡ (xs ++ x ∷ []) ++ replicate k d
  put [] k d x = refl
  put (y ∷ ys) k d x = ap (λ (zs : List A). y ∷ zs) (put ys k d x)

  front : (xs ys : List A) → take (length xs) (xs ++ ys) ≡ xs
  front [] ys = refl
  front (x ∷ xs) ys = ap (λ (zs : List A). x ∷ zs) (front xs ys)

  padded_put : (room : ℕ) (d x : A) (xs : List A) → length xs < room → set (padded room d xs) (length xs) x ≡ padded room d (xs ++ x ∷ [])
  padded_put room d x xs h =
      let less : room - length xs ≡ suc (room - length (xs ++ x ∷ [])) = omega (arith, length_more xs x, h) in
      rw less (put xs (room - length (xs ++ x ∷ [])) d x)

  padded_is : (room n : ℕ) (d : A) (xs : List A) → n ≤ room → length xs ≡ n → IsPadded room d n (padded room d xs)
  padded_is room n d xs h e =
      let shown : take n (padded room d xs) ≡ xs = rw (← e) (front xs (replicate (room - length xs) d)) in
      (h, ap (λ (ys : List A). length ys) shown ∙ e, ap (padded room d) (sym shown))

  pub padded_more : (room n : ℕ) (d x : A) (xs : List A) → n < room → IsPadded room d n xs → IsPadded room d (n + 1) (set xs n x)
  padded_more room n d x xs h p =
      let all : set xs n x ≡ padded room d (take n xs ++ x ∷ []) =
      ap (λ (ys : List A). set ys n x) p.2
      ∙ (ap (λ (m : ℕ). set (padded room d (take n xs)) m x) (sym p.1)
      ∙ padded_put room d x (take n xs) (omega (arith, p.1, h))) in
      subst (IsPadded room d (n + 1)) (sym all) (padded_is room (n + 1) d (take n xs ++ x ∷ []) (omega (arith, h)) (omega (arith, p.1, length_more (take n xs) x)))
