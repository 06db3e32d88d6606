-- The first numbers of a list, and what 59 says of them. Assumes nothing.
use mathlib.Core.Path.{◌≡◌, refl, sym, ap, ◌∙◌}
use mathlib.Core.Bool.{Bool, true, false, cond, ◌&&◌, and-false}
use mathlib.Core.List.{[], ◌∷◌}
use Prim.Native.Nat.{ℕ, zero, suc, ◌/◌, ◌%◌, ◌≤◌, ◌<◌}
use native.Mathlib.Omega.{arith}
use borrow.Author.Tests.{leb-true, leb-false, eqb-true}
use lib.Dec.{leb, eqb}
use lib.ListN.{length, take}
use lib.Seq.{length-take-le}
use Rattle.std.specs.List.{list_all}
use Rattle.constraint.specs.Meaning.{delay_fits, parameter_fits}
use Rattle.constraint.specs.declared.Counter.TheVariants.{Pending}
use Rattle.monitor_c.specs.Numbers.{numbers_in, all_fit, ListsFit}

-- of the first numbers, as many as are asked for, all fit where the bytes do
first_fit : (j k x : ℕ) → k ≤ length (numbers_in j x) → list_all delay_fits (take k (numbers_in j x)) ≡ all_fit k x
first_fit j zero x h = refl
first_fit zero (suc k) x h = absurd (omega arith)
first_fit (suc j) (suc k) x h = go (eqb (x % 256) 0) h (first_fit j k (x / 256))
  where
    go : (z : Bool) → suc k ≤ length (cond z [] (x % 256 ∷ numbers_in j (x / 256)))
        → (k ≤ length (numbers_in j (x / 256)) → list_all delay_fits (take k (numbers_in j (x / 256))) ≡ all_fit k (x / 256))
        → list_all delay_fits (take (suc k) (cond z [] (x % 256 ∷ numbers_in j (x / 256)))) ≡ all_fit (suc k) x
    go true h onward = absurd (omega arith)
    go false h onward = rw (onward (omega arith)) refl

-- a list that has fewer numbers than are asked for has a 0 among the bytes
fewer : (j k x : ℕ) → length (numbers_in j x) < k → k ≤ j → all_fit k x ≡ false
fewer j zero x h l = absurd (omega arith)
fewer zero (suc k) x h l = absurd (omega arith)
fewer (suc j) (suc k) x h l = go (eqb (x % 256) 0) refl h (fewer j k (x / 256))
  where
    go : (z : Bool) → eqb (x % 256) 0 ≡ z → length (cond z [] (x % 256 ∷ numbers_in j (x / 256))) < suc k
        → (length (numbers_in j (x / 256)) < k → k ≤ j → all_fit k (x / 256) ≡ false) → all_fit (suc k) x ≡ false
    go true e h more = rw (eqb-true (x % 256) 0 e) refl
    go false e h more = rw (more (omega arith) (omega arith)) (and-false (leb 1 (x % 256) && leb (x % 256) 32))

pub lists_fit : ListsFit
lists_fit x k = go (leb k (length (numbers_in 8 x))) refl
  where
    none : (y : Bool) → leb k 8 ≡ y → length (numbers_in 8 x) < k → ((leb 1 k && y) && all_fit k x) ≡ false
    none true e h = rw (fewer 8 k x h (leb-true k 8 e)) (and-false (leb 1 k && true))
    none false e h = rw (and-false (leb 1 k)) refl

    go : (y : Bool) → leb k (length (numbers_in 8 x)) ≡ y → parameter_fits (Pending (cond y (take k (numbers_in 8 x)) [])) ≡ ((leb 1 k && leb k 8) && all_fit k x)
    go true e =
        let h : k ≤ length (numbers_in 8 x) = leb-true k (length (numbers_in 8 x)) e in
        ap (λ (n : ℕ). (leb 1 n && leb n 8) && list_all delay_fits (take k (numbers_in 8 x))) (length-take-le k (numbers_in 8 x) h)
        ∙ ap (λ (b : Bool). (leb 1 k && leb k 8) && b) (first_fit 8 k x h)
    go false e = sym (none (leb k 8) refl (leb-false k (length (numbers_in 8 x)) e))
