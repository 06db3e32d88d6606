-- The list of a delay in a number that has a number a byte: its bytes up to the first 0. Assumes nothing.
use mathlib.Core.Path.{◌≡◌, refl, sym, ap, ◌∙◌}
use mathlib.Core.Bool.{Bool, true, false, cond, ◌||◌}
use mathlib.Core.List.{List, [], ◌∷◌, ◌++◌}
use Prim.Native.Nat.{ℕ, zero, suc, ◌+◌, ◌-◌, ◌*◌, ◌/◌, ◌%◌, ◌^◌, ◌≤◌, ◌<◌}
use native.Mathlib.Omega.{arith}
use Rattle.std.proofs.Math.Nat.{div-one, div-div-eq-div-mul, pow-suc}
use borrow.Author.Tests.{le-leb, lt-leb}
use lib.Dec.{leb, eqb}
use lib.ListN.{length, take, drop, replicate}
use Rattle.std.proofs.lemmas.List.{drop-replicate, length-append, length-replicate}
use Rattle.std.specs.Int.{bytes_low_first, byte_at, to_le_bytes, from_le_bytes, w64}
use Rattle.std.specs.List.{list_any}
use Rattle.monitor_c.specs.Numbers.{numbers_in, numbers, list_of, packed}

abbrev up_to_zero : List ℕ → List ℕ
up_to_zero [] = []
up_to_zero (b ∷ bs) = cond (eqb b 0) [] (b ∷ up_to_zero bs)

byte_is : (i x : ℕ) → x / 256 ^ i % 256 ≡ byte_at i x
byte_is zero x = rw (div-one x) refl
byte_is (suc i) x = refl

numbers_from : (i k x : ℕ) → numbers_in k (x / 256 ^ i) ≡ up_to_zero (bytes_low_first i k x)
numbers_from i zero x = refl
numbers_from i (suc k) x =
    let onward : x / 256 ^ i / 256 ≡ x / 256 ^ suc i = div-div-eq-div-mul x (256 ^ i) 256 ∙ ap (λ p. x / p) (sym (pow-suc 256 i)) in
    rw (byte_is i x, onward, numbers_from (suc i) k x) refl

numbers_are : (x : ℕ) → numbers x ≡ up_to_zero (to_le_bytes w64 x)
numbers_are x = ap (numbers_in 8) (sym (div-one x)) ∙ numbers_from 0 8 x

abbrev zero_among : List ℕ → Bool
zero_among bs = list_any (λ b. eqb b 0) bs

none_zero : (k : ℕ) (bs : List ℕ) → k ≤ length bs → zero_among (take k bs) ≡ false → (k ≤ length (up_to_zero bs)) × (take k (up_to_zero bs) ≡ take k bs)
none_zero zero bs room none = (omega arith, refl)
none_zero (suc k) [] room none = absurd (omega arith)
none_zero (suc k) (b ∷ bs) room none = go (eqb b 0) none (none_zero k bs (omega (arith, room)))
  where
    go : (z : Bool) → (z || zero_among (take k bs)) ≡ false → (zero_among (take k bs) ≡ false → (k ≤ length (up_to_zero bs)) × (take k (up_to_zero bs) ≡ take k bs))
        → (suc k ≤ length (cond z [] (b ∷ up_to_zero bs))) × (take (suc k) (cond z [] (b ∷ up_to_zero bs)) ≡ b ∷ take k bs)
    go true none onward = (cc)
    go false none onward = let h = onward none in (omega (arith, h.0), ap (λ (xs : List ℕ). b ∷ xs) h.1)

some_zero : (k : ℕ) (bs : List ℕ) → zero_among (take k bs) ≡ true → length (up_to_zero bs) < k
some_zero zero bs some = (cc)
some_zero (suc k) [] some = (cc)
some_zero (suc k) (b ∷ bs) some = go (eqb b 0) some (some_zero k bs)
  where
    go : (z : Bool) → (z || zero_among (take k bs)) ≡ true → (zero_among (take k bs) ≡ true → length (up_to_zero bs) < k) → length (cond z [] (b ∷ up_to_zero bs)) < suc k
    go true some onward = omega arith
    go false some onward = omega (arith, onward some)

-- how many numbers a list may be given
at_most_all : (k x : ℕ) → length (numbers_in k x) ≤ k
at_most_all zero x = omega arith
at_most_all (suc k) x = go (eqb (x % 256) 0) (at_most_all k (x / 256))
  where
    go : (z : Bool) → length (numbers_in k (x / 256)) ≤ k → length (cond z [] (x % 256 ∷ numbers_in k (x / 256))) ≤ suc k
    go true h = omega arith
    go false h = omega (arith, h)

-- the first k of a list, where it has as many
abbrev first_of : (k : ℕ) → List ℕ → List ℕ
first_of k ns = cond (leb k (length ns)) (take k ns) []

fewer : (k : ℕ) (ns : List ℕ) → length ns < k → [] ≡ first_of k ns
fewer k ns h = rw (lt-leb k (length ns) h) refl

as_many : (k : ℕ) (ns bs : List ℕ) → k ≤ length ns → take k ns ≡ take k bs → take k bs ≡ first_of k ns
as_many k ns bs h e = rw (le-leb k (length ns) h) (sym e)

module _ (x k : ℕ) where
  -- more numbers than there are bytes
  pub too_many : 8 < k → [] ≡ list_of x k
  too_many h = fewer k (numbers x) (omega (arith, at_most_all 8 x, h))

  -- its bytes
  module _ (bs : List ℕ) (are : bs ≡ to_le_bytes w64 x) (few : k ≤ 8) where
    pub zero_given : zero_among (take k bs) ≡ true → [] ≡ list_of x k
    zero_given some = fewer k (up_to_zero bs) (some_zero k bs some) ∙ ap (λ cs. first_of k (up_to_zero cs)) are ∙ ap (first_of k) (sym (numbers_are x))

    pub none_given : zero_among (take k bs) ≡ false → take k bs ≡ list_of x k
    none_given none =
        let h = none_zero k bs (omega (arith, ap length are)) none in
        as_many k (up_to_zero bs) bs h.0 h.1 ∙ ap (λ cs. first_of k (up_to_zero cs)) are ∙ ap (first_of k) (sym (numbers_are x))

-- ---- the number of a list

packed_padded : (ns : List ℕ) (k : ℕ) → packed (ns ++ replicate k 0) ≡ packed ns
packed_padded [] zero = refl
packed_padded [] (suc k) = ap (λ n. 0 + 256 * n) (packed_padded [] k)
packed_padded (n ∷ ns) k = ap (λ m. n + 256 * m) (packed_padded ns k)

packed_bytes : (bs : List ℕ) → length bs ≡ 8 → from_le_bytes w64 bs ≡ packed bs
packed_bytes [] e = absurd (omega arith)
packed_bytes (a ∷ []) e = absurd (omega arith)
packed_bytes (a ∷ b ∷ []) e = absurd (omega arith)
packed_bytes (a ∷ b ∷ c ∷ []) e = absurd (omega arith)
packed_bytes (a ∷ b ∷ c ∷ d ∷ []) e = absurd (omega arith)
packed_bytes (a ∷ b ∷ c ∷ d ∷ e ∷ []) s = absurd (omega arith)
packed_bytes (a ∷ b ∷ c ∷ d ∷ e ∷ f ∷ []) s = absurd (omega arith)
packed_bytes (a ∷ b ∷ c ∷ d ∷ e ∷ f ∷ g ∷ []) s = absurd (omega arith)
packed_bytes (a ∷ b ∷ c ∷ d ∷ e ∷ f ∷ g ∷ h ∷ []) s = omega arith
packed_bytes (a ∷ b ∷ c ∷ d ∷ e ∷ f ∷ g ∷ h ∷ i ∷ is) s = absurd (omega arith)

-- numbers in the first of eight bytes, with zeros behind them
pub packed_is : (bs ns : List ℕ) (k : ℕ) → bs ≡ ns → k ≡ length ns → k ≤ 8 → from_le_bytes w64 (bs ++ drop k (replicate 8 0)) ≡ packed ns
packed_is bs ns k e s few =
    let zeros : drop {A = ℕ} k (replicate 8 0) ≡ replicate (8 - k) 0 = drop-replicate k 8 0 in
    rw (e, zeros) (packed_bytes (ns ++ replicate (8 - k) 0) (omega (arith, length-append ns (replicate (8 - k) 0), length-replicate {A = ℕ} (8 - k) 0)) ∙ packed_padded ns (8 - k))
