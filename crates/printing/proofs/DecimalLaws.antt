-- The digits of a number, by its last digit; no two numbers have the same, and one below 10 ^ k has at most k of them; those of an integer of 64 bits
-- are those that std prints. Assumes nothing.
use Prim.Native.Nat.{ℕ, zero, suc, ◌+◌, ◌/◌, ◌%◌, ◌^◌, ◌≤◌, ◌<◌}
use mathlib.Core.Path.{◌≡◌, refl, sym, ap, ◌∙◌}
use mathlib.Core.List.{List, [], ◌∷◌, ◌++◌}
use mathlib.Core.Bool.{Bool, true, false, cond}
use native.Mathlib.Nat.{pow-suc}
use native.Mathlib.Omega.{arith}
use lib.Dec.{ltb}
use borrow.Author.Tests.{lt-ltb, le-ltb, ltb-false}
use lib.IntN.{ℤ, pos, negsuc, nat_abs}
use lib.ListN.{length, length-append}
use lib.Signed.{mag}
use Rattle.std.specs.Fmt.{signed_decimal}
use Rattle.limit.proofs.Digits.{digits_decimal}
use Rattle.text.specs.Digits.{value, digits_of, digits}
use Rattle.text.proofs.Decimals.{of_digits, value_digits}
use Rattle.printing.specs.Decimal.{signed}

-- the digits before the last
abbrev pub front : (ℕ → List ℕ) → ℕ → List ℕ
front ds n = cond (ltb n 10) [] (ds (n / 10))

front_same : (ds es : ℕ → List ℕ) (n : ℕ) → (10 ≤ n → ds (n / 10) ≡ es (n / 10)) → front ds n ≡ front es n
front_same ds es n h = go (ltb n 10) refl
  where
    go : (t : Bool) → ltb n 10 ≡ t → cond t [] (ds (n / 10)) ≡ cond t [] (es (n / 10))
    go true e = refl
    go false e = h (ltb-false n 10 e)

-- room enough is room enough
same_digits : (a b n : ℕ) → n < a → n < b → digits_of a n ≡ digits_of b n
unfolding digits_of
same_digits zero b n h k = absurd (omega arith)
same_digits (suc a) zero n h k = absurd (omega arith)
same_digits (suc a) (suc b) n h k =
    ap (λ (l : List ℕ). l ++ (48 + n % 10) ∷ []) (front_same (digits_of a) (digits_of b) n (λ m. same_digits a b (n / 10) (omega arith) (omega arith)))

pub digits_last : (n : ℕ) → digits n ≡ front digits n ++ (48 + n % 10) ∷ []
unfolding digits digits_of
digits_last n =
    ap (λ (l : List ℕ). l ++ (48 + n % 10) ∷ []) (front_same (digits_of n) digits n (λ m. same_digits n (suc (n / 10)) (n / 10) (omega arith) (omega arith)))

-- a number of one digit, and one of more
pub front_none : (n : ℕ) → n < 10 → front digits n ≡ []
front_none n h = rw (lt-ltb n 10 h)

pub front_some : (n : ℕ) → 10 ≤ n → front digits n ≡ digits (n / 10)
front_some n h = rw (le-ltb n 10 h)

pub digits_length : (n : ℕ) → length (digits n) ≡ length (front digits n) + 1
digits_length n = ap (λ (l : List ℕ). length l) (digits_last n) ∙ length-append (front digits n) ((48 + n % 10) ∷ [])

pub digits_once : (m n : ℕ) → digits m ≡ digits n → m ≡ n
digits_once m n e = sym (value_digits m) ∙ ap (λ (l : List ℕ). value 0 l) e ∙ value_digits n

-- ---- how many they are

-- a number below 10 ^ k, k above 0, has at most k
few : (n : ℕ) → 10 ≤ n → (ds : List ℕ) → ((k : ℕ) → n / 10 < 10 ^ suc k → length ds ≤ suc k) → (k : ℕ) → n < 10 ^ suc k → length (ds ++ (48 + n % 10) ∷ []) ≤ suc k
few n h ds ih zero b = absurd (omega arith)
few n h ds ih (suc k) b = omega (arith, length-append ds ((48 + n % 10) ∷ []), ih k (omega (arith, pow-suc 10 (suc k))))

pub digits_few : (n k : ℕ) → n < 10 ^ suc k → length (digits n) ≤ suc k
digits_few = of_digits (λ n ds. (k : ℕ) → n < 10 ^ suc k → length ds ≤ suc k) (λ n h k b. omega arith) few

pub digits_of_64 : (n : ℕ) → n < 2 ^ 64 → length (digits n) ≤ 20
digits_of_64 n h = digits_few n 19 (omega arith)

-- how far an integer of 64 bits is from 0
pub magnitude_few : (z : ℤ) → mag z < 2 ^ 63 → length (digits (nat_abs z)) ≤ 19
magnitude_few z h = digits_few (nat_abs z) 18 (near z h)
  where
    near : (z : ℤ) → mag z < 2 ^ 63 → nat_abs z < 10 ^ 19
    near (pos n) h = omega arith
    near (negsuc n) h = omega arith

-- ---- an integer of 64 bits as std prints it

pub signed_decimal_is : (z : ℤ) → mag z < 2 ^ 63 → signed z ≡ signed_decimal z
signed_decimal_is (pos n) h = digits_decimal n (omega arith)
signed_decimal_is (negsuc n) h = ap (λ (l : List ℕ). 45 ∷ l) (digits_decimal (suc n) (omega arith))
