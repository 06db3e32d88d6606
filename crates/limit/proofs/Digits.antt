-- The digits of a number of 64 bits are those that std prints. Assumes nothing.
use Rattle.std.proofs.Common.{◌≡◌, ℕ, suc, ◌+◌, ◌/◌, ◌%◌, ◌<◌, ◌≤◌, ◌^◌, ◌++◌, ◌∷◌, [], arith, length}
use borrow.Author.Tests.{lt-ltb, le-ltb}
use Rattle.std.specs.Fmt.{decimal}
use Rattle.std.proofs.lemmas.Fmt.{decimal_from_appends, length-decimal-le_succ}
use Rattle.text.specs.Digits.{digits, digits_of}

one : (k n : ℕ) → n < 10 → digits_of (suc k) n ≡ (48 + n) ∷ []
unfolding digits_of
one k n h = let e : n % 10 ≡ n = omega arith in rw (lt-ltb n 10 h, e)

more : (k n : ℕ) → 10 ≤ n → digits_of (suc k) n ≡ digits_of k (n / 10) ++ ((48 + n % 10) ∷ [])
unfolding digits_of
more k n h = rw (le-ltb n 10 h)

pub digits_decimal : (n : ℕ) → n < 2 ^ 64 → digits n ≡ decimal n
unfolding digits
digits_decimal n h =
    let l : length (decimal n) ≤ suc n = omega (arith, length-decimal-le_succ n h) in
    decimal_from_appends digits_of (record { one = one; more = more }) (suc n) n h l
