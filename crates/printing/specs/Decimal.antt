-- Integers in decimal digits, with a minus sign where negative. Assumes nothing.
use Rattle.std.specs.Prelude.{◌≡◌, refl, List, ◌∷◌, ℕ, suc, ℤ, pos, negsuc}
use Rattle.text.specs.Ascii.{ascii}
use Rattle.text.specs.Digits.{digits, digits_of}

-- `-` is byte 45; `negsuc n` is -(n + 1)
abbrev pub signed : ℤ → List ℕ
signed (pos n) = digits n
signed (negsuc n) = 45 ∷ digits (suc n)

negative_is : signed (negsuc 6) ≡ ascii "-7"
unfolding digits digits_of
negative_is = refl
