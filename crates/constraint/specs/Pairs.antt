-- The two words of a constraint's part of a configuration: document 02, M-105. Assumes nothing.
use Rattle.std.specs.Prelude.{◌≡◌, refl, List, [], ◌∷◌, map, ℕ, ℤ, pos, negsuc}
use Rattle.constraint.specs.declared.Word.{Word}

-- w of document 01's table, or the pending ticks of a delay
abbrev pub first : Word → ℤ
first w = w.first

-- 0, or how many numbers of its list a delay has used
abbrev pub second : Word → ℤ
second w = w.second

-- the part that has these two words
abbrev pub together : (first second : ℕ) → Word
together p u = record { first = pos p; second = pos u }

-- any two words that are handed in
abbrev pub paired : (first second : ℤ) → Word
paired z y = record { first = z; second = y }

-- the words of 5 and 2; a first word below 0
five_and_two : map first (paired (pos 5) (pos 2) ∷ paired (negsuc 4) (pos 0) ∷ []) ≡ pos 5 ∷ negsuc 4 ∷ []
five_and_two = refl

and_two : map second (paired (pos 5) (pos 2) ∷ paired (negsuc 4) (pos 0) ∷ []) ≡ pos 2 ∷ pos 0 ∷ []
and_two = refl
