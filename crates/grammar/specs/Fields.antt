-- Of the code's shape: an array that holds a list, and one value behind its last item, so that equal lists are equal arrays. Assumes nothing.
use Rattle.std.specs.Prelude.{◌≡◌, ℕ, List, ◌-◌, ◌≤◌, ◌++◌, replicate, take, length}

abbrev pub padded : {A : Type 0} → (room : ℕ) → A → List A → List A
padded room d xs = xs ++ replicate (room - length xs) d

abbrev pub IsPadded : {A : Type 0} → (room : ℕ) → A → (count : ℕ) → List A → Type 0
IsPadded room d n xs = (n ≤ room) × (length (take n xs) ≡ n) × (xs ≡ padded room d (take n xs))
