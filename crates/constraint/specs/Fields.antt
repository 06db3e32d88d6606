-- Of the code's shape: the fields of a delay's list are those that its numbers give. Assumes nothing.
use Rattle.std.specs.Prelude.{◌≡◌, ℕ, List, ◌≤◌, take, length}
use Rattle.std.proofs.Common.{sym}
use mathlib.Core.Path.{ap₂}
use Rattle.constraint.specs.Padded.{padded}
use Rattle.constraint.specs.declared.delays.Delays.TheInside.{Inside}

abbrev pub numbers_shown : Inside → List ℕ
numbers_shown d = take d.count d.numbers

abbrev pub IsPadded : Inside → Type 0
IsPadded d = (d.count ≤ 8) × (length (numbers_shown d) ≡ d.count) × (d.numbers ≡ padded (numbers_shown d))

abbrev pub fields : List ℕ → Inside
fields ns = record { numbers = padded ns; count = length ns }

pub fields_back : (d : Inside) → IsPadded d → fields (numbers_shown d) ≡ d
fields_back d h = let made : List ℕ → ℕ → Inside = λ ns n. record { numbers = ns; count = n } in ap₂ made (sym h.2) h.1
