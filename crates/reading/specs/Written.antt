-- What a call writes into a list of the caller's. Assumes nothing.
use Rattle.std.specs.Prelude.{List, ◌++◌, length, drop}

-- elements, in the place of the first of a list; the rest is left alone
abbrev pub written : {A : Type 0} → List A → List A → List A
written vs xs = vs ++ drop (length vs) xs
