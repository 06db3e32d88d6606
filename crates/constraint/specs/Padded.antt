-- Of the code's shape: a list in eight bytes, with zeros behind it. Assumes nothing.
use Rattle.std.specs.Prelude.{ℕ, List, ◌-◌, ◌++◌, replicate, length}

abbrev pub padded : List ℕ → List ℕ
padded ns = ns ++ replicate (8 - length ns) 0
