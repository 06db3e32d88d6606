-- Of the code's shape: what its parts leave in the buffer, a text from an offset on, and every other byte as it was. What
-- a caller is promised stands in `Printed`. Assumes nothing.
use Rattle.std.specs.Prelude.{◌≡◌, List, ℕ, ◌+◌, ◌≤◌, length}
use Rattle.std.proofs.lemmas.List.Edits.{sets}

pub record Put (before : List ℕ) (at : ℕ) (text : List ℕ) (after : List ℕ) (end : ℕ) : Type 0 where
  pub stored : after ≡ sets before at text
  pub ends : end ≡ at + length text

-- a text of at most room bytes
pub record Short (room : ℕ) (before : List ℕ) (at : ℕ) (text : List ℕ) (after : List ℕ) (end : ℕ) : Type 0 where
  pub put : Put before at text after end
  pub short : end ≤ at + room
