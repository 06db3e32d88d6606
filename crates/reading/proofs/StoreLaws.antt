-- Elements that are stored one behind the other: `sets` stores a list from a place on. Assumes nothing.
use mathlib.Core.Path.{◌≡◌, refl, ap, ◌∙◌}
use mathlib.Core.List.{List, [], ◌∷◌, ◌++◌}
use Prim.Native.Nat.{ℕ, suc, ◌+◌, ◌≤◌}
use native.Mathlib.Nat.{zero-add}
use native.Mathlib.Omega.{arith}
use lib.ListN.{length, set}
use lib.Seq.{sets, sets-eq}
use Rattle.reading.specs.Written.{written}

-- stored from the first place on, elements for which there is room are written
pub sets_written : {A : Type 0} (vs xs : List A) → length vs ≤ length xs → sets xs 0 vs ≡ written vs xs
sets_written vs xs room = sets-eq vs xs 0 (omega (arith, room)) ∙ rw (zero-add (length vs)) refl

pub sets_append : {A : Type 0} (us vs xs : List A) (i : ℕ) → sets xs i (us ++ vs) ≡ sets (sets xs i us) (i + length us) vs
sets_append [] vs xs i = ap (λ (k : ℕ). sets xs k vs) (omega arith)
sets_append (u ∷ us) vs xs i = sets_append us vs (set xs i u) (suc i) ∙ ap (λ (k : ℕ). sets (sets (set xs i u) (suc i) us) k vs) (omega arith)
