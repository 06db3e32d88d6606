-- A turn over the records, by their slots: a record that is no definition adds none. Assumes nothing.
use mathlib.Core.Path.{◌≡◌, refl}
use mathlib.Core.List.{List, [], ◌++◌, map}
use Prim.Native.Nat.{ℕ, ◌+◌, ◌<◌}
use native.Mathlib.Numerals.{add-one}
use lib.ListN.{length, take, drop, get_or}
use Rattle.constraint.specs.Lists.{empty, slots}
use Rattle.constraint.specs.Meaning.{defined_by, defined_of}
use Rattle.constraint.specs.declared.Constraint.{Constraint}
use Rattle.constraint.specs.declared.Definition.{Definition}
use Rattle.constraint.specs.declared.Kind.{Kind}
use Rattle.constraint.specs.declared.Kind.TheVariants.{Empty, Relates, Defines}
use Rattle.constraint.proofs.Slots.{get_d_any, slots_cons}
use Rattle.order.specs.Rows.{defined_as, gathered}
use Rattle.order.specs.declared.Defined.{Defined}

-- what is no definition defines no clock
defined_none : (k : Kind) (c : ℕ) → ((d : Definition) → k ≡ Defines d → ⊥) → defined_by k c ≡ []
defined_none Empty c h = refl
defined_none (Relates k) c h = refl
defined_none (Defines k) c h = absurd (h k refl)

-- the first m of a list are those of the records before place i
module _ (m : ℕ) (list : List Defined) (n : ℕ) (rs : List Constraint) (i : ℕ) (d : Constraint) (more : i < n) (inside : i < length rs) where
  gathered_turn :
      gathered (i + 1) (drop i (slots n rs))
      ≡ map (defined_as (i + 1) (get_or rs i d)) (defined_of (get_or rs i d)) ++ gathered (i + 1 + 1) (drop (i + 1) (slots n rs))
  gathered_turn = rw (slots_cons n rs i more, get_d_any rs i empty d inside, add-one (i + 1), add-one i)

  pub gathered_over :
      ((k : Definition) → (get_or rs i d).kind ≡ Defines k → ⊥)
      → take m list ++ gathered (i + 1) (drop i (slots n rs)) ≡ take m list ++ gathered (i + 1 + 1) (drop (i + 1) (slots n rs))
  gathered_over h = rw (gathered_turn, defined_none (get_or rs i d).kind (get_or rs i d).defined h)
