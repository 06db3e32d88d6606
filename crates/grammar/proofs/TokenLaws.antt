-- What a word is, test by test; and what every word is, by the form words and the shapes alone. Assumes nothing.
use mathlib.Core.Path.{◌≡◌, refl}
use mathlib.Core.Bool.{Bool, true, false, cond, ◌&&◌}
use mathlib.Core.List.{List, [], ◌∷◌}
use Prim.Native.Nat.{ℕ}
use native.Mathlib.Omega.{arith}
use borrow.Author.Tests.{eqb-true}
use lib.ListN.{length, get_or}
use Rattle.constraint.proofs.Booleans.{and_l, and_r}
use Rattle.text.specs.Bytes.{letter, digit, in_class, all_bytes, same_bytes}
use Rattle.text.specs.declared.Class.TheVariants.{NameByte}
use Rattle.text.proofs.Bytes.{same_equal}
use Rattle.grammar.specs.Tokens.{tag, is, Spelled, ◌says◌, shape_of, look_up}
use Rattle.grammar.specs.declared.Token.{Token}
use Rattle.grammar.specs.declared.Token.TheVariants.{End, Other, Name, Digits}

-- a word that is of one kind is of no other
pub told_apart : (j k x : Token) → is j x ≡ true → is k x ≡ is k j
told_apart j k x e = rw (← eqb-true (tag j) (tag x) e)

pub shape_none : (w : List ℕ) → length w ≡ 0 → End ≡ shape_of w
unfolding shape_of
shape_none [] e = refl
shape_none (b ∷ bs) e = absurd (omega arith)

pub shape_some : (w : List ℕ) → (length w ≡ 0 → ⊥) → shape_of w ≡ cond (all_bytes digit w) Digits (cond (letter (get_or w 0 0) && all_bytes (in_class NameByte) w) Name Other)
unfolding shape_of
shape_some [] h = absurd (h refl)
shape_some (b ∷ bs) h = refl

-- ---- a test that each form word passes with its token, and a word with its shape, is passed by the word with its token
abbrev pub all_spelled : (Spelled → Bool) → List Spelled → Bool
all_spelled q [] = true
all_spelled q (s ∷ ss) = q s && all_spelled q ss

pub look_all : (q : Spelled → Bool) (w : List ℕ) → q (w says shape_of w) ≡ true → (ss : List Spelled) → all_spelled q ss ≡ true → q (w says look_up w ss) ≡ true
unfolding look_up
look_all q w e [] a = e
look_all q w e (s ∷ ss) a = go (same_bytes w s.bytes) refl (look_all q w e ss (and_r (q s) (all_spelled q ss) a))
  where
    go : (x : Bool) → same_bytes w s.bytes ≡ x → q (w says look_up w ss) ≡ true → q (w says cond x s.token (look_up w ss)) ≡ true
    go true p ih = rw (same_equal w s.bytes p) (and_l (q s) (all_spelled q ss) a)
    go false p ih = ih

-- what a test says of the four shapes it says of every word's shape
pub shape_all : (q : Token → Bool) (x : Bool) → q End ≡ x → q Digits ≡ x → q Name ≡ x → q Other ≡ x → (w : List ℕ) → q (shape_of w) ≡ x
unfolding shape_of
shape_all q x e d n o [] = e
shape_all q x e d n o (b ∷ bs) = go (all_bytes digit (b ∷ bs)) (letter b && all_bytes (in_class NameByte) (b ∷ bs))
  where
    go : (y z : Bool) → q (cond y Digits (cond z Name Other)) ≡ x
    go true z = d
    go false true = n
    go false false = o
