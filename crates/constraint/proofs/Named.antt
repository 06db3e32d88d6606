-- Which clocks a form names, and that it looks at no other. Assumes nothing.
use mathlib.Core.Path.{◌≡◌, refl, sym, ◌∙◌}
use mathlib.Core.Bool.{Bool, true, false, false≢true}
use mathlib.Core.List.{List, [], ◌∷◌, map}
use Prim.Native.Nat.{ℕ}
use Rattle.constraint.specs.Meaning.{operands, named, clocks_of, parameter_fits, relation_counter, definition_counter, due, holds_when, counter_of, change, holds, next_word}
use Rattle.constraint.specs.Ticks.{Ticks}
use Rattle.constraint.specs.declared.Constraint.{Constraint}
use Rattle.constraint.specs.declared.Definition.{Definition}
use Rattle.constraint.specs.declared.Definition.TheVariants.{Union, Inter, Lub, Glb, Await, StrictlySampled, Sampled, Upto, Deferred}
use Rattle.constraint.specs.declared.Kind.{Kind}
use Rattle.constraint.specs.declared.Kind.TheVariants.{Empty, Relates, Defines}
use Rattle.constraint.specs.declared.Relation.{Relation}
use Rattle.constraint.specs.declared.Relation.TheVariants.{Coincides, Excludes, SubClock, StrictlyPrecedes, Precedes}
use Rattle.constraint.specs.declared.Word.{Word}

-- ---- what a definition has: a pair of operands, and no number that could not fit; an await one operand and a number; a delay a pair and a list

pub data Arity : Definition → Type 1 where
  two : {k : Definition} → ((A : Type 0) (a b : A) → operands k a b ≡ a ∷ b ∷ []) → (parameter_fits (definition_counter k) ≡ true) → Arity k
  one : {n : ℕ} → Arity (Await n)
  listed : {ns : List ℕ} → Arity (Deferred ns)

abbrev pub arity : (k : Definition) → Arity k
arity Union = two (λ A a b. refl) refl
arity Inter = two (λ A a b. refl) refl
arity Lub = two (λ A a b. refl) refl
arity Glb = two (λ A a b. refl) refl
arity (Await n) = one
arity StrictlySampled = two (λ A a b. refl) refl
arity Sampled = two (λ A a b. refl) refl
arity Upto = two (λ A a b. refl) refl
arity (Deferred ns) = listed

-- a definition of two operands and nothing else
abbrev pub paired : {k : Definition} → Arity k → Bool
paired (two f g) = true
paired one = false
paired listed = false

pub paired_operands : {A : Type 0} {k : Definition} (x : Arity k) (a b : A) → paired x ≡ true → operands k a b ≡ a ∷ b ∷ []
paired_operands (two f g) a b e = f _ a b
paired_operands one a b e = absurd (false≢true e)
paired_operands listed a b e = refl

pub paired_fits : {k : Definition} (x : Arity k) → paired x ≡ true → parameter_fits (definition_counter k) ≡ true
paired_fits (two f g) e = g
paired_fits one e = absurd (false≢true e)
paired_fits listed e = absurd (false≢true e)

pub relation_fits : (k : Relation) → parameter_fits (relation_counter k) ≡ true
relation_fits Coincides = refl
relation_fits Excludes = refl
relation_fits SubClock = refl
relation_fits StrictlyPrecedes = refl
relation_fits Precedes = refl

-- ---- which places of a form are named does not depend on what stands there

map_operands : {A B : Type 0} (f : A → B) {k : Definition} → Arity k → (a b : A) → map f (operands k a b) ≡ operands k (f a) (f b)
map_operands f (two e g) a b = rw (e _ a b, e _ (f a) (f b))
map_operands f one a b = refl
map_operands f listed a b = refl

pub map_named : {A B : Type 0} (f : A → B) (k : Kind) (a b c : A) → map f (named k a b c) ≡ named k (f a) (f b) (f c)
map_named f Empty a b c = refl
map_named f (Relates k) a b c = refl
map_named f (Defines k) a b c = rw (map_operands f (arity k) a b)

-- ---- a form looks only at the clocks that it names

due_named : {k : Definition} → Arity k → (w : Word) (a b x y : Bool) → operands k a b ≡ operands k x y → due k w a b ≡ due k w x y
due_named (two f g) w a b x y e = let t : a ∷ b ∷ [] ≡ x ∷ y ∷ [] = sym (f Bool a b) ∙ e ∙ f Bool x y in cc
due_named one w a b x y e = cc
due_named listed w a b x y e = cc

pub due_looks : (k : Definition) (w : Word) (F G : Ticks) (a b : ℕ) → map F (operands k a b) ≡ map G (operands k a b) → due k w (F a) (F b) ≡ due k w (G a) (G b)
due_looks k w F G a b e = due_named (arity k) w _ _ _ _ (sym (map_operands F (arity k) a b) ∙ e ∙ map_operands G (arity k) a b)

pub holds_named : (k : Kind) (w : Word) (a b c x y z : Bool) → named k a b c ≡ named k x y z → holds_when k w a b c ≡ holds_when k w x y z
holds_named Empty w a b c x y z e = refl
holds_named (Relates k) w a b c x y z e = cc
holds_named (Defines k) w a b c x y z e =
    let t : operands k a b ≡ operands k x y = cc in
    cc (due_named (arity k) w a b x y t)

change_operands : {k : Definition} → Arity k → (w : Word) (a b x y : Bool) → operands k a b ≡ operands k x y → change (counter_of (Defines k)) w a b ≡ change (counter_of (Defines k)) w x y
change_operands (two f g) w a b x y e = let t : a ∷ b ∷ [] ≡ x ∷ y ∷ [] = sym (f Bool a b) ∙ e ∙ f Bool x y in cc
change_operands one w a b x y e = cc
change_operands listed w a b x y e = cc

pub change_named : (k : Kind) (w : Word) (a b c x y z : Bool) → named k a b c ≡ named k x y z → change (counter_of k) w a b ≡ change (counter_of k) w x y
change_named Empty w a b c x y z e = refl
change_named (Relates k) w a b c x y z e = cc
change_named (Defines k) w a b c x y z e =
    let t : operands k a b ≡ operands k x y = cc in
    change_operands (arity k) w a b x y t

-- ---- of a record: two tick sets that agree on its clocks are one to it
module _ (r : Constraint) (w : Word) (F G : Ticks) (e : map F (clocks_of r) ≡ map G (clocks_of r)) where
  seen : named r.kind (F r.first) (F r.second) (F r.defined) ≡ named r.kind (G r.first) (G r.second) (G r.defined)
  seen = sym (map_named F r.kind r.first r.second r.defined) ∙ e ∙ map_named G r.kind r.first r.second r.defined

  pub holds_looks : holds r w F ≡ holds r w G
  holds_looks = holds_named r.kind w _ _ _ _ _ _ seen

  pub next_looks : next_word r w F ≡ next_word r w G
  next_looks = rw (change_named r.kind w _ _ _ _ _ _ seen)
