-- The definitions of a list of records in working order: document 02, M-102. Assumes nothing.
use Rattle.std.specs.Prelude.{◌≡◌, refl, ◌↔◌, List, [], ◌∷◌, ◌++◌, map, ℕ, zero, suc, ◌-◌, ◌≤◌, length, replicate, Option, None, Some, Result, Ok, Err}
use Rattle.limit.specs.Limit.{number_of}
use Rattle.limit.specs.declared.Limit.{Limit}
use Rattle.limit.specs.declared.Limit.TheVariants.{Records, Circle}
use Rattle.limit.specs.declared.Place.{Place}
use Rattle.limit.specs.declared.Refusal.{Refusal}
use Rattle.constraint.specs.Lists.{counting, empty, broken_record}
use Rattle.constraint.specs.Meaning.{defined_of, used_of, among}
use Rattle.constraint.specs.SamePlace.{record_at}
use Rattle.constraint.specs.Ticks.{any}
use Rattle.constraint.specs.declared.Clocks.{Clocks}
use Rattle.constraint.specs.declared.Constraint.{Constraint}
use Rattle.constraint.specs.declared.Definition.TheVariants.{Union, Await}
use Rattle.constraint.specs.declared.Kind.TheVariants.{Relates, Defines}
use Rattle.constraint.specs.declared.Relation.TheVariants.{Precedes}
use Rattle.order.specs.Rests.{Links, Lowest, nothing, is, in_turns, and_then, order, closed, circle, SomeOrder, Ordered, LowestOnCircle}
use Rattle.arrayvec.specs.ArrayVec.{ArrayVec}

-- ---- what is listed, and what rests on what

-- record i of a list, from 1; there is no record 0
abbrev pub record_of : List Constraint → ℕ → Constraint
record_of rs zero = empty
record_of rs (suc i) = record_at rs i

-- the numbers of the records that define a clock, in a list whose first record has the number i
abbrev pub definitions_from : (i : ℕ) → List Constraint → List ℕ
definitions_from i [] = []
definitions_from i (r ∷ rs) = map (λ c. i) (defined_of r) ++ definitions_from (suc i) rs

abbrev pub definitions : List Constraint → List ℕ
definitions rs = definitions_from 1 rs

-- record i rests on record j, which is one of "the definitions of its operands": j defines an operand of i
abbrev pub rests_on : List Constraint → Links
rests_on rs i j = any (λ c. among c (used_of (record_of rs i))) (defined_of (record_of rs j))

-- ---- the answer in document 02's words: the list, or `refused` with number and place

pub data OrderSaid : Type 0 where
  listed : OrderSaid
  refused : (number place : ℕ) → OrderSaid

-- how many records are listed, and their numbers, in 32 places
pub record OrderTold : Type 0 where
  pub said : OrderSaid
  pub count : ℕ
  pub records : List ℕ

-- of a list, 0 stands behind the last
abbrev pub order_told : Result (ArrayVec ℕ) Refusal → OrderTold
order_told (Ok o) = record { said = listed; count = length o.items; records = o.items ++ replicate (32 - length o.items) 0 }
order_told (Err r) = record { said = refused (number_of r.limit) r.place.0; count = 0; records = replicate 32 0 }

-- the claim: no two values of the answer in code have one meaning
abbrev pub OrderSaidDetermines : Type 0
OrderSaidDetermines = (x y : Result (ArrayVec ℕ) Refusal) → order_told x ≡ order_told y → x ≡ y

-- numbers in so many places, 0 in those behind the last
abbrev pub places : ℕ → List ℕ → List ℕ
places zero xs = []
places (suc n) [] = 0 ∷ places n []
places (suc n) (x ∷ xs) = x ∷ places n xs

abbrev pub listing : List ℕ → OrderTold
listing xs = record { said = listed; count = length xs; records = places 32 xs }

-- a refused list is empty
abbrev pub refusing : Limit → (place : ℕ) → OrderTold
refusing l p = record { said = refused (number_of l) p; count = 0; records = replicate 32 0 }

-- ---- "21 exactly when no such order exists, its place the lowest record lying on a circle; it … comes after 59"; else the definitions in working
-- order

abbrev pub order_at : Option Place → Lowest → List ℕ → OrderTold
order_at (Some p) c xs = refusing Records p.0
order_at None (is p) xs = refusing Circle p
order_at None nothing xs = listing xs

unfoldable pub order_of : Clocks → List Constraint → OrderTold
order_of clocks rs = order_at (broken_record clocks rs) (circle (rests_on rs) (definitions rs)) (order (rests_on rs) (definitions rs))

-- ---- what the answer means

-- when it is refused: 59; 21 where no order exists, at the lowest record that lies on a circle
pub data OrderRefuses (clocks : Clocks) (rs : List Constraint) : (number place : ℕ) → Type 0 where
  by_records : {p : Place} → broken_record clocks rs ≡ Some p → OrderRefuses clocks rs (number_of Records) p.0
  by_circle : {p : ℕ} → broken_record clocks rs ≡ None → (SomeOrder (rests_on rs) (definitions rs) → ⊥) → LowestOnCircle (rests_on rs) p → OrderRefuses clocks rs (number_of Circle) p

pub record WorkingOrder (clocks : Clocks) (rs : List Constraint) : Type 0 where
  -- exactly then, with that number and place, and the list is empty
  pub refuses : (n p : ℕ) → (order_of clocks rs).said ≡ refused n p ↔ OrderRefuses clocks rs n p
  pub empties : (n p : ℕ) → (order_of clocks rs).said ≡ refused n p → ((order_of clocks rs).count ≡ 0) × ((order_of clocks rs).records ≡ replicate 32 0)
  -- listed exactly when 59 lets the records pass and an order exists; the list is then the one with the lowest ready record each time, of which
  -- there is no other, and it has room in the 32 places
  pub lists : (order_of clocks rs).said ≡ listed ↔ (broken_record clocks rs ≡ None) × SomeOrder (rests_on rs) (definitions rs)
  pub works : (order_of clocks rs).said ≡ listed → (xs : List ℕ) × Ordered (rests_on rs) (definitions rs) xs × (order_of clocks rs ≡ listing xs) × (length xs ≤ 32)
  pub only : (xs ys : List ℕ) → Ordered (rests_on rs) (definitions rs) xs → Ordered (rests_on rs) (definitions rs) ys → xs ≡ ys

abbrev pub EveryWorkingOrder : Type 0
EveryWorkingOrder = (clocks : Clocks) (rs : List Constraint) → WorkingOrder clocks rs

-- ---- worked examples

abbrev union : (c a b : ℕ) → Constraint
union c a b = record { kind = Defines Union; defined = c; first = a; second = b; line = record { 0 = 0 } }

abbrev precedes : (a b : ℕ) → Constraint
precedes a b = record { kind = Relates Precedes; defined = 0; first = a; second = b; line = record { 0 = 0 } }

abbrev awaits : (c a b : ℕ) → Constraint
awaits c a b = record { kind = Defines (Await 1); defined = c; first = a; second = b; line = record { 0 = 0 } }

-- 1 rests on 2, and 3 is free
two_one_three : order_of (counting 6) (union 0 1 2 ∷ union 1 2 3 ∷ union 4 2 5 ∷ []) ≡ listing (2 ∷ 1 ∷ 3 ∷ [])
unfolding order_of in_turns and_then closed
two_one_three = refl

-- a relation and an empty record keep their numbers; an await has one operand, and the other number in it is none
others_kept : order_of (counting 4) (precedes 0 1 ∷ union 3 2 0 ∷ empty ∷ awaits 2 1 3 ∷ []) ≡ listing (4 ∷ 2 ∷ [])
unfolding order_of in_turns and_then closed
others_kept = refl

-- 5 and 9 rest on each other, and 2 on 9
five_and_nine :
    order_of (counting 6) (empty ∷ union 4 3 0 ∷ empty ∷ empty ∷ union 2 3 0 ∷ empty ∷ precedes 2 3 ∷ empty ∷ union 3 2 1 ∷ []) ≡ refusing Circle 5
unfolding order_of in_turns and_then closed
five_and_nine = refl

-- `(b clockUnion a)`, the implicit clock 3 of the named clocks a, b and c, and b defined by it; where 3 is defined below, 59 comes first
abbrev implicit : Clocks
implicit = record { named = 3; count = 4 }

through_implicit : order_of implicit (union 3 1 0 ∷ union 1 3 2 ∷ []) ≡ refusing Circle 1
unfolding order_of in_turns and_then closed
through_implicit = refl

records_first : order_of implicit (union 1 3 2 ∷ union 3 1 0 ∷ []) ≡ refusing Records 1
unfolding order_of in_turns and_then closed
records_first = refl

-- no definition
nothing_listed : order_of (counting 2) (precedes 0 1 ∷ []) ≡ record { said = listed; count = 0; records = replicate 32 0 }
unfolding order_of in_turns and_then closed
nothing_listed = refl
