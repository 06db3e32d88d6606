-- Numbers of which some rest on others: the order in which each comes after those that it rests on, the lowest that is ready each time, and the
-- circles, with which there is no order. Document 02, M-102, of any numbers; `Order` says which they are of a list of records. Assumes nothing.
use Rattle.std.specs.Prelude.{◌≡◌, refl, ◌↔◌, Bool, true, false, not, cond, ◌&&◌, ◌||◌, List, [], ◌∷◌, ◌++◌, ℕ, zero, suc, ◌≤◌, eqb, length}
use Rattle.constraint.specs.Meaning.{among, distinct}
use Rattle.constraint.specs.Ticks.{any}

-- R i j: i rests on j
abbrev pub Links : Type 0
Links = ℕ → ℕ → Bool

-- i stands in a list
abbrev pub Stands : ℕ → List ℕ → Type 0
Stands i xs = among i xs ≡ true

-- ---- the first of a list that passes a test: of numbers that rise, the lowest

pub data Lowest : Type 0 where
  nothing : Lowest
  is : ℕ → Lowest

abbrev pub lowest : (ℕ → Bool) → List ℕ → Lowest
lowest test [] = nothing
lowest test (i ∷ xs) = cond (test i) (is i) (lowest test xs)

-- ---- the order, by what is left

-- i rests on none that is left
abbrev pub ready : Links → (left : List ℕ) → ℕ → Bool
ready R left i = not (any (R i) left)

abbrev pub lowest_ready : Links → (left : List ℕ) → Lowest
lowest_ready R left = lowest (ready R left) left

abbrev pub without : ℕ → List ℕ → List ℕ
without i [] = []
without i (j ∷ xs) = cond (eqb i j) (without i xs) (j ∷ without i xs)

unfoldable pub and_then : Lowest → (ℕ → List ℕ) → List ℕ
and_then nothing f = []
and_then (is i) f = i ∷ f i

-- "taking the lowest ready record each time": the lowest that is ready, and then the same of those left without it
unfoldable pub in_turns : Links → (turns : ℕ) → (left : List ℕ) → List ℕ
in_turns R zero left = []
in_turns R (suc n) left = and_then (lowest_ready R left) (λ i. in_turns R n (without i left))

abbrev pub order : Links → List ℕ → List ℕ
order R ds = in_turns R (length ds) ds

-- ---- the lowest on a circle

-- the links, and those that go by k
abbrev pub through : ℕ → Links → Links
through k R i j = R i j || R i k && R k j

-- and by all of a list
unfoldable pub closed : List ℕ → Links → Links
closed [] R = R
closed (k ∷ ks) R = closed ks (through k R)

abbrev pub circle : Links → List ℕ → Lowest
circle R ds = lowest (λ i. closed ds R i i) ds

-- ---- what these mean

-- every one of ds stands in xs, once, and nothing else does; and "each comes after" those that it rests on
pub record IsOrder (R : Links) (ds xs : List ℕ) : Type 0 where
  pub all : (i : ℕ) → Stands i ds ↔ Stands i xs
  pub once : distinct xs ≡ true
  pub after : (before later : List ℕ) (i j : ℕ) → xs ≡ before ++ i ∷ later → R i j ≡ true → Stands j before

abbrev pub SomeOrder : Links → List ℕ → Type 0
SomeOrder R ds = (xs : List ℕ) × IsOrder R ds xs

-- k can come straight behind some that are listed: it is one of ds, it is not listed yet, and all that it rests on are
pub record Ready (R : Links) (ds before : List ℕ) (k : ℕ) : Type 0 where
  pub one : Stands k ds
  pub new : Stands k before → ⊥
  pub rested : (j : ℕ) → R k j ≡ true → Stands j before

-- an order, in which at each place none that is ready there is lower
pub record Ordered (R : Links) (ds xs : List ℕ) : Type 0 where
  pub an_order : IsOrder R ds xs
  pub lowest_each : (before later : List ℕ) (i k : ℕ) → xs ≡ before ++ i ∷ later → Ready R ds before k → i ≤ k

-- one link or more, each from where the last one led
pub data Chain (R : Links) : ℕ → ℕ → Type 0 where
  link : {i j : ℕ} → R i j ≡ true → Chain R i j
  on : {i j k : ℕ} → R i k ≡ true → Chain R k j → Chain R i j

abbrev pub OnCircle : Links → ℕ → Type 0
OnCircle R i = Chain R i i

pub record LowestOnCircle (R : Links) (p : ℕ) : Type 0 where
  pub here : OnCircle R p
  pub none_lower : (i : ℕ) → OnCircle R i → p ≤ i

-- ---- 1 rests on 2, and 3 on nothing; 2 and 3 rest on each other, and 1 and 4 on them

abbrev pairs : List (ℕ × ℕ) → Links
pairs [] i j = false
pairs (p ∷ ps) i j = eqb i p.0 && eqb j p.1 || pairs ps i j

two_first : order (pairs ((1, 2) ∷ [])) (1 ∷ 2 ∷ 3 ∷ []) ≡ 2 ∷ 1 ∷ 3 ∷ []
unfolding in_turns and_then
two_first = refl

no_circle : circle (pairs ((1, 2) ∷ [])) (1 ∷ 2 ∷ 3 ∷ []) ≡ nothing
unfolding closed
no_circle = refl

abbrev around : Links
around = pairs ((1, 2) ∷ (2, 3) ∷ (3, 2) ∷ (4, 3) ∷ [])

on_circle_lem : circle around (1 ∷ 2 ∷ 3 ∷ 4 ∷ 5 ∷ []) ≡ is 2
unfolding closed
on_circle_lem = refl

rest_listed : order around (1 ∷ 2 ∷ 3 ∷ 4 ∷ 5 ∷ []) ≡ 5 ∷ []
unfolding in_turns and_then
rest_listed = refl
