-- An order with the lowest ready number at each place, turn by turn; there is one at most. Assumes nothing.
use mathlib.Core.Path.{◌≡◌, refl, ap, subst}
use mathlib.Core.Logic.{⊎_elim}
use mathlib.Core.Bool.{true, false≢true}
use mathlib.Core.List.{List, [], ◌∷◌, ◌++◌, append-nil, append_assoc}
use Prim.Native.Nat.{ℕ, ◌≤◌}
use native.Mathlib.Omega.{arith}
use Rattle.constraint.specs.Meaning.{among, distinct}
use Rattle.constraint.proofs.Booleans.{untrue}
use Rattle.order.specs.Rests.{Links, Stands, Ready, Ordered}
use Rattle.order.proofs.Standing.{head_or_tail, among_joined, stands_between, once_only}

module _ (R : Links) (ds : List ℕ) where
  -- i is the lowest of those that are ready behind some that are listed
  pub record Turn (before : List ℕ) (i : ℕ) : Type 0 where
    pub ready : Ready R ds before i
    pub lowest : (k : ℕ) → Ready R ds before k → i ≤ k

  -- some that are listed go on with such ones, to the last of ds
  abbrev pub From : (before xs : List ℕ) → Type 0
  From before [] = (i : ℕ) → Stands i ds → Stands i before
  From before (i ∷ xs) = Turn before i × From (before ++ i ∷ []) xs

  -- ---- an order goes so

  pub ordered_from : (before xs : List ℕ) → Ordered R ds (before ++ xs) → From before xs
  ordered_from before [] o = λ i s. rw append-nil at ((o.an_order.all i).0 s)
  ordered_from before (i ∷ xs) o = (record { ready = here; lowest = λ k. o.lowest_each before xs i k refl }, ordered_from (before ++ i ∷ []) xs (rw append_assoc o))
    where
      here : Ready R ds before i
      here = record {
        one = (o.an_order.all i).1 (stands_between i before xs);
        new = once_only i before xs o.an_order.once;
        rested = λ j. o.an_order.after before xs i j refl;
      }

  -- ---- and what goes so is an order

  turn_at : (before xs later : List ℕ) (i : ℕ) → From before (xs ++ i ∷ later) → Turn (before ++ xs) i
  turn_at before [] later i f = rw (append-nil before) f.0
  turn_at before (x ∷ xs) later i f = rw append_assoc at (turn_at (before ++ x ∷ []) xs later i f.1)

  stands_with : (i x : ℕ) (before : List ℕ) → Stands i before → Stands i (before ++ x ∷ [])
  stands_with i x before s = rw (among_joined i before (x ∷ []), s)

  -- what is listed does not come again
  apart : (before xs : List ℕ) → From before xs → (i : ℕ) → Stands i before → Stands i xs → ⊥
  apart before [] f i s t = false≢true t
  apart before (x ∷ xs) f i s t =
      ⊎_elim (λ e. f.0.ready.new (rw (← e) s)) (apart (before ++ x ∷ []) xs f.1 i (stands_with i x before s)) (head_or_tail i x xs t)

  from_once : (before xs : List ℕ) → From before xs → distinct xs ≡ true
  from_once before [] f = refl
  from_once before (x ∷ xs) f =
      rw (untrue (among x xs) (apart (before ++ x ∷ []) xs f.1 x (stands_between x before []))) (from_once (before ++ x ∷ []) xs f.1)

  from_ds : (before xs : List ℕ) → From before xs → (i : ℕ) → Stands i xs → Stands i ds
  from_ds before [] f i s = absurd (false≢true s)
  from_ds before (x ∷ xs) f i s = ⊎_elim (λ e. rw e f.0.ready.one) (from_ds (before ++ x ∷ []) xs f.1 i) (head_or_tail i x xs s)

  from_all : (before xs : List ℕ) → From before xs → (i : ℕ) → Stands i ds → Stands i (before ++ xs)
  from_all before [] f i s = rw append-nil (f i s)
  from_all before (x ∷ xs) f i s = rw append_assoc at (from_all (before ++ x ∷ []) xs f.1 i s)

  pub from_ordered : (xs : List ℕ) → From [] xs → Ordered R ds xs
  from_ordered xs f = record {
    an_order = record { all = λ i. (from_all [] xs f i, from_ds [] xs f i); once = from_once [] xs f; after = λ before later i j e. (at before later i e).ready.rested j };
    lowest_each = λ before later i k e. (at before later i e).lowest k;
  }
    where
      at : (before later : List ℕ) (i : ℕ) → xs ≡ before ++ i ∷ later → Turn before i
      at before later i e = turn_at [] before later i (subst (From []) e f)

  -- ---- in one way

  pub one_way : (before xs ys : List ℕ) → From before xs → From before ys → xs ≡ ys
  one_way before [] [] f g = refl
  one_way before [] (y ∷ ys) f g = absurd (g.0.ready.new (f y g.0.ready.one))
  one_way before (x ∷ xs) [] f g = absurd (f.0.ready.new (g x f.0.ready.one))
  one_way before (x ∷ xs) (y ∷ ys) f g =
      let e : x ≡ y = omega (arith, f.0.lowest y g.0.ready, g.0.lowest x f.0.ready) in
      rw e (ap (λ (zs : List ℕ). y ∷ zs) (one_way (before ++ y ∷ []) xs ys (rw (← e) f.1) g.1))
