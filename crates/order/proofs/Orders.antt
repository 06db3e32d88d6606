-- Every order: there is one exactly when nothing lies on a circle, and it is then found turn by turn. Assumes nothing.
use mathlib.Core.Path.{◌≡◌, refl, sym, ap, subst, ◌∙◌}
use mathlib.Core.Logic.{◌↔◌, ⊎_elim}
use mathlib.Core.Bool.{Bool, true, false, not, ◌&&◌, false≢true, or-true, or-false, and-true, and_assoc}
use mathlib.Core.List.{List, [], ◌∷◌, ◌++◌, append_assoc}
use Prim.Native.Nat.{ℕ, zero, suc, ◌≤◌}
use native.Mathlib.Omega.{arith}
use borrow.Author.Tests.{not-true, not-false}
use lib.Dec.{eqb}
use lib.ListN.{length}
use Rattle.constraint.specs.Meaning.{among}
use Rattle.constraint.specs.Ticks.{any}
use Rattle.constraint.proofs.Booleans.{and_l, and_r, not_or, never, untrue}
use Rattle.order.specs.Rests.{Links, Stands, Lowest, nothing, is, ready, lowest_ready, without, and_then, in_turns, order, through, closed, circle, IsOrder, SomeOrder, Ready, Ordered, Chain, link, on, OnCircle, LowestOnCircle}
use Rattle.order.proofs.Chains.{closed_chain, chain_closed}
use Rattle.order.proofs.Standing.{head_stands, tail_stands, head_or_tail, among_joined, split, once_only, any_one, one_any, among_without, shorter, Rises, Within, rising_without, FirstIs, first_is}
use Rattle.order.proofs.Behind.{From, ordered_from, from_ordered, one_way}

-- ---- where every number of a list has a link into the list, one lies on a circle

abbrev Leads : Links → List ℕ → Type 0
Leads R xs = (i : ℕ) → Stands i xs → (j : ℕ) × Stands j xs × (R i j ≡ true)

-- the rest of the list leads into itself by links that go by its first number, too, where this has none to itself
module _ (R : Links) (k : ℕ) (ks : List ℕ) (leads : Leads R (k ∷ ks)) (e : R k k ≡ false) where
  onward : (j : ℕ) × Stands j ks × (R k j ≡ true)
  onward =
      let n = leads k (head_stands k ks) in
      ⊎_elim (λ q. absurd (never (R k k) true (rw q at n.2) e)) (λ s. (n.0, s, n.2)) (head_or_tail n.0 k ks n.1)

  rest_leads : Leads (through k R) ks
  rest_leads i s =
      let n = leads i (tail_stands i k ks s) in
      ⊎_elim
      (λ q. (onward.0, onward.1, rw (rw q at n.2, onward.2) (or-true (R i onward.0))))
      (λ t. (n.0, t, rw n.2))
      (head_or_tail n.0 k ks n.1)

-- by some numbers, one has a link to itself
some_closed : (R : Links) (ks : List ℕ) → Leads R ks → (i : ℕ) → Stands i ks → (us : List ℕ) × (c : ℕ) × (closed us R c c ≡ true)
unfolding closed
some_closed R [] leads i s = absurd (false≢true s)
some_closed R (k ∷ ks) leads i s = go (R k k) refl (some_closed (through k R) ks)
  where
    go : (x : Bool) → R k k ≡ x → (Leads (through k R) ks → (j : ℕ) → Stands j ks → (us : List ℕ) × (c : ℕ) × (closed us (through k R) c c ≡ true))
        → (us : List ℕ) × (c : ℕ) × (closed us R c c ≡ true)
    go true e ih = ([], k, e)
    go false e ih =
        let n = onward R k ks leads e in
        let r = ih (rest_leads R k ks leads e) n.0 n.1 in
        (k ∷ r.0, r.1, r.2)

some_circle : (R : Links) (ks : List ℕ) → Leads R ks → (i : ℕ) → Stands i ks → (c : ℕ) × OnCircle R c
some_circle R ks leads i s = let r = some_closed R ks leads i s in (r.1, closed_chain r.0 R r.1 r.1 r.2)

-- ---- an order excludes circles

module _ (R : Links) (ds xs : List ℕ) (o : IsOrder R ds xs) where
  -- a chain leads to an earlier place
  earlier : (before later : List ℕ) {i j : ℕ} → xs ≡ before ++ i ∷ later → Chain R i j → Stands j before
  earlier before later e (link {i} {j} r) = o.after before later i j e r
  earlier before later e (on {i} {j} {k} r c) =
      let s = split k before (o.after before later i k e r) in
      let h : Stands j s.0 = earlier s.0 (s.1 ++ i ∷ later) (e ∙ ap (λ (zs : List ℕ). zs ++ i ∷ later) s.2 ∙ append_assoc s.0 (k ∷ s.1) (i ∷ later)) c in
      rw (s.2, among_joined j s.0 (k ∷ s.1), h)

  no_circle : (i : ℕ) → Stands i ds → OnCircle R i → ⊥
  no_circle i d c =
      let s = split i xs ((o.all i).0 d) in
      once_only i s.0 s.1 (rw s.2 at o.once) (earlier s.0 s.1 s.2 c)

-- ---- turn by turn

-- what is left of ds behind those that are listed
abbrev LeftOf : (ds before left : List ℕ) → Type 0
LeftOf ds before left = (k : ℕ) → among k left ≡ (among k ds && not (among k before))

left_all : (ds : List ℕ) → LeftOf ds [] ds
left_all ds k = sym (and-true (among k ds))

left_next : (ds before left : List ℕ) (i : ℕ) → LeftOf ds before left → LeftOf ds (before ++ i ∷ []) (without i left)
left_next ds before left i l k =
    rw (among_without k i left, l k, among_joined k before (i ∷ []), or-false (eqb k i), not_or (among k before) (eqb k i))
    (and_assoc (among k ds) (not (among k before)) (not (eqb k i)))

module _ (R : Links) (ds : List ℕ) (within : Within R ds) (free : (c : ℕ) → OnCircle R c → ⊥) where
  module _ (before left : List ℕ) (l : LeftOf ds before left) where
    left_new : (k : ℕ) → Stands k left → Stands k before → ⊥
    left_new k s t = never (among k before) true t (not-true _ (and_r (among k ds) _ (sym (l k) ∙ s)))

    listed : (k : ℕ) → Stands k ds → (Stands k left → ⊥) → Stands k before
    listed k d n = not-false (among k before) (rw d at (sym (l k) ∙ untrue (among k left) n))

    left_ready : (k : ℕ) → Stands k left → ready R left k ≡ true → Ready R ds before k
    left_ready k s e = record {
      one = and_l (among k ds) _ (sym (l k) ∙ s);
      new = left_new k s;
      rested = λ j r. listed j (within k j r) (λ t. never (any (R k) left) true (one_any (R k) j left t r) (not-true _ e));
    }

    ready_left : (k : ℕ) → Ready R ds before k → Stands k left
    ready_left k r = rw (l k, r.one, untrue (among k before) r.new)

    ready_there : (k : ℕ) → Ready R ds before k → ready R left k ≡ true
    ready_there k r = rw (untrue (any (R k) left) (λ a. let n = any_one (R k) left a in left_new n.0 n.1 (r.rested n.0 n.2)))

    -- where none is ready, none is left
    stuck : ((k : ℕ) → Stands k left → ready R left k ≡ false) → (i : ℕ) → Stands i left → ⊥
    stuck none i s = let c = some_circle R left (λ k t. any_one (R k) left (not-false _ (none k t))) i s in free c.0 c.1

  in_turns_lem : (n : ℕ) (before left : List ℕ) → length left ≤ n → Rises left → LeftOf ds before left → From R ds before (in_turns R n left)
  unfolding in_turns and_then
  in_turns_lem zero before left few r l = λ i d. listed before left l i d (λ s. omega (arith, rw s at (shorter i left)))
  in_turns_lem (suc n) before left few r l =
      go (lowest_ready R left) (first_is (ready R left) left r)
      (λ i s. in_turns_lem n (before ++ i ∷ []) (without i left) (omega (arith, rw s at (shorter i left))) (rising_without i left r) (left_next ds before left i l))
    where
      go : (x : Lowest) → FirstIs (ready R left) left x → ((i : ℕ) → Stands i left → From R ds (before ++ i ∷ []) (in_turns R n (without i left)))
          → From R ds before (and_then x (λ i. in_turns R n (without i left)))
      go nothing t ih = λ i d. listed before left l i d (stuck before left l t i)
      go (is i) t ih =
          (record { ready = left_ready before left l i t.0 t.1; lowest = λ k q. t.2 k (ready_left before left l k q) (ready_there before left l k q) }, ih i t.0)

-- ---- the claim

pub record Works (R : Links) (ds : List ℕ) : Type 0 where
  -- there is an order exactly when nothing is found on a circle; the list is then one, with the lowest that is ready each time
  pub exists : circle R ds ≡ nothing ↔ SomeOrder R ds
  pub given : circle R ds ≡ nothing → Ordered R ds (order R ds)
  -- which determines it
  pub only : (xs ys : List ℕ) → Ordered R ds xs → Ordered R ds ys → xs ≡ ys
  -- p is found exactly when there is no order, and p is the lowest on a circle
  pub found : (p : ℕ) → circle R ds ≡ is p ↔ (SomeOrder R ds → ⊥) × LowestOnCircle R p

module _ (R : Links) (ds : List ℕ) (rises : Rises ds) (within : Within R ds) where
  chain_end : {i j : ℕ} → Chain R i j → Stands j ds
  chain_end (link {i} {j} e) = within i j e
  chain_end (on e c) = chain_end c

  order_free : SomeOrder R ds → (i : ℕ) → OnCircle R i → ⊥
  order_free o i c = no_circle R ds o.0 o.1 i (chain_end c) c

  -- what is found on a circle
  abbrev CircleIs : Lowest → Type 0
  CircleIs nothing = (i : ℕ) → OnCircle R i → ⊥
  CircleIs (is p) = LowestOnCircle R p

  lowest_circle : CircleIs (circle R ds)
  lowest_circle = go (circle R ds) (first_is (λ i. closed ds R i i) ds rises)
    where
      go : (x : Lowest) → FirstIs (λ i. closed ds R i i) ds x → CircleIs x
      go nothing t = λ i c. never (closed ds R i i) true (chain_closed ds R within c) (t i (chain_end c))
      go (is p) t = record { here = closed_chain ds R p p t.1; none_lower = λ i c. t.2 i (chain_end c) (chain_closed ds R within c) }

  found_nothing : (x : Lowest) → CircleIs x → SomeOrder R ds → x ≡ nothing
  found_nothing nothing f o = refl
  found_nothing (is p) f o = absurd (order_free o p f.here)

  found_lowest : (x : Lowest) → CircleIs x → (p : ℕ) → LowestOnCircle R p → x ≡ is p
  found_lowest nothing f p l = absurd (f p l.here)
  found_lowest (is q) f p l = ap is (omega (arith, f.none_lower p l.here, l.none_lower q f.here))

  turns_ordered : circle R ds ≡ nothing → Ordered R ds (order R ds)
  turns_ordered e = from_ordered R ds (order R ds) (in_turns_lem R ds within (subst CircleIs e lowest_circle) (length ds) [] ds (omega arith) rises (left_all ds))

  pub every_order : Works R ds
  every_order = record {
    exists = (λ e. (order R ds, (turns_ordered e).an_order), found_nothing (circle R ds) lowest_circle);
    given = turns_ordered;
    only = λ xs ys o u. one_way R ds [] xs ys (ordered_from R ds [] xs o) (ordered_from R ds [] ys u);
    found = λ p.
        (λ e. let l : LowestOnCircle R p = subst CircleIs e lowest_circle in (λ o. order_free o p l.here, l), λ l. found_lowest (circle R ds) lowest_circle p l.1);
  }
