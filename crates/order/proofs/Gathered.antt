-- What stands in the list of definitions: which record each is, that no two are of one clock, and what rests on what, by clocks. Assumes nothing.
use mathlib.Core.Path.{◌≡◌, refl, sym, ap, subst, ◌∙◌}
use mathlib.Core.Logic.{⊎_elim}
use mathlib.Core.Bool.{Bool, true, false, ◌||◌, true≢false, false≢true, or-false, or-true}
use mathlib.Core.List.Memᴰ
use mathlib.Core.List.{List, [], ◌∷◌, ◌++◌, map, Memᴰ}
use Prim.Native.Nat.{ℕ, suc, ◌+◌, ◌<◌, ◌^◌}
use native.Mathlib.Omega.{arith}
use borrow.Author.Tests.{eqb-true, eq-eqb, ltb-true}
use lib.Dec.{eqb, ltb}
use Rattle.std.specs.Prelude.{None}
use Rattle.constraint.specs.Lists.{broken_record}
use Rattle.constraint.specs.Meaning.{defined_of, used_of, all_below, among, distinct}
use Rattle.constraint.specs.SamePlace.{record_at}
use Rattle.constraint.specs.Ticks.{any, bits, with_ticks}
use Rattle.constraint.specs.declared.Clocks.{Clocks}
use Rattle.constraint.specs.declared.Constraint.{Constraint}
use Rattle.constraint.proofs.Booleans.{and_l, and_r, both_ways}
use Rattle.order.specs.Order.{record_of, rests_on}
use Rattle.order.specs.Rows.{defined_as, gathered}
use Rattle.order.specs.declared.Defined.{Defined}
use Rattle.order.proofs.BitLaws.{bits_ticks, ticks_below}
use Rattle.order.proofs.Few.{first_new, others_differ}
use Rattle.order.proofs.GatherLaws.{by_defined, gathered_below, gathered_differ}

abbrev pub In : Defined → List Defined → Type 0
In d ts = Memᴰ d ts

-- ---- of a list of definitions, and a number that each has
module _ (f : Defined → ℕ) where
  pub stands : (ts : List Defined) (d : Defined) → In d ts → among (f d) (map f ts) ≡ true
  stands [] d m = elim m [ ]
  stands (t ∷ ts) d (Memᴰ.head q) = rw (eq-eqb (f d) (f t) (ap f q))
  stands (t ∷ ts) d (Memᴰ.tail m) = rw (stands ts d m) (or-true (eqb (f d) (f t)))

  pub found : (ts : List Defined) (x : ℕ) → among x (map f ts) ≡ true → (d : Defined) × In d ts × (f d ≡ x)
  found [] x e = absurd (false≢true e)
  found (t ∷ ts) x e = go (eqb x (f t)) refl e (found ts x)
    where
      go : (b : Bool) → eqb x (f t) ≡ b → (b || among x (map f ts)) ≡ true → (among x (map f ts) ≡ true → (d : Defined) × In d ts × (f d ≡ x)) → (d : Defined) × In d (t ∷ ts) × (f d ≡ x)
      go true q e ih = (t, Memᴰ.head refl, sym (eqb-true x (f t) q))
      go false q e ih = let (d, m, p) = ih e in (d, Memᴰ.tail m, p)

  below_in : (n : ℕ) (ts : List Defined) (d : Defined) → all_below n (map f ts) ≡ true → In d ts → f d < n
  below_in n [] d b m = elim m [ ]
  below_in n (t ∷ ts) d b (Memᴰ.head q) = rw (ap f q) (ltb-true (f t) n (and_l _ _ b))
  below_in n (t ∷ ts) d b (Memᴰ.tail m) = below_in n ts d (and_r (ltb (f t) n) _ b) m

  -- where these numbers differ
  only_one : (ts : List Defined) (d e : Defined) → distinct (map f ts) ≡ true → In d ts → In e ts → f d ≡ f e → d ≡ e
  only_one [] d e u m _ s = elim m [ ]
  only_one (t ∷ ts) d e u (Memᴰ.head p) (Memᴰ.head q) s = p ∙ sym q
  only_one (t ∷ ts) d e u (Memᴰ.head p) (Memᴰ.tail n) s =
      absurd (true≢false (sym (stands ts e n) ∙ rw (← s, ap f p) (first_new (f t) (map f ts) u)))
  only_one (t ∷ ts) d e u (Memᴰ.tail m) (Memᴰ.head q) s =
      absurd (true≢false (sym (stands ts d m) ∙ rw (s, ap f q) (first_new (f t) (map f ts) u)))
  only_one (t ∷ ts) d e u (Memᴰ.tail m) (Memᴰ.tail n) s = only_one ts d e (others_differ (f t) (map f ts) u) m n s

-- ---- which record a definition is

record Tells (r : Constraint) (d : Defined) : Type 0 where
  defines : defined_of r ≡ d.clock ∷ []
  uses : d.operands ≡ with_ticks 0 (used_of r)

gathered_at : (i : ℕ) (rs : List Constraint) (d : Defined) → In d (gathered i rs) → (k : ℕ) × (d.number ≡ i + k) × Tells (record_at rs k) d
gathered_at i [] d m = absurd (Memᴰ.not-nil m)
gathered_at i (r ∷ rs) d m =
    by_defined r (λ ks. defined_of r ≡ ks → In d (map (defined_as i r) ks ++ gathered (suc i) rs) → At)
    (λ q n. later (gathered_at (suc i) rs d n)) (λ q n. ⊎_elim (here r.defined q) (λ l. later (gathered_at (suc i) rs d l)) (Memᴰ.cases_cons n)) refl m
  where
    At : Type 0
    At = (k : ℕ) × (d.number ≡ i + k) × Tells (record_at (r ∷ rs) k) d

    here : (c : ℕ) → defined_of r ≡ c ∷ [] → d ≡ defined_as i r c → At
    here c q e = (0, ap (λ (x : Defined). x.number) e ∙ omega arith, record { defines = rw e q; uses = ap (λ (x : Defined). x.operands) e })

    later : (k : ℕ) × (d.number ≡ suc i + k) × Tells (record_at rs k) d → At
    later (k, p, t) = (suc k, omega arith, t)

tells : (rs : List Constraint) (d : Defined) → In d (gathered 1 rs) → Tells (record_of rs d.number) d
tells rs d m =
    let (k, p, t) = gathered_at 1 rs d m in
    let n : d.number ≡ suc k = omega arith in
    subst (λ (x : ℕ). Tells (record_of rs x) d) (sym n) t

-- two definitions of one number are of one clock
same_clock : (rs : List Constraint) (d e : Defined) → In d (gathered 1 rs) → In e (gathered 1 rs) → d.number ≡ e.number → d.clock ≡ e.clock
same_clock rs d e m n s =
    let p = (tells rs d m).defines in
    let q = (tells rs e n).defines in
    cc

-- ---- where 59 lets the list pass
module _ (clocks : Clocks) (rs : List Constraint) (ok : broken_record clocks rs ≡ None) where
  abbrev ts : List Defined
  ts = gathered 1 rs

  pub clock_below : (d : Defined) → In d ts → d.clock < 32
  clock_below d m = below_in (λ x. x.clock) 32 ts d (gathered_below clocks rs ok) m

  -- a clock has one definition
  one_definition : (d e : Defined) → In d ts → In e ts → d.clock ≡ e.clock → d ≡ e
  one_definition d e m n s = only_one (λ x. x.clock) ts d e (gathered_differ clocks rs ok) m n s

  -- and a record one clock
  pub eqb_same : (d e : Defined) → In d ts → In e ts → eqb d.clock e.clock ≡ eqb e.number d.number
  eqb_same d e m n =
      both_ways _ _
      (λ q. eq-eqb _ _ (ap (λ (x : Defined). x.number) (sym (one_definition d e m n (eqb-true _ _ q)))))
      (λ q. eq-eqb _ _ (same_clock rs d e m n (sym (eqb-true _ _ q))))

  pub operands_below : (d : Defined) → In d ts → d.operands < 2 ^ 32
  operands_below d m = rw (tells rs d m).uses (ticks_below (used_of (record_of rs d.number)))

  pub rests_bits : (d e : Defined) → In d ts → In e ts → rests_on rs d.number e.number ≡ bits d.operands e.clock
  rests_bits d e m n =
      let u = used_of (record_of rs d.number) in
      ap (any (λ c. among c u)) (tells rs e n).defines ∙ or-false (among e.clock u)
      ∙ sym (bits_ticks u e.clock (clock_below e n)) ∙ ap (λ (x : ℕ). bits x e.clock) (sym (tells rs d m).uses)
