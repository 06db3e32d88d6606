-- The definitions of a list as a list of their own: their numbers; and, where 59 lets the list pass, how many there are and the clocks that they
-- define. Assumes nothing.
use mathlib.Core.Path.{◌≡◌, refl, sym, ap}
use mathlib.Core.Bool.{true, false, ◌||◌}
use mathlib.Core.List.{List, [], ◌∷◌, ◌++◌, map}
use Prim.Native.Nat.{ℕ, suc, ◌≤◌}
use borrow.Author.Tests.{eqb-false, ne_eqb}
use lib.Dec.{ltb, eqb}
use lib.ListN.{length, length-map}
use Rattle.std.specs.Prelude.{None}
use Rattle.constraint.specs.Lists.{first_unfit, broken_record}
use Rattle.constraint.specs.Meaning.{defined_by, defined_of, used_of, all_below, among, distinct}
use Rattle.constraint.specs.Ticks.{Ticks, none, adding, adding_all, any}
use Rattle.constraint.specs.declared.Clocks.{Clocks}
use Rattle.constraint.specs.declared.Constraint.{Constraint}
use Rattle.constraint.specs.declared.Kind.{Kind}
use Rattle.constraint.specs.declared.Kind.TheVariants.{Empty, Relates, Defines}
use Rattle.constraint.proofs.Booleans.{and_l, or_l, or_r}
use Rattle.constraint.proofs.Demand3.{clocks_pass, record_passes, once_passes, later_pass}
use Rattle.constraint.proofs.OneMore.{below_more}
use Rattle.order.specs.Order.{definitions_from, definitions}
use Rattle.order.specs.Rows.{defined_as, gathered, clocks_in}
use Rattle.order.specs.declared.Defined.{Defined}
use Rattle.order.proofs.Few.{few}

abbrev pub numbers_in : List Defined → List ℕ
numbers_in ts = map (λ d. d.number) ts

-- a record defines no clock, or one
pub by_defined : (r : Constraint) (P : List ℕ → Type 0) → P [] → P (r.defined ∷ []) → P (defined_of r)
by_defined r P z s = go r.kind
  where
    go : (k : Kind) → P (defined_by k r.defined)
    go Empty = z
    go (Relates k) = z
    go (Defines k) = s

-- ---- of any list

numbers_from : (i : ℕ) (rs : List Constraint) → numbers_in (gathered i rs) ≡ definitions_from i rs
numbers_from i [] = refl
numbers_from i (r ∷ rs) =
    by_defined r (λ ks. numbers_in (map (defined_as i r) ks ++ gathered (suc i) rs) ≡ map (λ c. i) ks ++ definitions_from (suc i) rs)
    (numbers_from (suc i) rs) (ap (λ (xs : List ℕ). i ∷ xs) (numbers_from (suc i) rs))

pub gathered_numbers : (rs : List Constraint) → numbers_in (gathered 1 rs) ≡ definitions rs
gathered_numbers rs = numbers_from 1 rs

-- ---- of a list that 59 lets pass

-- clocks that are below a count, that differ, and of which none is in a set
record New (n : ℕ) (E : Ticks) (cs : List ℕ) : Type 0 where
  fresh : any E cs ≡ false
  below : all_below n cs ≡ true
  differ : distinct cs ≡ true

added : (c : ℕ) (E : Ticks) (cs : List ℕ) → any (adding c E) cs ≡ false → (any E cs ≡ false) × (among c cs ≡ false)
added c E [] e = (refl, refl)
added c E (k ∷ cs) e =
    let h = or_l (E k || eqb k c) _ e in
    let t = added c E cs (or_r (E k || eqb k c) _ e) in
    let d : eqb c k ≡ false = ne_eqb c k (λ q. eqb-false k c (or_r (E k) _ h) (sym q)) in
    (rw (or_l (E k) _ h) t.0, rw d t.1)

new_more : (n : ℕ) (E : Ticks) (c : ℕ) (cs : List ℕ) → E c ≡ false → ltb c n ≡ true → New n (adding c E) cs → New n E (c ∷ cs)
new_more n E c cs f b w =
    let a = added c E cs w.fresh in
    record { fresh = rw f a.0; below = rw b w.below; differ = rw a.1 w.differ }

clocks_new : (clocks : Clocks) (E : Ticks) (i : ℕ) (rs : List Constraint) → first_unfit clocks E i rs ≡ None → New clocks.count E (clocks_in (gathered i rs))
clocks_new clocks E i [] e = record { fresh = refl; below = refl; differ = refl }
clocks_new clocks E i (r ∷ rs) e =
    by_defined r
    (λ ks. any E ks ≡ false → all_below clocks.count (ks ++ used_of r) ≡ true → New clocks.count (adding_all ks E) later → New clocks.count E (clocks_in (map (defined_as i r) ks ++ gathered (suc i) rs)))
    (λ f b w. w) (λ f b w. new_more clocks.count E r.defined later (or_l (E r.defined) _ f) (and_l _ _ b) w)
    (once_passes clocks E i r rs e) (and_l _ _ (and_l _ _ (record_passes clocks E i r rs e))) (clocks_new clocks (adding_all (defined_of r) E) (suc i) rs (later_pass clocks E i r rs e))
  where
    later : List ℕ
    later = clocks_in (gathered (suc i) rs)

module _ (clocks : Clocks) (rs : List Constraint) (e : broken_record clocks rs ≡ None) where
  passed : New clocks.count none (clocks_in (gathered 1 rs))
  passed = clocks_new clocks none 1 rs (clocks_pass clocks rs e).1

  pub gathered_below : all_below 32 (clocks_in (gathered 1 rs)) ≡ true
  gathered_below = below_more clocks.count 32 (clocks_pass clocks rs e).0 (clocks_in (gathered 1 rs)) passed.below

  pub gathered_differ : distinct (clocks_in (gathered 1 rs)) ≡ true
  gathered_differ = passed.differ

  pub gathered_few : length (gathered 1 rs) ≤ 32
  gathered_few = rw (length-map (gathered 1 rs) (λ d. d.clock)) at (few 32 (clocks_in (gathered 1 rs)) gathered_below gathered_differ)
