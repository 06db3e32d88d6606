-- The answer on any list of records means what document 02 says, by what holds of any numbers that rise; and it is the answer of one value alone.
-- Assumes nothing.
use mathlib.Core.Path.{◌≡◌, refl, sym, ap, ◌∙◌}
use mathlib.Core.List.{List, [], ◌∷◌, ◌++◌}
use Prim.Native.Nat.{ℕ, zero, suc, ◌-◌, ◌≤◌}
use native.Mathlib.Nat.{sub-zero}
use native.Mathlib.Omega.{arith}
use lib.ListN.{length, length-map, replicate, take}
use lib.Seq.{take-append_seam}
use Rattle.std.specs.Prelude.{Option, None, Some, Ok, Err}
use Rattle.limit.specs.Limit.{number_of}
use Rattle.limit.proofs.Numbers.{refusals_differ}
use Rattle.limit.specs.declared.Place.{Place}
use Rattle.constraint.specs.Lists.{broken_record}
use Rattle.constraint.specs.declared.Clocks.{Clocks}
use Rattle.constraint.specs.declared.Constraint.{Constraint}
use Rattle.order.specs.Order.{definitions, rests_on, OrderSaid, listed, refused, OrderSaidDetermines, order_told, places, listing, order_at, order_of, OrderRefuses, by_records, by_circle, WorkingOrder, EveryWorkingOrder, OrderTold}
use Rattle.order.specs.Rests.{Links, Lowest, nothing, is, lowest_ready, and_then, without, in_turns, order, circle}
use Rattle.order.specs.Rows.{gathered}
use Rattle.order.proofs.DefinitionLaws.{definitions_rise, rests_within}
use Rattle.order.proofs.GatherLaws.{gathered_numbers, gathered_few}
use Rattle.order.proofs.Orders.{Works, every_order}

few_turns : (R : Links) (n : ℕ) (left : List ℕ) → length (in_turns R n left) ≤ n
unfolding in_turns and_then
few_turns R zero left = omega arith
few_turns R (suc n) left = go (lowest_ready R left) (few_turns R n)
  where
    go : (x : Lowest) → ((l : List ℕ) → length (in_turns R n l) ≤ n) → length (and_then x (λ i. in_turns R n (without i left))) ≤ suc n
    go nothing h = omega arith
    go (is i) h = omega (arith, h (without i left))

pub few_listed : (clocks : Clocks) (rs : List Constraint) → broken_record clocks rs ≡ None → length (order (rests_on rs) (definitions rs)) ≤ 32
few_listed clocks rs e =
    omega (arith, few_turns (rests_on rs) (length (definitions rs)) (definitions rs), ap length (gathered_numbers rs), length-map (gathered 1 rs) (λ d. d.number), gathered_few clocks rs e)

-- ---- what an answer says of where it comes from

passes : (b : Option Place) (c : Lowest) (xs : List ℕ) → (order_at b c xs).said ≡ listed → (b ≡ None) × (c ≡ nothing)
passes (Some q) c xs s = (cc, cc)
passes None (is p) xs s = (cc, cc)
passes None nothing xs s = (refl, refl)

refused_empty : (b : Option Place) (c : Lowest) (xs : List ℕ) (n p : ℕ) → (order_at b c xs).said ≡ refused n p → ((order_at b c xs).count ≡ 0) × ((order_at b c xs).records ≡ replicate 32 0)
refused_empty (Some q) c xs n p s = (refl, refl)
refused_empty None (is q) xs n p s = (refl, refl)
refused_empty None nothing xs n p s = (cc, cc)

-- ---- the list, with 0 behind the last

padded : (n : ℕ) (xs : List ℕ) → length xs ≤ n → xs ++ replicate (n - length xs) 0 ≡ places n xs
padded zero [] h = refl
padded zero (x ∷ xs) h = absurd (omega (arith, h))
padded (suc n) [] h = rw sub-zero (ap (λ (ys : List ℕ). 0 ∷ ys) (rw sub-zero at (padded n [] (omega arith))))
padded (suc n) (x ∷ xs) h =
    let less : suc n - suc (length xs) ≡ n - length xs = omega arith in
    rw less (ap (λ (ys : List ℕ). x ∷ ys) (padded n xs (omega (arith, h))))

pub listing_told : (xs : List ℕ) → length xs ≤ 32 → order_told (Ok (record { items = xs })) ≡ listing xs
listing_told xs h = rw (padded 32 xs h)

-- ---- of a list of which the claim on numbers holds
module _ (clocks : Clocks) (rs : List Constraint) (w : Works (rests_on rs) (definitions rs)) where
  abbrev R : Links
  R = rests_on rs

  abbrev ds : List ℕ
  ds = definitions rs

  abbrev Refusing : OrderSaid → Type 0
  Refusing listed = Unit {0}
  Refusing (refused n p) = OrderRefuses clocks rs n p

  refuses_by : (b : Option Place) (c : Lowest) → broken_record clocks rs ≡ b → circle R ds ≡ c → Refusing (order_at b c (order R ds)).said
  refuses_by (Some q) c e f = by_records e
  refuses_by None (is p) e f = let (no-order, low) = (w.found p).0 f in by_circle e no-order low
  refuses_by None nothing e f = tt

  refused_by : {n p : ℕ} → OrderRefuses clocks rs n p → (order_of clocks rs).said ≡ refused n p
  unfolding order_of
  refused_by (by_records e) = rw e
  refused_by (by_circle {p} e no-order low) = rw (e, (w.found p).1 (no-order, low))

  works : WorkingOrder clocks rs
  unfolding order_of
  works = record {
    refuses = λ n p. (λ s. rw s at (refuses_by (broken_record clocks rs) (circle R ds) refl refl), refused_by);
    empties = refused_empty (broken_record clocks rs) (circle R ds) (order R ds);
    lists = (λ s. let (e, f) = passes (broken_record clocks rs) (circle R ds) (order R ds) s in (e, w.exists.0 f), λ t. rw (t.0, w.exists.1 t.1));
    works = λ s. let (e, f) = passes (broken_record clocks rs) (circle R ds) (order R ds) s in (order R ds, w.given f, rw (e, f), few_listed clocks rs e);
    only = w.only;
  }

pub every_working_order : EveryWorkingOrder
every_working_order clocks rs = works clocks rs (every_order (rests_on rs) (definitions rs) (definitions_rise rs) (rests_within rs))

-- ---- what an answer says

pub order_said_determines : OrderSaidDetermines
order_said_determines (Ok o) (Ok q) e =
    let taken = ap (λ (t : OrderTold). take t.count t.records) e in
    ap (λ (xs : List ℕ). Ok (record { items = xs })) (sym (take-append_seam o.items _) ∙ taken ∙ take-append_seam q.items _)
order_said_determines (Ok o) (Err s) e = let said = ap (λ (t : OrderTold). t.said) e in cc
order_said_determines (Err r) (Ok o) e = let said = ap (λ (t : OrderTold). t.said) e in cc
order_said_determines (Err r) (Err s) e =
    let said = ap (λ (t : OrderTold). t.said) e in
    let n : number_of r.limit ≡ number_of s.limit = cc in
    let p : r.place.0 ≡ s.place.0 = cc in
    ap Err (refusals_differ r s n p)
