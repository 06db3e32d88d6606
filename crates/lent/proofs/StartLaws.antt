-- Records in 64 slots: one record more, and what 59 says of them. What a start says, and what a step from it is. Assumes nothing.
use mathlib.Core.Path.{◌≡◌, refl, ap}
use mathlib.Core.List.{List, [], ◌∷◌}
use mathlib.Core.Bool.{Bool, true, false, cond}
use Prim.Native.Nat.{ℕ, zero, suc, ◌+◌, ◌≤◌}
use native.Mathlib.Omega.{arith}
use borrow.Author.Tests.{lt-leb, leb-true, leb-false}
use lib.Dec.{leb}
use lib.ListN.{length, take}
use Rattle.std.specs.Prelude.{Option, None, Some, Ok, Err}
use Rattle.limit.specs.Limit.{number_of}
use Rattle.limit.specs.declared.Place.{Place}
use Rattle.limit.proofs.Numbers.{refusals_differ}
use Rattle.constraint.specs.Lists.{at, slots, record_fits, first_unfit, counts_fit, broken_record}
use Rattle.constraint.specs.Meaning.{defined_of}
use Rattle.constraint.specs.Ticks.{Ticks, none, adding_all}
use Rattle.constraint.specs.declared.Clocks.{Clocks}
use Rattle.constraint.specs.declared.Constraint.{Constraint}
use Rattle.constraint.proofs.OneMore.{start_passes}
use Rattle.constraint.proofs.Slots.{slots_slots}
use Rattle.judging.specs.Single.{step_of}
use Rattle.lent.specs.Start.{StartSaidDetermines, StartTold, start_at, start_of, Starts, EveryStart}
use Rattle.lent.proofs.First66.{by_broken, asked_take}

-- ---- the first of a list, in k slots

-- all slots are filled
pub slots_stop : (k : ℕ) (rs : List Constraint) (i n : ℕ) → k ≤ i → i ≤ n → slots k (take i rs) ≡ slots k (take n rs)
slots_stop zero rs i n full more = refl
slots_stop (suc k) rs zero n full more = absurd (omega (arith, full))
slots_stop (suc k) rs (suc i) zero full more = absurd (omega (arith, more))
slots_stop (suc k) [] (suc i) (suc n) full more = refl
slots_stop (suc k) (r ∷ rs) (suc i) (suc n) full more = ap (λ ss. r ∷ ss) (slots_stop k rs i n (omega (arith, full)) (omega (arith, more)))

-- ---- 59: of a list in 64 slots no more is asked, since a 65th record is refused whatever it is

unfit_slots : (clocks : Clocks) (earlier : Ticks) (i k : ℕ) (rs : List Constraint) → i + k ≡ 65 → first_unfit clocks earlier i (slots (length rs) (slots k rs)) ≡ first_unfit clocks earlier i rs
unfit_slots clocks earlier i k [] e = refl
unfit_slots clocks earlier i zero (r ∷ rs) e = rw (lt-leb i 64 (omega (arith, e)))
unfit_slots clocks earlier i (suc k) (r ∷ rs) e =
    ap (λ (b : Option Place). cond (record_fits clocks earlier i r) b (at i)) (unfit_slots clocks (adding_all (defined_of r) earlier) (suc i) k rs (omega (arith, e)))

pub broken_slots : (clocks : Clocks) (n : ℕ) (rs : List Constraint) → length rs ≡ n → broken_record clocks (slots n (slots 64 rs)) ≡ broken_record clocks rs
broken_slots clocks n rs e = rw (← e) (ap (λ (b : Option Place). cond (counts_fit clocks) b (at 0)) (unfit_slots clocks none 1 64 rs refl))

-- what is asked behind 59 of a list in 64 slots is asked of the list
pub asked_slots : {T : Type 0} (clocks : Clocks) (asked : List Constraint → Option Place → T) (stops : (p : Place) (rs qs : List Constraint) → asked rs (Some p) ≡ asked qs (Some p)) (rs : List Constraint)
    → asked (slots (length rs) (slots 64 rs)) (broken_record clocks (slots (length rs) (slots 64 rs))) ≡ asked rs (broken_record clocks rs)
asked_slots clocks asked stops rs = go (leb (length rs) 64) refl
  where
    go : (x : Bool) → leb (length rs) 64 ≡ x → asked (slots (length rs) (slots 64 rs)) (broken_record clocks (slots (length rs) (slots 64 rs))) ≡ asked rs (broken_record clocks rs)
    go true e = rw (slots_slots 64 rs (leb-true (length rs) 64 e)) refl
    go false e = rw (broken_slots clocks (length rs) rs refl) (by_broken clocks asked stops _ rs (broken_record clocks rs) refl (leb-false (length rs) 64 e))

pub start_first_66 : (clocks : Clocks) (rs : List Constraint) → start_of clocks (take 66 rs) ≡ start_of clocks rs
unfolding start_of
start_first_66 clocks rs = asked_take clocks (λ qs b. start_at b qs) (λ p qs us. refl) rs

-- ---- what a start says

pub start_said_determines : StartSaidDetermines
start_said_determines (Ok m) (Ok n) e = ap (λ (t : StartTold). Ok (record { configuration = t.configuration })) e
start_said_determines (Ok m) (Err s) e = let said = ap (λ (t : StartTold). t.said) e in cc
start_said_determines (Err r) (Ok m) e = let said = ap (λ (t : StartTold). t.said) e in cc
start_said_determines (Err r) (Err s) e =
    let said = ap (λ (t : StartTold). t.said) e in
    let n : number_of r.limit ≡ number_of s.limit = cc in
    let p : r.place.0 ≡ s.place.0 = cc in
    ap Err (refusals_differ r s n p)

starts : (clocks : Clocks) (rs : List Constraint) (b : Option Place) → broken_record clocks rs ≡ b → Starts clocks rs
unfolding start_of step_of
starts clocks rs None e = record {
  passes = λ s f below. record { records = e; words = rw e (start_passes 1 64 rs); ticks = below };
  refuses = λ n p s c f. let t = rw e at s in cc;
}
starts clocks rs (Some q) e = record {
  passes = λ s f below. let t = rw e at s in let z : ◌≡◌ {A = ℕ} 0 1 = cc in absurd (omega arith);
  refuses = λ n p s c f. let t = rw e at s in rw e (cc);
}

pub every_start : EveryStart
every_start clocks rs = starts clocks rs (broken_record clocks rs) refl
