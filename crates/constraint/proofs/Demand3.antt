-- Demand 3. Along a list that 59 and 60 let pass, two configurations have the same words exactly when every record accepts alike
-- from its two words; where they differ, some record tells them apart. Assumes nothing.
use mathlib.Core.Path.{◌≡◌, refl, sym, ap, ap₂, ◌∙◌}
use mathlib.Core.Logic.{◌≢◌, ◌↔◌}
use mathlib.Core.Bool.{Bool, true, false, not, cond, ◌&&◌, true≢false, false≢true}
use mathlib.Core.List.{List, [], ◌∷◌}
use Prim.Native.Nat.{ℕ, suc, ◌+◌, ◌≤◌, suc-le-suc}
use native.Mathlib.Omega.{arith}
use borrow.Author.Tests.{leb-true, not-true}
use lib.Dec.{leb}
use lib.ListN.{length}
use Rattle.std.specs.Prelude.{Option, None, Ok, Err}
use Rattle.limit.specs.declared.Place.{Place}
use Rattle.limit.specs.Limit.{number_of}
use Rattle.limit.proofs.Numbers.{refusals_differ}
use Rattle.constraint.specs.Lists.{at, empty, all_known, record_fits, first_unfit, counts_fit, broken_record, first_out}
use Rattle.constraint.specs.Meaning.{defined_of, used_of, well_formed, in_range}
use Rattle.constraint.specs.SamePlace.{Answer, AnswerDetermines, same, different, same_place_of, same_word, same_words, accepts, AllAlike, SomeApart, record_at, word_at, SamePlaceMeant, Answered}
use Rattle.constraint.specs.Ticks.{Ticks, none, any, adding_all}
use Rattle.constraint.specs.declared.Clocks.{Clocks}
use Rattle.constraint.specs.declared.Constraint.{Constraint}
use Rattle.constraint.specs.declared.Likeness.TheVariants.{Same, Different}
use Rattle.constraint.specs.declared.Word.{Word}
use Rattle.constraint.proofs.Booleans.{and_l, and_r, never}
use Rattle.constraint.proofs.OneRecord.{words_apart, words_alike}
use Rattle.constraint.proofs.Words.{word_discrete, same_yes, same_self, only_zero}

-- ---- what it means that a limit is broken nowhere

pub nowhere : (t : Bool) (x : Option Place) (i : ℕ) → cond t x (at i) ≡ None → (t ≡ true) × (x ≡ None)
nowhere true x i e = (refl, e)
nowhere false x i e = let z : ◌≡◌ {A = ℕ} 0 1 = cc in absurd (omega arith)

pub clocks_pass : (clocks : Clocks) (rs : List Constraint) → broken_record clocks rs ≡ None → (clocks.count ≤ 32) × (first_unfit clocks none 1 rs ≡ None)
clocks_pass clocks rs e = let p = nowhere (counts_fit clocks) _ 0 e in (leb-true clocks.count 32 (and_l _ _ p.0), p.1)

pub named_pass : (clocks : Clocks) (rs : List Constraint) → broken_record clocks rs ≡ None → clocks.named ≤ clocks.count
named_pass clocks rs e = leb-true _ _ (and_r (leb clocks.count 32) _ (nowhere (counts_fit clocks) _ 0 e).0)

-- of the first record, and of those after it
module _ (clocks : Clocks) (earlier : Ticks) (i : ℕ) (r : Constraint) (rs : List Constraint) (e : first_unfit clocks earlier i (r ∷ rs) ≡ None) where
  fits : record_fits clocks earlier i r ≡ true
  fits = (nowhere _ _ i e).0

  pub place_passes : i ≤ 64
  place_passes = leb-true i 64 (and_l (leb i 64) _ fits)

  pub record_passes : well_formed clocks.count r ≡ true
  record_passes = and_l _ _ (and_r (leb i 64) _ fits)

  rest_passes : (not (any earlier (defined_of r)) && all_known clocks.named earlier (used_of r)) ≡ true
  rest_passes = and_r (well_formed clocks.count r) _ (and_r (leb i 64) _ fits)

  pub once_passes : any earlier (defined_of r) ≡ false
  once_passes = not-true _ (and_l _ _ rest_passes)

  pub used_passes : all_known clocks.named earlier (used_of r) ≡ true
  used_passes = and_r (not (any earlier (defined_of r))) _ rest_passes

  pub later_pass : first_unfit clocks (adding_all (defined_of r) earlier) (suc i) rs ≡ None
  later_pass = (nowhere (record_fits clocks earlier i r) _ i e).1

-- at most 64 records pass
pub records_pass : (clocks : Clocks) (earlier : Ticks) (i : ℕ) (rs : List Constraint) → i ≤ 65 → first_unfit clocks earlier i rs ≡ None → i + length rs ≤ 65
records_pass clocks earlier i [] h e = omega arith
records_pass clocks earlier i (r ∷ rs) h e =
    let p = place_passes clocks earlier i r rs e in
    let q = records_pass clocks (adding_all (defined_of r) earlier) (suc i) rs (omega arith) (later_pass clocks earlier i r rs e) in
    omega arith

-- ---- the test of two configurations

words_yes : (ws vs : List Word) → same_words ws vs ≡ true → ws ≡ vs
words_yes [] [] e = refl
words_yes [] (v ∷ vs) e = absurd (false≢true e)
words_yes (w ∷ ws) [] e = absurd (false≢true e)
words_yes (w ∷ ws) (v ∷ vs) e = ap₂ ◌∷◌ (same_yes w v (and_l _ _ e)) (words_yes ws vs (and_r (same_word w v) _ e))

words_self : (ws : List Word) → same_words ws ws ≡ true
words_self [] = refl
words_self (w ∷ ws) = rw (same_self w) (words_self ws)

words_same : (ws vs : List Word) → ws ≡ vs → same_words ws vs ≡ true
words_same ws vs e = rw (← e) (words_self ws)

-- ---- beyond the records all words are 0

zeros : (i : ℕ) (ws vs : List Word) → length ws ≡ length vs → first_out i [] ws ≡ None → first_out i [] vs ≡ None → ws ≡ vs
zeros i [] [] l p q = refl
zeros i [] (v ∷ vs) l p q = absurd (omega arith)
zeros i (w ∷ ws) [] l p q = absurd (omega arith)
zeros i (w ∷ ws) (v ∷ vs) l p q =
    let a = nowhere (in_range empty w) _ i p in
    let b = nowhere (in_range empty v) _ i q in
    ap₂ ◌∷◌ (only_zero w a.0 ∙ sym (only_zero v b.0)) (zeros (suc i) ws vs (omega arith) a.1 b.1)

-- ---- the list: its head and its tail

abbrev Told : (clocks : Clocks) (rs : List Constraint) (ws vs : List Word) → Type 0
Told clocks rs ws vs = (ws ≢ vs → SomeApart clocks rs ws vs) × (AllAlike clocks rs ws vs → ws ≡ vs)

told : (clocks : Clocks) (earlier : Ticks) (i : ℕ) (rs : List Constraint) (ws vs : List Word)
    → first_unfit clocks earlier i rs ≡ None → length ws ≡ length vs → length rs ≤ length ws
    → first_out i rs ws ≡ None → first_out i rs vs ≡ None → Told clocks rs ws vs
told clocks earlier i [] ws vs ok l m p q = (λ d. absurd (d (zeros i ws vs l p q)), λ s. zeros i ws vs l p q)
told clocks earlier i (r ∷ rs) [] vs ok l m p q = absurd (omega arith)
told clocks earlier i (r ∷ rs) (w ∷ ws) [] ok l m p q = absurd (omega arith)
told clocks earlier i (r ∷ rs) (w ∷ ws) (v ∷ vs) ok l m p q =
    step (told clocks (adding_all (defined_of r) earlier) (suc i) rs ws vs (later_pass clocks earlier i r rs ok) (omega arith) (omega arith) (nowhere (in_range r w) _ i p).1 (nowhere (in_range r v) _ i q).1)
  where
    wr : in_range r w ≡ true
    wr = (nowhere _ _ i p).0

    vr : in_range r v ≡ true
    vr = (nowhere _ _ i q).0

    step : Told clocks rs ws vs → Told clocks (r ∷ rs) (w ∷ ws) (v ∷ vs)
    step t = (λ d. other (word_discrete w v) d, λ s. ap₂ ◌∷◌ (words_alike clocks r (record_passes clocks earlier i r rs ok) w v wr vr (s 0 (omega arith))) (t.1 (λ j h. s (suc j) (suc-le-suc h))))
      where
        other : Dec (w ≡ v) → (w ∷ ws) ≢ (v ∷ vs) → SomeApart clocks (r ∷ rs) (w ∷ ws) (v ∷ vs)
        other (yes e) d = let o = t.0 (λ f. d (ap₂ ◌∷◌ e f)) in (suc o.0, suc-le-suc o.1, o.2)
        other (no n) d = (0, omega arith, words_apart clocks r (record_passes clocks earlier i r rs ok) w v wr vr n)

-- ---- demand 3: for every list of records, every clock count and every two configurations of 64 words
pub demand_3 : SamePlaceMeant
demand_3 clocks rs ws vs lw lv p59 p60 q60 = rw (p59, p60, q60) (go (same_words ws vs) refl)
  where
    t : Told clocks rs ws vs
    t =
        let u = (clocks_pass clocks rs p59).1 in
        let m : length rs ≤ length ws = omega (arith, records_pass clocks none 1 rs (omega arith) u) in
        told clocks none 1 rs ws vs u (omega arith) m p60 q60

    alike : ws ≡ vs → AllAlike clocks rs ws vs
    alike e i h Fs c = ap (λ (xs : List Word). accepts (record_at rs i) (word_at xs i) Fs) e

    apart : SomeApart clocks rs ws vs → ws ≢ vs
    apart o e = never _ _ (alike e o.0 o.1 o.2.0 o.2.1) o.2.2

    go : (x : Bool) → same_words ws vs ≡ x → (cond x same different ≡ same ↔ AllAlike clocks rs ws vs) × (cond x same different ≡ different ↔ SomeApart clocks rs ws vs)
    go true e =
        let eq = words_yes ws vs e in
        ((λ s. alike eq, λ s. refl), (λ s. let z : ◌≡◌ {A = ℕ} 0 1 = cc in absurd (omega arith), λ o. absurd (apart o eq)))
    go false e =
        let ne : ws ≢ vs = λ f. true≢false (sym (words_same ws vs f) ∙ e) in
        ((λ s. let z : ◌≡◌ {A = ℕ} 0 1 = cc in absurd (omega arith), λ s. absurd (ne (t.1 s))), (λ s. t.0 ne, λ o. refl))

-- what a call promises follows from its answer being the definition's
pub answered : (clocks : Clocks) (rs : List Constraint) (ws vs : List Word) → length ws ≡ 64 → length vs ≡ 64 → (said : Answer) → said ≡ same_place_of clocks rs ws vs → Answered clocks rs ws vs said
answered clocks rs ws vs lw lv said e = record { given = e; meant = rw e (demand_3 clocks rs ws vs lw lv) }

-- an answer in document 01's words is the answer of one value alone
pub answer_determines : AnswerDetermines
answer_determines (Err r) (Err s) e =
    let n : number_of r.limit ≡ number_of s.limit = cc in
    let p : r.place.0 ≡ s.place.0 = cc in
    ap Err (refusals_differ r s n p)
answer_determines (Err r) (Ok Same) e = cc
answer_determines (Err r) (Ok Different) e = cc
answer_determines (Ok Same) (Err s) e = cc
answer_determines (Ok Same) (Ok Same) e = refl
answer_determines (Ok Same) (Ok Different) e = cc
answer_determines (Ok Different) (Err s) e = cc
answer_determines (Ok Different) (Ok Same) e = cc
answer_determines (Ok Different) (Ok Different) e = refl
