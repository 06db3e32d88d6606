-- What a single step answers: the checks in their order, one by one, decide the whole answer, and each claim of `StepAnswers` is read off that.
-- Assumes nothing.
use mathlib.Core.Path.{◌≡◌, refl, sym, ap, ◌∙◌}
use mathlib.Core.Bool.{Bool, true, false, cond, true≢false}
use mathlib.Core.List.{List, [], ◌∷◌}
use Prim.Native.Nat.{ℕ, zero, suc, ◌+◌, ◌^◌, ◌<◌, ◌≤◌}
use native.Mathlib.Omega.{arith}
use borrow.Author.Tests.{lt-ltb, le-ltb, ltb-true, ltb-false}
use lib.Dec.{ltb}
use lib.IntN.{pos}
use lib.ListN.{length}
use Rattle.std.specs.Prelude.{Option, None, Some, Ok, Err}
use Rattle.limit.specs.declared.Limit.TheVariants.{Records, ConfigurationWord, TickSet}
use Rattle.limit.specs.declared.Place.{Place}
use Rattle.limit.specs.Limit.{number_of}
use Rattle.limit.proofs.Numbers.{refusals_differ}
use Rattle.constraint.specs.Implicit.{defines_implicit}
use Rattle.constraint.specs.Lists.{at, empty, first_not, first_out, broken_record, broken_word}
use Rattle.constraint.specs.Meaning.{word, holds, next_word, in_range}
use Rattle.constraint.specs.Million.{in_million, first_past}
use Rattle.constraint.specs.SamePlace.{record_at, word_at}
use Rattle.constraint.specs.Ticks.{Ticks}
use Rattle.constraint.specs.declared.Clocks.{Clocks}
use Rattle.constraint.specs.declared.Configuration.{Configuration}
use Rattle.constraint.specs.declared.Constraint.{Constraint}
use Rattle.constraint.specs.declared.Word.{Word}
use Rattle.constraint.proofs.Booleans.{untrue}
use Rattle.constraint.proofs.Demand3.{nowhere}
use Rattle.constraint.proofs.ImplicitLaws.{implicit_never_fails}
use Rattle.constraint.proofs.Words.{only_zero}
use Rattle.judging.specs.Answers.{HasBoth, Holds, Stays, All, FirstNot, Passes, StepRefuses, by_records, by_words, by_ticks, by_million, StepViolates, StepAccepts, EveryStepAnswers}
use Rattle.judging.specs.Single.{StepSaid, accepted, violated, refused, StepTold, StepSaidDetermines, refuses_at, beyond_clocks, all_ticks, judged_told, step_of}
use Rattle.judging.specs.Step.{first_failing, moved, handed_back, judged}
use Rattle.judging.specs.declared.NotHeld.TheVariants.{Failed, PastMillion}
use Rattle.judging.specs.declared.Stopped.TheVariants.{Violated, Refused}
use Rattle.judging.proofs.StepLaws.{length_moved}

-- ---- the words after a step, one by one

moved_at : (F : Ticks) (rs : List Constraint) (ws : List Word) (i : ℕ) → i < length ws → word_at (moved F rs ws) i ≡ next_word (record_at rs i) (word_at ws i) F
moved_at F [] ws i h = refl
moved_at F (r ∷ rs) [] i h = absurd (omega arith)
moved_at F (r ∷ rs) (w ∷ ws) zero h = refl
moved_at F (r ∷ rs) (w ∷ ws) (suc i) h = moved_at F rs ws i (omega arith)

moved_beyond : (F : Ticks) (rs : List Constraint) (ws : List Word) (i : ℕ) → length rs ≤ i → word_at (moved F rs ws) i ≡ word_at ws i
moved_beyond F [] ws i h = refl
moved_beyond F (r ∷ rs) [] i h = refl
moved_beyond F (r ∷ rs) (w ∷ ws) zero h = absurd (omega arith)
moved_beyond F (r ∷ rs) (w ∷ ws) (suc i) h = moved_beyond F rs ws i (omega arith)

zero_beyond : (k : ℕ) (rs : List Constraint) (ws : List Word) (i : ℕ) → first_out k rs ws ≡ None → length rs ≤ i → word_at ws i ≡ word (pos 0)
zero_beyond k rs [] i e h = refl
zero_beyond k [] (w ∷ ws) zero e h = only_zero w (nowhere (in_range empty w) _ k e).0
zero_beyond k [] (w ∷ ws) (suc i) e h = zero_beyond (suc k) [] ws i (nowhere (in_range empty w) _ k e).1 (omega arith)
zero_beyond k (r ∷ rs) (w ∷ ws) zero e h = absurd (omega arith)
zero_beyond k (r ∷ rs) (w ∷ ws) (suc i) e h = zero_beyond (suc k) rs ws i (nowhere (in_range r w) _ k e).1 (omega arith)

by_index : (P : ℕ → Type 0) → P 0 → ((i : ℕ) → P (suc i)) → (i : ℕ) → P i
by_index P z s zero = z
by_index P z s (suc i) = s i

-- ---- the first record that does not pass a test with its word, by its index
module _ (test : Constraint → Word → Bool) where
  abbrev Passing : List Constraint → List Word → ℕ → Type 0
  Passing rs ws i = test (record_at rs i) (word_at ws i) ≡ true

  abbrev Found : (n : ℕ) → List Constraint → List Word → Option Place → Type 0
  Found n rs ws None = All rs ws (Passing rs ws)
  Found n rs ws (Some p) = (k : ℕ) × (p.0 ≡ n + k) × HasBoth rs ws k × ((i : ℕ) → i < k → Passing rs ws i) × (test (record_at rs k) (word_at ws k) ≡ false)

  found : (n : ℕ) (rs : List Constraint) (ws : List Word) → Found n rs ws (first_not test n rs ws)
  found n [] ws = λ i h. absurd (omega arith)
  found n (r ∷ rs) [] = λ i h. absurd (omega arith)
  found n (r ∷ rs) (w ∷ ws) = go (test r w) refl (first_not test (suc n) rs ws) (found (suc n) rs ws)
    where
      go : (x : Bool) → test r w ≡ x → (b : Option Place) → Found (suc n) rs ws b → Found n (r ∷ rs) (w ∷ ws) (cond x b (at n))
      go true e None f = λ i h. by_index (λ j. HasBoth (r ∷ rs) (w ∷ ws) j → Passing (r ∷ rs) (w ∷ ws) j) (λ _. e) (λ j k. f j (omega arith, omega arith)) i h
      go true e (Some p) (k, q, both, before, here) =
          (suc k, omega arith, (omega arith, omega arith), (λ i h. by_index (λ j. j < suc k → Passing (r ∷ rs) (w ∷ ws) j) (λ _. e) (λ j l. before j (omega arith)) i h), here)
      go false e b f = (0, omega arith, (omega arith, omega arith), (λ i h. absurd (omega arith)), e)

  -- and back
  none_found : (n : ℕ) (rs : List Constraint) (ws : List Word) → All rs ws (Passing rs ws) → first_not test n rs ws ≡ None
  none_found n [] ws h = refl
  none_found n (r ∷ rs) [] h = refl
  none_found n (r ∷ rs) (w ∷ ws) h = rw (h 0 (omega arith, omega arith)) (none_found (suc n) rs ws (λ i k. h (suc i) (omega arith, omega arith)))

  one_found : (n : ℕ) (rs : List Constraint) (ws : List Word) (k : ℕ) → HasBoth rs ws k → ((i : ℕ) → i < k → Passing rs ws i) → test (record_at rs k) (word_at ws k) ≡ false
      → first_not test n rs ws ≡ at (n + k)
  one_found n [] ws k both before here = absurd (omega arith)
  one_found n (r ∷ rs) [] k both before here = absurd (omega arith)
  one_found n (r ∷ rs) (w ∷ ws) zero both before here = rw here (ap at (omega arith))
  one_found n (r ∷ rs) (w ∷ ws) (suc k) both before here =
      rw (before 0 (omega arith)) (one_found (suc n) rs ws k (omega arith, omega arith) (λ i h. before (suc i) (omega arith)) here ∙ ap at (omega arith))

-- ---- the two tests of a step
module _ (rs : List Constraint) (ws : List Word) (F : Ticks) where
  abbrev holding : Constraint → Word → Bool
  holding r w = holds r w F

  abbrev moves : List Word
  moves = moved F rs ws

  -- the words after the step are as many, and each is the next word of its record
  next_at : (i : ℕ) → i < length ws → in_million (record_at rs i) (word_at moves i) ≡ in_million (record_at rs i) (next_word (record_at rs i) (word_at ws i) F)
  next_at i h = ap (in_million (record_at rs i)) (moved_at F rs ws i h)

  as_many : length moves ≡ length ws
  as_many = length_moved F rs ws

  fails_first : (p : Place) → Found holding 1 rs ws (Some p) → FirstNot rs ws (Holds rs ws F) p.0
  fails_first p (k, q, both, before, here) = record { index = k; at = q; there = both; before = before; here = λ h. true≢false (sym h ∙ here) }

  past_first : (p : Place) → Found in_million 1 rs moves (Some p) → FirstNot rs ws (Stays rs ws F) p.0
  past_first p (k, q, both, before, here) =
      let there : HasBoth rs ws k = (both.0, omega (arith, as_many)) in
      record {
        index = k;
        at = q;
        there = there;
        before = λ i h. sym (next_at i (omega arith)) ∙ before i h;
        here = λ h. true≢false (sym h ∙ sym (next_at k there.1) ∙ here);
      }

  all_stay : Found in_million 1 rs moves None → All rs ws (Stays rs ws F)
  all_stay g i h = sym (next_at i h.1) ∙ g i (h.0, omega (arith, as_many))

  first_fails : {p : ℕ} → FirstNot rs ws (Holds rs ws F) p → first_failing F 1 rs ws ≡ at p
  first_fails x = one_found holding 1 rs ws x.index x.there x.before (untrue _ x.here) ∙ ap at (sym x.at)

  first_past_lem : {p : ℕ} → FirstNot rs ws (Stays rs ws F) p → first_past 1 rs moves ≡ at p
  first_past_lem x =
      one_found in_million 1 rs moves x.index (x.there.0, omega (arith, as_many))
      (λ i h. next_at i (omega (arith, x.there.1)) ∙ x.before i h)
      (next_at x.index x.there.1 ∙ untrue _ x.here)
      ∙ ap at (sym x.at)

  none_past : All rs ws (Stays rs ws F) → first_past 1 rs moves ≡ None
  none_past g = none_found in_million 1 rs moves (λ i h. let k : i < length ws = omega (arith, as_many) in next_at i k ∙ g i (h.0, k))

-- ---- the checks, one by one
module _ (clocks : Clocks) (rs : List Constraint) (c : Configuration) (f : ℕ) where
  abbrev F : Ticks
  F = all_ticks clocks rs c.words f

  abbrev after : List Word
  after = moved F rs c.words

  -- what the definition gives is so answered
  abbrev Answering : StepTold → StepSaid → Type 0
  Answering t accepted = StepAccepts clocks rs c.words f × (t.configuration.words ≡ after)
  Answering t (violated p) = StepViolates clocks rs c.words f p × (t.configuration ≡ c)
  Answering t (refused n p) = StepRefuses clocks rs c.words f n p × (t.configuration ≡ c)

  abbrev Answers : StepTold → Type 0
  Answers t = Answering t t.said

  abbrev judges : StepTold
  judges = judged_told (judged F rs c)

  judging : Passes clocks rs c.words f → (x y : Option Place) → Found (holding rs c.words F) 1 rs c.words x → Found in_million 1 rs after y
      → Answers (judged_told (handed_back Failed x c (handed_back PastMillion y c (record { outcome = Ok tt; configuration = record { words = after } }))))
  judging ok (Some p) y e q = (record { passes = ok; fails = fails_first rs c.words F p e }, refl)
  judging ok None (Some p) e q = (by_million ok e (past_first rs c.words F p q), refl)
  judging ok None None e q = (record { passes = ok; hold = e; stay = all_stay rs c.words F q }, refl)

  module _ (p59 : broken_record clocks rs ≡ None) where
    ticks : broken_word rs c.words ≡ None → (x : Bool) → ltb f (2 ^ clocks.named) ≡ x → Answers (refuses_at TickSet (cond x None (at 0)) c judges)
    unfolding judged
    ticks p60 true u =
        judging (record { records = p59; words = p60; ticks = ltb-true f (2 ^ clocks.named) u }) (first_failing F 1 rs c.words) (first_past 1 rs after)
        (found (holding rs c.words F) 1 rs c.words) (found in_million 1 rs after)
    ticks p60 false u = (by_ticks p59 p60 (ltb-false f (2 ^ clocks.named) u), refl)

    words : (x : Option Place) → broken_word rs c.words ≡ x → Answers (refuses_at ConfigurationWord x c (refuses_at TickSet (beyond_clocks clocks f) c judges))
    words (Some p) e = (by_words p59 e, refl)
    words None e = ticks e (ltb f (2 ^ clocks.named)) refl

  records : (x : Option Place) → broken_record clocks rs ≡ x
      → Answers (refuses_at Records x c (refuses_at ConfigurationWord (broken_word rs c.words) c (refuses_at TickSet (beyond_clocks clocks f) c judges)))
  records (Some p) e = (by_records e, refl)
  records None e = words e (broken_word rs c.words) refl

  answered : Answers (step_of clocks rs c f)
  unfolding step_of
  answered = records (broken_record clocks rs) refl

  -- ---- and back: each case is what the definition gives

  pub passed : Passes clocks rs c.words f → step_of clocks rs c f ≡ judges
  unfolding step_of
  passed ok = rw (ok.records, ok.words, lt-ltb f (2 ^ clocks.named) ok.ticks)

  refuses_step : {n p : ℕ} → StepRefuses clocks rs c.words f n p → (step_of clocks rs c f).said ≡ refused n p
  unfolding step_of judged
  refuses_step (by_records e) = rw e
  refuses_step (by_words e q) = rw (e, q)
  refuses_step (by_ticks e q u) = rw (e, q, le-ltb f (2 ^ clocks.named) u)
  refuses_step (by_million ok h g) = rw (passed ok, none_found (holding rs c.words F) 1 rs c.words h, first_past_lem rs c.words F g)

  violates_step : {p : ℕ} → StepViolates clocks rs c.words f p → (step_of clocks rs c f).said ≡ violated p
  unfolding judged
  violates_step v = rw (passed v.passes, first_fails rs c.words F v.fails)

  accepts_step : StepAccepts clocks rs c.words f → (step_of clocks rs c f).said ≡ accepted
  unfolding judged
  accepts_step a = rw (passed a.passes, none_found (holding rs c.words F) 1 rs c.words a.hold, none_past rs c.words F a.stay)

  given : (t : StepTold) (s : StepSaid) → Answering t s → (s ≡ accepted → ⊥) → t.configuration ≡ c
  given t accepted a n = absurd (n refl)
  given t (violated p) a n = a.1
  given t (refused m p) a n = a.1

-- the record that fails first does not define an implicit clock: those definitions hold
names_no_implicit : (clocks : Clocks) (rs : List Constraint) (ws : List Word) (f i : ℕ) → StepViolates clocks rs ws f (1 + i) → defines_implicit clocks.named (record_at rs i) ≡ false
names_no_implicit clocks rs ws f i v =
    let x = v.fails in
    let same : x.index ≡ i = omega (arith, x.at) in
    rw (← same) (implicit_never_fails clocks rs ws f v.passes.records v.passes.ticks x.index x.there.0 x.there.1 (untrue _ x.here))

pub every_step_answers : EveryStepAnswers
every_step_answers clocks rs c f =
    let a = answered clocks rs c f in
    let F = all_ticks clocks rs c.words f in
    record {
      refuses = λ n p. (λ e. (rw e at a).0, refuses_step clocks rs c f);
      violates = λ p. (λ e. (rw e at a).0, violates_step clocks rs c f);
      accepts = (λ e. (rw e at a).0, accepts_step clocks rs c f);
      never_implicit = λ i e. names_no_implicit clocks rs c.words f i (rw e at a).0;
      given_back = given clocks rs c f (step_of clocks rs c f) (step_of clocks rs c f).said a;
      moves = λ e i h. ap (λ (ws : List Word). word_at ws i) (rw e at a).1 ∙ moved_at F rs c.words i h;
      beyond = λ e i h. ap (λ (ws : List Word). word_at ws i) (rw e at a).1 ∙ moved_beyond F rs c.words i h ∙ zero_beyond 1 rs c.words i (rw e at a).0.passes.words h;
    }

-- ---- an answer in document 01's words is the answer of one value alone

pub step_said_determines : StepSaidDetermines
step_said_determines (Ok u) (Ok v) e = refl
step_said_determines (Ok u) (Err (Violated q)) e = cc
step_said_determines (Ok u) (Err (Refused s)) e = cc
step_said_determines (Err (Violated p)) (Ok v) e = cc
step_said_determines (Err (Violated p)) (Err (Violated q)) e = let h : p.0 ≡ q.0 = cc in ap (λ (i : ℕ). Err (Violated (record { 0 = i }))) h
step_said_determines (Err (Violated p)) (Err (Refused s)) e = cc
step_said_determines (Err (Refused r)) (Ok v) e = cc
step_said_determines (Err (Refused r)) (Err (Violated q)) e = cc
step_said_determines (Err (Refused r)) (Err (Refused s)) e =
    let n : number_of r.limit ≡ number_of s.limit = cc in
    let p : r.place.0 ≡ s.place.0 = cc in
    ap (λ x. Err (Refused x)) (refusals_differ r s n p)
