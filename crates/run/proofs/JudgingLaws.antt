-- A table's slots behind its records hold and have no million, so a step's outcome is read off `Every` and `FirstWithout` over all slots; and so is a
-- whole run: every list of steps splits into accepted ones and what ends them, and judging ends as it splits. Assumes nothing.
use Rattle.std.specs.Prelude.{Ok, Err, Option, Some, None}
use mathlib.Core.Path.{◌≡◌, refl, sym, ap, ◌∙◌}
use mathlib.Core.Logic.{◌⊎◌, inl, inr}
use mathlib.Core.Bool.{Bool, true, false, cond, false≢true}
use mathlib.Core.List.{List, [], ◌∷◌, ◌++◌, map, append-nil}
use Prim.Native.Nat.{ℕ, zero, suc, ◌+◌, ◌≤◌}
use native.Mathlib.Omega.{arith}
use lib.ListN.{length, get_or, length-append}
use lib.Seq.{append_snoc, get_or-append_seam}
use Rattle.limit.specs.declared.Place.{Place}
use Rattle.constraint.specs.Lists.{at, empty, slots, first_not, broken_word}
use Rattle.constraint.specs.Meaning.{holds, next_word}
use Rattle.constraint.specs.SamePlace.{record_at}
use Rattle.constraint.specs.Ticks.{Ticks, bits}
use Rattle.constraint.specs.declared.Configuration.{Configuration}
use Rattle.constraint.specs.declared.Constraint.{Constraint}
use Rattle.constraint.specs.declared.Word.{Word}
use Rattle.table.specs.Reader as table
use Rattle.grammar.specs.declared.Table.{Table}
use Rattle.recording.specs.Body.{Ending}
use Rattle.recording.specs.declared.Step.{Step}
use Rattle.run.specs.Judgement.{moved_by, word_after, HoldsAt, StaysAt, Every, none, more, FirstWithout, Accepted, Ends, at_end, fails, past, after}
use Rattle.constraint.specs.Million.{in_million, first_past}
use Rattle.run.specs.Run.{Said, violated, ending_said, line_of, after_step, judge_all, records_of, start_of}
use Rattle.judging.specs.Step.{first_failing, moved, judged}
use Rattle.judging.specs.declared.NotHeld.TheVariants.{Failed, PastMillion}
use Rattle.judging.proofs.StepLaws.{out_is_past, judged_failed, judged_past, judged_held}

-- ---- the first record that does not pass a test, the first of these having the place i

abbrev first_slot : (Constraint → Bool) → (i : ℕ) → List Constraint → Option Place
first_slot t i [] = None
first_slot t i (r ∷ rs) = cond (t r) (first_slot t (suc i) rs) (at i)

stops_at : (x : Bool) (b : Option Place) (i : ℕ) → (x ≡ true → ⊥) → cond x b (at i) ≡ at (i + 0)
stops_at true b i n = absurd (n refl)
stops_at false b i n = ap at (omega arith)

abbrev EveryOrFirst : (P : Constraint → Type 0) → List Constraint → Type 0
EveryOrFirst P rs = Every P rs ⊎ ((r : Constraint) × FirstWithout P rs r)

module _ (t : Constraint → Bool) where
  abbrev Passes : Constraint → Type 0
  Passes r = t r ≡ true

  every_passes : (i : ℕ) {rs : List Constraint} → Every Passes rs → first_slot t i rs ≡ None
  every_passes i none = refl
  every_passes i (more p ps) = rw p (every_passes (suc i) ps)

  first_at : (i : ℕ) {earlier : List Constraint} (r : Constraint) (later : List Constraint) → Every Passes earlier → (Passes r → ⊥) → first_slot t i (earlier ++ r ∷ later) ≡ at (i + length earlier)
  first_at i r later none n = stops_at (t r) _ i n
  first_at i r later (more p ps) n = rw p (first_at (suc i) r later ps n ∙ ap at (omega arith))

  every_or_first : (rs : List Constraint) → EveryOrFirst Passes rs
  every_or_first [] = inl none
  every_or_first (r ∷ rs) = go (t r) refl (every_or_first rs)
    where
      go : (x : Bool) → t r ≡ x → EveryOrFirst Passes rs → EveryOrFirst Passes (r ∷ rs)
      go true e (inl ps) = inl (more e ps)
      go true e (inr (q, f)) = inr (q, record { earlier = r ∷ f.earlier; later = f.later; place = ap (λ l. r ∷ l) f.place; before = more e f.before; here = f.here })
      go false e s = inr (r, record { earlier = []; later = rs; place = refl; before = none; here = λ h. false≢true (sym e ∙ h) })

abbrev pub place_of : {P : Constraint → Type 0} {rs : List Constraint} {r : Constraint} → FirstWithout P rs r → Place
place_of f = record { 0 = 1 + length f.earlier }

first_found : (t : Constraint → Bool) {rs : List Constraint} {r : Constraint} (f : FirstWithout (Passes t) rs r) → first_slot t 1 rs ≡ Some (place_of f)
first_found t f = ap (first_slot t 1) f.place ∙ first_at t 1 _ f.later f.before f.here

-- ---- the words of slots, of which those behind the records are empty

-- with the word f r of each slot r
module _ (f : Constraint → Word) where
  found_slot : (test : Constraint → Word → Bool) (i n : ℕ) (rs : List Constraint) → length rs ≤ n → first_not test i rs (map f (slots n rs)) ≡ first_slot (λ r. test r (f r)) i rs
  found_slot test i n [] h = refl
  found_slot test i zero (r ∷ rs) h = absurd (omega arith)
  found_slot test i (suc n) (r ∷ rs) h = rw (found_slot test (suc i) n rs (omega arith))

  moved_slots : (F : Ticks) (g : Constraint → Word) → ((r : Constraint) → g r ≡ next_word r (f r) F) → (n : ℕ) (rs : List Constraint) → length rs ≤ n → map g (slots n rs) ≡ moved F rs (map f (slots n rs))
  moved_slots F g e zero [] h = refl
  moved_slots F g e zero (r ∷ rs) h = absurd (omega arith)
  moved_slots F g e (suc n) [] h = rw (e empty, moved_slots F g e n [] (omega arith))
  moved_slots F g e (suc n) (r ∷ rs) h = rw (e r, moved_slots F g e n rs (omega arith))

-- ---- a step after others, ss

-- the configuration after them
abbrev after_all : (n : ℕ) → List Constraint → List Step → Configuration
after_all n rs ss = record { words = map (word_after ss) (slots n rs) }

moved_more : (r : Constraint) (w : Word) (ss : List Step) (s : Step) → moved_by r w (ss ++ s ∷ []) ≡ next_word r (moved_by r w ss) (bits s.ticks)
moved_more r w [] s = refl
moved_more r w (q ∷ ss) s = moved_more r (next_word r w (bits q.ticks)) ss s

-- accepted steps leave words in range, and judging goes on from there
record Reached (n : ℕ) (rs : List Constraint) (ss : List Step) : Type 0 where
  inside : broken_word rs (after_all n rs ss).words ≡ None
  judges : (e : Ending) (left : List Step) → judge_all rs 0 (after_all n rs []) (ss ++ left) e ≡ judge_all rs (length ss) (after_all n rs ss) left e

-- there are slots for the records rs
module _ (n : ℕ) (rs : List Constraint) (room : length rs ≤ n) where
  module _ (ss : List Step) (s : Step) where
    abbrev F : Ticks
    F = bits s.ticks

    all_moved : (after_all n rs (ss ++ s ∷ [])).words ≡ moved F rs (after_all n rs ss).words
    all_moved = moved_slots (word_after ss) F _ (λ r. moved_more r _ ss s) n rs room

    fails_first : first_failing F 1 rs (after_all n rs ss).words ≡ first_slot (λ r. holds r (word_after ss r) F) 1 rs
    fails_first = found_slot (word_after ss) (λ r w. holds r w F) 1 n rs room

    past_first : first_past 1 rs (after_all n rs (ss ++ s ∷ [])).words ≡ first_slot (λ r. in_million r (word_after (ss ++ s ∷ []) r)) 1 rs
    past_first = found_slot (word_after (ss ++ s ∷ [])) in_million 1 n rs room

    step_fails : {r : Constraint} (f : FirstWithout (HoldsAt ss s) rs r) → judged F rs (after_all n rs ss) ≡ record { outcome = Err (Failed (place_of f)); configuration = after_all n rs ss }
    step_fails f = judged_failed _ rs (after_all n rs ss) (place_of f) (fails_first ∙ first_found _ f)

    -- from words in range, once every record held
    module _ (inside : broken_word rs (after_all n rs ss).words ≡ None) (hold : Every (HoldsAt ss s) rs) where
      none_fails : first_failing F 1 rs (after_all n rs ss).words ≡ None
      none_fails = fails_first ∙ every_passes _ 1 hold

      step_past : {r : Constraint} (f : FirstWithout (StaysAt ss s) rs r) → judged F rs (after_all n rs ss) ≡ record { outcome = Err (PastMillion (place_of f)); configuration = after_all n rs ss }
      step_past f = judged_past _ rs (after_all n rs ss) (after_all n rs (ss ++ s ∷ [])) all_moved none_fails (place_of f) (past_first ∙ first_found _ f)

      module _ (stay : Every (StaysAt ss s) rs) where
        none_past : first_past 1 rs (after_all n rs (ss ++ s ∷ [])).words ≡ None
        none_past = past_first ∙ every_passes _ 1 stay

        still_inside : broken_word rs (after_all n rs (ss ++ s ∷ [])).words ≡ None
        still_inside = rw all_moved (out_is_past F 1 rs (after_all n rs ss).words inside none_fails ∙ (rw all_moved at none_past))

        step_held : judged F rs (after_all n rs ss) ≡ record { outcome = Ok tt; configuration = after_all n rs (ss ++ s ∷ []) }
        step_held = judged_held _ rs (after_all n rs ss) (after_all n rs (ss ++ s ∷ [])) all_moved none_fails none_past

  record_found : {P : Constraint → Type 0} {r : Constraint} (f : FirstWithout P rs r) → record_at rs (length f.earlier) ≡ r
  record_found f =
      ap (λ l. get_or l (length f.earlier) empty) f.place ∙ get_or-append_seam f.earlier _ f.later empty

  line_found : {P : Constraint → Type 0} {r : Constraint} (f : FirstWithout P rs r) → line_of rs (place_of f) ≡ r.line.0
  line_found f = ap (λ (i : ℕ). (get_or rs i empty).line.0) (omega arith) ∙ ap (λ (c : Constraint). c.line.0) (record_found f)

  -- judging, through accepted steps, and at what ends them
  one_more : (ss : List Step) (s : Step) → Reached n rs ss → Every (HoldsAt ss s) rs → Every (StaysAt ss s) rs → Reached n rs (ss ++ s ∷ [])
  unfolding judge_all after_step
  one_more ss s a hold stay = record { inside = still_inside ss s a.inside hold stay; judges = onward }
    where
      onward : (e : Ending) (left : List Step) → judge_all rs 0 (after_all n rs []) ((ss ++ s ∷ []) ++ left) e ≡ judge_all rs (length (ss ++ s ∷ [])) (after_all n rs (ss ++ s ∷ [])) left e
      onward e left =
          let l : length (ss ++ s ∷ []) ≡ suc (length ss) = omega (arith, length-append ss (s ∷ [])) in
          rw (append_snoc, l) (a.judges e (s ∷ left) ∙ rw (step_held ss s a.inside hold stay))

  through : (ss qs : List Step) → Accepted rs (ss ++ qs) → Reached n rs ss → Reached n rs (ss ++ qs)
  through ss [] h a = rw append-nil a
  through ss (s ∷ qs) h a =
      let p = h ss qs s refl in
      rw append_snoc at (through (ss ++ s ∷ []) qs (rw append_snoc h) (one_more ss s a p.0 p.1))

  stops : {e : Ending} {ss left : List Step} {said : Said} → broken_word rs (after_all n rs ss).words ≡ None → Ends rs e ss left said → (i : ℕ)
      → judge_all rs i (after_all n rs ss) left e ≡ record { said = said; steps = i; configuration = after_all n rs ss }
  unfolding judge_all after_step
  stops inside at_end i = refl
  stops {ss = ss} inside (fails {s} f) i = rw (step_fails ss s f) (ap (λ (l : ℕ). record { said = violated l s.time.0; steps = i; configuration = after_all n rs ss }) (line_found f))
  stops inside (past {s} h f) i = rw (step_past _ s inside h f) refl

-- ---- where a run stops

-- a step q of ss and one more, s, is that one, or one of ss
abbrev LastOrEarlier : (ss before : List Step) (s q : Step) → Type 0
LastOrEarlier ss before s q = ((before ≡ ss) × (q ≡ s)) ⊎ ((l : List Step) × (ss ≡ before ++ q ∷ l))

last_or_earlier : (ss before later : List Step) (s q : Step) → ss ++ s ∷ [] ≡ before ++ q ∷ later → LastOrEarlier ss before s q
last_or_earlier [] [] later s q e = inl (refl, cc)
last_or_earlier [] (x ∷ before) later s q e = absurd (omega (arith, length-append before (q ∷ later), ap length e))
last_or_earlier (x ∷ ss) [] later s q e = inr (ss, cc)
last_or_earlier (x ∷ ss) (y ∷ before) later s q e = go (last_or_earlier ss before later s q cc)
  where
    go : LastOrEarlier ss before s q → LastOrEarlier (x ∷ ss) (y ∷ before) s q
    go (inl (p, u)) = inl (cc, u)
    go (inr (l, p)) = inr (l, cc)

accepted_more : (all : List Constraint) (ss : List Step) (s : Step) → Accepted all ss → Every (HoldsAt ss s) all → Every (StaysAt ss s) all → Accepted all (ss ++ s ∷ [])
accepted_more all ss s h hold stay before later q e = go (last_or_earlier ss before later s q e)
  where
    go : LastOrEarlier ss before s q → Every (HoldsAt before q) all × Every (StaysAt before q) all
    go (inl (p, u)) = rw (p, u) (hold, stay)
    go (inr (l, p)) = h before l q p

-- the accepted steps of a list, what is left, which ends them, and the verdict
pub record Split (all : List Constraint) (e : Ending) (steps : List Step) : Type 0 where
  pub accepted : List Step
  pub left : List Step
  pub said : Said
  pub place : steps ≡ accepted ++ left
  pub held : Accepted all accepted
  pub ends : Ends all e accepted left said

split_more : (all : List Constraint) (e : Ending) (ss qs : List Step) → Accepted all ss → Split all e (ss ++ qs)
split_more all e ss [] h = record { accepted = ss; left = []; said = ending_said e; place = refl; held = h; ends = at_end }
split_more all e ss (s ∷ qs) h =
    go (every_or_first _ all) (every_or_first _ all) (λ hold stay. split_more all e (ss ++ s ∷ []) qs (accepted_more all ss s h hold stay))
  where
    go : EveryOrFirst (HoldsAt ss s) all → EveryOrFirst (StaysAt ss s) all → (Every (HoldsAt ss s) all → Every (StaysAt ss s) all → Split all e (ss ++ s ∷ [] ++ qs)) → Split all e (ss ++ s ∷ qs)
    go (inr (r, f)) x next = record { accepted = ss; left = s ∷ qs; said = _; place = refl; held = h; ends = fails f }
    go (inl hold) (inr (r, f)) next = record { accepted = ss; left = s ∷ qs; said = _; place = refl; held = h; ends = past hold f }
    go (inl hold) (inl stay) next = rw append_snoc at (next hold stay)

pub split : (all : List Constraint) (e : Ending) (qs : List Step) → Split all e qs
split all e qs = split_more all e [] qs (λ before later s q. absurd (omega (arith, length-append before (s ∷ later), ap length q)))

-- from a table's start words, judging ends as the steps split
module _ (b : Table) (p : table.Passes b) where
  room : length (records_of b) ≤ 64
  room = p.constraints

  reached : (ss : List Step) → Accepted (records_of b) ss → Reached 64 (records_of b) ss
  reached ss h = through 64 (records_of b) room [] ss h (record { inside = p.words; judges = λ e left. refl })

  pub judged_split : (e : Ending) (ss : List Step) (x : Split (records_of b) e ss)
      → judge_all (records_of b) 0 (start_of b) ss e ≡ record { said = x.said; steps = length x.accepted; configuration = after b x.accepted }
  judged_split e ss x =
      let a = reached x.accepted x.held in
      ap (λ l. judge_all (records_of b) 0 (start_of b) l e) x.place
      ∙ a.judges e x.left
      ∙ stops 64 (records_of b) room a.inside x.ends (length x.accepted)

  pub words_after : (ss : List Step) (s : Step) → (after b (ss ++ s ∷ [])).words ≡ moved (bits s.ticks) (records_of b) (after b ss).words
  words_after = all_moved 64 (records_of b) room

  pub accepted_in_range : (ss : List Step) → Accepted (records_of b) ss → broken_word (records_of b) (map (word_after ss) (slots 64 (records_of b))) ≡ None
  accepted_in_range ss h = (reached ss h).inside

  -- a step after accepted ones: it is held; a record, the first in table order, fails; a word, the first in table order, leaves its million
  module _ (ss : List Step) (s : Step) (h : Accepted (records_of b) ss) where
    pub judged_on : Every (HoldsAt ss s) (records_of b) → Every (StaysAt ss s) (records_of b)
        → judged (bits s.ticks) (records_of b) (after b ss) ≡ record { outcome = Ok tt; configuration = after b (ss ++ s ∷ []) }
    judged_on hold stay = step_held 64 (records_of b) room ss s (reached ss h).inside hold stay

    pub judged_stop : {r : Constraint} (f : FirstWithout (HoldsAt ss s) (records_of b) r)
        → judged (bits s.ticks) (records_of b) (after b ss) ≡ record { outcome = Err (Failed (place_of f)); configuration = after b ss }
    judged_stop f = step_fails 64 (records_of b) room ss s f

    pub judged_full : {r : Constraint} → Every (HoldsAt ss s) (records_of b) → (f : FirstWithout (StaysAt ss s) (records_of b) r)
        → judged (bits s.ticks) (records_of b) (after b ss) ≡ record { outcome = Err (PastMillion (place_of f)); configuration = after b ss }
    judged_full hold f = step_past 64 (records_of b) room ss s (reached ss h).inside hold f

  pub record_of_first : {P : Constraint → Type 0} {r : Constraint} (f : FirstWithout P (records_of b) r) → record_at (records_of b) (length f.earlier) ≡ r
  record_of_first f = record_found 64 (records_of b) room f

  pub line_of_first : {P : Constraint → Type 0} {r : Constraint} (f : FirstWithout P (records_of b) r) → line_of (records_of b) (place_of f) ≡ r.line.0
  line_of_first f = line_found 64 (records_of b) room f
