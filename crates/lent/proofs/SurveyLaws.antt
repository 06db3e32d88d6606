-- The step's walk over the records comes to the definition: whatever is known of the records seen, the walk adds what the definition says of those
-- to come, whose words are not moved yet. A record sees in the ticks so far what it sees in all of them, since 59 lets it use only named clocks and
-- those defined above it. Assumes nothing.
use mathlib.Core.Path.{◌≡◌, refl, sym, ap, ◌∙◌}
use mathlib.Core.Bool.{Bool, true, false, cond}
use mathlib.Core.List.{List, [], ◌∷◌, ◌++◌, map}
use Prim.Native.Nat.{ℕ, suc, ◌+◌, ◌<◌, ◌≤◌}
use native.Mathlib.Numerals.{add-one}
use native.Mathlib.Omega.{arith}
use lib.Dec.{ltb}
use lib.ListN.{length, take, drop, length-set, length-take, take-append-drop}
use lib.Seq.{drop-cons, drop-set-lt, take-suc-set, take_all, append_snoc}
use Rattle.std.specs.Prelude.{Option, None, Some, Ok}
use Rattle.limit.specs.declared.Limit.{Limit}
use Rattle.limit.specs.declared.Limit.TheVariants.{Records, ConfigurationWord, TickSet}
use Rattle.limit.specs.declared.Place.{Place}
use Rattle.constraint.specs.Implicit.{completed}
use Rattle.constraint.specs.Lists.{at, counts_fit, first_unfit, broken_record, first_out, broken_word}
use Rattle.constraint.specs.Look.{seen, looked}
use Rattle.constraint.specs.Meaning.{in_range, holds, next_word, defined_of, clocks_of}
use Rattle.constraint.specs.Million.{in_million, first_past}
use Rattle.constraint.specs.SamePlace.{word_at}
use Rattle.constraint.specs.Ticks.{Ticks, none, adding_all, bits}
use Rattle.constraint.specs.declared.Clocks.{Clocks}
use Rattle.constraint.specs.declared.Configuration.{Configuration}
use Rattle.constraint.specs.declared.Constraint.{Constraint}
use Rattle.constraint.specs.declared.Word.{Word}
use Rattle.constraint.proofs.Demand3.{nowhere, clocks_pass, later_pass}
use Rattle.constraint.proofs.ImplicitLaws.{reached_same}
use Rattle.constraint.proofs.Named.{holds_looks, next_looks}
use Rattle.constraint.proofs.TickSets.{bits_zero}
use Rattle.std.specs.Option.{option_or}
use Rattle.judging.specs.Single.{StepTold, refuses_at, beyond_clocks, all_ticks, judged_told, step_of}
use Rattle.judging.specs.Step.{first_failing, moved, handed_back, judged}
use Rattle.judging.specs.declared.NotHeld.TheVariants.{Failed, PastMillion}
use Rattle.lent.specs.Places.{unfit_at, out_at}
use Rattle.lent.specs.Survey.{inside, held, stayed, after, begins, ticks_here, visited, Walked, turned, surveyed, judged_at, concluded}
use Rattle.lent.specs.declared.Survey.{Survey}
use Rattle.lent.proofs.PlaceLaws.{lowest_placed, none_more, unfit_on, unfit_is, few_pass}

-- ---- what no record changes

kept : {A : Type 0} (g : Survey → A) → ((s : Survey) (p : Place) (r : Constraint) (w : Word) → g (visited s p r w).known ≡ g s) → (rs : List Constraint) (i : ℕ) (k : Walked) → g (surveyed i k rs).known ≡ g k.known
unfolding surveyed
kept g e [] i k = refl
kept g e (r ∷ rs) i k = kept g e rs (suc i) (turned i k r) ∙ e k.known (record { 0 = suc i }) r (word_at k.words i)

clocks_kept : (rs : List Constraint) (i : ℕ) (k : Walked) → (surveyed i k rs).known.clocks ≡ k.known.clocks
unfolding visited
clocks_kept = kept (λ s. s.clocks) (λ s p r w. refl)

given_kept : (rs : List Constraint) (i : ℕ) (k : Walked) → (surveyed i k rs).known.given ≡ k.known.given
unfolding visited
given_kept = kept (λ s. s.given) (λ s p r w. refl)

-- ---- what is told of a record whose word is in range or not

inside_is : (i h s : Bool) (v : Word) → inside (seen i h s v) ≡ i
inside_is false h s v = refl
inside_is true false s v = refl
inside_is true true false v = refl
inside_is true true true v = refl

held_is : (h s : Bool) (v : Word) → held (seen true h s v) ≡ h
held_is false s v = refl
held_is true false v = refl
held_is true true v = refl

stayed_is : (s : Bool) (v : Word) → stayed (seen true true s v) ≡ s
stayed_is false v = refl
stayed_is true v = refl

after_is : (s : Bool) (v w : Word) → after (seen true true s v) w ≡ v
after_is false v w = refl
after_is true v w = refl

-- ---- i records are seen, with rs to come and a word for each

record Room (k : Walked) (i : ℕ) (rs : List Constraint) : Type 0 where
  room : i + length rs ≤ 64
  words : length k.words ≡ 64

module _ (k : Walked) (i : ℕ) (r : Constraint) (rs : List Constraint) (h : Room k i (r ∷ rs)) where
  room_next : Room (turned i k r) (suc i) rs
  room_next = record { room = omega (arith, h.room); words = length-set k.words i _ ∙ h.words }

  word_here : drop i k.words ≡ word_at k.words i ∷ drop (suc i) k.words
  word_here = drop-cons k.words i _ (omega (arith, h.room, h.words))

  -- the words to come stay
  words_stay : (j : ℕ) → i < j → drop j (turned i k r).words ≡ drop j k.words
  words_stay j l = drop-set-lt j k.words i _ l

-- ---- 59

unfit_found : (rs : List Constraint) (i : ℕ) (k : Walked) → counts_fit k.known.clocks ≡ true → i + length rs ≤ 64 → (b : Option Place)
    → option_or (surveyed i k rs).known.unfit b ≡ option_or k.known.unfit (option_or (first_unfit k.known.clocks (bits k.known.earlier) (suc i) rs) b)
unfolding surveyed visited
unfit_found [] i k ok room b = refl
unfit_found (r ∷ rs) i k ok room b =
    unfit_found rs (suc i) (turned i k r) ok (omega (arith, room)) b
    ∙ unfit_on k.known.clocks ok k.known.earlier k.known.unfit i r rs b (omega (arith, room))

-- ---- 60

out_found : (rs : List Constraint) (i n : ℕ) (k : Walked) → Room k i rs → i + length rs ≡ n → out_at (surveyed i k rs).known.out n k.words ≡ option_or k.known.out (first_out (suc i) rs (drop i k.words))
unfolding surveyed visited
out_found [] i n k h e = let p : n ≡ i = omega arith in rw (p, add-one i)
out_found (r ∷ rs) i n k h e =
    let w = word_at k.words i in
    let f = bits (ticks_here k.known r w) in
    ap (λ (ws : List Word). option_or (surveyed (suc i) (turned i k r) rs).known.out (first_out (n + 1) [] ws)) (sym (words_stay k i r rs h n (omega (arith, e))))
    ∙ out_found rs (suc i) n (turned i k r) (room_next k i r rs h) (omega (arith, e))
    ∙ rw (words_stay k i r rs h (suc i) (omega arith), word_here k i r rs h, inside_is (in_range r w) (holds r w f) (in_million r (next_word r w f)) (next_word r w f)) (lowest_placed k.known.out (in_range r w) (record { 0 = suc i }) _)

-- ---- judging

-- the ticks that the walk comes to with the records to come
abbrev whole : Walked → ℕ → List Constraint → Ticks
whole k i rs = bits (completed k.known.clocks.named rs (drop i k.words) k.known.ticks)

-- 59 lets the records to come pass, behind records that define some clocks; every word is in range, those beyond the records, too; and the walk
-- comes to the ticks G
record Judging (G : Ticks) (k : Walked) (i : ℕ) (rs : List Constraint) : Type 0 where
  there : Room k i rs
  few : k.known.clocks.count ≤ 32
  earlier : Ticks
  pass : first_unfit k.known.clocks earlier (suc i) rs ≡ None
  fine : first_out (suc i) rs (drop i k.words) ≡ None
  ticks : G ≡ whole k i rs

module _ (G : Ticks) (k : Walked) (i : ℕ) (r : Constraint) (rs : List Constraint) (h : Judging G k i (r ∷ rs)) where
  abbrev w : Word
  w = word_at k.words i

  abbrev next : Word
  next = next_word r w G

  abbrev here_is : drop i k.words ≡ w ∷ drop (suc i) k.words
  here_is = word_here k i r rs h.there

  abbrev stay : drop (suc i) (turned i k r).words ≡ drop (suc i) k.words
  stay = words_stay k i r rs h.there (suc i) (omega arith)

  word_fine : (in_range r w ≡ true) × (first_out (suc (suc i)) rs (drop (suc i) k.words) ≡ None)
  word_fine = nowhere _ _ (suc i) (rw here_is at h.fine)

  judging_next : Judging G (turned i k r) (suc i) rs
  unfolding visited
  judging_next = record {
    there = room_next k i r rs h.there;
    few = h.few;
    earlier = adding_all (defined_of r) h.earlier;
    pass = later_pass k.known.clocks h.earlier (suc i) r rs h.pass;
    fine = rw stay word_fine.1;
    ticks = h.ticks ∙ rw (stay, here_is);
  }

  -- the record sees the same in the ticks so far as in all of them
  sees : map (bits (ticks_here k.known r w)) (clocks_of r) ≡ map G (clocks_of r)
  sees = rw (h.ticks, here_is) (reached_same k.known.clocks h.few r rs w (drop (suc i) k.words) h.earlier (suc i) k.known.ticks h.pass)

  looked_is : looked r w (bits (ticks_here k.known r w)) ≡ seen true (holds r w G) (in_million r next) next
  looked_is = rw (word_fine.0, holds_looks r w _ _ sees, next_looks r w _ _ sees)

failing_found : (G : Ticks) (rs : List Constraint) (i : ℕ) (k : Walked) → Judging G k i rs
    → (surveyed i k rs).known.failing ≡ option_or k.known.failing (first_failing G (suc i) rs (drop i k.words))
unfolding surveyed visited
failing_found G [] i k h = sym (none_more k.known.failing)
failing_found G (r ∷ rs) i k h =
    let w = word_at k.words i in
    failing_found G rs (suc i) (turned i k r) (judging_next G k i r rs h)
    ∙ rw (stay G k i r rs h, here_is G k i r rs h, looked_is G k i r rs h, held_is (holds r w G) (in_million r (next_word r w G)) (next_word r w G)) (lowest_placed k.known.failing (holds r w G) (record { 0 = suc i }) _)

-- where every record held, too
abbrev Held-all : Ticks → Walked → ℕ → List Constraint → Type 0
Held-all G k i rs = first_failing G (suc i) rs (drop i k.words) ≡ None

module _ (G : Ticks) (k : Walked) (i : ℕ) (r : Constraint) (rs : List Constraint) (h : Judging G k i (r ∷ rs)) (g : Held-all G k i (r ∷ rs)) where
  record_held : (holds r (word_at k.words i) G ≡ true) × (first_failing G (suc (suc i)) rs (drop (suc i) k.words) ≡ None)
  record_held = nowhere _ _ (suc i) (rw (here_is G k i r rs h) at g)

  rest_held : Held-all G (turned i k r) (suc i) rs
  rest_held = rw (stay G k i r rs h) record_held.1

past_found : (G : Ticks) (rs : List Constraint) (i : ℕ) (k : Walked) → Judging G k i rs → Held-all G k i rs
    → (surveyed i k rs).known.past ≡ option_or k.known.past (first_past (suc i) rs (moved G rs (drop i k.words)))
unfolding surveyed visited
past_found G [] i k h g = sym (none_more k.known.past)
past_found G (r ∷ rs) i k h g =
    let v = next_word r (word_at k.words i) G in
    past_found G rs (suc i) (turned i k r) (judging_next G k i r rs h) (rest_held G k i r rs h g)
    ∙ rw (stay G k i r rs h, here_is G k i r rs h, looked_is G k i r rs h, (record_held G k i r rs h g).0, stayed_is (in_million r v) v) (lowest_placed k.known.past (in_million r v) (record { 0 = suc i }) _)

after_found : (G : Ticks) (rs : List Constraint) (i : ℕ) (k : Walked) → Judging G k i rs → Held-all G k i rs → (surveyed i k rs).words ≡ take i k.words ++ moved G rs (drop i k.words)
unfolding surveyed visited
after_found G [] i k h g = sym (take-append-drop i k.words)
after_found G (r ∷ rs) i k h g =
    let w = word_at k.words i in
    let v = next_word r w G in
    let l : i < length k.words = omega (arith, h.there.room, h.there.words) in
    after_found G rs (suc i) (turned i k r) (judging_next G k i r rs h) (rest_held G k i r rs h g)
    ∙ rw (stay G k i r rs h, here_is G k i r rs h, looked_is G k i r rs h, (record_held G k i r rs h g).0, after_is (in_million r v) v w, take-suc-set k.words i v l) (append_snoc (take i k.words) v _)

-- ---- the answer

-- a limit is broken at the same place, or else what follows is the same
refuses : (l : Limit) (c : Configuration) {a b : Option Place} {t u : StepTold} → a ≡ b → (b ≡ None → t ≡ u) → refuses_at l a c t ≡ refuses_at l b c u
refuses l c {b = None} p n = rw p (n refl)
refuses l c {b = Some x} p n = rw p

module _ (clocks : Clocks) (rs : List Constraint) (c : Configuration) (f : ℕ) (h : length c.words ≡ 64) where
  abbrev from : Walked
  from = record { known = begins clocks f; words = c.words }

  abbrev to : Walked
  to = surveyed 0 from (take 64 rs)

  answer_59 : unfit_at to.known.clocks to.known.unfit (length rs) ≡ broken_record clocks rs
  answer_59 = rw (clocks_kept (take 64 rs) 0 from) (go (counts_fit clocks) refl)
    where
      go : (x : Bool) → counts_fit clocks ≡ x → cond x (option_or to.known.unfit (cond (ltb 64 (length rs)) (at 65) None)) (at 0) ≡ cond x (first_unfit clocks none 1 rs) (at 0)
      go true e = unfit_found (take 64 rs) 0 from e (omega (arith, length-take 64 rs)) _ ∙ rw bits_zero (sym (unfit_is clocks rs))
      go false e = refl

  module _ (p : broken_record clocks rs ≡ None) where
    -- there are at most 64 records: the first 64 are all
    all_seen : take 64 rs ≡ rs
    all_seen = take_all 64 rs (few_pass clocks rs p)

    room : Room from 0 rs
    room = record { room = omega (arith, few_pass clocks rs p); words = h }

    answer_60 : out_at to.known.out (length rs) c.words ≡ broken_word rs c.words
    answer_60 = rw all_seen (out_found rs 0 (length rs) from room (omega arith))

    answer_judged : broken_word rs c.words ≡ None → judged_at to.known c (record { words = to.words }) ≡ judged (all_ticks clocks rs c.words f) rs c
    unfolding judged
    answer_judged q = rw all_seen (go (first_failing G 1 rs c.words) refl)
      where
        G : Ticks
        G = all_ticks clocks rs c.words f

        start : Judging G from 0 rs
        start = record { there = room; few = (clocks_pass clocks rs p).0; earlier = none; pass = (clocks_pass clocks rs p).1; fine = q; ticks = refl }

        go : (b : Option Place) → first_failing G 1 rs c.words ≡ b → judged_at (surveyed 0 from rs).known c (record { words = (surveyed 0 from rs).words })
            ≡ handed_back Failed b c (handed_back PastMillion (first_past 1 rs (moved G rs c.words)) c (record { outcome = Ok tt; configuration = record { words = moved G rs c.words } }))
        go (Some x) e = rw (failing_found G rs 0 from start, e)
        go None e = rw (failing_found G rs 0 from start, e, past_found G rs 0 from start e, after_found G rs 0 from start e)

  pub survey_steps : concluded to.known (length rs) c (record { words = to.words }) ≡ step_of clocks rs c f
  unfolding concluded step_of
  survey_steps =
      let p61 : beyond_clocks to.known.clocks to.known.given ≡ beyond_clocks clocks f = rw (clocks_kept (take 64 rs) 0 from, given_kept (take 64 rs) 0 from) in
      refuses Records c answer_59 (λ p.
      refuses ConfigurationWord c (answer_60 p) (λ q.
      refuses TickSet c p61 (λ _.
      ap judged_told (answer_judged p q))))
