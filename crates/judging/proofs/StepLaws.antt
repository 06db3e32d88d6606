-- What the walks over the records of a step come to, what each outcome of `judged` is, and what every step leaves: the words in range, and how many
-- there are. Assumes nothing.
use mathlib.Core.Path.{◌≡◌, refl, sym, ap, ◌∙◌}
use mathlib.Core.Bool.{Bool, true, false, cond}
use mathlib.Core.List.{List, [], ◌∷◌, ◌++◌}
use Prim.Native.Nat.{ℕ, suc, ◌+◌, ◌<◌, ◌≤◌}
use native.Mathlib.Numerals.{add-one}
use native.Mathlib.Omega.{arith}
use lib.ListN.{length, take, drop, get_or, set, length-set, take-append-drop}
use lib.Seq.{drop-cons, drop-set-lt, take-suc-set, append_snoc}
use Rattle.std.specs.Prelude.{Option, None, Some, Result, Ok, Err}
use Rattle.limit.specs.declared.Place.{Place}
use Rattle.std.specs.Option.{option_or}
use Rattle.constraint.specs.Implicit.{completed}
use Rattle.constraint.specs.Lists.{at, empty, slots, first_out, broken_word}
use Rattle.constraint.specs.Look.{looked, seen}
use Rattle.constraint.specs.Meaning.{holds, next_word, in_range}
use Rattle.constraint.specs.Million.{in_million, first_past}
use Rattle.constraint.specs.Ticks.{Ticks, none}
use Rattle.constraint.specs.declared.Configuration.{Configuration}
use Rattle.constraint.specs.declared.Constraint.{Constraint}
use Rattle.constraint.specs.declared.Seen.{Seen}
use Rattle.constraint.specs.declared.Seen.TheVariants.{Leaves, Moves}
use Rattle.constraint.specs.declared.Word.{Word}
use Rattle.constraint.proofs.Demand3.{nowhere}
use Rattle.constraint.proofs.Laws.{holds_none, next_none}
use Rattle.constraint.proofs.LookLaws.{seen_moves, seen_leaves}
use Rattle.constraint.proofs.MillionLaws.{range_is_million}
use Rattle.constraint.proofs.Slots.{get_d_any, slots_cons, slots_done}
use Rattle.judging.specs.Code.{put, turned, ended, walked, words_of}
use Rattle.judging.specs.Step.{Judged, left, first_failing, moved, handed_back, judged}
use Rattle.judging.specs.declared.NotHeld.{NotHeld}
use Rattle.judging.specs.declared.NotHeld.TheVariants.{Failed, PastMillion}

-- ---- the words after the step

pub length_moved : (F : Ticks) (rs : List Constraint) (ws : List Word) → length (moved F rs ws) ≡ length ws
length_moved F [] ws = refl
length_moved F (r ∷ rs) [] = refl
length_moved F (r ∷ rs) (w ∷ ws) = ap suc (length_moved F rs ws)

-- ---- the walk over records and words

-- what it comes to, by the first record that fails, the first place whose word left its million, and the words after it
abbrev told : (failed past : Option Place) → List Word → Result (List Word) NotHeld
told (Some p) past ws = Err (Failed p)
told None past ws = ended past ws

put_told : (v : Word) (f past : Option Place) (ws : List Word) → put v (told f past ws) ≡ told f past (v ∷ ws)
put_told v (Some p) past ws = refl
put_told v None (Some q) ws = refl
put_told v None None ws = refl

no_more : (past : Option Place) → past ≡ option_or past None
no_more (Some p) = refl
no_more None = refl

-- a second place behind one that is known changes nothing
first_stays : (past : Option Place) (p : Place) (b : Option Place) → option_or (option_or past (Some p)) b ≡ option_or past (Some p)
first_stays (Some q) p b = refl
first_stays None p b = refl

walk_told : (F : Ticks) (i : ℕ) (past : Option Place) (rs : List Constraint) (ws : List Word) → first_out i rs ws ≡ None
    → walked F i past rs ws ≡ told (first_failing F i rs ws) (option_or past (first_past i rs (moved F rs ws))) (moved F rs ws)
walk_told F i past [] ws e = ap (λ b. ended b ws) (no_more past)
walk_told F i past (r ∷ rs) [] e = ap (λ b. ended b []) (no_more past)
walk_told F i past (r ∷ rs) (w ∷ ws) e =
    let fine = nowhere (in_range r w) _ i e in
    rw (fine.0) (go (holds r w F) (in_million r next) (λ b. walk_told F (suc i) b rs ws fine.1))
  where
    next : Word
    next = next_word r w F

    failing : Option Place
    failing = first_failing F (suc i) rs ws

    later : Option Place
    later = first_past (suc i) rs (moved F rs ws)

    go : (h s : Bool) → ((b : Option Place) → walked F (suc i) b rs ws ≡ told failing (option_or b later) (moved F rs ws))
        → turned (seen true h s next) (record { 0 = i }) past (λ b. walked F (suc i) b rs ws) ≡ told (cond h failing (at i)) (option_or past (cond s later (at i))) (next ∷ moved F rs ws)
    go false s behind = refl
    go true true behind = ap (put next) (behind past) ∙ put_told next failing (option_or past later) (moved F rs ws)
    go true false behind =
        ap (put next) (behind (option_or past (at i)) ∙ ap (λ b. told failing b (moved F rs ws)) (first_stays past (record { 0 = i }) later))
        ∙ put_told next failing (option_or past (at i)) (moved F rs ws)

-- what is left of a configuration, by its words
left_told : (c : Configuration) (f past : Option Place) (ws : List Word) (x : Result Configuration NotHeld) → words_of x ≡ told f past ws
    → left c x ≡ handed_back Failed f c (handed_back PastMillion past c (record { outcome = Ok tt; configuration = record { words = ws } }))
left_told c (Some p) past ws (Ok a) e = cc
left_told c None (Some p) ws (Ok a) e = cc
left_told c None None ws (Ok a) e = let same : a.words ≡ ws = cc in ap (λ (vs : List Word). record { outcome = Ok tt; configuration = record { words = vs } }) same
left_told c (Some p) past ws (Err r) e = let same : r ≡ Failed p = cc in rw same
left_told c None (Some p) ws (Err r) e = let same : r ≡ PastMillion p = cc in rw same
left_told c None None ws (Err r) e = cc

pub judge_told : (F : Ticks) (rs : List Constraint) (c : Configuration) (x : Result Configuration NotHeld) → broken_word rs c.words ≡ None → words_of x ≡ walked F 1 None rs c.words → left c x ≡ judged F rs c
unfolding judged
judge_told F rs c x e h = left_told c (first_failing F 1 rs c.words) (first_past 1 rs (moved F rs c.words)) (moved F rs c.words) x (h ∙ walk_told F 1 None rs c.words e)

-- ---- the step from a record on: what is left of it behind the first records, and a turn over one more

-- the step from the configuration c, where i records held and moved their words, past is the first of them whose word left its million, and rs
-- are to come
unfoldable pub judged_from : Ticks → Configuration → (i : ℕ) (past : Option Place) (words : List Word) (rs : List Constraint) → Judged
judged_from F c i past ws rs =
    handed_back Failed (first_failing F (suc i) rs (drop i ws)) c
    (handed_back PastMillion (option_or past (first_past (suc i) rs (moved F rs (drop i ws)))) c
    (record { outcome = Ok tt; configuration = record { words = take i ws ++ moved F rs (drop i ws) } }))

none_left : (F : Ticks) (c : Configuration) (i : ℕ) (past : Option Place) (ws : List Word) → judged_from F c i past ws [] ≡ handed_back PastMillion past c (record { outcome = Ok tt; configuration = record { words = ws } })
unfolding judged_from
none_left F c i past ws = rw (← no_more past, take-append-drop i ws)

-- a record that is seen neither to move its word nor to have it leave fails
neither : (h s : Bool) (x : Word) → ((v : Word) → seen true h s x ≡ Moves v → ⊥) → ((v : Word) → seen true h s x ≡ Leaves v → ⊥) → h ≡ false
neither true true x p q = absurd (p x refl)
neither true false x p q = absurd (q x refl)
neither false s x p q = refl

module _ (F : Ticks) (c : Configuration) (i : ℕ) (ws : List Word) (room : i < length ws) (r : Constraint) (rs : List Constraint) (w : Word) (here : drop i ws ≡ w ∷ drop (suc i) ws) where
  -- the records behind r, with the word x for r and the places b that left their million
  abbrev behind : Word → Option Place → Judged
  behind x b =
      handed_back Failed (first_failing F (suc (suc i)) rs (drop (suc i) ws)) c
      (handed_back PastMillion b c (record { outcome = Ok tt; configuration = record { words = take i ws ++ (x ∷ moved F rs (drop (suc i) ws)) } }))

  abbrev later : Option Place
  later = first_past (suc (suc i)) rs (moved F rs (drop (suc i) ws))

  held : (past : Option Place) → holds r w F ≡ true → judged_from F c i past ws (r ∷ rs) ≡ behind (next_word r w F) (option_or past (cond (in_million r (next_word r w F)) later (at (suc i))))
  unfolding judged_from
  held past h = rw (here, h)

  next : (past : Option Place) (x : Word) → judged_from F c (suc i) past (set ws i x) rs ≡ behind x (option_or past later)
  unfolding judged_from
  next past x = rw (drop-set-lt (suc i) ws i x (omega arith), take-suc-set ws i x room, append_snoc (take i ws) x (moved F rs (drop (suc i) ws)))

  from_moves : (past : Option Place) (x : Word) → looked r w F ≡ Moves x → judged_from F c (suc i) past (set ws i x) rs ≡ judged_from F c i past ws (r ∷ rs)
  from_moves past x e = let t = seen_moves (in_range r w) _ _ _ x e in next past x ∙ sym (held past t.0 ∙ rw (t.1, t.2))

  from_leaves : (past : Option Place) (x : Word) → looked r w F ≡ Leaves x → judged_from F c (suc i) (option_or past (at (suc i))) (set ws i x) rs ≡ judged_from F c i past ws (r ∷ rs)
  from_leaves past x e =
      let t = seen_leaves (in_range r w) _ _ _ x e in
      next (option_or past (at (suc i))) x ∙ ap (behind x) (first_stays past (record { 0 = suc i }) later) ∙ sym (held past t.0 ∙ rw (t.1, t.2))

  from_fails : (past : Option Place) → holds r w F ≡ false → judged_from F c i past ws (r ∷ rs) ≡ record { outcome = Err (Failed (record { 0 = suc i })); configuration = c }
  unfolding judged_from
  from_fails past h = rw (here, h)

module _ (F : Ticks) (c : Configuration) (n : ℕ) (rs : List Constraint) where
  -- at record i: the words to come are in range, and what is left of the step is the step
  pub record Going (i : ℕ) (past : Option Place) (ws : List Word) : Type 0 where
    pub long : length ws ≡ length c.words
    pub inside : first_out (suc i) (drop i (slots n rs)) (drop i ws) ≡ None
    pub same : judged_from F c i past ws (drop i (slots n rs)) ≡ judged F (slots n rs) c

  pub judge_starts : broken_word (slots n rs) c.words ≡ None → Going 0 None c.words
  unfolding judged_from judged
  judge_starts e = record { long = refl; inside = e; same = refl }

  module _ (i : ℕ) (past : Option Place) (ws : List Word) (g : Going i past ws) where
    pub judge_done : n ≤ i → handed_back PastMillion past c (record { outcome = Ok tt; configuration = record { words = ws } }) ≡ judged F (slots n rs) c
    judge_done h = sym (none_left F c i past ws) ∙ (rw (slots_done n rs i h) at g.same)

    module _ (d : Constraint) (v : Word) (more : i < n) (slot : i < length rs) (room : i < length ws) where
      abbrev r : Constraint
      r = get_or rs i d

      abbrev w : Word
      w = get_or ws i v

      record_here : drop i (slots n rs) ≡ r ∷ drop (suc i) (slots n rs)
      record_here = slots_cons n rs i more ∙ rw (get_d_any rs i empty d slot)

      word_here : drop i ws ≡ w ∷ drop (suc i) ws
      word_here = drop-cons ws i v room

      fine : (in_range r w ≡ true) × (first_out (suc (suc i)) (drop (suc i) (slots n rs)) (drop (suc i) ws) ≡ None)
      fine = nowhere _ _ (suc i) (rw (record_here, word_here) at g.inside)

      same_here : judged_from F c i past ws (r ∷ drop (suc i) (slots n rs)) ≡ judged F (slots n rs) c
      same_here = rw record_here at g.same

      goes_on_lem : (past' : Option Place) (x : Word) → judged_from F c (suc i) past' (set ws i x) (drop (suc i) (slots n rs)) ≡ judged_from F c i past ws (r ∷ drop (suc i) (slots n rs)) → Going (i + 1) past' (set ws i x)
      goes_on_lem past' x e = rw (add-one i) (record { long = length-set ws i x ∙ g.long; inside = rw (drop-set-lt (suc i) ws i x (omega arith)) fine.1; same = e ∙ same_here })

      pub judge_on_lem : (x : Word) → looked r w F ≡ Moves x → Going (i + 1) past (set ws i x)
      judge_on_lem x e = goes_on_lem past x (from_moves F c i ws room r _ w word_here past x e)

      pub judge_past : (x : Word) → looked r w F ≡ Leaves x → Going (i + 1) (option_or past (at (i + 1))) (set ws i x)
      judge_past x e = goes_on_lem (option_or past (at (i + 1))) x (rw (add-one i) (from_leaves F c i ws room r _ w word_here past x e))

      pub judge_stop : {a : Seen} → a ≡ looked r w F → ((x : Word) → a ≡ Moves x → ⊥) → ((x : Word) → a ≡ Leaves x → ⊥)
          → record { outcome = Err (Failed (record { 0 = i + 1 })); configuration = c } ≡ judged F (slots n rs) c
      judge_stop e p q =
          let h = neither (holds r w F) _ _ (rw (e, fine.0) at p) (rw (e, fine.0) at q) in
          rw (add-one i) (sym (from_fails F c i ws room r _ w word_here past h) ∙ same_here)

-- ---- where no record is left, or no word, a tick set is complete

module _ (named f : ℕ) where
  pub no_record : (rs : List Constraint) (ws : List Word) → length rs ≡ 0 → completed named rs ws f ≡ f
  no_record [] [] e = refl
  no_record [] (w ∷ ws) e = refl
  no_record (r ∷ rs) ws e = absurd (omega (arith, e))

  pub no_word : (rs : List Constraint) (ws : List Word) → length ws ≡ 0 → completed named rs ws f ≡ f
  no_word [] [] e = refl
  no_word (r ∷ rs) [] e = refl
  no_word rs (w ∷ ws) e = absurd (omega (arith, e))

-- ---- limit 60 and the million: where every record held from words in range, the moved words out of range are those past their million

pub out_is_past : (F : Ticks) (i : ℕ) (rs : List Constraint) (ws : List Word) → first_out i rs ws ≡ None → first_failing F i rs ws ≡ None
    → first_out i rs (moved F rs ws) ≡ first_past i rs (moved F rs ws)
out_is_past F i [] ws e h = e
out_is_past F i (r ∷ rs) [] e h = refl
out_is_past F i (r ∷ rs) (w ∷ ws) e h =
    let p = nowhere (in_range r w) _ i e in
    let q = nowhere (holds r w F) _ i h in
    rw (range_is_million r w F p.0 q.0, out_is_past F (suc i) rs ws p.1 q.1)

-- ---- the three outcomes

module _ (stop : Place → NotHeld) (b : Option Place) (c : Configuration) (j : Judged) where
  stops : (p : Place) → b ≡ Some p → handed_back stop b c j ≡ record { outcome = Err (stop p); configuration = c }
  stops p e = rw e

  passes : b ≡ None → handed_back stop b c j ≡ j
  passes e = rw e

module _ (F : Ticks) (rs : List Constraint) (c : Configuration) where
  pub judged_failed : (p : Place) → first_failing F 1 rs c.words ≡ Some p → judged F rs c ≡ record { outcome = Err (Failed p); configuration = c }
  unfolding judged
  judged_failed p e = stops Failed _ c _ p e

  module _ (after : Configuration) (m : after.words ≡ moved F rs c.words) (e : first_failing F 1 rs c.words ≡ None) where
    pub judged_past : (p : Place) → first_past 1 rs after.words ≡ Some p → judged F rs c ≡ record { outcome = Err (PastMillion p); configuration = c }
    unfolding judged
    judged_past p q = passes Failed _ c _ e ∙ stops PastMillion _ c _ p (rw m at q)

    pub judged_held : first_past 1 rs after.words ≡ None → judged F rs c ≡ record { outcome = Ok tt; configuration = after }
    unfolding judged
    judged_held q = passes Failed _ c _ e ∙ passes PastMillion _ c _ (rw m at q) ∙ rw (← m)

  -- a step that is not taken leaves the words, and one that is taken has them moved, once every record held and no word left its million
  judged_words : (P : List Word → Type 0) → P c.words
      → (first_failing F 1 rs c.words ≡ None → first_past 1 rs (moved F rs c.words) ≡ None → P (moved F rs c.words)) → P (judged F rs c).configuration.words
  unfolding judged
  judged_words P stays moves = go (first_failing F 1 rs c.words) (first_past 1 rs (moved F rs c.words)) refl refl
    where
      go : (f b : Option Place) → first_failing F 1 rs c.words ≡ f → first_past 1 rs (moved F rs c.words) ≡ b
          → P (handed_back Failed f c (handed_back PastMillion b c (record { outcome = Ok tt; configuration = record { words = moved F rs c.words } }))).configuration.words
      go (Some p) b h e = stays
      go None (Some p) h e = stays
      go None None h e = moves h e

  pub judged_in_range : broken_word rs c.words ≡ None → broken_word rs (judged F rs c).configuration.words ≡ None
  judged_in_range e = judged_words (λ ws. broken_word rs ws ≡ None) e (λ h q. out_is_past F 1 rs c.words e h ∙ q)

-- ---- the empty tick set

fails_none : (k : ℕ) (rs : List Constraint) (ws : List Word) → first_failing none k rs ws ≡ None
fails_none k [] ws = refl
fails_none k (r ∷ rs) [] = refl
fails_none k (r ∷ rs) (w ∷ ws) = rw (holds_none r w) (fails_none (suc k) rs ws)

pub moved_none : (rs : List Constraint) (ws : List Word) → moved none rs ws ≡ ws
moved_none [] ws = refl
moved_none (r ∷ rs) [] = refl
moved_none (r ∷ rs) (w ∷ ws) = rw (next_none r w, moved_none rs ws)

past_none : (i : ℕ) (rs : List Constraint) (ws : List Word) → first_out i rs ws ≡ None → first_past i rs ws ≡ None
past_none i rs ws e =
    let m = moved_none rs ws in
    rw m at (sym (out_is_past none i rs ws e (fails_none i rs ws))) ∙ e

pub judged_none : (rs : List Constraint) (c : Configuration) → broken_word rs c.words ≡ None → judged none rs c ≡ record { outcome = Ok tt; configuration = c }
judged_none rs c e = judged_held none rs c c (sym (moved_none rs c.words)) (fails_none 1 rs c.words) (past_none 1 rs c.words e)
