-- Marks and ticks that were written are read as the steps. Assumes nothing.
use Rattle.std.specs.Prelude.{Option, Some}
use Prim.Native.Nat.{ℕ, ◌+◌, ◌^◌, ◌<◌}
use mathlib.Core.Path.{◌≡◌, refl, sym, ap, ap₂, ◌∙◌}
use mathlib.Core.List.{List, [], ◌∷◌, ◌++◌, append_assoc, map}
use mathlib.Core.Bool.{true, false, ◌||◌}
use native.Mathlib.Decide.{dec_lt}
use native.Mathlib.Omega.{arith}
use borrow.Author.Tests.{ne_eqb, lt-leb}
use lib.Dec.{eqb}
use lib.ListN.{length, drop, length-append}
use Rattle.limit.specs.Checked.{passed}
use Rattle.constraint.specs.Ticks.{Ticks, bits, with_tick}
use Rattle.constraint.proofs.TickSets.{bits_zero, with_tick_adds, with_tick_full}
use Rattle.text.specs.Bytes.{digit, parting, all_bytes}
use Rattle.text.specs.Digits.{digits}
use Rattle.text.specs.Split.{span, bytes_of}
use Rattle.text.proofs.Bytes.{all_to}
use Rattle.text.proofs.Decimals.{digit_range, digits_all, read_of_digits}
use Rattle.recording.specs.BeforeWords.{recorded}
use Rattle.recording.specs.Body.{is_late, begin, opens_mark, is_value, mark_turn, change_turn, Ending, ends_with, closing, onward, body_steps}
use Rattle.recording.specs.Header.{words}
use Rattle.recording.specs.Variables.{Variable, look_up}
use Rattle.recording.specs.declared.Step.{Step}
use Rattle.recording.proofs.BodyLaws.{body_mark, body_change}
use Rattle.written.specs.Claim.{clock_of, read_steps, Each, Apart, Value, is_0, is_1, is_x, is_X, is_z, is_Z, Differ}
use Rattle.written.specs.Layout.{WrittenVariable, WrittenTick, WrittenStep, texts, mark, tick, variable_at, tick_at, step}
use Rattle.written.proofs.EachLaws.{each_all, each_to, each_with}
use Rattle.written.proofs.LineLaws.{outside, Word, first_text, other_texts, behind_texts, left_behind, line_words_lem, line_byte}
use Rattle.written.proofs.TickLaws.{ticked, ticked_set}

-- ---- words

-- a digit parts no words
pub digit_outside : (b : ℕ) → digit b ≡ true → outside b ≡ true
digit_outside b e =
    let h = digit_range b e in
    rw (ne_eqb b 9 (λ z. omega (arith, h)), ne_eqb b 10 (λ z. omega (arith, h)), ne_eqb b 13 (λ z. omega (arith, h)), ne_eqb b 32 (λ z. omega (arith, h)))

mark_word : (t : ℕ) → Word (35 ∷ digits t)
mark_word t = record { some = omega arith; whole = unfold all_bytes in all_to digit outside digit_outside (digits t) (digits_all t) }

-- a value is a byte of a recording and of a word, opens no mark, and is read as a value
pub record Plain (v : ℕ) : Type 0 where
  pub byte : recorded v ≡ true
  pub inside : parting v ≡ false
  pub no_mark : eqb v 35 ≡ false
  pub value : is_value v ≡ true

pub plain : {v : ℕ} → Value v → Plain v
plain is_0 = record { byte = refl; inside = refl; no_mark = refl; value = refl }
plain is_1 = record { byte = refl; inside = refl; no_mark = refl; value = refl }
plain is_x = record { byte = refl; inside = refl; no_mark = refl; value = refl }
plain is_X = record { byte = refl; inside = refl; no_mark = refl; value = refl }
plain is_z = record { byte = refl; inside = refl; no_mark = refl; value = refl }
plain is_Z = record { byte = refl; inside = refl; no_mark = refl; value = refl }

tick_word : (v : ℕ) (id : List ℕ) → Plain v → Word id → Word (v ∷ id)
tick_word v id p g = record { some = omega arith; whole = unfold all_bytes in rw p.inside g.whole }

-- a step that is begun, with a tick set
abbrev pub open_step : (mark time ticks : ℕ) → Step
open_step m t f = record { mark = record { 0 = m }; time = record { 0 = t }; ticks = f }

tick_turn : (us : List Variable) (m t f at k v : ℕ) (id : List ℕ) → Plain v → Word id → look_up us id ≡ Some k → bits f k ≡ false
    → change_turn us (Some (open_step m t f)) at (v ∷ id) ≡ passed (open_step m t (with_tick f k))
unfolding change_turn
tick_turn us m t f at k v [] p g l e = absurd (omega (arith, g.some))
tick_turn us m t f at k v (i ∷ is) p g l e = rw (p.value, l, e)

module _ (us : List Variable) (r : List ℕ) where
  -- a line with a mark
  mark_read : (o : Option Step) (at t : ℕ) (s : List ℕ) → drop at r ≡ mark t ++ s → t < 2 ^ 64 → is_late o t ≡ false
      → body_steps us r o (words r at) ≡ closing o (body_steps us r (Some (begin at t)) (words r (at + length (mark t))))
  unfolding onward mark_turn
  mark_read o at t s d h e =
      let b : bytes_of r (span at (at + length (35 ∷ digits t))) ≡ 35 ∷ digits t = line_byte r (35 ∷ digits t) at s d in
      body_mark us r o (words r at) _ _ (line_words_lem r [] (35 ∷ digits t) at s (mark_word t) d) (ap opens_mark b) ∙ rw (b, read_of_digits t h, e)

  -- a line with a tick
  tick_read : (m t f at k v : ℕ) (id s : List ℕ) → drop at r ≡ tick v id ++ s → Plain v → Word id → look_up us id ≡ Some k → bits f k ≡ false
      → body_steps us r (Some (open_step m t f)) (words r at) ≡ body_steps us r (Some (open_step m t (with_tick f k))) (words r (at + length (tick v id)))
  unfolding onward
  tick_read m t f at k v id s d p g l e =
      let b : bytes_of r (span at (at + length (v ∷ id))) ≡ v ∷ id = line_byte r (v ∷ id) at s d in
      body_change us r (Some (open_step m t f)) (words r at) _ _ (line_words_lem r [] (v ∷ id) at s (tick_word v id p g) d) (ap opens_mark b ∙ p.no_mark)
      ∙ rw (b, tick_turn us m t f at k v id p g l e)

-- ---- ticks of one step

-- a clock that did not tick is silent after the tick of another
still_silent : (f j k : ℕ) → bits f j ≡ false → Differ k j → bits (with_tick f k) j ≡ false
still_silent f j k h e = go (dec_lt k 32)
  where
    go : Dec (k < 32) → bits (with_tick f k) j ≡ false
    go (yes s) = ap (λ (F : Ticks). F j) (with_tick_adds f k s) ∙ ap₂ ◌||◌ h (ne_eqb j k (λ z. omega (arith, e (sym z))))
    go (no s) = ap (λ (g : ℕ). bits g j) (sym (with_tick_full f k (omega arith))) ∙ h

module _ (named : List ℕ → ℕ) (vs : List WrittenVariable) (us : List Variable) (r : List ℕ) where
  abbrev clock : WrittenTick → ℕ
  clock i = clock_of named vs i

  -- a tick with a value, of a variable that was declared
  pub record Known (i : WrittenTick) : Type 0 where
    pub plain : Plain i.value
    pub word : Word (variable_at vs i.variable).id
    pub found : look_up us (variable_at vs i.variable).id ≡ Some (clock i)

  ticks_read : (is : List WrittenTick) (m t f at : ℕ) (s : List ℕ) → drop at r ≡ texts (tick_at vs) is ++ s
      → Each Known is → Each (λ i. bits f (clock i) ≡ false) is → Apart (λ i j. Differ (clock i) (clock j)) is
      → body_steps us r (Some (open_step m t f)) (words r at) ≡ body_steps us r (Some (open_step m t (ticked f (map clock is)))) (words r (at + length (texts (tick_at vs) is)))
  unfolding texts ticked Each Apart
  ticks_read [] m t f at s d k q a = let z : at + 0 ≡ at = omega arith in rw z
  ticks_read (i ∷ is) m t f at s d k q a =
      tick_read us r m t f at (clock i) i.value (variable_at vs i.variable).id (texts (tick_at vs) is ++ s) (first_text r at (tick_at vs) i is s d) k.0.plain k.0.word k.0.found q.0
      ∙ ticks_read is m t (with_tick f (clock i)) (at + length (tick_at vs i)) s (other_texts r at (tick_at vs) i is s d) k.1
      (each_with is (λ j h e. still_silent f (clock j) (clock i) h e) q.1 a.0) a.1
      ∙ ap (λ (j : ℕ). body_steps us r (Some (open_step m t (ticked (with_tick f (clock i)) (map clock is)))) (words r j)) (behind_texts r at (tick_at vs) i is s d)

  -- ---- the steps

  abbrev Rises : Option Step → WrittenStep → Type 0
  Rises o s = is_late o s.time ≡ false

  -- behind them stands what ends reading, whatever step is open
  pub steps_read : (later : List ℕ) (e : Ending) (ss : List WrittenStep) (o : Option Step) (at : ℕ) → drop at r ≡ texts (step vs) ss ++ later
      → Each (λ s. s.time < 2 ^ 64) ss → Each (Rises o) ss → Apart (λ s t. s.time < t.time) ss
      → Each (λ s. Each Known s.ticks) ss → Each (λ s. Apart (λ i j. Differ (clock i) (clock j)) s.ticks) ss
      → ((p : Option Step) → body_steps us r p (words r (at + length (texts (step vs) ss))) ≡ closing p (ends_with e))
      → body_steps us r o (words r at) ≡ closing o (record { steps = read_steps named vs at ss; ending = e })
  unfolding texts read_steps Each Apart
  steps_read later e [] o at d t h a k p q = let z : at + 0 ≡ at = omega arith in rw z at (q o)
  steps_read later e (s ∷ ss) o at d t h a k p q =
      let m = mark s.time in
      let c = texts (tick_at vs) s.ticks in
      let b = texts (step vs) ss ++ later in
      let f = ticked 0 (map clock s.ticks) in
      let i : drop at r ≡ m ++ (c ++ b) = first_text r at (step vs) s ss later d ∙ append_assoc m c b in
      let z : at + length m + length c ≡ at + length (step vs s) = omega (arith, length-append m c) in
      mark_read us r o at s.time (c ++ b) i t.0 h.0
      ∙ ap (closing o)
      (ticks_read s.ticks at s.time 0 (at + length m) b (left_behind r at m (c ++ b) i) k.0 (each_all s.ticks (λ i. ap (λ (F : Ticks). F (clock i)) bits_zero)) p.0
      ∙ ap (λ (j : ℕ). body_steps us r (Some (open_step at s.time f)) (words r j)) z
      ∙ steps_read later e ss (Some (open_step at s.time f)) (at + length (step vs s)) (other_texts r at (step vs) s ss later d) t.1 (each_to ss (λ x g. lt-leb x.time s.time g) a.0) a.1 k.1 p.1 (λ x. ap (λ (j : ℕ). body_steps us r x (words r j)) (behind_texts r at (step vs) s ss later d) ∙ q x)
      ∙ unfold closing in ap (λ (x : ℕ). record { steps = open_step at s.time x ∷ read_steps named vs (at + length (step vs s)) ss; ending = e }) (ticked_set (map clock s.ticks)))
