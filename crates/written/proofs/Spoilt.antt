-- Behind a recording that may be written a mark that a byte spoils ends reading: its word is the run of bytes up to one that parts words, and
-- what it does is known. Assumes nothing.
use Rattle.std.specs.Prelude.{Option}
use Prim.Native.Nat.{ℕ, ◌+◌, ◌<◌}
use mathlib.Core.Path.{◌≡◌, refl, sym, ap, subst, ◌∙◌}
use mathlib.Core.List.{List, [], ◌∷◌, ◌++◌, append_assoc, head-eq_of_cons-eq}
use mathlib.Core.Bool.{true, false}
use native.Mathlib.Nat.{add-zero}
use native.Mathlib.Omega.{arith}
use lib.ListN.{length, drop, get_or, length-append, length-drop}
use Rattle.limit.specs.Checked.{stopped}
use Rattle.limit.specs.declared.Limit.{Limit}
use Rattle.limit.specs.declared.Limit.TheVariants.{BodyWord, MarkTime}
use Rattle.text.specs.Ascii.{ascii}
use Rattle.text.specs.Bytes.{in_class, digit, parting, all_bytes}
use Rattle.text.specs.Digits.{digits, digits_of}
use Rattle.text.specs.Split.{span, bytes_of, run_end}
use Rattle.text.specs.declared.Class.TheVariants.{Parting}
use Rattle.text.specs.declared.Span.{Span}
use Rattle.text.proofs.Bytes.{drop_next, all_append, all_to}
use Rattle.text.proofs.Runs.{Stops, run_to, parted, run_stop, next_some, is_word}
use Rattle.recording.specs.Body.{opens_mark, word_turn, refused_at, ends_with, closing, body_steps, reading}
use Rattle.recording.specs.Header.{words}
use Rattle.recording.specs.Marks.{MarkDoes, bare, other, large}
use Rattle.recording.specs.Variables.{Variable, Naming}
use Rattle.recording.specs.declared.Step.{Step}
use Rattle.recording.specs.declared.UnknownNames.{UnknownNames}
use Rattle.recording.proofs.BodyLaws.{mark_stop}
use Rattle.recording.proofs.Marks.{every_mark}
use Rattle.written.specs.Claim.{variables, by_name}
use Rattle.written.specs.Layout.{WrittenVariable, WrittenStep, line, texts, written, two, three}
use Rattle.written.specs.Spoilt.{refused_behind, word_ends, Behind, EverySpoiltMark}
use Rattle.written.proofs.BodyRead.{digit_outside}
use Rattle.written.proofs.Claim.{later_left, ends_with_lem, three_may_be_written}
use Rattle.written.proofs.LineLaws.{outside, bytes_here}

ends_stop : (s : List ℕ) → word_ends s ≡ true → Stops outside s
ends_stop [] e = tt
ends_stop (b ∷ s) e = rw e

-- ---- a word that opens with `#`, at an offset of a text
module _ (r : List ℕ) (at : ℕ) (ds s : List ℕ) (d : drop at r ≡ (35 ∷ ds) ++ s) (h : all_bytes outside ds ≡ true) (k : Stops outside s) where
  abbrev w : Span
  w = span at (at + length (35 ∷ ds))

  inside : at < length r
  inside = omega (arith, length-drop at r, ap (λ (l : List ℕ). length l) d)

  first : get_or r at 0 ≡ 35
  first = head-eq_of_cons-eq (sym (drop_next r at 0 inside) ∙ d)

  -- the run of bytes that part no words
  word_end : at + length (35 ∷ ds) ≡ run_end outside at (drop at r)
  word_end = sym (ap (run_end outside at) d ∙ run_to outside (35 ∷ ds) s at (unfold all_bytes in h) k)

  here : words r at ≡ w ∷ words r w.end
  here =
      let parts : in_class Parting (get_or r at 0) ≡ false = ap (in_class Parting) first in
      is_word r Parting at w (next_some Parting r at at (sym (run_stop (in_class Parting) r at inside parts)) inside parts w.end word_end) (omega arith)

  pub mark_ends : (us : List Variable) (p : Option Step) (l : Limit) (i : ℕ) → word_turn us p at (35 ∷ ds) ≡ stopped l i → body_steps us r p (words r at) ≡ closing p (ends_with (refused_at l i))
  mark_ends us p l i e =
      let b : bytes_of r w ≡ 35 ∷ ds = bytes_here r at (35 ∷ ds) s d in
      mark_stop us r p (words r at) w (words r w.end) here (ap opens_mark b) l i (ap (word_turn us p at) b ∙ e)

-- ---- behind a recording that may be written
module _ (g : Naming) (vs : List WrittenVariable) (ss : List WrittenStep) where
  -- a mark that is refused so, whatever step it closes
  refused : (ds s : List ℕ) → Behind g vs ss ((35 ∷ ds) ++ s) → all_bytes outside ds ≡ true → Stops outside s → (l : Limit) (i : ℕ)
      → ((p : Option Step) (at : ℕ) → MarkDoes p at ds (stopped l (at + 1 + i)))
      → reading g (written vs ss ++ ((35 ∷ ds) ++ s)) ≡ refused_behind g vs ss l (length (written vs ss) + 1 + i)
  refused ds s b h k l i e =
      let text = written vs ss ++ ((35 ∷ ds) ++ s) in
      let at = length (written vs ss) in
      let us = variables g.named vs in
      ends_with_lem g vs ss b.steps ((35 ∷ ds) ++ s) b.bytes b.fits _
      (λ p. mark_ends text at ds s (later_left g vs ss b.steps ((35 ∷ ds) ++ s) b.bytes b.fits) h k us p l (at + 1 + i) ((every_mark us p at ds (stopped l (at + 1 + i))).1 (e p at)))

  -- so many bytes stand before it
  before : (front : List ℕ) → length (written vs ss) + 1 + length front ≡ length (written vs ss ++ 35 ∷ front)
  before front = omega (arith, length-append (written vs ss) (35 ∷ front))

  -- the word goes on behind the byte, up to one that parts words
  other_at : (front : List ℕ) (b : ℕ) (later : List ℕ) → Behind g vs ss (35 ∷ front ++ b ∷ later) → all_bytes digit front ≡ true → digit b ≡ false → parting b ≡ false
      → reading g (written vs ss ++ (35 ∷ front ++ b ∷ later)) ≡ refused_behind g vs ss BodyWord (length (written vs ss) + 1 + length front)
  unfolding all_bytes
  other_at front b later ok f e o =
      let k = parted outside later in
      let ds = front ++ b ∷ k.front in
      let whole : (35 ∷ ds) ++ k.rest ≡ 35 ∷ front ++ b ∷ later = ap (λ (l : List ℕ). 35 ∷ l) (append_assoc front (b ∷ k.front) k.rest ∙ ap (λ (l : List ℕ). front ++ b ∷ l) k.whole) in
      let h : all_bytes outside ds ≡ true = all_append outside front (b ∷ k.front) (all_to digit outside digit_outside front f) (rw o k.passes) in
      subst (λ (l : List ℕ). reading g (written vs ss ++ l) ≡ refused_behind g vs ss BodyWord (length (written vs ss) + 1 + length front)) whole
      (refused ds k.rest (subst (Behind g vs ss) (sym whole) ok) h k.stops BodyWord (length front) (λ p at. other front b k.front f e))

pub every_spoilt_mark : EverySpoiltMark
unfolding all_bytes
every_spoilt_mark g vs ss = record {
  other = λ front b later ok f e o. other_at g vs ss front b later ok f e o ∙ ap (refused_behind g vs ss BodyWord) (before g vs ss front);
  bare = λ later ok e.
      refused g vs ss [] later ok refl (ends_stop later e) BodyWord 0 (λ p at. subst (λ (i : ℕ). MarkDoes p at [] (stopped BodyWord i)) (sym (add-zero (at + 1))) bare)
      ∙ ap (refused_behind g vs ss BodyWord) (before g vs ss []);
  large = λ front d rest later ok f m n e.
      refused g vs ss (front ++ d ∷ rest) later ok (all_to digit outside digit_outside (front ++ d ∷ rest) f) (ends_stop later e) MarkTime (length front) (λ p at. large front d rest f m n)
      ∙ ap (refused_behind g vs ss MarkTime) (before g vs ss front);
}

-- behind the example of Layout such a mark may stand
pub mark_may_stand : (u : UnknownNames) → Behind (record { named = by_name; count = 2; unknown = u }) two three (ascii "#12a")
unfolding all_bytes texts line digits digits_of
mark_may_stand u = record { steps = three_may_be_written u; bytes = refl; fits = omega arith }
