-- The words of a text that is one line behind another. What is left of the text from an offset on is the invariant: no part before it is ever
-- named. Assumes nothing.
use Prim.Native.Nat.{ℕ, suc, ◌+◌, ◌-◌, ◌<◌}
use mathlib.Core.Path.{◌≡◌, refl, sym, ap, ap₂, ◌∙◌}
use mathlib.Core.List.{List, [], ◌∷◌, ◌++◌, append_assoc, map}
use mathlib.Core.Bool.{Bool, true, false, not, cond, ◌&&◌}
use native.Mathlib.Omega.{arith}
use borrow.Author.Tests.{lt-ltb}
use lib.ListN.{length, drop, length-append}
use lib.Seq.{take_at, drop_at, drop-drop}
use Rattle.text.specs.Bytes.{in_class, all_bytes}
use Rattle.text.specs.Split.{span, bytes_of, grown, tokens, filled}
use Rattle.text.specs.declared.Class.TheVariants.{Parting}
use Rattle.text.specs.declared.Span.{Span}
use Rattle.recording.specs.Header.{words}
use Rattle.written.specs.Layout.{line, texts}

-- ---- a word that a separator ends, where no other byte does
module _ (sep : ℕ → Bool) (c : ℕ) (s : List ℕ) (e : sep c ≡ true) where
  token_word : (w : List ℕ) (at : ℕ) → all_bytes (λ b. not (sep b)) w ≡ true → tokens sep sep at (w ++ c ∷ s) ≡ span at (at + length w) ∷ tokens sep sep (at + length w + 1) s
  unfolding tokens grown all_bytes
  token_word [] at h = let z : at + 0 ≡ at = omega arith in rw (e, z)
  token_word (b ∷ w) at h = go (sep b) h (token_word w (at + 1))
    where
      rest : List Span
      rest = tokens sep sep (at + 1) (w ++ c ∷ s)

      go : (t : Bool) → (not t && all_bytes (λ b. not (sep b)) w) ≡ true
          → (all_bytes (λ b. not (sep b)) w ≡ true → rest ≡ span (at + 1) (at + 1 + length w) ∷ tokens sep sep (at + 1 + length w + 1) s)
          → cond t (span at at ∷ rest) (cond t (span at at ∷ span at (at + 1) ∷ rest) (grown at rest)) ≡ span at (at + suc (length w)) ∷ tokens sep sep (at + suc (length w) + 1) s
      go true h ih = cc
      go false h ih = let z : at + 1 + length w ≡ at + suc (length w) = omega arith in ap (grown at) (ih h) ∙ rw z

  first_token : (at : ℕ) (w : List ℕ) → 0 < length w → all_bytes (λ b. not (sep b)) w ≡ true
      → filled (tokens sep sep at (w ++ c ∷ s)) ≡ span at (at + length w) ∷ filled (tokens sep sep (at + length w + 1) s)
  unfolding filled
  first_token at w k h = rw (token_word w at h, lt-ltb at (at + length w) (omega arith))

-- ---- what is left behind a part
module _ (r : List ℕ) (at : ℕ) where
  pub left_behind : (x s : List ℕ) → drop at r ≡ x ++ s → drop (at + length x) r ≡ s
  left_behind x s d = sym (drop-drop (length x) at r) ∙ ap (drop (length x)) d ∙ drop_at x s (length x) refl

  left_next : (w : List ℕ) (c : ℕ) (s : List ℕ) → drop at r ≡ w ++ c ∷ s → drop (at + length w + 1) r ≡ s
  left_next w c s d = sym (drop-drop 1 (at + length w) r) ∙ ap (drop 1) (left_behind w (c ∷ s) d)

  pub bytes_here : (w s : List ℕ) → drop at r ≡ w ++ s → bytes_of r (span at (at + length w)) ≡ w
  bytes_here w s d = let z : at + length w - at ≡ length w = omega arith in rw (z, d) (take_at w s (length w) refl)

  -- the first of some texts, and the others
  module _ {A : Type 0} (f : A → List ℕ) (a : A) (l : List A) (s : List ℕ) (d : drop at r ≡ texts f (a ∷ l) ++ s) where
    pub first_text : drop at r ≡ f a ++ (texts f l ++ s)
    unfolding texts
    first_text = d ∙ append_assoc (f a) (texts f l) s

    pub other_texts : drop (at + length (f a)) r ≡ texts f l ++ s
    other_texts = left_behind (f a) (texts f l ++ s) first_text

    pub behind_texts : at + length (f a) + length (texts f l) ≡ at + length (texts f (a ∷ l))
    unfolding texts
    behind_texts = omega (arith, length-append (f a) (texts f l))

-- ---- the words of a line

-- a word: one or more bytes that part no words
abbrev pub outside : ℕ → Bool
outside b = not (in_class Parting b)

pub record Word (w : List ℕ) : Type 0 where
  pub some : 0 < length w
  pub whole : all_bytes outside w ≡ true

abbrev pub Words : List ℕ → List (List ℕ) → Type 0
Words w [] = Word w
Words w (x ∷ ws) = Word w × Words x ws

-- where they stand
abbrev pub spans : ℕ → List ℕ → List (List ℕ) → List Span
spans at w [] = span at (at + length w) ∷ []
spans at w (x ∷ ws) = span at (at + length w) ∷ spans (at + length w + 1) x ws

module _ (r : List ℕ) where
  word_then : (at : ℕ) (w : List ℕ) (c : ℕ) (s : List ℕ) → Word w → in_class Parting c ≡ true → drop at r ≡ w ++ c ∷ s
      → words r at ≡ span at (at + length w) ∷ words r (at + length w + 1)
  word_then at w c s g e d =
      ap (λ (l : List ℕ). filled (tokens (in_class Parting) (in_class Parting) at l)) d
      ∙ first_token (in_class Parting) c s e at w g.some g.whole
      ∙ ap (λ (l : List ℕ). span at (at + length w) ∷ filled (tokens (in_class Parting) (in_class Parting) (at + length w + 1) l)) (sym (left_next r at w c s d))

  pub line_words_lem : (ws : List (List ℕ)) (w : List ℕ) (at : ℕ) (s : List ℕ) → Words w ws → drop at r ≡ line w ws ++ s → words r at ≡ spans at w ws ++ words r (at + length (line w ws))
  unfolding line
  line_words_lem [] w at s g d =
      let z : at + length w + 1 ≡ at + length (w ++ 10 ∷ []) = omega (arith, length-append w (10 ∷ [])) in
      word_then at w 10 s g refl (d ∙ append_assoc w (10 ∷ []) s) ∙ ap (λ (i : ℕ). span at (at + length w) ∷ words r i) z
  line_words_lem (x ∷ ws) w at s g d =
      let e : drop at r ≡ w ++ 32 ∷ (line x ws ++ s) = d ∙ append_assoc w (32 ∷ line x ws) s in
      let z : at + length w + 1 + length (line x ws) ≡ at + length (w ++ 32 ∷ line x ws) = omega (arith, length-append w (32 ∷ line x ws)) in
      word_then at w 32 (line x ws ++ s) g.0 refl e
      ∙ ap (λ (l : List Span). span at (at + length w) ∷ l) (line_words_lem ws x (at + length w + 1) s g.1 (left_next r at w 32 (line x ws ++ s) e))
      ∙ ap (λ (i : ℕ). spans at w (x ∷ ws) ++ words r i) z

  pub line_bytes : (ws : List (List ℕ)) (w : List ℕ) (at : ℕ) (s : List ℕ) → drop at r ≡ line w ws ++ s → map (bytes_of r) (spans at w ws) ≡ w ∷ ws
  unfolding line
  line_bytes [] w at s d = ap (λ (l : List ℕ). l ∷ []) (bytes_here r at w (10 ∷ s) (d ∙ append_assoc w (10 ∷ []) s))
  line_bytes (x ∷ ws) w at s d =
      let e : drop at r ≡ w ++ 32 ∷ (line x ws ++ s) = d ∙ append_assoc w (32 ∷ line x ws) s in
      ap₂ ◌∷◌ (bytes_here r at w (32 ∷ (line x ws ++ s)) e) (line_bytes ws x (at + length w + 1) s (left_next r at w 32 (line x ws ++ s) e))

  -- the one word of a line
  pub line_byte : (w : List ℕ) (at : ℕ) (s : List ℕ) → drop at r ≡ line w [] ++ s → bytes_of r (span at (at + length w)) ≡ w
  line_byte w at s d = let e : map (bytes_of r) (spans at w []) ≡ w ∷ [] = line_bytes [] w at s d in cc
