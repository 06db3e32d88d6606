-- The names that a table being built lists, with those of a line, are the names of the lines in the order of first appearance, until a
-- 33rd is met: then it is known that there are more than 32. Assumes nothing.
use mathlib.Core.Path.{◌≡◌, refl, sym, ap, subst, ◌∙◌}
use mathlib.Core.Bool.{Bool, true, false, cond, ◌||◌, true≢false}
use mathlib.Core.List.{List, [], ◌∷◌, ◌++◌, map-append}
use Prim.Native.Nat.{ℕ, suc, ◌+◌, ◌≤◌, ◌<◌}
use native.Mathlib.Omega.{arith}
use borrow.Author.Tests.{leb-true, leb-false, ltb-true, lt-ltb, le-ltb}
use lib.Dec.{leb, ltb}
use lib.ListN.{length, length-append, length-map}
use Rattle.text.specs.Bytes.{same_bytes}
use Rattle.text.specs.Split.{bytes_of}
use Rattle.text.specs.declared.Span.{Span}
use Rattle.grammar.specs.Grammar.{clock_of}
use Rattle.grammar.specs.Names.{position, number_in, with_new, unless_found, with_words}
use Rattle.std.specs.Prelude.{Some, None}
use Rattle.grammar.specs.declared.Names.{Names}
use Rattle.forms.specs.Forms.{Word, Words, one_of, is_name}
use Rattle.forms.specs.Lines.{names_in, with_names, standing}
use Rattle.forms.proofs.ClockNames.{same_turned, Keeps, with_one, keeps_same, keeps_then, keeps_more, grows_one}
use Rattle.forms.proofs.FormRows.{clock_named}
use Rattle.forms.proofs.Said.{said}
use Rattle.forms.proofs.SplitWords.{Inside, inside_more}
use Rattle.forms.proofs.WordLaws.{name_is}

module _ (t : List ℕ) where
  -- ---- where a name is found: where it stands among the bytes of the spans
  position_is : (w : Word) (i : ℕ) (ps : List Span) → position t w i ps ≡ cond (one_of (said t ps) w) (Some (i + standing (said t ps) w)) None
  unfolding position one_of standing
  position_is w i [] = refl
  position_is w i (p ∷ ps) = rw (same_turned (bytes_of t p) w) (go (same_bytes w (bytes_of t p)) (position_is w (i + 1) ps))
    where
      go : (x : Bool) → position t w (i + 1) ps ≡ cond (one_of (said t ps) w) (Some (i + 1 + standing (said t ps) w)) None
          → cond x (Some i) (position t w (i + 1) ps) ≡ cond (x || one_of (said t ps) w) (Some (i + cond x 0 (suc (standing (said t ps) w)))) None
      go true ih = let e : i + 0 ≡ i = omega arith in rw e
      go false ih = let e : i + suc (standing (said t ps) w) ≡ i + 1 + standing (said t ps) w = omega arith in rw e ih

  number_is : (ns : Names) (w : Word) → number_in t ns w ≡ cond (one_of (said t ns.spans) w) (Some (standing (said t ns.spans) w)) None
  number_is ns w = let e : 0 + standing (said t ns.spans) w ≡ standing (said t ns.spans) w = omega arith in position_is w 0 ns.spans ∙ rw e

  pub clock_is : (ns : Names) (w : Word) → clock_named t ns w ≡ cond (one_of (said t ns.spans) w) (standing (said t ns.spans) w) 32
  clock_is ns w = rw (number_is ns w) (go (one_of (said t ns.spans) w) (standing (said t ns.spans) w))
    where
      go : (x : Bool) (k : ℕ) → clock_of (cond x (Some k) None) ≡ cond x k 32
      go true k = refl
      go false k = refl

  -- ---- names us, that were ms where the line began, listed so far; the spans end before the offset e
  pub record Named (e : ℕ) (ms us : Words) (ns : Names) : Type 0 where
    pub room : length ns.spans ≤ 32
    pub inside : Inside e ns.spans
    pub kept : Keeps ms (said t ns.spans)
    pub over : ns.over ≡ ltb 32 (length us)
    pub words : ns.over ≡ false → said t ns.spans ≡ us

  pub listed_length : (ns : Names) → length (said t ns.spans) ≡ length ns.spans
  listed_length ns = length-map ns.spans (bytes_of t)

  inside_last : (e : ℕ) (ps : List Span) (p : Span) → Inside e ps → p.end ≤ e → Inside e (ps ++ p ∷ [])
  inside_last e [] p i h = (h, tt)
  inside_last e (q ∷ ps) p i h = (i.0, inside_last e ps p i.1 h)

  module _ (e : ℕ) (ms us : Words) (ns : Names) (m : Named e ms us ns) (p : Span) (h : p.end ≤ e) where
    abbrev w : Word
    w = bytes_of t p

    over_stays : ns.over ≡ true → true ≡ ltb 32 (length (with_one us w))
    over_stays o =
        let a : 32 < length us = ltb-true 32 (length us) (sym m.over ∙ o) in
        let b : length us ≤ length (with_one us w) = grows_one us w in
        sym (lt-ltb 32 (length (with_one us w)) (omega arith))

    -- a name that is not listed
    module _ (f : ns.over ≡ false → one_of us w ≡ false) where
      one_longer : ns.over ≡ false → length (with_one us w) ≡ length ns.spans + 1
      one_longer o =
          let a : length us ≡ (length ns.spans) = ap length (sym (m.words o)) ∙ listed_length ns in
          let b : length (us ++ w ∷ []) ≡ length us + 1 = length-append us (w ∷ []) in
          rw (f o) (omega arith)

      full : leb 32 (length ns.spans) ≡ true → Named e ms (with_one us w) (record { spans = ns.spans; over = true })
      full q = record {
        room = m.room;
        inside = m.inside;
        kept = m.kept;
        over = go ns.over refl;
        words = λ o. absurd (true≢false o);
      }
        where
          go : (y : Bool) → ns.over ≡ y → true ≡ ltb 32 (length (with_one us w))
          go true o = over_stays o
          go false o = let a : 32 ≤ (length ns.spans) = leb-true 32 (length ns.spans) q in sym (lt-ltb 32 (length (with_one us w)) (omega (arith, one_longer o)))

      more : leb 32 (length ns.spans) ≡ false → Named e ms (with_one us w) (record { spans = ns.spans ++ p ∷ []; over = ns.over })
      more q = record {
        room = omega (arith, below, length-append ns.spans (p ∷ []));
        inside = inside_last e ns.spans p m.inside h;
        kept = rw said_longer (keeps_then ms (said t ns.spans) (said t ns.spans ++ w ∷ []) m.kept (keeps_more (said t ns.spans) (w ∷ [])));
        over = go ns.over refl;
        words = λ o. said_longer ∙ rw (f o, m.words o);
      }
        where
          below : (length ns.spans) < 32
          below = leb-false 32 (length ns.spans) q

          said_longer : said t (ns.spans ++ p ∷ []) ≡ said t ns.spans ++ w ∷ []
          said_longer = map-append (bytes_of t) ns.spans (p ∷ [])

          go : (y : Bool) → ns.over ≡ y → ns.over ≡ ltb 32 (length (with_one us w))
          go true o = o ∙ over_stays o
          go false o = o ∙ sym (le-ltb 32 (length (with_one us w)) (omega (arith, one_longer o, below)))

      new_name : Named e ms (with_one us w) (with_new ns p)
      new_name = go (leb 32 (length ns.spans)) refl
        where
          go : (x : Bool) → leb 32 (length ns.spans) ≡ x
              → Named e ms (with_one us w) (cond x (record { spans = ns.spans; over = true }) (record { spans = ns.spans ++ p ∷ []; over = ns.over }))
          go true q = full q
          go false q = more q

    -- a name that is listed
    known_name : (ns.over ≡ false → one_of us w ≡ true) → Named e ms (with_one us w) ns
    known_name f = record {
      room = m.room;
      inside = m.inside;
      kept = m.kept;
      over = go ns.over refl;
      words = λ o. rw (f o) (m.words o);
    }
      where
        go : (y : Bool) → ns.over ≡ y → ns.over ≡ ltb 32 (length (with_one us w))
        go true o = o ∙ over_stays o
        go false o = rw (f o) m.over

    name_word : Named e ms (with_one us w) (unless_found (number_in t ns w) ns p)
    unfolding unless_found
    name_word = rw (number_is ns w) (go (one_of (said t ns.spans) w) refl)
      where
        go : (x : Bool) → one_of (said t ns.spans) w ≡ x → Named e ms (with_one us w) (unless_found (cond x (Some (standing (said t ns.spans) w)) None) ns p)
        go true q = known_name (λ o. ap (λ (vs : Words). one_of vs w) (sym (m.words o)) ∙ q)
        go false q = new_name (λ o. ap (λ (vs : Words). one_of vs w) (sym (m.words o)) ∙ q)

  -- the names of the words of a line
  pub all_named : (e : ℕ) (ms us : Words) (ns : Names) → Named e ms us ns → (ws : List Span) → Inside e ws → Named e ms (with_names us (names_in (said t ws))) (with_words t ns ws)
  unfolding with_names with_words names_in
  all_named e ms us ns m [] i = m
  all_named e ms us ns m (p ∷ ps) i = rw (name_is (bytes_of t p)) (go (is_name (bytes_of t p)) (λ vs os n. all_named e ms vs os n ps i.1))
    where
      go : (x : Bool) → ((vs : Words) (os : Names) → Named e ms vs os → Named e ms (with_names vs (names_in (said t ps))) (with_words t os ps))
          → Named e ms (with_names us (cond x (bytes_of t p ∷ names_in (said t ps)) (names_in (said t ps)))) (with_words t (cond x (unless_found (number_in t ns (bytes_of t p)) ns p) ns) ps)
      go true ih = ih (with_one us (bytes_of t p)) (unless_found (number_in t ns (bytes_of t p)) ns p) (name_word e ms us ns m p i.0)
      go false ih = ih us ns m

-- ---- the same names in another text, and further on
pub named_in : (s t : List ℕ) (d e : ℕ) → d ≤ e → (ms us : Words) (ns : Names) → said s ns.spans ≡ said t ns.spans → Named s d ms us ns → Named t e ms us ns
named_in s t d e h ms us ns q m = record {
  room = m.room;
  inside = inside_more d e h ns.spans m.inside;
  kept = subst (Keeps ms) q m.kept;
  over = m.over;
  words = λ o. sym q ∙ m.words o;
}

-- at the end of a line
pub named_again : (t : List ℕ) (e : ℕ) (ms us : Words) (ns : Names) → Named t e ms us ns → ns.over ≡ false → Named t e us us ns
named_again t e ms us ns m o = record {
  room = m.room;
  inside = m.inside;
  kept = rw (m.words o) (keeps_same us);
  over = m.over;
  words = m.words;
}
