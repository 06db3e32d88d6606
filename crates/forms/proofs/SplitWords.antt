-- The spans that a text is split into are its parts, as bytes, one behind the other: lines between newlines, and the words of a line.
-- Assumes nothing.
use mathlib.Core.Path.{◌≡◌, refl, sym, ap, ◌∙◌}
use mathlib.Core.Bool.{Bool, true, false, cond, ◌||◌}
use mathlib.Core.List.{List, [], ◌∷◌, map}
use Prim.Native.Nat.{ℕ, zero, suc, ◌+◌, ◌-◌, ◌≤◌, ◌<◌}
use native.Mathlib.Omega.{arith}
use borrow.Author.Tests.{ltb-true, ltb-false}
use lib.Dec.{eqb, ltb}
use lib.ListN.{length, take, drop, get_or, length-drop}
use lib.Seq.{take-take, take-nil, drop-drop}
use Rattle.text.specs.Bytes.{in_class}
use Rattle.text.specs.Split.{span, bytes_of, grown, pieces, tokens, filled, pieces_at, words_at}
use Rattle.text.specs.declared.Class.TheVariants.{Newline, Space, Blank}
use Rattle.text.specs.declared.Span.{Span}
use Rattle.text.proofs.Bytes.{drop_next}
use Rattle.forms.specs.Forms.{grow, parts, nonempty, lines_of, words_of}

-- ---- spans that lie one behind the other from an offset to another, and spans that end before one

abbrev pub Ordered : (from to : ℕ) → List Span → Type 0
Ordered a e [] = a ≤ e
Ordered a e (p ∷ ps) = (a ≤ p.start) × (p.start ≤ p.end) × Ordered p.end e ps

abbrev pub Inside : ℕ → List Span → Type 0
Inside e [] = Unit {0}
Inside e (p ∷ ps) = (p.end ≤ e) × Inside e ps

pub ordered_to : (a e : ℕ) (ps : List Span) → Ordered a e ps → a ≤ e
ordered_to a e [] o = o
ordered_to a e (p ∷ ps) o = let h : p.end ≤ e = ordered_to p.end e ps o.2 in omega arith

earlier : (d a e : ℕ) → d ≤ a → (ps : List Span) → Ordered a e ps → Ordered d e ps
earlier d a e h [] o = omega arith
earlier d a e h (p ∷ ps) o = (omega arith, o.1, o.2)

pub ordered_inside : (a e : ℕ) (ps : List Span) → Ordered a e ps → Inside e ps
ordered_inside a e [] o = tt
ordered_inside a e (p ∷ ps) o = (ordered_to p.end e ps o.2, ordered_inside p.end e ps o.2)

pub inside_more : (d e : ℕ) → d ≤ e → (ps : List Span) → Inside d ps → Inside e ps
inside_more d e h [] i = tt
inside_more d e h (p ∷ ps) i = (omega arith, inside_more d e h ps i.1)

filled_inside : (e : ℕ) (ps : List Span) → Inside e ps → Inside e (filled ps)
unfolding filled
filled_inside e [] i = tt
filled_inside e (p ∷ ps) i = go (ltb p.start p.end) (filled_inside e ps i.1)
  where
    go : (x : Bool) → Inside e (filled ps) → Inside e (cond x (p ∷ filled ps) (filled ps))
    go true ih = (i.0, ih)
    go false ih = ih

-- ---- the first of the pieces opens where they do
abbrev Opens : ℕ → List Span → Type 0
Opens at [] = Unit {0}
Opens at (p ∷ ps) = (p.start ≡ at) × (at ≤ p.end)

module _ (sep end : ℕ → Bool) where
  opens : (at : ℕ) (bs : List ℕ) → Opens at (tokens sep end at bs)
  unfolding tokens grown
  opens at [] = (refl, omega arith)
  opens at (b ∷ bs) = go (sep b) (end b) (tokens sep end (at + 1) bs) (opens (at + 1) bs)
    where
      go : (x y : Bool) (ps : List Span) → Opens (at + 1) ps → Opens at (cond x (span at at ∷ ps) (cond y (span at at ∷ span at (at + 1) ∷ ps) (grown at ps)))
      go true y ps o = (refl, omega arith)
      go false true ps o = (refl, omega arith)
      go false false [] o = tt
      go false false (p ∷ ps) o = (refl, omega arith)

  ordered : (at e : ℕ) (bs : List ℕ) → at + length bs ≡ e → Ordered at e (tokens sep end at bs)
  unfolding tokens grown
  ordered at e [] q = (omega arith, omega arith, omega arith)
  ordered at e (b ∷ bs) q = go (sep b) (end b) (tokens sep end (at + 1) bs) (ordered (at + 1) e bs (omega arith))
    where
      go : (x y : Bool) (ps : List Span) → Ordered (at + 1) e ps → Ordered at e (cond x (span at at ∷ ps) (cond y (span at at ∷ span at (at + 1) ∷ ps) (grown at ps)))
      go true y ps o = (omega arith, omega arith, earlier at (at + 1) e (omega arith) ps o)
      go false true ps o = (omega arith, omega arith, (omega arith, omega arith, o))
      go false false [] o = omega arith
      go false false (p ∷ ps) o = (omega arith, omega arith, o.2)

-- ---- pieces are tokens where no byte stands by itself
pieces_are : (sep : ℕ → Bool) (at : ℕ) (bs : List ℕ) → pieces sep at bs ≡ tokens sep (λ b. false) at bs
unfolding pieces tokens
pieces_are sep at [] = refl
pieces_are sep at (b ∷ bs) = rw (pieces_are sep (at + 1) bs)

-- ---- their bytes
drop_one : (t : List ℕ) (at b : ℕ) (bs : List ℕ) → drop at t ≡ b ∷ bs → drop (at + 1) t ≡ bs
drop_one t at b bs e = sym (drop-drop 1 at t) ∙ ap (drop 1) e

module _ (t : List ℕ) where
  grown_grow : (at b : ℕ) (bs : List ℕ) → drop at t ≡ b ∷ bs → (ps : List Span) → Opens (at + 1) ps → map (bytes_of t) (grown at ps) ≡ grow b (map (bytes_of t) ps)
  unfolding grown grow
  grown_grow at b bs e [] o = refl
  grown_grow at b bs e (p ∷ ps) o =
      let z : p.end - at ≡ suc (p.end - (at + 1)) = omega arith in
      rw (z, e, o.0, drop_one t at b bs e)

  module _ (sep end alone : ℕ → Bool) (same : (b : ℕ) → sep b ≡ false → end b ≡ alone b) where
    tokens_parts : (at : ℕ) (bs : List ℕ) → drop at t ≡ bs → map (bytes_of t) (tokens sep end at bs) ≡ parts sep alone bs
    unfolding tokens parts
    tokens_parts at [] e = let z : at - at ≡ 0 = omega arith in rw z
    tokens_parts at (b ∷ bs) e = go (sep b) refl (alone b) refl (tokens_parts (at + 1) bs (drop_one t at b bs e))
      where
        nothing : at - at ≡ 0
        nothing = omega arith

        one : at + 1 - at ≡ 1
        one = omega arith

        go : (x : Bool) → sep b ≡ x → (y : Bool) → alone b ≡ y → map (bytes_of t) (tokens sep end (at + 1) bs) ≡ parts sep alone bs
            → map (bytes_of t) (cond x (span at at ∷ tokens sep end (at + 1) bs) (cond (end b) (span at at ∷ span at (at + 1) ∷ tokens sep end (at + 1) bs) (grown at (tokens sep end (at + 1) bs))))
            ≡ cond x ([] ∷ parts sep alone bs) (cond y ([] ∷ (b ∷ []) ∷ parts sep alone bs) (grow b (parts sep alone bs)))
        go true q y f ih = rw (nothing, ih)
        go false q true f ih = rw (same b q, f, nothing, one, e, ih)
        go false q false f ih = rw (same b q, f, ← ih) (grown_grow at b bs e (tokens sep end (at + 1) bs) (opens sep end (at + 1) bs))

  -- the pieces without a byte are those that `filled` leaves out
  has_byte : (a e : ℕ) → a < e → e ≤ length t → (b : ℕ) × (bs : List ℕ) × (bytes_of t (span a e) ≡ b ∷ bs)
  has_byte a e h k =
      let z : e - a ≡ suc (e - (a + 1)) = omega arith in
      (get_or t a 0, take (e - (a + 1)) (drop (a + 1) t), rw (z, drop_next t a 0 (omega arith)))

  filled_nonempty : (ps : List Span) → Inside (length t) ps → map (bytes_of t) (filled ps) ≡ nonempty (map (bytes_of t) ps)
  unfolding filled nonempty
  filled_nonempty [] i = refl
  filled_nonempty (p ∷ ps) i = go (ltb p.start p.end) refl (filled_nonempty ps i.1)
    where
      go : (x : Bool) → ltb p.start p.end ≡ x → map (bytes_of t) (filled ps) ≡ nonempty (map (bytes_of t) ps)
          → map (bytes_of t) (cond x (p ∷ filled ps) (filled ps)) ≡ nonempty (bytes_of t p ∷ map (bytes_of t) ps)
      go true q ih = let h = has_byte p.start p.end (ltb-true p.start p.end q) i.0 in rw (h.2, ih)
      go false q ih =
          let h : p.end ≤ p.start = ltb-false p.start p.end q in
          let z : p.end - p.start ≡ 0 = omega arith in
          rw (z, ih)

  -- ---- the lines of a text, and the words of a line from an offset on
  pub lines_are : map (bytes_of t) (pieces_at (in_class Newline) t 0) ≡ lines_of t
  lines_are = rw (pieces_are (in_class Newline) 0 t) (tokens_parts (in_class Newline) (λ b. false) (λ b. false) (λ b e. refl) 0 t refl)

  pub lines_ordered : Ordered 0 (length t) (pieces_at (in_class Newline) t 0)
  lines_ordered = rw (pieces_are (in_class Newline) 0 t) (ordered (in_class Newline) (λ b. false) 0 (length t) t (omega arith))

  module _ (at : ℕ) (h : at ≤ length t) where
    abbrev cut : List Span
    cut = tokens (in_class Space) (in_class Blank) at (drop at t)

    cut_inside : Inside (length t) cut
    cut_inside = ordered_inside at (length t) cut (ordered (in_class Space) (in_class Blank) at (length t) (drop at t) (omega (arith, length-drop at t)))

    pub words_inside : Inside (length t) (words_at Space t at)
    words_inside = filled_inside (length t) cut cut_inside

    pub words_are : map (bytes_of t) (words_at Space t at) ≡ words_of (drop at t)
    words_are = filled_nonempty cut cut_inside ∙ ap nonempty (tokens_parts (in_class Space) (in_class Blank) (λ b. eqb b 40 || eqb b 41) (λ b e. rw e) at (drop at t) refl)

-- ---- the same bytes in a text that is cut behind them
drop_take : (a e : ℕ) (l : List ℕ) → drop a (take e l) ≡ take (e - a) (drop a l)
drop_take zero e l = let z : e - 0 ≡ e = omega arith in rw z
drop_take (suc a) zero l = let z : 0 - suc a ≡ 0 = omega arith in rw z
drop_take (suc a) (suc e) [] = sym (take-nil (suc e - suc a))
drop_take (suc a) (suc e) (x ∷ l) = let z : suc e - suc a ≡ e - a = omega arith in rw z (drop_take a e l)

module _ (t : List ℕ) (e : ℕ) where
  pub line_bytes : (p : Span) → p.end ≡ e → drop p.start (take e t) ≡ bytes_of t p
  line_bytes p h = rw h (drop_take p.start e t)

  cut_bytes : (p : Span) → p.end ≤ e → bytes_of (take e t) p ≡ bytes_of t p
  cut_bytes p h =
      let k : p.end - p.start ≤ e - p.start = omega arith in
      rw (drop_take p.start e t) (take-take (p.end - p.start) (e - p.start) (drop p.start t) k)

  pub cut_same : (ps : List Span) → Inside e ps → map (bytes_of (take e t)) ps ≡ map (bytes_of t) ps
  cut_same [] i = refl
  cut_same (p ∷ ps) i = rw (cut_bytes p i.0, cut_same ps i.1)
