-- A line that 19 lets pass needs sixteen levels at most: each level of a form is a parenthesis that stands open, and the bytes of a line but its
-- spaces are those of its words. Assumes nothing.
use mathlib.Core.Path.{◌≡◌, refl, sym, ap, ◌∙◌}
use mathlib.Core.Bool.{Bool, true, false, cond, ◌||◌, false≢true}
use mathlib.Core.List.{List, [], ◌∷◌, ◌++◌, append_assoc, append-nil}
use Prim.Native.Nat.{ℕ, zero, suc, ◌+◌, ◌-◌, ◌≤◌}
use native.Mathlib.Omega.{arith}
use borrow.Author.Tests.{eqb-true, ltb-false, le-ltb}
use lib.Dec.{eqb, ltb}
use Rattle.constraint.specs.declared.Definition.TheVariants.{Deferred}
use Rattle.constraint.specs.declared.Kind.{Kind}
use Rattle.constraint.specs.declared.Kind.TheVariants.{Relates, Defines}
use Rattle.constraint.proofs.Booleans.{and_l, and_r, or_l, or_r}
use Rattle.text.specs.Ascii.{ascii}
use Rattle.text.specs.Bytes.{letter, digit, all_bytes}
use Rattle.forms.specs.Forms.{Word, Words, Line, grow, parts, nonempty, words_of, one_of, name_shape, is_name, is_digits, Right, Form, IsRight, await, deferred, IsForm, clock_def, Operand, name, inner, IsOperandOf, one_name, in_parentheses, IsOperand, levels}
use Rattle.forms.specs.Lines.{opened, too_deep, SixteenLevelsAreEnough}
use Rattle.forms.proofs.BlankLines.{space, paren, some_part}
use Rattle.forms.proofs.FormLaws.{relation_row, right_row}
use Rattle.forms.proofs.FormShapes.{Between, onward, RightShape, two, listed, waits, right_shape, Shape, relation, definition, shape}
use Rattle.forms.proofs.FormWords.{between_words, found_by_none, kind_passes, def_passes, runs_pass}
use Rattle.forms.proofs.SomeLaws.{any_of}
use Rattle.forms.proofs.WordLaws.{kind_words}

-- ---- the bytes of words; no more than sixteen stand open in them
abbrev joined : Words → Line
joined [] = []
joined (w ∷ ws) = w ++ joined ws

abbrev Shallow : (k : ℕ) → Words → Type 0
Shallow k ws = too_deep k (joined ws) ≡ false

-- of shallow words, a front that fits in one way fits in another, and what stands behind it is shallow
abbrev Refits : {A : Type 0} → (k : ℕ) → (fits so : Words → A → Type 0) → Type 0
Refits {A} k fits so = (ws us : Words) (x : A) → fits ws x → Shallow k (ws ++ us) → so ws x × Shallow k us

-- ---- a byte that is no parenthesis opens and closes none
other_opens : (k b : ℕ) → paren b ≡ false → opened k b ≡ k
other_opens k b e = rw (or_l (eqb b 40) (eqb b 41) e, or_r (eqb b 40) (eqb b 41) e)

space_no_paren : (b : ℕ) → space b ≡ true → paren b ≡ false
space_no_paren b e = rw (eqb-true b 32 e)

module _ (k : ℕ) (o : k ≤ 16) where
  byte_passes : (b : ℕ) (l : Line) → paren b ≡ false → too_deep k (b ∷ l) ≡ too_deep k l
  unfolding too_deep
  byte_passes b l e = rw (other_opens k b e, le-ltb 16 k o)

  word_passes : (w : Word) (us : Words) → any_of paren w ≡ false → too_deep k (joined (w ∷ us)) ≡ too_deep k (joined us)
  word_passes [] us e = refl
  word_passes (b ∷ w) us e = byte_passes b (w ++ joined us) (or_l (paren b) (any_of paren w) e) ∙ word_passes w us (or_r (paren b) (any_of paren w) e)

-- ---- the words of a line are as shallow as the line
joined_more : (b : ℕ) (bs : Line) → space b ≡ false → joined (words_of (b ∷ bs)) ≡ b ∷ joined (words_of bs)
unfolding parts grow nonempty
joined_more b bs e = rw e (go (paren b) (parts space paren bs) (some_part space paren bs))
  where
    go : (x : Bool) (ps : List (List ℕ)) → (ps ≡ [] → ⊥) → joined (nonempty (cond x ([] ∷ (b ∷ []) ∷ ps) (grow b ps))) ≡ b ∷ joined (nonempty ps)
    go true ps f = refl
    go false [] f = absurd (f refl)
    go false ([] ∷ ps) f = refl
    go false ((c ∷ cs) ∷ ps) f = refl

words_shallow : (k : ℕ) → k ≤ 16 → (l : Line) → too_deep k l ≡ false → Shallow k (words_of l)
unfolding too_deep parts nonempty
words_shallow k o [] d = d
words_shallow k o (b ∷ bs) d = go (space b) refl (λ j q. words_shallow j q bs)
  where
    go : (x : Bool) → space b ≡ x → ((j : ℕ) → j ≤ 16 → too_deep j bs ≡ false → Shallow j (words_of bs)) → Shallow k (words_of (b ∷ bs))
    go true e ih = rw e (ih k o (sym (byte_passes k o b bs (space_no_paren b e)) ∙ d))
    go false e ih =
        let h : ltb 16 (opened k b) ≡ false = or_l (ltb 16 (opened k b)) (too_deep (opened k b) bs) d in
        let s : Shallow (opened k b) (words_of bs) = ih (opened k b) (ltb-false 16 (opened k b) h) (or_r (ltb 16 (opened k b)) (too_deep (opened k b) bs) d) in
        ap (too_deep k) (joined_more b bs e) ∙ rw (h, s)

-- ---- names, digit runs and the words between operands have no parenthesis
no_paren : (p : ℕ → Bool) → p 40 ≡ false → p 41 ≡ false → (w : Word) → all_bytes p w ≡ true → any_of paren w ≡ false
unfolding all_bytes
no_paren p f g [] e = refl
no_paren p f g (b ∷ w) e = rw (go (eqb b 40) refl (eqb b 41) refl, no_paren p f g w (and_r (p b) (all_bytes p w) e))
  where
    never : (n : ℕ) → p n ≡ false → eqb b n ≡ true → ⊥
    never n h q = false≢true (sym h ∙ ap p (sym (eqb-true b n q)) ∙ and_l (p b) (all_bytes p w) e)

    go : (x : Bool) → eqb b 40 ≡ x → (y : Bool) → eqb b 41 ≡ y → (x || y) ≡ false
    go true q y r = absurd (never 40 f q)
    go false q true r = absurd (never 41 g r)
    go false q false r = refl

name_plain : (w : Word) → is_name w ≡ true → any_of paren w ≡ false
unfolding name_shape
name_plain [] e = refl
name_plain (b ∷ bs) e = no_paren (λ c. letter c || digit c || eqb c 95) refl refl (b ∷ bs) (and_r (letter b) _ (and_l (name_shape (b ∷ bs)) _ e))

digits_plain : (w : Word) → is_digits w ≡ true → any_of paren w ≡ false
unfolding is_digits
digits_plain [] e = refl
digits_plain (d ∷ ds) e = no_paren digit refl refl (d ∷ ds) e

between_plain : (w : Word) → one_of between_words w ≡ true → any_of paren w ≡ false
between_plain = found_by_none (any_of paren) between_words refl

-- ---- rows, where k stand open: operands that fit in another way make rows that fit so
module _ (k : ℕ) (o : k ≤ 16) (IsOp Fits : Words → Operand → Type 0) (operand : Refits k IsOp Fits) where
  passes : (w : Word) (us : Words) → one_of between_words w ≡ true → too_deep k (joined (w ∷ us)) ≡ too_deep k (joined us)
  passes w us h = word_passes k o w us (between_plain w h)

  pair_fits : (j : Kind) (x y : Operand) (ws us : Words) → Between Operand IsOp j x y ws → Shallow k (ws ++ us) → Between Operand Fits j x y ws × Shallow k us
  pair_fits j x y ws us p s =
      let f = operand p.a (kind_words j ++ (p.c ++ us)) x p.first (rw (onward Operand IsOp j x y ws us p) at s) in
      let g = operand p.c us y p.second (sym (kind_passes (λ z. too_deep k (joined z)) passes j (p.c ++ us) p.kind p.plainly) ∙ f.1) in
      (record { a = p.a; c = p.c; first = f.0; second = g.0; kind = p.kind; plainly = p.plainly; words = p.words }, g.1)

  side_fits : Refits k (IsRight IsOp) (IsRight Fits)
  side_fits ws us r h s = go r (right_shape Operand IsOp ws r h)
    where
      go : (r : Right Operand) → RightShape Operand IsOp ws r → IsRight Fits ws r × Shallow k us
      go r (two {k = j} {x = x} {y = y} n p) =
          let f = pair_fits (Defines j) x y ws us p s in
          (rw f.0.words (right_row Fits f.0.first f.0.second j f.0.plainly n), f.1)
      go r (listed {vs = vs} ns {x = x} {y = y} p d e) =
          let f = pair_fits (Defines (Deferred [])) x y vs (ascii "for" ∷ (ns ++ us)) p (ap (λ (z : Words). too_deep k (joined z)) (sym (ap (λ (z : Words). z ++ us) e ∙ append_assoc vs (ascii "for" ∷ ns) us)) ∙ s) in
          let w : (f.0.a ++ ascii "deferred" ∷ f.0.c) ++ ascii "for" ∷ ns ≡ f.0.a ++ ascii "deferred" ∷ (f.0.c ++ ascii "for" ∷ ns) = append_assoc f.0.a (ascii "deferred" ∷ f.0.c) (ascii "for" ∷ ns) in
          let g : Shallow k (ns ++ us) = sym (word_passes k o (ascii "for") (ns ++ us) refl) ∙ f.1 in (
            rw (e, f.0.words, w) (deferred ns f.0.first f.0.second d),
            sym (runs_pass (λ z. too_deep k (joined z)) (λ n us h. word_passes k o n us (digits_plain n h)) ns us d) ∙ g,
          )
      go r (waits {n = n} {a = a} {x = x} d p e) =
          let s : Shallow k (n ∷ (a ++ us)) = sym (word_passes k o (ascii "await") (n ∷ (a ++ us)) refl) ∙ (rw e at s) in
          let f = operand a us x p (sym (word_passes k o n (a ++ us) (digits_plain n d)) ∙ s) in
          (rw e (await d f.0), f.1)

  form_fits : (ws : Words) (f : Form Operand) → IsForm IsOp ws f → Shallow k (ws ++ []) → IsForm Fits ws f
  form_fits ws f h s = go f (shape Operand IsOp ws f h)
    where
      go : (f : Form Operand) → Shape Operand IsOp ws f → IsForm Fits ws f
      go f (relation {k = j} {x = x} {y = y} p) = let f = (pair_fits (Relates j) x y ws [] p s).0 in rw f.words (relation_row Fits f.first f.second j)
      go f (definition {c = c} {rs = rs} {r = r} n p e) =
          let s : Shallow k (ascii "clockDef" ∷ (rs ++ [])) = sym (word_passes k o c (ascii "clockDef" ∷ (rs ++ [])) (name_plain c n)) ∙ (rw e at s) in
          rw e (clock_def n (side_fits rs [] r p (sym (def_passes (λ z. too_deep k (joined z)) passes (rs ++ [])) ∙ s)).0)

-- ---- level by level: where k stand open, as many levels do as make sixteen with them
one_name_fits : (m : ℕ) (n : Word) → is_name n ≡ true → IsOperand m (n ∷ []) (name n)
unfolding IsOperand
one_name_fits zero n h = one_name h
one_name_fits (suc m) n h = one_name h

module _ (Side : Words → Right Operand → Type 0) (side : (m k : ℕ) → k ≤ 16 → 16 ≤ k + m → Refits k Side (IsRight (IsOperand m))) where
  inside_fits : (m k : ℕ) → k ≤ 16 → 16 ≤ k + m → Refits k (IsOperandOf Side) (IsOperand m)
  unfolding too_deep IsOperand
  inside_fits m k o e a us x (one_name {n = n} h) s = (one_name_fits m n h, sym (word_passes k o n us (name_plain n h)) ∙ s)
  inside_fits m k o e a us x (in_parentheses {ws = ws} {r = r} h) s = go m e
    where
      more : suc k ≤ 16
      more = ltb-false 16 (suc k) (or_l (ltb 16 (suc k)) _ s)

      within : Shallow (suc k) (ws ++ ascii ")" ∷ us)
      within = ap (λ (z : Words). too_deep (suc k) (joined z)) (sym (append_assoc ws (ascii ")" ∷ []) us)) ∙ or_r (ltb 16 (suc k)) _ s

      go : (m : ℕ) → 16 ≤ k + m → IsOperand m (ascii "(" ∷ (ws ++ ascii ")" ∷ [])) (inner r) × Shallow k us
      go zero e = absurd (omega (arith, more))
      go (suc m) e =
          let f = side m (suc k) more (omega arith) ws (ascii ")" ∷ us) r h within in
          let z : suc k - 1 ≡ k = omega arith in
          (in_parentheses f.0, or_r (ltb 16 k) (too_deep k (joined us)) (rw z at f).1)

operand_fits : (n m k : ℕ) → k ≤ 16 → 16 ≤ k + m → Refits k (IsOperand n) (IsOperand m)
unfolding IsOperand
operand_fits zero = inside_fits (λ ws r. ⊥) (λ m k o e ws us r h s. absurd h)
operand_fits (suc n) = inside_fits (IsRight (IsOperand n)) (λ m k o e. side_fits k o (IsOperand n) (IsOperand m) (operand_fits n m k o e))

pub sixteen_levels_are_enough : SixteenLevelsAreEnough
sixteen_levels_are_enough n l f d h =
    form_fits 0 (omega arith) (IsOperand n) (IsOperand levels) (operand_fits n levels 0 (omega arith) (omega arith)) (words_of l) f h
    (rw (append-nil (words_of l)) (words_shallow 0 (omega arith) l d))
