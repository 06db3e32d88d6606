-- What is counted along the words of a form is what the form says: for any count that goes by names, parentheses, await numbers and lists of
-- delays, and passes over the words of kinds. Instances: the names of a line, and its pairs of parentheses. Assumes nothing.
use mathlib.Core.Path.{◌≡◌, refl, sym, ap, ◌∙◌}
use mathlib.Core.Bool.{Bool, true, false, ◌||◌, false≢true}
use mathlib.Core.List.{List, [], ◌∷◌, ◌++◌, map, append_assoc, append-nil}
use Prim.Native.Nat.{ℕ, zero, suc, ◌+◌}
use native.Mathlib.Omega.{arith}
use Rattle.constraint.specs.declared.Definition.TheVariants.{Union, Inter, Lub, Glb, Await as AwaitKind, StrictlySampled, Sampled, Upto, Deferred}
use Rattle.constraint.specs.declared.Kind.{Kind}
use Rattle.constraint.specs.declared.Kind.TheVariants.{Empty, Relates, Defines}
use Rattle.constraint.specs.declared.Relation.TheVariants.{Coincides, Excludes, SubClock, StrictlyPrecedes, Precedes}
use Rattle.text.specs.Ascii.{ascii}
use Rattle.text.specs.Bytes.{all_bytes, same_bytes}
use Rattle.text.specs.Digits.{value}
use Rattle.text.proofs.Bytes.{same_equal}
use Rattle.grammar.specs.Grammar.{is_kind}
use Rattle.grammar.specs.Tokens.{token_of}
use Rattle.grammar.specs.declared.Token.TheVariants.{Name, Digits}
use Rattle.grammar.proofs.KindLaws.{not_await}
use Rattle.grammar.proofs.TokenLaws.{told_apart}
use Rattle.forms.specs.Forms.{Word, Words, one_of, name_shape, is_name, is_digits, all_digits, Right, both, awaits, delays, Form, relates, defines, IsRight, IsForm, Operand, name, both_inside, awaits_inside, delays_inside, inner, IsOperandOf, one_name, in_parentheses, IsOperand}
use Rattle.forms.specs.Lines.{names_in, pairs_in, implicits, form_implicits}
use Rattle.constraint.proofs.Booleans.{and_l, and_r, or_l, or_r}
use Rattle.forms.proofs.FormShapes.{NoRun, Between, onward, RightShape, two, listed, waits, right_shape, Shape, relation, definition, shape}
use Rattle.forms.proofs.SomeLaws.{or_true, any_of}
use Rattle.forms.proofs.WordLaws.{kind_words, digits_is, name_is}

-- the words of forms but parentheses, `await` and `for`: they stand between operands, or between a name and a right side
abbrev pub between_words : Words
between_words =
    ascii "=" ∷ ascii "#" ∷ ascii "isSubClockOf" ∷ ascii "strictly" ∷ ascii "precedes" ∷ ascii "clockDef" ∷ ascii "clockUnion" ∷ ascii "clockInter" ∷
    ascii "lub" ∷ ascii "glb" ∷ ascii "sampled" ∷ ascii "upto" ∷ ascii "deferred" ∷ []

-- the words of forms but `(`, `await` and `for`, behind which something counts
abbrev pub plain_words : Words
plain_words = ascii ")" ∷ between_words

-- a count along words: what a name, a pair of parentheses, an await number and a list of delays add to what stands behind them
pub record Counts {A : Type 0} (M : Words → A) : Type 0 where
  pub named : Word → A → A
  pub enclosed : A → A
  pub awaited : ℕ → A → A
  pub delayed : List ℕ → A → A
  pub of_name : (n : Word) (us : Words) → is_name n ≡ true → M (n ∷ us) ≡ named n (M us)
  pub of_open : (us : Words) → M (ascii "(" ∷ us) ≡ enclosed (M us)
  pub of_await : (n : Word) (us : Words) → is_digits n ≡ true → M (ascii "await" ∷ n ∷ us) ≡ awaited (value 0 n) (M us)
  pub of_list : (ns us : Words) → all_digits ns ≡ true → NoRun us → M (ascii "for" ∷ (ns ++ us)) ≡ delayed (map (value 0) ns) (M us)
  pub passes : (w : Word) (us : Words) → one_of plain_words w ≡ true → M (w ∷ us) ≡ M us

-- a word that is passed over is none that a test finds
pub found_by_none : (q : Word → Bool) (vs : Words) → any_of q vs ≡ false → (w : Word) → one_of vs w ≡ true → q w ≡ false
unfolding one_of
found_by_none q [] a w e = absurd (false≢true e)
found_by_none q (v ∷ vs) a w e = go (same_bytes w v) refl e (found_by_none q vs (or_r (q v) (any_of q vs) a) w)
  where
    go : (x : Bool) → same_bytes w v ≡ x → (x || one_of vs w) ≡ true → (one_of vs w ≡ true → q w ≡ false) → q w ≡ false
    go true p e ih = ap q (same_equal w v p) ∙ or_l (q v) (any_of q vs) a
    go false p e ih = ih e

-- what passes over those words passes over the words of a kind, and over `clockDef`
module _ {A : Type 0} (M : Words → A) (passes : (w : Word) (us : Words) → one_of between_words w ≡ true → M (w ∷ us) ≡ M us) where
  pub kind_passes : (k : Kind) (us : Words) → is_kind k ≡ true → not_await k ≡ true → M (kind_words k ++ us) ≡ M us
  unfolding not_await one_of same_bytes
  kind_passes Empty us i n = refl
  kind_passes (Relates Coincides) us i n = passes (ascii "=") us refl
  kind_passes (Relates Excludes) us i n = passes (ascii "#") us refl
  kind_passes (Relates SubClock) us i n = passes (ascii "isSubClockOf") us refl
  kind_passes (Relates StrictlyPrecedes) us i n = passes (ascii "strictly") (ascii "precedes" ∷ us) refl ∙ passes (ascii "precedes") us refl
  kind_passes (Relates Precedes) us i n = passes (ascii "precedes") us refl
  kind_passes (Defines Union) us i n = passes (ascii "clockUnion") us refl
  kind_passes (Defines Inter) us i n = passes (ascii "clockInter") us refl
  kind_passes (Defines Lub) us i n = passes (ascii "lub") us refl
  kind_passes (Defines Glb) us i n = passes (ascii "glb") us refl
  kind_passes (Defines (AwaitKind m)) us i n = absurd (false≢true n)
  kind_passes (Defines StrictlySampled) us i n = passes (ascii "strictly") (ascii "sampled" ∷ us) refl ∙ passes (ascii "sampled") us refl
  kind_passes (Defines Sampled) us i n = passes (ascii "sampled") us refl
  kind_passes (Defines Upto) us i n = passes (ascii "upto") us refl
  kind_passes (Defines (Deferred ns)) us i n = passes (ascii "deferred") us refl

  pub def_passes : (us : Words) → M (ascii "clockDef" ∷ us) ≡ M us
  unfolding one_of same_bytes
  def_passes us = passes (ascii "clockDef") us refl

-- what passes over a digit run passes over all of a list
pub runs_pass : {A : Type 0} (M : Words → A) → ((n : Word) (us : Words) → is_digits n ≡ true → M (n ∷ us) ≡ M us) → (ns us : Words) → all_digits ns ≡ true → M (ns ++ us) ≡ M us
runs_pass M one [] us d = refl
runs_pass M one (n ∷ ns) us d = one n (ns ++ us) (and_l (is_digits n) (all_digits ns) d) ∙ runs_pass M one ns us (and_r (is_digits n) (all_digits ns) d)

module _ {A : Type 0} (M : Words → A) (C : Counts M) where
  between_passes : (w : Word) (us : Words) → one_of between_words w ≡ true → M (w ∷ us) ≡ M us
  unfolding one_of
  between_passes w us h = C.passes w us (rw h (or_true (same_bytes w (ascii ")"))))

  close_passes : (us : Words) → M (ascii ")" ∷ us) ≡ M us
  unfolding one_of same_bytes
  close_passes us = C.passes (ascii ")") us refl

  abbrev pub adds : Operand → A → A
  adds (name w) z = C.named w z
  adds (both_inside k x y) z = C.enclosed (adds x (adds y z))
  adds (awaits_inside n x) z = C.enclosed (C.awaited n (adds x z))
  adds (delays_inside ns x y) z = C.enclosed (adds x (adds y (C.delayed ns z)))

  abbrev pub adds_side : Right Operand → A → A
  adds_side (both k x y) z = adds x (adds y z)
  adds_side (awaits n x) z = C.awaited n (adds x z)
  adds_side (delays ns x y) z = adds x (adds y (C.delayed ns z))

  abbrev pub adds_form : Form Operand → A → A
  adds_form (relates k x y) z = adds x (adds y z)
  adds_form (defines c r) z = C.named c (adds_side r z)

  -- over any relation of operands of which that is true
  module _ (IsOp : Words → Operand → Type 0) (operand : (a us : Words) (x : Operand) → IsOp a x → M (a ++ us) ≡ adds x (M us)) where
    pair_adds : (k : Kind) (x y : Operand) (ws us : Words) → Between Operand IsOp k x y ws → M (ws ++ us) ≡ adds x (adds y (M us))
    pair_adds k x y ws us p =
        ap M (onward Operand IsOp k x y ws us p)
        ∙ operand p.a (kind_words k ++ (p.c ++ us)) x p.first
        ∙ ap (adds x) (kind_passes M between_passes k (p.c ++ us) p.kind p.plainly ∙ operand p.c us y p.second)

    side_adds : (ws us : Words) (r : Right Operand) → IsRight IsOp ws r → NoRun us → M (ws ++ us) ≡ adds_side r (M us)
    side_adds ws us r h f = go r (right_shape Operand IsOp ws r h)
      where
        go : (r : Right Operand) → RightShape Operand IsOp ws r → M (ws ++ us) ≡ adds_side r (M us)
        go r (two {k = k} {x = x} {y = y} n p) = pair_adds (Defines k) x y ws us p
        go r (listed {vs = vs} ns {x = x} {y = y} p d e) =
            ap (λ (z : Words). M (z ++ us)) e ∙ ap M (append_assoc vs (ascii "for" ∷ ns) us) ∙ pair_adds (Defines (Deferred [])) x y vs (ascii "for" ∷ (ns ++ us)) p ∙ ap (λ (z : A). adds x (adds y z)) (C.of_list ns us d f)
        go r (waits {n = n} {a = a} {x = x} d p e) = ap (λ (z : Words). M (z ++ us)) e ∙ C.of_await n (a ++ us) d ∙ ap (C.awaited (value 0 n)) (operand a us x p)

    form_adds : (ws : Words) (f : Form Operand) → IsForm IsOp ws f → M ws ≡ adds_form f (M [])
    form_adds ws f h = ap M (sym (append-nil ws)) ∙ go f (shape Operand IsOp ws f h)
      where
        go : (f : Form Operand) → Shape Operand IsOp ws f → M (ws ++ []) ≡ adds_form f (M [])
        go f (relation {k = k} {x = x} {y = y} p) = pair_adds (Relates k) x y ws [] p
        go f (definition {c = c} {rs = rs} {r = r} n p e) =
            ap (λ (z : Words). M (z ++ [])) e ∙ C.of_name c (ascii "clockDef" ∷ (rs ++ [])) n ∙ ap (C.named c) (def_passes M between_passes (rs ++ []) ∙ side_adds rs [] r p tt)

  -- level by level
  inside_adds : (Side : Words → Right Operand → Type 0) → ((ws us : Words) (r : Right Operand) → Side ws r → NoRun us → M (ws ++ us) ≡ adds_side r (M us))
      → (a us : Words) (x : Operand) → IsOperandOf Side a x → M (a ++ us) ≡ adds x (M us)
  unfolding is_digits all_bytes
  inside_adds Side side a us x (one_name {n = n} h) = C.of_name n us h
  inside_adds Side side a us x (in_parentheses {ws = ws} {r = r} h) =
      C.of_open ((ws ++ ascii ")" ∷ []) ++ us)
      ∙ ap C.enclosed (ap M (append_assoc ws (ascii ")" ∷ []) us) ∙ side ws (ascii ")" ∷ us) r h refl ∙ ap (adds_side r) (close_passes us))
      ∙ enclosing r
    where
      enclosing : (r : Right Operand) → C.enclosed (adds_side r (M us)) ≡ adds (inner r) (M us)
      enclosing (both k x y) = refl
      enclosing (awaits n x) = refl
      enclosing (delays ns x y) = refl

  operand_adds : (l : ℕ) (a us : Words) (x : Operand) → IsOperand l a x → M (a ++ us) ≡ adds x (M us)
  unfolding IsOperand
  operand_adds zero = inside_adds (λ ws r. ⊥) (λ ws us r h f. absurd h)
  operand_adds (suc l) = inside_adds (IsRight (IsOperand l)) (side_adds (IsOperand l) (operand_adds l))

  pub form_counts : (l : ℕ) (ws : Words) (f : Form Operand) → IsForm (IsOperand l) ws f → M ws ≡ adds_form f (M [])
  form_counts l = form_adds (IsOperand l) (operand_adds l)

-- ---- the names of a line that has a form are those of the form, in their order
digits_no_name : (n : Word) → is_digits n ≡ true → is_name n ≡ false
digits_no_name n d = sym (name_is n) ∙ told_apart Digits Name (token_of n) (digits_is n ∙ d)

abbrev pub operand_names : Operand → Words
operand_names (name w) = w ∷ []
operand_names (both_inside k x y) = operand_names x ++ operand_names y
operand_names (awaits_inside n x) = operand_names x
operand_names (delays_inside ns x y) = operand_names x ++ operand_names y

abbrev pub side_names : Right Operand → Words
side_names r = operand_names (inner r)

abbrev pub form_names : Form Operand → Words
form_names (relates k x y) = operand_names x ++ operand_names y
form_names (defines c r) = c ∷ side_names r

no_name_lem : (w : Word) (us : Words) → is_name w ≡ false → names_in (w ∷ us) ≡ names_in us
unfolding names_in
no_name_lem w us e = rw e

unfoldable names_counted : Counts names_in
unfolding names_in name_shape one_of all_bytes same_bytes
names_counted = record {
  named = λ n z. n ∷ z;
  enclosed = λ z. z;
  awaited = λ n z. z;
  delayed = λ ns z. z;
  of_name = λ n us h. rw h;
  of_open = λ us. refl;
  of_await = λ n us d. rw (digits_no_name n d);
  of_list = λ ns us d f. runs_pass names_in (λ n us d. no_name_lem n us (digits_no_name n d)) ns us d;
  passes = λ w us h. no_name_lem w us (found_by_none is_name plain_words refl w h);
}

both_names : (x y z us vs : Words) → us ≡ x ++ vs → vs ≡ y ++ z → us ≡ (x ++ y) ++ z
both_names x y z us vs p q = p ∙ ap (λ (us : Words). x ++ us) q ∙ sym (append_assoc x y z)

adds_names : (x : Operand) (z : Words) → adds names_in names_counted x z ≡ operand_names x ++ z
unfolding names_counted
adds_names (name w) z = refl
adds_names (both_inside k x y) z = both_names (operand_names x) (operand_names y) z _ _ (adds_names x (adds names_in names_counted y z)) (adds_names y z)
adds_names (awaits_inside n x) z = adds_names x z
adds_names (delays_inside ns x y) z = both_names (operand_names x) (operand_names y) z _ _ (adds_names x (adds names_in names_counted y z)) (adds_names y z)

pub form_names_lem : (l : ℕ) {ws : Words} {f : Form Operand} → IsForm (IsOperand l) ws f → names_in ws ≡ form_names f
unfolding names_in names_counted
form_names_lem l {ws} {f} h = form_counts names_in names_counted l ws f h ∙ go f
  where
    whole : (x : Operand) → adds names_in names_counted x [] ≡ operand_names x
    whole x = adds_names x [] ∙ append-nil (operand_names x)

    two : (x y : Operand) → adds names_in names_counted x (adds names_in names_counted y []) ≡ operand_names x ++ operand_names y
    two x y = adds_names x (adds names_in names_counted y []) ∙ ap (λ (us : Words). operand_names x ++ us) (whole y)

    go : (f : Form Operand) → adds_form names_in names_counted f [] ≡ form_names f
    go (relates k x y) = two x y
    go (defines c (both k x y)) = ap (λ (us : Words). c ∷ us) (two x y)
    go (defines c (awaits n x)) = ap (λ (us : Words). c ∷ us) (whole x)
    go (defines c (delays ns x y)) = ap (λ (us : Words). c ∷ us) (two x y)

-- ---- its pairs of parentheses are the implicit clocks of the form
no_pair : (w : Word) (us : Words) → same_bytes w (ascii "(") ≡ false → pairs_in (w ∷ us) ≡ pairs_in us
unfolding pairs_in
no_pair w us e = rw e

name_no_pair : (w : Word) → is_name w ≡ true → same_bytes w (ascii "(") ≡ false
unfolding name_shape
name_no_pair w h = go (same_bytes w (ascii "(")) refl
  where
    go : (x : Bool) → same_bytes w (ascii "(") ≡ x → x ≡ false
    go true e = absurd (false≢true (ap is_name (sym (same_equal w (ascii "(") e)) ∙ h))
    go false e = refl

digits_no_pair : (w : Word) → is_digits w ≡ true → same_bytes w (ascii "(") ≡ false
unfolding is_digits all_bytes
digits_no_pair w h = go (same_bytes w (ascii "(")) refl
  where
    go : (x : Bool) → same_bytes w (ascii "(") ≡ x → x ≡ false
    go true e = absurd (false≢true (ap is_digits (sym (same_equal w (ascii "(") e)) ∙ h))
    go false e = refl

unfoldable pairs_counted : Counts pairs_in
unfolding pairs_in same_bytes
pairs_counted = record {
  named = λ n z. z;
  enclosed = λ z. suc z;
  awaited = λ n z. z;
  delayed = λ ns z. z;
  of_name = λ n us h. no_pair n us (name_no_pair n h);
  of_open = λ us. refl;
  of_await = λ n us d. no_pair n us (digits_no_pair n d);
  of_list = λ ns us d f. runs_pass pairs_in (λ n us d. no_pair n us (digits_no_pair n d)) ns us d;
  passes = λ w us h. no_pair w us (found_by_none (λ u. same_bytes u (ascii "(")) plain_words refl w h);
}

both_pairs : (x y z m n : ℕ) → m ≡ x + n → n ≡ y + z → suc m ≡ suc (x + y) + z
both_pairs x y z m n p q = omega arith

adds_pairs : (x : Operand) (z : ℕ) → adds pairs_in pairs_counted x z ≡ implicits x + z
unfolding pairs_counted
adds_pairs (name w) z = omega arith
adds_pairs (both_inside k x y) z = both_pairs (implicits x) (implicits y) z _ _ (adds_pairs x (adds pairs_in pairs_counted y z)) (adds_pairs y z)
adds_pairs (awaits_inside n x) z = ap suc (adds_pairs x z) ∙ omega arith
adds_pairs (delays_inside ns x y) z = both_pairs (implicits x) (implicits y) z _ _ (adds_pairs x (adds pairs_in pairs_counted y z)) (adds_pairs y z)

pub form_pairs : (l : ℕ) {ws : Words} {f : Form Operand} → IsForm (IsOperand l) ws f → pairs_in ws ≡ form_implicits f
unfolding pairs_in pairs_counted
form_pairs l {ws} {f} h = form_counts pairs_in pairs_counted l ws f h ∙ go f
  where
    two : (x y : Operand) → adds pairs_in pairs_counted x (adds pairs_in pairs_counted y 0) ≡ implicits x + implicits y
    two x y = adds_pairs x (adds pairs_in pairs_counted y 0) ∙ ap (λ (m : ℕ). implicits x + m) (adds_pairs y 0) ∙ omega arith

    go : (f : Form Operand) → adds_form pairs_in pairs_counted f 0 ≡ form_implicits f
    go (relates k x y) = two x y
    go (defines c (both k x y)) = two x y
    go (defines c (awaits n x)) = adds_pairs x 0 ∙ omega arith
    go (defines c (delays ns x y)) = two x y
