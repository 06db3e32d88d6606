-- A line that breaks nothing has a sound form: its names have numbers, the clocks that a constraint names are not one name, and its await numbers
-- and its lists of delays are in range. Assumes nothing.
use mathlib.Core.Path.{◌≡◌, refl, ap, ap₂, ◌∙◌}
use mathlib.Core.Logic.{◌↔◌}
use mathlib.Core.Bool.{Bool, true, false, ◌&&◌, true≢false, false≢true}
use mathlib.Core.List.{List, [], ◌∷◌, ◌++◌, map, append_assoc}
use Prim.Native.Nat.{ℕ, zero, suc, ◌≤◌, ◌<◌}
use native.Mathlib.Omega.{arith}
use borrow.Author.Tests.{leb-true, leb-false}
use lib.Dec.{leb}
use lib.ListN.{length}
use Rattle.limit.specs.declared.Limit.TheVariants.{AwaitNumber, DelayNumber, ClockTwice}
use Rattle.constraint.specs.declared.Kind.{Kind}
use Rattle.constraint.specs.declared.Kind.TheVariants.{Defines}
use Rattle.constraint.proofs.Named.{arity, paired}
use Rattle.constraint.specs.declared.Definition.{Definition}
use Rattle.constraint.specs.declared.Definition.TheVariants.{Union, Inter, Lub, Glb, Await as AwaitKind, StrictlySampled, Sampled, Upto, Deferred}
use Rattle.text.specs.Digits.{value}
use Rattle.grammar.specs.Grammar.{all_delays, is_list, is_deferred}
use Rattle.grammar.proofs.KindLaws.{not_await}
use Rattle.forms.specs.Forms.{Word, Words, Line, words_of, one_of, Right, Form, relates, defines, IsRight, IsForm, Operand, name, both_inside, awaits_inside, delays_inside, inner, IsOperandOf, one_name, in_parentheses, IsOperand, levels, HasForm}
use Rattle.forms.specs.Lines.{operand_numbers, await_numbers, operand_lists, delay_lists, Some, here, later, ListOutside, no_number, many_numbers, number_outside, await_number_outside, delay_list_outside, name_twice, BreaksNothing}
use Rattle.forms.proofs.ClockNames.{AllOf, all_left, all_right}
use Rattle.forms.proofs.FormShapes.{Between, RightShape, two, listed, waits, right_shape, Shape, relation, definition, shape}
use Rattle.forms.proofs.FormWords.{operand_names, side_names, form_names, form_names_lem}
use Rattle.forms.proofs.SomeLaws.{some_none, some_left, some_right, some_last}

-- a kind that is neither an await nor a delay has two operands and nothing else
plainly_paired : (k : Definition) → is_deferred k ≡ false → not_await (Defines k) ≡ true → paired (arity k) ≡ true
unfolding not_await
plainly_paired Union d e = refl
plainly_paired Inter d e = refl
plainly_paired Lub d e = refl
plainly_paired Glb d e = refl
plainly_paired (AwaitKind n) d e = absurd (false≢true e)
plainly_paired StrictlySampled d e = refl
plainly_paired Sampled d e = refl
plainly_paired Upto d e = refl
plainly_paired (Deferred ns) d e = absurd (true≢false d)

-- no word stands twice
abbrev pub NoneTwice : Words → Type 0
NoneTwice ws = (a b d : Words) (n : Word) → ws ≡ a ++ n ∷ (b ++ n ∷ d) → ⊥

-- two operands are not one name
abbrev pub Differ : (x y : Operand) → Type 0
Differ x y = (w : Word) → x ≡ name w → y ≡ name w → ⊥

-- a number outside 1 to a most, as 14 does not let an await number pass, nor 22 one of a delay
abbrev Outside : (most : ℕ) → ℕ → Type 0
Outside most n = 1 ≤ n → n ≤ most → ⊥

number_row : (most n : ℕ) → ((leb 1 n && leb n most) ≡ false) ↔ Outside most n
number_row most n = go (leb 1 n) (leb n most) refl refl
  where
    go : (x y : Bool) → leb 1 n ≡ x → leb n most ≡ y → ((x && y) ≡ false) ↔ Outside most n
    go true true p q = (λ e. absurd (true≢false e), λ f. absurd (f (leb-true 1 n p) (leb-true n most q)))
    go true false p q = let h : most < n = leb-false n most q in (λ e a b. omega arith, λ f. refl)
    go false y p q = let h : n < 1 = leb-false 1 n p in (λ e a b. omega arith, λ f. refl)

numbers_row : (ns : List ℕ) → (all_delays ns ≡ false) ↔ Some (Outside 32) ns
numbers_row [] = (λ e. absurd (true≢false e), λ s. absurd (some_none (Outside 32) [] refl s))
numbers_row (n ∷ ns) = go (leb 1 n && leb n 32) (number_row 32 n) (numbers_row ns)
  where
    go : (x : Bool) → (x ≡ false) ↔ Outside 32 n → (all_delays ns ≡ false) ↔ Some (Outside 32) ns → ((x && all_delays ns) ≡ false) ↔ Some (Outside 32) (n ∷ ns)
    go true r ih = (λ e. later (ih.0 e), from)
      where
        from : Some (Outside 32) (n ∷ ns) → all_delays ns ≡ false
        from (here h) = absurd (true≢false (r.1 h))
        from (later s) = ih.1 s
    go false r ih = (λ e. here (r.0 refl), λ s. refl)

-- a list that 22 does not let pass
pub list_row : (ns : List ℕ) → (is_list ns ≡ false) ↔ ListOutside ns
list_row ns = go (leb 1 (length ns)) refl (leb (length ns) 8) refl (all_delays ns) (numbers_row ns)
  where
    go : (x : Bool) → leb 1 (length ns) ≡ x → (y : Bool) → leb (length ns) 8 ≡ y → (z : Bool) → (z ≡ false) ↔ Some (Outside 32) ns → (((x && y) && z) ≡ false) ↔ ListOutside ns
    go false p y q z r = (λ e. no_number (leb-false 1 (length ns) p), λ o. refl)
    go true p false q z r = (λ e. many_numbers (leb-false (length ns) 8 q), λ o. refl)
    go true p true q z r = (λ e. number_outside (r.0 e), from)
      where
        from : ListOutside ns → z ≡ false
        from (no_number h) = absurd (omega (arith, leb-true 1 (length ns) p))
        from (many_numbers h) = absurd (omega (arith, leb-true (length ns) 8 q))
        from (number_outside s) = r.1 s

-- a test that fails exactly where P is so
pub passes : (x : Bool) {P : Type 0} → (x ≡ false) ↔ P → (P → ⊥) → x ≡ true
passes true r f = refl
passes false r f = absurd (f (r.0 refl))

module _ (ns : Words) where
  -- an operand and a form: the names are among ns, an await has one operand and a number in range, a delay a list in range, and two operands of a
  -- constraint are not one name
  abbrev pub Sound : Operand → Type 0
  Sound (name w) = one_of ns w ≡ true
  Sound (both_inside d x y) = (paired (arity d) ≡ true) × Sound x × Sound y × Differ x y
  Sound (awaits_inside m x) = ((leb 1 m && leb m 1_000_000) ≡ true) × Sound x
  Sound (delays_inside ms x y) = (is_list ms ≡ true) × Sound x × Sound y × Differ x y

  abbrev pub SoundForm : Form Operand → Type 0
  SoundForm (relates j x y) = Sound x × Sound y × Differ x y
  SoundForm (defines c r) = (one_of ns c ≡ true) × Sound (inner r) × NoneTwice (c ∷ side_names r)

  -- ---- parts of a line that breaks none of 14, 22 and 15: names, which are among ns, await numbers and lists of delays
  record Unbroken (us : Words) (ms : List ℕ) (ls : List (List ℕ)) : Type 0 where
    named : AllOf ns us
    once : NoneTwice us
    numbers : Some (Outside 1_000_000) ms → ⊥
    lists : Some ListOutside ls → ⊥

  module _ (us vs : Words) (ms ks : List ℕ) (ls js : List (List ℕ)) (h : Unbroken (us ++ vs) (ms ++ ks) (ls ++ js)) where
    left : Unbroken us ms ls
    left = record {
      named = all_left ns us vs h.named;
      once = λ a b d n e. h.once a b (d ++ vs) n (ap (λ (ws : Words). ws ++ vs) e ∙ simp append_assoc);
      numbers = λ s. h.numbers (some_left (Outside 1_000_000) ms ks s);
      lists = λ s. h.lists (some_left ListOutside ls js s);
    }

    right : Unbroken vs ks js
    right = record {
      named = all_right ns us vs h.named;
      once = λ a b d n e. h.once (us ++ a) b d n (ap (λ (ws : Words). us ++ ws) e ∙ simp append_assoc);
      numbers = λ s. h.numbers (some_right (Outside 1_000_000) ms ks s);
      lists = λ s. h.lists (some_right ListOutside ls js s);
    }

  -- of an operand, and of a right side
  abbrev Whole : Operand → Type 0
  Whole x = Unbroken (operand_names x) (operand_numbers x) (operand_lists x)

  -- over any relation of operands of which that is true
  module _ (Op : Words → Operand → Type 0) (operand : (a : Words) (x : Operand) → Op a x → Whole x → Sound x) where
    pair_sound : {k : Kind} {us : Words} (x y : Operand) → Between Operand Op k x y us → Unbroken (operand_names x ++ operand_names y) (operand_numbers x ++ operand_numbers y) (operand_lists x ++ operand_lists y) → Sound x × Sound y × Differ x y
    pair_sound x y p h = (
      operand p.a x p.first (left (operand_names x) (operand_names y) (operand_numbers x) (operand_numbers y) (operand_lists x) (operand_lists y) h),
      operand p.c y p.second (right (operand_names x) (operand_names y) (operand_numbers x) (operand_numbers y) (operand_lists x) (operand_lists y) h),
      λ w e f. h.once [] [] [] w (ap₂ (λ (u v : Operand). operand_names u ++ operand_names v) e f),
    )

    side_sound : (ws : Words) (r : Right Operand) → IsRight Op ws r → Whole (inner r) → Sound (inner r)
    side_sound ws r h = go r (right_shape Operand Op ws r h)
      where
        go : (r : Right Operand) → RightShape Operand Op ws r → Whole (inner r) → Sound (inner r)
        go r (two {k = k} {x = x} {y = y} n p) u = let s = pair_sound x y p u in (plainly_paired k n p.plainly, s.0, s.1, s.2)
        go r (listed ns {x = x} {y = y} p d e) u =
            let s = pair_sound x y p (record { named = u.named; once = u.once; numbers = u.numbers; lists = λ h. u.lists (rw (← append_assoc) (some_left ListOutside (operand_lists x ++ operand_lists y) (map (value 0) ns ∷ []) h)) }) in
            (passes (is_list (map (value 0) ns)) (list_row (map (value 0) ns)) (λ f. u.lists (some_right ListOutside (operand_lists x) (operand_lists y ++ map (value 0) ns ∷ []) (some_last ListOutside (map (value 0) ns) (operand_lists y) f))), s.0, s.1, s.2)
        go r (waits {n = n} {a = a} {x = x} d p e) u = (passes _ (number_row 1_000_000 (value 0 n)) (λ f. u.numbers (here f)), operand a x p (right [] (operand_names x) (value 0 n ∷ []) (operand_numbers x) [] (operand_lists x) u))

    sound_form : (ws : Words) (f : Form Operand) → IsForm Op ws f → Unbroken (form_names f) (await_numbers f) (delay_lists f) → SoundForm f
    sound_form ws f h = go f (shape Operand Op ws f h)
      where
        go : (f : Form Operand) → Shape Operand Op ws f → Unbroken (form_names f) (await_numbers f) (delay_lists f) → SoundForm f
        go f (relation {x = x} {y = y} p) u = pair_sound x y p u
        go f (definition {c = c} {rs = rs} {r = r} n p e) u = (u.named.0, side_sound rs r p (right (c ∷ []) (side_names r) [] (operand_numbers (inner r)) [] (operand_lists (inner r)) u), u.once)

  -- level by level
  inside_sound : (Side : Words → Right Operand → Type 0) → ((ws : Words) (r : Right Operand) → Side ws r → Whole (inner r) → Sound (inner r))
      → (a : Words) (x : Operand) → IsOperandOf Side a x → Whole x → Sound x
  inside_sound Side side a x (one_name h) u = u.named.0
  inside_sound Side side a x (in_parentheses {ws = ws} {r = r} h) u = side ws r h u

  operand_sound : (l : ℕ) (a : Words) (x : Operand) → IsOperand l a x → Whole x → Sound x
  unfolding IsOperand
  operand_sound zero = inside_sound (λ ws r. ⊥) (λ ws r h. absurd h)
  operand_sound (suc l) = inside_sound (IsRight (IsOperand l)) (side_sound (IsOperand l) (operand_sound l))

  -- ---- a line
  pub line_sound : (above : List Line) (l : Line) (f : Form Operand) → BreaksNothing above l → HasForm l f → AllOf ns (form_names f) → SoundForm f
  line_sound above l f b h a = sound_form (IsOperand levels) (operand_sound levels) (words_of l) f h (record {
    named = a;
    once = λ us vs ws n e. b ClockTwice (name_twice us vs ws n (form_names_lem levels h ∙ e));
    numbers = λ s. b AwaitNumber (await_number_outside h s);
    lists = λ s. b DelayNumber (delay_list_outside h s);
  })
