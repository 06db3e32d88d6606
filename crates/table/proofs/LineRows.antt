-- The checks of one line's bytes and words, 11, 13, 14, 22 and 15, are asked of the bytes, the names, the await numbers and the lists of delays
-- that it has.
-- Assumes nothing.
use mathlib.Core.Path.{◌≡◌, refl, sym, ap, ◌∙◌}
use mathlib.Core.Logic.{◌↔◌}
use mathlib.Core.Bool.{Bool, true, false, not, cond, ◌&&◌, ◌||◌, true≢false, false≢true}
use mathlib.Core.List.{List, [], ◌∷◌, ◌++◌, map}
use Prim.Native.Nat.{ℕ, ◌-◌, ◌≤◌, ◌<◌}
use native.Mathlib.Omega.{arith}
use borrow.Author.Tests.{ltb-true, lt-ltb, leb-true, leb-false, eqb-true, eqb-false, not-true}
use lib.Dec.{leb, ltb, eqb}
use lib.ListN.{length}
use Rattle.constraint.proofs.Booleans.{and_l, and_r}
use Rattle.text.specs.Ascii.{ascii}
use Rattle.text.specs.Bytes.{in_class, all_bytes, same_bytes}
use Rattle.text.specs.Digits.{value}
use Rattle.text.specs.Split.{bytes_of, front}
use Rattle.text.specs.declared.Class.TheVariants.{Printable}
use Rattle.text.specs.declared.Span.{Span}
use Rattle.text.proofs.Bytes.{differ_same}
use Rattle.forms.specs.Forms.{Word, Words, one_of, is_name, is_digits, all_digits, both, awaits, delays, Form, relates, defines, Operand, name, both_inside, awaits_inside, delays_inside, IsOperand, levels, IsForm}
use Rattle.forms.specs.Lines.{names_in, operand_numbers, await_numbers, operand_lists, delay_lists, Some, ListOutside}
use Rattle.forms.proofs.FormLaws.{cut_above, run_value, await_value, listed_cut}
use Rattle.forms.proofs.FormShapes.{NoRun}
use Rattle.forms.proofs.FormWords.{plain_words, Counts, found_by_none, runs_pass, adds, adds_form, form_counts}
use Rattle.forms.proofs.SomeLaws.{or_true, any_of, some_row}
use Rattle.forms.proofs.Said.{said}
use Rattle.forms.proofs.SoundForms.{list_row}
use Rattle.forms.proofs.WordLaws.{digits_is, name_is}
use Rattle.grammar.specs.Grammar.{number_up_to, await_number, delay_numbers, is_list, listed}
use Rattle.grammar.specs.Tokens.{is, token_of, look_up}
use Rattle.grammar.specs.declared.Token.{Token}
use Rattle.grammar.specs.declared.Token.TheVariants.{Name, Digits, Await, For}
use Rattle.grammar.proofs.TokenLaws.{told_apart}
use Rattle.table.specs.Reader.{any_word, same_as, long_name, bad_number, bad_list, twice}
use mathlib.Core.Bool.{or-false, or_assoc}
use Rattle.forms.proofs.ClockNames.{same_turned, has, found}

-- ---- 11
bytes_any : (p : ℕ → Bool) (l : List ℕ) → not (all_bytes p l) ≡ any_of (λ b. not (p b)) l
unfolding all_bytes
bytes_any p [] = refl
bytes_any p (b ∷ bs) = go (p b) (bytes_any p bs)
  where
    go : (x : Bool) → not (all_bytes p bs) ≡ any_of (λ b. not (p b)) bs → not (x && all_bytes p bs) ≡ (not x || any_of (λ b. not (p b)) bs)
    go true ih = ih
    go false ih = refl

pub byte_row : (l : List ℕ) → (not (all_bytes (in_class Printable) l) ≡ true) ↔ Some (λ b. (leb 32 b && leb b 126) ≡ false) l
byte_row l = rw (bytes_any (in_class Printable) l) (some_row _ _ (λ b. (not-true (leb 32 b && leb b 126), λ e. rw e)) l)

-- ---- 14 and 22: in a line that has a form `await` stands before its number alone, and `for` before its list
abbrev first : Words → Word
first [] = []
first (w ∷ ws) = w

-- the digit runs in front, as they are read
runs_of : Words → List ℕ
runs_of [] = []
runs_of (w ∷ ws) = cond (is_digits w) (number_up_to 32 w ∷ runs_of ws) []

runs_of_lem : (ns us : Words) → all_digits ns ≡ true → NoRun us → runs_of (ns ++ us) ≡ map (cut_above 32) (map (value 0) ns)
unfolding runs_of
runs_of_lem [] [] d f = refl
runs_of_lem [] (u ∷ us) d f = rw f
runs_of_lem (n ∷ ns) us d f =
    let h : is_digits n ≡ true = and_l (is_digits n) (all_digits ns) d in
    rw (h, run_value 32 (omega arith) n h, runs_of_lem ns us (and_r (is_digits n) (all_digits ns) d) f)

-- a word of one kind, behind which words do not pass a test
found_in : Token → (Words → Bool) → Words → Bool
found_in k q [] = false
found_in k q (w ∷ ws) = is k (token_of w) && q ws || found_in k q ws

module _ (k : Token) (q : Words → Bool) where
  other_word : (w : Word) (ws : Words) → is k (token_of w) ≡ false → found_in k q (w ∷ ws) ≡ found_in k q ws
  unfolding found_in
  other_word w ws e = rw e

  this_word : (w : Word) (ws : Words) → is k (token_of w) ≡ true → found_in k q (w ∷ ws) ≡ (q ws || found_in k q ws)
  unfolding found_in
  this_word w ws e = rw e

  module _ (n : is k Name ≡ false) (d : is k Digits ≡ false) where
    name_other : (w : Word) (ws : Words) → is_name w ≡ true → found_in k q (w ∷ ws) ≡ found_in k q ws
    name_other w ws e = other_word w ws (told_apart Name k (token_of w) (name_is w ∙ e) ∙ n)

    run_other : (w : Word) (ws : Words) → is_digits w ≡ true → found_in k q (w ∷ ws) ≡ found_in k q ws
    run_other w ws e = other_word w ws (told_apart Digits k (token_of w) (digits_is w ∙ e) ∙ d)

abbrev bad_in : Words → Bool
bad_in = found_in Await (λ ws. eqb (await_number (first ws)) 0)

abbrev bad_list_in : Words → Bool
bad_list_in = found_in For (λ ws. eqb (length (listed (runs_of ws))) 0)

abbrev outside : ℕ → Bool
outside n = eqb (cond (leb n 1_000_000) n 0) 0

outside_row : (n : ℕ) → (outside n ≡ true) ↔ (1 ≤ n → n ≤ 1_000_000 → ⊥)
outside_row n = go (leb n 1_000_000) refl (eqb n 0) refl
  where
    go : (x : Bool) → leb n 1_000_000 ≡ x → (y : Bool) → eqb n 0 ≡ y → (eqb (cond x n 0) 0 ≡ true) ↔ (1 ≤ n → n ≤ 1_000_000 → ⊥)
    go true q true e = let z : n ≡ 0 = eqb-true n 0 e in (λ _ h k. omega arith, λ f. e)
    go true q false e =
        let h : n ≤ 1_000_000 = leb-true n 1_000_000 q in
        let z : n ≡ 0 → ⊥ = eqb-false n 0 e in
        (λ d. absurd (true≢false (sym d ∙ e)), λ f. absurd (f (omega arith) h))
    go false q y e = let h : 1_000_000 < n = leb-false n 1_000_000 q in (λ _ j k. omega arith, λ f. refl)

-- a list that is in range has a number
abbrev outside_list : List ℕ → Bool
outside_list ns = eqb (length (listed ns)) 0

some_number : (ns : List ℕ) → is_list ns ≡ true → length ns ≡ 0 → ⊥
some_number [] e z = false≢true e
some_number (n ∷ ns) e z = omega arith

outside_list_lem : (ns : List ℕ) → (outside_list ns ≡ true) ↔ ListOutside ns
outside_list_lem ns = go (is_list ns) refl (list_row ns)
  where
    go : (x : Bool) → is_list ns ≡ x → (is_list ns ≡ false) ↔ ListOutside ns → (eqb (length (cond x ns [])) 0 ≡ true) ↔ ListOutside ns
    go true e r = (λ z. absurd (some_number ns e (eqb-true (length ns) 0 z)), λ o. absurd (true≢false (sym e ∙ r.1 o)))
    go false e r = (λ z. r.0 e, λ o. refl)

any_append : {A : Type 0} (p : A → Bool) (xs ys : List A) (z : Bool) → (any_of p (xs ++ ys) || z) ≡ (any_of p xs || (any_of p ys || z))
any_append p [] ys z = refl
any_append p (x ∷ xs) ys z = or_assoc (p x) (any_of p (xs ++ ys)) z ∙ ap (λ (b : Bool). p x || b) (any_append p xs ys z) ∙ sym (or_assoc (p x) (any_of p xs) (any_of p ys || z))

unfoldable bad_counted : Counts bad_in
unfolding look_up same_bytes
bad_counted = record {
  named = λ n z. z;
  enclosed = λ z. z;
  awaited = λ n z. outside n || z;
  delayed = λ ns z. z;
  of_name = name_other Await _ refl refl;
  of_open = λ us. other_word Await _ (ascii "(") us refl;
  of_await = λ n us d. this_word Await _ (ascii "await") (n ∷ us) refl ∙ rw (await_value n d, run_other Await _ refl refl n us d);
  of_list = λ ns us d f. other_word Await _ (ascii "for") (ns ++ us) refl ∙ runs_pass bad_in (run_other Await _ refl refl) ns us d;
  passes = λ w us h. other_word Await _ w us (found_by_none (λ u. is Await (token_of u)) plain_words refl w h);
}

unfoldable lists_counted : Counts bad_list_in
unfolding look_up same_bytes
lists_counted = record {
  named = λ n z. z;
  enclosed = λ z. z;
  awaited = λ n z. z;
  delayed = λ ns z. outside_list ns || z;
  of_name = name_other For _ refl refl;
  of_open = λ us. other_word For _ (ascii "(") us refl;
  of_await = λ n us d. other_word For _ (ascii "await") (n ∷ us) refl ∙ run_other For _ refl refl n us d;
  of_list = λ ns us d f. this_word For _ (ascii "for") (ns ++ us) refl ∙ rw (runs_of_lem ns us d f, listed_cut (map (value 0) ns), runs_pass bad_list_in (run_other For _ refl refl) ns us d);
  passes = λ w us h. other_word For _ w us (found_by_none (λ u. is For (token_of u)) plain_words refl w h);
}

-- some of what either of two operands has
either_any : {A : Type 0} (p : A → Bool) (xs ys : List A) (a b z : Bool) → a ≡ (any_of p xs || b) → b ≡ (any_of p ys || z) → a ≡ (any_of p (xs ++ ys) || z)
either_any p xs ys a b z f g = f ∙ ap (λ (b : Bool). any_of p xs || b) g ∙ sym (any_append p xs ys z)

adds_bad : (x : Operand) (z : Bool) → adds bad_in bad_counted x z ≡ (any_of outside (operand_numbers x) || z)
unfolding bad_counted
adds_bad (name w) z = refl
adds_bad (both_inside k x y) z = either_any outside (operand_numbers x) (operand_numbers y) _ _ z (adds_bad x (adds bad_in bad_counted y z)) (adds_bad y z)
adds_bad (awaits_inside n x) z = ap (λ (b : Bool). outside n || b) (adds_bad x z) ∙ sym (or_assoc (outside n) (any_of outside (operand_numbers x)) z)
adds_bad (delays_inside ns x y) z = either_any outside (operand_numbers x) (operand_numbers y) _ _ z (adds_bad x (adds bad_in bad_counted y z)) (adds_bad y z)

adds_lists : (x : Operand) (z : Bool) → adds bad_list_in lists_counted x z ≡ (any_of outside_list (operand_lists x) || z)
unfolding lists_counted
adds_lists (name w) z = refl
adds_lists (both_inside k x y) z = either_any outside_list (operand_lists x) (operand_lists y) _ _ z (adds_lists x (adds bad_list_in lists_counted y z)) (adds_lists y z)
adds_lists (awaits_inside n x) z = adds_lists x z
adds_lists (delays_inside ns x y) z =
    let w : Bool = outside_list ns || z in
    either_any outside_list (operand_lists x) (operand_lists y ++ ns ∷ []) _ _ z (adds_lists x (adds bad_list_in lists_counted y w))
    (either_any outside_list (operand_lists y) (ns ∷ []) _ _ z (adds_lists y w) (ap (λ (b : Bool). b || z) (sym (or-false (outside_list ns)))))

form_bad : {ws : Words} {f : Form Operand} → IsForm (IsOperand levels) ws f → bad_in ws ≡ any_of outside (await_numbers f)
unfolding found_in bad_counted
form_bad {ws} {f} h = form_counts bad_in bad_counted levels ws f h ∙ go f
  where
    one : (x : Operand) → adds bad_in bad_counted x false ≡ any_of outside (operand_numbers x)
    one x = adds_bad x false ∙ or-false (any_of outside (operand_numbers x))

    two : (x y : Operand) → adds bad_in bad_counted x (adds bad_in bad_counted y false) ≡ any_of outside (operand_numbers x ++ operand_numbers y)
    two x y = either_any outside (operand_numbers x) (operand_numbers y) _ _ false (adds_bad x (adds bad_in bad_counted y false)) (adds_bad y false) ∙ or-false (any_of outside (operand_numbers x ++ operand_numbers y))

    go : (f : Form Operand) → adds_form bad_in bad_counted f false ≡ any_of outside (await_numbers f)
    go (relates k x y) = two x y
    go (defines c (both k x y)) = two x y
    go (defines c (awaits n x)) = ap (λ (b : Bool). outside n || b) (one x)
    go (defines c (delays ns x y)) = two x y

form_lists : {ws : Words} {f : Form Operand} → IsForm (IsOperand levels) ws f → bad_list_in ws ≡ any_of outside_list (delay_lists f)
unfolding found_in lists_counted
form_lists {ws} {f} h = form_counts bad_list_in lists_counted levels ws f h ∙ go f
  where
    one : (x : Operand) → adds bad_list_in lists_counted x false ≡ any_of outside_list (operand_lists x)
    one x = adds_lists x false ∙ or-false (any_of outside_list (operand_lists x))

    go : (f : Form Operand) → adds_form bad_list_in lists_counted f false ≡ any_of outside_list (delay_lists f)
    go (relates k x y) = either_any outside_list (operand_lists x) (operand_lists y) _ _ false (adds_lists x (adds bad_list_in lists_counted y false)) (adds_lists y false) ∙ or-false (any_of outside_list (operand_lists x ++ operand_lists y))
    go (defines c (both k x y)) = one (both_inside k x y)
    go (defines c (awaits n x)) = one (awaits_inside n x)
    go (defines c (delays ns x y)) = one (delays_inside ns x y)

-- ---- 15: a name that stands twice among others
twice_in : Words → Bool
twice_in [] = false
twice_in (n ∷ ns) = one_of ns n || twice_in ns

abbrev pub Again : Words → Type 0
Again ns = (a : Words) × (b : Words) × (d : Words) × (n : Word) × (ns ≡ a ++ n ∷ (b ++ n ∷ d))

twice_again : (ns : Words) → twice_in ns ≡ true → Again ns
unfolding twice_in
twice_again [] e = absurd (false≢true e)
twice_again (n ∷ ns) e = go (one_of ns n) refl e (twice_again ns)
  where
    go : (x : Bool) → one_of ns n ≡ x → (x || twice_in ns) ≡ true → (twice_in ns ≡ true → Again ns) → Again (n ∷ ns)
    go true q e ih = let h = found ns n q in ([], h.0, h.1, n, ap (λ (us : Words). n ∷ us) h.2)
    go false q e ih = let h = ih e in (n ∷ h.0, h.1, h.2, h.3, ap (λ (us : Words). n ∷ us) h.4)

again_twice : (a b d : Words) (n : Word) → twice_in (a ++ n ∷ (b ++ n ∷ d)) ≡ true
unfolding twice_in
again_twice [] b d n = rw (has b d n)
again_twice (x ∷ a) b d n = rw (again_twice a b d n) (or_true (one_of (a ++ n ∷ (b ++ n ∷ d)) x))

module _ (t : List ℕ) where
  -- ---- 13
  long_any : (ws : List Span) → any_word (long_name t) ws ≡ any_of (λ n. ltb 16 (length n)) (names_in (said t ws))
  unfolding any_word names_in
  long_any [] = refl
  long_any (w ∷ ws) = rw (name_is (bytes_of t w)) (go (is_name (bytes_of t w)) (long_any ws))
    where
      go : (x : Bool) → any_word (long_name t) ws ≡ any_of (λ n. ltb 16 (length n)) (names_in (said t ws))
          → (x && ltb 16 (length (bytes_of t w)) || any_word (long_name t) ws) ≡ any_of (λ n. ltb 16 (length n)) (cond x (bytes_of t w ∷ names_in (said t ws)) (names_in (said t ws)))
      go true ih = rw ih
      go false ih = ih

  pub long_row : (ws : List Span) → (any_word (long_name t) ws ≡ true) ↔ Some (λ n. 16 < length n) (names_in (said t ws))
  long_row ws = rw (long_any ws) (some_row _ _ (λ n. (ltb-true 16 (length n), lt-ltb 16 (length n))) (names_in (said t ws)))

  -- ---- 14
  first_bytes : (ws : List Span) → bytes_of t (front t ws) ≡ first (said t ws)
  unfolding front
  first_bytes [] = let z : length t - length t ≡ 0 = omega arith in rw z
  first_bytes (w ∷ ws) = refl

  bad_any : (ws : List Span) → any_word (bad_number t) ws ≡ bad_in (said t ws)
  unfolding any_word found_in
  bad_any [] = refl
  bad_any (w ∷ ws) = rw (first_bytes ws, bad_any ws)

  pub number_row : (ws : List Span) {f : Form Operand} → IsForm (IsOperand levels) (said t ws) f → (any_word (bad_number t) ws ≡ true) ↔ Some (λ n. 1 ≤ n → n ≤ 1_000_000 → ⊥) (await_numbers f)
  number_row ws {f} h = rw (bad_any ws, form_bad h) (some_row _ _ outside_row (await_numbers f))

  -- ---- 22
  runs_said : (ws : List Span) → delay_numbers t ws ≡ runs_of (said t ws)
  unfolding delay_numbers runs_of
  runs_said [] = refl
  runs_said (w ∷ ws) = rw (digits_is (bytes_of t w), runs_said ws)

  lists_any : (ws : List Span) → any_word (bad_list t) ws ≡ bad_list_in (said t ws)
  unfolding any_word found_in
  lists_any [] = refl
  lists_any (w ∷ ws) = rw (runs_said ws, lists_any ws)

  pub list_rows : (ws : List Span) {f : Form Operand} → IsForm (IsOperand levels) (said t ws) f → (any_word (bad_list t) ws ≡ true) ↔ Some ListOutside (delay_lists f)
  list_rows ws {f} h = rw (lists_any ws, form_lists h) (some_row _ _ outside_list_lem (delay_lists f))

  -- ---- 15
  same_any : (n : Word) → is_name n ≡ true → (ws : List Span) → any_word (same_as t n) ws ≡ one_of (names_in (said t ws)) n
  unfolding any_word names_in one_of
  same_any n m [] = refl
  same_any n m (w ∷ ws) = go (is_name (bytes_of t w)) refl (same_any n m ws)
    where
      go : (x : Bool) → is_name (bytes_of t w) ≡ x → any_word (same_as t n) ws ≡ one_of (names_in (said t ws)) n
          → (same_bytes (bytes_of t w) n || any_word (same_as t n) ws) ≡ one_of (cond x (bytes_of t w ∷ names_in (said t ws)) (names_in (said t ws))) n
      go true q ih = rw (same_turned (bytes_of t w) n, ih)
      go false q ih = rw (differ_same (bytes_of t w) n (λ e. true≢false (sym m ∙ ap is_name (sym e) ∙ q))) ih

  twice_any : (ws : List Span) → any_word (twice t) ws ≡ twice_in (names_in (said t ws))
  unfolding any_word names_in twice_in
  twice_any [] = refl
  twice_any (w ∷ ws) = rw (name_is (bytes_of t w)) (go (is_name (bytes_of t w)) refl (twice_any ws))
    where
      go : (x : Bool) → is_name (bytes_of t w) ≡ x → any_word (twice t) ws ≡ twice_in (names_in (said t ws))
          → (x && any_word (same_as t (bytes_of t w)) ws || any_word (twice t) ws) ≡ twice_in (cond x (bytes_of t w ∷ names_in (said t ws)) (names_in (said t ws)))
      go true q ih = rw (same_any (bytes_of t w) q ws, ih)
      go false q ih = ih

  pub twice_row : (ws : List Span) → (any_word (twice t) ws ≡ true) ↔ Again (names_in (said t ws))
  twice_row ws = rw (twice_any ws) (twice_again (names_in (said t ws)), λ h. ap twice_in h.4 ∙ again_twice h.0 h.1 h.2 h.3)
