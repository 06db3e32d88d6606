-- A line has no words exactly when it is of spaces alone, and breaks nothing then. Assumes nothing.
use mathlib.Core.Path.{◌≡◌, refl, sym, ap, ◌∙◌}
use mathlib.Core.Bool.{Bool, true, false, cond, ◌&&◌, ◌||◌, true≢false}
use mathlib.Core.List.{List, [], ◌∷◌, ◌++◌}
use Prim.Native.Nat.{ℕ}
use native.Mathlib.Omega.{arith}
use borrow.Author.Tests.{eqb-true}
use lib.Dec.{eqb, leb}
use Rattle.limit.specs.declared.Limit.{Limit}
use Rattle.constraint.proofs.Booleans.{and_l, and_r}
use Rattle.text.specs.Bytes.{all_bytes}
use Rattle.forms.specs.Forms.{Words, Line, grow, parts, nonempty, words_of, Form, IsForm, coincides, excludes, sub_clock, strictly_precedes, precedes, clock_def}
use Rattle.forms.specs.Lines.{names_in, Some, here, later, Filled, opened, too_deep, unpaired, Breaks, byte_outside, nested_too_deep, no_partner, fits_no_form, name_too_long, await_number_outside, delay_list_outside, name_twice, defined_above, too_many_clocks, too_many_constraints, BreaksNothing}
use Rattle.forms.proofs.SomeLaws.{some_none}

-- ---- the words of a line of spaces, and of another
abbrev pub space : ℕ → Bool
space b = eqb b 32

abbrev pub paren : ℕ → Bool
paren b = eqb b 40 || eqb b 41

pub blank_words : (l : Line) → all_bytes space l ≡ true → words_of l ≡ []
unfolding all_bytes parts nonempty
blank_words [] e = refl
blank_words (b ∷ bs) e = rw (and_l (space b) (all_bytes space bs) e) (blank_words bs (and_r (space b) (all_bytes space bs) e))

pub some_part : (sep alone : ℕ → Bool) (l : Line) → parts sep alone l ≡ [] → ⊥
unfolding parts grow
some_part sep alone [] e = let z : ◌≡◌ {A = ℕ} 0 1 = cc in omega arith
some_part sep alone (b ∷ bs) e = go (sep b) (alone b) (parts sep alone bs) (some_part sep alone bs) e
  where
    go : (x y : Bool) (ps : List (List ℕ)) → (ps ≡ [] → ⊥) → cond x ([] ∷ ps) (cond y ([] ∷ (b ∷ []) ∷ ps) (grow b ps)) ≡ [] → ⊥
    go true y ps f e = let z : ◌≡◌ {A = ℕ} 0 1 = cc in omega arith
    go false true ps f e = let z : ◌≡◌ {A = ℕ} 0 1 = cc in omega arith
    go false false [] f e = f refl
    go false false (p ∷ ps) f e = let z : ◌≡◌ {A = ℕ} 0 1 = cc in omega arith

pub other_words : (l : Line) → all_bytes space l ≡ false → Filled l
unfolding all_bytes parts nonempty grow
other_words [] e = absurd (true≢false e)
other_words (b ∷ bs) e = go (space b) (paren b) (parts space paren bs) (some_part space paren bs) e (other_words bs)
  where
    go : (x y : Bool) (ps : List (List ℕ)) → (ps ≡ [] → ⊥) → (x && all_bytes space bs) ≡ false → (all_bytes space bs ≡ false → nonempty ps ≡ [] → ⊥)
        → nonempty (cond x ([] ∷ ps) (cond y ([] ∷ (b ∷ []) ∷ ps) (grow b ps))) ≡ [] → ⊥
    go true y ps f e ih q = ih e q
    go false true ps f e ih q = let z : ◌≡◌ {A = ℕ} 0 1 = cc in omega arith
    go false false [] f e ih q = f refl
    go false false (p ∷ ps) f e ih q = let z : ◌≡◌ {A = ℕ} 0 1 = cc in omega arith

-- ---- what such a line could break
no_cons : {A : Type 0} (a : List A) (x : A) (b : List A) → a ++ x ∷ b ≡ [] → ⊥
no_cons [] x b e = let z : ◌≡◌ {A = ℕ} 0 1 = cc in omega arith
no_cons (y ∷ a) x b e = let z : ◌≡◌ {A = ℕ} 0 1 = cc in omega arith

pub form_filled : {O : Type 0} {Op : Words → O → Type 0} {ws : Words} {f : Form O} → IsForm Op ws f → ws ≡ [] → ⊥
form_filled (coincides {a = a} {b = b} p q) e = no_cons a _ b e
form_filled (excludes {a = a} {b = b} p q) e = no_cons a _ b e
form_filled (sub_clock {a = a} {b = b} p q) e = no_cons a _ b e
form_filled (strictly_precedes {a = a} {b = b} p q) e = no_cons a _ (_ ∷ b) e
form_filled (precedes {a = a} {b = b} p q) e = no_cons a _ b e
form_filled (clock_def {c = c} {ws = ws} n p) e = no_cons [] c (_ ∷ ws) e

space_inside : (l : Line) → all_bytes space l ≡ true → Some (λ b. (leb 32 b && leb b 126) ≡ false) l → ⊥
unfolding all_bytes
space_inside _ e (here {x = b} {xs = bs} h) = true≢false (ap (λ (c : ℕ). leb 32 c && leb c 126) (sym (eqb-true b 32 (and_l (space b) (all_bytes space bs) e))) ∙ h)
space_inside _ e (later {x = b} {xs = bs} s) = space_inside bs (and_r (space b) (all_bytes space bs) e) s

space_opens : (b : ℕ) → space b ≡ true → opened 0 b ≡ 0
space_opens b e = rw (eqb-true b 32 e)

space_shallow : (l : Line) → all_bytes space l ≡ true → too_deep 0 l ≡ false
unfolding all_bytes too_deep
space_shallow [] e = refl
space_shallow (b ∷ bs) e = rw (space_opens b (and_l (space b) (all_bytes space bs) e)) (space_shallow bs (and_r (space b) (all_bytes space bs) e))

space_paired : (l : Line) → all_bytes space l ≡ true → unpaired 0 l ≡ false
unfolding all_bytes unpaired
space_paired [] e = refl
space_paired (b ∷ bs) e = rw (eqb-true b 32 (and_l (space b) (all_bytes space bs) e)) (space_paired bs (and_r (space b) (all_bytes space bs) e))

pub blank_breaks_nothing : (above : List Line) (l : Line) → all_bytes space l ≡ true → BreaksNothing above l
blank_breaks_nothing above l e m b = go (blank_words l e) b
  where
    names : words_of l ≡ [] → names_in (words_of l) ≡ []
    names q = ap names_in q ∙ unfold names_in in refl

    go : {m : Limit} → words_of l ≡ [] → Breaks above l m → ⊥
    go q (byte_outside s) = space_inside l e s
    go q (nested_too_deep h) = true≢false (sym h ∙ space_shallow l e)
    go q (no_partner h) = true≢false (sym h ∙ space_paired l e)
    go q (fits_no_form f n) = f q
    go q (name_too_long s) = some_none _ (names_in (words_of l)) (names q) s
    go q (await_number_outside h s) = form_filled h q
    go q (delay_list_outside h s) = form_filled h q
    go q (name_twice a b d n w) = no_cons a n _ (sym w ∙ names q)
    go q (defined_above d s) = form_filled d.1 q
    go q (too_many_clocks f h) = f q
    go q (too_many_constraints f h) = f q
