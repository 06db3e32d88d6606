-- The names of a line that has a form stand among the names of the lines; so a clock that a line defines has a number from that line on, and more
-- names keep the records. Assumes nothing.
use mathlib.Core.Path.{◌≡◌, refl, subst}
use mathlib.Core.Bool.{true}
use mathlib.Core.List.{List, [], ◌∷◌, ◌++◌}
use Prim.Native.Nat.{ℕ, ◌+◌}
use Rattle.forms.specs.Forms.{Words, Line, Word, words_of, one_of, both, awaits, delays, Form, relates, defines, Operand, name, both_inside, awaits_inside, delays_inside, levels, HasForm}
use Rattle.forms.specs.Lines.{names_in, with_names, with_lines, clock_names, Some, here, later, DefinesClock, implicits, clock_of, operand_records, records_of}
use Rattle.forms.proofs.ClockNames.{Keeps, AllOf, all_left, all_right, all_kept, names_have, lines_keep, names_more}
use Rattle.forms.proofs.FormWords.{operand_names, form_names, form_names_lem}

-- ---- they are all among the names with those of the line
form_named : (us : Words) (l : Line) (f : Form Operand) → HasForm l f → AllOf (with_names us (names_in (words_of l))) (form_names f)
form_named us l f h = subst (AllOf (with_names us (names_in (words_of l)))) (form_names_lem levels h) (names_have us (names_in (words_of l)))

pub line_named : (above : List Line) (l : Line) (f : Form Operand) → HasForm l f → AllOf (clock_names (above ++ l ∷ [])) (form_names f)
line_named above l f h = rw (names_more [] above l) (form_named (clock_names above) l f h)

-- and among those with more lines below it
pub lines_named : (us : Words) (l : Line) (ls : List Line) (f : Form Operand) → HasForm l f → AllOf (with_lines us (l ∷ ls)) (form_names f)
unfolding with_lines
lines_named us l ls f h = let vs = with_names us (names_in (words_of l)) in all_kept vs (with_lines vs ls) (form_names f) (lines_keep vs ls) (form_named us l f h)

-- a clock that some line defines is among the names of the lines
named_below : (c : Word) (us : Words) (ls : List Line) → Some (DefinesClock c) ls → one_of (with_lines us ls) c ≡ true
unfolding with_lines
named_below c us _ (here {x = l} {xs = ls} d) = (lines_named us l ls (defines c d.0) d.1).0
named_below c us _ (later {x = l} {xs = ls} s) = named_below c (with_names us (names_in (words_of l))) ls s

pub defined_named : (us : Words) (ls : List Line) (c : Word) → Some (DefinesClock c) ls → one_of (with_lines us ls) c ≡ true
defined_named us ls c s = named_below c us ls s

-- ---- names that keep the numbers keep the records
module _ (us vs : Words) (e : Keeps us vs) (from n : ℕ) where
  clock_kept : (k : ℕ) (x : Operand) → AllOf us (operand_names x) → clock_of vs from n k x ≡ clock_of us from n k x
  clock_kept k (name w) a = (e w a.0).1
  clock_kept k (both_inside d x y) a = refl
  clock_kept k (awaits_inside m x) a = refl
  clock_kept k (delays_inside ms x y) a = refl

  both_kept : (k c : ℕ) (x y : Operand) → AllOf us (operand_names x ++ operand_names y) → (clock_of vs from n k x ≡ clock_of us from n k x) × (clock_of vs from n (k + implicits x) y ≡ clock_of us from n (k + implicits x) y)
  both_kept k c x y a = (clock_kept k x (all_left us (operand_names x) (operand_names y) a), clock_kept (k + implicits x) y (all_right us (operand_names x) (operand_names y) a))

  operand_kept : (k : ℕ) (x : Operand) → AllOf us (operand_names x) → operand_records vs from n k x ≡ operand_records us from n k x
  operand_kept k (name w) a = refl
  operand_kept k (both_inside d x y) a =
      let p = both_kept k 0 x y a in
      rw (p.0, p.1, operand_kept k x (all_left us (operand_names x) (operand_names y) a), operand_kept (k + implicits x) y (all_right us (operand_names x) (operand_names y) a))
  operand_kept k (awaits_inside m x) a = rw (clock_kept k x a, operand_kept k x a)
  operand_kept k (delays_inside ms x y) a =
      let p = both_kept k 0 x y a in
      rw (p.0, p.1, operand_kept k x (all_left us (operand_names x) (operand_names y) a), operand_kept (k + implicits x) y (all_right us (operand_names x) (operand_names y) a))

  pub records_kept : (k : ℕ) (f : Form Operand) → AllOf us (form_names f) → records_of vs from n k f ≡ records_of us from n k f
  records_kept k (relates j x y) a =
      let p = both_kept k 0 x y a in
      rw (p.0, p.1, operand_kept k x (all_left us (operand_names x) (operand_names y) a), operand_kept (k + implicits x) y (all_right us (operand_names x) (operand_names y) a))
  records_kept k (defines c (both j x y)) a =
      let p = both_kept k 0 x y a.1 in
      rw ((e c a.0).1, p.0, p.1, operand_kept k x (all_left us (operand_names x) (operand_names y) a.1), operand_kept (k + implicits x) y (all_right us (operand_names x) (operand_names y) a.1))
  records_kept k (defines c (awaits m x)) a = rw ((e c a.0).1, clock_kept k x a.1, operand_kept k x a.1)
  records_kept k (defines c (delays ms x y)) a =
      let p = both_kept k 0 x y a.1 in
      rw ((e c a.0).1, p.0, p.1, operand_kept k x (all_left us (operand_names x) (operand_names y) a.1), operand_kept (k + implicits x) y (all_right us (operand_names x) (operand_names y) a.1))
