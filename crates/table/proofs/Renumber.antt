-- Records whose implicit clocks begin at 32 are, renumbered, those whose implicit clocks begin behind the names. Assumes nothing.
use mathlib.Core.Path.{◌≡◌, refl, ap, ◌∙◌}
use mathlib.Core.Bool.{true}
use mathlib.Core.List.{List, [], ◌∷◌, ◌++◌, map, map-append}
use Prim.Native.Nat.{ℕ, ◌+◌, ◌≤◌, ◌<◌}
use native.Mathlib.Omega.{arith}
use borrow.Author.Tests.{lt-ltb, le-ltb}
use lib.ListN.{length}
use Rattle.constraint.specs.declared.Constraint.{Constraint}
use Rattle.grammar.specs.Building.{renumber, renumbered}
use Rattle.forms.specs.Forms.{Word, Words, one_of, Right, both, awaits, delays, Form, relates, defines, Operand, name, both_inside, awaits_inside, delays_inside}
use Rattle.forms.specs.Lines.{standing, implicits, clock_of, side_record, operand_records, form_records, own_record, records_of}
use Rattle.forms.proofs.ClockNames.{AllOf, all_left, all_right, standing_below}
use Rattle.forms.proofs.FormWords.{operand_names, side_names, form_names}

module _ (vs : Words) (few : length vs ≤ 32) (n : ℕ) where
  abbrev N : ℕ
  N = length vs

  name_still : (w : Word) → one_of vs w ≡ true → renumber N (standing vs w) ≡ standing vs w
  name_still w e =
      let h : standing vs w < length vs = standing_below vs w e in
      rw (lt-ltb (standing vs w) 32 (omega arith))

  implicit_moved : (j : ℕ) → renumber N (32 + j) ≡ N + j
  implicit_moved j = rw (le-ltb (32 + j) 32 (omega arith)) (omega arith)

  clock_renumbered : (k : ℕ) (x : Operand) → AllOf vs (operand_names x) → renumber N (clock_of vs 32 n k x) ≡ clock_of vs N n k x
  clock_renumbered k (name w) a = name_still w a.0
  clock_renumbered k (both_inside d x y) a = implicit_moved (k + (implicits x + implicits y))
  clock_renumbered k (awaits_inside m x) a = implicit_moved (k + implicits x)
  clock_renumbered k (delays_inside ms x y) a = implicit_moved (k + (implicits x + implicits y))

  side_renumbered : (k c e : ℕ) (r : Right Operand) → AllOf vs (side_names r) → renumber N c ≡ e → renumbered N (side_record vs 32 n k c r) ≡ side_record vs N n k e r
  side_renumbered k c e (both d x y) a q = rw (q, clock_renumbered k x (all_left vs (operand_names x) (operand_names y) a), clock_renumbered (k + implicits x) y (all_right vs (operand_names x) (operand_names y) a))
  side_renumbered k c e (awaits m x) a q = rw (q, clock_renumbered k x a)
  side_renumbered k c e (delays ms x y) a q = rw (q, clock_renumbered k x (all_left vs (operand_names x) (operand_names y) a), clock_renumbered (k + implicits x) y (all_right vs (operand_names x) (operand_names y) a))

  two_renumbered : (ps qs rs ss : List Constraint) → map (renumbered N) ps ≡ rs → map (renumbered N) qs ≡ ss → map (renumbered N) (ps ++ qs) ≡ rs ++ ss
  two_renumbered ps qs rs ss p q = map-append (renumbered N) ps qs ∙ (λ i. p i ++ q i)

  one_renumbered : (rs ss : List Constraint) (r q : Constraint) → map (renumbered N) rs ≡ ss → renumbered N r ≡ q → map (renumbered N) (rs ++ r ∷ []) ≡ ss ++ q ∷ []
  one_renumbered rs ss r q p e = two_renumbered rs (r ∷ []) ss (q ∷ []) p (ap (λ (z : Constraint). z ∷ []) e)

  -- the records of two operands
  abbrev pair_at : (from k : ℕ) (x y : Operand) → List Constraint
  pair_at from k x y = operand_records vs from n k x ++ operand_records vs from n (k + implicits x) y

  abbrev Renumbered : Operand → Type 0
  Renumbered x = (k : ℕ) → AllOf vs (operand_names x) → map (renumbered N) (operand_records vs 32 n k x) ≡ operand_records vs N n k x

  pair_renumbered : (k : ℕ) (x y : Operand) → Renumbered x → Renumbered y → AllOf vs (operand_names x ++ operand_names y) → map (renumbered N) (pair_at 32 k x y) ≡ pair_at N k x y
  pair_renumbered k x y f g a =
      two_renumbered (operand_records vs 32 n k x) (operand_records vs 32 n (k + implicits x) y) (operand_records vs N n k x) (operand_records vs N n (k + implicits x) y)
      (f k (all_left vs (operand_names x) (operand_names y) a)) (g (k + implicits x) (all_right vs (operand_names x) (operand_names y) a))

  -- a right side in parentheses, m implicit clocks standing in it
  inside_renumbered : (k m : ℕ) (r : Right Operand) (rs ss : List Constraint) → AllOf vs (side_names r) → map (renumbered N) rs ≡ ss
      → map (renumbered N) (rs ++ side_record vs 32 n k (32 + (k + m)) r ∷ []) ≡ ss ++ side_record vs N n k (N + (k + m)) r ∷ []
  inside_renumbered k m r rs ss a e =
      one_renumbered rs ss (side_record vs 32 n k (32 + (k + m)) r) (side_record vs N n k (N + (k + m)) r) e (side_renumbered k (32 + (k + m)) (N + (k + m)) r a (implicit_moved (k + m)))

  operand_renumbered : (x : Operand) → Renumbered x
  operand_renumbered (name w) k a = refl
  operand_renumbered (both_inside d x y) k a = inside_renumbered k (implicits x + implicits y) (both d x y) (pair_at 32 k x y) (pair_at N k x y) a (pair_renumbered k x y (operand_renumbered x) (operand_renumbered y) a)
  operand_renumbered (awaits_inside m x) k a = inside_renumbered k (implicits x) (awaits m x) (operand_records vs 32 n k x) (operand_records vs N n k x) a (operand_renumbered x k a)
  operand_renumbered (delays_inside ms x y) k a = inside_renumbered k (implicits x + implicits y) (delays ms x y) (pair_at 32 k x y) (pair_at N k x y) a (pair_renumbered k x y (operand_renumbered x) (operand_renumbered y) a)

  both_renumbered : (k : ℕ) (x y : Operand) → AllOf vs (operand_names x ++ operand_names y) → map (renumbered N) (pair_at 32 k x y) ≡ pair_at N k x y
  both_renumbered k x y = pair_renumbered k x y (operand_renumbered x) (operand_renumbered y)

  form_renumbered : (k : ℕ) (f : Form Operand) → AllOf vs (form_names f) → (map (renumbered N) (form_records vs 32 n k f) ≡ form_records vs N n k f) × (renumbered N (own_record vs 32 n k f) ≡ own_record vs N n k f)
  form_renumbered k (relates j x y) a = (both_renumbered k x y a, rw (clock_renumbered k x (all_left vs (operand_names x) (operand_names y) a), clock_renumbered (k + implicits x) y (all_right vs (operand_names x) (operand_names y) a)))
  form_renumbered k (defines c (both j x y)) a = (both_renumbered k x y a.1, side_renumbered k (standing vs c) _ (both j x y) a.1 (name_still c a.0))
  form_renumbered k (defines c (awaits m x)) a = (operand_renumbered x k a.1, side_renumbered k (standing vs c) _ (awaits m x) a.1 (name_still c a.0))
  form_renumbered k (defines c (delays ms x y)) a = (both_renumbered k x y a.1, side_renumbered k (standing vs c) _ (delays ms x y) a.1 (name_still c a.0))

  pub records_renumbered : (k : ℕ) (f : Form Operand) → AllOf vs (form_names f) → map (renumbered N) (records_of vs 32 n k f) ≡ records_of vs N n k f
  records_renumbered k f a =
      let e = form_renumbered k f a in
      one_renumbered (form_records vs 32 n k f) (form_records vs N n k f) (own_record vs 32 n k f) (own_record vs N n k f) e.0 e.1
