-- The records of lines that break nothing pass 59. Record by record: the clocks that it uses are named, or implicit and defined above it; its clocks
-- are all different; and no record above it defines the clock that it defines. Assumes nothing.
use mathlib.Core.Path.{◌≡◌, refl, sym, ap, ap₂, subst, ◌∙◌}
use mathlib.Core.Bool.{Bool, true, false, ◌||◌, or-false, false≢true}
use mathlib.Core.List.{List, [], ◌∷◌, ◌++◌, append_assoc, append-nil}
use Prim.Native.Nat.{ℕ, ◌+◌, ◌-◌, ◌≤◌, ◌<◌}
use native.Mathlib.Omega.{arith}
use borrow.Author.Tests.{ltb-true, ltb-false, lt-ltb, le-ltb, le-leb, eqb-true, eqb-false, ne_eqb}
use lib.Dec.{ltb, eqb}
use lib.ListN.{length, length-append}
use Rattle.limit.specs.declared.Limit.TheVariants.{DefinedTwice}
use Rattle.constraint.specs.Lists.{all_known, first_unfit, broken_record}
use Rattle.constraint.specs.Meaning.{counter_of, defined_of, used_of, all_below, among, distinct, parameter_fits, clocks_fit, well_formed}
use Rattle.constraint.specs.Ticks.{none, any}
use Rattle.std.specs.Prelude.{None}
use Rattle.constraint.specs.declared.Clocks.{Clocks}
use Rattle.constraint.specs.declared.Constraint.{Constraint}
use Rattle.constraint.proofs.Booleans.{and_l, and_r}
use Rattle.constraint.proofs.Named.{arity, paired_operands, paired_fits, relation_fits}
use Rattle.constraint.proofs.OneMore.{defined_in, defined_more, fits_more, none_among, below_more, clocks_more}
use Rattle.forms.specs.Forms.{Word, Words, Line, words_of, one_of, Right, both, awaits, delays, Form, relates, defines, Operand, name, both_inside, awaits_inside, delays_inside, inner, levels, HasForm}
use Rattle.forms.specs.Lines.{names_in, pairs_in, with_names, with_lines, clock_names, pairs, Some, DefinesClock, defined_above, BreaksNothing, NothingBroken, standing, implicits, side_implicits, form_implicits, clock_of, side_record, operand_records, side_records, records_of, Recorded, no_line, blank, formed}
use Rattle.forms.proofs.ClockNames.{AllOf, standing_below, standing_one}
use Rattle.forms.proofs.FormNames.{lines_named}
use Rattle.forms.proofs.FormWords.{operand_names, side_names, form_names, form_pairs}
use Rattle.forms.proofs.SomeLaws.{some_more, some_last}
use Rattle.forms.proofs.SoundForms.{NoneTwice, Differ, Sound, SoundForm, line_sound}

module _ (ns : Words) where
  -- the number of the first implicit clock; all names, and k implicit clocks
  abbrev from : ℕ
  from = length ns

  abbrev counted : ℕ → Clocks
  counted k = record { named = from; count = from + k }

  -- ---- records that pass: of the implicit clocks they define the first k, and of the names only those that the lines above define
  record Passing (above : List Line) (k : ℕ) (qs : List Constraint) : Type 0 where
    fit : length qs ≤ 64 → first_unfit (counted k) none 1 qs ≡ None
    implicit : (j : ℕ) → defined_in none qs (from + j) ≡ ltb j k
    named : (c : Word) → one_of ns c ≡ true → defined_in none qs (standing ns c) ≡ true → Some (DefinesClock c) above

  none_passing : Passing [] 0 []
  none_passing = record { fit = λ h. refl; implicit = λ j. sym (le-ltb j 0 (omega arith)); named = λ c o e. absurd (false≢true e) }

  line_more : {above : List Line} {k : ℕ} {qs : List Constraint} (l : Line) → Passing above k qs → Passing (above ++ l ∷ []) k qs
  line_more {above} l p = record { fit = p.fit; implicit = p.implicit; named = λ c o e. some_more (DefinesClock c) l above (p.named c o e) }

  -- a record more: its operands are named clocks, or of the first k implicit ones
  record Fitting (k : ℕ) (r : Constraint) : Type 0 where
    uses : clocks_fit (from + k) (used_of r) ≡ true
    number : parameter_fits (counter_of r.kind) ≡ true

  module _ {above : List Line} {k : ℕ} {qs : List Constraint} (p : Passing above k qs) (r : Constraint) (f : Fitting k r) where
    below : all_below (from + k) (used_of r) ≡ true
    below = and_l (all_below (from + k) (used_of r)) (distinct (used_of r)) f.uses

    differ : distinct (used_of r) ≡ true
    differ = and_r (all_below (from + k) (used_of r)) (distinct (used_of r)) f.uses

    known : (is : List ℕ) → all_below (from + k) is ≡ true → all_known from (defined_in none qs) is ≡ true
    known [] e = refl
    known (i ∷ is) e = rw (go (ltb i from) refl, known is (and_r (ltb i (from + k)) (all_below (from + k) is) e))
      where
        go : (x : Bool) → ltb i from ≡ x → (x || defined_in none qs i) ≡ true
        go true q = refl
        go false q =
            let a : from ≤ i = ltb-false i from q in
            let b : i < from + k = ltb-true i (from + k) (and_l (ltb i (from + k)) (all_below (from + k) is) e) in
            let s : from + (i - from) ≡ i = omega arith in
            ap (defined_in none qs) (sym s) ∙ p.implicit (i - from) ∙ lt-ltb (i - from) k (omega arith)

    fits_next : (m : ℕ) → k ≤ m → well_formed (from + m) r ≡ true → any (defined_in none qs) (defined_of r) ≡ false → length (qs ++ r ∷ []) ≤ 64 → first_unfit (counted m) none 1 (qs ++ r ∷ []) ≡ None
    fits_next m h w d l =
        let s : length qs + 1 ≤ 64 = omega (arith, simp length-append at l) in
        fits_more (counted m) none 1 qs r (clocks_more (counted k) (counted m) (omega arith) (omega arith) none 1 qs (p.fit (omega arith))) (omega arith) w d (known (used_of r) below)

    -- a relation
    relation_more : defined_of r ≡ [] → Passing above k (qs ++ r ∷ [])
    relation_more d = record {
      fit = fits_next k (omega arith) (rw (d, f.uses, f.number)) (rw d);
      implicit = rw (defined_more none qs r, d) p.implicit;
      named = rw (defined_more none qs r, d) p.named;
    }

    -- a definition of a clock c that is not defined yet
    module _ (c : ℕ) (d : defined_of r ≡ c ∷ []) where
      defined_fits : (m : ℕ) → k ≤ m → c < from + m → defined_in none qs c ≡ false → among c (used_of r) ≡ false → length (qs ++ r ∷ []) ≤ 64 → first_unfit (counted m) none 1 (qs ++ r ∷ []) ≡ None
      defined_fits m h l n o = fits_next m h (rw (d, lt-ltb c (from + m) l, below_more (from + k) (from + m) (omega arith) (used_of r) below, o, differ, f.number)) (rw (d, n))

      defined_now : (i : ℕ) → defined_in none (qs ++ r ∷ []) i ≡ (defined_in none qs i || eqb i c)
      defined_now i = rw (defined_more none qs r, d)

      not_now : (i : ℕ) → (i ≡ c → ⊥) → defined_in none (qs ++ r ∷ []) i ≡ defined_in none qs i
      not_now i n = defined_now i ∙ rw (ne_eqb i c n, or-false)

    -- of the implicit clock that is next
    implicit_more : defined_of r ≡ (from + k) ∷ [] → Passing above (k + 1) (qs ++ r ∷ [])
    implicit_more d = record {
      fit = defined_fits (from + k) d (k + 1) (omega arith) (omega arith) (p.implicit k ∙ le-ltb k k (omega arith)) (none_among (from + k) (from + k) (used_of r) (omega arith) below);
      implicit = λ j. defined_now (from + k) d (from + j) ∙ ap (λ (x : Bool). x || eqb (from + j) (from + k)) (p.implicit j) ∙ go j (ltb j k) (eqb (from + j) (from + k)) refl refl;
      named = λ c o e. p.named c o (sym (not_now (from + k) d (standing ns c) (λ q. omega (arith, standing_below ns c o))) ∙ e);
    }
      where
        go : (j : ℕ) (x y : Bool) → ltb j k ≡ x → eqb (from + j) (from + k) ≡ y → (x || y) ≡ ltb j (k + 1)
        go j true y s t = sym (lt-ltb j (k + 1) (omega (arith, ltb-true j k s)))
        go j false true s t = sym (lt-ltb j (k + 1) (omega (arith, eqb-true (from + j) (from + k) t)))
        go j false false s t =
            let a : j ≡ k → ⊥ = λ q. eqb-false (from + j) (from + k) t (omega arith) in
            sym (le-ltb j (k + 1) (omega (arith, ltb-false j k s)))

    -- of a name that no line above defines, and this line does
    named_more : (c : Word) (l : Line) → one_of ns c ≡ true → DefinesClock c l → (Some (DefinesClock c) above → ⊥) → defined_of r ≡ standing ns c ∷ [] → among (standing ns c) (used_of r) ≡ false
        → Passing (above ++ l ∷ []) k (qs ++ r ∷ [])
    named_more c l o g n d a = record {
      fit = defined_fits (standing ns c) d k (omega arith) (omega (arith, standing_below ns c o)) (fresh (defined_in none qs (standing ns c)) refl) a;
      implicit = λ j. not_now (standing ns c) d (from + j) (λ q. omega (arith, standing_below ns c o)) ∙ p.implicit j;
      named = λ w i e. go w i (defined_in none qs (standing ns w)) refl (sym (defined_now (standing ns c) d (standing ns w)) ∙ e);
    }
      where
        fresh : (x : Bool) → defined_in none qs (standing ns c) ≡ x → x ≡ false
        fresh true e = absurd (n (p.named c o e))
        fresh false e = refl

        go : (w : Word) → one_of ns w ≡ true → (x : Bool) → defined_in none qs (standing ns w) ≡ x → (x || eqb (standing ns w) (standing ns c)) ≡ true → Some (DefinesClock w) (above ++ l ∷ [])
        go w i true q e = some_more (DefinesClock w) l above (p.named w i q)
        go w i false q e = some_last (DefinesClock w) l above (subst (λ (v : Word). DefinesClock v l) (standing_one ns c w o i (sym (eqb-true (standing ns w) (standing ns c) e))) g)

  -- as many clocks and the same records, written otherwise
  moved : {above : List Line} {k m : ℕ} {qs rs : List Constraint} → k ≡ m → qs ≡ rs → Passing above k qs → Passing above m rs
  moved {above} {m = m} {qs = qs} e q p = subst (Passing above m) q (subst (λ (j : ℕ). Passing above j qs) e p)

  -- ---- the clocks of operands on line n, k implicit clocks standing before them: all are below the implicit clocks behind them, and two differ
  module _ (n : ℕ) where
    abbrev clock : (k : ℕ) → Operand → ℕ
    clock k x = clock_of ns from n k x

    data Stands (k : ℕ) (x : Operand) : ℕ → Type 0 where
      a_name : {w : Word} → x ≡ name w → one_of ns w ≡ true → Stands k x (standing ns w)
      an_implicit : (j : ℕ) → k ≤ j → j < k + implicits x → Stands k x (from + j)

    stands : (k : ℕ) (x : Operand) → Sound ns x → Stands k x (clock k x)
    stands k (name w) s = a_name refl s
    stands k (both_inside d x y) s = an_implicit (k + (implicits x + implicits y)) (omega arith) (omega arith)
    stands k (delays_inside ms x y) s = an_implicit (k + (implicits x + implicits y)) (omega arith) (omega arith)
    stands k (awaits_inside m x) s = an_implicit (k + implicits x) (omega arith) (omega arith)

    clock_below : (k : ℕ) (x : Operand) → Sound ns x → clock k x < from + (k + implicits x)
    clock_below k x s = go (stands k x s)
      where
        go : {c : ℕ} → Stands k x c → c < from + (k + implicits x)
        go (a_name {w = w} e o) = omega (arith, standing_below ns w o)
        go (an_implicit j a b) = omega arith

    clocks_differ : (k m : ℕ) (x y : Operand) → k + implicits x ≤ m → Sound ns x → Sound ns y → Differ x y → eqb (clock k x) (clock m y) ≡ false
    clocks_differ k m x y h s t d = ne_eqb _ _ (go (stands k x s) (stands m y t))
      where
        go : {a b : ℕ} → Stands k x a → Stands m y b → a ≡ b → ⊥
        go (a_name {w = v} e o) (a_name {w = w} f i) q = d v e (f ∙ ap name (sym (standing_one ns v w o i q)))
        go (a_name {w = v} e o) (an_implicit j a b) q = omega (arith, standing_below ns v o)
        go (an_implicit j a b) (a_name {w = w} f i) q = omega (arith, standing_below ns w i)
        go (an_implicit j a b) (an_implicit j' a' b') q = omega arith

    pair_fits : (k : ℕ) (x y : Operand) → Sound ns x → Sound ns y → Differ x y
        → clocks_fit (from + (k + (implicits x + implicits y))) (clock k x ∷ clock (k + implicits x) y ∷ []) ≡ true
    pair_fits k x y s t d =
        let a : clock k x < from + (k + (implicits x + implicits y)) = omega (arith, clock_below k x s) in
        let b : clock (k + implicits x) y < from + (k + (implicits x + implicits y)) = omega (arith, clock_below (k + implicits x) y t) in
        rw (lt-ltb _ _ a, lt-ltb _ _ b, clocks_differ k (k + implicits x) x y (omega arith) s t d)

    -- ---- right sides: their operands fit, and none is the name that a line defines by them
    side_defines : (k c : ℕ) (r : Right Operand) → defined_of (side_record ns from n k c r) ≡ c ∷ []
    side_defines k c (both d x y) = refl
    side_defines k c (awaits m x) = refl
    side_defines k c (delays ms x y) = refl

    side_fits : (k c : ℕ) (r : Right Operand) → Sound ns (inner r) → Fitting (k + side_implicits r) (side_record ns from n k c r)
    side_fits k c (both d x y) s = record { uses = rw (paired_operands (arity d) (clock k x) (clock (k + implicits x) y) s.0) (pair_fits k x y s.1 s.2 s.3); number = paired_fits (arity d) s.0 }
    side_fits k c (awaits m x) s = record { uses = rw (lt-ltb _ _ (clock_below k x s.1)); number = s.0 }
    side_fits k c (delays ms x y) s = record { uses = pair_fits k x y s.1 s.2 s.3; number = s.0 }

    pair_other : (k : ℕ) (c : Word) (x y : Operand) → one_of ns c ≡ true → Sound ns x → Sound ns y → NoneTwice (c ∷ (operand_names x ++ operand_names y)) → among (standing ns c) (clock k x ∷ clock (k + implicits x) y ∷ []) ≡ false
    pair_other k c x y o u v t =
        let a = clocks_differ k k (name c) x (omega arith) o u (λ w e f. t [] [] (operand_names y) w (ap₂ (λ (u v : Operand). operand_names u ++ (operand_names v ++ operand_names y)) e f)) in
        let b = clocks_differ k (k + implicits x) (name c) y (omega arith) o v (λ w e f. t [] (operand_names x) [] w (ap₂ (λ (u v : Operand). operand_names u ++ (operand_names x ++ operand_names v)) e f)) in
        rw (a, b)

    side_other : (k : ℕ) (c : Word) (r : Right Operand) → one_of ns c ≡ true → Sound ns (inner r) → NoneTwice (c ∷ side_names r) → among (standing ns c) (used_of (side_record ns from n k (standing ns c) r)) ≡ false
    side_other k c (both d x y) o s t = rw (paired_operands (arity d) (clock k x) (clock (k + implicits x) y) s.0) (pair_other k c x y o s.1 s.2 t)
    side_other k c (awaits m x) o s t = rw (clocks_differ k k (name c) x (omega arith) o s.1 (λ w e f. t [] [] [] w (ap₂ (λ (u v : Operand). operand_names u ++ operand_names v) e f)))
    side_other k c (delays ms x y) o s t = pair_other k c x y o s.1 s.2 t

    -- ---- the records of operands, of right sides and of forms
    module _ (above : List Line) where
      abbrev Passes : Operand → Type 0
      Passes x = (k : ℕ) (qs : List Constraint) → Passing above k qs → Passing above (k + implicits x) (qs ++ operand_records ns from n k x)

      pair_passes : (x y : Operand) → Passes x → Passes y → (k : ℕ) (qs : List Constraint) → Passing above k qs
          → Passing above (k + (implicits x + implicits y)) (qs ++ (operand_records ns from n k x ++ operand_records ns from n (k + implicits x) y))
      pair_passes x y f g k qs p = moved (omega arith) (append_assoc qs _ _) (g (k + implicits x) (qs ++ operand_records ns from n k x) (f k qs p))

      -- a right side in parentheses: its clock is the implicit one that is next
      enclosed : (k : ℕ) (qs : List Constraint) (r : Right Operand) → Sound ns (inner r) → Passing above (k + side_implicits r) (qs ++ side_records ns from n k r)
          → Passing above (k + side_implicits r + 1) (qs ++ (side_records ns from n k r ++ side_record ns from n k (from + (k + side_implicits r)) r ∷ []))
      enclosed k qs r s p = moved refl (append_assoc qs _ _) (implicit_more p _ (side_fits k _ r s) (side_defines k _ r))

      operand_passes : (x : Operand) → Sound ns x → Passes x
      operand_passes (name w) s k qs p = moved (omega arith) (sym (append-nil qs)) p
      operand_passes (both_inside d x y) s k qs p = moved (omega arith) refl (enclosed k qs (both d x y) s (pair_passes x y (operand_passes x s.1) (operand_passes y s.2) k qs p))
      operand_passes (delays_inside ms x y) s k qs p = moved (omega arith) refl (enclosed k qs (delays ms x y) s (pair_passes x y (operand_passes x s.1) (operand_passes y s.2) k qs p))
      operand_passes (awaits_inside m x) s k qs p = moved (omega arith) refl (enclosed k qs (awaits m x) s (operand_passes x s.1 k qs p))

      side_passes : (r : Right Operand) → Sound ns (inner r) → (k : ℕ) (qs : List Constraint) → Passing above k qs → Passing above (k + side_implicits r) (qs ++ side_records ns from n k r)
      side_passes (both d x y) s = pair_passes x y (operand_passes x s.1) (operand_passes y s.2)
      side_passes (awaits m x) s = operand_passes x s.1
      side_passes (delays ms x y) s = pair_passes x y (operand_passes x s.1) (operand_passes y s.2)

      form_passes : (l : Line) (f : Form Operand) → BreaksNothing above l → HasForm l f → SoundForm ns f → (k : ℕ) (qs : List Constraint) → Passing above k qs
          → Passing (above ++ l ∷ []) (k + form_implicits f) (qs ++ records_of ns from n k f)
      form_passes l (relates j x y) b h s k qs p =
          let q = pair_passes x y (operand_passes x s.0) (operand_passes y s.1) k qs p in
          line_more l (moved refl (append_assoc qs _ _) (relation_more q _ (record { uses = pair_fits k x y s.0 s.1 s.2; number = relation_fits j }) refl))
      form_passes l (defines c r) b h s k qs p =
          moved refl (append_assoc qs _ _)
          (named_more (side_passes r s.1 k qs p) _ (side_fits k _ r s.1) c l s.0 (r, h) (λ o. b DefinedTwice (defined_above (r, h) o)) (side_defines k _ r) (side_other k c r s.0 s.1 s.2))

  -- ---- lines below others, us being the names of these
  pass_on : (us : Words) (above ls : List Line) {n k : ℕ} (m : ℕ) (qs rs : List Constraint) → NothingBroken above ls → Recorded ns n k ls rs → with_lines us ls ≡ ns → k + pairs ls ≡ m
      → Passing above k qs → length (qs ++ rs) ≤ 64 → first_unfit (counted m) none 1 (qs ++ rs) ≡ None
  unfolding NothingBroken with_lines pairs pairs_in
  pass_on us above _ m qs _ b no_line e s p h = (moved {m = m} (omega arith) (sym (append-nil qs)) p).fit h
  pass_on us above _ m qs _ b (blank {l = l} {ls = ls} {rs = rs} w r) e s p h =
      pass_on (with_names us (names_in (words_of l))) (above ++ l ∷ []) ls m qs rs b.1 r e (omega (arith, ap pairs_in w)) (line_more l p) h
  pass_on us above _ m qs _ b (formed {n = n} {k = k} {l = l} {f = f} {ls = ls} {rs = rs} i r) e s p h =
      let a : AllOf ns (form_names f) = subst (λ (vs : Words). AllOf vs (form_names f)) e (lines_named us l ls f i) in
      let v = form_passes n above l f b.0 i (line_sound ns above l f b.0 i a) k qs p in
      rw (← append_assoc) (pass_on (with_names us (names_in (words_of l))) (above ++ l ∷ []) ls m (qs ++ records_of ns from n k f) rs b.1 r e (omega (arith, form_pairs levels i)) v (rw append_assoc h))

pub lines_pass : (ls : List Line) (rs : List Constraint) → NothingBroken [] ls → Recorded (clock_names ls) 1 0 ls rs
    → length (clock_names ls) + pairs ls ≤ 32 → length rs ≤ 64
    → broken_record (record { named = length (clock_names ls); count = length (clock_names ls) + pairs ls }) rs ≡ None
lines_pass ls rs b r c h = rw (le-leb _ 32 c, le-leb (length (clock_names ls)) (length (clock_names ls) + pairs ls) (omega arith)) (pass_on (clock_names ls) [] [] ls (pairs ls) [] rs b r refl (omega arith) (none_passing (clock_names ls)) h)
