-- Each check of a line is broken exactly where its row of the limits is: 11, 19, 20, 13, 14, 22 and 15 by the line, 16 to 18 by the lines above too.
-- Assumes nothing.
use mathlib.Core.Path.{◌≡◌, refl, sym, ap, subst, ◌∙◌}
use mathlib.Core.Logic.{◌↔◌}
use mathlib.Core.Bool.{Bool, true, false, not, cond, ◌||◌, or-false, false≢true}
use mathlib.Core.List.{List, [], ◌∷◌, ◌++◌}
use Prim.Native.Nat.{ℕ, suc, ◌+◌, ◌≤◌, ◌<◌, min}
use native.Mathlib.Omega.{arith}
use borrow.Author.Tests.{leb-true, le-leb, ltb-true}
use lib.Dec.{leb, ltb}
use lib.ListN.{length}
use Rattle.limit.specs.declared.Limit.TheVariants.{LineByte, NestingDepth, Unpaired, NameLength, AwaitNumber, DelayNumber, ClockTwice, DefinedTwice, TableClocks, TableConstraints}
use Rattle.constraint.specs.Meaning.{defined_of}
use Rattle.constraint.specs.Ticks.{Ticks, any}
use Rattle.constraint.specs.declared.Relation.{Relation}
use Rattle.text.specs.Bytes.{in_class, all_bytes}
use Rattle.text.specs.declared.Class.TheVariants.{Printable}
use Rattle.text.specs.declared.Span.{Span}
use Rattle.grammar.specs.declared.Inner.{Inner}
use Rattle.grammar.specs.declared.Names.{Names}
use Rattle.forms.specs.Forms.{Word, Words, Line, words_of, one_of, both, awaits, delays, Form, relates, defines, Operand, IsForm, IsOperand, levels, HasForm}
use Rattle.forms.specs.Lines.{names_in, pairs_in, constraints_in, await_numbers, delay_lists, clock_names, pairs, constraints, Some, Filled, DefinesClock, ListOutside, too_deep, unpaired, Breaks, byte_outside, nested_too_deep, no_partner, name_too_long, await_number_outside, delay_list_outside, name_twice, defined_above, too_many_clocks, too_many_constraints, standing}
use Rattle.forms.proofs.ClockNames.{Keeps, constraints_more}
use Rattle.forms.proofs.FormRows.{clock_named, form_of}
use Rattle.forms.proofs.FormUnique.{one_form_of}
use Rattle.forms.proofs.Said.{said}
use Rattle.table.specs.Reader.{any_word, long_name, bad_number, bad_list, twice, many_clocks}
use Rattle.table.proofs.ClocksDefined.{Marks, marked_row}
use Rattle.table.proofs.LineRows.{byte_row, long_row, number_row, list_rows, Again, twice_row}
use Rattle.table.proofs.NamesListed.{clock_is}

-- ---- each check is passed exactly where its row is not broken
module _ (above : List Line) (l : Line) where
  pub row_11 : (not (all_bytes (in_class Printable) l) ≡ true) ↔ Breaks above l LineByte
  row_11 = (λ e. byte_outside ((byte_row l).0 e), from)
    where
      from : Breaks above l LineByte → not (all_bytes (in_class Printable) l) ≡ true
      from (byte_outside s) = (byte_row l).1 s

  pub row_19 : (too_deep 0 l ≡ true) ↔ Breaks above l NestingDepth
  row_19 = (nested_too_deep, from)
    where
      from : Breaks above l NestingDepth → too_deep 0 l ≡ true
      from (nested_too_deep h) = h

  pub row_20 : (unpaired 0 l ≡ true) ↔ Breaks above l Unpaired
  row_20 = (no_partner, from)
    where
      from : Breaks above l Unpaired → unpaired 0 l ≡ true
      from (no_partner h) = h

  module _ (t : List ℕ) (ws : List Span) (words : said t ws ≡ words_of l) where
    pub row_13 : (any_word (long_name t) ws ≡ true) ↔ Breaks above l NameLength
    row_13 = (λ e. name_too_long (row.0 e), from)
      where
        row : (any_word (long_name t) ws ≡ true) ↔ Some (λ n. 16 < length n) (names_in (words_of l))
        row = subst (λ (us : Words). (any_word (long_name t) ws ≡ true) ↔ Some (λ n. 16 < length n) (names_in us)) words (long_row t ws)

        from : Breaks above l NameLength → any_word (long_name t) ws ≡ true
        from (name_too_long s) = row.1 s

    pub row_14 : (f : Form Operand) → HasForm l f → (any_word (bad_number t) ws ≡ true) ↔ Breaks above l AwaitNumber
    row_14 f h = (λ e. await_number_outside h ((row f h).0 e), from)
      where
        row : (f : Form Operand) → HasForm l f → (any_word (bad_number t) ws ≡ true) ↔ Some (λ n. 1 ≤ n → n ≤ 1_000_000 → ⊥) (await_numbers f)
        row f h = number_row t ws (subst (λ (us : Words). IsForm (IsOperand levels) us f) (sym words) h)

        from : Breaks above l AwaitNumber → any_word (bad_number t) ws ≡ true
        from (await_number_outside {f = g} k s) = (row g k).1 s

    pub row_22 : (f : Form Operand) → HasForm l f → (any_word (bad_list t) ws ≡ true) ↔ Breaks above l DelayNumber
    row_22 f h = (λ e. delay_list_outside h ((row f h).0 e), from)
      where
        row : (f : Form Operand) → HasForm l f → (any_word (bad_list t) ws ≡ true) ↔ Some ListOutside (delay_lists f)
        row f h = list_rows t ws (subst (λ (us : Words). IsForm (IsOperand levels) us f) (sym words) h)

        from : Breaks above l DelayNumber → any_word (bad_list t) ws ≡ true
        from (delay_list_outside {f = g} k s) = (row g k).1 s

    pub row_15 : (any_word (twice t) ws ≡ true) ↔ Breaks above l ClockTwice
    row_15 = (λ e. let r = row.0 e in name_twice r.0 r.1 r.2 r.3 r.4, from)
      where
        row : (any_word (twice t) ws ≡ true) ↔ Again (names_in (words_of l))
        row = subst (λ (us : Words). (any_word (twice t) ws ≡ true) ↔ Again (names_in us)) words (twice_row t ws)

        from : Breaks above l ClockTwice → any_word (twice t) ws ≡ true
        from (name_twice a b d n e) = row.1 (a, b, d, n, e)

  -- ---- 16
  pub one_defined : (c d : Word) → DefinesClock c l → DefinesClock d l → c ≡ d
  one_defined c d p q =
      let e : defines c p.0 ≡ defines d q.0 = one_form_of levels (words_of l) (defines c p.0) (defines d q.0) p.1 q.1 in
      cc

  pub none_defined : {k : Relation} {x y : Operand} → HasForm l (relates k x y) → (c : Word) → DefinesClock c l → ⊥
  none_defined {k} {x} {y} h c p =
      let e : relates k x y ≡ defines c p.0 = one_form_of levels (words_of l) (relates k x y) (defines c p.0) h p.1 in
      let z : ◌≡◌ {A = ℕ} 0 1 = cc in
      omega arith

  module _ (F : Ticks) (m : Marks above F) (t : List ℕ) (ns : Names) (i : Inner) (k : Keeps (clock_names above) (said t ns.spans)) (few : length (clock_names above) ≤ 32) where
    row_defines : (c : Word) → DefinesClock c l → (F (clock_named t ns c) ≡ true) ↔ Breaks above l DefinedTwice
    row_defines c d = rw (clock_is t ns c) (λ e. defined_above d (row.0 e), from)
      where
        row : (F (cond (one_of (said t ns.spans) c) (standing (said t ns.spans) c) 32) ≡ true) ↔ Some (DefinesClock c) above
        row = marked_row above F m (said t ns.spans) k few c

        from : Breaks above l DefinedTwice → F (cond (one_of (said t ns.spans) c) (standing (said t ns.spans) c) 32) ≡ true
        from (defined_above {c = w} p s) = row.1 (subst (λ (v : Word). Some (DefinesClock v) above) (one_defined w c p d) s)

    pub row_16 : (f : Form Operand) → HasForm l f → (any F (defined_of (form_of t ns i f).constraint) ≡ true) ↔ Breaks above l DefinedTwice
    row_16 (relates j x y) h = (λ e. absurd (false≢true e), from)
      where
        from : Breaks above l DefinedTwice → false ≡ true
        from (defined_above {c = c} p s) = absurd (none_defined h c p)
    row_16 (defines c (both j x y)) h = rw (or-false (F (clock_named t ns c))) (row_defines c (both j x y, h))
    row_16 (defines c (awaits n x)) h = rw (or-false (F (clock_named t ns c))) (row_defines c (awaits n x, h))
    row_16 (defines c (delays ms x y)) h = rw (or-false (F (clock_named t ns c))) (row_defines c (delays ms x y, h))

  -- ---- 17 and 18
  module _ (full : Filled l) where
    module _ (ns : Names) (i : Inner) (over : ns.over ≡ ltb 32 (length (clock_names (above ++ l ∷ [])))) (all : ns.over ≡ false → length ns.spans ≡ length (clock_names (above ++ l ∷ [])))
        (counted : i.clocks ≡ min 33 (pairs (above ++ l ∷ []))) where
      pub row_17 : (many_clocks ns i ≡ true) ↔ Breaks above l TableClocks
      row_17 = go ns.over refl
        where
          go : (x : Bool) → ns.over ≡ x → ((x || leb 33 (length ns.spans + i.clocks)) ≡ true) ↔ Breaks above l TableClocks
          go true q = (λ e. too_many_clocks full (let h : 32 < length (clock_names (above ++ l ∷ [])) = ltb-true 32 _ (sym over ∙ q) in omega arith), λ b. refl)
          go false q = (λ e. too_many_clocks full (omega (arith, leb-true 33 (length ns.spans + i.clocks) e, all q)), from)
            where
              from : Breaks above l TableClocks → leb 33 (length ns.spans + i.clocks) ≡ true
              from (too_many_clocks f h) = le-leb 33 (length ns.spans + i.clocks) (omega (arith, all q))

    pub one_more : constraints (above ++ l ∷ []) ≡ constraints above + suc (pairs_in (words_of l))
    one_more = constraints_more above l ∙ ap (λ (k : ℕ). constraints above + k) (go (words_of l) full)
      where
        go : (ws : Words) → (ws ≡ [] → ⊥) → constraints_in ws ≡ suc (pairs_in ws)
        go [] f = absurd (f refl)
        go (w ∷ ws) f = unfold constraints_in in refl

    pub row_18 : (k j : ℕ) → k ≡ constraints above → j ≡ pairs_in (words_of l) → (leb 64 (k + j) ≡ true) ↔ Breaks above l TableConstraints
    row_18 k j q r = (λ e. too_many_constraints full (omega (arith, one_more, leb-true 64 (k + j) e)), from)
      where
        from : Breaks above l TableConstraints → leb 64 (k + j) ≡ true
        from (too_many_constraints f h) = le-leb 64 (k + j) (omega (arith, one_more))
