-- One line, below lines that break nothing: the reader stops at it with the first limit that it breaks, or it breaks nothing and the table is
-- built on. Assumes nothing.
use mathlib.Core.Path.{◌≡◌, refl, sym, ap, subst, ◌∙◌}
use mathlib.Core.Logic.{◌↔◌}
use mathlib.Core.Bool.{Bool, true, false, not, cond, false≢true}
use mathlib.Core.List.{List, [], ◌∷◌, ◌++◌}
use Prim.Native.Nat.{ℕ, suc, ◌+◌, ◌≤◌, ◌<◌, min}
use native.Mathlib.Omega.{arith}
use borrow.Author.Tests.{ltb-false, leb-false}
use lib.ListN.{length, take, drop, length-take}
use Rattle.limit.specs.Checked.{Checked, passed, stopped, refuse_if}
use Rattle.limit.specs.declared.Limit.{Limit}
use Rattle.limit.specs.declared.Limit.TheVariants.{LineByte, NestingDepth, Unpaired, LineForm, NameLength, AwaitNumber, DelayNumber, ClockTwice, DefinedTwice, TableClocks, TableConstraints}
use Rattle.constraint.specs.Meaning.{defined_of}
use Rattle.constraint.specs.Ticks.{any, bits}
use Rattle.constraint.specs.declared.Constraint.{Constraint}
use Rattle.constraint.proofs.Booleans.{or_l, or_r}
use Rattle.text.specs.Bytes.{in_class, all_bytes}
use Rattle.text.specs.Split.{span, bytes_of}
use Rattle.text.specs.declared.Class.TheVariants.{Space, Printable}
use Rattle.text.specs.declared.Span.{Span}
use Rattle.grammar.specs.Grammar.{Parsed, no_form, parsed, Formed, line_words, form_in}
use Rattle.grammar.specs.Building.{no_inner, with_line}
use Rattle.grammar.specs.Names.{with_words}
use Rattle.grammar.specs.declared.Builder.{Builder}
use Rattle.grammar.specs.declared.Inner.{Inner}
use Rattle.grammar.specs.declared.Names.{Names}
use Rattle.forms.specs.Forms.{Words, Line, words_of, Form, Operand, HasForm, IsForm, IsOperand, levels}
use Rattle.forms.specs.Lines.{pairs_in, clock_names, pairs, constraints, too_deep, unpaired, Filled, turn, Breaks, fits_no_form, await_number_outside, delay_list_outside, BreaksNothing, form_implicits, records_of}
use Rattle.forms.proofs.BlankLines.{blank_words, other_words, blank_breaks_nothing}
use Rattle.forms.proofs.Broken.{Clear, check_at, clear_first, clear_next, clear_last}
use Rattle.forms.proofs.ClockNames.{names_more, pairs_more}
use Rattle.forms.proofs.FormWords.{form_pairs}
use Rattle.forms.proofs.FormRows.{form_of, form_sound, no_form_row}
use Rattle.forms.proofs.Said.{said}
use Rattle.forms.proofs.SplitWords.{Inside, inside_more, line_bytes, words_are, words_inside, cut_same}
use Rattle.table.specs.Reader.{any_word, long_name, bad_number, bad_list, twice, many_clocks, many_constraints, add_line, form_step, filled_step, blank, line_step}
use Rattle.table.proofs.BrokenRows.{one_more, row_11, row_13, row_14, row_15, row_16, row_17, row_18, row_19, row_20, row_22}
use Rattle.table.proofs.LineAdded.{Builds, Added, none_added, one_added, builds_on, blank_builds, number, form_made, form_builds}
use Rattle.table.proofs.NamesListed.{listed_length, Named, named_in, all_named}
use Rattle.table.proofs.Placing.{IsFormed, form_clocks}

-- ---- what a check comes to; P is what a table has with the line
module _ (P : Builder → Type 0) (above : List Line) (l : Line) (n : ℕ) where
  abbrev pub Verdict : Checked Builder → Type 0
  Verdict (passed c) = BreaksNothing above l × P c
  Verdict (stopped m p) = Breaks above l m × Clear above l (turn m) × (p ≡ n)

  check : (x : Bool) (m : Limit) → check_at (turn m) ≡ m → (x ≡ true) ↔ Breaks above l m → Clear above l (turn m) → (s : Checked Builder)
      → (x ≡ false → Clear above l (suc (turn m)) → Verdict s) → Verdict (refuse_if x m n s)
  check true m e r c s k = (r.0 refl, c, refl)
  check false m e r c s k = k refl (clear_next above l m e c (λ b. false≢true (r.1 b)))

-- ---- a line l from a to e of a text t, which has the number n
module _ (t : List ℕ) (a e n : ℕ) (h : a ≤ e) (k : e ≤ length t) (above : List Line) (rs : List Constraint) (b : Builder) (g : Builds t a above rs b) where
  abbrev l : Line
  l = bytes_of t (span a e)

  -- the text up to its end, and its words there
  abbrev cut : List ℕ
  cut = take e t

  abbrev ws : List Span
  ws = line_words cut a

  -- the names with those of the line, and as the reader lists them
  abbrev us : Words
  us = clock_names (above ++ l ∷ [])

  abbrev ns : Names
  ns = with_words cut b.table.names ws

  -- before its first implicit clock
  abbrev first : Inner
  first = no_inner b.table.implicit

  -- what the table has with it
  pub record Next (c : Builder) : Type 0 where
    pub records : List Constraint
    pub added : Added us n (pairs above) l rs records
    pub builds : Builds t e (above ++ l ∷ []) records c

  cut_length : length cut ≡ e
  cut_length = length-take e t ∙ omega arith

  line : drop a cut ≡ l
  line = line_bytes t e (span a e) refl

  words : said cut ws ≡ words_of l
  words = words_are cut a (omega (arith, cut_length)) ∙ ap words_of line

  within : Inside e ws
  within = inside_more (length cut) e (omega (arith, cut_length)) ws (words_inside cut a (omega (arith, cut_length)))

  before : Named cut e (clock_names above) (clock_names above) b.table.names
  before = named_in t cut a e h (clock_names above) (clock_names above) b.table.names (sym (cut_same t e b.table.names.spans (inside_more a e h b.table.names.spans g.names.inside))) g.names

  named : Named cut e (clock_names above) us ns
  named = rw (names_more [] above l, ← words) (all_named cut e (clock_names above) (clock_names above) b.table.names before ws within)

  few : length (clock_names above) ≤ 32
  few = ltb-false 32 (length (clock_names above)) (sym g.names.over ∙ g.few)

  abbrev Comes : Checked Builder → Type 0
  Comes = Verdict Next above l n

  all_named_once : ns.over ≡ false → length ns.spans ≡ length us
  all_named_once o = sym (listed_length cut ns) ∙ ap length (named.words o)

  module _ (full : Filled l) (f : Form Operand) (form : HasForm l f) where
    abbrev made : Formed Inner
    made = form_of cut ns first f

    implicit_is : pairs (above ++ l ∷ []) ≡ b.table.implicit + form_implicits f
    implicit_is = pairs_more above l ∙ (λ i. sym g.implicit i + form_pairs levels form i)

    counted : made.left.clocks ≡ min 33 (pairs (above ++ l ∷ []))
    counted = form_clocks cut ns f first b.table.implicit (few_implicit b.table.implicit (pairs above) g.implicit (length (clock_names above)) g.clocks) ∙ ap (min 33) (sym implicit_is)
      where
        few_implicit : (i p : ℕ) → i ≡ p → (k : ℕ) → k + p ≤ 32 → i ≡ min 33 i
        few_implicit i p e k h = omega arith

    -- there is no 33rd clock
    room : many_clocks ns made.left ≡ false → (ns.over ≡ false) × (length us + pairs (above ++ l ∷ []) ≤ 32)
    room p17 = (o, fits (length ns.spans) made.left.clocks (pairs (above ++ l ∷ [])) (length us) (all_named_once o) counted (leb-false 33 (length ns.spans + made.left.clocks) (or_r ns.over _ p17)))
      where
        o : ns.over ≡ false
        o = or_l ns.over _ p17

        fits : (c i p u : ℕ) → c ≡ u → i ≡ min 33 p → c + i < 33 → u + p ≤ 32
        fits c i p u q r h = omega arith

    module _ (o : ns.over ≡ false) (most : length us + pairs (above ++ l ∷ []) ≤ 32) (p14 : any_word (bad_number cut) ws ≡ false) (p22 : any_word (bad_list cut) ws ≡ false) where
      form_is : IsFormed cut ns us n (number cut e above l (clock_names above) ns named o) f first b.table.implicit
      form_is =
          form_made cut e above l (clock_names above) ns named o n b.table.implicit f form
          (λ s. false≢true (sym p14 ∙ (row_14 above l cut ws words f form).1 (await_number_outside form s)))
          (λ s. false≢true (sym p22 ∙ (row_22 above l cut ws words f form).1 (delay_list_outside form s)))
          (few_of (length us) (pairs (above ++ l ∷ [])) (b.table.implicit + form_implicits f) implicit_is most)
        where
          few_of : (u p q : ℕ) → p ≡ q → u + p ≤ 32 → q ≤ 32
          few_of u p q e h = omega arith

      -- 18
      line_fits : Clear above l (turn TableConstraints) → Comes (refuse_if (many_constraints b made.left) TableConstraints n (passed (with_line n b ns made.left made.constraint)))
      line_fits c18 =
          check Next above l n (many_constraints b made.left) TableConstraints refl (row_18 above l full (length b.table.records) (length made.left.definitions) g.count (form_is.left.count ∙ sym (form_pairs levels form))) c18 _ (λ p18 c19. (
            clear_last above l c19,
            record {
              records = rs ++ records_of us 32 n (pairs above) f;
              added = one_added form;
              builds =
                  subst (λ (k : ℕ). Builds t e (above ++ l ∷ []) (rs ++ records_of us 32 n k f) (with_line n b ns made.left made.constraint)) g.implicit
                  (form_builds cut e above l (clock_names above) ns named o n t (cut_same t e ns.spans named.inside) a rs b g f form form_is most (room_18 p18));
            },
          ))
        where
          room_18 : many_constraints b made.left ≡ false → constraints (above ++ l ∷ []) ≤ 64
          room_18 p18 = enough (length b.table.records) (length made.left.definitions) (constraints above) (pairs_in (words_of l)) g.count (form_is.left.count ∙ sym (form_pairs levels form)) (leb-false 64 (length b.table.records + length made.left.definitions) p18) (one_more above l full)
            where
              enough : (c i k p : ℕ) → c ≡ k → i ≡ p → c + i < 64 → {q : ℕ} → q ≡ k + suc p → q ≤ 64
              enough c i k p a b h e = omega arith

    -- 16, 17 and 18
    line_added : any_word (bad_number cut) ws ≡ false → any_word (bad_list cut) ws ≡ false → Clear above l (turn DefinedTwice) → Comes (add_line n b ns made.left made.constraint)
    unfolding add_line
    line_added p14 p22 c16 =
        check Next above l n (any (bits b.defined) (defined_of made.constraint)) DefinedTwice refl (row_16 above l (bits b.defined) g.marks cut ns first named.kept few f form) c16 _ (λ p16 c17.
        check Next above l n (many_clocks ns made.left) TableClocks refl (row_17 above l full ns made.left named.over all_named_once counted) c17 _ (λ p17 c18.
        let r = room p17 in
        line_fits r.0 r.1 p14 p22 c18))

    -- 13, 14, 22 and 15
    line_formed : (p : Formed Inner) (us : List Span) → p ≡ made → Clear above l (turn NameLength) → Comes (form_step cut n b ns ws (parsed p us))
    unfolding form_step
    line_formed p us q c13 =
        check Next above l n (any_word (long_name cut) ws) NameLength refl (row_13 above l cut ws words) c13 _ (λ p13 c14.
        check Next above l n (any_word (bad_number cut) ws) AwaitNumber refl (row_14 above l cut ws words f form) c14 _ (λ p14 c22.
        check Next above l n (any_word (bad_list cut) ws) DelayNumber refl (row_22 above l cut ws words f form) c22 _ (λ p22 c15.
        check Next above l n (any_word (twice cut) ws) ClockTwice refl (row_15 above l cut ws words) c15 _ (λ p15 c16.
        rw q (line_added p14 p22 c16)))))

  module _ (full : Filled l) where
    -- 12
    line_read_lem : (p : Parsed (Formed Inner)) → form_in cut levels ns first ws ≡ p → Clear above l (turn LineForm) → Comes (form_step cut n b ns ws p)
    unfolding form_step
    line_read_lem no_form q c12 = (fits_no_form full (λ f form. (no_form_row cut ns levels first ws).0 q f (subst (λ (vs : Words). IsForm (IsOperand levels) vs f) (sym words) form)), c12, refl)
    line_read_lem (parsed p us) q c12 =
        let r = form_sound cut ns levels first ws p us q in
        let form : HasForm l r.0 = subst (λ (vs : Words). IsForm (IsOperand levels) vs r.0) words r.1 in
        line_formed full r.0 form p us r.2 (clear_next above l LineForm refl c12 (fits r.0 form))
      where
        fits : (f : Form Operand) → HasForm l f → Breaks above l LineForm → ⊥
        fits f form (fits_no_form d none) = none f form

    -- 11, 19 and 20
    line_filled : Comes (filled_step cut n b a)
    line_filled =
        check Next above l n (not (all_bytes (in_class Printable) (drop a cut))) LineByte refl (rw line (row_11 above l)) (clear_first above l) _ (λ p11 c19.
        check Next above l n (too_deep 0 (drop a cut)) NestingDepth refl (rw line (row_19 above l)) c19 _ (λ p19 c20.
        check Next above l n (unpaired 0 (drop a cut)) Unpaired refl (rw line (row_20 above l)) c20 _ (λ p20 c12.
        line_read_lem (form_in cut levels ns first ws) refl c12)))

  pub line_verdict : Comes (line_step cut n b a)
  line_verdict = go (blank cut a) (ap (all_bytes (in_class Space)) (sym line))
    where
      go : (x : Bool) → all_bytes (in_class Space) l ≡ x → Comes (cond x (passed b) (filled_step cut n b a))
      go true q = (blank_breaks_nothing above l q, record { records = rs; added = none_added (blank_words l q); builds = blank_builds above l (blank_words l q) t e rs b (builds_on t a e h above rs b g) })
      go false q = line_filled (other_words l q)
