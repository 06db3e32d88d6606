-- A table being built has, after some lines that break nothing, their names, their constraints as records, and the clocks that they define; so
-- it has with one line more, that is blank or has a form. Assumes nothing.
use mathlib.Core.Path.{◌≡◌, refl, sym, ap, subst, ◌∙◌}
use mathlib.Core.Bool.{true, false}
use mathlib.Core.List.{List, [], ◌∷◌, ◌++◌, map, append_assoc, append-nil}
use Prim.Native.Nat.{ℕ, suc, ◌+◌, ◌≤◌, ◌<◌}
use native.Mathlib.Nat.{le_refl}
use native.Mathlib.Omega.{arith}
use borrow.Author.Tests.{ltb-false, le-ltb, lt-leb}
use lib.Dec.{leb}
use lib.ListN.{length, length-append, length-map}
use Rattle.constraint.specs.Meaning.{defined_by, defined_of}
use Rattle.constraint.specs.Ticks.{bits, with_tick, with_ticks}
use Rattle.constraint.specs.declared.Constraint.{Constraint}
use Rattle.constraint.specs.declared.Kind.{Kind}
use Rattle.constraint.specs.declared.Kind.TheVariants.{Empty, Relates, Defines}
use Rattle.constraint.proofs.TickSets.{with_tick_adds}
use Rattle.grammar.specs.Building.{no_inner, on_its_line, with_constraint, with_constraints, naming, with_line}
use Rattle.grammar.specs.declared.Builder.{Builder}
use Rattle.grammar.specs.declared.Inner.{Inner}
use Rattle.grammar.specs.declared.Names.{Names}
use Rattle.forms.specs.Forms.{Word, Words, Line, words_of, one_of, both, awaits, delays, Form, relates, defines, Operand, levels, HasForm}
use Rattle.forms.specs.Lines.{names_in, pairs_in, constraints_in, with_names, await_numbers, delay_lists, clock_names, pairs, constraints, Some, DefinesClock, ListOutside, standing, form_implicits, records_of}
use Rattle.forms.proofs.BlankLines.{form_filled}
use Rattle.forms.proofs.ClockNames.{AllOf, names_more, pairs_more, constraints_more, standing_below}
use Rattle.forms.proofs.FormNames.{line_named}
use Rattle.forms.proofs.FormRows.{clock_named, form_of}
use Rattle.forms.proofs.FormWords.{form_names, form_pairs}
use Rattle.forms.proofs.Said.{said}
use Rattle.table.proofs.BrokenRows.{one_defined, none_defined, one_more}
use Rattle.table.proofs.ClocksDefined.{Marks, marks_same, marks_one}
use Rattle.table.proofs.NamesListed.{clock_is, Named, named_in, named_again}
use Rattle.table.proofs.Placing.{High, kept_all, stands_first, form_stands, IsFormed}

pub record Builds (t : List ℕ) (at : ℕ) (above : List Line) (rs : List Constraint) (b : Builder) : Type 0 where
  pub names : Named t at (clock_names above) (clock_names above) b.table.names
  pub few : b.table.names.over ≡ false
  pub count : length b.table.records ≡ constraints above
  pub records : b.table.records ≡ rs
  pub most : length rs ≤ 64
  pub marks : Marks above (bits b.defined)
  pub implicit : b.table.implicit ≡ pairs above
  pub clocks : length (clock_names above) + pairs above ≤ 32

-- further on in the text
pub builds_on : (t : List ℕ) (d e : ℕ) → d ≤ e → (above : List Line) (rs : List Constraint) (b : Builder) → Builds t d above rs b → Builds t e above rs b
builds_on t d e h above rs b g = record {
  names = named_in t t d e h (clock_names above) (clock_names above) b.table.names refl g.names;
  few = g.few;
  count = g.count;
  records = g.records;
  most = g.most;
  marks = g.marks;
  implicit = g.implicit;
  clocks = g.clocks;
}

-- the records with those of a line, which has the number n and below k implicit clocks; these begin at 32
pub data Added (us : Words) (n k : ℕ) (l : Line) (rs : List Constraint) : List Constraint → Type 0 where
  none_added : words_of l ≡ [] → Added us n k l rs rs
  one_added : {f : Form Operand} → HasForm l f → Added us n k l rs (rs ++ records_of us 32 n k f)

-- ---- a blank line
module _ (above : List Line) (l : Line) (e : words_of l ≡ []) where
  same_names : clock_names (above ++ l ∷ []) ≡ clock_names above
  unfolding names_in with_names
  same_names = names_more [] above l ∙ ap (λ (ws : Words). with_names (clock_names above) (names_in ws)) e

  same_count : constraints (above ++ l ∷ []) ≡ constraints above
  unfolding constraints_in
  same_count =
      let z : constraints_in (words_of l) ≡ 0 = ap constraints_in e in
      let m : constraints (above ++ l ∷ []) ≡ constraints above + constraints_in (words_of l) = constraints_more above l in
      omega arith

  same_pairs : pairs (above ++ l ∷ []) ≡ pairs above
  unfolding pairs_in
  same_pairs =
      let z : pairs_in (words_of l) ≡ 0 = ap pairs_in e in
      omega (arith, pairs_more above l)

  pub blank_builds : (t : List ℕ) (at : ℕ) (rs : List Constraint) (b : Builder) → Builds t at above rs b → Builds t at (above ++ l ∷ []) rs b
  blank_builds t at rs b g = record {
    names = rw same_names g.names;
    few = g.few;
    count = g.count ∙ sym same_count;
    records = g.records;
    most = g.most;
    marks = marks_same above (bits b.defined) g.marks l (λ c d. form_filled d.1 e);
    implicit = g.implicit ∙ sym same_pairs;
    clocks = rw (same_names, same_pairs) g.clocks;
  }

-- ---- constraints, one after the other

-- an implicit clock has no room among those that are defined
high_ticks : (d : ℕ) (r : Constraint) → 32 ≤ r.defined → with_ticks d (defined_of r) ≡ d
high_ticks d r h = go r.kind
  where
    go : (k : Kind) → with_ticks d (defined_by k r.defined) ≡ d
    go Empty = refl
    go (Relates k) = refl
    go (Defines k) = rw (le-ltb r.defined 32 h)

-- a table that has the records rs
module _ (n : ℕ) where
  one_has : (rs : List Constraint) (b : Builder) (r : Constraint) → b.table.records ≡ rs → length rs < 64 → ((with_constraint n b r).table.records ≡ rs ++ on_its_line n r ∷ []) × ((with_constraint n b r).table.names ≡ b.table.names) × ((with_constraint n b r).defined ≡ with_ticks b.defined (defined_of r)) × ((with_constraint n b r).table.implicit ≡ b.table.implicit)
  one_has rs b r h k =
      let e : leb 64 (length b.table.records) ≡ false = lt-leb 64 (length b.table.records) (omega (arith, ap length h)) in
      rw e (ap (λ (qs : List Constraint). qs ++ on_its_line n r ∷ []) h, refl, refl, refl)

  -- the definitions of implicit clocks
  many_have : (ds rs : List Constraint) (b : Builder) → b.table.records ≡ rs → length rs + length ds ≤ 64 → High ds
      → ((with_constraints n b ds).table.records ≡ rs ++ map (on_its_line n) ds) × ((with_constraints n b ds).table.names ≡ b.table.names) × ((with_constraints n b ds).defined ≡ b.defined) × ((with_constraints n b ds).table.implicit ≡ b.table.implicit)
  unfolding with_constraints
  many_have [] rs b h k g = rw append-nil (h, refl, refl, refl)
  many_have (r ∷ ds) rs b h k g =
      let p = one_has rs b r h (omega arith) in
      let j : length (rs ++ on_its_line n r ∷ []) ≡ length rs + 1 = length-append rs (on_its_line n r ∷ []) in
      let q = many_have ds (rs ++ on_its_line n r ∷ []) (with_constraint n b r) p.0 (omega arith) g.1 in
      (q.0 ∙ append_assoc rs (on_its_line n r ∷ []) (map (on_its_line n) ds), q.1 ∙ p.1, q.2 ∙ p.2 ∙ high_ticks b.defined r g.0, q.3 ∙ p.3)

-- ---- a line that has a form, in a text that ends with it; the names ns have those of the line
module _ (t : List ℕ) (at : ℕ) (above : List Line) (l : Line) (ms : Words) (ns : Names) (m : Named t at ms (clock_names (above ++ l ∷ [])) ns) (o : ns.over ≡ false) where
  abbrev us : Words
  us = clock_names (above ++ l ∷ [])

  pub number : (w : Word) → one_of us w ≡ true → clock_named t ns w ≡ standing us w
  number w e = clock_is t ns w ∙ rw (m.words o, e)

  -- what the form comes to, where 14 and 22 let its numbers and lists pass and there is room for its implicit clocks
  pub form_made : (n k : ℕ) (f : Form Operand) → HasForm l f → (Some (λ j. 1 ≤ j → j ≤ 1_000_000 → ⊥) (await_numbers f) → ⊥) → (Some ListOutside (delay_lists f) → ⊥) → k + form_implicits f ≤ 32 → IsFormed t ns us n number f (no_inner k) k
  form_made n k f h p q r = form_stands t ns us n number f (no_inner k) k (line_named above l f h) (kept_all (await_numbers f) (delay_lists f) p q) r (stands_first t ns us n number k)

  module _ (i : Inner) (d : ℕ) (k : Marks above (bits d)) where
    one_marked : (c : Word) → DefinesClock c l → one_of us c ≡ true → Marks (above ++ l ∷ []) (bits (with_tick d (clock_named t ns c)))
    one_marked c p e =
        let a : standing us c < length us = standing_below us c e in
        let b : length us ≤ 32 = ltb-false 32 (length us) (sym m.over ∙ o) in
        rw (number c e, with_tick_adds d (standing us c) (omega arith)) (marks_one above (bits d) k l c p (λ w q. one_defined above l w c q p))

    marks_made : (f : Form Operand) → HasForm l f → AllOf us (form_names f) → Marks (above ++ l ∷ []) (bits (with_ticks d (defined_of (form_of t ns i f).constraint)))
    marks_made (relates j x y) h a = marks_same above (bits d) k l (none_defined above l h)
    marks_made (defines c (both j x y)) h a = one_marked c (both j x y, h) a.0
    marks_made (defines c (awaits j x)) h a = one_marked c (awaits j x, h) a.0
    marks_made (defines c (delays js x y)) h a = one_marked c (delays js x y, h) a.0

  -- in the whole text s
  module _ (n : ℕ) (s : List ℕ) (same : said t ns.spans ≡ said s ns.spans) (from : ℕ) (rs : List Constraint) (b : Builder) (g : Builds s from above rs b) where
    pub form_builds : (f : Form Operand) → HasForm l f → (e : IsFormed t ns us n number f (no_inner b.table.implicit) b.table.implicit) → length us + pairs (above ++ l ∷ []) ≤ 32 → constraints (above ++ l ∷ []) ≤ 64
        → Builds s at (above ++ l ∷ []) (rs ++ records_of us 32 n b.table.implicit f) (with_line n b ns (form_of t ns (no_inner b.table.implicit) f).left (form_of t ns (no_inner b.table.implicit) f).constraint)
    form_builds f h e room most =
        let i : Inner = (form_of t ns (no_inner b.table.implicit) f).left in
        let r : Constraint = (form_of t ns (no_inner b.table.implicit) f).constraint in
        let z = sizes i f e.left.count e.left.fewer e.left.clocks h room most in
        let q = many_have n i.definitions rs (naming b ns i) g.records z.0 e.left.high in
        let w = one_has n (rs ++ map (on_its_line n) i.definitions) (with_constraints n (naming b ns i) i.definitions) r q.0 z.1 in
        let v : (rs ++ map (on_its_line n) i.definitions) ++ on_its_line n r ∷ [] ≡ rs ++ records_of us 32 n b.table.implicit f =
        append_assoc rs (map (on_its_line n) i.definitions) (on_its_line n r ∷ []) ∙ (λ j. rs ++ (e.left.records j ++ e.own j ∷ [])) in
        let j : length ((rs ++ map (on_its_line n) i.definitions) ++ on_its_line n r ∷ []) ≡ length (rs ++ map (on_its_line n) i.definitions) + 1 = length-append (rs ++ map (on_its_line n) i.definitions) (on_its_line n r ∷ []) in
        record {
          names = subst (Named s at us us) (sym (w.1 ∙ q.1)) (named_again s at ms us ns (named_in t s at at (le_refl at) ms us ns same m) o);
          few = ap (λ (x : Names). x.over) (w.1 ∙ q.1) ∙ o;
          count = ap length w.0 ∙ j ∙ z.2;
          records = w.0 ∙ v;
          most = subst (λ (k : ℕ). k ≤ 64) (sym (ap length (sym v) ∙ j ∙ z.2)) most;
          marks = subst (λ (d : ℕ). Marks (above ++ l ∷ []) (bits d)) (sym (w.2 ∙ ap (λ (d : ℕ). with_ticks d (defined_of r)) q.2)) (marks_made (no_inner b.table.implicit) b.defined g.marks f h (line_named above l f h));
          implicit = w.3 ∙ q.3 ∙ z.3;
          clocks = room;
        }
      where
        sizes : (i : Inner) (f : Form Operand) → length i.definitions ≡ form_implicits f → form_implicits f ≤ b.table.implicit + form_implicits f → i.clocks ≡ b.table.implicit + form_implicits f → HasForm l f → length us + pairs (above ++ l ∷ []) ≤ 32 → constraints (above ++ l ∷ []) ≤ 64
            → (length rs + length i.definitions ≤ 64) × (length (rs ++ map (on_its_line n) i.definitions) < 64) × (length (rs ++ map (on_its_line n) i.definitions) + 1 ≡ constraints (above ++ l ∷ [])) × (i.clocks ≡ pairs (above ++ l ∷ []))
        sizes i f c j d h room most =
            let e : length (rs ++ map (on_its_line n) i.definitions) ≡ length rs + length (map (on_its_line n) i.definitions) = length-append rs (map (on_its_line n) i.definitions) in
            let p : length (map (on_its_line n) i.definitions) ≡ length i.definitions = length-map i.definitions (on_its_line n) in
            let o : constraints (above ++ l ∷ []) ≡ constraints above + suc (pairs_in (words_of l)) = one_more above l (form_filled h) in
            let x : pairs_in (words_of l) ≡ form_implicits f = form_pairs levels h in
            let y : pairs (above ++ l ∷ []) ≡ pairs above + pairs_in (words_of l) = pairs_more above l in
            let u : length rs ≡ constraints above = ap length (sym g.records) ∙ g.count in
            let v : b.table.implicit ≡ pairs above = g.implicit in
            (omega arith, omega arith, omega arith, omega arith)
