-- The reader of tables against the text alone: line by line, then the table. The three claims follow: the reader answers one way, and a table
-- is refused in one way or read. Assumes nothing.
use mathlib.Core.Path.{◌≡◌, refl, sym, ap, subst, ◌∙◌}
use mathlib.Core.Logic.{◌↔◌}
use mathlib.Core.Bool.{Bool, true, false}
use mathlib.Core.List.{List, [], ◌∷◌, ◌++◌, map, map-append, append-nil, append_assoc}
use Prim.Native.Nat.{ℕ, suc, ◌+◌, ◌≤◌, ◌<◌}
use native.Mathlib.Omega.{arith}
use borrow.Author.Tests.{ltb-true, ltb-false}
use lib.Dec.{ltb}
use lib.ListN.{length, length-map}
use Rattle.limit.specs.Checked.{Checked, passed, stopped, refuse_if, and_then}
use Rattle.limit.specs.Limit.{number_of}
use Rattle.limit.specs.declared.Limit.TheVariants.{TableLength}
use Rattle.constraint.specs.declared.Constraint.{Constraint}
use Rattle.constraint.proofs.OneMore.{start_passes}
use Rattle.constraint.proofs.TickSets.{bits_zero}
use Rattle.text.specs.Bytes.{in_class}
use Rattle.text.specs.Split.{bytes_of, pieces_at}
use Rattle.text.specs.declared.Class.TheVariants.{Newline}
use Rattle.text.specs.declared.Span.{Span}
use Rattle.grammar.specs.Building.{start, renumbered, finish, clocks_in}
use Rattle.grammar.specs.declared.Builder.{Builder}
use Rattle.grammar.specs.declared.Table.{Table}
use Rattle.forms.specs.Forms.{Words, Line, lines_of, words_of, levels}
use Rattle.forms.specs.Lines.{pairs_in, with_lines, clock_names, pairs, constraints, NothingBroken, TableRefuses, too_long, TableReads, records_of, Recorded, no_line, blank, formed}
use Rattle.forms.proofs.Broken.{Stops, stops_refuses, refused_once, not_both}
use Rattle.forms.proofs.ClockNames.{names_more, pairs_more, lines_keep, keeps_same, all_kept}
use Rattle.forms.proofs.FormNames.{line_named, records_kept}
use Rattle.forms.proofs.FormWords.{form_names, form_pairs}
use Rattle.forms.proofs.LinesPass.{lines_pass}
use Rattle.forms.proofs.Said.{said}
use Rattle.forms.proofs.SplitWords.{Ordered, ordered_to, lines_are, lines_ordered}
use Rattle.std.specs.Prelude.{Ok}
use Rattle.table.specs.Claims.{RefusedExactly, ReadExactly, ReadAs, RecordsAreForms}
use Rattle.table.specs.Reader.{read, refused, Told, tell_of, told, read_lines, most_bytes, read_table, Passes, EveryTablePasses}
use Rattle.table.proofs.ClocksDefined.{Marks, no_marks}
use Rattle.table.proofs.LineAdded.{Builds, builds_on, Added, none_added, one_added}
use Rattle.table.proofs.LineVerdict.{Verdict, line_verdict}
use Rattle.table.proofs.NamesListed.{listed_length}
use Rattle.table.proofs.Renumber.{records_renumbered}

module _ (t : List ℕ) where
  -- ---- what a table that was read has, of lines from line n on, below k implicit clocks: the names us, and behind the records rs, renumbered,
  -- those of the lines; and how it is shaped
  record ReadOn (us : Words) (n k : ℕ) (ls : List Line) (rs : List Constraint) (table : Table) : Type 0 where
    names : said t table.names.spans ≡ us
    named : length table.names.spans ≡ length us
    more : List Constraint
    records : table.records ≡ map (renumbered (length us)) rs ++ more
    recorded : Recorded us n k ls more
    implicit : table.implicit ≡ k + pairs ls
    clocks : length us + (k + pairs ls) ≤ 32
    constraints : length table.records ≤ 64

  abbrev After : (above : List Line) (n : ℕ) (ls : List Line) (rs : List Constraint) → Checked Table → Type 0
  After above n ls rs (passed table) = NothingBroken above ls × ReadOn (with_lines (clock_names above) ls) n (pairs above) ls rs table
  After above n ls rs (stopped m p) = (k : ℕ) × Stops above ls m k × (p ≡ n + k)

  module _ (above : List Line) (l : Line) (ls : List Line) where
    same_names : with_lines (clock_names above) (l ∷ ls) ≡ with_lines (clock_names (above ++ l ∷ [])) ls
    unfolding with_lines
    same_names = ap (λ (us : Words). with_lines us ls) (sym (names_more [] above l))

    same_pairs : pairs (above ++ l ∷ []) + pairs ls ≡ pairs above + pairs (l ∷ ls)
    unfolding pairs
    same_pairs = omega (arith, pairs_more above l)

    -- a line more in front
    line_more : (n : ℕ) (rs qs more : List Constraint) (table : Table) (r : ReadOn (with_lines (clock_names (above ++ l ∷ [])) ls) (n + 1) (pairs (above ++ l ∷ [])) ls qs table)
        → map (renumbered (length (with_lines (clock_names (above ++ l ∷ [])) ls))) qs ++ r.more ≡ map (renumbered (length (with_lines (clock_names (above ++ l ∷ [])) ls))) rs ++ more
        → Recorded (with_lines (clock_names (above ++ l ∷ [])) ls) n (pairs above) (l ∷ ls) more → ReadOn (with_lines (clock_names above) (l ∷ ls)) n (pairs above) (l ∷ ls) rs table
    line_more n rs qs more table r e d = rw same_names (record {
      names = r.names;
      named = r.named;
      more = more;
      records = r.records ∙ e;
      recorded = d;
      implicit = r.implicit ∙ same_pairs;
      clocks = rw (← same_pairs) r.clocks;
      constraints = r.constraints;
    })

    read_on_lem : (n : ℕ) (rs qs : List Constraint) (table : Table) → Added (clock_names (above ++ l ∷ [])) n (pairs above) l rs qs
        → ReadOn (with_lines (clock_names (above ++ l ∷ [])) ls) (n + 1) (pairs (above ++ l ∷ [])) ls qs table → ReadOn (with_lines (clock_names above) (l ∷ ls)) n (pairs above) (l ∷ ls) rs table
    read_on_lem n rs _ table (none_added e) r = line_more n rs rs r.more table r refl (blank e (subst (λ (k : ℕ). Recorded (with_lines (clock_names (above ++ l ∷ [])) ls) (n + 1) k ls r.more) none r.recorded))
      where
        none : pairs (above ++ l ∷ []) ≡ pairs above
        none = let z : pairs_in (words_of l) ≡ 0 = ap pairs_in e ∙ unfold pairs_in in refl in omega (arith, pairs_more above l)
    read_on_lem n rs _ table (one_added {f = f} h) r =
        line_more n rs (rs ++ records_of us 32 n (pairs above) f) (records_of vs (length vs) n (pairs above) f ++ r.more) table r
        (ap (λ (qs : List Constraint). qs ++ r.more) (map-append (renumbered (length vs)) rs (records_of us 32 n (pairs above) f) ∙ ap (λ (qs : List Constraint). map (renumbered (length vs)) rs ++ qs) same) ∙ append_assoc (map (renumbered (length vs)) rs) (records_of vs (length vs) n (pairs above) f) r.more)
        (formed h (subst (λ (k : ℕ). Recorded vs (n + 1) k ls r.more) (pairs_more above l ∙ ap (λ (j : ℕ). pairs above + j) (form_pairs levels h)) r.recorded))
      where
        us : Words
        us = clock_names (above ++ l ∷ [])

        vs : Words
        vs = with_lines us ls

        few : length vs ≤ 32
        few = omega (arith, r.clocks)

        same : map (renumbered (length vs)) (records_of us 32 n (pairs above) f) ≡ records_of vs (length vs) n (pairs above) f
        same =
            ap (map (renumbered (length vs))) (sym (records_kept us vs (lines_keep us ls) 32 n (pairs above) f (line_named above l f h)))
            ∙ records_renumbered vs few n (pairs above) f (all_kept us vs (form_names f) (lines_keep us ls) (line_named above l f h))

    after_line : (n : ℕ) (rs : List Constraint) (P : Builder → Type 0) (s : Checked Builder) (f : Builder → Checked Table) → Verdict P above l n s
        → ((c : Builder) → P c → (qs : List Constraint) × Added (clock_names (above ++ l ∷ [])) n (pairs above) l rs qs × After (above ++ l ∷ []) (n + 1) ls qs (f c)) → After above n (l ∷ ls) rs (and_then s f)
    unfolding and_then NothingBroken
    after_line n rs P (stopped m p) f v ih = let e : p ≡ n = v.2 in (0, (v.0, v.1), omega arith)
    after_line n rs P (passed c) f v ih = let r = ih c v.1 in go (f c) r.0 r.1 r.2
      where
        go : (x : Checked Table) (qs : List Constraint) → Added (clock_names (above ++ l ∷ [])) n (pairs above) l rs qs → After (above ++ l ∷ []) (n + 1) ls qs x → After above n (l ∷ ls) rs x
        go (passed table) qs d a = ((v.0, a.0), read_on_lem n rs qs table d a.1)
        go (stopped m p) qs d a = let e : p ≡ n + 1 + a.0 = a.2 in (suc a.0, (v.0, a.1), omega arith)

  -- the table once its last line is read
  finished : (at n : ℕ) (above : List Line) (rs : List Constraint) (b : Builder) → Builds t at above rs b → ReadOn (clock_names above) n (pairs above) [] rs (finish b)
  unfolding pairs
  finished at n above rs b g = record {
    names = g.names.words g.few;
    named = count;
    more = [];
    records = ap (map (renumbered (length b.table.names.spans))) g.records ∙ rw (count, append-nil);
    recorded = no_line;
    implicit = g.implicit ∙ omega arith;
    clocks = omega (arith, g.clocks);
    constraints = omega (arith, g.most, ap length g.records, length-map b.table.records (renumbered (length b.table.names.spans)));
  }
    where
      count : length b.table.names.spans ≡ length (clock_names above)
      count = sym (listed_length t b.table.names) ∙ ap length (g.names.words g.few)

  all_lines : (at n : ℕ) (above : List Line) (rs : List Constraint) (b : Builder) (ls : List Span) → Builds t at above rs b → Ordered at (length t) ls → After above n (said t ls) rs (read_lines t n b ls)
  unfolding read_lines NothingBroken with_lines pairs
  all_lines at n above rs b [] g o = (tt, finished at n above rs b g)
  all_lines at n above rs b (l ∷ ls) g o =
      let h : l.end ≤ length t = ordered_to l.end (length t) ls o.2 in
      let d : Builds t l.start above rs b = builds_on t at l.start o.0 above rs b g in
      after_line above (bytes_of t l) (said t ls) n rs _ _ _ (line_verdict t l.start l.end n o.1 h above rs b d) (λ c x.
      (x.records, x.added, all_lines l.end (n + 1) (above ++ bytes_of t l ∷ []) x.records c ls x.builds o.2))

  start_builds : Builds t 0 [] [] start
  unfolding with_lines pairs constraints
  start_builds = record {
    names = record { room = omega arith; inside = tt; kept = keeps_same []; over = refl; words = λ e. refl };
    few = refl;
    count = refl;
    records = refl;
    most = omega arith;
    marks = subst (Marks []) (sym bits_zero) no_marks;
    implicit = refl;
    clocks = omega arith;
  }

  read_lines_lem : After [] 1 (lines_of t) [] (read_lines t 1 start (pieces_at (in_class Newline) t 0))
  read_lines_lem = rw (← lines_are t) (all_lines 0 1 [] [] start (pieces_at (in_class Newline) t 0) start_builds (lines_ordered t))

  -- ---- what the reader comes to is so of the text
  abbrev Answer : Checked Table → Type 0
  Answer (passed table) = TableReads t × ReadAs t table × Passes table
  Answer (stopped m p) = TableRefuses t (number_of m) p

  abbrev lines : Checked Table
  lines = read_lines t 1 start (pieces_at (in_class Newline) t 0)

  -- the names and the records are those of the lines, and 59 and 60 let them pass
  read_table_lem : (table : Table) → NothingBroken [] (lines_of t) → ReadOn (clock_names (lines_of t)) 1 0 (lines_of t) [] table → ReadAs t table × Passes table
  read_table_lem table h r =
      let i : table.implicit ≡ pairs (lines_of t) = r.implicit ∙ omega arith in (
        record { names = r.names; records = rw r.records r.recorded; implicit = i },
        record {
          records = rw (r.named, i, r.records) (lines_pass (lines_of t) r.more h r.recorded (omega (arith, r.clocks)) (omega (arith, r.constraints, ap length r.records)));
          words = start_passes 1 64 table.records;
          constraints = r.constraints;
          clocks = omega (arith, r.named, i, r.clocks);
        },
      )

  answer : Answer (refuse_if (ltb most_bytes (length t)) TableLength 0 lines)
  answer = go (ltb most_bytes (length t)) refl
    where
      of_lines : length t ≤ 4_096 → (c : Checked Table) → After [] 1 (lines_of t) [] c → Answer c
      of_lines h (passed table) a = let p = read_table_lem table a.0 (unfold with_lines pairs in a.1) in ((h, a.0), p.0, p.1)
      of_lines h (stopped m p) a = rw a.2 (stops_refuses t h m a.0 a.1)

      go : (x : Bool) → ltb most_bytes (length t) ≡ x → Answer (refuse_if x TableLength 0 lines)
      go true q = let h : most_bytes < length t = ltb-true most_bytes (length t) q in too_long (omega arith)
      go false q = let h : length t ≤ most_bytes = ltb-false most_bytes (length t) q in of_lines (omega arith) lines read_lines_lem

  -- ---- and nothing else is
  module _ (n p : ℕ) where
    refused_so : (c : Checked Table) → Answer c → ((tell_of c).said ≡ refused n p) ↔ TableRefuses t n p
    refused_so (passed table) a = (λ e. let z : ◌≡◌ {A = ℕ} 0 1 = cc in absurd (omega arith), λ r. absurd (not_both t a.0 r))
    refused_so (stopped m q) a = (to, from)
      where
        to : refused (number_of m) q ≡ refused n p → TableRefuses t n p
        to e =
            let i : number_of m ≡ n = cc in
            let j : q ≡ p = cc in
            rw (← i, ← j) a

        from : TableRefuses t n p → refused (number_of m) q ≡ refused n p
        from r = let h = refused_once t a r in rw (h.0, h.1)

  read_so : (c : Checked Table) → Answer c → ((tell_of c).said ≡ read) ↔ TableReads t
  read_so (passed table) a = (λ e. a.0, λ r. refl)
  read_so (stopped m q) a = (λ e. let z : ◌≡◌ {A = ℕ} 0 1 = cc in absurd (omega arith), λ r. absurd (not_both t r a))

  read_as : (c : Checked Table) → Answer c → (tell_of c).said ≡ read → ReadAs t (tell_of c).table × Passes (tell_of c).table
  read_as (passed table) a e = (a.1, a.2)
  read_as (stopped m q) a e = let z : ◌≡◌ {A = ℕ} 0 1 = cc in absurd (omega arith)

  few_clocks : (c : Checked Table) → Answer c → (clocks_in (tell_of c).table).count ≤ 32
  few_clocks (passed table) a = a.2.clocks
  few_clocks (stopped m q) a = omega arith

-- ---- the claims

pub refused_exactly : RefusedExactly
unfolding read_table
refused_exactly t n p = refused_so t n p (refuse_if (ltb most_bytes (length t)) TableLength 0 (lines t)) (answer t)

pub read_exactly : ReadExactly
unfolding read_table
read_exactly t = read_so t (refuse_if (ltb most_bytes (length t)) TableLength 0 (lines t)) (answer t)

pub records_are_forms : RecordsAreForms
unfolding read_table
records_are_forms t e = (read_as t (refuse_if (ltb most_bytes (length t)) TableLength 0 (lines t)) (answer t) e).0

pub every_table_passes : EveryTablePasses
unfolding read_table
every_table_passes t e = (read_as t (refuse_if (ltb most_bytes (length t)) TableLength 0 (lines t)) (answer t) e).1

-- at most 32 clocks
pub most_clocks : (t : List ℕ) (table : Table) → told (Ok table) ≡ read_table t → (clocks_in table).count ≤ 32
unfolding read_table
most_clocks t table e = subst (λ (u : Told). (clocks_in u.table).count ≤ 32) (sym e) (few_clocks t (refuse_if (ltb most_bytes (length t)) TableLength 0 (lines t)) (answer t))
