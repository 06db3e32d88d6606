-- The claims on the reader of tables, by the text alone: it refuses exactly the tables that break a limit, with the number and the line of the
-- one that is checked first; it reads exactly the others, and the records are then the forms of the lines. Assumes nothing.
use Rattle.std.specs.Prelude.{◌≡◌, ◌↔◌, List, map, ℕ}
use Rattle.text.specs.Split.{bytes_of}
use Rattle.grammar.specs.declared.Table.{Table}
use Rattle.forms.specs.Forms.{lines_of}
use Rattle.forms.specs.Lines.{TableRefuses, TableReads, clock_names, pairs, Recorded}
use Rattle.table.specs.Reader.{read, refused, read_table}

abbrev pub RefusedExactly : Type 0
RefusedExactly = (t : List ℕ) (n p : ℕ) → (read_table t).said ≡ refused n p ↔ TableRefuses t n p

abbrev pub ReadExactly : Type 0
ReadExactly = (t : List ℕ) → (read_table t).said ≡ read ↔ TableReads t

-- the names are those of the lines, numbered from 0 at first appearance; the records, in order, are the forms of the lines, each behind those of
-- its inner right sides; and there are as many implicit clocks as pairs of parentheses
pub record ReadAs (t : List ℕ) (table : Table) : Type 0 where
  pub names : map (bytes_of t) table.names.spans ≡ clock_names (lines_of t)
  pub records : Recorded (clock_names (lines_of t)) 1 0 (lines_of t) table.records
  pub implicit : table.implicit ≡ pairs (lines_of t)

abbrev pub RecordsAreForms : Type 0
RecordsAreForms = (t : List ℕ) → (read_table t).said ≡ read → ReadAs t (read_table t).table
