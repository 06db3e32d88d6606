-- The table that is being built: its records and names so far, the clocks that it defines, and its implicit clocks (document 02, M-101). Assumes
-- nothing.
use Rattle.std.specs.Prelude.{◌≡◌, refl, false, cond, List, [], ◌∷◌, ◌++◌, map, ℕ, ◌+◌, ◌-◌, ltb, leb, length}
use Rattle.constraint.specs.Meaning.{defined_of}
use Rattle.constraint.specs.Ticks.{with_ticks}
use Rattle.constraint.specs.declared.Clocks.{Clocks}
use Rattle.constraint.specs.declared.Constraint.{Constraint}
use Rattle.grammar.specs.declared.Builder.{Builder}
use Rattle.grammar.specs.declared.Inner.{Inner}
use Rattle.grammar.specs.declared.Names.{Names}
use Rattle.grammar.specs.declared.Table.{Table}

-- no constraint, and no name
abbrev pub no_names : Names
no_names = record { spans = []; over = false }

abbrev pub empty_table : Table
empty_table = record { records = []; names = no_names; implicit = 0 }

abbrev pub start : Builder
start = record { table = empty_table; defined = 0 }

-- ---- the implicit clocks of a line

-- a constraint that defines the clock c
abbrev pub defining : ℕ → Constraint → Constraint
defining c r = record { kind = r.kind; defined = c; first = r.first; second = r.second; line = r.line }

-- before a line's first: the lines above have this many
abbrev pub no_inner : ℕ → Inner
no_inner implicit = record { clocks = implicit; definitions = [] }

-- until all names are known they have the numbers from 32 on; they are counted to 33, which is more than any table may have
abbrev pub provisional : ℕ → ℕ
provisional j = cond (ltb j 33) (32 + j) 65

abbrev pub counted : ℕ → ℕ
counted j = cond (ltb j 33) (j + 1) j

-- a right side in parentheses becomes one more, with a definition behind the others; there is room for 32
abbrev pub with_implicit : Inner → Constraint → Inner
with_implicit s r =
    cond (leb 32 (length s.definitions))
    (record { clocks = counted s.clocks; definitions = s.definitions })
    (record { clocks = counted s.clocks; definitions = s.definitions ++ defining (provisional s.clocks) r ∷ [] })

-- ---- the constraints of a line

-- a constraint on its line
abbrev pub on_its_line : ℕ → Constraint → Constraint
on_its_line n r = record { kind = r.kind; defined = r.defined; first = r.first; second = r.second; line = record { 0 = n } }

-- one constraint more, on line n, behind the others; a full table stays as it is
abbrev pub with_constraint : ℕ → Builder → Constraint → Builder
with_constraint n b r =
    cond (leb 64 (length b.table.records)) b
    (record {
      table = record { records = b.table.records ++ on_its_line n r ∷ []; names = b.table.names; implicit = b.table.implicit };
      defined = with_ticks b.defined (defined_of r);
    })

unfoldable pub with_constraints : ℕ → Builder → List Constraint → Builder
with_constraints n b [] = b
with_constraints n b (r ∷ rs) = with_constraints n (with_constraint n b r) rs

-- the names with those of a line, and its implicit clocks
abbrev pub naming : Builder → Names → Inner → Builder
naming b ns s = record { table = record { records = b.table.records; names = ns; implicit = s.clocks }; defined = b.defined }

-- a line more: the definitions of its implicit clocks, and then its own constraint
abbrev pub with_line : ℕ → Builder → Names → Inner → Constraint → Builder
with_line n b ns s r = with_constraint n (with_constraints n (naming b ns s) s.definitions) r

-- ---- the table once its last line is read: the implicit clocks come straight behind the names

abbrev pub renumber : (named : ℕ) → ℕ → ℕ
renumber named c = cond (ltb c 32) c (c - (32 - named))

abbrev pub renumbered : (named : ℕ) → Constraint → Constraint
renumbered named r = record {
  kind = r.kind;
  defined = renumber named r.defined;
  first = renumber named r.first;
  second = renumber named r.second;
  line = r.line;
}

abbrev pub finish : Builder → Table
finish b = record { records = map (renumbered (length b.table.names.spans)) b.table.records; names = b.table.names; implicit = b.table.implicit }

-- a table's constraints, and its clocks
abbrev pub constraints_in : Table → List Constraint
constraints_in t = t.records

abbrev pub clocks_in : Table → Clocks
clocks_in t = record { named = length t.names.spans; count = length t.names.spans + t.implicit }

-- the first and the third implicit clock, behind five names
behind_five : map (renumber 5) (provisional 0 ∷ provisional 2 ∷ 4 ∷ []) ≡ 5 ∷ 7 ∷ 4 ∷ []
behind_five = refl
