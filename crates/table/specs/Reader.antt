-- Lines in their order, each with its checks in theirs: document 01, "Table text" and the first two rows of "Where each refusal is
-- checked". Assumes nothing.
use Rattle.std.specs.Prelude.{◌≡◌, Bool, false, not, cond, ◌&&◌, ◌||◌, List, [], ◌∷◌, ℕ, ◌+◌, ◌≤◌, eqb, ltb, leb, length, take, drop, None, Result, Ok, Err}
use Rattle.limit.specs.Checked.{Checked, passed, stopped, refuse_if, and_then}
use Rattle.limit.specs.Limit.{number_of}
use Rattle.limit.specs.declared.Refusal.{Refusal}
use Rattle.limit.specs.declared.Limit.TheVariants.{TableLength, LineByte, NestingDepth, Unpaired, LineForm, NameLength, AwaitNumber, DelayNumber, ClockTwice, DefinedTwice, TableClocks, TableConstraints}
use Rattle.constraint.specs.Lists.{slots, broken_record, broken_word, start_words}
use Rattle.constraint.specs.Meaning.{defined_of}
use Rattle.constraint.specs.Ticks.{any, bits}
use Rattle.constraint.specs.declared.Constraint.{Constraint}
use Rattle.text.specs.Bytes.{in_class, all_bytes, same_bytes}
use Rattle.text.specs.Split.{bytes_of, pieces_at, front}
use Rattle.text.specs.declared.Class.TheVariants.{Newline, Space, Printable}
use Rattle.text.specs.declared.Span.{Span}
use Rattle.forms.specs.Lines.{too_deep, unpaired}
use Rattle.grammar.specs.Building.{empty_table, start, no_inner, with_line, finish, clocks_in}
use Rattle.grammar.specs.Grammar.{Parsed, no_form, parsed, Formed, line_words, await_number, delay_list, levels, form_in}
use Rattle.grammar.specs.Names.{with_words}
use Rattle.grammar.specs.Tokens.{is, token_of}
use Rattle.grammar.specs.declared.Builder.{Builder}
use Rattle.grammar.specs.declared.Inner.{Inner}
use Rattle.grammar.specs.declared.Names.{Names}
use Rattle.grammar.specs.declared.Table.{Table}
use Rattle.grammar.specs.declared.Token.TheVariants.{Name, Await, For}

-- ---- what is asked of a word w of a line that has a form; ws are the words after it

unfoldable pub any_word : (Span → List Span → Bool) → List Span → Bool
any_word p [] = false
any_word p (w ∷ ws) = p w ws || any_word p ws

-- a word with the bytes n
abbrev pub same_as : List ℕ → List ℕ → Span → List Span → Bool
same_as t n w ws = same_bytes (bytes_of t w) n

-- 13: name over 16 bytes
abbrev pub long_name : List ℕ → Span → List Span → Bool
long_name t w ws = is Name (token_of (bytes_of t w)) && ltb 16 (length (bytes_of t w))

-- 14: await number outside 1 to 1,000,000
abbrev pub bad_number : List ℕ → Span → List Span → Bool
bad_number t w ws = is Await (token_of (bytes_of t w)) && eqb (await_number (bytes_of t (front t ws))) 0

-- 22: list of delays out of range, none included
abbrev pub bad_list : List ℕ → Span → List Span → Bool
bad_list t w ws = is For (token_of (bytes_of t w)) && eqb (length (delay_list t ws)) 0

-- 15: a clock named twice in the line
abbrev pub twice : List ℕ → Span → List Span → Bool
twice t w ws = is Name (token_of (bytes_of t w)) && any_word (same_as t (bytes_of t w)) ws

-- ---- what a line does to the table so far: the table with it, or the first limit that it breaks, with the line's number n as its place

-- a 33rd clock, named or implicit
abbrev pub many_clocks : Names → Inner → Bool
many_clocks ns s = ns.over || leb 33 (length ns.spans + s.clocks)

-- 64 constraints stand before the line's own: those of the lines above, and the definitions of its implicit clocks
abbrev pub many_constraints : Builder → Inner → Bool
many_constraints b s = leb 64 (length b.table.records + length s.definitions)

-- 16 the clock it defines already defined by an earlier line; 17 a 33rd clock; 18 a 65th constraint
unfoldable pub add_line : ℕ → Builder → Names → Inner → Constraint → Checked Builder
add_line n b ns s r =
    refuse_if (any (bits b.defined) (defined_of r)) DefinedTwice n
    (refuse_if (many_clocks ns s) TableClocks n
    (refuse_if (many_constraints b s) TableConstraints n
    (passed (with_line n b ns s r))))

-- 12 no form fits; then 13, 14, 22, 15, and 16 to 18. The names have those of the line
unfoldable pub form_step : List ℕ → ℕ → Builder → Names → List Span → Parsed (Formed Inner) → Checked Builder
form_step t n b ns ws no_form = stopped LineForm n
form_step t n b ns ws (parsed f us) =
    refuse_if (any_word (long_name t) ws) NameLength n
    (refuse_if (any_word (bad_number t) ws) AwaitNumber n
    (refuse_if (any_word (bad_list t) ws) DelayNumber n
    (refuse_if (any_word (twice t) ws) ClockTwice n
    (add_line n b ns f.left f.constraint))))

-- the clocks are numbered in the order in which the words stand
abbrev pub words_step : List ℕ → ℕ → Builder → List Span → Checked Builder
words_step t n b ws = let ns : Names = with_words t b.table.names ws in form_step t n b ns ws (form_in t levels ns (no_inner b.table.implicit) ws)

-- 11 byte outside 32 to 126; 19 over sixteen parentheses stand open; 20 one has no partner. t is the text up to the line's end, from the line's
-- start
abbrev pub filled_step : List ℕ → ℕ → Builder → ℕ → Checked Builder
filled_step t n b from =
    refuse_if (not (all_bytes (in_class Printable) (drop from t))) LineByte n
    (refuse_if (too_deep 0 (drop from t)) NestingDepth n
    (refuse_if (unpaired 0 (drop from t)) Unpaired n
    (words_step t n b (line_words t from))))

-- blank lines, of spaces alone, mean nothing
abbrev pub blank : List ℕ → ℕ → Bool
blank t from = all_bytes (in_class Space) (drop from t)

abbrev pub line_step : List ℕ → ℕ → Builder → ℕ → Checked Builder
line_step t n b from = cond (blank t from) (passed b) (filled_step t n b from)

-- ---- the table

-- what reading a table says in document 01's words: refused with a limit's number and its place, or read
pub data Said : Type 0 where
  read : Said
  refused : (number place : ℕ) → Said

pub record Told : Type 0 where
  pub said : Said
  pub table : Table

-- a refused table leaves all records empty, and names nothing
abbrev pub tell_of : Checked Table → Told
tell_of (passed b) = record { said = read; table = b }
tell_of (stopped l p) = record { said = refused (number_of l) p; table = empty_table }

-- how reading ended, in code
abbrev pub said : Result (Unit {0}) Refusal → Said
said (Ok u) = read
said (Err r) = refused (number_of r.limit) r.place.0

-- what the reader in code answers stands for
abbrev pub told : Result Table Refusal → Told
told (Ok t) = record { said = read; table = t }
told (Err r) = record { said = refused (number_of r.limit) r.place.0; table = empty_table }

-- the claims: no two values of the answer in code have one meaning
abbrev pub SaidDetermines : Type 0
SaidDetermines = (x y : Result (Unit {0}) Refusal) → said x ≡ said y → x ≡ y

abbrev pub ToldDetermines : Type 0
ToldDetermines = (x y : Result Table Refusal) → told x ≡ told y → x ≡ y

-- line by line, from line n on
unfoldable pub read_lines : List ℕ → ℕ → Builder → List Span → Checked Table
read_lines t n b [] = passed (finish b)
read_lines t n b (l ∷ ls) = and_then (line_step (take l.end t) n b l.start) (λ c. read_lines t (n + 1) c ls)

-- 10 over 4,096 bytes
abbrev pub most_bytes : ℕ
most_bytes = 4_096

unfoldable pub read_table : List ℕ → Told
read_table t = tell_of (refuse_if (ltb most_bytes (length t)) TableLength 0 (read_lines t 1 start (pieces_at (in_class Newline) t 0)))

-- ---- a theorem: the calls on records refuse nothing that the reader made

-- 59 lets a table's records pass with its clocks, and 60 their start words; there is room for both
pub record Passes (table : Table) : Type 0 where
  pub records : broken_record (clocks_in table) table.records ≡ None
  pub words : broken_word table.records (start_words (slots 64 table.records)) ≡ None
  pub constraints : length table.records ≤ 64
  pub clocks : length table.names.spans + table.implicit ≤ 32

abbrev pub EveryTablePasses : Type 0
EveryTablePasses = (t : List ℕ) → (read_table t).said ≡ read → Passes (read_table t).table
