-- Kinds, records and answers as numbers: what `include/ccsl_monitor.h` says of their layout. Assumes nothing.
use Rattle.std.specs.Prelude.{◌≡◌, refl, Bool, true, cond, ◌&&◌, List, [], ◌∷◌, ◌++◌, map, ℕ, zero, suc, ◌+◌, ◌-◌, ◌*◌, ◌/◌, ◌%◌, ◌≤◌, eqb, leb, ℤ, length, get_or, take, replicate}
use Rattle.std.specs.List.{flat_map}
use Rattle.constraint.specs.Meaning.{parameter_fits}
use Rattle.constraint.specs.Pairs.{first, second, paired}
use Rattle.constraint.specs.SamePlace as place
use Rattle.constraint.specs.declared.Clocks.{Clocks}
use Rattle.constraint.specs.declared.Configuration.{Configuration}
use Rattle.constraint.specs.declared.Constraint.{Constraint}
use Rattle.constraint.specs.declared.Counter.TheVariants.{Pending}
use Rattle.constraint.specs.declared.Definition.TheVariants.{Union, Inter, Lub, Glb, Await, StrictlySampled, Sampled, Upto, Deferred}
use Rattle.constraint.specs.declared.Kind.{Kind}
use Rattle.constraint.specs.declared.Kind.TheVariants.{Empty, Relates, Defines}
use Rattle.constraint.specs.declared.Relation.TheVariants.{Coincides, Excludes, SubClock, StrictlyPrecedes, Precedes}
use Rattle.constraint.specs.declared.Word.{Word}
use Rattle.text.specs.declared.Span.{Span}
use Rattle.table.specs.Reader as table
use Rattle.recording.specs.declared.UnknownNames.{UnknownNames}
use Rattle.recording.specs.declared.UnknownNames.TheVariants.{Refused, Ignored}
use Rattle.run.specs.Run as run
use Rattle.judging.specs.Single as single
use Rattle.lent.specs.Start as start
use Rattle.order.specs.Order as order
use Rattle.monitor_c.specs.declared.AnswerNumbers.{AnswerNumbers}

-- ---- what becomes of a variable whose name the table lacks

abbrev pub unknown_refused : ℕ
unknown_refused = 0

abbrev pub unknown_ignored : ℕ
unknown_ignored = 1

-- the choice that a number stands for; ccsl_run takes no number above the two
abbrev pub unknown_of : ℕ → UnknownNames
unknown_of n = cond (eqb n unknown_refused) Refused Ignored

-- ---- records: kind, c, a, b, n, line, numbers, count

-- a number above the most that is let pass counts as that
abbrev pub at_most : (most n : ℕ) → ℕ
at_most most n = cond (leb n most) n most

abbrev pub clock_of : ℕ → ℕ
clock_of n = at_most 255 n

-- how many clocks are named, those with the lowest numbers, and how many there are
abbrev pub clocks_of : (named clocks : ℕ) → Clocks
clocks_of n m = record { named = clock_of n; count = clock_of m }

-- ---- a delay's list in a number

-- the numbers of a list, a number a byte, the first in the lowest, up to a byte that is 0, or to the last of so many bytes
abbrev pub numbers_in : (most : ℕ) → ℕ → List ℕ
numbers_in zero x = []
numbers_in (suc k) x = cond (eqb (x % 256) 0) [] (x % 256 ∷ numbers_in k (x / 256))

abbrev pub numbers : ℕ → List ℕ
numbers x = numbers_in 8 x

-- numbers as they are kept so
abbrev pub packed : List ℕ → ℕ
packed [] = 0
packed (n ∷ ns) = n + 256 * packed ns

-- the list of a delay: the first k of the numbers; the empty list where there are fewer
abbrev pub list_of : (numbers count : ℕ) → List ℕ
list_of x k = cond (leb k (length (numbers x))) (take k (numbers x)) []

-- of the list `2 3` none, one, both, and one more than it has
two_three : map (list_of (2 + 3 * 256)) (0 ∷ 1 ∷ 2 ∷ 3 ∷ []) ≡ [] ∷ (2 ∷ []) ∷ (2 ∷ 3 ∷ []) ∷ [] ∷ []
two_three = refl

-- ---- kinds

-- in the order of their numbers, from 0; an await with its number, and a delay with its list
abbrev pub kinds : ℕ → List ℕ → List Kind
kinds n ns =
    Empty
    ∷ Relates Coincides ∷ Relates Excludes ∷ Relates SubClock ∷ Relates StrictlyPrecedes ∷ Relates Precedes
    ∷ Defines Union ∷ Defines Inter ∷ Defines Lub ∷ Defines Glb ∷ Defines (Await n) ∷ Defines StrictlySampled ∷ Defines Sampled ∷ Defines Upto
    ∷ Defines (Deferred ns) ∷ []

-- the kind with a number; no kind has a number above 14
abbrev pub kind_of : (kind n numbers count : ℕ) → Kind
kind_of k n x m = get_or (kinds (at_most 4_294_967_295 n) (list_of x m)) k Empty

abbrev pub kind_number : Kind → ℕ
kind_number Empty = 0
kind_number (Relates Coincides) = 1
kind_number (Relates Excludes) = 2
kind_number (Relates SubClock) = 3
kind_number (Relates StrictlyPrecedes) = 4
kind_number (Relates Precedes) = 5
kind_number (Defines Union) = 6
kind_number (Defines Inter) = 7
kind_number (Defines Lub) = 8
kind_number (Defines Glb) = 9
kind_number (Defines (Await n)) = 10
kind_number (Defines StrictlySampled) = 11
kind_number (Defines Sampled) = 12
kind_number (Defines Upto) = 13
kind_number (Defines (Deferred ns)) = 14

-- the number n of an await; every other kind has none
abbrev pub await_number : Kind → ℕ
await_number (Defines (Await n)) = n
await_number k = 0

-- the list of a delay; every other kind has none
abbrev pub delay_list : Kind → List ℕ
delay_list (Defines (Deferred ns)) = ns
delay_list k = []

-- ---- rows

-- the eight numbers of a record
pub record RecordRow : Type 0 where
  pub kind : ℕ
  pub c : ℕ
  pub a : ℕ
  pub b : ℕ
  pub n : ℕ
  pub line : ℕ
  pub numbers : ℕ
  pub count : ℕ

abbrev pub record_of : RecordRow → Constraint
record_of s = record {
  kind = kind_of s.kind s.n s.numbers s.count;
  defined = clock_of s.c;
  first = clock_of s.a;
  second = clock_of s.b;
  line = record { 0 = s.line };
}

-- the numbers in rows; what is left at the end is no record
unfoldable pub rows : List ℕ → List RecordRow
rows [] = []
rows (k ∷ []) = []
rows (k ∷ c ∷ []) = []
rows (k ∷ c ∷ a ∷ []) = []
rows (k ∷ c ∷ a ∷ b ∷ []) = []
rows (k ∷ c ∷ a ∷ b ∷ n ∷ []) = []
rows (k ∷ c ∷ a ∷ b ∷ n ∷ l ∷ []) = []
rows (k ∷ c ∷ a ∷ b ∷ n ∷ l ∷ x ∷ []) = []
rows (k ∷ c ∷ a ∷ b ∷ n ∷ l ∷ x ∷ m ∷ ns) = record { kind = k; c = c; a = a; b = b; n = n; line = l; numbers = x; count = m } ∷ rows ns

abbrev pub records_of : List ℕ → List Constraint
records_of ns = map record_of (rows ns)

-- whether every record's number of a kind is one
abbrev pub all_known : List RecordRow → Bool
all_known [] = true
all_known (s ∷ ss) = leb s.kind 14 && all_known ss

abbrev pub kinds_known : List ℕ → Bool
kinds_known ns = all_known (rows ns)

-- the eight numbers from an offset on
abbrev pub row_at : List ℕ → ℕ → RecordRow
row_at ns i = record {
  kind = get_or ns i 0;
  c = get_or ns (i + 1) 0;
  a = get_or ns (i + 2) 0;
  b = get_or ns (i + 3) 0;
  n = get_or ns (i + 4) 0;
  line = get_or ns (i + 5) 0;
  numbers = get_or ns (i + 6) 0;
  count = get_or ns (i + 7) 0;
}

-- whether the first of eight numbers is one of a kind
abbrev pub kind_known : List ℕ → Bool
kind_known row = leb (get_or row 0 0) 14

-- the eight numbers of a record: an await has its n, and a delay its list
abbrev pub numbers_of : Constraint → List ℕ
numbers_of r =
    kind_number r.kind ∷ r.defined ∷ r.first ∷ r.second
    ∷ await_number r.kind
    ∷ r.line.0
    ∷ packed (delay_list r.kind)
    ∷ length (delay_list r.kind)
    ∷ []

-- the numbers of records, in their order
abbrev pub record_numbers : List Constraint → List ℕ
record_numbers rs = flat_map numbers_of rs

-- where names start and end
abbrev pub name_numbers : List Span → List ℕ
name_numbers ps = flat_map (λ (p : Span). p.start ∷ p.end ∷ []) ps

-- numbers in so many places, with 0 in those behind the last
unfoldable pub padded : ℕ → List ℕ → List ℕ
padded n ns = ns ++ replicate (n - length ns) 0

-- ---- configurations

-- of each record its two words
abbrev pub pairs : List ℤ → List Word
pairs [] = []
pairs (w ∷ []) = []
pairs (w ∷ v ∷ ws) = paired w v ∷ pairs ws

abbrev pub configuration_of : List ℤ → Configuration
configuration_of ws = record { words = take 64 (pairs ws) }

-- the two words of each, one behind the other
abbrev pub pair_numbers : List Word → List ℤ
pair_numbers ws = flat_map (λ (w : Word). first w ∷ second w ∷ []) ws

abbrev pub word_numbers : Configuration → List ℤ
word_numbers c = pair_numbers c.words

-- ---- answers: what is said, 0 accepted, 1 violated, 2 refused, and its two numbers

abbrev pub answer_numbers : (said first second : ℕ) → AnswerNumbers
answer_numbers s a b = record { said = s; first = a; second = b }

abbrev pub of_run : run.Said → AnswerNumbers
of_run run.accepted = answer_numbers 0 0 0
of_run (run.violated line time) = answer_numbers 1 line time
of_run (run.refused number place) = answer_numbers 2 number place

abbrev pub of_table : table.Said → AnswerNumbers
of_table table.read = answer_numbers 0 0 0
of_table (table.refused number line) = answer_numbers 2 number line

abbrev pub of_start : start.StartSaid → AnswerNumbers
of_start start.started = answer_numbers 0 0 0
of_start (start.refused number place) = answer_numbers 2 number place

abbrev pub of_step : single.StepSaid → AnswerNumbers
of_step single.accepted = answer_numbers 0 0 0
of_step (single.violated r) = answer_numbers 1 r 0
of_step (single.refused number place) = answer_numbers 2 number place

-- the same place, different places, refused
abbrev pub of_place : place.Answer → AnswerNumbers
of_place place.same = answer_numbers 0 0 0
of_place place.different = answer_numbers 1 0 0
of_place (place.refused number p) = answer_numbers 2 number p

abbrev pub of_order : order.OrderSaid → AnswerNumbers
of_order order.listed = answer_numbers 0 0 0
of_order (order.refused number place) = answer_numbers 2 number place

-- the numbers of an answer, with others behind them
abbrev pub answer_and : AnswerNumbers → List ℕ → List ℕ
answer_and t ns = t.said ∷ t.first ∷ t.second ∷ ns

-- ---- a theorem: records that were written are read back as the same records

-- a record whose numbers fit their fields, and whose list is all that its number has
pub record Fitting (r : Constraint) : Type 0 where
  pub defined : r.defined ≤ 255
  pub first : r.first ≤ 255
  pub second : r.second ≤ 255
  pub list : list_of (packed (delay_list r.kind)) (length (delay_list r.kind)) ≡ delay_list r.kind
  pub number : await_number r.kind ≤ 4_294_967_295

pub data AllFitting : List Constraint → Type 0 where
  none : AllFitting []
  more : {r : Constraint} {rs : List Constraint} → Fitting r → AllFitting rs → AllFitting (r ∷ rs)

abbrev pub ReadBack : Type 0
ReadBack = (rs : List Constraint) → AllFitting rs → (records_of (record_numbers rs) ≡ rs) × (kinds_known (record_numbers rs) ≡ true)

-- ---- a theorem: words that were written are read back as the same configuration

abbrev pub WordsReadBack : Type 0
WordsReadBack = (c : Configuration) → length c.words ≡ 64 → configuration_of (word_numbers c) ≡ c

-- ---- a theorem: 59 of a list that was handed in lets one to eight numbers pass, each 1 to 32

abbrev pub all_fit : (count numbers : ℕ) → Bool
all_fit zero x = true
all_fit (suc k) x = (leb 1 (x % 256) && leb (x % 256) 32) && all_fit k (x / 256)

abbrev pub ListsFit : Type 0
ListsFit = (x k : ℕ) → parameter_fits (Pending (list_of x k)) ≡ ((leb 1 k && leb k 8) && all_fit k x)
