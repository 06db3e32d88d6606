-- What the lines of a table break, and what they say, apart from any reader: document 01, the first two rows of "Where each refusal is
-- checked", 11 to 18 each a row over the text alone, and document 02's 19, 20 and 22; and the records of a table that breaks nothing. Assumes nothing.
use Rattle.std.specs.Prelude.{◌≡◌, refl, Bool, true, false, not, cond, ◌&&◌, ◌||◌, List, [], ◌∷◌, ◌++◌, map, ℕ, suc, ◌+◌, ◌-◌, ◌≤◌, ◌<◌, eqb, ltb, leb, length, replicate}
use Rattle.limit.specs.Limit.{number_of}
use Rattle.limit.specs.declared.Limit.{Limit}
use Rattle.limit.specs.declared.Limit.TheVariants.{TableLength, LineByte, NestingDepth, Unpaired, LineForm, NameLength, AwaitNumber, DelayNumber, ClockTwice, DefinedTwice, TableClocks, TableConstraints}
use Rattle.constraint.specs.declared.Constraint.{Constraint}
use Rattle.constraint.specs.declared.Definition.TheVariants.{Union, Lub, Glb, Await, Upto, Deferred}
use Rattle.constraint.specs.declared.Kind.TheVariants.{Relates, Defines}
use Rattle.constraint.specs.declared.Relation.TheVariants.{Coincides, Precedes}
use Rattle.text.specs.Ascii.{ascii}
use Rattle.text.specs.Bytes.{all_bytes, same_bytes}
use Rattle.forms.specs.Forms.{Word, Words, Line, grow, parts, nonempty, lines_of, words_of, one_of, name_shape, is_name, Right, both, awaits, delays, Form, relates, defines, IsForm, Operand, name, both_inside, awaits_inside, delays_inside, inner, IsOperand, HasForm}

-- ---- what is counted of a line: its names, its pairs of parentheses, and its constraints

unfoldable pub names_in : Words → Words
names_in [] = []
names_in (w ∷ ws) = cond (is_name w) (w ∷ names_in ws) (names_in ws)

-- the parentheses that open, which are as many as the pairs where each has its partner
unfoldable pub pairs_in : Words → ℕ
pairs_in [] = 0
pairs_in (w ∷ ws) = cond (same_bytes w (ascii "(")) (suc (pairs_in ws)) (pairs_in ws)

-- each pair of parentheses is an implicit clock with a definition, which stands before the line's own constraint
unfoldable pub constraints_in : Words → ℕ
constraints_in [] = 0
constraints_in (w ∷ ws) = suc (pairs_in (w ∷ ws))

-- the names so far, and those of some words that are new, in the order of first appearance
unfoldable pub with_names : Words → Words → Words
with_names ns [] = ns
with_names ns (w ∷ ws) = with_names (cond (one_of ns w) ns (ns ++ w ∷ [])) ws

unfoldable pub with_lines : Words → List Line → Words
with_lines ns [] = ns
with_lines ns (l ∷ ls) = with_lines (with_names ns (names_in (words_of l))) ls

-- the names of the clocks of some lines: clocks are numbered from 0 at first appearance
abbrev pub clock_names : List Line → Words
clock_names ls = with_lines [] ls

unfoldable pub pairs : List Line → ℕ
pairs [] = 0
pairs (l ∷ ls) = pairs_in (words_of l) + pairs ls

-- named clocks and implicit ones
abbrev pub clocks : List Line → ℕ
clocks ls = length (clock_names ls) + pairs ls

unfoldable pub constraints : List Line → ℕ
constraints [] = 0
constraints (l ∷ ls) = constraints_in (words_of l) + constraints ls

-- the await numbers of a form, inner ones too
abbrev pub operand_numbers : Operand → List ℕ
operand_numbers (name w) = []
operand_numbers (both_inside k x y) = operand_numbers x ++ operand_numbers y
operand_numbers (awaits_inside n x) = n ∷ operand_numbers x
operand_numbers (delays_inside ns x y) = operand_numbers x ++ operand_numbers y

abbrev pub await_numbers : Form Operand → List ℕ
await_numbers (relates k x y) = operand_numbers x ++ operand_numbers y
await_numbers (defines c r) = operand_numbers (inner r)

-- and its lists of delays
abbrev pub operand_lists : Operand → List (List ℕ)
operand_lists (name w) = []
operand_lists (both_inside k x y) = operand_lists x ++ operand_lists y
operand_lists (awaits_inside n x) = operand_lists x
operand_lists (delays_inside ns x y) = operand_lists x ++ (operand_lists y ++ ns ∷ [])

abbrev pub delay_lists : Form Operand → List (List ℕ)
delay_lists (relates k x y) = operand_lists x ++ operand_lists y
delay_lists (defines c r) = operand_lists (inner r)

-- ---- parentheses from left to right, whatever stands between them; k stand open

-- behind a byte: a closer without partner closes none
abbrev pub opened : (k byte : ℕ) → ℕ
opened k b = cond (eqb b 40) (suc k) (cond (eqb b 41) (k - 1) k)

-- over sixteen stand open somewhere
unfoldable pub too_deep : (k : ℕ) → Line → Bool
too_deep k [] = false
too_deep k (b ∷ bs) = ltb 16 (opened k b) || too_deep (opened k b) bs

-- the claim: where 19 is not broken, sixteen levels are as good as any number of them
abbrev pub SixteenLevelsAreEnough : Type 0
SixteenLevelsAreEnough = (n : ℕ) (l : Line) (f : Form Operand) → too_deep 0 l ≡ false → IsForm (IsOperand n) (words_of l) f → HasForm l f

-- one has no partner: a closer where none stands open, or an opener at the end
unfoldable pub unpaired : (k : ℕ) → Line → Bool
unpaired k [] = not (eqb k 0)
unpaired k (b ∷ bs) = eqb b 41 && eqb k 0 || unpaired (opened k b) bs

-- ---- what a line breaks, below the lines above it. A line without words can break 11 alone

pub data Some {A : Type 0} (P : A → Type 0) : List A → Type 0 where
  here : {x : A} {xs : List A} → P x → Some P (x ∷ xs)
  later : {x : A} {xs : List A} → Some P xs → Some P (x ∷ xs)

-- a line has words
abbrev pub Filled : Line → Type 0
Filled l = words_of l ≡ [] → ⊥

-- the clock that a line defines
abbrev pub DefinesClock : Word → Line → Type 0
DefinesClock c l = (r : Right Operand) × HasForm l (defines c r)

-- a list of delays that is out of range: no number or over eight, or one that is outside 1 to 32
pub data ListOutside (ns : List ℕ) : Type 0 where
  no_number : length ns < 1 → ListOutside ns
  many_numbers : 8 < length ns → ListOutside ns
  number_outside : Some (λ n. 1 ≤ n → n ≤ 32 → ⊥) ns → ListOutside ns

pub data Breaks (above : List Line) (l : Line) : Limit → Type 0 where
  -- 11 byte outside 32 to 126
  byte_outside : Some (λ b. (leb 32 b && leb b 126) ≡ false) l → Breaks above l LineByte
  -- 19 over sixteen parentheses stand open
  nested_too_deep : too_deep 0 l ≡ true → Breaks above l NestingDepth
  -- 20 one has no partner
  no_partner : unpaired 0 l ≡ true → Breaks above l Unpaired
  -- 12 no form fits
  fits_no_form : Filled l → ((f : Form Operand) → HasForm l f → ⊥) → Breaks above l LineForm
  -- 13 name over 16 bytes
  name_too_long : Some (λ n. 16 < length n) (names_in (words_of l)) → Breaks above l NameLength
  -- 14 await number outside 1 to 1,000,000
  await_number_outside : {f : Form Operand} → HasForm l f → Some (λ n. 1 ≤ n → n ≤ 1_000_000 → ⊥) (await_numbers f) → Breaks above l AwaitNumber
  -- 22 a list of delays out of range
  delay_list_outside : {f : Form Operand} → HasForm l f → Some ListOutside (delay_lists f) → Breaks above l DelayNumber
  -- 15 a clock named twice in the line
  name_twice : (a b d : Words) (n : Word) → names_in (words_of l) ≡ a ++ n ∷ (b ++ n ∷ d) → Breaks above l ClockTwice
  -- 16 the clock it defines already defined by an earlier line
  defined_above : {c : Word} → DefinesClock c l → Some (DefinesClock c) above → Breaks above l DefinedTwice
  -- 17 a 33rd clock
  too_many_clocks : Filled l → 32 < clocks (above ++ l ∷ []) → Breaks above l TableClocks
  -- 18 a 65th constraint
  too_many_constraints : Filled l → 64 < constraints (above ++ l ∷ []) → Breaks above l TableConstraints

-- ---- when a table is refused, and when it is read

-- the checks of a line in their order
abbrev pub line_checks : List Limit
line_checks = LineByte ∷ NestingDepth ∷ Unpaired ∷ LineForm ∷ NameLength ∷ AwaitNumber ∷ DelayNumber ∷ ClockTwice ∷ DefinedTwice ∷ TableClocks ∷ TableConstraints ∷ []

-- how many of some checks come before one
abbrev pub turn_in : List Limit → Limit → ℕ
turn_in [] m = 0
turn_in (k ∷ ks) m = cond (eqb (number_of k) (number_of m)) 0 (suc (turn_in ks m))

abbrev pub turn : Limit → ℕ
turn m = turn_in line_checks m

abbrev pub BreaksNothing : (above : List Line) → Line → Type 0
BreaksNothing above l = (m : Limit) → Breaks above l m → ⊥

-- line by line, the lines above standing first
unfoldable pub NothingBroken : (above lines : List Line) → Type 0
NothingBroken above [] = Unit {0}
NothingBroken above (l ∷ ls) = BreaksNothing above l × NothingBroken (above ++ l ∷ []) ls

-- 10 over 4,096 bytes, at 0; or the lines above break nothing, and this one breaks a limit, and none that is checked before it
pub data TableRefuses (t : List ℕ) : (number place : ℕ) → Type 0 where
  too_long : 4_096 < length t → TableRefuses t (number_of TableLength) 0
  by_line : (above below : List Line) (l : Line) {m : Limit}
      → length t ≤ 4_096
      → lines_of t ≡ above ++ l ∷ below
      → NothingBroken [] above
      → Breaks above l m
      → ((k : Limit) → turn k < turn m → Breaks above l k → ⊥)
      → TableRefuses t (number_of m) (length above + 1)

abbrev pub TableReads : List ℕ → Type 0
TableReads t = (length t ≤ 4_096) × NothingBroken [] (lines_of t)

-- ---- the records of some lines: each form with its clocks numbered, on its line

-- where a name stands among others
unfoldable pub standing : Words → Word → ℕ
standing [] w = 0
standing (n ∷ ns) w = cond (same_bytes n w) 0 (suc (standing ns w))

-- how many implicit clocks an operand, a right side and a form have: one for each right side in parentheses
abbrev pub implicits : Operand → ℕ
implicits (name w) = 0
implicits (both_inside k x y) = suc (implicits x + implicits y)
implicits (awaits_inside n x) = suc (implicits x)
implicits (delays_inside ns x y) = suc (implicits x + implicits y)

abbrev pub side_implicits : Right Operand → ℕ
side_implicits (both k x y) = implicits x + implicits y
side_implicits (awaits n x) = implicits x
side_implicits (delays ns x y) = implicits x + implicits y

abbrev pub form_implicits : Form Operand → ℕ
form_implicits (relates k x y) = implicits x + implicits y
form_implicits (defines c r) = side_implicits r

-- of names ns, where the first implicit clock has the number `from`, on line n. Fields that a form does not use are 0
module _ (ns : Words) (from n : ℕ) where
  -- the clock of an operand, k implicit clocks standing before it: a name's, or that of the implicit clock which follows those within it
  abbrev pub clock_of : (k : ℕ) → Operand → ℕ
  clock_of k (name w) = standing ns w
  clock_of k (both_inside d x y) = from + (k + (implicits x + implicits y))
  clock_of k (awaits_inside m x) = from + (k + implicits x)
  clock_of k (delays_inside ms x y) = from + (k + (implicits x + implicits y))

  -- the record of a right side that defines the clock c
  abbrev pub side_record : (k c : ℕ) → Right Operand → Constraint
  side_record k c (both d x y) = record { kind = Defines d; defined = c; first = clock_of k x; second = clock_of (k + implicits x) y; line = record { 0 = n } }
  side_record k c (awaits m x) = record { kind = Defines (Await m); defined = c; first = clock_of k x; second = 0; line = record { 0 = n } }
  side_record k c (delays ms x y) = record { kind = Defines (Deferred ms); defined = c; first = clock_of k x; second = clock_of (k + implicits x) y; line = record { 0 = n } }

  -- the definitions of an operand's implicit clocks: left before right, inner before outer
  abbrev pub operand_records : (k : ℕ) → Operand → List Constraint
  operand_records k (name w) = []
  operand_records k (both_inside d x y) = (operand_records k x ++ operand_records (k + implicits x) y) ++ side_record k (clock_of k (both_inside d x y)) (both d x y) ∷ []
  operand_records k (awaits_inside m x) = operand_records k x ++ side_record k (clock_of k (awaits_inside m x)) (awaits m x) ∷ []
  operand_records k (delays_inside ms x y) = (operand_records k x ++ operand_records (k + implicits x) y) ++ side_record k (clock_of k (delays_inside ms x y)) (delays ms x y) ∷ []

  abbrev pub side_records : (k : ℕ) → Right Operand → List Constraint
  side_records k (both d x y) = operand_records k x ++ operand_records (k + implicits x) y
  side_records k (awaits m x) = operand_records k x
  side_records k (delays ms x y) = operand_records k x ++ operand_records (k + implicits x) y

  -- those of a form, and its own behind them
  abbrev pub form_records : (k : ℕ) → Form Operand → List Constraint
  form_records k (relates j x y) = operand_records k x ++ operand_records (k + implicits x) y
  form_records k (defines c r) = side_records k r

  abbrev pub own_record : (k : ℕ) → Form Operand → Constraint
  own_record k (relates j x y) = record { kind = Relates j; defined = 0; first = clock_of k x; second = clock_of (k + implicits x) y; line = record { 0 = n } }
  own_record k (defines c r) = side_record k (standing ns c) r

  abbrev pub records_of : (k : ℕ) → Form Operand → List Constraint
  records_of k f = form_records k f ++ own_record k f ∷ []

-- of lines of which the first has the number n, k implicit clocks standing in the lines above them: implicit clocks have their numbers behind
-- all names
pub data Recorded (ns : Words) : (n k : ℕ) → List Line → List Constraint → Type 0 where
  no_line : {n k : ℕ} → Recorded ns n k [] []
  blank : {n k : ℕ} {l : Line} {ls : List Line} {rs : List Constraint} → words_of l ≡ [] → Recorded ns (n + 1) k ls rs → Recorded ns n k (l ∷ ls) rs
  formed : {n k : ℕ} {l : Line} {f : Form Operand} {ls : List Line} {rs : List Constraint}
      → HasForm l f → Recorded ns (n + 1) (k + form_implicits f) ls rs → Recorded ns n k (l ∷ ls) (records_of ns (length ns) n k f ++ rs)

-- ---- the clocks of two lines, by first appearance; the constraints of three, one of them blank

three_clocks : clock_names (ascii "b = a" ∷ ascii "c clockDef a lub b" ∷ []) ≡ ascii "b" ∷ ascii "a" ∷ ascii "c" ∷ []
unfolding with_lines with_names names_in parts grow nonempty name_shape one_of all_bytes same_bytes
three_clocks = refl

two_constraints : constraints (ascii "b = a" ∷ ascii "  " ∷ ascii "a # b" ∷ []) ≡ 2
unfolding constraints constraints_in pairs_in parts grow nonempty same_bytes
two_constraints = refl

-- `((a clockUnion b)upto c)precedes d`: three constraints on four named clocks and two implicit ones, which are 4, the union, and 5
abbrev nested : Line
nested = ascii "((a clockUnion b)upto c)precedes d"

abbrev nested_form : Form Operand
nested_form = relates Precedes (inner (both Upto (inner (both Union (name (ascii "a")) (name (ascii "b")))) (name (ascii "c")))) (name (ascii "d"))

nested_counts : (clocks (nested ∷ []) ∷ constraints (nested ∷ []) ∷ []) ≡ 6 ∷ 3 ∷ []
unfolding with_lines with_names names_in pairs pairs_in constraints constraints_in parts grow nonempty name_shape one_of all_bytes same_bytes
nested_counts = refl

nested_records_lem : map (λ r. r.defined ∷ r.first ∷ r.second ∷ []) (records_of (clock_names (nested ∷ [])) 4 1 0 nested_form) ≡ (4 ∷ 0 ∷ 1 ∷ []) ∷ (5 ∷ 4 ∷ 2 ∷ []) ∷ (0 ∷ 5 ∷ 3 ∷ []) ∷ []
unfolding standing with_lines with_names names_in parts grow nonempty name_shape one_of all_bytes same_bytes
nested_records_lem = refl

-- `(a lub b)=(c glb d)`: left before right
left_first : map (λ r. r.defined ∷ r.first ∷ r.second ∷ []) (records_of (ascii "a" ∷ ascii "b" ∷ ascii "c" ∷ ascii "d" ∷ []) 4 1 0
    (relates Coincides (inner (both Lub (name (ascii "a")) (name (ascii "b")))) (inner (both Glb (name (ascii "c")) (name (ascii "d"))))))
    ≡ (4 ∷ 0 ∷ 1 ∷ []) ∷ (5 ∷ 2 ∷ 3 ∷ []) ∷ (0 ∷ 4 ∷ 5 ∷ []) ∷ []
unfolding standing same_bytes
left_first = refl

-- sixteen that stand open, and a seventeenth; behind a closer without partner; as many of both, and none with its partner
deep : map (too_deep 0) (replicate 16 40 ∷ replicate 17 40 ∷ (41 ∷ replicate 17 40) ∷ (replicate 16 40 ++ 41 ∷ 40 ∷ []) ∷ []) ≡ false ∷ true ∷ true ∷ false ∷ []
unfolding too_deep
deep = refl

partners : map (unpaired 0) (ascii "(a lub b) = c" ∷ ascii "(a lub b = c" ∷ ascii "a) = b" ∷ ascii ")(" ∷ ascii "()" ∷ []) ≡ false ∷ true ∷ true ∷ true ∷ false ∷ []
unfolding unpaired
partners = refl
