-- What one constraint means: document 01, "Table text", its table of forms row by row, and document 02's delay (M-105) as its last row. In every
-- row w is the constraint's word before the step, of a delay both its words, and a, b and c say whether that clock is in the step's tick set F.
-- Assumes nothing.
use Rattle.std.specs.Prelude.{◌≡◌, refl, Bool, true, false, not, cond, ◌&&◌, ◌||◌, List, [], ◌∷◌, ◌++◌, ℕ, zero, suc, ◌/◌, min, ltb, leb, eqb, ℤ, pos, negsuc, nat_abs, length, get_or}
use Rattle.std.specs.List.{list_all}
use Rattle.std.specs.Bool.{beq}
use Rattle.std.proofs.Math.IntN.{suc_ℤ, pred_ℤ}
use Rattle.std.specs.Int.Signed.{le_z}
use Rattle.constraint.specs.Pairs.{first, second, together}
use Rattle.constraint.specs.Ticks.{Ticks, bits, with_tick}
use Rattle.constraint.specs.declared.Constraint.{Constraint}
use Rattle.constraint.specs.declared.Counter.{Counter}
use Rattle.constraint.specs.declared.Counter.TheVariants.{Fixed, Gap, Lead, Countdown, StrictSample, Sample, Until, Pending}
use Rattle.constraint.specs.declared.Definition.{Definition}
use Rattle.constraint.specs.declared.Definition.TheVariants.{Union, Inter, Lub, Glb, Await, StrictlySampled, Sampled, Upto, Deferred}
use Rattle.constraint.specs.declared.Kind.{Kind}
use Rattle.constraint.specs.declared.Kind.TheVariants.{Empty, Relates, Defines}
use Rattle.constraint.specs.declared.Relation.{Relation}
use Rattle.constraint.specs.declared.Relation.TheVariants.{Coincides, Excludes, SubClock, StrictlyPrecedes, Precedes}
use Rattle.constraint.specs.declared.Range.{Range}
use Rattle.constraint.specs.declared.Word.{Word}

infix 40 ◌only_with◌ ◌exactly_when◌
abbrev pub ◌only_with◌ : Bool → Bool → Bool
x only_with y = not x || y

abbrev pub ◌exactly_when◌ : Bool → Bool → Bool
x exactly_when y = beq x y

-- ---- the tests that the table makes on a word: w > 0, w < 0, w = n

abbrev pub word : ℤ → Word
word z = record { first = z; second = pos 0 }

abbrev pub positive : ℤ → Bool
positive (pos zero) = false
positive (pos (suc n)) = true
positive (negsuc n) = false

abbrev pub negative : ℤ → Bool
negative (pos n) = false
negative (negsuc n) = true

abbrev pub equals : ℕ → ℤ → Bool
equals zero (pos zero) = true
equals zero (pos (suc m)) = false
equals (suc n) (pos zero) = false
equals (suc n) (pos (suc m)) = equals n (pos m)
equals n (negsuc m) = false

abbrev pub above : Word → Bool
above w = positive w.first

abbrev pub below : Word → Bool
below w = negative w.first

abbrev pub is : ℕ → Word → Bool
is n w = equals n w.first

-- ---- a delay: its words, its list, and what a step does to them

-- the pending ticks, of which bit k - 1 is that with the k-th next tick of b
abbrev pub pending : Word → ℕ
pending w = nat_abs (first w)

-- how many numbers of the list are used
abbrev pub used : Word → ℕ
used w = nat_abs (second w)

-- the next number; 0 where the list is used up
abbrev pub next_number : List ℕ → Word → ℕ
next_number ns w = get_or ns (used w) 0

-- b ticks: the pending ticks are one tick of b nearer
abbrev pub shifted : Word → Word
shifted w = together (pending w / 2) (used w)

-- a ticks: a tick is planned with the n-th next tick of b, and one number more is used; 0 plans nothing
abbrev pub planned : ℕ → Word → Word
planned zero w = w
planned (suc k) w = together (with_tick (pending w) k) (suc (used w))

-- first b, then a, so that a tick of b beside a does not count
abbrev pub delayed : List ℕ → Word → (a b : Bool) → Word
delayed ns w a b = planned (cond a (next_number ns w) 0) (cond b (shifted w) w)

-- ---- column "Holds when"

abbrev pub relates : Relation → Word → (a b : Bool) → Bool
-- a = b: both or neither tick
relates Coincides w a b = a exactly_when b
-- a # b: not both
relates Excludes w a b = not (a && b)
-- a isSubClockOf b: a in F only with b
relates SubClock w a b = a only_with b
-- a strictly precedes b: w > 0, or b not in F
relates StrictlyPrecedes w a b = above w || not b
-- a precedes b: w > 0, or b only with a
relates Precedes w a b = above w || b only_with a

-- when the clock that a definition defines is due to tick
abbrev pub due : Definition → Word → (a b : Bool) → Bool
-- a clockUnion b: a or b
due Union w a b = a || b
-- a clockInter b: a and b
due Inter w a b = a && b
-- a lub b: w > 0, b; w < 0, a; w = 0, both
due Lub w a b = above w && b || below w && a || is 0 w && (a && b)
-- a glb b: w > 0, a; w < 0, b; w = 0, either
due Glb w a b = above w && a || below w && b || is 0 w && (a || b)
-- await n a: w = 1 and a
due (Await n) w a b = is 1 w && a
-- a strictly sampled b: w = 1 and b
due StrictlySampled w a b = is 1 w && b
-- a sampled b: w = 2, a and b; w = 1, b; w = 0, never
due Sampled w a b = is 2 w && (a && b) || is 1 w && b
-- a upto b: w = 1, a and not b
due Upto w a b = is 1 w && (a && not b)
-- a deferred b for n ..: b, and the tick that is pending with the next b
due (Deferred ns) w a b = b && bits (pending w) 0

abbrev pub holds_when : Kind → Word → (a b c : Bool) → Bool
holds_when Empty w a b c = true
holds_when (Relates k) w a b c = relates k w a b
holds_when (Defines k) w a b c = c exactly_when due k w a b

-- ---- column "Word: start, range, change"

abbrev pub relation_counter : Relation → Counter
relation_counter Coincides = Fixed
relation_counter Excludes = Fixed
relation_counter SubClock = Fixed
relation_counter StrictlyPrecedes = Gap
relation_counter Precedes = Gap

abbrev pub definition_counter : Definition → Counter
definition_counter Union = Fixed
definition_counter Inter = Fixed
definition_counter Lub = Lead
definition_counter Glb = Lead
definition_counter (Await n) = Countdown n
definition_counter StrictlySampled = StrictSample
definition_counter Sampled = Sample
definition_counter Upto = Until
definition_counter (Deferred ns) = Pending ns

abbrev pub counter_of : Kind → Counter
counter_of Empty = Fixed
counter_of (Relates k) = relation_counter k
counter_of (Defines k) = definition_counter k

-- the number of an await; one above 2^32 - 1 counts as that, and neither passes 59
abbrev pub awaited : ℕ → ℕ
awaited n = min n 4_294_967_295

-- of a counter that has one word, the second being 0
abbrev pub row : (start low high : ℤ) → Range
row s l h = record { start = s; low = l; high = h; most_used = pos 0 }

abbrev pub counter_range : Counter → Range
counter_range Fixed = row (pos 0) (pos 0) (pos 0)
counter_range Gap = row (pos 0) (pos 0) (pos 1_000_000)
counter_range Lead = row (pos 0) (negsuc 999_999) (pos 1_000_000)
counter_range (Countdown n) = row (pos (awaited n)) (pos 0) (pos (awaited n))
counter_range StrictSample = row (pos 2) (pos 0) (pos 2)
counter_range Sample = row (pos 2) (pos 0) (pos 2)
counter_range Until = row (pos 1) (pos 0) (pos 1)
-- 0 and 0; pending 0 to 2^32 - 1, used 0 to the list's length
counter_range (Pending ns) = record { start = pos 0; low = pos 0; high = pos 4_294_967_295; most_used = pos (length ns) }

-- what a step does to a word
pub data Change : Type 0 where
  Keep : Change
  Up : Change
  Down : Change
  Zero : Change
  One : Change
  Becomes : Word → Change

-- plus 1 for a, minus 1 for b
abbrev pub tally : (a b : Bool) → Change
tally true true = Keep
tally true false = Up
tally false true = Down
tally false false = Keep

abbrev pub change : Counter → Word → (a b : Bool) → Change
-- none
change Fixed w a b = Keep
-- plus 1 for a, minus 1 for b
change Gap w a b = tally a b
change Lead w a b = tally a b
-- minus 1 for a while w > 0
change (Countdown n) w a b = cond (above w && a) Down Keep
-- 2 to 1 on a; 1 to 0 on b
change StrictSample w a b = cond (is 2 w && a) One (cond (is 1 w && b) Zero Keep)
-- from 2: to 0 on both, to 1 on a alone; 1 to 0 on b
change Sample w a b = cond (is 2 w && (a && b)) Zero (cond (is 2 w && a) One (cond (is 1 w && b) Zero Keep))
-- 1 to 0 on b
change Until w a b = cond (is 1 w && b) Zero Keep
-- the pending ticks shifted on b; then, on a, the next number planned
change (Pending ns) w a b = Becomes (delayed ns w a b)

-- the word with another first word
abbrev pub with_first : Word → ℤ → Word
with_first w z = record { first = z; second = w.second }

abbrev pub moved : Change → Word → Word
moved Keep w = w
moved Up w = with_first w (suc_ℤ w.first)
moved Down w = with_first w (pred_ℤ w.first)
moved Zero w = with_first w (pos 0)
moved One w = with_first w (pos 1)
moved (Becomes v) w = v

-- ---- which clocks a form names: the one that it defines, and its operands

abbrev pub defined_by : {A : Type 0} → Kind → A → List A
defined_by Empty c = []
defined_by (Relates k) c = []
defined_by (Defines k) c = c ∷ []

abbrev pub operands : {A : Type 0} → Definition → (a b : A) → List A
operands Union a b = a ∷ b ∷ []
operands Inter a b = a ∷ b ∷ []
operands Lub a b = a ∷ b ∷ []
operands Glb a b = a ∷ b ∷ []
operands (Await n) a b = a ∷ []
operands StrictlySampled a b = a ∷ b ∷ []
operands Sampled a b = a ∷ b ∷ []
operands Upto a b = a ∷ b ∷ []
operands (Deferred ns) a b = a ∷ b ∷ []

abbrev pub operands_of : {A : Type 0} → Kind → (a b : A) → List A
operands_of Empty a b = []
operands_of (Relates k) a b = a ∷ b ∷ []
operands_of (Defines k) a b = operands k a b

abbrev pub named : {A : Type 0} → Kind → (a b c : A) → List A
named k a b c = defined_by k c ++ operands_of k a b

-- ---- of a record

abbrev pub holds : Constraint → Word → Ticks → Bool
holds r w F = holds_when r.kind w (F r.first) (F r.second) (F r.defined)

abbrev pub next_word : Constraint → Word → Ticks → Word
next_word r w F = moved (change (counter_of r.kind) w (F r.first) (F r.second)) w

abbrev pub word_range : Constraint → Range
word_range r = counter_range (counter_of r.kind)

abbrev pub start : Constraint → Word
start r = word (word_range r).start

abbrev pub between : (low high : ℤ) → ℤ → Bool
between l h z = le_z l z && le_z z h

abbrev pub within : Range → ℤ → Bool
within s z = between s.low s.high z

-- a word in a range
abbrev pub fits : Range → Word → Bool
fits s w = within s w.first && between (pos 0) s.most_used w.second

abbrev pub in_range : Constraint → Word → Bool
in_range r w = fits (word_range r) w

abbrev pub defined_of : Constraint → List ℕ
defined_of r = defined_by r.kind r.defined

abbrev pub used_of : Constraint → List ℕ
used_of r = operands_of r.kind r.first r.second

abbrev pub clocks_of : Constraint → List ℕ
clocks_of r = defined_of r ++ used_of r

-- ---- 59, as far as it looks at one record: a clock number not below the clock count, a clock twice, an await number out of range, a list of
-- delays that has no number, more than eight, or one that is not 1 to 32

abbrev pub all_below : ℕ → List ℕ → Bool
all_below clocks [] = true
all_below clocks (i ∷ is) = ltb i clocks && all_below clocks is

abbrev pub among : ℕ → List ℕ → Bool
among i [] = false
among i (j ∷ js) = eqb i j || among i js

abbrev pub distinct : List ℕ → Bool
distinct [] = true
distinct (i ∷ is) = not (among i is) && distinct is

-- a number of a delay's list
abbrev pub delay_fits : ℕ → Bool
delay_fits n = leb 1 n && leb n 32

abbrev pub parameter_fits : Counter → Bool
parameter_fits Fixed = true
parameter_fits Gap = true
parameter_fits Lead = true
parameter_fits (Countdown n) = leb 1 n && leb n 1_000_000
parameter_fits StrictSample = true
parameter_fits Sample = true
parameter_fits Until = true
parameter_fits (Pending ns) = (leb 1 (length ns) && leb (length ns) 8) && list_all delay_fits ns

abbrev pub clocks_fit : ℕ → List ℕ → Bool
clocks_fit clocks is = all_below clocks is && distinct is

abbrev pub well_formed : ℕ → Constraint → Bool
well_formed clocks r = clocks_fit clocks (clocks_of r) && parameter_fits (counter_of r.kind)

-- ---- some rows: lub with b behind; a sampling that waits for b; the words of an await; what an await names; of a delay for `2 3` a
-- tick of b before its time, and a step of a and b

lub_behind : due Lub (word (pos 1)) false true ≡ true
lub_behind = refl

sampled_waits : change Sample (word (pos 1)) true true ≡ Zero
sampled_waits = refl

await_words : counter_range (Countdown 3) ≡ row (pos 3) (pos 0) (pos 3)
await_words = refl

await_names : (n : ℕ) → named {A = ℕ} (Defines (Await n)) 0 1 2 ≡ 2 ∷ 0 ∷ []
await_names n = refl

not_yet : (ns : List ℕ) → due (Deferred ns) (together 2 1) false true ≡ false
not_yet ns = refl

both_tick : delayed (2 ∷ 3 ∷ []) (together 1 0) true true ≡ together 2 1
both_tick = refl
