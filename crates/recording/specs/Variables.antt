-- The variables that a header declares: document 01, "Recording", and document 02, M-103. Assumes nothing.
use Rattle.std.specs.Prelude.{◌≡◌, refl, Bool, true, false, not, cond, ◌&&◌, ◌||◌, List, [], ◌∷◌, ℕ, zero, suc, eqb, leb, length, Option, Some, None}
use Rattle.text.specs.Ascii.{ascii}
use Rattle.text.specs.Bytes.{same_bytes}
use Rattle.grammar.specs.Grammar.{clock_of}
use Rattle.grammar.specs.Names.{number_in}
use Rattle.grammar.specs.declared.Names.{Names}
use Rattle.recording.specs.declared.UnknownNames.{UnknownNames}
use Rattle.recording.specs.declared.UnknownNames.TheVariants.{Refused, Ignored}

-- a variable: the bytes of its id, and the number of its clock
pub record Variable : Type 0 where
  pub id : List ℕ
  pub clock : ℕ

-- the number of the table's clock with a name. That of a name that the table lacks is the number of no clock: in the body such a variable is ignored
abbrev pub ignored : ℕ
ignored = 32

abbrev pub clock_named : List ℕ → Names → List ℕ → ℕ
clock_named t ns w = clock_of (number_in t ns w)

-- document 02, M-103: a variable whose name the table lacks is refused unless told to ignore it. Whether it is, by the number of its clock
abbrev pub refuses_unknown : UnknownNames → (clock : ℕ) → Bool
refuses_unknown Refused k = eqb k ignored
refuses_unknown Ignored k = false

-- what a header is read by: the number of the table's clock with a name, how many clocks the table names, and what becomes of other names
pub record Naming : Type 0 where
  pub named : List ℕ → ℕ
  pub count : ℕ
  pub unknown : UnknownNames

abbrev pub naming_in : (table : List ℕ) → Names → UnknownNames → Naming
naming_in t ns u = record { named = clock_named t ns; count = length ns.spans; unknown = u }

-- the clock of the variable with an id
unfoldable pub with_id : List Variable → List ℕ → Option ℕ
with_id [] w = None
with_id (v ∷ vs) w = cond (same_bytes v.id w) (Some v.clock) (with_id vs w)

-- an id over 4 bytes is undeclared
abbrev pub look_up : List Variable → List ℕ → Option ℕ
look_up vs w = cond (leb (length w) 4) (with_id vs w) None

abbrev pub is_declared : Option ℕ → Bool
is_declared (Some k) = true
is_declared None = false

-- a variable of the table's clock k
unfoldable pub has_clock : List Variable → ℕ → Bool
has_clock [] k = false
has_clock (v ∷ vs) k = eqb v.clock k || has_clock vs k

-- a table clock declared again
abbrev pub clock_again : List Variable → ℕ → Bool
clock_again vs k = not (eqb k ignored) && has_clock vs k

-- the clocks below a number are declared
unfoldable pub all_declared : List Variable → ℕ → Bool
all_declared vs zero = true
all_declared vs (suc k) = has_clock vs k && all_declared vs k

-- ---- examples: an id over 4 bytes is undeclared; an ignored variable may be declared again

found : look_up (record { id = ascii "!"; clock = 3 } ∷ []) (ascii "!") ≡ Some 3
unfolding with_id same_bytes
found = refl

too_long : look_up (record { id = ascii "!!!!!"; clock = 3 } ∷ []) (ascii "!!!!!") ≡ None
too_long = refl

again : clock_again (record { id = ascii "!"; clock = 3 } ∷ []) 3 ≡ true
unfolding has_clock
again = refl

ignored_again : clock_again (record { id = ascii "!"; clock = ignored } ∷ []) ignored ≡ false
ignored_again = refl
