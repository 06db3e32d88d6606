-- The forms of a line, as readers of its words: what stands at their front, and the words after it (document 01, "Table text"; document 02,
-- M-101 and M-105). Every reader of a form takes the reader of operands, and hands on what operands leave for the next one, of any type S; the reader of
-- operands reads a name, or a right side in parentheses with one level less. t is the text up to the line's end. Assumes nothing.
use Rattle.std.specs.Prelude.{Bool, true, false, not, cond, ◌&&◌, List, [], ◌∷◌, ℕ, zero, suc, leb, length, Option, Some, None, Result, Ok, Err}
use Rattle.std.specs.List.{list_all}
use Rattle.constraint.specs.Meaning.{delay_fits}
use Rattle.constraint.specs.declared.Constraint.{Constraint}
use Rattle.constraint.specs.declared.Definition.{Definition}
use Rattle.constraint.specs.declared.Definition.TheVariants.{Union, Inter, Lub, Glb, Await as AwaitKind, StrictlySampled, Sampled, Upto, Deferred}
use Rattle.constraint.specs.declared.Kind.{Kind}
use Rattle.constraint.specs.declared.Kind.TheVariants.{Empty, Relates, Defines}
use Rattle.constraint.specs.declared.Relation.{Relation}
use Rattle.constraint.specs.declared.Relation.TheVariants.{Coincides, Excludes, SubClock, StrictlyPrecedes, Precedes}
use Rattle.text.specs.Digits.{read_decimal}
use Rattle.text.specs.Split.{bytes_of, words_at, front, rest}
use Rattle.text.specs.declared.Class.TheVariants.{Space}
use Rattle.text.specs.declared.Spoilt.{Spoilt}
use Rattle.text.specs.declared.Span.{Span}
use Rattle.grammar.specs.Building.{defining, provisional, with_implicit}
use Rattle.grammar.specs.Names.{number_in}
use Rattle.grammar.specs.Tokens.{is, token_of}
use Rattle.grammar.specs.declared.Inner.{Inner}
use Rattle.grammar.specs.declared.Names.{Names}
use Rattle.grammar.specs.declared.Token.{Token}
use Rattle.grammar.specs.declared.Token.TheVariants.{End, Other, Name, Digits, ClockDef, Await, Strictly, Form, Open, Close, For}

-- the words of a line: parted by one or more spaces
abbrev pub line_words : List ℕ → ℕ → List Span
line_words t at = words_at Space t at

-- what the first word is
abbrev pub token : List ℕ → List Span → Token
token t ws = token_of (bytes_of t (front t ws))

-- a reading: no form fits, or what was read and the words after it
pub data Parsed (A : Type 0) : Type 0 where
  no_form : Parsed A
  parsed : A → List Span → Parsed A

unfoldable pub and_then : {A B : Type 0} → Parsed A → (A → List Span → Parsed B) → Parsed B
and_then no_form f = no_form
and_then (parsed a ws) f = f a ws

unfoldable pub only_if : {A : Type 0} → Bool → Parsed A → Parsed A
only_if true p = p
only_if false p = no_form

-- an operand that was read: what it leaves for the next one, and its clock
pub record Placed (S : Type 0) : Type 0 where
  pub left : S
  pub clock : ℕ

-- a form that was read: what its operands leave, and its constraint
pub record Formed (S : Type 0) : Type 0 where
  pub left : S
  pub constraint : Constraint

-- ---- operands

abbrev pub Operands : Type 0 → Type 0
Operands S = S → List Span → Parsed (Placed S)

abbrev pub clock_of : Option ℕ → ℕ
clock_of (Some k) = k
clock_of None = 32

-- the clock whose name a word is
abbrev pub clock_at : List ℕ → Names → Span → ℕ
clock_at t ns w = clock_of (number_in t ns (bytes_of t w))

-- one name
unfoldable pub name : {S : Type 0} → List ℕ → Names → Operands S
name t ns s ws = only_if (is Name (token t ws)) (parsed (record { left = s; clock = clock_at t ns (front t ws) }) (rest ws))

-- ---- kinds: one word, or two where the first is `strictly`

abbrev pub strict_relation : Relation → Kind
strict_relation Coincides = Empty
strict_relation Excludes = Empty
strict_relation SubClock = Empty
strict_relation StrictlyPrecedes = Empty
strict_relation Precedes = Relates StrictlyPrecedes

abbrev pub strict_definition : Definition → Kind
strict_definition Union = Empty
strict_definition Inter = Empty
strict_definition Lub = Empty
strict_definition Glb = Empty
strict_definition (AwaitKind n) = Empty
strict_definition StrictlySampled = Empty
strict_definition Sampled = Defines StrictlySampled
strict_definition Upto = Empty
strict_definition (Deferred ns) = Empty

abbrev pub strict_kind : Kind → Kind
strict_kind Empty = Empty
strict_kind (Relates k) = strict_relation k
strict_kind (Defines k) = strict_definition k

-- the kind that one word says, empty for none
abbrev pub plain : Token → Kind
plain End = Empty
plain Other = Empty
plain Name = Empty
plain Digits = Empty
plain ClockDef = Empty
plain Await = Empty
plain Strictly = Empty
plain (Form k) = k
plain Open = Empty
plain Close = Empty
plain For = Empty

-- a kind that was read, and the words after it
pub record Kinded : Type 0 where
  pub kind : Kind
  pub after : List Span

unfoldable pub kind_at : List ℕ → List Span → Kinded
kind_at t ws =
    cond (is Strictly (token t ws))
    (record { kind = strict_kind (plain (token t (rest ws))); after = rest (rest ws) })
    (record { kind = plain (token t ws); after = rest ws })

abbrev pub is_kind : Kind → Bool
is_kind Empty = false
is_kind (Relates k) = true
is_kind (Defines k) = true

-- ---- forms, over the reader of operands

-- a number is the value of its digits; 0 stands for one above the most that there may be
abbrev pub up_to : (most : ℕ) → Result ℕ Spoilt → ℕ
up_to most (Err e) = 0
up_to most (Ok n) = cond (leb n most) n 0

abbrev pub number_up_to : (most : ℕ) → List ℕ → ℕ
number_up_to most ds = up_to most (read_decimal ds)

-- the number of an await
abbrev pub await_number : List ℕ → ℕ
await_number ds = number_up_to 1_000_000 ds

abbrev pub sides : Kind → (first second : ℕ) → Constraint
sides k a b = record { kind = k; defined = 0; first = a; second = b; line = record { 0 = 0 } }

-- ---- the list of a delay: the digit runs behind `for`, up to the first other word

unfoldable pub delay_numbers : List ℕ → List Span → List ℕ
delay_numbers t [] = []
delay_numbers t (w ∷ ws) = cond (is Digits (token_of (bytes_of t w))) (number_up_to 32 (bytes_of t w) ∷ delay_numbers t ws) []

-- the words behind it
unfoldable pub past_digits : List ℕ → List Span → List Span
past_digits t [] = []
past_digits t (w ∷ ws) = cond (is Digits (token_of (bytes_of t w))) (past_digits t ws) (w ∷ ws)

-- one to eight numbers, each 1 to 32
abbrev pub all_delays : List ℕ → Bool
all_delays ns = list_all delay_fits ns

abbrev pub is_list : List ℕ → Bool
is_list ns = (leb 1 (length ns) && leb (length ns) 8) && all_delays ns

-- the list without a number stands for one that is out of range
abbrev pub listed : List ℕ → List ℕ
listed ns = cond (is_list ns) ns []

abbrev pub delay_list : List ℕ → List Span → List ℕ
delay_list t ws = listed (delay_numbers t ws)

abbrev pub is_deferred : Definition → Bool
is_deferred Union = false
is_deferred Inter = false
is_deferred Lub = false
is_deferred Glb = false
is_deferred (AwaitKind n) = false
is_deferred StrictlySampled = false
is_deferred Sampled = false
is_deferred Upto = false
is_deferred (Deferred ns) = true

abbrev pub is_delay : Kind → Bool
is_delay Empty = false
is_delay (Relates k) = false
is_delay (Defines k) = is_deferred k

-- what stands behind two operands with a kind between them, of a delay `for` and its list, else nothing; the kind with what it says
unfoldable pub tail : List ℕ → Kind → List Span → Parsed Kind
tail t k ws =
    cond (is_delay k)
    (only_if (is For (token t ws)) (parsed (Defines (Deferred (delay_list t (rest ws)))) (past_digits t (rest ws))))
    (parsed k ws)

module _ {S : Type 0} (t : List ℕ) (operands : Operands S) where
  -- the second operand of a pair whose first is a, and what stands behind it
  unfoldable pub second : Kinded → Placed S → Parsed (Formed S)
  second k a =
      only_if (is_kind k.kind)
      (and_then (operands a.left k.after) (λ b us.
      and_then (tail t k.kind us) (λ j ws. parsed (record { left = b.left; constraint = sides j a.clock b.clock }) ws)))

  -- two operands with a kind between them
  unfoldable pub pair : S → List Span → Parsed (Formed S)
  pair s ws = and_then (operands s ws) (λ a us. second (kind_at t us) a)

  -- a number and an operand, behind `await`
  unfoldable pub await_side : S → List Span → Parsed (Formed S)
  await_side s ws =
      only_if (is Digits (token t ws))
      (and_then (operands s (rest ws)) (λ a us. parsed (record { left = a.left; constraint = sides (Defines (AwaitKind (await_number (bytes_of t (front t ws))))) a.clock 0 }) us))

  -- a right side: of clockDef, or of a line that is a relation
  unfoldable pub expression : S → List Span → Parsed (Formed S)
  expression s ws = cond (is Await (token t ws)) (await_side s (rest ws)) (pair s ws)

-- ---- operands: a name, or a right side in parentheses

-- a kind of the side that is asked for: a definition behind clockDef and in parentheses, a relation in any other line
abbrev pub is_side : Bool → Kind → Bool
is_side d Empty = false
is_side d (Relates k) = not d
is_side d (Defines k) = d

-- the closing parenthesis behind a right side, which becomes an implicit clock
unfoldable pub inner : List ℕ → Formed Inner → List Span → Parsed (Placed Inner)
inner t f ws =
    only_if (is Close (token t ws) && is_side true f.constraint.kind)
    (parsed (record { left = with_implicit f.left f.constraint; clock = provisional f.left.clocks }) (rest ws))

-- a parenthesis uses up one of the levels that are left
unfoldable pub operand : List ℕ → Names → (levels : ℕ) → Operands Inner
operand t ns zero s ws = name t ns s ws
operand t ns (suc n) s ws = cond (is Open (token t ws)) (and_then (expression t (operand t ns n) s (rest ws)) (inner t)) (name t ns s ws)

-- sixteen of them: a seventeenth is 19, before any form is asked
abbrev pub levels : ℕ
levels = 16

-- ---- lines

unfoldable pub at_end : {S : Type 0} → Bool → ℕ → Formed S → List Span → Parsed (Formed S)
at_end d c f [] = only_if (is_side d f.constraint.kind) (parsed (record { left = f.left; constraint = defining c f.constraint }) [])
at_end d c f (w ∷ ws) = no_form

-- a form after which no word is left, and which defines the clock c
abbrev pub closed : {S : Type 0} → Bool → ℕ → Parsed (Formed S) → Parsed (Formed S)
closed d c p = and_then p (at_end d c)

-- a line: a name, clockDef and a right side, or a relation. clock says which clock a name is
unfoldable pub line_form : {S : Type 0} → List ℕ → (clock : Span → ℕ) → Operands S → S → List Span → Parsed (Formed S)
line_form t clock operands s ws =
    cond (is Name (token t ws) && is ClockDef (token t (rest ws)))
    (closed true (clock (front t ws)) (expression t operands s (rest (rest ws))))
    (closed false 0 (expression t operands s ws))

-- the form of a line in a table that has these names, with operands of this many levels
abbrev pub form_in : List ℕ → (levels : ℕ) → Names → Inner → List Span → Parsed (Formed Inner)
form_in t n ns s ws = line_form t (clock_at t ns) (operand t ns n) s ws
