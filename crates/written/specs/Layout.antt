-- A recording in document 01's plain layout: each declaration, mark and tick on a line, words parted by one space, byte 32, every line ended
-- by byte 10. Assumes nothing.
use Rattle.std.specs.Prelude.{◌≡◌, refl, List, [], ◌∷◌, ◌++◌, ℕ, get_or}
use Rattle.text.specs.Ascii.{ascii}
use Rattle.text.specs.Digits.{digits, digits_of}

-- a variable to be declared: the bytes of its id and of its name
pub record WrittenVariable : Type 0 where
  pub id : List ℕ
  pub name : List ℕ

-- a tick: the byte that is written as its value, and the variable, by its index
pub record WrittenTick : Type 0 where
  pub value : ℕ
  pub variable : ℕ

-- a step: its time, and its ticks
pub record WrittenStep : Type 0 where
  pub time : ℕ
  pub ticks : List WrittenTick

-- a line by its first word and the others
unfoldable pub line : List ℕ → List (List ℕ) → List ℕ
line w [] = w ++ 10 ∷ []
line w (x ∷ ws) = w ++ 32 ∷ line x ws

-- one text behind another
unfoldable pub texts : {A : Type 0} → (A → List ℕ) → List A → List ℕ
texts f [] = []
texts f (a ∷ l) = f a ++ texts f l

-- the words behind `$var`
abbrev pub declaration_words : WrittenVariable → List (List ℕ)
declaration_words v = ascii "event" ∷ ascii "1" ∷ v.id ∷ v.name ∷ ascii "$end" ∷ []

abbrev pub declaration : WrittenVariable → List ℕ
declaration v = line (ascii "$var") (declaration_words v)

abbrev pub definitions_end : List ℕ
definitions_end = line (ascii "$enddefinitions") (ascii "$end" ∷ [])

-- `#` is byte 35
abbrev pub mark : (time : ℕ) → List ℕ
mark t = line (35 ∷ digits t) []

-- a tick: its value, then the id
abbrev pub tick : (value : ℕ) (id : List ℕ) → List ℕ
tick b i = line (b ∷ i) []

abbrev pub variable_at : List WrittenVariable → ℕ → WrittenVariable
variable_at vs i = get_or vs i (record { id = []; name = [] })

abbrev pub tick_at : List WrittenVariable → WrittenTick → List ℕ
tick_at vs i = tick i.value (variable_at vs i.variable).id

abbrev pub step : List WrittenVariable → WrittenStep → List ℕ
step vs s = mark s.time ++ texts (tick_at vs) s.ticks

abbrev pub header : List WrittenVariable → List ℕ
header vs = texts declaration vs ++ definitions_end

abbrev pub written : List WrittenVariable → List WrittenStep → List ℕ
written vs ss = header vs ++ texts (step vs) ss

-- ---- an example

abbrev pub two : List WrittenVariable
two = record { id = ascii "!"; name = ascii "req" } ∷ record { id = ascii "\"\""; name = ascii "ack" } ∷ []

-- a `1`, and in the last step an `x` and a `0`
abbrev pub three : List WrittenStep
three =
    record { time = 0; ticks = record { value = 49; variable = 0 } ∷ [] }
    ∷ record { time = 7; ticks = [] }
    ∷ record { time = 120; ticks = record { value = 120; variable = 1 } ∷ record { value = 48; variable = 0 } ∷ [] }
    ∷ []

three_steps : written two three ≡ ascii "$var event 1 ! req $end\n$var event 1 \"\" ack $end\n$enddefinitions $end\n#0\n1!\n#7\n#120\nx\"\"\n0!\n"
unfolding line texts digits digits_of
three_steps = refl
