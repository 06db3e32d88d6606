-- The claims: a recording that may be written is read as the steps that it was written from, with these ticks and times, and ends with the
-- end; and a variable whose name the table lacks is refused where the choice says so. g is what the header is read by: the table's names, and the
-- choice what becomes of others. Assumes nothing.
use Rattle.std.specs.Prelude.{◌≡◌, refl, Bool, true, cond, ◌&&◌, List, [], ◌∷◌, ◌++◌, map, ℕ, ◌+◌, ◌^◌, ◌≤◌, ◌<◌, leb, length}
use Rattle.limit.specs.declared.Limit.TheVariants.{VariableUnknown}
use Rattle.constraint.specs.Ticks.{none, adding_all, number}
use Rattle.text.specs.Ascii.{ascii}
use Rattle.text.specs.Bytes.{all_bytes, same_bytes}
use Rattle.text.specs.Digits.{digits, digits_of}
use Rattle.recording.specs.BeforeWords.{recorded}
use Rattle.recording.specs.Body.{Reading, ended, refused_at, reading}
use Rattle.recording.specs.Variables.{Variable, Naming, has_clock, ignored}
use Rattle.recording.specs.declared.Step.{Step}
use Rattle.recording.specs.declared.UnknownNames.TheVariants.{Refused}
use Rattle.written.specs.Layout.{WrittenVariable, WrittenTick, WrittenStep, line, texts, declaration, variable_at, step, header, written, two, three}

-- ---- what reading is to give

-- the variables as reading keeps them
abbrev pub variables : (named : List ℕ → ℕ) → List WrittenVariable → List Variable
variables named vs = map (λ v. record { id = v.id; clock = named v.name }) vs

-- the number of the clock that ticks
abbrev pub clock_of : (named : List ℕ → ℕ) → List WrittenVariable → WrittenTick → ℕ
clock_of named vs i = named (variable_at vs i.variable).name

-- a step with its mark at an offset; of the variables that tick, whatever their values, those that are clocks of the table
abbrev pub read_step : (named : List ℕ → ℕ) → List WrittenVariable → (at : ℕ) → WrittenStep → Step
read_step named vs at s = record {
  mark = record { 0 = at };
  time = record { 0 = s.time };
  ticks = number 32 (adding_all (map (clock_of named vs) s.ticks) none);
}

-- the steps, the first of which has its mark at an offset
unfoldable pub read_steps : (named : List ℕ → ℕ) → List WrittenVariable → (at : ℕ) → List WrittenStep → List Step
read_steps named vs at [] = []
read_steps named vs at (s ∷ ss) = read_step named vs at s ∷ read_steps named vs (at + length (step vs s)) ss

abbrev pub as_read : (named : List ℕ → ℕ) → List WrittenVariable → List WrittenStep → Reading
as_read named vs ss = record { steps = read_steps named vs (length (header vs)) ss; ending = ended }

-- ---- what may be written

-- of each; and of each and every later one
unfoldable pub Each : {A : Type 0} → (A → Type 0) → List A → Type 0
Each P [] = Unit
Each P (a ∷ l) = P a × Each P l

unfoldable pub Apart : {A : Type 0} → (A → A → Type 0) → List A → Type 0
Apart P [] = Unit
Apart P (a ∷ l) = Each (P a) l × Apart P l

-- one or more bytes from 33 to 126
abbrev pub graphic : ℕ → Bool
graphic b = leb 33 b && leb b 126

pub record Graphic (w : List ℕ) : Type 0 where
  pub some : 0 < length w
  pub bytes : all_bytes graphic w ≡ true

-- document 02, M-100: each of 0, 1, x, X, z, Z
pub data Value : ℕ → Type 0 where
  is_0 : Value 48
  is_1 : Value 49
  is_x : Value 120
  is_X : Value 88
  is_z : Value 122
  is_Z : Value 90

-- not the same clock of the table
abbrev pub Differ : ℕ → ℕ → Type 0
Differ j k = j ≡ k → j ≡ ignored

pub record Declarable (g : Naming) (vs : List WrittenVariable) : Type 0 where
  -- ids have 1 to 4 bytes and are distinct
  pub ids : Each (λ v. Graphic v.id) vs
  pub short : Each (λ v. length v.id ≤ 4) vs
  pub distinct : Apart (λ u v. u.id ≡ v.id → ⊥) vs
  -- no clock of the table is named twice
  pub names : Each (λ v. Graphic v.name) vs
  pub once : Apart (λ u v. Differ (g.named u.name) (g.named v.name)) vs
  -- document 02, M-103: where a name that the table lacks is refused, all are the table's
  pub known : g.unknown ≡ Refused → Each (λ v. g.named v.name ≡ ignored → ⊥) vs
  -- there are at most 128
  pub few : length vs ≤ 128

pub record Writable (g : Naming) (vs : List WrittenVariable) (ss : List WrittenStep) : Type 0 where
  pub declarations : Declarable g vs
  -- the names cover the table's clocks
  pub covers : (k : ℕ) → k < g.count → has_clock (variables g.named vs) k ≡ true
  -- times rise
  pub times : Each (λ s. s.time < 2 ^ 64) ss
  pub rise : Apart (λ s t. s.time < t.time) ss
  -- variables tick, with any of the values, no clock of the table twice in a step
  pub values : Each (λ s. Each (λ i. Value i.value) s.ticks) ss
  pub declared : Each (λ s. Each (λ i. i.variable < length vs) s.ticks) ss
  pub single : Each (λ s. Apart (λ i j. Differ (clock_of g.named vs i) (clock_of g.named vs j)) s.ticks) ss
  pub fits : length (written vs ss) ≤ 65_536

abbrev pub WrittenIsRead : Type 0
WrittenIsRead = (g : Naming) (vs : List WrittenVariable) (ss : List WrittenStep) → Writable g vs ss → reading g (written vs ss) ≡ as_read g.named vs ss

-- ---- a name that the table lacks: document 02, M-103

-- behind variables that may be declared, one with an id of its own and a name that the table lacks, where such are refused
pub record Misnamed (g : Naming) (vs : List WrittenVariable) (v : WrittenVariable) (later : List ℕ) : Type 0 where
  pub declarations : Declarable g vs
  pub id : Graphic v.id
  pub short : length v.id ≤ 4
  pub distinct : Each (λ u. u.id ≡ v.id → ⊥) vs
  pub name : Graphic v.name
  pub lacks : g.named v.name ≡ ignored
  pub refuses : g.unknown ≡ Refused
  -- whatever stands behind it passes 30 and 31
  pub bytes : all_bytes recorded later ≡ true
  pub fits : length (texts declaration vs ++ (declaration v ++ later)) ≤ 65_536

-- it is 38, at the offset of its `$var`, and no step is read
abbrev pub MisnamedIsRefused : Type 0
MisnamedIsRefused =
    (g : Naming) (vs : List WrittenVariable) (v : WrittenVariable) (later : List ℕ)
    → Misnamed g vs v later
    → reading g (texts declaration vs ++ (declaration v ++ later)) ≡ record { steps = []; ending = refused_at VariableUnknown (length (texts declaration vs)) }

-- ---- the example of Layout, with a table of the two clocks

abbrev pub by_name : List ℕ → ℕ
by_name w = cond (same_bytes w (ascii "req")) 0 (cond (same_bytes w (ascii "ack")) 1 ignored)

three_read : (as_read by_name two three).steps
    ≡ record { mark = record { 0 = 70 }; time = record { 0 = 0 }; ticks = 1 }
    ∷ record { mark = record { 0 = 76 }; time = record { 0 = 7 }; ticks = 0 }
    ∷ record { mark = record { 0 = 79 }; time = record { 0 = 120 }; ticks = 3 }
    ∷ []
unfolding read_steps line texts digits digits_of same_bytes
three_read = refl

-- behind its two variables, one that is misnamed stands at 49
misnamed_at : length (texts declaration two) ≡ 49
unfolding texts line
misnamed_at = refl
