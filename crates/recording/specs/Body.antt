-- The body: document 01, "Recording" and the rows 40 to 44 of "Where each refusal is checked", with the values of document 02, M-100. Reading
-- alone, with nothing judged, gives the steps that were closed, each by a word that opens with `#` or by the end, and how reading ended.
-- Assumes nothing.
use Rattle.std.specs.Prelude.{◌≡◌, refl, Bool, true, false, not, cond, ◌||◌, List, [], ◌∷◌, ℕ, zero, suc, ◌+◌, eqb, leb, Option, Some, None, Result, Ok, Err}
use Rattle.limit.specs.declared.Limit.{Limit}
use Rattle.limit.specs.declared.Limit.TheVariants.{BodyWord, MarkTime, ChangeBeforeMark, IdUndeclared, TickTwice}
use Rattle.constraint.specs.Ticks.{bits, with_tick}
use Rattle.text.specs.Ascii.{ascii}
use Rattle.text.specs.Bytes.{all_bytes, same_bytes}
use Rattle.text.specs.Digits.{read_decimal, over_at, value}
use Rattle.text.specs.Split.{bytes_of, run_end, tokens, filled, grown}
use Rattle.text.specs.declared.Spoilt.{Spoilt}
use Rattle.text.specs.declared.Spoilt.TheVariants.{NotDigit, TooLarge}
use Rattle.text.specs.declared.Span.{Span}
use Rattle.limit.specs.Checked.{Checked, passed, stopped, refuse_if}
use Rattle.recording.specs.Header.{Header, opened, words}
use Rattle.recording.specs.Variables.{Variable, Naming, look_up, with_id}
use Rattle.recording.specs.declared.Step.{Step}

-- `#` is byte 35
abbrev pub opens_mark : List ℕ → Bool
opens_mark [] = false
opens_mark (b ∷ bs) = eqb b 35

-- document 02, M-100: each of `0`, `1`, `x`, `X`, `z`, `Z` before an id is a tick. The value has no meaning
abbrev pub is_value : ℕ → Bool
is_value b = eqb b 48 || eqb b 49 || eqb b 120 || eqb b 88 || eqb b 122 || eqb b 90

-- a step begins
abbrev pub begin : (at time : ℕ) → Step
begin at t = record { mark = record { 0 = at }; time = record { 0 = t }; ticks = 0 }

-- the open step with a tick of a clock
abbrev pub ticking : ℕ → Step → Step
ticking k s = record { mark = s.mark; time = s.time; ticks = with_tick s.ticks k }

-- whether a time is not above that of the open step. There is none before any mark
abbrev pub is_late : Option Step → (time : ℕ) → Bool
is_late None t = false
is_late (Some s) t = leb t s.time.0

-- a mark, by what is read behind its `#`: 40 no digits, or other bytes among them; 41 time above 2^64 - 1 or not above the last. Document 02, M-106:
-- the place is the byte that spoils it; that of a time not above the last is the word
abbrev pub time_turn : Option Step → (at : ℕ) → Result ℕ Spoilt → Checked Step
time_turn o at (Err (NotDigit i)) = stopped BodyWord (at + 1 + i)
time_turn o at (Err (TooLarge i)) = stopped MarkTime (at + 1 + i)
time_turn o at (Ok t) = refuse_if (is_late o t) MarkTime at (passed (begin at t))

-- a word that opens with `#`
unfoldable pub mark_turn : Option Step → (at : ℕ) → List ℕ → Checked Step
mark_turn o at [] = stopped BodyWord at
mark_turn o at (b ∷ ds) = time_turn o at (read_decimal ds)

-- a tick of the variable that was found: 43 id undeclared; 44 a table clock's second tick in a step
abbrev pub found_turn : Step → (at : ℕ) → Option ℕ → Checked Step
found_turn s at None = stopped IdUndeclared at
found_turn s at (Some k) = refuse_if (bits s.ticks k) TickTwice at (passed (ticking k s))

-- a tick of a variable: 42 before any mark
abbrev pub variable_turn : List Variable → Option Step → (at : ℕ) → (id : List ℕ) → Checked Step
variable_turn vs None at id = stopped ChangeBeforeMark at
variable_turn vs (Some s) at id = found_turn s at (look_up vs id)

-- a word that opens no mark: 40 no value with an id behind it
unfoldable pub change_turn : List Variable → Option Step → (at : ℕ) → List ℕ → Checked Step
change_turn vs o at [] = stopped BodyWord at
change_turn vs o at (b ∷ []) = stopped BodyWord at
change_turn vs o at (b ∷ i ∷ is) = refuse_if (not (is_value b)) BodyWord at (variable_turn vs o at (i ∷ is))

-- a word of the body, with the open step, where there is one
unfoldable pub word_turn : List Variable → Option Step → (at : ℕ) → List ℕ → Checked Step
word_turn vs o at w = cond (opens_mark w) (mark_turn o at w) (change_turn vs o at w)

-- ---- reading alone

pub data Ending : Type 0 where
  ended : Ending
  refused_at : Limit → (place : ℕ) → Ending

pub record Reading : Type 0 where
  pub steps : List Step
  pub ending : Ending

abbrev pub ends_with : Ending → Reading
ends_with e = record { steps = []; ending = e }

-- the open step, where there is one, is closed before what follows
unfoldable pub closing : Option Step → Reading → Reading
closing None g = g
closing (Some s) g = record { steps = s ∷ g.steps; ending = g.ending }

unfoldable pub onward : {A : Type 0} → Checked A → (A → Reading) → Reading
onward (passed a) f = f a
onward (stopped l p) f = ends_with (refused_at l p)

-- word by word. A word that opens with `#` closes the open step before its digits are read
unfoldable pub body_steps : List Variable → List ℕ → Option Step → List Span → Reading
body_steps vs r o [] = closing o (ends_with ended)
body_steps vs r o (w ∷ ws) =
    cond (opens_mark (bytes_of r w))
    (closing o (onward (word_turn vs o w.start (bytes_of r w)) (λ s. body_steps vs r (Some s) ws)))
    (onward (word_turn vs o w.start (bytes_of r w)) (λ s. body_steps vs r (Some s) ws))

abbrev pub body_of : List ℕ → Header → Reading
body_of r h = body_steps h.variables r None h.body

-- the whole recording
abbrev pub reading : Naming → List ℕ → Reading
reading g r = onward (opened g r) (body_of r)

-- ---- examples: a variable `!` of clock 0, behind a mark at 7

abbrev bang : List Variable
bang = record { id = ascii "!"; clock = 0 } ∷ []

tick : word_turn bang (Some (begin 0 7)) 3 (ascii "1!") ≡ passed (ticking 0 (begin 0 7))
unfolding word_turn change_turn with_id same_bytes
tick = refl

second_tick : word_turn bang (Some (ticking 0 (begin 0 7))) 6 (ascii "0!") ≡ stopped TickTwice 6
unfolding word_turn change_turn with_id same_bytes
second_tick = refl

no_id : word_turn bang (Some (begin 0 7)) 3 (ascii "x") ≡ stopped BodyWord 3
unfolding word_turn change_turn
no_id = refl

-- of n bytes from b on, those that are values: of 33 to 126, six
abbrev keep : Bool → ℕ → List ℕ → List ℕ
keep true b l = b ∷ l
keep false b l = l

abbrev values_from : (b n : ℕ) → List ℕ
values_from b zero = []
values_from b (suc n) = keep (is_value b) b (values_from (b + 1) n)

six_values : values_from 33 94 ≡ ascii "01XZxz"
six_values = refl

equal_time : word_turn bang (Some (begin 0 7)) 3 (ascii "#07") ≡ stopped MarkTime 3
unfolding word_turn mark_turn read_decimal value all_bytes
equal_time = refl

-- `#` alone, at the byte after it; the second `#`; the first of two letters; 2^64, at its twentieth digit
bare : word_turn bang (Some (begin 0 7)) 3 (ascii "#") ≡ stopped BodyWord 4
unfolding word_turn mark_turn read_decimal
bare = refl

second_hash : word_turn bang (Some (begin 0 7)) 3 (ascii "##5") ≡ stopped BodyWord 4
unfolding word_turn mark_turn read_decimal all_bytes run_end
second_hash = refl

first_letter : word_turn bang (Some (begin 0 7)) 3 (ascii "#12a9b") ≡ stopped BodyWord 6
unfolding word_turn mark_turn read_decimal all_bytes run_end
first_letter = refl

too_large : word_turn bang (Some (begin 0 7)) 3 (ascii "#18446744073709551616") ≡ stopped MarkTime 23
unfolding word_turn mark_turn read_decimal value over_at all_bytes
too_large = refl

-- the step before a mark is closed, and so is the last
two_steps : body_steps bang (ascii "#7 #9 1!") None (words (ascii "#7 #9 1!") 0) ≡ record { steps = begin 0 7 ∷ ticking 0 (begin 3 9) ∷ []; ending = ended }
unfolding body_steps onward closing word_turn mark_turn change_turn with_id same_bytes read_decimal value all_bytes tokens filled grown
two_steps = refl
