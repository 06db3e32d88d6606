-- What a mark does, outright: document 02, M-106. Assumes nothing.
use Rattle.std.specs.Prelude.{◌≡◌, true, false, ◌↔◌, List, [], ◌∷◌, ◌++◌, ℕ, ◌+◌, ◌^◌, ◌≤◌, ◌<◌, length, Option, Some}
use Rattle.limit.specs.Checked.{Checked, passed, stopped}
use Rattle.limit.specs.declared.Limit.TheVariants.{BodyWord, MarkTime}
use Rattle.text.specs.Bytes.{digit, all_bytes}
use Rattle.text.specs.Digits.{value}
use Rattle.recording.specs.Body.{begin, word_turn}
use Rattle.recording.specs.Variables.{Variable}
use Rattle.recording.specs.declared.Step.{Step}

-- one or more digits that say a number of 64 bits
pub record IsTime (ds : List ℕ) : Type 0 where
  pub some : 0 < length ds
  pub digits : all_bytes digit ds ≡ true
  pub small : value 0 ds < 2 ^ 64

-- of a mark at the offset at: the bytes behind its `#`, and what it does behind the step o, which it closed, where there is one
pub data MarkDoes (o : Option Step) (at : ℕ) : List ℕ → Checked Step → Type 0 where
  -- a bare `#` is 40 at the byte after it
  bare : MarkDoes o at [] (stopped BodyWord (at + 1))
  -- 40 at the first byte that is no digit, whatever the digits before it say and whatever stands behind it
  other : (front : List ℕ) (b : ℕ) (rest : List ℕ) → all_bytes digit front ≡ true → digit b ≡ false
      → MarkDoes o at (front ++ b ∷ rest) (stopped BodyWord (at + 1 + length front))
  -- digits alone: 41 at the first with which the time is above 2^64 - 1
  large : (front : List ℕ) (d : ℕ) (rest : List ℕ) → all_bytes digit (front ++ d ∷ rest) ≡ true → value 0 front < 2 ^ 64 → 2 ^ 64 ≤ value 0 (front ++ d ∷ [])
      → MarkDoes o at (front ++ d ∷ rest) (stopped MarkTime (at + 1 + length front))
  -- a time not above the last is 41 at the word
  late : {ds : List ℕ} {s : Step} → IsTime ds → o ≡ Some s → value 0 ds ≤ s.time.0 → MarkDoes o at ds (stopped MarkTime at)
  -- any other begins a step
  begins : {ds : List ℕ} → IsTime ds → ((s : Step) → o ≡ Some s → s.time.0 < value 0 ds) → MarkDoes o at ds (passed (begin at (value 0 ds)))

-- the claim: every mark does one of these, and exactly this
abbrev pub EveryMark : Type 0
EveryMark = (vs : List Variable) (o : Option Step) (at : ℕ) (ds : List ℕ) (r : Checked Step) → word_turn vs o at (35 ∷ ds) ≡ r ↔ MarkDoes o at ds r
