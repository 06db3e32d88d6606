-- The claim on marks that a byte spoils, of whole recordings: document 02, M-106. Behind a recording that may be written stands such a mark. Its
-- steps are read, since the mark closes the last; then it is refused, at the byte that spoils the mark: the place is how many bytes stand before
-- it. Assumes nothing.
use Rattle.std.specs.Prelude.{◌≡◌, refl, Bool, true, false, List, [], ◌∷◌, ◌++◌, ℕ, ◌^◌, ◌≤◌, ◌<◌, length}
use Rattle.limit.specs.declared.Limit.{Limit}
use Rattle.limit.specs.declared.Limit.TheVariants.{BodyWord, MarkTime}
use Rattle.text.specs.Ascii.{ascii}
use Rattle.text.specs.Bytes.{digit, parting, all_bytes}
use Rattle.text.specs.Digits.{value, digits, digits_of}
use Rattle.recording.specs.BeforeWords.{recorded}
use Rattle.recording.specs.Body.{Reading, refused_at, reading}
use Rattle.recording.specs.Variables.{Naming}
use Rattle.written.specs.Claim.{read_steps, Writable}
use Rattle.written.specs.Layout.{WrittenVariable, WrittenStep, line, texts, header, written, two, three}

-- the steps, and then a refusal
abbrev pub refused_behind : Naming → List WrittenVariable → List WrittenStep → Limit → (place : ℕ) → Reading
refused_behind g vs ss l p = record { steps = read_steps g.named vs (length (header vs)) ss; ending = refused_at l p }

-- no byte of a word: the recording's end, or a byte that parts words
abbrev pub word_ends : List ℕ → Bool
word_ends [] = true
word_ends (b ∷ bs) = parting b

-- what stands behind the steps passes 30 and 31
pub record Behind (g : Naming) (vs : List WrittenVariable) (ss : List WrittenStep) (later : List ℕ) : Type 0 where
  pub steps : Writable g vs ss
  pub bytes : all_bytes recorded later ≡ true
  pub fits : length (written vs ss ++ later) ≤ 65_536

pub record SpoiltIsRefused (g : Naming) (vs : List WrittenVariable) (ss : List WrittenStep) : Type 0 where
  -- 40 at the first byte that is no digit, whatever the digits before it say and whatever stands behind it
  pub other :
      (front : List ℕ) (b : ℕ) (later : List ℕ)
      → Behind g vs ss (35 ∷ front ++ b ∷ later)
      → all_bytes digit front ≡ true
      → digit b ≡ false
      → parting b ≡ false
      → reading g (written vs ss ++ (35 ∷ front ++ b ∷ later)) ≡ refused_behind g vs ss BodyWord (length (written vs ss ++ 35 ∷ front))
  -- a bare `#` is 40 at the byte after it, where the recording may end
  pub bare :
      (later : List ℕ)
      → Behind g vs ss (35 ∷ later)
      → word_ends later ≡ true
      → reading g (written vs ss ++ 35 ∷ later) ≡ refused_behind g vs ss BodyWord (length (written vs ss ++ 35 ∷ []))
  -- digits alone: 41 at the first with which the time is above 2^64 - 1
  pub large :
      (front : List ℕ) (d : ℕ) (rest later : List ℕ)
      → Behind g vs ss (35 ∷ (front ++ d ∷ rest) ++ later)
      → all_bytes digit (front ++ d ∷ rest) ≡ true
      → value 0 front < 2 ^ 64
      → 2 ^ 64 ≤ value 0 (front ++ d ∷ [])
      → word_ends later ≡ true
      → reading g (written vs ss ++ (35 ∷ (front ++ d ∷ rest) ++ later)) ≡ refused_behind g vs ss MarkTime (length (written vs ss ++ 35 ∷ front))

abbrev pub EverySpoiltMark : Type 0
EverySpoiltMark = (g : Naming) (vs : List WrittenVariable) (ss : List WrittenStep) → SpoiltIsRefused g vs ss

-- behind the example of Layout, which has 91 bytes, the `a` of `#12a` stands at 94, and the byte after a bare `#` at 92
letter_at : length (written two three ++ ascii "#12") ≡ 94
unfolding texts line digits digits_of
letter_at = refl

bare_at : length (written two three ++ ascii "#") ≡ 92
unfolding texts line digits digits_of
bare_at = refl
