-- What is asked of a recording before its words, outright: 30 exactly where it has over 65,536 bytes, with place 0; 31 at the offset of the
-- first byte that is neither a parting byte nor 33 to 126; the header of every other recording is read. Assumes nothing.
use Rattle.std.specs.Prelude.{◌≡◌, Bool, true, false, ◌||◌, ◌&&◌, List, [], ◌∷◌, ◌++◌, ℕ, ◌≤◌, ◌<◌, leb, length}
use Rattle.limit.specs.Checked.{stopped}
use Rattle.limit.specs.declared.Limit.TheVariants.{RecordingLength, RecordingByte}
use Rattle.text.specs.Bytes.{parting, all_bytes}
use Rattle.recording.specs.Header.{words, header, opened}
use Rattle.recording.specs.Variables.{Naming}

-- a parting byte, or 33 to 126
abbrev pub recorded : ℕ → Bool
recorded b = parting b || leb 33 b && leb b 126

pub record BeforeWords : Type 0 where
  pub long : (g : Naming) (r : List ℕ) → 65_536 < length r → opened g r ≡ stopped RecordingLength 0
  pub other : (g : Naming) (front : List ℕ) (b : ℕ) (rest : List ℕ) → length (front ++ b ∷ rest) ≤ 65_536 → all_bytes recorded front ≡ true → recorded b ≡ false
      → opened g (front ++ b ∷ rest) ≡ stopped RecordingByte (length front)
  pub header : (g : Naming) (r : List ℕ) → length r ≤ 65_536 → all_bytes recorded r ≡ true → opened g r ≡ header g r [] (words r 0)
