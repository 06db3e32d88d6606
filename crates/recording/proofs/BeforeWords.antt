-- What is asked of a recording before its words. Assumes nothing.
use mathlib.Core.Path.{◌≡◌, refl, ◌∙◌}
use mathlib.Core.Bool.{true, false}
use mathlib.Core.List.{List, ◌∷◌, ◌++◌}
use Prim.Native.Nat.{ℕ, ◌≤◌}
use native.Mathlib.Omega.{arith}
use borrow.Author.Tests.{leb-true}
use lib.ListN.{length, length-append}
use Rattle.limit.specs.Checked.{stopped}
use Rattle.limit.specs.declared.Limit.TheVariants.{RecordingByte}
use Rattle.text.specs.Bytes.{all_bytes}
use Rattle.text.proofs.Runs.{all_from, run_to}
use Rattle.recording.specs.BeforeWords.{recorded, BeforeWords}
use Rattle.recording.specs.Header.{first_other, opened}
use Rattle.recording.specs.Variables.{Naming}
use Rattle.recording.proofs.HeaderLaws.{opened_long, opened_other, opened_header}

other_at : (g : Naming) (a : List ℕ) (b : ℕ) (l : List ℕ) → length (a ++ b ∷ l) ≤ 65_536 → all_bytes recorded a ≡ true → recorded b ≡ false
    → opened g (a ++ b ∷ l) ≡ stopped RecordingByte (length a)
other_at g a b l h f e =
    opened_other g (a ++ b ∷ l) (omega arith) (length a) (omega (arith, run_to recorded a (b ∷ l) 0 f e)) (omega (arith, length-append a (b ∷ l)))

pub before_words : BeforeWords
before_words = record {
  long = λ g r h. opened_long g r (omega arith);
  other = other_at;
  header = λ g r h f. opened_header g r (omega arith) (first_other r) refl (leb-true (length r) (first_other r) (all_from recorded r 0 ∙ f));
}
