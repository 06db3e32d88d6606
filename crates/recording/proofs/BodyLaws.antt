-- The body unfolded by one word. Assumes nothing.
use mathlib.Core.Path.{◌≡◌, ap, subst, ◌∙◌}
use mathlib.Core.Bool.{true, false}
use mathlib.Core.List.{List, [], ◌∷◌}
use Prim.Native.Nat.{ℕ, ◌+◌, ◌≤◌}
use native.Mathlib.Omega.{arith}
use lib.ListN.{length}
use Rattle.std.specs.Prelude.{Option, Some, Result, Err}
use Rattle.limit.specs.declared.Limit.{Limit}
use Rattle.limit.specs.Checked.{stopped}
use Rattle.text.specs.Digits.{read_decimal}
use Rattle.text.specs.Split.{bytes_of}
use Rattle.text.specs.declared.Spoilt.{Spoilt}
use Rattle.text.specs.declared.Spoilt.TheVariants.{NotDigit, TooLarge}
use Rattle.text.proofs.Decimals.{Within, read_within}
use Rattle.text.proofs.Runs.{part_inside}
use Rattle.text.specs.declared.Span.{Span}
use Rattle.recording.specs.Body.{opens_mark, mark_turn, change_turn, word_turn, ended, refused_at, ends_with, closing, onward, body_steps}
use Rattle.recording.specs.Variables.{Variable}
use Rattle.recording.specs.declared.Step.{Step}

-- the bytes behind a mark's first one stand in the recording
pub mark_room : (r : List ℕ) (w : Span) (b : ℕ) (ds : List ℕ) → bytes_of r w ≡ b ∷ ds → w.start + 1 + length ds ≤ length r
mark_room r w b ds e =
    let n : length (bytes_of r w) ≡ 1 + length ds = ap (λ (l : List ℕ). length l) e ∙ omega arith in
    omega (arith, n, part_inside r w (λ z. omega (arith, n, z)))

-- and the byte that spoils it is one of them, or stands straight behind them
pub other_within : (ds : List ℕ) (i : ℕ) → read_decimal ds ≡ Err (NotDigit i) → i ≤ length ds
other_within ds i e = subst (λ (x : Result ℕ Spoilt). Within (length ds) x) e (read_within ds)

pub large_within : (ds : List ℕ) (i : ℕ) → read_decimal ds ≡ Err (TooLarge i) → i ≤ length ds
large_within ds i e = subst (λ (x : Result ℕ Spoilt). Within (length ds) x) e (read_within ds)

-- ---- the body
module _ (vs : List Variable) (r : List ℕ) (o : Option Step) (ws : List Span) where
  pub body_done : ws ≡ [] → body_steps vs r o ws ≡ closing o (ends_with ended)
  unfolding body_steps
  body_done e = rw e

  module _ (w : Span) (us : List Span) (e : ws ≡ w ∷ us) where
    pub body_mark : opens_mark (bytes_of r w) ≡ true
        → body_steps vs r o ws ≡ closing o (onward (mark_turn o w.start (bytes_of r w)) (λ s. body_steps vs r (Some s) us))
    unfolding body_steps word_turn
    body_mark m = rw (e, m)

    pub mark_stop : opens_mark (bytes_of r w) ≡ true → (l : Limit) (p : ℕ) → word_turn vs o w.start (bytes_of r w) ≡ stopped l p → body_steps vs r o ws ≡ closing o (ends_with (refused_at l p))
    unfolding body_steps onward
    mark_stop m l p q = rw (e, m, q)

    pub body_change : opens_mark (bytes_of r w) ≡ false → body_steps vs r o ws ≡ onward (change_turn vs o w.start (bytes_of r w)) (λ s. body_steps vs r (Some s) us)
    unfolding body_steps word_turn
    body_change m = rw (e, m)
