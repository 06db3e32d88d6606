-- What a mark does, outright. From what it is: by what is read behind its `#`. To what it is: the bytes are parted at the first that is no digit,
-- and digits at the first with which they say too much. Assumes nothing.
use Rattle.std.specs.Prelude.{Option, Some, None, Result, Ok}
use mathlib.Core.Path.{◌≡◌, refl, sym, ap, subst, ◌∙◌}
use mathlib.Core.Bool.{true, false}
use mathlib.Core.List.{List, [], ◌∷◌, ◌++◌, append-nil}
use Prim.Native.Nat.{ℕ, ◌+◌, ◌^◌, ◌≤◌, ◌<◌}
use native.Mathlib.Decide.{dec_lt, dec_le}
use native.Mathlib.Nat.{add-zero}
use native.Mathlib.Omega.{arith}
use borrow.Author.Tests.{le-leb, lt-leb}
use Rattle.limit.specs.Checked.{Checked, stopped}
use Rattle.limit.specs.declared.Limit.TheVariants.{BodyWord}
use Rattle.limit.proofs.CheckLaws.{refuses, allows}
use Rattle.text.specs.Bytes.{digit, all_bytes}
use Rattle.text.specs.Digits.{value, read_decimal}
use Rattle.text.specs.declared.Spoilt.{Spoilt}
use Rattle.text.proofs.Decimals.{read_none, read_other, read_over, read_value, first_over}
use Rattle.text.proofs.Runs.{Stops, parted}
use Rattle.recording.specs.Body.{is_late, time_turn, mark_turn, word_turn}
use Rattle.recording.specs.Marks.{IsTime, MarkDoes, bare, other, large, late, begins, EveryMark}
use Rattle.recording.specs.Variables.{Variable}
use Rattle.recording.specs.declared.Step.{Step}

-- no step is open, and one is
none_some : (s : Step) → ◌≡◌ {A = Option Step} None (Some s) → ⊥
none_some s e = let z : ◌≡◌ {A = ℕ} 0 1 = cc in omega arith

module _ (vs : List Variable) (o : Option Step) (at : ℕ) where
  -- by what is read
  read_as : (ds : List ℕ) (d : Result ℕ Spoilt) → read_decimal ds ≡ d → word_turn vs o at (35 ∷ ds) ≡ time_turn o at d
  unfolding word_turn mark_turn
  read_as ds d e = ap (time_turn o at) e

  time_is : (ds : List ℕ) → IsTime ds → word_turn vs o at (35 ∷ ds) ≡ time_turn o at (Ok (value 0 ds))
  time_is ds t = read_as ds _ (read_value ds (λ e. omega (arith, t.some)) t.digits t.small)

  does : (ds : List ℕ) (r : Checked Step) → MarkDoes o at ds r → word_turn vs o at (35 ∷ ds) ≡ r
  does ds r bare = read_as [] _ (read_none [] refl) ∙ ap (stopped BodyWord) (add-zero (at + 1))
  does ds r (other f b l h e) = read_as (f ++ b ∷ l) _ (read_other f b l h e)
  does ds r (large f d l e h k) = read_as (f ++ d ∷ l) _ (read_over f d l e h k)
  does ds r (late {s = s} t b h) = time_is ds t ∙ refuses (is_late o (value 0 ds)) _ _ _ (rw (b, le-leb (value 0 ds) s.time.0 h))
  does ds r (begins t h) = time_is ds t ∙ allows _ _ _ _ (go o refl)
    where
      go : (x : Option Step) → o ≡ x → is_late x (value 0 ds) ≡ false
      go (Some s) e = lt-leb (value 0 ds) s.time.0 (h s e)
      go None e = refl

  -- what it does, some answer of the five
  abbrev Some-answer : List ℕ → Type 0
  Some-answer ds = (r : Checked Step) × MarkDoes o at ds r

  timed : (ds : List ℕ) → IsTime ds → Some-answer ds
  timed ds t = go o refl
    where
      late_or_not : (s : Step) → o ≡ Some s → Dec (value 0 ds ≤ s.time.0) → Some-answer ds
      late_or_not s e (yes h) = (_, late t e h)
      late_or_not s e (no h) = (_, begins t (λ q b. let k : q ≡ s = cc in rw k (omega arith)))

      go : (x : Option Step) → o ≡ x → Some-answer ds
      go (Some s) e = late_or_not s e (dec_le (value 0 ds) s.time.0)
      go None e = (_, begins t (λ s b. absurd (none_some s (sym e ∙ b))))

  digits_do : (ds : List ℕ) → all_bytes digit ds ≡ true → Some-answer ds
  digits_do [] h = (_, bare)
  digits_do (d ∷ ds) h = go (dec_lt (value 0 (d ∷ ds)) (2 ^ 64))
    where
      go : Dec (value 0 (d ∷ ds) < 2 ^ 64) → Some-answer (d ∷ ds)
      go (yes s) = timed (d ∷ ds) (record { some = omega arith; digits = h; small = s })
      go (no s) =
          let f = first_over (d ∷ ds) 0 (omega arith) (omega arith) in
          subst Some-answer f.whole (_, large f.front f.digit f.rest (subst (λ (l : List ℕ). all_bytes digit l ≡ true) (sym f.whole) h) f.before f.over)

  some : (ds : List ℕ) → Some-answer ds
  some ds = let k = parted digit ds in go k.front k.rest k.whole k.passes k.stops
    where
      go : (run rest : List ℕ) → run ++ rest ≡ ds → all_bytes digit run ≡ true → Stops digit rest → Some-answer ds
      go run [] w h e = subst Some-answer (sym (append-nil run) ∙ w) (digits_do run h)
      go run (b ∷ rest) w h e = subst Some-answer w (_, other run b rest h e)

pub every_mark : EveryMark
every_mark vs o at ds r = let s = some vs o at ds in (λ e. subst (MarkDoes o at ds) (sym (does vs o at ds s.0 s.1) ∙ e) s.1, does vs o at ds r)
