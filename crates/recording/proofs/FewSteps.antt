-- A recording has no more steps than bytes: a step begins with a word of its own. Assumes nothing.
use Rattle.std.specs.Prelude.{Option, Some, None}
use mathlib.Core.Path.{◌≡◌}
use mathlib.Core.Bool.{Bool, true, false, cond}
use mathlib.Core.List.{List, [], ◌∷◌}
use Prim.Native.Nat.{ℕ, suc, ◌+◌, ◌≤◌}
use native.Mathlib.Omega.{arith}
use borrow.Author.Tests.{le-ltb}
use lib.Dec.{ltb}
use lib.ListN.{length, drop, length-drop}
use Rattle.limit.specs.Checked.{Checked, passed, stopped}
use Rattle.text.specs.Bytes.{in_class, ends}
use Rattle.text.specs.declared.Class.TheVariants.{Parting}
use Rattle.text.specs.Split.{bytes_of, filled, tokens, grown, span}
use Rattle.text.specs.declared.Span.{Span}
use Rattle.recording.specs.Body.{opens_mark, word_turn, Reading, ended, ends_with, closing, onward, body_steps}
use Rattle.recording.specs.Header.{words}
use Rattle.recording.specs.Variables.{Variable}
use Rattle.recording.specs.declared.Step.{Step}

-- what holds of both holds of either
over : {A : Type 0} (P : A → Type 0) (b : Bool) (x y : A) → P x → P y → P (cond b x y)
over P true x y h k = h
over P false x y h k = k

-- ---- no more words than bytes

filled_more : (p : Span) (ps : List Span) → (length (filled ps) ≤ length (filled (p ∷ ps))) × (length (filled (p ∷ ps)) ≤ 1 + length (filled ps))
unfolding filled
filled_more p ps =
    over (λ (qs : List Span). (length (filled ps) ≤ length qs) × (length qs ≤ 1 + length (filled ps)))
    (ltb p.start p.end) (p ∷ filled ps) (filled ps)
    (omega arith, omega arith)
    (omega arith, omega arith)

filled_grown : (at : ℕ) (ps : List Span) → length (filled (grown at ps)) ≤ 1 + length (filled ps)
unfolding grown
filled_grown at [] = omega arith
filled_grown at (p ∷ ps) = omega (arith, (filled_more (span at p.end) ps).1, (filled_more p ps).0)

empty_piece : (at : ℕ) (ps : List Span) → filled (span at at ∷ ps) ≡ filled ps
unfolding filled
empty_piece at ps = rw (le-ltb at at (omega arith))

few_tokens : (sep end : ℕ → Bool) (at : ℕ) (bs : List ℕ) → length (filled (tokens sep end at bs)) ≤ length bs
unfolding tokens
few_tokens sep end at [] = rw (empty_piece at []) (unfold filled in omega arith)
few_tokens sep end at (b ∷ bs) =
    let ts : List Span = tokens sep end (at + 1) bs in
    let h : length (filled ts) ≤ length bs = few_tokens sep end (at + 1) bs in
    over (λ (qs : List Span). length (filled qs) ≤ suc (length bs)) (sep b) _ _
    (rw (empty_piece at ts) (omega arith))
    (over (λ (qs : List Span). length (filled qs) ≤ suc (length bs)) (end b) _ _
    (rw (empty_piece at (span at (at + 1) ∷ ts)) (omega (arith, (filled_more (span at (at + 1)) ts).1)))
    (omega (arith, filled_grown at ts)))

few_words : (r : List ℕ) (at : ℕ) → length (words r at) ≤ length r
few_words r at =
    let h : length (words r at) ≤ length (drop at r) = few_tokens (in_class Parting) (in_class (ends Parting)) at (drop at r) in
    omega (arith, length-drop at r)

-- ---- no more steps than words, and the one that is open

abbrev many : Reading → ℕ
many g = length g.steps

abbrev open_steps : Option Step → ℕ
open_steps None = 0
open_steps (Some s) = 1

few_closing : (o : Option Step) (g : Reading) → many (closing o g) ≡ open_steps o + many g
unfolding closing
few_closing None g = omega arith
few_closing (Some s) g = omega arith

few_onward : (x : Checked Step) (f : Step → Reading) (n : ℕ) → ((o : Step) → many (f o) ≤ n) → many (onward x f) ≤ n
unfolding onward
few_onward (passed o) f n h = h o
few_onward (stopped l p) f n h = omega arith

few_body : (vs : List Variable) (r : List ℕ) (o : Option Step) (ws : List Span) → many (body_steps vs r o ws) ≤ open_steps o + length ws
unfolding body_steps
few_body vs r o [] = omega (arith, few_closing o (ends_with ended))
few_body vs r o (w ∷ ws) =
    let g : Reading = onward (word_turn vs o w.start (bytes_of r w)) (λ s. body_steps vs r (Some s) ws) in
    let h : many g ≤ 1 + length ws = few_onward _ _ (1 + length ws) (λ s. few_body vs r (Some s) ws) in
    over (λ (q : Reading). many q ≤ open_steps o + suc (length ws)) (opens_mark (bytes_of r w)) (closing o g) g
    (omega (arith, few_closing o g))
    (omega arith)

pub few_steps : (vs : List Variable) (r : List ℕ) (at : ℕ) → length (body_steps vs r None (words r at)).steps ≤ length r
few_steps vs r at = omega (arith, few_body vs r None (words r at), few_words r at)
