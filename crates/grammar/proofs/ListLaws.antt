-- The list of a delay: read number by number it is the list, and what stands behind it. Assumes nothing.
use Rattle.std.proofs.Common.{◌≡◌, refl, sym, ap, ap₂, ◌∙◌, Bool, true, false, cond, ◌&&◌, List, [], ◌∷◌, ◌++◌, ℕ, suc, ◌+◌, ◌≤◌, ◌<◌, length, leb, ltb, arith}
use Rattle.std.specs.Prelude.{Option, Some, None, unwrap_or}
use mathlib.Core.Bool.{true≢false}
use mathlib.Core.List.{append_assoc, append-nil}
use borrow.Author.Tests.{ltb-true, ltb-false, le-leb, lt-leb}
use lib.ListN.{length-append}
use Rattle.text.specs.Split.{bytes_of, front, rest}
use Rattle.text.specs.declared.Span.{Span}
use Rattle.grammar.specs.Answers.{with_numbers}
use Rattle.grammar.specs.Grammar.{token, number_up_to, delay_numbers, past_digits, all_delays, listed}
use Rattle.grammar.specs.Tokens.{is}
use Rattle.grammar.specs.declared.Token.TheVariants.{Digits}
use Rattle.grammar.proofs.GrammarLaws.{end_token}

-- ---- words: a digit run in front, and none
module _ (t : List ℕ) where
  pub run_first : (ws : List Span) → is Digits (token t ws) ≡ true → delay_numbers t ws ≡ number_up_to 32 (bytes_of t (front t ws)) ∷ delay_numbers t (rest ws)
  unfolding delay_numbers front rest
  run_first [] e = absurd (true≢false (sym e ∙ ap (is Digits) (end_token t)))
  run_first (w ∷ ws) e = rw e

  pub run_past : (ws : List Span) → is Digits (token t ws) ≡ true → past_digits t ws ≡ past_digits t (rest ws)
  unfolding past_digits front rest
  run_past [] e = refl
  run_past (w ∷ ws) e = rw e

  pub run_shorter : (ws : List Span) → is Digits (token t ws) ≡ true → length (rest ws) < length ws
  unfolding front rest
  run_shorter [] e = absurd (true≢false (sym e ∙ ap (is Digits) (end_token t)))
  run_shorter (w ∷ ws) e = omega arith

  pub run_none : (ws : List Span) → is Digits (token t ws) ≡ false → delay_numbers t ws ≡ []
  unfolding delay_numbers front
  run_none [] e = refl
  run_none (w ∷ ws) e = rw e

  pub none_past : (ws : List Span) → is Digits (token t ws) ≡ false → past_digits t ws ≡ ws
  unfolding past_digits front
  none_past [] e = refl
  none_past (w ∷ ws) e = rw e

  -- no word is left
  pub run_end_lem : (delay_numbers t [] ≡ []) × (past_digits t [] ≡ [])
  unfolding delay_numbers past_digits
  run_end_lem = (refl, refl)

-- ---- number by number

-- the list so far, and what the numbers that are left come to
abbrev Comes : (xs ns : List ℕ) → Type 0
Comes xs ns = with_numbers (Some xs) ns ≡ cond (leb (length xs + length ns) 8 && all_delays ns) (Some (xs ++ ns)) None

none_stays : (ns : List ℕ) → with_numbers None ns ≡ None
none_stays [] = refl
none_stays (n ∷ ns) = none_stays ns

cut : {A : Type 0} (b : Bool) (x y : A) → cond (b && false) x y ≡ y
cut true x y = refl
cut false x y = refl

comes : (ns xs : List ℕ) → length xs ≤ 8 → Comes xs ns
comes [] xs h = let e : length xs + 0 ≤ 8 = omega arith in rw (le-leb (length xs + 0) 8 e, append-nil xs) refl
comes (n ∷ ns) xs h = go (leb 1 n) (leb n 32) (ltb (length xs) 8) refl (comes ns (xs ++ n ∷ []))
  where
    go : (a b d : Bool) → ltb (length xs) 8 ≡ d → (length (xs ++ n ∷ []) ≤ 8 → Comes (xs ++ n ∷ []) ns)
        → with_numbers (cond ((a && b) && d) (Some (xs ++ n ∷ [])) None) ns ≡ cond (leb (length xs + suc (length ns)) 8 && ((a && b) && all_delays ns)) (Some (xs ++ n ∷ ns)) None
    go true true true r next =
        let s : length (xs ++ n ∷ []) ≡ length xs + 1 = length-append xs (n ∷ []) in
        let l : length (xs ++ n ∷ []) + length ns ≡ length xs + suc (length ns) = omega (arith, s) in
        next (omega (arith, s, ltb-true (length xs) 8 r)) ∙ ap₂ (λ (m : ℕ) (ms : List ℕ). cond {A = Option (List ℕ)} (leb m 8 && all_delays ns) (Some ms) None) l (append_assoc xs (n ∷ []) ns)
    go true true false r next =
        let l : leb (length xs + suc (length ns)) 8 ≡ false = lt-leb (length xs + suc (length ns)) 8 (omega (arith, ltb-false (length xs) 8 r)) in
        none_stays ns ∙ rw l
    go true false d r next = none_stays ns ∙ sym (cut (leb (length xs + suc (length ns)) 8) _ None)
    go false b d r next = none_stays ns ∙ sym (cut (leb (length xs + suc (length ns)) 8) _ None)

taken : (x : Bool) (xs : List ℕ) → unwrap_or (cond {A = Option (List ℕ)} x (Some xs) None) [] ≡ cond x xs []
taken true xs = refl
taken false xs = refl

-- what is read of a list
pub list_read : (ns : List ℕ) → unwrap_or (with_numbers (Some []) ns) [] ≡ listed ns
list_read ns = ap (λ (l : Option (List ℕ)). unwrap_or l []) (comes ns [] (omega arith)) ∙ go ns
  where
    go : (ns : List ℕ) → unwrap_or (cond {A = Option (List ℕ)} (leb (0 + length ns) 8 && all_delays ns) (Some ns) None) [] ≡ listed ns
    go [] = refl
    go (n ∷ ns) =
        let e : 0 + suc (length ns) ≡ suc (length ns) = omega arith in
        let o : leb 1 (suc (length ns)) ≡ true = le-leb 1 (suc (length ns)) (omega arith) in
        rw (e, o) (taken (leb (suc (length ns)) 8 && all_delays (n ∷ ns)) (n ∷ ns))
