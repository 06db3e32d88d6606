-- A turn of the loop that judges each record: the words moved so far, in front of what the records and words to come give. Assumes nothing.
use mathlib.Core.Path.{◌≡◌, refl, sym, ap, ◌∙◌}
use mathlib.Core.List.{List, [], ◌∷◌, ◌++◌}
use Prim.Native.Nat.{ℕ, suc, ◌+◌, ◌<◌}
use native.Mathlib.Numerals.{add-one}
use native.Mathlib.Omega.{arith}
use lib.ListN.{length, take, drop, get_or, set}
use lib.Seq.{drop-cons, drop-set-lt, take-suc-set, append_snoc}
use Rattle.std.specs.Prelude.{Option, Result, Ok, Err}
use Rattle.limit.specs.declared.Place.{Place}
use Rattle.constraint.specs.Look.{looked}
use Rattle.constraint.specs.Ticks.{Ticks}
use Rattle.constraint.specs.declared.Constraint.{Constraint}
use Rattle.constraint.specs.declared.Word.{Word}
use Rattle.judging.specs.Code.{put, turned, walked}
use Rattle.judging.specs.declared.NotHeld.{NotHeld}

abbrev pub onto : List Word → Result (List Word) NotHeld → Result (List Word) NotHeld
onto xs (Ok ws) = Ok (xs ++ ws)
onto xs (Err e) = Err e

pub onto_none : (x : Result (List Word) NotHeld) → x ≡ onto [] x
onto_none (Ok ws) = refl
onto_none (Err e) = refl

onto_put : (xs : List Word) (v : Word) (x : Result (List Word) NotHeld) → onto xs (put v x) ≡ onto (xs ++ v ∷ []) x
onto_put xs v (Ok ws) = ap Ok (sym (append_snoc xs v ws))
onto_put xs v (Err e) = refl

module _ (F : Ticks) (rs : List Constraint) (ws : List Word) (i : ℕ) (r : Constraint) (is : r ≡ get_or rs i r) (slot : i < length rs) (room : i < length ws) where
  -- a record whose word becomes v, and which leaves b as the first place past its million
  pub turn_on : (past b : Option Place) (d v : Word) → ((behind : Option Place → Result (List Word) NotHeld) → turned (looked r (get_or ws i d) F) (record { 0 = i + 1 }) past behind ≡ put v (behind b))
      → onto (take i ws) (walked F (i + 1) past (drop i rs) (drop i ws)) ≡ onto (take (i + 1) (set ws i v)) (walked F (i + 1 + 1) b (drop (i + 1) rs) (drop (i + 1) (set ws i v)))
  turn_on past b d v turns =
      let here : drop i rs ≡ r ∷ drop (suc i) rs = drop-cons rs i r slot ∙ ap (λ x. x ∷ drop (suc i) rs) (sym is) in
      rw (here, drop-cons ws i d room, turns _, add-one (i + 1), add-one i, take-suc-set ws i v room, drop-set-lt (suc i) ws i v (omega arith)) (onto_put (take i ws) v _)
