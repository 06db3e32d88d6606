-- The records that a doorway lends, out of 66 places: the first 66. Assumes nothing.
use mathlib.Core.Path.{◌≡◌, refl, sym, ap, ◌∙◌}
use mathlib.Core.Bool.{Bool, true, false, cond}
use mathlib.Core.List.{List, [], ◌∷◌, append-nil}
use Prim.Native.Nat.{ℕ, suc, ◌+◌, ◌≤◌, ◌<◌}
use native.Mathlib.Omega.{arith}
use borrow.Author.Tests.{leb-true, leb-false}
use lib.Dec.{leb}
use lib.ListN.{length, drop, take, replicate, take-append-drop}
use lib.Seq.{sets, set_out, length-take-le, length-sets, drop-length, take_all, take-take, take-append_seam}
use Rattle.constraint.specs.Lists.{empty}
use Rattle.constraint.specs.declared.Constraint.{Constraint}
use Rattle.lent.specs.Lent.{lent}
use Rattle.reading.proofs.StoreLaws.{sets_append, sets_written}

-- past the end nothing is stored
sets_past : {A : Type 0} (vs xs : List A) (i : ℕ) → length xs ≤ i → sets xs i vs ≡ xs
sets_past [] xs i past = refl
sets_past (v ∷ vs) xs i past = rw (set_out xs i v past) (sets_past vs xs (suc i) (omega (arith, past)))

-- all places are stored
sets_all : {A : Type 0} (vs xs : List A) → length xs ≤ length vs → sets xs 0 vs ≡ take (length xs) vs
sets_all vs xs enough =
    let us = take (length xs) vs in
    let e : length us ≡ length xs = length-take-le (length xs) vs enough in
    ap (λ (ws : List _). sets xs 0 ws) (sym (take-append-drop (length xs) vs))
    ∙ sets_append us (drop (length xs) vs) xs 0
    ∙ sets_past (drop (length xs) vs) (sets xs 0 us) (0 + length us) (omega (arith, e, length-sets xs 0 us))
    ∙ sets_written us xs (omega (arith, e))
    ∙ rw (e, drop-length xs) (append-nil us)

pub lent_records_lem : (rs : List Constraint) → lent (length rs) (sets (replicate 66 empty) 0 rs) ≡ take 66 rs
lent_records_lem rs = go (leb (length rs) 66) refl
  where
    go : (x : Bool) → leb (length rs) 66 ≡ x → take (cond x (length rs) 66) (sets (replicate 66 empty) 0 rs) ≡ take 66 rs
    go true e =
        let few : length rs ≤ 66 = leb-true (length rs) 66 e in
        rw (sets_written rs (replicate 66 empty) few) (take-append_seam rs _ ∙ sym (take_all 66 rs few))
    go false e =
        let many : 66 < length rs = leb-false (length rs) 66 e in
        rw (sets_all rs (replicate 66 empty) (omega (arith, many))) (take-take 66 66 rs (omega arith))
