-- The clocks of a list added one after another are the set of them, as a number. Assumes nothing.
use Prim.Native.Nat.{ℕ, ◌^◌, ◌<◌}
use mathlib.Core.Path.{◌≡◌, refl, sym, ap, ◌∙◌}
use mathlib.Core.List.{List, [], ◌∷◌}
use mathlib.Core.Bool.{Bool, true, false, ◌||◌, or-false}
use native.Mathlib.Omega.{arith}
use lib.Dec.{eqb}
use Rattle.constraint.specs.Ticks.{Ticks, none, adding_all, bits, number, with_tick}
use Rattle.constraint.proofs.TickSets.{tick_bit, tick_below, bits_zero, number_same, number_bits}

-- ---- clocks added one after another

unfoldable pub ticked : ℕ → List ℕ → ℕ
ticked f [] = f
ticked f (k ∷ ks) = ticked (with_tick f k) ks

ticked_bits : (ks : List ℕ) (f i : ℕ) → i < 32 → bits (ticked f ks) i ≡ (bits f i || adding_all ks none i)
unfolding ticked
ticked_bits [] f i h = sym (or-false (bits f i))
ticked_bits (k ∷ ks) f i h = ticked_bits ks (with_tick f k) i h ∙ rw (tick_bit f k i h) (swap (bits f i) (eqb i k) (adding_all ks none i))
  where
    swap : (x e a : Bool) → (x || e || a) ≡ (x || (a || e))
    swap true e a = refl
    swap false true true = refl
    swap false true false = refl
    swap false false a = sym (or-false a)

ticked_below : (ks : List ℕ) (f : ℕ) → f < 2 ^ 32 → ticked f ks < 2 ^ 32
unfolding ticked
ticked_below [] f h = h
ticked_below (k ∷ ks) f h = ticked_below ks (with_tick f k) (tick_below f k h)

pub ticked_set : (ks : List ℕ) → ticked 0 ks ≡ number 32 (adding_all ks none)
ticked_set ks =
    sym (number_bits 32 (ticked 0 ks) (ticked_below ks 0 (omega arith)))
    ∙ number_same 32 (bits (ticked 0 ks)) (adding_all ks none) (λ i h. ticked_bits ks 0 i h ∙ ap (λ (F : Ticks). (F i || adding_all ks none i)) bits_zero)
