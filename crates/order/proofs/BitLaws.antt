-- Sets of clocks below 32 as numbers: the bits of and, and of exclusive or; which clocks are among those of a list; the number of no clock. Assumes
-- nothing.
use mathlib.Core.Path.{◌≡◌, refl, sym, ap, ◌∙◌}
use mathlib.Core.Bool.{Bool, true, false, not, cond, ◌&&◌, ◌||◌, or_comm, or_assoc, or-false}
use mathlib.Core.List.{List, [], ◌∷◌, map}
use Prim.Native.Nat.{ℕ, ◌<◌, ◌^◌}
use native.Mathlib.Omega.{arith}
use borrow.Author.Tests.{eqb-true}
use lib.Bits.{bit_and, bit_xor, and_shr, and_mod, xor_shr, xor_mod}
use lib.Dec.{eqb}
use Rattle.std.specs.List.{fold}
use Rattle.constraint.specs.Meaning.{among}
use Rattle.constraint.specs.Ticks.{bits, bit, with_tick, with_ticks}
use Rattle.constraint.proofs.TickSets.{bits_below, bits_by, bits_power, tick_bit, tick_below, bits_zero, number_same, number_bits}
use Rattle.order.specs.declared.Defined.{Defined}

-- a set of a u32 has no clock from 32 up
pub clock_below : (left k : ℕ) → left < 4_294_967_296 → bits left k ≡ true → k < 32
clock_below left k h e = bits_below left 32 h k e

-- ---- bit by bit

pub bits_and : (a b i : ℕ) → bits (bit_and a b) i ≡ (bits a i && bits b i)
bits_and = bits_by bit_and ◌&&◌ and_shr and_mod table
  where
    table : (x y : Bool) → eqb (bit_and (bit x) (bit y)) 1 ≡ (x && y)
    table true true = refl
    table true false = refl
    table false true = refl
    table false false = refl

bits_xor : (a b i : ℕ) → bits (bit_xor a b) i ≡ cond (bits b i) (not (bits a i)) (bits a i)
bits_xor = bits_by bit_xor (λ x y. cond y (not x) x) xor_shr xor_mod table
  where
    table : (x y : Bool) → eqb (bit_xor (bit x) (bit y)) 1 ≡ cond y (not x) x
    table true true = refl
    table true false = refl
    table false true = refl
    table false false = refl

-- a set without a clock of it
pub bits_without : (f k i : ℕ) → bits f k ≡ true → bits (bit_xor f (2 ^ k)) i ≡ (not (eqb i k) && bits f i)
bits_without f k i e = bits_xor f (2 ^ k) i ∙ rw (bits_power k i) (go (eqb i k) refl)
  where
    go : (t : Bool) → eqb i k ≡ t → cond t (not (bits f i)) (bits f i) ≡ (not t && bits f i)
    go true q = rw (eqb-true i k q) (ap not e)
    go false q = refl

-- ---- the clocks of a list

pub bits_ticks : (ks : List ℕ) (c : ℕ) → c < 32 → bits (with_ticks 0 ks) c ≡ among c ks
bits_ticks [] c h = ap (λ F. F c) bits_zero
bits_ticks (k ∷ ks) c h = tick_bit (with_ticks 0 ks) k c h ∙ rw (bits_ticks ks c h) (or_comm (among c ks) (eqb c k))

pub ticks_below : (ks : List ℕ) → with_ticks 0 ks < 2 ^ 32
ticks_below [] = omega arith
ticks_below (k ∷ ks) = tick_below (with_ticks 0 ks) k (ticks_below ks)

-- those of definitions, put in one after another
pub bits_fold : (ds : List Defined) (f c : ℕ) → c < 32 → bits (fold (λ g d. with_tick g d.clock) f ds) c ≡ (bits f c || among c (map (λ d. d.clock) ds))
bits_fold [] f c h = sym (or-false (bits f c))
bits_fold (d ∷ ds) f c h = bits_fold ds (with_tick f d.clock) c h ∙ rw (tick_bit f d.clock c h) (or_assoc (bits f c) (eqb c d.clock) (among c (map (λ e. e.clock) ds)))

pub fold_below : (ds : List Defined) (f : ℕ) → f < 2 ^ 32 → fold (λ g d. with_tick g d.clock) f ds < 2 ^ 32
fold_below [] f h = h
fold_below (d ∷ ds) f h = fold_below ds (with_tick f d.clock) (tick_below f d.clock h)

-- ---- no clock

pub no_clock_lem : (f : ℕ) → f < 2 ^ 32 → ((i : ℕ) → bits f i ≡ false) → f ≡ 0
no_clock_lem f h none = sym (number_bits 32 f h) ∙ number_same 32 (bits f) (bits 0) (λ i l. none i ∙ sym (ap (λ F. F i) bits_zero)) ∙ number_bits 32 0 (omega arith)
