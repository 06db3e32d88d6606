-- The turns of the order: what is listed after each, and the machine's set of the clocks that are left. Assumes nothing.
use mathlib.Core.Path.{◌≡◌, refl}
use mathlib.Core.Bool.{true}
use mathlib.Core.List.{List, [], ◌∷◌}
use Prim.Native.Nat.{ℕ, zero, suc, ◌+◌, ◌-◌, ◌*◌, ◌%◌, ◌^◌, ◌<◌, ◌≤◌}
use native.Mathlib.Nat.{one-mul, mod-eq_of_lt}
use native.Mathlib.Omega.{arith}
use lib.Bits.{bit_xor}
use lib.Pow.{pow-lt}
use Rattle.std.specs.Prelude.{None, Some}
use Rattle.std.specs.List.{find}
use Rattle.constraint.specs.Ticks.{bits}
use Rattle.constraint.proofs.Booleans.{and_l}
use Rattle.constraint.proofs.TickSets.{bits_below}
use Rattle.order.specs.Rows.{ready_among, goes_on, turns_of}
use Rattle.order.specs.declared.Defined.{Defined}
use Rattle.order.proofs.LowestLaws.{lowest_found}

-- the machine's set without clock k
pub without_room : (left k : ℕ) → left < 4_294_967_296 → bits left k ≡ true → bit_xor left (1 * 2 ^ k % 4294967296) ≡ bit_xor left (2 ^ k)
without_room left k h e = rw (one-mul (2 ^ k), mod-eq_of_lt (pow-lt (bits_below left 32 h k e)))

-- ---- what is listed

pub turns_none : (turns left : ℕ) (ds : List Defined) → find (ready_among left) ds ≡ None → turns_of turns left ds ≡ []
unfolding turns_of goes_on
turns_none zero left ds e = refl
turns_none (suc n) left ds e = rw e

pub turns_over : (turns n left : ℕ) (ds : List Defined) → turns ≤ n → turns_of (turns - n) left ds ≡ []
unfolding turns_of
turns_over turns n left ds h = let z : turns - n ≡ 0 = omega arith in rw z

pub turns_on : (turns n left : ℕ) (ds : List Defined) (d : Defined) → n < turns → find (ready_among left) ds ≡ Some d
    → turns_of (turns - n) left ds ≡ d.number ∷ turns_of (turns - (n + 1)) (bit_xor left (2 ^ d.clock)) ds
unfolding turns_of goes_on
turns_on turns n left ds d more e =
    let t : turns - n ≡ suc (turns - (n + 1)) = omega arith in
    rw (t, e)

-- a definition that is ready is one of a clock that is left
pub ready_left : (left : ℕ) (ds : List Defined) (d : Defined) → find (ready_among left) ds ≡ Some d → bits left d.clock ≡ true
ready_left left ds d e = and_l _ _ (lowest_found (ready_among left) ds d e).1
