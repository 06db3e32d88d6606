-- Every word is that of its pair, and 60 in the words of pairs. Assumes nothing.
use mathlib.Core.Path.{◌≡◌, refl, ap}
use mathlib.Core.Bool.{Bool, true, false, ◌&&◌}
use Prim.Native.Nat.{zero, suc}
use native.Mathlib.Omega.{arith}
use borrow.Author.Tests.{lt-leb}
use lib.Dec.{leb}
use lib.IntN.{ℤ, pos, negsuc}
use Rattle.constraint.specs.Lists.{pair_within, PairsInRange, PartsArePairs}
use Rattle.constraint.specs.Meaning.{equals, between, counter_of, counter_range, within, fits}
use Rattle.constraint.specs.Pairs.{paired}
use Rattle.constraint.specs.declared.Counter.{Counter}
use Rattle.constraint.specs.declared.Counter.TheVariants.{Fixed, Gap, Lead, Countdown, StrictSample, Sample, Until, Pending}

cut : (x : Bool) → (x && false) ≡ false
cut true = refl
cut false = refl

-- 0 is the one number from 0 to 0
zero_alone : (y : ℤ) → between (pos 0) (pos 0) y ≡ equals 0 y
zero_alone (pos zero) = refl
zero_alone (pos (suc n)) = rw (lt-leb (suc n) 0 (omega arith)) (cut (leb 0 (suc n)))
zero_alone (negsuc n) = refl

pub pairs_in_range : PairsInRange
pairs_in_range r z y = go (counter_of r.kind)
  where
    go : (k : Counter) → fits (counter_range k) (paired z y) ≡ pair_within k z y
    go Fixed = ap (λ (x : Bool). within (counter_range Fixed) z && x) (zero_alone y)
    go Gap = ap (λ (x : Bool). within (counter_range Gap) z && x) (zero_alone y)
    go Lead = ap (λ (x : Bool). within (counter_range Lead) z && x) (zero_alone y)
    go (Countdown n) = ap (λ (x : Bool). within (counter_range (Countdown n)) z && x) (zero_alone y)
    go StrictSample = ap (λ (x : Bool). within (counter_range StrictSample) z && x) (zero_alone y)
    go Sample = ap (λ (x : Bool). within (counter_range Sample) z && x) (zero_alone y)
    go Until = ap (λ (x : Bool). within (counter_range Until) z && x) (zero_alone y)
    go (Pending ns) = refl

pub parts_are_pairs : PartsArePairs
parts_are_pairs w = refl
