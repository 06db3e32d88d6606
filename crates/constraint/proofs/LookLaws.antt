-- What an answer of `look` tells, and how a record fits. Assumes nothing.
use mathlib.Core.Path.{◌≡◌, refl, ap}
use mathlib.Core.Bool.{Bool, true, false, not, ◌&&◌, and_assoc}
use Prim.Native.Nat.{ℕ}
use native.Mathlib.Omega.{arith}
use Rattle.constraint.specs.Lists.{all_known}
use Rattle.constraint.specs.Look.{seen, fitted_among, fitted}
use Rattle.constraint.specs.Meaning.{well_formed, defined_of, used_of}
use Rattle.constraint.specs.Ticks.{any, bits, with_ticks}
use Rattle.constraint.specs.declared.Clocks.{Clocks}
use Rattle.constraint.specs.declared.Constraint.{Constraint}
use Rattle.constraint.specs.declared.Fitted.{Fitted}
use Rattle.constraint.specs.declared.Seen.TheVariants.{Leaves, Moves}
use Rattle.constraint.specs.declared.Word.{Word}

-- ---- what an answer tells, of a word in range

pub seen_moves : (i h s : Bool) (x v : Word) → seen i h s x ≡ Moves v → (h ≡ true) × (s ≡ true) × (x ≡ v)
seen_moves true true true x v e = (refl, refl, cc)
seen_moves true true false x v e = absurd (let z : ◌≡◌ {A = ℕ} 0 1 = cc in omega arith)
seen_moves true false s x v e = absurd (let z : ◌≡◌ {A = ℕ} 0 1 = cc in omega arith)
seen_moves false h s x v e = absurd (let z : ◌≡◌ {A = ℕ} 0 1 = cc in omega arith)

pub seen_leaves : (i h s : Bool) (x v : Word) → seen i h s x ≡ Leaves v → (h ≡ true) × (s ≡ false) × (x ≡ v)
seen_leaves true true true x v e = absurd (let z : ◌≡◌ {A = ℕ} 0 1 = cc in omega arith)
seen_leaves true true false x v e = (refl, refl, cc)
seen_leaves true false s x v e = absurd (let z : ◌≡◌ {A = ℕ} 0 1 = cc in omega arith)
seen_leaves false h s x v e = absurd (let z : ◌≡◌ {A = ℕ} 0 1 = cc in omega arith)

-- ---- how a record fits

pub fits_both : (clocks : Clocks) (earlier : ℕ) (r : Constraint) {f : Fitted} {u : Bool} → f ≡ fitted_among clocks.count earlier r → u ≡ all_known clocks.named (bits earlier) (used_of r)
    → record { fits = f.fits && u; defined = f.defined } ≡ fitted clocks earlier r
fits_both clocks earlier r p q =
    let same = and_assoc (well_formed clocks.count r) (not (any (bits earlier) (defined_of r))) (all_known clocks.named (bits earlier) (used_of r)) in
    rw (p, q) (ap (λ (x : Bool). record { fits = x; defined = with_ticks earlier (defined_of r) }) same)
