-- What holds of each of a list, or of each and every later one. Assumes nothing.
use Prim.Native.Nat.{ℕ, zero, suc, ◌<◌}
use mathlib.Core.List.{List, [], ◌∷◌}
use native.Mathlib.Omega.{arith}
use lib.ListN.{length, get_or}
use Rattle.written.specs.Claim.{Each}

pub each_all : {A : Type 0} {P : A → Type 0} (l : List A) → ((a : A) → P a) → Each P l
unfolding Each
each_all [] f = tt
each_all (a ∷ l) f = (f a, each_all l f)

pub each_to : {A : Type 0} {P Q : A → Type 0} (l : List A) → ((a : A) → P a → Q a) → Each P l → Each Q l
unfolding Each
each_to [] f e = tt
each_to (a ∷ l) f e = (f a e.0, each_to l f e.1)

pub each_with : {A : Type 0} {P Q R : A → Type 0} (l : List A) → ((a : A) → P a → Q a → R a) → Each P l → Each Q l → Each R l
unfolding Each
each_with [] f p q = tt
each_with (a ∷ l) f p q = (f a p.0 q.0, each_with l f p.1 q.1)

pub each_at : {A : Type 0} (d : A) (P : A → Type 0) (l : List A) (i : ℕ) → Each P l → i < length l → P (get_or l i d)
unfolding Each
each_at d P [] i e h = absurd (omega arith)
each_at d P (a ∷ l) zero e h = e.0
each_at d P (a ∷ l) (suc i) e h = each_at d P l i e.1 (omega arith)
