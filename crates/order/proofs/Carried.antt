-- A chain of some links is one of others, between numbers that stand for its ends. Assumes nothing.
use mathlib.Core.Path.{◌≡◌}
use mathlib.Core.Bool.{true}
use Prim.Native.Nat.{ℕ}
use Rattle.order.specs.Rests.{Links, Chain, link, on}

leads : {R : Links} {i j : ℕ} → Chain R i j → (k : ℕ) × (R i k ≡ true)
leads (link {j} e) = (j, e)
leads (on {k} e c) = (k, e)

-- P i a: a stands for i; some number stands for one that is led to and leads on
module _
    (R S : Links) (P : (i a : ℕ) → Type 0) (same : (i j a b : ℕ) → P i a → P j b → R i j ≡ true → S a b ≡ true)
    (met : (i k l : ℕ) → R i k ≡ true → R k l ≡ true → (c : ℕ) × P k c) where
  pub carried : {i j : ℕ} (a b : ℕ) → P i a → P j b → Chain R i j → Chain S a b
  carried a b p q (link {i} {j} e) = link (same i j a b p q e)
  carried a b p q (on {i} {j} {k} e c) =
      let (l, u) = leads c in
      let (m, s) = met i k l e u in
      on (same i k a m p s e) (carried m b s q c)
