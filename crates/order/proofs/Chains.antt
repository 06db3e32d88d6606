-- The links closed by the numbers of a list are the chains, where all that is led to stands in the list. Assumes nothing.
use mathlib.Core.Path.{◌≡◌, refl, ◌∙◌}
use mathlib.Core.Logic.{◌⊎◌, inl, inr, ⊎_elim}
use mathlib.Core.Bool.{Bool, true, false, ◌&&◌, ◌||◌, false≢true, or_assoc, or-true, or-false}
use mathlib.Core.List.{List, [], ◌∷◌}
use Prim.Native.Nat.{ℕ}
use borrow.Author.Tests.{eqb-true}
use lib.Dec.{eqb}
use Rattle.constraint.specs.Meaning.{among}
use Rattle.constraint.proofs.Booleans.{and_l, and_r}
use Rattle.order.specs.Rests.{Links, through, closed, Chain, link, on}
use Rattle.order.proofs.Standing.{Within}

either : (x y : Bool) → (x || y) ≡ true → (x ≡ true) ⊎ (y ≡ true)
either true y e = inl refl
either false y e = inr e

-- ---- closed links are chains

-- a link that goes by k is one link or two
unthrough : (k : ℕ) (R : Links) {i j : ℕ} → Chain (through k R) i j → Chain R i j
unthrough k R (link {i} {j} e) = ⊎_elim link (λ q. on (and_l (R i k) _ q) (link (and_r (R i k) _ q))) (either (R i j) _ e)
unthrough k R (on {i} {j} {k = m} e c) =
    let d = unthrough k R c in
    ⊎_elim (λ q. on q d) (λ q. on (and_l (R i k) _ q) (on (and_r (R i k) _ q) d)) (either (R i m) _ e)

pub closed_chain : (ks : List ℕ) (R : Links) (i j : ℕ) → closed ks R i j ≡ true → Chain R i j
unfolding closed
closed_chain [] R i j e = link e
closed_chain (k ∷ ks) R i j e = unthrough k R (closed_chain ks (through k R) i j e)

-- ---- and chains are closed links

-- two links that meet at a number of a set are one
abbrev Goes : (P : ℕ → Bool) → Links → Type 0
Goes P S = (i m j : ℕ) → P m ≡ true → S i m ≡ true → S m j ≡ true → S i j ≡ true

abbrev including : ℕ → (ℕ → Bool) → ℕ → Bool
including k P m = P m || eqb m k

goes_through : (k : ℕ) (P : ℕ → Bool) (S : Links) → Goes P S → Goes (including k P) (through k S)
goes_through k P S g i m j p a b = ⊎_elim inside (λ q. at_k (eqb-true m k q)) (either (P m) (eqb m k) p)
  where
    around : S i k ≡ true → S k j ≡ true → through k S i j ≡ true
    around e f = rw (e, f) (or-true (S i j))

    at_k : m ≡ k → through k S i j ≡ true
    at_k e = around (⊎_elim (λ q. q) (and_l (S i k) _) (either (S i k) _ (rw e at a))) (⊎_elim (λ q. q) (and_r (S k k) _) (either (S k j) _ (rw e at b)))

    inside : P m ≡ true → through k S i j ≡ true
    inside q =
        let second = either (S m j) (S m k && S k j) b in
        ⊎_elim
        (λ s. ⊎_elim (λ t. rw (g i m j q s t)) (λ t. around (g i m k q s (and_l (S m k) _ t)) (and_r (S m k) _ t)) second)
        (λ s. around (and_l (S i k) _ s) (⊎_elim (g k m j q (and_r (S i k) _ s)) (and_r (S m k) _) second))
        (either (S i m) (S i k && S k m) a)

stays : (ks : List ℕ) (R : Links) (i j : ℕ) → R i j ≡ true → closed ks R i j ≡ true
unfolding closed
stays [] R i j e = e
stays (k ∷ ks) R i j e = stays ks (through k R) i j (rw e)

closed_goes : (ks : List ℕ) (P : ℕ → Bool) (R : Links) → Goes P R → Goes (λ m. P m || among m ks) (closed ks R)
unfolding closed
closed_goes [] P R g i m j p = g i m j (rw (or-false (P m)) at p)
closed_goes (k ∷ ks) P R g i m j p = closed_goes ks (including k P) (through k R) (goes_through k P R g) i m j (or_assoc (P m) (eqb m k) (among m ks) ∙ p)

module _ (ks : List ℕ) (R : Links) (within : Within R ks) where
  pub chain_closed : {i j : ℕ} → Chain R i j → closed ks R i j ≡ true
  chain_closed (link {i} {j} e) = stays ks R i j e
  chain_closed (on {i} {j} {k = m} e c) = closed_goes ks (λ x. false) R (λ a b d q. absurd (false≢true q)) i m j (within i m e) (stays ks R i m e) (chain_closed c)
