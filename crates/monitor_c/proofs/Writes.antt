-- Elements that are written one behind the other. Assumes nothing.
use mathlib.Core.Path.{◌≡◌, refl, sym, ap, ap₂, ◌∙◌}
use mathlib.Core.List.{List, [], ◌∷◌, ◌++◌, append-nil}
use Rattle.std.proofs.Common.{append_assoc}
use Prim.Native.Nat.{ℕ, zero, suc, ◌+◌, ◌-◌, ◌*◌, ◌≤◌, ◌<◌}
use Rattle.std.proofs.Math.Nat.{mul-zero, mul-suc}
use native.Mathlib.Omega.{arith}
use lib.IntN.{ℤ, pos}
use lib.ListN.{length, take, drop, get_or, set, replicate}
use borrow.Rule.Slice.PartMut.{put_mid}
use Rattle.std.specs.List.{flat_map}
use Rattle.std.proofs.lemmas.List.{take_more, take_more_set, drop-replicate, drop-append-le, take_at, drop_at, drop-drop, length-append, length-replicate, length-take-le}
use Rattle.std.proofs.lemmas.Grind.{flat_map-append}
use Rattle.constraint.specs.Pairs.{paired}
use Rattle.constraint.specs.declared.Word.{Word}
use Rattle.monitor_c.specs.Numbers.{pairs, padded}
use Rattle.reading.specs.Written.{written}

module _ {A : Type 0} where
  -- one element more
  pub one_written : (us xs : List A) (a : A) → length us < length xs → set (written us xs) (length us) a ≡ written (us ++ a ∷ []) xs
  one_written [] [] a room = absurd (omega arith)
  one_written [] (x ∷ xs) a room = refl
  one_written (u ∷ us) [] a room = absurd (omega arith)
  one_written (u ∷ us) (x ∷ xs) a room = ap (λ (ys : List A). u ∷ ys) (one_written us xs a (omega (arith, room)))

  -- two more
  pub two_written : (us xs : List A) (a b : A) (i : ℕ) → i ≡ length us → i + 2 ≤ length xs → set (set (written us xs) i a) (i + 1) b ≡ written (us ++ a ∷ b ∷ []) xs
  two_written us xs a b i e room =
      let at : i + 1 ≡ length (us ++ a ∷ []) = omega (arith, length-append us (a ∷ [])) in
      rw (at, e) (ap (λ ys. set ys (length (us ++ a ∷ [])) b) (one_written us xs a (omega arith)) ∙ one_written (us ++ a ∷ []) xs b (omega arith) ∙ ap (λ ys. written ys xs) (append_assoc us (a ∷ []) (b ∷ [])))

  -- several more
  pub more_written : (us row xs : List A) (i k : ℕ) → i ≡ length us → k ≡ length row → put_mid i k (written us xs) row ≡ written (us ++ row) xs
  more_written us row xs i k e f =
      let behind : length us + length row ≡ length (us ++ row) = sym (length-append us row) in
      rw (e, f, take_at us (drop (length us) xs) (length us) refl, drop_at us (drop (length us) xs) (length us) refl, drop-drop (length row) (length us) xs, behind)
      (sym (append_assoc us row (drop (length (us ++ row)) xs)))

-- an answer's numbers, and others behind them
pub behind_answer : (a b c : ℕ) (more xs : List ℕ) (k : ℕ) → k ≡ length more → put_mid 3 k (put_mid 0 3 xs (a ∷ b ∷ c ∷ [])) more ≡ written (a ∷ b ∷ c ∷ more) xs
behind_answer a b c more xs k e = more_written (a ∷ b ∷ c ∷ []) more xs 3 k refl e

-- numbers that are written over zeros have zeros behind them
pub over_zeros : (n : ℕ) (us xs zs ws : List ℕ) → length us ≤ n → zs ≡ written (replicate n 0) xs → ws ≡ written us zs → ws ≡ written (padded n us) xs
unfolding padded
over_zeros n us xs zs ws few e f =
    let size : length {A = ℕ} (replicate n 0) ≡ n = length-replicate {A = ℕ} n 0 in
    let all : length (padded n us) ≡ n = omega (arith, length-append us (replicate (n - length us) 0), length-replicate {A = ℕ} (n - length us) 0) in
    f ∙ ap (λ ys. us ++ drop (length us) ys) e
    ∙ ap (λ ys. us ++ ys) (drop-append-le (length us) (replicate n 0) (drop (length {A = ℕ} (replicate n 0)) xs) (omega (arith, few, size)))
    ∙ ap (λ ys. us ++ (ys ++ drop (length {A = ℕ} (replicate n 0)) xs)) (drop-replicate (length us) n 0)
    ∙ ap (λ k. us ++ (replicate (n - length us) 0 ++ drop k xs)) (size ∙ sym all)
    ∙ sym (append_assoc us (replicate (n - length us) 0) (drop (length (padded n us)) xs))

pub cleared : (n : ℕ) (us xs zs : List ℕ) → zs ≡ written (replicate n 0) xs → length us ≤ n → n ≤ length xs → length us ≤ length zs
cleared n us xs zs e few room =
    let size : length {A = ℕ} (replicate n 0) ≡ n = length-replicate {A = ℕ} n 0 in
    omega (arith, few, size, ap length e, length-append (replicate n 0) (drop (length {A = ℕ} (replicate n 0)) xs))

-- one number more
pub number_written : (rs xs ws : List ℕ) (i : ℕ) → ws ≡ written (take i rs) xs → i < length rs → length rs ≤ length xs → set ws i (get_or rs i 0) ≡ written (take (i + 1) rs) xs
number_written rs xs ws i e inside room =
    let size : length (take i rs) ≡ i = length-take-le i rs (omega arith) in
    rw e (ap (λ k. set (written (take i rs) xs) k (get_or rs i 0)) (sym size) ∙ one_written (take i rs) xs (get_or rs i 0) (omega (arith, size)) ∙ ap (λ qs. written qs xs) (sym (take_more rs i 0 inside)))

module _ {A B : Type 0} (f : A → List B) (n : ℕ) (each : (x : A) → length (f x) ≡ n) where
  pub flat_more : (xs : List A) (i : ℕ) (d : A) → i < length xs → flat_map f (take i xs) ++ f (get_or xs i d) ≡ flat_map f (take (i + 1) xs)
  flat_more xs i d inside =
      sym (ap (flat_map f) (take_more xs i d inside) ∙ flat_map-append f (take i xs) (get_or xs i d ∷ []) ∙ ap (λ ys. flat_map f (take i xs) ++ ys) (append-nil (f (get_or xs i d))))

  pub length_flat : (xs : List A) → length (flat_map f xs) ≡ n * length xs
  length_flat [] = sym (mul-zero n)
  length_flat (x ∷ xs) = length-append (f x) (flat_map f xs) ∙ ap₂ (λ j k. j + k) (each x) (length_flat xs) ∙ omega (arith, mul-suc n (length xs))

  -- how many are written before the next
  pub before : (xs : List A) (i : ℕ) → i ≤ length xs → n * i ≡ length (flat_map f (take i xs))
  before xs i inside = sym (length_flat (take i xs) ∙ ap (λ k. n * k) (length-take-le i xs inside))

  pub row_written : (vs : List A) (xs ws row : List B) (i k : ℕ) (d : A) → k ≡ n → ws ≡ written (flat_map f (take i vs)) xs → i < length vs → row ≡ f (get_or vs i d)
      → put_mid (n * i) k ws row ≡ written (flat_map f (take (i + 1) vs)) xs
  row_written vs xs ws row i k d all e inside is =
      rw (e, is, all)
      (more_written (flat_map f (take i vs)) (f (get_or vs i d)) xs (n * i) n (before vs i (omega arith)) (sym (each (get_or vs i d)))
      ∙ ap (λ ys. written ys xs) (flat_more vs i d inside))

module _ {A B : Type 0} (f g : A → B) where
  pub pair_written : (vs : List A) (xs ws : List B) (i : ℕ) (d : A) → ws ≡ written (flat_map (λ x. f x ∷ g x ∷ []) (take i vs)) xs → i < length vs → 2 * length vs ≤ length xs
      → set (set ws (2 * i) (f (get_or vs i d))) (2 * i + 1) (g (get_or vs i d)) ≡ written (flat_map (λ x. f x ∷ g x ∷ []) (take (i + 1) vs)) xs
  pair_written vs xs ws i d e inside room =
      let pair : A → List B = λ x. f x ∷ g x ∷ [] in
      rw e
      (two_written (flat_map pair (take i vs)) xs (f (get_or vs i d)) (g (get_or vs i d)) (2 * i) (before pair 2 (λ x. refl) vs i (omega arith)) (omega arith)
      ∙ ap (λ ys. written ys xs) (flat_more pair 2 (λ x. refl) vs i d inside))

-- ---- pairs that are read

pub pair_at : (ws : List ℤ) (i : ℕ) → 2 * i + 2 ≤ length ws → (d : Word) → (i < length (pairs ws)) × (get_or (pairs ws) i d ≡ paired (get_or ws (2 * i) (pos 0)) (get_or ws (2 * i + 1) (pos 0)))
pair_at [] i room d = absurd (omega arith)
pair_at (w ∷ []) i room d = absurd (omega arith)
pair_at (w ∷ v ∷ ws) zero room d = (omega arith, refl)
pair_at (w ∷ v ∷ ws) (suc i) room d =
    let h = pair_at ws i (omega (arith, room)) d in
    let e : 2 * suc i + 1 ≡ suc (suc (2 * i + 1)) = omega arith in
    let f : 2 * suc i ≡ suc (suc (2 * i)) = omega arith in
    (omega (arith, h.0), rw (e, f) h.1)

pub pair_read : (ws : List ℤ) (vs : List Word) (i : ℕ) → 2 * i + 2 ≤ length ws → i < length vs → take i vs ≡ take i (pairs ws)
    → take (i + 1) (set vs i (paired (get_or ws (2 * i) (pos 0)) (get_or ws (2 * i + 1) (pos 0)))) ≡ take (i + 1) (pairs ws)
pair_read ws vs i room inside so_far =
    let d : Word = paired (pos 0) (pos 0) in
    let h = pair_at ws i room d in
    take_more_set vs i _ inside ∙ ap₂ (λ us w. us ++ w ∷ []) so_far (sym h.1) ∙ sym (take_more (pairs ws) i d h.0)
