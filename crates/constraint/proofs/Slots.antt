-- Slots: the list that an array of records and a count stand for. What stands at a place of it, how many there are, one more record, and the
-- word of a slot that limit 60 lets pass. Assumes nothing.
use mathlib.Core.Path.{◌≡◌, refl, sym, ap}
use mathlib.Core.Bool.{true}
use mathlib.Core.List.{List, [], ◌∷◌, ◌++◌, map}
use Prim.Native.Nat.{ℕ, zero, suc, ◌≤◌, ◌<◌}
use native.Mathlib.Omega.{arith}
use lib.ListN.{length, drop, get_or, set}
use lib.Seq.{drop-nil}
use Rattle.std.specs.Prelude.{None}
use Rattle.constraint.specs.Lists.{empty, slots, first_out}
use Rattle.constraint.specs.Meaning.{in_range}
use Rattle.constraint.specs.declared.Constraint.{Constraint}
use Rattle.constraint.specs.declared.Word.{Word}
use Rattle.constraint.proofs.Demand3.{nowhere}

-- ---- what stands at a place

pub get_d_any : (rs : List Constraint) (i : ℕ) (d e : Constraint) → i < length rs → get_or rs i d ≡ get_or rs i e
get_d_any [] i d e h = absurd (omega arith)
get_d_any (r ∷ rs) zero d e h = refl
get_d_any (r ∷ rs) (suc i) d e h = get_d_any rs i d e (omega arith)

pub slots_cons : (n : ℕ) (rs : List Constraint) (i : ℕ) → i < n → drop i (slots n rs) ≡ get_or rs i empty ∷ drop (suc i) (slots n rs)
slots_cons zero rs i h = absurd (omega arith)
slots_cons (suc n) [] zero h = refl
slots_cons (suc n) (r ∷ rs) zero h = refl
slots_cons (suc n) [] (suc i) h = slots_cons n [] i (omega arith)
slots_cons (suc n) (r ∷ rs) (suc i) h = slots_cons n rs i (omega arith)

pub slots_done : (n : ℕ) (rs : List Constraint) (i : ℕ) → n ≤ i → drop i (slots n rs) ≡ []
slots_done zero rs i h = drop-nil i
slots_done (suc n) rs zero h = absurd (omega arith)
slots_done (suc n) [] (suc i) h = slots_done n [] i (omega arith)
slots_done (suc n) (r ∷ rs) (suc i) h = slots_done n rs i (omega arith)

pub slot_is : (n : ℕ) (rs : List Constraint) (i : ℕ) → i < n → get_or (slots n rs) i empty ≡ get_or rs i empty
slot_is zero rs i h = absurd (omega arith)
slot_is (suc n) [] zero h = refl
slot_is (suc n) (r ∷ rs) zero h = refl
slot_is (suc n) [] (suc i) h = slot_is n [] i (omega arith)
slot_is (suc n) (r ∷ rs) (suc i) h = slot_is n rs i (omega arith)

pub slot_past : (n : ℕ) (rs : List Constraint) (i : ℕ) → n ≤ i → get_or (slots n rs) i empty ≡ empty
slot_past zero rs i h = refl
slot_past (suc n) rs zero h = absurd (omega arith)
slot_past (suc n) [] (suc i) h = slot_past n [] i (omega arith)
slot_past (suc n) (r ∷ rs) (suc i) h = slot_past n rs i (omega arith)

pub length_slots : (n : ℕ) (rs : List Constraint) → length (slots n rs) ≡ n
length_slots zero rs = refl
length_slots (suc n) [] = ap suc (length_slots n [])
length_slots (suc n) (r ∷ rs) = ap suc (length_slots n rs)

-- the same record at every place
pub get_d_slots : (n : ℕ) (rs : List Constraint) (i : ℕ) → length rs ≤ n → get_or (slots n rs) i empty ≡ get_or rs i empty
get_d_slots zero [] i h = refl
get_d_slots zero (r ∷ rs) i h = absurd (omega arith)
get_d_slots (suc n) [] zero h = refl
get_d_slots (suc n) [] (suc i) h = get_d_slots n [] i (omega arith)
get_d_slots (suc n) (r ∷ rs) zero h = refl
get_d_slots (suc n) (r ∷ rs) (suc i) h = get_d_slots n rs i (omega arith)

-- ---- one record more

pub slots_more : (n : ℕ) (rs : List Constraint) (r : Constraint) → length rs < n → set (slots n rs) (length rs) r ≡ slots n (rs ++ r ∷ [])
slots_more zero rs r h = absurd (omega arith)
slots_more (suc n) [] r h = refl
slots_more (suc n) (s ∷ rs) r h = ap (λ ss. s ∷ ss) (slots_more n rs r (omega arith))

-- a map that keeps an empty slot
pub slots_map : (f : Constraint → Constraint) → f empty ≡ empty → (n : ℕ) (rs : List Constraint) → slots n (map f rs) ≡ map f (slots n rs)
slots_map f e zero rs = refl
slots_map f e (suc n) [] = λ i. sym e i ∷ slots_map f e n [] i
slots_map f e (suc n) (r ∷ rs) = ap (λ ss. f r ∷ ss) (slots_map f e n rs)

pub slots_slots : (n : ℕ) (rs : List Constraint) → length rs ≤ n → slots (length rs) (slots n rs) ≡ rs
slots_slots n [] h = refl
slots_slots zero (r ∷ rs) h = absurd (omega arith)
slots_slots (suc n) (r ∷ rs) h = ap (λ ss. r ∷ ss) (slots_slots n rs (omega arith))

-- ---- a word that limit 60 lets pass

pub slot_in_range :
    (k n : ℕ) (rs : List Constraint) (ws : List Word) (i : ℕ) (d : Constraint) (v : Word)
    → first_out k (slots n rs) ws ≡ None → i < n → i < length rs → i < length ws → in_range (get_or rs i d) (get_or ws i v) ≡ true
slot_in_range k zero rs ws i d v e more slot inside = absurd (omega arith)
slot_in_range k (suc n) [] ws i d v e more slot inside = absurd (omega arith)
slot_in_range k (suc n) (r ∷ rs) [] i d v e more slot inside = absurd (omega arith)
slot_in_range k (suc n) (r ∷ rs) (w ∷ ws) zero d v e more slot inside = (nowhere (in_range r w) _ k e).0
slot_in_range k (suc n) (r ∷ rs) (w ∷ ws) (suc i) d v e more slot inside =
    slot_in_range (suc k) n rs ws i d v (nowhere (in_range r w) _ k e).1 (omega arith) (omega arith) (omega arith)
