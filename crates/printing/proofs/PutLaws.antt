-- A text put into a buffer part by part. Assumes nothing.
use Prim.Native.Nat.{ℕ, suc, ◌+◌, ◌≤◌, ◌<◌}
use mathlib.Core.Path.{◌≡◌, refl, sym, ◌∙◌}
use mathlib.Core.List.{List, [], ◌∷◌, ◌++◌}
use native.Mathlib.Nat.{zero-add}
use native.Mathlib.Omega.{arith}
use lib.ListN.{length, drop, get_or, set, length-append, drop_of_length-le}
use lib.Seq.{sets, length-sets, sets-eq, take_at, drop_at, length-take-le}
use Rattle.text.proofs.Bytes.{drop_next}
use Rattle.printing.specs.Printed.{Begins}
use Rattle.printing.specs.Put.{Put}

sets_append : (a b l : List ℕ) (i : ℕ) → sets l i (a ++ b) ≡ sets (sets l i a) (i + length a) b
sets_append [] b l i = let z : i + 0 ≡ i = omega arith in rw z
sets_append (x ∷ a) b l i = let z : suc i + length a ≡ i + suc (length a) = omega arith in sets_append a b (set l i x) (suc i) ∙ rw z

pub put_none : (l : List ℕ) (at : ℕ) → Put l at [] l at
put_none l at = record { stored = refl; ends = omega arith }

pub put_byte : (l : List ℕ) (at b : ℕ) → Put l at (b ∷ []) (set l at b) (at + 1)
put_byte l at b = record { stored = refl; ends = omega arith }

module _ {l : List ℕ} {at : ℕ} {a : List ℕ} {m : List ℕ} {e : ℕ} (p : Put l at a m e) where
  pub put_length : length m ≡ length l
  put_length = rw (p.stored, length-sets)

  pub put_then : {b k : List ℕ} {f : ℕ} → Put m e b k f → Put l at (a ++ b) k f
  put_then {b} {k} {f} q =
      record {
        stored = q.stored ∙ rw (p.stored, p.ends) (sym (sets_append a b l at));
        ends = omega (arith, p.ends, q.ends, length-append a b);
      }

-- ---- what is left of a text: put from here on, it gives what the whole text gives from the start

pub record Left (before : List ℕ) (at : ℕ) (text out : List ℕ) (to : ℕ) (left : List ℕ) : Type 0 where
  pub whole : sets out to left ≡ sets before at text
  pub ends : to + length left ≡ at + length text
  pub same : length out ≡ length before

pub left_all : (l : List ℕ) (at : ℕ) (t : List ℕ) → Left l at t l at t
left_all l at t = record { whole = refl; ends = refl; same = refl }

pub left_none : {l : List ℕ} {at : ℕ} {t m : List ℕ} {e : ℕ} → Left l at t m e [] → Put l at t m e
left_none {e = e} h = record { stored = h.whole; ends = omega (arith, h.ends) }

pub left_then : {l : List ℕ} {at : ℕ} {t m : List ℕ} {e : ℕ} (a b : List ℕ) {k : List ℕ} {f : ℕ} → Left l at t m e (a ++ b) → Put m e a k f → Left l at t k f b
left_then {m = m} {e = e} a b h p =
    record {
      whole = rw (p.stored, p.ends) (sym (sets_append a b m e) ∙ h.whole);
      ends = omega (arith, h.ends, p.ends, length-append a b);
      same = put_length p ∙ h.same;
    }

-- one byte of a text that is put byte by byte
module _ (l : List ℕ) (at : ℕ) (t m : List ℕ) (i : ℕ) (h : Left l at t m (at + i) (drop i t)) where
  pub left_byte : i < length t → Left l at t (set m (at + i) (get_or t i 0)) (at + (i + 1)) (drop (i + 1) t)
  left_byte k =
      let z : at + i + 1 ≡ at + (i + 1) = omega arith in
      rw z at (left_then (get_or t i 0 ∷ []) (drop (i + 1) t) (rw (drop_next t i 0 k) at h) (put_byte m (at + i) (get_or t i 0)))

  pub left_over : length t ≤ i → Put l at t m (at + i)
  left_over k = left_none (rw (drop_of_length-le t k) at h)

-- a text that is put from 0 on, and has room
pub begins : {l t m : List ℕ} {e : ℕ} → Put l 0 t m e → e ≤ length l → Begins l t m e
begins {l} {t} {m} {e} p h =
    let n : length t ≡ e = omega (arith, p.ends) in
    let q : m ≡ t ++ drop e l = p.stored ∙ sets-eq t l 0 (omega arith) ∙ rw (zero-add (length t), n) in
    let w : e ≤ length m = omega (arith, put_length p) in
    record { front = rw (q, take_at t (drop e l) e n); behind = rw (q, drop_at t (drop e l) e n); within = w; counts = sym (length-take-le e m w) }
