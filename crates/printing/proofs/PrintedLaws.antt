-- A word with its sign; the words of a configuration, put two after two, and as they print themselves. Assumes nothing.
use Rattle.std.specs.List.{flat_map}
use Rattle.std.specs.Prelude.{codes}
use Prim.Native.Nat.{ℕ, ◌+◌, ◌≤◌, ◌<◌}
use mathlib.Core.Path.{◌≡◌, refl, sym, ap, ◌∙◌, subst}
use mathlib.Core.List.{List, [], ◌∷◌, ◌++◌, map, append_assoc}
use mathlib.Core.Bool.{true, false, true≢false, false≢true}
use native.Mathlib.Omega.{arith}
use borrow.Author.Tests.{le-ltb}
use lib.IntN.{ℤ, pos, negsuc, nat_abs}
use lib.ListN.{length, drop, get_or, set, drop_of_length-le}
use lib.Signed.{lt_z}
use Rattle.text.proofs.Bytes.{drop_next}
use Rattle.constraint.specs.Meaning.{negative}
use Rattle.constraint.specs.Pairs.{first, second}
use Rattle.constraint.specs.declared.Word.{Word}
use Rattle.run.specs.Run.{Told}
use Rattle.text.specs.Digits.{digits}
use Rattle.printing.specs.Decimal.{signed}
use Rattle.printing.specs.Printed.{rest, both, config_line, printed, Begins}
use Rattle.printing.specs.Put.{Put}
use Rattle.printing.proofs.PutLaws.{Left, left_then, left_none, put_byte}

-- ---- a word, by its sign and how far it is from 0

pub negative_is : (z : ℤ) → lt_z z (pos 0) ≡ negative z
negative_is (pos n) = le-ltb n 0 (omega arith)
negative_is (negsuc n) = refl

module _ (z : ℤ) {n : ℕ} (m : n ≡ nat_abs z) where
  pub signed_below : negative z ≡ true → signed z ≡ 45 ∷ digits n
  signed_below e = rw m (go z e)
    where
      go : (z : ℤ) → negative z ≡ true → signed z ≡ 45 ∷ digits (nat_abs z)
      go (pos n) e = absurd (false≢true e)
      go (negsuc n) e = refl

  pub signed_above : negative z ≡ false → signed z ≡ digits n
  signed_above e = rw m (go z e)
    where
      go : (z : ℤ) → negative z ≡ false → signed z ≡ digits (nat_abs z)
      go (pos n) e = refl
      go (negsuc n) e = absurd (true≢false e)

-- ---- the texts of all parts

abbrev pub texts : List Word → List (List ℕ)
texts ws = map signed (both ws)

-- both words of a part, each behind a space
abbrev pair_text : Word → List ℕ
pair_text w = 32 ∷ signed (first w) ++ 32 ∷ signed (second w)

-- in front of those of the parts behind it
texts_cons : (w : Word) (ws : List Word) → rest (texts (w ∷ ws)) ≡ pair_text w ++ rest (texts ws)
texts_cons w ws = ap (λ (l : List ℕ). 32 ∷ l) (sym (append_assoc (signed (first w)) (32 ∷ signed (second w)) (rest (texts ws))))

module _ (ws : List Word) (i : ℕ) (d : Word) {l : List ℕ} {at : ℕ} {t m : List ℕ} {e : ℕ} (h : Left l at t m e (rest (texts (drop i ws)))) where
  pub left_pair : i < length ws → {k : List ℕ} {f : ℕ} → Put m e (pair_text (get_or ws i d)) k f → Left l at t k f (rest (texts (drop (i + 1) ws)))
  left_pair b p =
      let next : rest (texts (drop i ws)) ≡ pair_text (get_or ws i d) ++ rest (texts (drop (i + 1) ws)) =
      rw (drop_next ws i d b) (texts_cons (get_or ws i d) (drop (i + 1) ws)) in
      left_then (pair_text (get_or ws i d)) (rest (texts (drop (i + 1) ws))) (rw next at h) p

  pub left_end : length ws ≤ i → Put l at t (set m e 10) (e + 1)
  left_end b = left_none (left_then (10 ∷ []) [] (rw (drop_of_length-le ws b) at h) (put_byte m e 10))

-- equal answers have equal texts
pub begins_told : {l m : List ℕ} {n : ℕ} {t u : Told} → t ≡ u → Begins l (printed t) m n → Begins l (printed u) m n
begins_told {l} {m} {n} e b = subst (λ (t : Told). Begins l (printed t) m n) e b

-- ---- the line of a configuration as it prints itself, word by word

-- both words of each constraint, each behind a space
abbrev pub words_text : List Word → List ℕ
words_text ws = flat_map (λ w. 32 ∷ signed w.first ++ 32 ∷ signed w.second) ws

words_rest : (ws : List Word) → words_text ws ++ 10 ∷ [] ≡ rest (map signed (both ws))
words_rest [] = refl
words_rest (w ∷ ws) =
    append_assoc (32 ∷ signed w.first ++ 32 ∷ signed w.second) (words_text ws) (10 ∷ [])
    ∙ ap (λ (l : List ℕ). (32 ∷ signed w.first ++ 32 ∷ signed w.second) ++ l) (words_rest ws)
    ∙ ap (λ (l : List ℕ). 32 ∷ l) (append_assoc (signed w.first) (32 ∷ signed w.second) (rest (map signed (both ws))))

pub config_line_is : (ws : List Word) → (codes "config" ++ words_text ws) ++ 10 ∷ [] ≡ config_line ws
config_line_is ws = ap (λ (l : List ℕ). codes "config" ++ l) (words_rest ws)
