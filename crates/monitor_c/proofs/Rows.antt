-- Numbers in rows of eight. Assumes nothing.
use mathlib.Core.Path.{◌≡◌, refl, sym, ap, ◌∙◌}
use mathlib.Core.Bool.{true, false}
use mathlib.Core.List.{List, [], ◌∷◌, ◌++◌, map}
use Prim.Native.Nat.{ℕ, suc, ◌+◌, ◌/◌, ◌%◌, ◌<◌, min}
use native.Mathlib.Omega.{arith}
use borrow.Author.Tests.{eq-eqb}
use Rattle.std.proofs.Common.{Ok, Err}
use Rattle.monitor_c.specs.declared.Status.TheVariants.{KindUnknown}
use lib.ListN.{length, take, get_or}
use Rattle.std.proofs.Math.Nat.{min_comm}
use Rattle.std.proofs.lemmas.List.{take_more, take-map, map-append, take_min}
use Rattle.std.specs.Simd.{first_chunks}
use Rattle.std.specs.List.{list_all}
use Rattle.constraint.specs.declared.Constraint.{Constraint}
use Rattle.monitor_c.specs.Numbers.{RecordRow, rows, row_at, kind_known, all_known, kinds_known, record_of, records_of}
use Rattle.monitor_c.specs.Calls.{shape}

abbrev pub row_of : List ℕ → RecordRow
row_of row = row_at row 0

pub chunks_are : (ns : List ℕ) → map row_of (first_chunks 8 (length ns / 8) ns) ≡ rows ns
unfolding rows
chunks_are [] = refl
chunks_are (k ∷ []) = refl
chunks_are (k ∷ c ∷ []) = refl
chunks_are (k ∷ c ∷ a ∷ []) = refl
chunks_are (k ∷ c ∷ a ∷ b ∷ []) = refl
chunks_are (k ∷ c ∷ a ∷ b ∷ n ∷ []) = refl
chunks_are (k ∷ c ∷ a ∷ b ∷ n ∷ l ∷ []) = refl
chunks_are (k ∷ c ∷ a ∷ b ∷ n ∷ l ∷ x ∷ []) = refl
chunks_are (k ∷ c ∷ a ∷ b ∷ n ∷ l ∷ x ∷ m ∷ ns) =
    let more : suc (suc (suc (suc (suc (suc (suc (suc (length ns)))))))) / 8 ≡ suc (length ns / 8) = omega arith in
    rw (more, chunks_are ns) refl

all_rows : (cs : List (List ℕ)) → list_all kind_known cs ≡ all_known (map row_of cs)
all_rows [] = refl
all_rows (c ∷ cs) = rw (all_rows cs) refl

pub known_is : (ns : List ℕ) (cs : List (List ℕ)) → cs ≡ first_chunks 8 (length ns / 8) ns → list_all kind_known cs ≡ kinds_known ns
known_is ns cs e = all_rows cs ∙ ap (λ ds. all_known (map row_of ds)) e ∙ ap all_known (chunks_are ns)

abbrev pub record_in : List ℕ → Constraint
record_in row = record_of (row_of row)

map_row : (cs : List (List ℕ)) → map record_in cs ≡ map record_of (map row_of cs)
map_row [] = refl
map_row (c ∷ cs) = ap (λ (rs : List Constraint). record_in c ∷ rs) (map_row cs)

-- the first 65 of at most as many
pub first_65 : (cs : List (List ℕ)) → take (min (length cs) 65) cs ≡ take 65 cs
first_65 cs = ap (λ k. take k cs) (min_comm (length cs) 65) ∙ take_min 65 cs

-- one row more
pub one_more : (cs : List (List ℕ)) (i : ℕ) (d : List ℕ) → i < length cs → map record_in (take i cs) ++ record_in (get_or cs i d) ∷ [] ≡ map record_in (take (i + 1) cs)
one_more cs i d inside = sym (ap (map record_in) (take_more cs i d inside) ∙ map-append record_in (take i cs) (get_or cs i d ∷ []))

module _ (ns : List ℕ) (cs : List (List ℕ)) (are : cs ≡ first_chunks 8 (length ns / 8) ns) where
  pub kind_unknown : length ns % 8 ≡ 0 → list_all kind_known cs ≡ false → Err KindUnknown ≡ shape ns
  kind_unknown even h = rw (eq-eqb (length ns % 8) 0 even, sym (known_is ns cs are) ∙ h) refl

  pub in_shape : length ns % 8 ≡ 0 → list_all kind_known cs ≡ true → Ok (tt {0}) ≡ shape ns
  in_shape even h = rw (eq-eqb (length ns % 8) 0 even, sym (known_is ns cs are) ∙ h) refl

  pub records_read : map record_in (take 65 cs) ≡ take 65 (records_of ns)
  records_read = sym (take-map record_in 65 cs) ∙ ap (take 65) (map_row cs ∙ ap (λ ds. map record_of (map row_of ds)) are ∙ ap (map record_of) (chunks_are ns))
