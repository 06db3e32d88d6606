-- What `ccsl_read_table` writes of records, `ccsl_step` and `ccsl_same_place` read as the same records; and words as the same configuration. Assumes
-- nothing.
use mathlib.Core.Path.{◌≡◌, refl, ap, ◌∙◌}
use mathlib.Core.Bool.{true}
use mathlib.Core.List.{List, [], ◌∷◌}
use Prim.Native.Nat.{ℕ, ◌≤◌}
use native.Mathlib.Omega.{arith}
use borrow.Author.Tests.{le-leb}
use lib.Dec.{leb}
use lib.ListN.{length, take}
use lib.Seq.{take_all}
use Rattle.constraint.specs.declared.Definition.TheVariants.{Union, Inter, Lub, Glb, Await, StrictlySampled, Sampled, Upto, Deferred}
use Rattle.constraint.specs.declared.Kind.{Kind}
use Rattle.constraint.specs.declared.Kind.TheVariants.{Empty, Relates, Defines}
use Rattle.constraint.specs.declared.Relation.TheVariants.{Coincides, Excludes, SubClock, StrictlyPrecedes, Precedes}
use Rattle.constraint.specs.declared.Word.{Word}
use Rattle.monitor_c.specs.Numbers.{kind_of, kind_number, await_number, delay_list, packed, at_most, list_of, rows, none, more, ReadBack, pairs, pair_numbers, WordsReadBack}

-- a number that fits is let pass as it is
passes : (most n : ℕ) → n ≤ most → at_most most n ≡ n
passes most n fits = rw (le-leb n most fits) refl

-- the numbers of a kind are those of that kind
kind_back : (k : Kind) → list_of (packed (delay_list k)) (length (delay_list k)) ≡ delay_list k → await_number k ≤ 4_294_967_295
    → kind_of (kind_number k) (await_number k) (packed (delay_list k)) (length (delay_list k)) ≡ k
kind_back Empty l n = refl
kind_back (Relates Coincides) l n = refl
kind_back (Relates Excludes) l n = refl
kind_back (Relates SubClock) l n = refl
kind_back (Relates StrictlyPrecedes) l n = refl
kind_back (Relates Precedes) l n = refl
kind_back (Defines Union) l n = refl
kind_back (Defines Inter) l n = refl
kind_back (Defines Lub) l n = refl
kind_back (Defines Glb) l n = refl
kind_back (Defines (Await m)) l n = ap (λ (i : ℕ). Defines (Await i)) (passes 4_294_967_295 m n)
kind_back (Defines StrictlySampled) l n = refl
kind_back (Defines Sampled) l n = refl
kind_back (Defines Upto) l n = refl
kind_back (Defines (Deferred ns)) l n = ap (λ (ms : List ℕ). Defines (Deferred ms)) l

known : (k : Kind) → leb (kind_number k) 14 ≡ true
known Empty = refl
known (Relates Coincides) = refl
known (Relates Excludes) = refl
known (Relates SubClock) = refl
known (Relates StrictlyPrecedes) = refl
known (Relates Precedes) = refl
known (Defines Union) = refl
known (Defines Inter) = refl
known (Defines Lub) = refl
known (Defines Glb) = refl
known (Defines (Await m)) = refl
known (Defines StrictlySampled) = refl
known (Defines Sampled) = refl
known (Defines Upto) = refl
known (Defines (Deferred ns)) = refl

pub read_back : ReadBack
unfolding rows
read_back [] none = (refl, refl)
read_back (r ∷ rs) (more f fs) =
    let onward = read_back rs fs in (
      rw (kind_back r.kind f.list f.number, passes 255 r.defined f.defined, passes 255 r.first f.first, passes 255 r.second f.second, onward.0) refl,
      rw (known r.kind) onward.1,
    )

-- two words that were written are those of the part that they were written of
pairs_back : (ws : List Word) → pairs (pair_numbers ws) ≡ ws
pairs_back [] = refl
pairs_back (w ∷ ws) = ap (λ (vs : List Word). w ∷ vs) (pairs_back ws)

pub words_read_back : WordsReadBack
words_read_back c e = ap (λ (ws : List Word). record { words = ws }) (ap (take 64) (pairs_back c.words) ∙ take_all 64 c.words (omega arith))
