-- 51: a word in range is within its million, and where a record held from a word in range, its next word is in range exactly when it is within
-- its million. Assumes nothing.
use mathlib.Core.Path.{◌≡◌, refl, sym, ◌∙◌}
use mathlib.Core.Logic.{◌⊎◌, inl, inr}
use mathlib.Core.Bool.{true, false≢true, and-true}
use lib.Dec.{leb, leb-suc-suc}
use lib.IntN.{ℤ, pos, negsuc, nat_abs}
use Rattle.constraint.specs.Meaning.{word, counter_of, counter_range, within, fits, holds, next_word, in_range}
use Rattle.constraint.specs.Million.{within_million, in_million}
use Rattle.constraint.specs.Ticks.{Ticks}
use Rattle.constraint.specs.declared.Constraint.{Constraint}
use Rattle.constraint.specs.declared.Counter.{Counter}
use Rattle.constraint.specs.declared.Counter.TheVariants.{Fixed, Gap, Lead, Countdown, StrictSample, Sample, Until, Pending}
use Rattle.constraint.specs.declared.Word.{Word}
use Rattle.constraint.proofs.Booleans.{and_l, and_r}
use Rattle.constraint.proofs.Laws.{Past, next_in_range}

-- ---- one word

-- the range of a lead's first word is its million
pub lead_million : (z : ℤ) → within (counter_range Lead) z ≡ leb (nat_abs z) 1_000_000
lead_million (pos m) = refl
lead_million (negsuc m) = and-true (leb m 999_999) ∙ sym (leb-suc-suc m 999_999)

gap_million : (z : ℤ) → within (counter_range Gap) z ≡ true → within_million Gap (word z) ≡ true
gap_million (pos m) e = and_r (leb 0 m) _ e
gap_million (negsuc m) e = absurd (false≢true e)

in_million_lem : (k : Counter) (w : Word) → fits (counter_range k) w ≡ true → within_million k w ≡ true
in_million_lem Fixed w e = refl
in_million_lem Gap w e = gap_million w.first (and_l _ _ e)
in_million_lem Lead w e = sym (lead_million w.first) ∙ and_l _ _ e
in_million_lem (Countdown n) w e = refl
in_million_lem StrictSample w e = refl
in_million_lem Sample w e = refl
in_million_lem Until w e = refl
in_million_lem (Pending ns) w e = refl

past_million : (k : Counter) (w : Word) → Past k w → fits (counter_range k) w ≡ within_million k w
past_million Fixed w p = absurd p
past_million Gap w p = rw p
past_million Lead w (inl p) = rw p
past_million Lead w (inr p) = rw p
past_million (Countdown n) w p = absurd p
past_million StrictSample w p = absurd p
past_million Sample w p = absurd p
past_million Until w p = absurd p
past_million (Pending ns) w p = absurd p

lands : (k : Counter) (w : Word) → (fits (counter_range k) w ≡ true) ⊎ Past k w → fits (counter_range k) w ≡ within_million k w
lands k w (inl e) = e ∙ sym (in_million_lem k w e)
lands k w (inr p) = past_million k w p

-- ---- one record, which held with a word in range
pub range_is_million : (r : Constraint) (w : Word) (F : Ticks) → in_range r w ≡ true → holds r w F ≡ true → in_range r (next_word r w F) ≡ in_million r (next_word r w F)
range_is_million r w F e h = lands (counter_of r.kind) _ (next_in_range r w F e h)
