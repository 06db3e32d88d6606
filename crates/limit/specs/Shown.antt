-- How a place and a refusal are printed: a place as its decimal digits, a refusal as the words of document 01's line, `refused`, number and place.
-- Assumes nothing.
use Rattle.std.specs.Prelude.{◌≡◌, refl, List, ◌∷◌, ◌++◌, ℕ}
use Rattle.text.specs.Ascii.{ascii}
use Rattle.text.specs.Digits.{digits, digits_of}
use Rattle.limit.specs.Limit.{number_of}
use Rattle.limit.specs.declared.Limit.TheVariants.{LineForm}
use Rattle.limit.specs.declared.Place.{Place}
use Rattle.limit.specs.declared.Refusal.{Refusal}

abbrev pub place_text : Place → List ℕ
place_text p = digits p.0

abbrev pub refusal_text : Refusal → List ℕ
refusal_text r = ascii "refused" ++ 32 ∷ digits (number_of r.limit) ++ 32 ∷ place_text r.place

-- document 01's refused table
refused_table : refusal_text (record { limit = LineForm; place = record { 0 = 3 } }) ≡ ascii "refused 12 3"
unfolding digits digits_of
refused_table = refl
