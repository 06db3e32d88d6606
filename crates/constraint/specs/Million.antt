-- 51 in document 01's words: a word would leave its million either way. Assumes nothing.
use Rattle.std.specs.Prelude.{None, Option, ◌≡◌, refl, Bool, true, List, [], ◌∷◌, map, ℕ, leb, ℤ, pos, negsuc, nat_abs}
use Rattle.constraint.specs.Edges.{constraint}
use Rattle.constraint.specs.Lists.{at, first_not}
use Rattle.constraint.specs.Meaning.{word, counter_of}
use Rattle.limit.specs.declared.Place.{Place}
use Rattle.constraint.specs.declared.Constraint.{Constraint}
use Rattle.constraint.specs.declared.Counter.{Counter}
use Rattle.constraint.specs.declared.Counter.TheVariants.{Fixed, Gap, Lead, Countdown, StrictSample, Sample, Until, Pending}
use Rattle.constraint.specs.declared.Definition.TheVariants.{Lub, Await}
use Rattle.constraint.specs.declared.Kind.TheVariants.{Relates, Defines}
use Rattle.constraint.specs.declared.Relation.TheVariants.{Precedes}
use Rattle.constraint.specs.declared.Word.{Word}

-- a million either way, -1,000,000 to 1,000,000: of both precedences (Gap), lub and glb (Lead); no other form has a million to leave
abbrev pub within_million : Counter → Word → Bool
within_million Fixed w = true
within_million Gap w = leb (nat_abs w.first) 1_000_000
within_million Lead w = leb (nat_abs w.first) 1_000_000
within_million (Countdown n) w = true
within_million StrictSample w = true
within_million Sample w = true
within_million Until w = true
within_million (Pending ns) w = true

-- of a record
abbrev pub in_million : Constraint → Word → Bool
in_million r w = within_million (counter_of r.kind) w

-- the first record whose word is past its million, the first of these having the place i
abbrev pub first_past : (i : ℕ) → List Constraint → List Word → Option Place
first_past = first_not in_million

-- a million and one more, either way; no other form has a million
abbrev past : List ℤ → Option Place
past zs = first_past 1 (constraint (Relates Precedes) ∷ constraint (Defines Lub) ∷ constraint (Defines (Await 1)) ∷ []) (map word zs)

example :
    map past (
    (pos 1_000_000 ∷ negsuc 999_999 ∷ pos 1_000_001 ∷ []) ∷
    (pos 1_000_001 ∷ negsuc 1_000_000 ∷ pos 0 ∷ []) ∷
    (pos 0 ∷ negsuc 1_000_000 ∷ pos 0 ∷ []) ∷ [])
    ≡ None ∷ at 1 ∷ at 2 ∷ []
example = refl
