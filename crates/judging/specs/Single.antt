-- The single step on any list of records, clock counts, configuration and tick set: document 01, "Where each refusal is checked", its last
-- three rows; document 02, M-101. Assumes nothing.
use Rattle.std.specs.Prelude.{◌≡◌, refl, cond, List, [], ◌∷◌, map, ℕ, ◌^◌, ltb, ℤ, pos, Option, None, Some, Result, Ok, Err}
use Rattle.limit.specs.Limit.{number_of}
use Rattle.limit.specs.declared.Limit.{Limit}
use Rattle.limit.specs.declared.Limit.TheVariants.{Records, ConfigurationWord, TickSet, Million}
use Rattle.limit.specs.declared.Place.{Place}
use Rattle.constraint.specs.Implicit.{completed, nested_clocks, nested_records}
use Rattle.constraint.specs.Lists.{at, counting, broken_record, broken_word}
use Rattle.constraint.specs.Meaning.{word}
use Rattle.constraint.specs.Ticks.{Ticks, bits}
use Rattle.constraint.specs.declared.Clocks.{Clocks}
use Rattle.constraint.specs.declared.Configuration.{Configuration}
use Rattle.constraint.specs.declared.Constraint.{Constraint}
use Rattle.constraint.specs.declared.Definition.TheVariants.{Await}
use Rattle.constraint.specs.declared.Kind.TheVariants.{Relates, Defines}
use Rattle.constraint.specs.declared.Relation.TheVariants.{StrictlyPrecedes, Precedes}
use Rattle.constraint.specs.declared.Word.{Word}
use Rattle.judging.specs.Step.{Judged, judged}
use Rattle.judging.specs.declared.NotHeld.{NotHeld}
use Rattle.judging.specs.declared.NotHeld.TheVariants.{Failed, PastMillion}
use Rattle.judging.specs.declared.Stopped.{Stopped}
use Rattle.judging.specs.declared.Stopped.TheVariants.{Violated, Refused}

-- ---- the answer in document 01's words: `violated` with its record, `refused` with number and place

pub data StepSaid : Type 0 where
  accepted : StepSaid
  violated : (record' : ℕ) → StepSaid
  refused : (number place : ℕ) → StepSaid

abbrev pub stopped_said : Stopped → StepSaid
stopped_said (Violated p) = violated p.0
stopped_said (Refused r) = refused (number_of r.limit) r.place.0

abbrev pub step_said : Result (Unit {0}) Stopped → StepSaid
step_said (Ok u) = accepted
step_said (Err s) = stopped_said s

-- the claim: no two values of the answer in code have one meaning
abbrev pub StepSaidDetermines : Type 0
StepSaidDetermines = (x y : Result (Unit {0}) Stopped) → step_said x ≡ step_said y → x ≡ y

pub record StepTold : Type 0 where
  pub said : StepSaid
  pub configuration : Configuration

-- a step that is not taken hands back the configuration that it was given
abbrev pub step_told : (before : Configuration) → Result Configuration Stopped → StepTold
step_told before (Ok after) = record { said = accepted; configuration = after }
step_told before (Err s) = record { said = stopped_said s; configuration = before }

-- ---- the checks in their order

-- a refused step hands back the configuration that it was given
abbrev pub refuses_at : Limit → Option Place → Configuration → StepTold → StepTold
refuses_at l None c t = t
refuses_at l (Some p) c t = record { said = refused (number_of l) p.0; configuration = c }

-- 61: tick set with a bit at or above the named count, place 0
abbrev pub beyond_clocks : Clocks → (ticks : ℕ) → Option Place
beyond_clocks clocks f = cond (ltb f (2 ^ clocks.named)) None (at 0)

-- the ticks of a step, with those of implicit clocks: worked out with the words from before it
abbrev pub all_ticks : Clocks → List Constraint → List Word → (ticks : ℕ) → Ticks
all_ticks clocks rs ws f = bits (completed clocks.named rs ws f)

abbrev pub outcome_said : Result (Unit {0}) NotHeld → StepSaid
outcome_said (Ok u) = accepted
outcome_said (Err (Failed p)) = violated p.0
outcome_said (Err (PastMillion p)) = refused (number_of Million) p.0

abbrev pub judged_told : Judged → StepTold
judged_told j = record { said = outcome_said j.outcome; configuration = j.configuration }

-- 59, 60, 61, then judging, then 51
unfoldable pub step_of : Clocks → List Constraint → Configuration → (ticks : ℕ) → StepTold
step_of clocks rs c f =
    refuses_at Records (broken_record clocks rs) c
    (refuses_at ConfigurationWord (broken_word rs c.words) c
    (refuses_at TickSet (beyond_clocks clocks f) c
    (judged_told (judged (all_ticks clocks rs c.words f) rs c))))

-- ---- document 01's example table, `req strictly precedes ack` and `done clockDef await 2 ack`, with req, ack, done as clocks 0, 1, 2

abbrev pub example_records : List Constraint
example_records =
    record { kind = Relates StrictlyPrecedes; defined = 0; first = 0; second = 1; line = record { 0 = 1 } } ∷
    record { kind = Defines (Await 2); defined = 2; first = 1; second = 0; line = record { 0 = 2 } } ∷
    []

abbrev from : List ℤ → Configuration
from zs = record { words = map word zs }

-- from the start words: {req}; {req, ack}, in which ack has no req before it; a fourth clock, and a clock count of 2
req : step_of (counting 3) example_records (from (pos 0 ∷ pos 2 ∷ [])) 1 ≡ record { said = accepted; configuration = from (pos 1 ∷ pos 2 ∷ []) }
unfolding step_of judged
req = refl

req_and_ack : step_of (counting 3) example_records (from (pos 0 ∷ pos 2 ∷ [])) 3 ≡ record { said = violated 1; configuration = from (pos 0 ∷ pos 2 ∷ []) }
unfolding step_of judged
req_and_ack = refl

fourth_clock : (step_of (counting 3) example_records (from (pos 0 ∷ pos 2 ∷ [])) 8).said ≡ refused 61 0
unfolding step_of
fourth_clock = refl

two_clocks : (step_of (counting 2) example_records (from (pos 0 ∷ pos 2 ∷ [])) 1).said ≡ refused 59 2
unfolding step_of
two_clocks = refl

-- {req} from a million
past_a_million : step_of (counting 3) example_records (from (pos 1_000_000 ∷ pos 2 ∷ [])) 1 ≡ record { said = refused 51 1; configuration = from (pos 1_000_000 ∷ pos 2 ∷ []) }
unfolding step_of judged
past_a_million = refl

-- ---- document 02's nested line, `((a clockUnion b) upto c) precedes d`, with a, b, c, d as clocks 0 to 3, from its start words

abbrev nested : (ticks : ℕ) → StepTold
nested f = step_of nested_clocks nested_records (from (pos 0 ∷ pos 1 ∷ pos 0 ∷ [])) f

-- {a}; {a, d}; {a, c}, with which upto ends
nested_accepted :
    map nested (1 ∷ 9 ∷ 5 ∷ [])
    ≡ map (λ zs. record { said = accepted; configuration = from zs }) ((pos 0 ∷ pos 1 ∷ pos 1 ∷ []) ∷ (pos 0 ∷ pos 1 ∷ pos 0 ∷ []) ∷ (pos 0 ∷ pos 0 ∷ pos 0 ∷ []) ∷ [])
unfolding step_of judged
nested_accepted = refl

-- {d}: the line's own constraint does not allow it
nested_violated : (nested 8).said ≡ violated 3
unfolding step_of judged
nested_violated = refl

-- a tick set holds named clocks alone
nested_refused : (nested 16).said ≡ refused 61 0
unfolding step_of
nested_refused = refl

-- {a} with `(await 1 a) precedes b`: the await ends in this step, by its word from before it
awaited :
    step_of (record { named = 2; count = 3 }) (
    record { kind = Defines (Await 1); defined = 2; first = 0; second = 0; line = record { 0 = 1 } } ∷
    record { kind = Relates Precedes; defined = 0; first = 2; second = 1; line = record { 0 = 1 } } ∷
    []) (from (pos 1 ∷ pos 0 ∷ [])) 1
    ≡ record { said = accepted; configuration = from (pos 0 ∷ pos 1 ∷ []) }
unfolding step_of judged
awaited = refl
