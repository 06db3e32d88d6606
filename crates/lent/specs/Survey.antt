-- Of the code's shape: the single step as a walk over the records, what one record adds to what is known of those before it, and the answer at
-- the end. proofs/SurveyLaws shows that it comes to what Single says. Assumes nothing.
use Rattle.std.specs.Prelude.{Bool, true, false, List, [], ◌∷◌, ℕ, suc, set, None, Ok, Err, Result}
use Rattle.limit.specs.declared.Limit.TheVariants.{Records, ConfigurationWord, TickSet}
use Rattle.limit.specs.declared.Place.{Place}
use Rattle.constraint.specs.Implicit.{implied_of}
use Rattle.constraint.specs.Look.{looked}
use Rattle.constraint.specs.SamePlace.{word_at}
use Rattle.constraint.specs.Ticks.{bits, with_ticks}
use Rattle.constraint.specs.declared.Clocks.{Clocks}
use Rattle.constraint.specs.declared.Configuration.{Configuration}
use Rattle.constraint.specs.declared.Constraint.{Constraint}
use Rattle.constraint.specs.declared.Fitted.{Fitted}
use Rattle.constraint.specs.declared.Seen.{Seen}
use Rattle.constraint.specs.declared.Seen.TheVariants.{Out, Fails, Leaves, Moves}
use Rattle.constraint.specs.declared.Word.{Word}
use Rattle.judging.specs.Single.{StepTold, accepted, stopped_said, refuses_at, beyond_clocks, judged_told}
use Rattle.judging.specs.Step.{Judged, handed_back}
use Rattle.judging.specs.declared.Stopped.{Stopped}
use Rattle.judging.specs.declared.NotHeld.TheVariants.{Failed, PastMillion}
use Rattle.lent.specs.Places.{lowest, fitted_here, unfit_at, out_at}
use Rattle.lent.specs.declared.Survey.{Survey}

-- before the first record
abbrev pub begins : Clocks → (ticks : ℕ) → Survey
begins clocks f = record { clocks = clocks; given = f; ticks = f; earlier = 0; unfit = None; out = None; failing = None; past = None }

-- ---- what a step comes to for a record: the word is in range; the record does not fail; the word does not leave its million; the word after it

abbrev pub inside : Seen → Bool
inside Out = false
inside Fails = true
inside (Leaves v) = true
inside (Moves v) = true

abbrev pub held : Seen → Bool
held Out = true
held Fails = false
held (Leaves v) = true
held (Moves v) = true

abbrev pub stayed : Seen → Bool
stayed Out = true
stayed Fails = true
stayed (Leaves v) = false
stayed (Moves v) = true

abbrev pub after : Seen → Word → Word
after Out w = w
after Fails w = w
after (Leaves v) w = v
after (Moves v) w = v

-- ---- what the record at place p adds, by how it fits and what the step comes to for it and its word w; and its word after the step

pub record Turn : Type 0 where
  pub known : Survey
  pub word : Word

abbrev pub turn : Survey → Word → Turn
turn s w = record { known = s; word = w }

abbrev pub added : Survey → (p : Place) → Fitted → Seen → (w : Word) → Turn
added s p f a w =
    turn (record {
      clocks = s.clocks;
      given = s.given;
      ticks = s.ticks;
      earlier = f.defined;
      unfit = lowest s.unfit f.fits p;
      out = lowest s.out (inside a) p;
      failing = lowest s.failing (held a) p;
      past = lowest s.past (stayed a) p;
    }) (after a w)

-- the same with other ticks
abbrev pub ticking : Survey → (ticks : ℕ) → Survey
ticking s f = record { clocks = s.clocks; given = s.given; ticks = f; earlier = s.earlier; unfit = s.unfit; out = s.out; failing = s.failing; past = s.past }

-- the ticks at a record: those so far, with that of the implicit clock that it defines. A definition stands above its use, so they are all that
-- the record asks
abbrev pub ticks_here : Survey → Constraint → (w : Word) → ℕ
ticks_here s r w = with_ticks s.ticks (implied_of s.clocks.named r w (bits s.ticks))

unfoldable pub visited : Survey → (p : Place) → Constraint → (w : Word) → Turn
visited s p r w = added (ticking s (ticks_here s r w)) p (fitted_here s.clocks s.earlier r) (looked r w (bits (ticks_here s r w))) w

-- ---- record by record, with the words, of which each is moved as its record is visited

pub record Walked : Type 0 where
  pub known : Survey
  pub words : List Word

abbrev pub turned : (i : ℕ) → Walked → Constraint → Walked
turned i k r =
    let t = visited k.known (record { 0 = suc i }) r (word_at k.words i) in
    record { known = t.known; words = set k.words i t.word }

unfoldable pub surveyed : (i : ℕ) → Walked → List Constraint → Walked
surveyed i k [] = k
surveyed i k (r ∷ rs) = surveyed (suc i) (turned i k r) rs

-- ---- the answer, after count records

-- what a step that ends so comes to, by the configurations before and after it
abbrev pub ended : (before after : Configuration) → Result (Unit {0}) Stopped → StepTold
ended b a (Ok u) = record { said = accepted; configuration = a }
ended b a (Err s) = record { said = stopped_said s; configuration = b }

-- judging, then 51
abbrev pub judged_at : Survey → (before after : Configuration) → Judged
judged_at s b a = handed_back Failed s.failing b (handed_back PastMillion s.past b (record { outcome = Ok tt; configuration = a }))

unfoldable pub concluded : Survey → (count : ℕ) → (before after : Configuration) → StepTold
concluded s n b a =
    refuses_at Records (unfit_at s.clocks s.unfit n) b
    (refuses_at ConfigurationWord (out_at s.out n b.words) b
    (refuses_at TickSet (beyond_clocks s.clocks s.given) b
    (judged_told (judged_at s b a))))
