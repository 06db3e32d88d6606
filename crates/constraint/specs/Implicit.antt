-- Implicit clocks: those with numbers from the named count on. They are not recorded; each step works out their ticks, so that their definitions
-- hold (document 02, M-101). Assumes nothing.
use Rattle.std.specs.Prelude.{None, ◌≡◌, refl, Bool, true, false, not, cond, ◌&&◌, List, [], ◌∷◌, map, ℕ, ◌^◌, ◌<◌, ltb, pos, length}
use Rattle.constraint.specs.Lists.{broken_record, start_words}
use Rattle.constraint.specs.Meaning.{word, due, holds, defined_of, clocks_of}
use Rattle.constraint.specs.SamePlace.{record_at, word_at}
use Rattle.constraint.specs.Ticks.{Ticks, Below, any, bits, with_ticks}
use Rattle.constraint.specs.declared.Clocks.{Clocks}
use Rattle.constraint.specs.declared.Constraint.{Constraint}
use Rattle.constraint.specs.declared.Definition.TheVariants.{Union, Upto}
use Rattle.constraint.specs.declared.Kind.{Kind}
use Rattle.constraint.specs.declared.Kind.TheVariants.{Empty, Relates, Defines}
use Rattle.constraint.specs.declared.Relation.TheVariants.{Precedes}
use Rattle.constraint.specs.declared.Word.{Word}

-- the implicit clocks
abbrev pub implicit : (named : ℕ) → Ticks
implicit named i = not (ltb i named)

-- the implicit clock that a form makes tick: the one that it defines, where it is due
abbrev pub implied : (named : ℕ) → Kind → Word → (a b : Bool) → (c : ℕ) → List ℕ
implied named Empty w a b c = []
implied named (Relates k) w a b c = []
implied named (Defines k) w a b c = cond (implicit named c && due k w a b) (c ∷ []) []

abbrev pub implied_of : (named : ℕ) → Constraint → Word → Ticks → List ℕ
implied_of named r w F = implied named r.kind w (F r.first) (F r.second) r.defined

-- a tick set of named clocks with the implicit ones that tick with them: record by record, each with its word from before the step
abbrev pub completed : (named : ℕ) → List Constraint → List Word → (ticks : ℕ) → ℕ
completed named [] ws f = f
completed named (r ∷ rs) [] f = f
completed named (r ∷ rs) (w ∷ ws) f = completed named rs ws (with_ticks f (implied_of named r w (bits f)))

-- ---- what that means

-- of each record and its word
abbrev pub Each : (Constraint → Word → Type 0) → List Constraint → List Word → Type 0
Each P rs ws = (i : ℕ) → i < length rs → i < length ws → P (record_at rs i) (word_at ws i)

-- the clock that a record defines is implicit
abbrev pub defines_implicit : (named : ℕ) → Constraint → Bool
defines_implicit named r = any (implicit named) (defined_of r)

-- two sets have the same named clocks
abbrev pub SameNamed : (named : ℕ) → Ticks → Ticks → Type 0
SameNamed named F G = (i : ℕ) → i < named → F i ≡ G i

-- the definitions of implicit clocks hold
abbrev pub ImplicitHold : (named : ℕ) → List Constraint → List Word → Ticks → Type 0
ImplicitHold named rs ws F = Each (λ r w. defines_implicit named r ≡ true → holds r w F ≡ true) rs ws

-- G completes F: it has the same named clocks, and no clock at or above the clock count; the definitions of implicit clocks hold in it; and any
-- other set of which that is true has the same ticks of the clocks that a record names
pub record Completes (clocks : Clocks) (rs : List Constraint) (ws : List Word) (F G : Ticks) : Type 0 where
  pub named : SameNamed clocks.named F G
  pub below : Below clocks.count G
  pub hold : ImplicitHold clocks.named rs ws G
  pub only : (H : Ticks) → SameNamed clocks.named F H → ImplicitHold clocks.named rs ws H → Each (λ r w. map G (clocks_of r) ≡ map H (clocks_of r)) rs ws

-- of any records that 59 lets pass, any words, and any tick set that 61 lets pass
abbrev pub OfSteps : ((clocks : Clocks) (rs : List Constraint) (ws : List Word) (f : ℕ) → Type 0) → Type 0
OfSteps P = (clocks : Clocks) (rs : List Constraint) (ws : List Word) (f : ℕ) → broken_record clocks rs ≡ None → f < 2 ^ clocks.named → P clocks rs ws f

-- the claims: the completed set completes the tick set; in it no record that fails defines an implicit clock
abbrev pub EveryStepCompletes : Type 0
EveryStepCompletes = OfSteps (λ clocks rs ws f. Completes clocks rs ws (bits f) (bits (completed clocks.named rs ws f)))

abbrev pub ImplicitNeverFails : Type 0
ImplicitNeverFails = OfSteps (λ clocks rs ws f. Each (λ r w. holds r w (bits (completed clocks.named rs ws f)) ≡ false → defines_implicit clocks.named r ≡ false) rs ws)

-- ---- document 02's line `((a clockUnion b) upto c) precedes d`: a, b, c, d are clocks 0 to 3, the two inner expressions 4 and 5

abbrev pub nested_clocks : Clocks
nested_clocks = record { named = 4; count = 6 }

abbrev pub nested_records : List Constraint
nested_records =
    record { kind = Defines Union; defined = 4; first = 0; second = 1; line = record { 0 = 1 } } ∷
    record { kind = Defines Upto; defined = 5; first = 4; second = 2; line = record { 0 = 1 } } ∷
    record { kind = Relates Precedes; defined = 0; first = 5; second = 3; line = record { 0 = 1 } } ∷
    []

nested_passes : broken_record nested_clocks nested_records ≡ None
nested_passes = refl

-- none; {a}, with both; {a, c}, in which upto ends; {d}
nested_completed :
    map (completed 4 nested_records (start_words nested_records)) (map (with_ticks 0) ([] ∷ (0 ∷ []) ∷ (0 ∷ 2 ∷ []) ∷ (3 ∷ []) ∷ []))
    ≡ map (with_ticks 0) ([] ∷ (0 ∷ 4 ∷ 5 ∷ []) ∷ (0 ∷ 2 ∷ 4 ∷ []) ∷ (3 ∷ []) ∷ [])
nested_completed = refl

-- {b}, once upto has ended: the word from before the step decides
ended_completed : completed 4 nested_records (map word (pos 0 ∷ pos 0 ∷ pos 1 ∷ [])) (with_ticks 0 (1 ∷ [])) ≡ with_ticks 0 (1 ∷ 4 ∷ [])
ended_completed = refl

-- a named clock's ticks are the recorded ones, also of one that a record defines: with five named clocks 4 does not tick with a
named_kept : completed 5 nested_records (start_words nested_records) (with_ticks 0 (0 ∷ [])) ≡ with_ticks 0 (0 ∷ [])
named_kept = refl
