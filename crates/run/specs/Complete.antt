-- The steps of a recording with the ticks of implicit clocks, which are not recorded: each step works them out with the words from before it
-- (document 02, M-101). Assumes nothing.
use Rattle.std.specs.Prelude.{◌≡◌, refl, List, [], ◌∷◌, ℕ, ◌%◌, ◌^◌}
use Rattle.constraint.specs.Implicit.{completed, nested_records}
use Rattle.constraint.specs.Lists.{start_words}
use Rattle.constraint.specs.Ticks.{bits}
use Rattle.constraint.specs.declared.Constraint.{Constraint}
use Rattle.constraint.specs.declared.Word.{Word}
use Rattle.recording.specs.Body.{begin}
use Rattle.recording.specs.declared.Step.{Step}
use Rattle.judging.specs.Step.{moved}

-- a step with another tick set
abbrev pub with_set : (ticks : ℕ) → Step → Step
with_set f s = record { mark = s.mark; time = s.time; ticks = f }

-- every step completed, and every word moved by it for the next
unfoldable pub complete_all : (named : ℕ) → List Constraint → List Word → List Step → List Step
complete_all named rs ws [] = []
complete_all named rs ws (s ∷ ss) =
    let f : ℕ = completed named rs ws s.ticks in
    with_set f s ∷ complete_all named rs (moved (bits f) rs ws) ss

-- a step with its named clocks alone, as it was recorded
abbrev pub as_recorded : (named : ℕ) → Step → Step
as_recorded named s = with_set (s.ticks % 2 ^ named) s

-- ---- document 02's nested line, `((a clockUnion b) upto c) precedes d`, from its start words: #0 a; #2 d; #4 b and c, with which upto ends; #5 a;
-- #7 d. The union, clock 4, ticks at 0, 4 and 5, and upto, clock 5, at 0

abbrev pub mark : (time ticks : ℕ) → Step
mark t f = with_set f (begin 0 t)

abbrev pub nested_steps : List Step
nested_steps = mark 0 1 ∷ mark 2 8 ∷ mark 4 6 ∷ mark 5 1 ∷ mark 7 8 ∷ []

nested_steps_lem : complete_all 4 nested_records (start_words nested_records) nested_steps ≡ mark 0 49 ∷ mark 2 8 ∷ mark 4 22 ∷ mark 5 17 ∷ mark 7 8 ∷ []
unfolding complete_all
nested_steps_lem = refl
