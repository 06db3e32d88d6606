-- Of the code's shape: what is left of a recording, of its words and of its steps. Assumes nothing.
use Rattle.std.specs.Prelude.{Err, ◌≡◌, List, [], ◌∷◌, ℕ, ◌+◌, length, Option, Some, None, Result, MatchOption, MatchResult}
use Rattle.limit.specs.declared.Refusal.{Refusal}
use Rattle.text.specs.Split.{bytes_of, words_at}
use Rattle.text.specs.declared.Class.TheVariants.{Parting}
use Rattle.text.specs.declared.Span.{Span}
use Rattle.recording.specs.Body.{mark_turn, Ending, ended, refused_at, Reading, ends_with, closing, onward, body_steps}
use Rattle.recording.specs.Variables.{Variable}
use Rattle.recording.specs.declared.Step.{Step}
use Rattle.recording.specs.declared.steps.Steps.{Steps}
use Rattle.recording.specs.declared.words.Words.{Words}

-- ---- words

abbrev pub words_left : Words → List Span
words_left s = words_at Parting s.text.now s.at

-- the next word, and what it leaves
abbrev pub GivesWord : Words → Option Span → Words → Type 0
GivesWord s r t =
    (t.text.now ≡ s.text.now)
    × MatchOption r ((words_left s ≡ []) × (words_left t ≡ [])) (λ w. words_left s ≡ w ∷ words_left t)

-- ---- steps

-- behind a step that a mark closed the mark is read first
abbrev pub behind : List Variable → List ℕ → (open_step : Option Step) → (pending : Option Span) → List Span → Reading
behind vs r o None ws = body_steps vs r o ws
behind vs r o (Some w) ws = onward (mark_turn o w.start (bytes_of r w)) (λ s. body_steps vs r (Some s) ws)

abbrev pub steps_left : Steps → Reading
steps_left s = behind s.variables.now s.words.text.now s.current s.pending (words_left s.words)

-- a refusal, and nothing more
abbrev pub refused : Refusal → Reading
refused f = ends_with (refused_at f.limit f.place.0)

-- a refusal, behind which nothing comes
abbrev pub GivesRefusal : Refusal → Option (Result Step Refusal) → Steps → Type 0
GivesRefusal f r t = (r ≡ Some (Err f)) × (steps_left t ≡ ends_with ended)

-- the next step, and what it leaves; behind a refusal there is none
abbrev pub GivesStep : Steps → Option (Result Step Refusal) → Steps → Type 0
GivesStep s r t =
    MatchOption r
    ((steps_left s ≡ ends_with ended) × (steps_left t ≡ ends_with ended))
    (λ x. MatchResult x (λ n. steps_left s ≡ closing (Some n) (steps_left t)) (λ f. (steps_left s ≡ refused f) × (steps_left t ≡ ends_with ended)))

-- how many items an iterator of a reading gives: its steps, and a refusal
abbrev pub refusals : Ending → ℕ
refusals ended = 0
refusals (refused_at l p) = 1

abbrev pub items : Reading → ℕ
items g = length g.steps + refusals g.ending

abbrev pub items_left : Steps → ℕ
items_left s = items (steps_left s)
