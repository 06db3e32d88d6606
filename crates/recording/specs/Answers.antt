-- Of the code's shape: what the answers of the reader in code stand for, and what each leaves to be read. Assumes nothing.
use Rattle.std.specs.Prelude.{◌≡◌, cond, List, [], ◌∷◌, ℕ, ◌<◌, length, Result, Ok, Err, MatchResult}
use Rattle.limit.specs.Checked.{Checked, passed, stopped}
use Rattle.limit.specs.declared.Limit.TheVariants.{HeaderCutOff}
use Rattle.limit.specs.declared.Refusal.{Refusal}
use Rattle.text.specs.Split.{bytes_of}
use Rattle.text.specs.declared.Span.{Span}
use Rattle.recording.specs.Header.{says, Header}
use Rattle.recording.specs.Left.{words_left}
use Rattle.recording.specs.Variables.{Naming, naming_in}
use Rattle.recording.specs.declared.header.Naming.{Naming as By}
use Rattle.recording.specs.declared.header.Declaration.{Declaration}
use Rattle.recording.specs.declared.header.Header.{Header as Read}
use Rattle.recording.specs.declared.words.Words.{Words}

-- what a header is read by
abbrev pub naming_of : By → Naming
naming_of g = naming_in g.table.now g.names.now g.unknown

-- an answer without a value, with the value that it leaves
abbrev pub with_value : {A : Type 0} → Result (Unit {0}) Refusal → A → Checked A
with_value (Ok u) a = passed a
with_value (Err f) a = stopped f.limit f.place.0

abbrev pub header_as : Result Read Refusal → Checked Header
header_as (Ok h) = passed (record { variables = h.variables; body = words_left h.body })
header_as (Err f) = stopped f.limit f.place.0

-- the recording ends before the header does
abbrev pub cut_off_at : ℕ → Refusal
cut_off_at n = record { limit = HeaderCutOff; place = record { 0 = n } }

-- the next word, or none
abbrev pub GivesNext : Words → Result Span Refusal → Words → Type 0
GivesNext s r t =
    (t.text.now ≡ s.text.now)
    × MatchResult r (λ w. words_left s ≡ w ∷ words_left t) (λ f. (words_left s ≡ []) × (f ≡ cut_off_at (length s.text.now)))

-- the next five words, or fewer
abbrev pub GivesFive : Words → Result Declaration Refusal → Words → Type 0
GivesFive s r t =
    (t.text.now ≡ s.text.now)
    × MatchResult r (λ d. words_left s ≡ d.kind ∷ d.width ∷ d.id ∷ d.name ∷ d.last ∷ words_left t) (λ f. (length (words_left s) < 5) × (f ≡ cut_off_at (length s.text.now)))

-- the words behind the first `$end`
unfoldable pub after_end : List ℕ → List Span → List Span
after_end r [] = []
after_end r (w ∷ ws) = cond (says (bytes_of r w) "$end") ws (after_end r ws)
