-- Of the code's shape: the words of a text, taken one by one. Assumes nothing.
use Rattle.std.specs.Prelude.{◌≡◌, List, [], ◌∷◌, Option, MatchOption}
use Rattle.text.specs.Split.{words_at, bytes_of}
use Rattle.text.specs.declared.Span.{Span}
use Rattle.text.specs.declared.Word.{Word}
use Rattle.text.specs.declared.Words.{Words}

abbrev pub words_left : Words → List Span
words_left c = words_at c.class c.text.now c.at

-- what the next word is, and where it leaves the rest
abbrev pub GivesWord : Words → Option Word → Words → Type 0
GivesWord s r u =
    (u.text.now ≡ s.text.now)
    × MatchOption r ((words_left s ≡ []) × (words_left u ≡ [])) (λ w. (words_left s ≡ w.span ∷ words_left u) × (w.bytes.now ≡ bytes_of s.text.now w.span))
