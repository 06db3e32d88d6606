-- Of the code's shape: the lines of a text; what a line's reader in code answers stands for; the checks 19 and 20 of a line's bytes, and 13, 14,
-- 22 and 15 of its words, each asked in one walk over them; and the keys of names, by which 15 may be known before it is asked. Assumes nothing.
use Rattle.std.specs.Prelude.{◌≡◌, Bool, ◌&&◌, ◌||◌, List, [], ◌∷◌, ℕ, ◌+◌, ◌*◌, ◌%◌, ◌≤◌, eqb, leb, cond, length, Option, Some, None, MatchOption, Result, Ok, Err}
use Rattle.std.specs.List.{list_any}
use Rattle.limit.specs.Checked.{Checked, passed, stopped}
use Rattle.limit.specs.declared.Refusal.{Refusal}
use Rattle.text.specs.Bytes.{in_class}
use Rattle.text.specs.Split.{bytes_of, front, pieces_at}
use Rattle.text.specs.declared.Class.TheVariants.{Newline}
use Rattle.text.specs.declared.Span.{Span}
use Rattle.forms.specs.Lines.{too_deep, unpaired}
use Rattle.grammar.specs.Grammar.{await_number}
use Rattle.grammar.specs.declared.Builder.{Builder}
use Rattle.table.specs.Reader.{any_word, long_name, bad_number, bad_list, twice}
use Rattle.table.specs.declared.Flaws.{Flaws}
use Rattle.table.specs.declared.Lines.{Lines}
use Rattle.table.specs.declared.Pairing.{Pairing}

-- ---- lines: past the text's end there is none
abbrev pub lines_from : List ℕ → ℕ → List Span
lines_from t at = cond (leb at (length t)) (pieces_at (in_class Newline) t at) []

abbrev pub lines_left : Lines → List Span
lines_left s = lines_from s.text.now s.at

abbrev pub GivesLine : Lines → Option Span → Lines → Type 0
GivesLine s r u = (u.text.now ≡ s.text.now) × MatchOption r ((lines_left s ≡ []) × (lines_left u ≡ [])) (λ l. (lines_left s ≡ l ∷ lines_left u) × (l.start ≡ s.at) × (l.start ≤ l.end) × (l.end ≤ length s.text.now) × (u.at ≡ l.end + 1))

-- the table so far, with what a line says
abbrev pub line_read : Result (Unit {0}) Refusal → Builder → Checked Builder
line_read (Ok u) b = passed b
line_read (Err r) b = stopped r.limit r.place.0

abbrev pub pairing : List ℕ → Pairing
pairing l = record { deep = too_deep 0 l; unpaired = unpaired 0 l }

-- of some words, one of which is to fail; of one word, with those after it; and of either. 15 fails only where it is asked
abbrev pub flaws_of : List ℕ → (ask : Bool) → List Span → Flaws
flaws_of t ask ws = record { long = any_word (long_name t) ws; bad = any_word (bad_number t) ws; list = any_word (bad_list t) ws; twice = ask && any_word (twice t) ws }

abbrev pub word_flaws : List ℕ → (ask : Bool) → Span → List Span → Flaws
word_flaws t ask w ws = record { long = long_name t w ws; bad = bad_number t w ws; list = bad_list t w ws; twice = ask && twice t w ws }

-- the number that stands in front of some words
abbrev pub number_in_front : List ℕ → List Span → ℕ
number_in_front t ws = await_number (bytes_of t (front t ws))

abbrev pub either : Flaws → Flaws → Flaws
either a b = record { long = a.long || b.long; bad = a.bad || b.bad; list = a.list || b.list; twice = a.twice || b.twice }

-- ---- names with different keys are different

-- the key of some bytes behind others, which have the key k
unfoldable pub key_from : ℕ → List ℕ → ℕ
key_from k [] = k
key_from k (b ∷ bs) = key_from (k % 36_028_797_018_963_968 * 257 + b) bs

abbrev pub key_of : List ℕ → ℕ
key_of name = key_from 0 name

-- a number is one of some
abbrev pub among : List ℕ → ℕ → Bool
among ks key = list_any (λ k. eqb k key) ks

-- ---- what is known of a test before it is asked
abbrev pub Tells : Option Bool → (test : Bool) → Type 0
Tells None test = Unit {0}
Tells (Some b) test = test ≡ b
