-- What the program prints: document 01, "The program", three lines: verdict, `steps n`, `config` and the two words of each constraint (document
-- 02, M-105). Assumes nothing.
use Rattle.std.specs.Prelude.{◌≡◌, refl, List, [], ◌∷◌, ◌++◌, map, ℕ, ◌≤◌, ℤ, pos, negsuc, length, take, drop, replicate}
use Rattle.constraint.specs.Meaning.{word}
use Rattle.constraint.specs.Pairs.{first, second, together}
use Rattle.constraint.specs.declared.Word.{Word}
use Rattle.run.specs.Run.{Told, Said, accepted, violated, refused, zeros}
use Rattle.text.specs.Ascii.{ascii}
use Rattle.text.specs.Digits.{digits, digits_of}
use Rattle.printing.specs.Decimal.{signed}

-- ---- a line: its words parted by one space, byte 32, and ended by byte 10

-- the words behind the first
abbrev pub rest : List (List ℕ) → List ℕ
rest [] = 10 ∷ []
rest (w ∷ ws) = 32 ∷ w ++ rest ws

abbrev pub line : List ℕ → List (List ℕ) → List ℕ
line w ws = w ++ rest ws

-- ---- the three lines

-- `accepted`, or `violated` with table line and time, or `refused` with number and place
abbrev pub verdict_line : Said → List ℕ
verdict_line accepted = line (ascii "accepted") []
verdict_line (violated l t) = line (ascii "violated") (digits l ∷ digits t ∷ [])
verdict_line (refused n p) = line (ascii "refused") (digits n ∷ digits p ∷ [])

abbrev pub steps_line : ℕ → List ℕ
steps_line n = line (ascii "steps") (digits n ∷ [])

-- the two words of each constraint
abbrev pub both : List Word → List ℤ
both [] = []
both (w ∷ ws) = first w ∷ second w ∷ both ws

abbrev pub config_line : List Word → List ℕ
config_line ws = line (ascii "config") (map signed (both ws))

-- the part of each constraint
abbrev pub shown : Told → List Word
shown t = take t.constraints t.configuration.words

abbrev pub printed : Told → List ℕ
printed t = verdict_line t.said ++ steps_line t.steps ++ config_line (shown t)

-- ---- the text in a buffer: its first n bytes are the text, and those behind them are as they were

pub record Begins (before text after : List ℕ) (n : ℕ) : Type 0 where
  pub front : take n after ≡ text
  pub behind : drop n after ≡ drop n before
  pub within : n ≤ length after
  pub counts : n ≡ length (take n after)

-- ---- document 01's example; a refused table; a negative word, and a delay with two pending ticks and one number used

first_lesson : printed (record { said = violated 1 9; steps = 4; constraints = 2; configuration = zeros })
    ≡ ascii "violated 1 9\nsteps 4\nconfig 0 0 0 0\n"
unfolding digits digits_of
first_lesson = refl

refused_table : printed (record { said = refused 12 3; steps = 0; constraints = 0; configuration = zeros })
    ≡ ascii "refused 12 3\nsteps 0\nconfig\n"
unfolding digits digits_of
refused_table = refl

one_behind : printed (record { said = accepted; steps = 10; constraints = 2; configuration = record { words = word (negsuc 0) ∷ together 5 1 ∷ replicate 62 (word (pos 0)) } })
    ≡ ascii "accepted\nsteps 10\nconfig -1 0 5 1\n"
unfolding digits digits_of
one_behind = refl
