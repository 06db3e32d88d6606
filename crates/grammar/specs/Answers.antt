-- Of the code's shape: words that are taken, and what the answers of a line's reader in code stand for. Assumes nothing.
use Rattle.std.specs.Prelude.{◌≡◌, Bool, true, false, cond, ◌&&◌, List, [], ◌∷◌, ◌++◌, ℕ, leb, ltb, length, Option, Some, None, MatchOption}
use Rattle.std.specs.Borrow.{Bor}
use Rattle.constraint.specs.declared.Constraint.{Constraint}
use Rattle.constraint.specs.declared.Kind.{Kind}
use Rattle.text.specs.Split.{bytes_of, front, rest}
use Rattle.text.specs.Words.{words_left}
use Rattle.text.specs.declared.Span.{Span}
use Rattle.text.specs.declared.Words.{Words}
use Rattle.grammar.specs.Grammar.{Parsed, no_form, parsed, only_if, Placed, Formed, Kinded, Operands, is_kind, plain, strict_kind, token, delay_list, past_digits, clock_at, operand}
use Rattle.grammar.specs.Tokens.{is}
use Rattle.grammar.specs.declared.Inner.{Inner}
use Rattle.grammar.specs.declared.LineReader.{LineReader}
use Rattle.grammar.specs.declared.Token.{Token}
use Rattle.grammar.specs.declared.Token.TheVariants.{Name, ClockDef}

-- ---- words

-- the next word is taken, if it is one like a token; else nothing is
abbrev pub TakesWord : Token → Words → Option (Bor (List ℕ)) → Words → Type 0
TakesWord k s r u =
    (u.text.now ≡ s.text.now)
    × MatchOption r ((is k (token s.text.now (words_left s)) ≡ false) × (words_left u ≡ words_left s))
    (λ w. (is k (token s.text.now (words_left s)) ≡ true) × (w.now ≡ bytes_of s.text.now (front s.text.now (words_left s))) × (words_left u ≡ rest (words_left s)))

-- a list of delays, and what is behind it
abbrev pub ListIs : Words → List ℕ → Words → Type 0
ListIs s ns u = (u.text.now ≡ s.text.now) × (ns ≡ delay_list s.text.now (words_left s)) × (words_left u ≡ past_digits s.text.now (words_left s))

-- one number more of a list; of one that is out of range there is none
abbrev pub with_number : Option (List ℕ) → ℕ → Option (List ℕ)
with_number None n = None
with_number (Some ns) n = cond ((leb 1 n && leb n 32) && ltb (length ns) 8) (Some (ns ++ n ∷ [])) None

abbrev pub with_numbers : Option (List ℕ) → List ℕ → Option (List ℕ)
with_numbers l [] = l
with_numbers l (n ∷ ns) = with_numbers (with_number l n) ns

-- ---- a line's reader

-- the text up to the line's end, the words of it that are left, and the reader of operands of so many levels
abbrev pub line : LineReader → List ℕ
line r = r.words.text.now

abbrev pub left : LineReader → List Span
left r = words_left r.words

abbrev pub operands : LineReader → (levels : ℕ) → Operands Inner
operands r n = operand (line r) r.names.now n

-- the same line and names
abbrev pub Keeps : LineReader → LineReader → Type 0
Keeps s r = (line r ≡ line s) × (r.names.now ≡ s.names.now)

-- a line that begins with a name and clockDef defines the clock of that name; of any other line nothing is taken
abbrev pub defines : List ℕ → List Span → Bool
defines t ws = is Name (token t ws) && is ClockDef (token t (rest ws))

abbrev pub Defines : LineReader → Option ℕ → LineReader → Type 0
Defines s r u =
    Keeps s u × (u.inner ≡ s.inner)
    × MatchOption r ((defines (line s) (left s) ≡ false) × (left u ≡ left s))
    (λ k. (defines (line s) (left s) ≡ true) × (k ≡ clock_at (line s) s.names.now (front (line s) (left s))) × (left u ≡ rest (rest (left s))))

-- a clock, a kind and a form that were read, or that none fits
abbrev pub clock_read : Option ℕ → LineReader → Parsed (Placed Inner)
clock_read None r = no_form
clock_read (Some k) r = parsed (record { left = r.inner; clock = k }) (left r)

abbrev pub kind_read : Option Kind → LineReader → Parsed Kind
kind_read None r = no_form
kind_read (Some k) r = parsed k (left r)

abbrev pub kind_of : Token → (strict : Bool) → Kind
kind_of k true = strict_kind (plain k)
kind_of k false = plain k

abbrev pub word_kind : (strict : Bool) → List ℕ → List Span → Kinded
word_kind s t ws = record { kind = kind_of (token t ws) s; after = rest ws }

-- a kind that stands there, if one does
abbrev pub kind_in : Kinded → Parsed Kind
kind_in k = only_if (is_kind k.kind) (parsed k.kind k.after)

abbrev pub form_read : Option Constraint → LineReader → Parsed (Formed Inner)
form_read None r = no_form
form_read (Some c) r = parsed (record { left = r.inner; constraint = c }) (left r)
