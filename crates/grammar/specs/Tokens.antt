-- The words of a table line, told apart: document 01, "Table text". Assumes nothing.
use Rattle.std.specs.Prelude.{◌≡◌, refl, Bool, cond, ◌&&◌, List, [], ◌∷◌, ℕ, eqb}
use Rattle.constraint.specs.declared.Definition.TheVariants.{Union, Inter, Lub, Glb, Sampled, Upto, Deferred}
use Rattle.constraint.specs.declared.Kind.TheVariants.{Relates, Defines}
use Rattle.constraint.specs.declared.Relation.TheVariants.{Coincides, Excludes, SubClock, Precedes}
use Rattle.text.specs.Ascii.{ascii}
use Rattle.text.specs.Bytes.{letter, digit, in_class, all_bytes, same_bytes}
use Rattle.text.specs.declared.Class.TheVariants.{NameByte}
use Rattle.grammar.specs.declared.Token.{Token}
use Rattle.grammar.specs.declared.Token.TheVariants.{End, Other, Name, Digits, ClockDef, Await, Strictly, Form, Open, Close, For}

-- the place of a token among its kind, by which two are compared
abbrev pub tag : Token → ℕ
tag End = 0
tag Other = 1
tag Name = 2
tag Digits = 3
tag ClockDef = 4
tag Await = 5
tag Strictly = 6
tag (Form k) = 7
tag Open = 8
tag Close = 9
tag For = 10

abbrev pub is : Token → Token → Bool
is a b = eqb (tag a) (tag b)

-- a word, and what it is
pub record Spelled : Type 0 where
  pub bytes : List ℕ
  pub token : Token

infix 68 ◌says◌
abbrev pub ◌says◌ : List ℕ → Token → Spelled
w says t = record { bytes = w; token = t }

-- the words of the forms, each once; the parentheses of an operand (document 02, M-101) and the words of a delay (M-105)
abbrev pub parentheses : List Spelled
parentheses =
    ascii "(" says Open ∷
    ascii ")" says Close ∷
    []

abbrev pub delay_words : List Spelled
delay_words =
    ascii "deferred" says Form (Defines (Deferred [])) ∷
    ascii "for" says For ∷
    parentheses

abbrev pub definition_words : List Spelled
definition_words =
    ascii "clockUnion" says Form (Defines Union) ∷
    ascii "clockInter" says Form (Defines Inter) ∷
    ascii "lub" says Form (Defines Lub) ∷
    ascii "glb" says Form (Defines Glb) ∷
    ascii "sampled" says Form (Defines Sampled) ∷
    ascii "upto" says Form (Defines Upto) ∷
    ascii "await" says Await ∷
    delay_words

abbrev pub form_words : List Spelled
form_words =
    ascii "=" says Form (Relates Coincides) ∷
    ascii "#" says Form (Relates Excludes) ∷
    ascii "isSubClockOf" says Form (Relates SubClock) ∷
    ascii "precedes" says Form (Relates Precedes) ∷
    ascii "strictly" says Strictly ∷
    ascii "clockDef" says ClockDef ∷
    definition_words

-- a name is a letter, then letters, digits or underscores
unfoldable pub shape_of : List ℕ → Token
shape_of [] = End
shape_of (b ∷ bs) =
    cond (all_bytes digit (b ∷ bs)) Digits (cond (letter b && all_bytes (in_class NameByte) (b ∷ bs)) Name Other)

-- the form words are not names
unfoldable pub look_up : List ℕ → List Spelled → Token
look_up w [] = shape_of w
look_up w (s ∷ ss) = cond (same_bytes w s.bytes) s.token (look_up w ss)

abbrev pub token_of : List ℕ → Token
token_of w = look_up w form_words

-- a word of a form, which is no name; a name; digits; a word that is neither
form_word : token_of (ascii "lub") ≡ Form (Defines Lub)
unfolding look_up same_bytes
form_word = refl

a_name : token_of (ascii "a_1") ≡ Name
unfolding look_up same_bytes shape_of all_bytes
a_name = refl

some_digits : token_of (ascii "007") ≡ Digits
unfolding look_up same_bytes shape_of all_bytes
some_digits = refl

neither : token_of (ascii "1a") ≡ Other
unfolding look_up same_bytes shape_of all_bytes
neither = refl
