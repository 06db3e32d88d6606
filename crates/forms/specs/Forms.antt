-- The forms of a table's lines, apart from any reader: document 01, "Table text", row by row, and operands in parentheses (document 02, M-101) and
-- delays (M-105). A line is a list of bytes, and so is a word. Assumes nothing.
use Rattle.std.specs.Prelude.{◌≡◌, refl, Bool, true, false, not, cond, ◌&&◌, ◌||◌, List, [], ◌∷◌, ◌++◌, map, ℕ, zero, suc, eqb}
use Rattle.constraint.specs.declared.Definition.{Definition}
use Rattle.constraint.specs.declared.Definition.TheVariants.{Union, Inter, Lub, Glb, StrictlySampled, Sampled, Upto}
use Rattle.constraint.specs.declared.Relation.{Relation}
use Rattle.constraint.specs.declared.Relation.TheVariants.{Coincides, Excludes, SubClock, StrictlyPrecedes, Precedes}
use Rattle.text.specs.Ascii.{ascii}
use Rattle.text.specs.Bytes.{letter, digit, all_bytes, same_bytes}
use Rattle.text.specs.Digits.{value}

abbrev pub Word : Type 0
Word = List ℕ

abbrev pub Words : Type 0
Words = List Word

abbrev pub Line : Type 0
Line = List ℕ

-- ---- lines and words

-- a byte in front of the first part
unfoldable pub grow : ℕ → List (List ℕ) → List (List ℕ)
grow b [] = []
grow b (p ∷ ps) = (b ∷ p) ∷ ps

-- the parts of some bytes between those that pass sep, empty ones too; a byte that passes alone is a part by itself
unfoldable pub parts : (sep alone : ℕ → Bool) → List ℕ → List (List ℕ)
parts sep alone [] = [] ∷ []
parts sep alone (b ∷ bs) =
    cond (sep b) ([] ∷ parts sep alone bs)
    (cond (alone b) ([] ∷ (b ∷ []) ∷ parts sep alone bs)
    (grow b (parts sep alone bs)))

unfoldable pub nonempty : List (List ℕ) → List (List ℕ)
nonempty [] = []
nonempty ([] ∷ ps) = nonempty ps
nonempty ((b ∷ bs) ∷ ps) = (b ∷ bs) ∷ nonempty ps

-- lines are parted by byte 10
abbrev pub lines_of : List ℕ → List Line
lines_of t = parts (λ b. eqb b 10) (λ b. false) t

-- words by one or more spaces; spaces at a line's ends mean nothing. A parenthesis is a word by itself
abbrev pub words_of : Line → Words
words_of l = nonempty (parts (λ b. eqb b 32) (λ b. eqb b 40 || eqb b 41) l)

-- ---- names and digit runs

unfoldable pub one_of : Words → Word → Bool
one_of [] w = false
one_of (u ∷ us) w = same_bytes w u || one_of us w

abbrev pub form_words : Words
form_words =
    ascii "=" ∷ ascii "#" ∷ ascii "isSubClockOf" ∷ ascii "strictly" ∷ ascii "precedes" ∷ ascii "clockDef" ∷ ascii "clockUnion" ∷ ascii "clockInter" ∷
    ascii "lub" ∷ ascii "glb" ∷ ascii "await" ∷ ascii "sampled" ∷ ascii "upto" ∷ ascii "deferred" ∷ ascii "for" ∷ ascii "(" ∷ ascii ")" ∷ []

-- a letter, then letters, digits or underscores
unfoldable pub name_shape : Word → Bool
name_shape [] = false
name_shape (b ∷ bs) = letter b && all_bytes (λ c. letter c || digit c || eqb c 95) (b ∷ bs)

-- the form words are not names
abbrev pub is_name : Word → Bool
is_name w = name_shape w && not (one_of form_words w)

unfoldable pub is_digits : Word → Bool
is_digits [] = false
is_digits (d ∷ ds) = all_bytes digit (d ∷ ds)

abbrev pub all_digits : Words → Bool
all_digits [] = true
all_digits (n ∷ ns) = is_digits n && all_digits ns

-- ---- forms, over what an operand is

-- a right side of clockDef, and a line. The number of an await is the value of its digits, of any size, and so is each of a delay's list, of any
-- length
pub data Right (O : Type 0) : Type 0 where
  both : Definition → O → O → Right O
  awaits : ℕ → O → Right O
  delays : List ℕ → O → O → Right O

pub data Form (O : Type 0) : Type 0 where
  relates : Relation → O → O → Form O
  defines : Word → Right O → Form O

-- which words are a right side
pub data IsRight {O : Type 0} (Operand : Words → O → Type 0) : Words → Right O → Type 0 where
  union : {a b : Words} {x y : O} → Operand a x → Operand b y → IsRight Operand (a ++ ascii "clockUnion" ∷ b) (both Union x y)
  inter : {a b : Words} {x y : O} → Operand a x → Operand b y → IsRight Operand (a ++ ascii "clockInter" ∷ b) (both Inter x y)
  lub : {a b : Words} {x y : O} → Operand a x → Operand b y → IsRight Operand (a ++ ascii "lub" ∷ b) (both Lub x y)
  glb : {a b : Words} {x y : O} → Operand a x → Operand b y → IsRight Operand (a ++ ascii "glb" ∷ b) (both Glb x y)
  await : {n : Word} {a : Words} {x : O} → is_digits n ≡ true → Operand a x → IsRight Operand (ascii "await" ∷ n ∷ a) (awaits (value 0 n) x)
  strictly_sampled : {a b : Words} {x y : O} → Operand a x → Operand b y → IsRight Operand (a ++ ascii "strictly" ∷ ascii "sampled" ∷ b) (both StrictlySampled x y)
  sampled : {a b : Words} {x y : O} → Operand a x → Operand b y → IsRight Operand (a ++ ascii "sampled" ∷ b) (both Sampled x y)
  upto : {a b : Words} {x y : O} → Operand a x → Operand b y → IsRight Operand (a ++ ascii "upto" ∷ b) (both Upto x y)
  deferred : {a b : Words} (ns : Words) {x y : O} → Operand a x → Operand b y → all_digits ns ≡ true → IsRight Operand (a ++ ascii "deferred" ∷ (b ++ ascii "for" ∷ ns)) (delays (map (value 0) ns) x y)

-- which words are a form
pub data IsForm {O : Type 0} (Operand : Words → O → Type 0) : Words → Form O → Type 0 where
  coincides : {a b : Words} {x y : O} → Operand a x → Operand b y → IsForm Operand (a ++ ascii "=" ∷ b) (relates Coincides x y)
  excludes : {a b : Words} {x y : O} → Operand a x → Operand b y → IsForm Operand (a ++ ascii "#" ∷ b) (relates Excludes x y)
  sub_clock : {a b : Words} {x y : O} → Operand a x → Operand b y → IsForm Operand (a ++ ascii "isSubClockOf" ∷ b) (relates SubClock x y)
  strictly_precedes : {a b : Words} {x y : O} → Operand a x → Operand b y → IsForm Operand (a ++ ascii "strictly" ∷ ascii "precedes" ∷ b) (relates StrictlyPrecedes x y)
  precedes : {a b : Words} {x y : O} → Operand a x → Operand b y → IsForm Operand (a ++ ascii "precedes" ∷ b) (relates Precedes x y)
  clock_def : {c : Word} {ws : Words} {r : Right O} → is_name c ≡ true → IsRight Operand ws r → IsForm Operand (c ∷ ascii "clockDef" ∷ ws) (defines c r)

-- ---- operands: a name, or a right side in parentheses, which uses up one of the levels that are left

pub data Operand : Type 0 where
  name : Word → Operand
  both_inside : Definition → Operand → Operand → Operand
  awaits_inside : ℕ → Operand → Operand
  delays_inside : List ℕ → Operand → Operand → Operand

-- a right side in parentheses
abbrev pub inner : Right Operand → Operand
inner (both k x y) = both_inside k x y
inner (awaits n x) = awaits_inside n x
inner (delays ns x y) = delays_inside ns x y

pub data IsOperandOf (Side : Words → Right Operand → Type 0) : Words → Operand → Type 0 where
  one_name : {n : Word} → is_name n ≡ true → IsOperandOf Side (n ∷ []) (name n)
  in_parentheses : {ws : Words} {r : Right Operand} → Side ws r → IsOperandOf Side (ascii "(" ∷ (ws ++ ascii ")" ∷ [])) (inner r)

unfoldable pub IsOperand : (levels : ℕ) → Words → Operand → Type 0
IsOperand zero = IsOperandOf (λ ws r. ⊥)
IsOperand (suc n) = IsOperandOf (IsRight (IsOperand n))

abbrev pub levels : ℕ
levels = 16

-- a line has a form
abbrev pub HasForm : Line → Form Operand → Type 0
HasForm l f = IsForm (IsOperand levels) (words_of l) f

-- the claim: no line fits two forms
abbrev pub NoLineFitsTwoForms : Type 0
NoLineFitsTwoForms = (l : Line) (f g : Form Operand) → HasForm l f → HasForm l g → f ≡ g

-- ---- two lines; the words of a line; a form word; a line that is a form

two_lines : lines_of (97 ∷ 10 ∷ []) ≡ ascii "a" ∷ [] ∷ []
unfolding parts grow
two_lines = refl

three_words : words_of (ascii " a  lub(") ≡ ascii "a" ∷ ascii "lub" ∷ ascii "(" ∷ []
unfolding parts grow nonempty
three_words = refl

no_name_lem : is_name (ascii "lub") ≡ false
unfolding name_shape one_of all_bytes same_bytes
no_name_lem = refl

an_await : HasForm (ascii "c clockDef await 007 a") (defines (ascii "c") (awaits 7 (name (ascii "a"))))
unfolding IsOperand parts grow nonempty name_shape one_of is_digits all_bytes same_bytes value
an_await = clock_def refl (await refl (one_name refl))

a_delay : HasForm (ascii "(a deferred b for 2 03) = c") (relates Coincides (inner (delays (2 ∷ 3 ∷ []) (name (ascii "a")) (name (ascii "b")))) (name (ascii "c")))
unfolding IsOperand parts grow nonempty name_shape one_of is_digits all_bytes same_bytes value
a_delay = coincides (in_parentheses (deferred (ascii "2" ∷ ascii "03" ∷ []) (one_name refl) (one_name refl) refl)) (one_name refl)

-- a line of the second course
a_nested_line : HasForm (ascii "((a clockUnion b)upto c) precedes d")
    (relates Precedes (inner (both Upto (inner (both Union (name (ascii "a")) (name (ascii "b")))) (name (ascii "c")))) (name (ascii "d")))
unfolding IsOperand parts grow nonempty name_shape one_of all_bytes same_bytes
a_nested_line = precedes (in_parentheses (upto (in_parentheses (union (one_name refl) (one_name refl))) (one_name refl))) (one_name refl)
