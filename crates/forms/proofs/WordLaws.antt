-- What the words of the forms are to the reader of `grammar`: its tokens against names, digit runs and form words, each word by the
-- list of the form words and by its shape. Assumes nothing.
use mathlib.Core.Path.{◌≡◌, refl, sym, ap, ◌∙◌}
use mathlib.Core.Bool.{Bool, true, false, not, cond, ◌&&◌, ◌||◌, true≢false, false≢true}
use mathlib.Core.List.{List, [], ◌∷◌}
use Prim.Native.Nat.{ℕ, ◌≤◌}
use native.Mathlib.Omega.{arith}
use borrow.Author.Tests.{leb-true, lt-leb, not-true}
use lib.Dec.{leb}
use Rattle.constraint.specs.declared.Definition.TheVariants.{Union, Inter, Lub, Glb, Await as AwaitKind, StrictlySampled, Sampled, Upto, Deferred}
use Rattle.constraint.specs.declared.Kind.{Kind}
use Rattle.constraint.specs.declared.Kind.TheVariants.{Empty, Relates, Defines}
use Rattle.constraint.specs.declared.Relation.TheVariants.{Coincides, Excludes, SubClock, StrictlyPrecedes, Precedes}
use Rattle.constraint.proofs.Booleans.{and_l, and_r, both_ways}
use Rattle.text.specs.Ascii.{ascii}
use Rattle.text.specs.Bytes.{letter, digit, in_class, all_bytes, same_bytes}
use Rattle.text.specs.declared.Class.TheVariants.{NameByte}
use Rattle.text.proofs.Bytes.{same_equal}
use Rattle.grammar.specs.Grammar.{plain, strict_kind, is_kind}
use Rattle.grammar.specs.Tokens.{is, Spelled, ◌says◌, shape_of, look_up, form_words, token_of}
use Rattle.grammar.specs.declared.Token.{Token}
use Rattle.grammar.specs.declared.Token.TheVariants.{End, Other, Name, Digits, ClockDef, Await, Strictly, Open, Close, For}
use Rattle.grammar.proofs.TokenLaws.{all_spelled, look_all, shape_all}
use Rattle.forms.specs.Forms.{Word, Words, one_of, form_words as listedWords, name_shape, is_name, is_digits}

implied : (x y : Bool) → (not x || y) ≡ true → x ≡ true → y ≡ true
implied true y e q = e
implied false y e q = absurd (false≢true q)

-- ---- the words of kinds
abbrev pub kind_words : Kind → Words
kind_words Empty = []
kind_words (Relates Coincides) = ascii "=" ∷ []
kind_words (Relates Excludes) = ascii "#" ∷ []
kind_words (Relates SubClock) = ascii "isSubClockOf" ∷ []
kind_words (Relates StrictlyPrecedes) = ascii "strictly" ∷ ascii "precedes" ∷ []
kind_words (Relates Precedes) = ascii "precedes" ∷ []
kind_words (Defines Union) = ascii "clockUnion" ∷ []
kind_words (Defines Inter) = ascii "clockInter" ∷ []
kind_words (Defines Lub) = ascii "lub" ∷ []
kind_words (Defines Glb) = ascii "glb" ∷ []
kind_words (Defines (AwaitKind n)) = []
kind_words (Defines StrictlySampled) = ascii "strictly" ∷ ascii "sampled" ∷ []
kind_words (Defines Sampled) = ascii "sampled" ∷ []
kind_words (Defines Upto) = ascii "upto" ∷ []
kind_words (Defines (Deferred ns)) = ascii "deferred" ∷ []

abbrev same_words : Words → Words → Bool
same_words [] [] = true
same_words [] (v ∷ vs) = false
same_words (u ∷ us) [] = false
same_words (u ∷ us) (v ∷ vs) = same_bytes u v && same_words us vs

same_words_lem : (us vs : Words) → same_words us vs ≡ true → us ≡ vs
same_words_lem [] [] e = refl
same_words_lem [] (v ∷ vs) e = absurd (false≢true e)
same_words_lem (u ∷ us) [] e = absurd (false≢true e)
same_words_lem (u ∷ us) (v ∷ vs) e =
    let p : u ≡ v = same_equal u v (and_l (same_bytes u v) (same_words us vs) e) in
    let q : us ≡ vs = same_words_lem us vs (and_r (same_bytes u v) (same_words us vs) e) in
    λ i. p i ∷ q i

abbrev one_word : Spelled → Bool
one_word s = not (is_kind (plain s.token)) || same_words (s.bytes ∷ []) (kind_words (plain s.token))

abbrev two_words : Spelled → Bool
two_words s = not (is_kind (strict_kind (plain s.token))) || same_words (ascii "strictly" ∷ s.bytes ∷ []) (kind_words (strict_kind (plain s.token)))

pub kind_word : (w : Word) → is_kind (plain (token_of w)) ≡ true → w ∷ [] ≡ kind_words (plain (token_of w))
unfolding same_bytes
kind_word w e =
    let n : is_kind (plain (shape_of w)) ≡ false = shape_all (λ k. is_kind (plain k)) false refl refl refl refl w in
    let s : one_word (w says shape_of w) ≡ true = rw n in
    same_words_lem (w ∷ []) (kind_words (plain (token_of w))) (implied _ _ (look_all one_word w s form_words refl) e)

pub strict_word : (w : Word) → is_kind (strict_kind (plain (token_of w))) ≡ true → ascii "strictly" ∷ w ∷ [] ≡ kind_words (strict_kind (plain (token_of w)))
unfolding same_bytes
strict_word w e =
    let n : is_kind (strict_kind (plain (shape_of w))) ≡ false = shape_all (λ k. is_kind (strict_kind (plain k))) false refl refl refl refl w in
    let s : two_words (w says shape_of w) ≡ true = rw n in
    same_words_lem (ascii "strictly" ∷ w ∷ []) (kind_words (strict_kind (plain (token_of w)))) (implied _ _ (look_all two_words w s form_words refl) e)

-- ---- clockDef, await, strictly, for and the parentheses
abbrev said_by : Token → Word → Spelled → Bool
said_by k u s = not (is k s.token) || same_bytes s.bytes u

module _ (k : Token) (u : Word) (e : is k End ≡ false) (d : is k Digits ≡ false) (n : is k Name ≡ false) (o : is k Other ≡ false) (a : all_spelled (said_by k u) form_words ≡ true) where
  word_said : (w : Word) → is k (token_of w) ≡ true → w ≡ u
  word_said w h =
      let m : is k (shape_of w) ≡ false = shape_all (is k) false e d n o w in
      let s : said_by k u (w says shape_of w) ≡ true = rw m in
      same_equal w u (implied _ _ (look_all (said_by k u) w s form_words a) h)

pub clock_def_word : (w : Word) → is ClockDef (token_of w) ≡ true → w ≡ ascii "clockDef"
unfolding same_bytes
clock_def_word = word_said ClockDef (ascii "clockDef") refl refl refl refl refl

pub await_word : (w : Word) → is Await (token_of w) ≡ true → w ≡ ascii "await"
unfolding same_bytes
await_word = word_said Await (ascii "await") refl refl refl refl refl

pub strictly_word : (w : Word) → is Strictly (token_of w) ≡ true → w ≡ ascii "strictly"
unfolding same_bytes
strictly_word = word_said Strictly (ascii "strictly") refl refl refl refl refl

pub for_word : (w : Word) → is For (token_of w) ≡ true → w ≡ ascii "for"
unfolding same_bytes
for_word = word_said For (ascii "for") refl refl refl refl refl

pub open_word : (w : Word) → is Open (token_of w) ≡ true → w ≡ ascii "("
unfolding same_bytes
open_word = word_said Open (ascii "(") refl refl refl refl refl

pub close_word : (w : Word) → is Close (token_of w) ≡ true → w ≡ ascii ")"
unfolding same_bytes
close_word = word_said Close (ascii ")") refl refl refl refl refl

-- ---- digit runs
shape_digits : (w : Word) → is Digits (shape_of w) ≡ is_digits w
unfolding shape_of is_digits
shape_digits [] = refl
shape_digits (b ∷ bs) = go (all_bytes digit (b ∷ bs)) (letter b && all_bytes (in_class NameByte) (b ∷ bs))
  where
    go : (x y : Bool) → is Digits (cond x Digits (cond y Name Other)) ≡ x
    go true y = refl
    go false true = refl
    go false false = refl

abbrev digits_alike : Spelled → Bool
digits_alike s = cond (is Digits s.token) (is_digits s.bytes) (not (is_digits s.bytes))

pub digits_is : (w : Word) → is Digits (token_of w) ≡ is_digits w
unfolding is_digits all_bytes
digits_is w = alike (is Digits (token_of w)) (is_digits w) (look_all digits_alike w (rw (shape_digits w) (itself (is_digits w))) form_words refl)
  where
    itself : (x : Bool) → cond x x (not x) ≡ true
    itself true = refl
    itself false = refl

    alike : (x y : Bool) → cond x y (not y) ≡ true → x ≡ y
    alike true y e = sym e
    alike false y e = sym (not-true y e)

-- ---- names
letter_no_digit : (b : ℕ) → letter b ≡ true → digit b ≡ false
letter_no_digit b h = go (leb b 57) refl
  where
    cut : (x : Bool) → (x && false) ≡ false
    cut true = refl
    cut false = refl

    go : (x : Bool) → leb b 57 ≡ x → (leb 48 b && leb b 57) ≡ false
    go true e =
        let k : b ≤ 57 = leb-true b 57 e in
        let f : leb 65 b ≡ false = lt-leb 65 b (omega arith) in
        let g : leb 97 b ≡ false = lt-leb 97 b (omega arith) in
        absurd (false≢true (rw (f, g) at h))
    go false e = rw e (cut (leb 48 b))

shape_name : (w : Word) → is Name (shape_of w) ≡ name_shape w
unfolding shape_of name_shape all_bytes
shape_name [] = refl
shape_name (b ∷ bs) = go (letter b) (digit b) (all_bytes digit bs) (all_bytes (in_class NameByte) (b ∷ bs)) (letter_no_digit b)
  where
    go : (l d ds ns : Bool) → (l ≡ true → d ≡ false) → is Name (cond (d && ds) Digits (cond (l && ns) Name Other)) ≡ (l && ns)
    go true true ds ns h = absurd (true≢false (h refl))
    go true false ds true h = refl
    go true false ds false h = refl
    go false true true ns h = refl
    go false true false ns h = refl
    go false false ds ns h = refl

-- a word is a name by its shape, if it is no form word
abbrev spelled_words : List Spelled → Words
spelled_words [] = []
spelled_words (s ∷ ss) = s.bytes ∷ spelled_words ss

abbrev no_name : Spelled → Bool
no_name s = not (is Name s.token)

look_name : (w : Word) (ss : List Spelled) → all_spelled no_name ss ≡ true → is Name (look_up w ss) ≡ (is Name (shape_of w) && not (one_of (spelled_words ss) w))
unfolding look_up one_of
look_name w [] a = all (is Name (shape_of w))
  where
    all : (x : Bool) → x ≡ (x && true)
    all true = refl
    all false = refl
look_name w (s ∷ ss) a = go (same_bytes w s.bytes) (not-true (is Name s.token) (and_l (no_name s) (all_spelled no_name ss) a)) (look_name w ss (and_r (no_name s) (all_spelled no_name ss) a))
  where
    none : (x : Bool) → false ≡ (x && false)
    none true = refl
    none false = refl

    go : (x : Bool) → is Name s.token ≡ false → is Name (look_up w ss) ≡ (is Name (shape_of w) && not (one_of (spelled_words ss) w))
        → is Name (cond x s.token (look_up w ss)) ≡ (is Name (shape_of w) && not (x || one_of (spelled_words ss) w))
    go true n ih = n ∙ none (is Name (shape_of w))
    go false n ih = ih

-- lists of words each of which has all words of the other have the same words
abbrev all_among : Words → Words → Bool
all_among [] vs = true
all_among (u ∷ us) vs = one_of vs u && all_among us vs

among : (us vs : Words) → all_among us vs ≡ true → (w : Word) → one_of us w ≡ true → one_of vs w ≡ true
unfolding one_of
among [] vs a w e = absurd (false≢true e)
among (u ∷ us) vs a w e = go (same_bytes w u) refl e (among us vs (and_r (one_of vs u) (all_among us vs) a) w)
  where
    go : (x : Bool) → same_bytes w u ≡ x → (x || one_of us w) ≡ true → (one_of us w ≡ true → one_of vs w ≡ true) → one_of vs w ≡ true
    go true p e ih = ap (one_of vs) (same_equal w u p) ∙ and_l (one_of vs u) (all_among us vs) a
    go false p e ih = ih e

one_of_forms : (w : Word) → one_of (spelled_words form_words) w ≡ one_of listedWords w
unfolding one_of same_bytes
one_of_forms w = both_ways (one_of (spelled_words form_words) w) (one_of listedWords w) (among (spelled_words form_words) listedWords refl w) (among listedWords (spelled_words form_words) refl w)

pub name_is : (w : Word) → is Name (token_of w) ≡ is_name w
name_is w = look_name w form_words refl ∙ rw (shape_name w, one_of_forms w)
