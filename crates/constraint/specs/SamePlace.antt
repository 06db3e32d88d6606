-- The same-place question and demand 3: document 01, "Same place". Assumes nothing.
use Rattle.std.specs.Prelude.{None, Option, Some, Result, Ok, Err, ◌≡◌, refl, ◌↔◌, Bool, true, false, not, cond, ◌&&◌, List, [], ◌∷◌, map, ℕ, ◌<◌, eqb, ℤ, pos, negsuc, length, get_or}
use Rattle.limit.specs.Limit.{number_of}
use Rattle.limit.specs.declared.Limit.{Limit}
use Rattle.limit.specs.declared.Limit.TheVariants.{Records, ConfigurationWord}
use Rattle.limit.specs.declared.Place.{Place}
use Rattle.constraint.specs.Edges.{a, b, constraint, set}
use Rattle.constraint.specs.Lists.{empty, counting, broken_record, broken_word}
use Rattle.constraint.specs.Meaning.{word, holds, next_word}
use Rattle.constraint.specs.Ticks.{Ticks, Below}
use Rattle.constraint.specs.declared.Clocks.{Clocks}
use Rattle.constraint.specs.declared.Constraint.{Constraint}
use Rattle.constraint.specs.declared.Kind.TheVariants.{Relates}
use Rattle.constraint.specs.declared.Relation.TheVariants.{Precedes}
use Rattle.limit.specs.declared.Refusal.{Refusal}
use Rattle.constraint.specs.declared.Likeness.{Likeness}
use Rattle.constraint.specs.declared.Likeness.TheVariants.{Same, Different}
use Rattle.constraint.specs.declared.Word.{Word}

-- ---- the answer

-- what the question answers in document 01's words: refused with a limit's number and its place, or yes, or no
pub data Answer : Type 0 where
  refused : (number place : ℕ) → Answer
  same : Answer
  different : Answer

abbrev pub answer : Result Likeness Refusal → Answer
answer (Err r) = refused (number_of r.limit) r.place.0
answer (Ok Same) = same
answer (Ok Different) = different

-- the claim: no two values of the answer in code have one meaning
abbrev pub AnswerDetermines : Type 0
AnswerDetermines = (x y : Result Likeness Refusal) → answer x ≡ answer y → x ≡ y

abbrev pub refuse_at : Limit → Option Place → Answer → Answer
refuse_at l None otherwise = otherwise
refuse_at l (Some p) otherwise = refused (number_of l) p.0

abbrev pub same_integer : ℤ → ℤ → Bool
same_integer (pos m) (pos n) = eqb m n
same_integer (pos m) (negsuc n) = false
same_integer (negsuc m) (pos n) = false
same_integer (negsuc m) (negsuc n) = eqb m n

abbrev pub same_word : Word → Word → Bool
same_word w v = same_integer w.first v.first && same_integer w.second v.second

abbrev pub same_words : List Word → List Word → Bool
same_words [] [] = true
same_words [] (v ∷ vs) = false
same_words (w ∷ ws) [] = false
same_words (w ∷ ws) (v ∷ vs) = same_word w v && same_words ws vs

-- 59, 60 of the first configuration, 60 of the second, and then whether their words are the same
abbrev pub same_place_of : Clocks → List Constraint → (first second : List Word) → Answer
same_place_of clocks rs ws vs =
    refuse_at Records (broken_record clocks rs)
    (refuse_at ConfigurationWord (broken_word rs ws)
    (refuse_at ConfigurationWord (broken_word rs vs)
    (cond (same_words ws vs) same different)))

-- ---- when it is refused: 59; 60 of the first configuration; 60 of the second; each where those before it are kept

pub data SamePlaceRefuses (clocks : Clocks) (rs : List Constraint) (ws vs : List Word) : (number place : ℕ) → Type 0 where
  by_records : {p : Place} → broken_record clocks rs ≡ Some p → SamePlaceRefuses clocks rs ws vs (number_of Records) p.0
  by_first : {p : Place} → broken_record clocks rs ≡ None → broken_word rs ws ≡ Some p → SamePlaceRefuses clocks rs ws vs (number_of ConfigurationWord) p.0
  by_second : {p : Place} → broken_record clocks rs ≡ None → broken_word rs ws ≡ None → broken_word rs vs ≡ Some p → SamePlaceRefuses clocks rs ws vs (number_of ConfigurationWord) p.0

-- the claim: exactly then, and with that number and place
abbrev pub SamePlaceRefused : Type 0
SamePlaceRefused = (clocks : Clocks) (rs : List Constraint) (ws vs : List Word) (n p : ℕ) → same_place_of clocks rs ws vs ≡ refused n p ↔ SamePlaceRefuses clocks rs ws vs n p

-- ---- what the answer means

-- a continuation: a finite list of sets of clock numbers below the clock count
abbrev pub Continuation : Clocks → List Ticks → Type 0
Continuation clocks [] = Unit {0}
Continuation clocks (F ∷ Fs) = Below clocks.count F × Continuation clocks Fs

-- the record accepts a list of sets from the word w: each set in turn is taken as F, and the next meets the new word
abbrev pub accepts : Constraint → Word → List Ticks → Bool
accepts r w [] = true
accepts r w (F ∷ Fs) = holds r w F && accepts r (next_word r w F) Fs

-- the record accepts each continuation from both words or from neither
abbrev pub Alike : Clocks → Constraint → Word → Word → Type 0
Alike clocks r w v = (Fs : List Ticks) → Continuation clocks Fs → accepts r w Fs ≡ accepts r v Fs

-- the record accepts some continuation from one of the words and not from the other
abbrev pub Apart : Clocks → Constraint → Word → Word → Type 0
Apart clocks r w v = (Fs : List Ticks) × Continuation clocks Fs × (accepts r w Fs ≡ not (accepts r v Fs))

-- record i of a list, from 0, and its word
abbrev pub record_at : List Constraint → ℕ → Constraint
record_at rs i = get_or rs i empty

abbrev pub word_at : List Word → ℕ → Word
word_at ws i = get_or ws i (word (pos 0))

-- each record, judged by itself, does so
abbrev pub AllAlike : Clocks → List Constraint → (first second : List Word) → Type 0
AllAlike clocks rs ws vs = (i : ℕ) → i < length rs → Alike clocks (record_at rs i) (word_at ws i) (word_at vs i)

-- some record, judged by itself, does so
abbrev pub SomeApart : Clocks → List Constraint → (first second : List Word) → Type 0
SomeApart clocks rs ws vs = (i : ℕ) × (i < length rs) × Apart clocks (record_at rs i) (word_at ws i) (word_at vs i)

-- demand 3, of an answer: where 59 and 60 let all pass, it is yes exactly when all records accept alike, and no exactly when
-- some record tells the two apart
abbrev pub Demand3 : Clocks → List Constraint → (first second : List Word) → Answer → Type 0
Demand3 clocks rs ws vs said =
    broken_record clocks rs ≡ None →
    broken_word rs ws ≡ None →
    broken_word rs vs ≡ None →
    (said ≡ same ↔ AllAlike clocks rs ws vs) × (said ≡ different ↔ SomeApart clocks rs ws vs)

-- the claim: demand 3 holds of the definition's answer, for all records and all configurations
abbrev pub SamePlaceMeant : Type 0
SamePlaceMeant = (clocks : Clocks) (rs : List Constraint) (ws vs : List Word) → length ws ≡ 64 → length vs ≡ 64 → Demand3 clocks rs ws vs (same_place_of clocks rs ws vs)

-- what a call that answers the question promises: the definition's answer, and that demand 3 holds of it
pub record Answered (clocks : Clocks) (rs : List Constraint) (ws vs : List Word) (said : Answer) : Type 0 where
  pub given : said ≡ same_place_of clocks rs ws vs
  pub meant : Demand3 clocks rs ws vs said

-- ---- document 01: from precedes with w 0 the list {a}, {b} is accepted and {b}, {a} is not; with w 1 both are

abbrev precedes : Constraint
precedes = constraint (Relates Precedes)

a_then_b : map (λ z. accepts precedes (word z) (set (a ∷ []) ∷ set (b ∷ []) ∷ [])) (pos 0 ∷ pos 1 ∷ []) ≡ true ∷ true ∷ []
a_then_b = refl

b_then_a : map (λ z. accepts precedes (word z) (set (b ∷ []) ∷ set (a ∷ []) ∷ [])) (pos 0 ∷ pos 1 ∷ []) ≡ false ∷ true ∷ []
b_then_a = refl

-- two words of it; 59 before 60; 60 of the first configuration before that of the second
answers :
    map (λ n. same_place_of (counting n) (precedes ∷ []) (word (pos 1) ∷ []) (word (pos 1) ∷ [])) (2 ∷ 1 ∷ []) ≡ same ∷ refused 59 1 ∷ []
answers = refl

answers_60 : same_place_of (counting 2) (precedes ∷ empty ∷ []) (word (pos 0) ∷ word (pos 1) ∷ []) (word (negsuc 0) ∷ word (pos 0) ∷ []) ≡ refused 60 2
answers_60 = refl
