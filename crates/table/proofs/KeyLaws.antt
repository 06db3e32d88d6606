-- Keys of names: one among some, and names whose keys differ, of which none stands twice. Assumes nothing.
use mathlib.Core.Path.{◌≡◌, refl, sym, ◌∙◌}
use mathlib.Core.Bool.{Bool, true, false, cond, ◌&&◌, ◌||◌, true≢false, or-true}
use mathlib.Core.List.{List, [], ◌∷◌, ◌++◌}
use Prim.Native.Nat.{ℕ}
use borrow.Author.Tests.{eq-eqb}
use lib.Dec.{eqb}
use Rattle.constraint.proofs.Booleans.{or_l, or_r}
use Rattle.text.specs.Bytes.{same_bytes}
use Rattle.text.specs.Split.{bytes_of}
use Rattle.text.specs.declared.Span.{Span}
use Rattle.text.proofs.Bytes.{differ_same}
use Rattle.grammar.specs.Tokens.{is, token_of}
use Rattle.grammar.specs.declared.Token.TheVariants.{Name}
use Rattle.table.specs.Answers.{key_of, among}
use Rattle.table.specs.Reader.{any_word, same_as, twice}
use Rattle.std.proofs.lemmas.List.Folds.{list_any-append}

-- ---- a number among some
module _ (ks : List ℕ) (key : ℕ) where
  among_before : (k : ℕ) → among ks key ≡ true → among (ks ++ k ∷ []) key ≡ true
  among_before k e = rw (list_any-append (λ j. eqb j key) ks (k ∷ []), e)

  among_last : among (ks ++ key ∷ []) key ≡ true
  among_last = rw (list_any-append (λ j. eqb j key) ks (key ∷ []), eq-eqb key key refl) (or-true (among ks key))

-- ---- whether some name has a key that is among ks, or is that of a name before it
abbrev is_name : List ℕ → Span → Bool
is_name t w = is Name (token_of (bytes_of t w))

abbrev keys_with : List ℕ → List ℕ → Span → List ℕ
keys_with t ks w = cond (is_name t w) (ks ++ key_of (bytes_of t w) ∷ []) ks

unfoldable pub alike_in : List ℕ → List ℕ → List Span → Bool
alike_in t ks [] = false
alike_in t ks (w ∷ ws) = is_name t w && among ks (key_of (bytes_of t w)) || alike_in t (keys_with t ks w) ws

-- where no name of the words has a key among ks, a name whose key is among ks is none of them
module _ (t n : List ℕ) (named : is Name (token_of n) ≡ true) where
  differs : (ks : List ℕ) (w : Span) → among ks (key_of n) ≡ true → (is_name t w && among ks (key_of (bytes_of t w))) ≡ false → same_bytes (bytes_of t w) n ≡ false
  differs ks w a e = differ_same (bytes_of t w) n (λ q. true≢false (sym (rw (named, a)) ∙ (rw q at e)))

  still : (ks : List ℕ) (w : Span) → among ks (key_of n) ≡ true → among (keys_with t ks w) (key_of n) ≡ true
  still ks w a = go (is_name t w)
    where
      go : (x : Bool) → among (cond x (ks ++ key_of (bytes_of t w) ∷ []) ks) (key_of n) ≡ true
      go true = among_before ks (key_of n) (key_of (bytes_of t w)) a
      go false = a

  no_other : (ks : List ℕ) (ws : List Span) → among ks (key_of n) ≡ true → alike_in t ks ws ≡ false → any_word (same_as t n) ws ≡ false
  unfolding alike_in any_word
  no_other ks [] a e = refl
  no_other ks (w ∷ ws) a e = rw (differs ks w a (or_l _ _ e)) (no_other (keys_with t ks w) ws (still ks w a) (or_r (is_name t w && among ks (key_of (bytes_of t w))) _ e))

-- where the keys differ no name stands twice
not_twice : (t ks : List ℕ) (w : Span) (ws : List Span) → alike_in t (keys_with t ks w) ws ≡ false → twice t w ws ≡ false
not_twice t ks w ws e = go (is_name t w) refl
  where
    go : (x : Bool) → is_name t w ≡ x → (x && any_word (same_as t (bytes_of t w)) ws) ≡ false
    go true q = no_other t (bytes_of t w) q (ks ++ key_of (bytes_of t w) ∷ []) ws (among_last ks (key_of (bytes_of t w))) (rw q at e)
    go false q = refl

pub none_twice : (t ks : List ℕ) (ws : List Span) → alike_in t ks ws ≡ false → any_word (twice t) ws ≡ false
unfolding alike_in any_word
none_twice t ks [] e = refl
none_twice t ks (w ∷ ws) e =
    let r = or_r (is_name t w && among ks (key_of (bytes_of t w))) _ e in
    rw (not_twice t ks w ws r) (none_twice t (keys_with t ks w) ws r)
