-- The words that some spans of a text stand for, and what `grammar` makes of the first of them: what they are, and which kind they
-- say. Assumes nothing.
use mathlib.Core.Path.{◌≡◌, refl, sym, ap, ◌∙◌}
use mathlib.Core.Bool.{Bool, true, false, cond, true≢false, false≢true}
use mathlib.Core.List.{List, [], ◌∷◌, ◌++◌, map}
use Prim.Native.Nat.{ℕ}
use native.Mathlib.Omega.{arith}
use Rattle.constraint.specs.declared.Definition.TheVariants.{Union, Inter, Lub, Glb, Await as AwaitKind, StrictlySampled, Sampled, Upto, Deferred}
use Rattle.constraint.specs.declared.Kind.{Kind}
use Rattle.constraint.specs.declared.Kind.TheVariants.{Empty, Relates, Defines}
use Rattle.constraint.specs.declared.Relation.{Relation}
use Rattle.constraint.specs.declared.Relation.TheVariants.{Coincides, Excludes, SubClock, StrictlyPrecedes, Precedes}
use Rattle.text.specs.Ascii.{ascii}
use Rattle.text.specs.Bytes.{same_bytes}
use Rattle.text.specs.Split.{bytes_of, front, rest}
use Rattle.text.specs.declared.Span.{Span}
use Rattle.grammar.specs.Grammar.{token, strict_kind, plain, Kinded, kind_at, is_kind}
use Rattle.grammar.specs.Tokens.{is, token_of, look_up}
use Rattle.grammar.specs.declared.Token.{Token}
use Rattle.grammar.specs.declared.Token.TheVariants.{End, ClockDef, Strictly}
use Rattle.grammar.proofs.GrammarLaws.{end_token}
use Rattle.grammar.proofs.KindLaws.{not_await}
use Rattle.forms.specs.Forms.{Word, Words}
use Rattle.forms.proofs.WordLaws.{kind_words, kind_word, strict_word, strictly_word}

-- the bytes of some spans
abbrev pub said : List ℕ → List Span → Words
said t ws = map (bytes_of t) ws

module _ (t : List ℕ) where
  pub none_left : (ws : List Span) → said t ws ≡ [] → ws ≡ []
  none_left [] e = refl
  none_left (w ∷ ws) e = cc

  -- ---- the first word
  pub record First (ws : List Span) (u : Word) (us : Words) : Type 0 where
    pub bytes : bytes_of t (front t ws) ≡ u
    pub after : said t (rest ws) ≡ us

  pub first_is : (ws : List Span) (u : Word) (us : Words) → said t ws ≡ u ∷ us → First ws u us
  unfolding front rest
  first_is [] u us e = let z : ◌≡◌ {A = ℕ} 0 1 = cc in absurd (omega arith)
  first_is (w ∷ ws) u us e = record { bytes = cc; after = cc }

  pub first_told : (A : Type 0) (q : Token → A) (x : A) (ws : List Span) (u : Word) (us : Words) → said t ws ≡ u ∷ us → q (token_of u) ≡ x → q (token t ws) ≡ x
  first_told A q x ws u us e h = ap (λ v. q (token_of v)) (first_is ws u us e).bytes ∙ h

  -- a test that the end of a line fails is passed by a word
  pub some_first : (q : Token → Bool) → q End ≡ false → (ws : List Span) → q (token t ws) ≡ true → said t ws ≡ bytes_of t (front t ws) ∷ said t (rest ws)
  unfolding front rest
  some_first q e [] h = absurd (true≢false (sym h ∙ ap q (end_token t) ∙ e))
  some_first q e (w ∷ ws) h = refl

  -- ---- kinds: of two words, or of one
  abbrev told : List Span → Bool → Kinded
  told us x = cond x (record { kind = strict_kind (plain (token t (rest us))); after = rest (rest us) }) (record { kind = plain (token t us); after = rest us })

  pub kind_words_lem : (us : List Span) → is_kind (kind_at t us).kind ≡ true → said t us ≡ kind_words (kind_at t us).kind ++ said t (kind_at t us).after
  unfolding kind_at
  kind_words_lem us = go (is Strictly (token t us)) refl
    where
      go : (x : Bool) → is Strictly (token t us) ≡ x → is_kind (told us x).kind ≡ true → said t us ≡ kind_words (told us x).kind ++ said t (told us x).after
      go true s e =
          let p = some_first (is Strictly) refl us s in
          let q = some_first (λ k. is_kind (strict_kind (plain k))) refl (rest us) e in
          let w : bytes_of t (front t us) ≡ ascii "strictly" = strictly_word (bytes_of t (front t us)) s in
          p ∙ (λ i. w i ∷ q i) ∙ ap (λ (ks : Words). ks ++ said t (rest (rest us))) (strict_word (bytes_of t (front t (rest us))) e)
      go false s e =
          some_first (λ k. is_kind (plain k)) refl us e ∙ ap (λ (ks : Words). ks ++ said t (rest us)) (kind_word (bytes_of t (front t us)) e)

  pub record KindIs (us : List Span) (k : Kind) (bs : Words) : Type 0 where
    pub kind : (kind_at t us).kind ≡ k
    pub after : said t (kind_at t us).after ≡ bs

  module _ (us : List Span) (k : Kind) (w : Word) (bs : Words) where
    one_word : is Strictly (token_of w) ≡ false → plain (token_of w) ≡ k → said t us ≡ w ∷ bs → KindIs us k bs
    unfolding kind_at
    one_word s p e =
        let q : is Strictly (token t us) ≡ false = first_told Bool (is Strictly) false us w bs e s in
        record { kind = rw q (first_told Kind plain k us w bs e p); after = rw q (first_is us w bs e).after }

    two_words_lem : strict_kind (plain (token_of w)) ≡ k → said t us ≡ ascii "strictly" ∷ w ∷ bs → KindIs us k bs
    unfolding kind_at look_up same_bytes
    two_words_lem p e =
        let f : First us (ascii "strictly") (w ∷ bs) = first_is us (ascii "strictly") (w ∷ bs) e in
        let q : is Strictly (token t us) ≡ true = first_told Bool (is Strictly) true us (ascii "strictly") (w ∷ bs) e refl in
        record { kind = rw q (first_told Kind (λ k. strict_kind (plain k)) k (rest us) w bs f.after p); after = rw q (first_is (rest us) w bs f.after).after }

  pub kind_is : (us : List Span) (k : Kind) (bs : Words) → is_kind k ≡ true → not_await k ≡ true → said t us ≡ kind_words k ++ bs → KindIs us k bs
  unfolding not_await look_up same_bytes
  kind_is us Empty bs i n e = absurd (false≢true i)
  kind_is us (Relates Coincides) bs i n e = one_word us (Relates Coincides) (ascii "=") bs refl refl e
  kind_is us (Relates Excludes) bs i n e = one_word us (Relates Excludes) (ascii "#") bs refl refl e
  kind_is us (Relates SubClock) bs i n e = one_word us (Relates SubClock) (ascii "isSubClockOf") bs refl refl e
  kind_is us (Relates StrictlyPrecedes) bs i n e = two_words_lem us (Relates StrictlyPrecedes) (ascii "precedes") bs refl e
  kind_is us (Relates Precedes) bs i n e = one_word us (Relates Precedes) (ascii "precedes") bs refl refl e
  kind_is us (Defines Union) bs i n e = one_word us (Defines Union) (ascii "clockUnion") bs refl refl e
  kind_is us (Defines Inter) bs i n e = one_word us (Defines Inter) (ascii "clockInter") bs refl refl e
  kind_is us (Defines Lub) bs i n e = one_word us (Defines Lub) (ascii "lub") bs refl refl e
  kind_is us (Defines Glb) bs i n e = one_word us (Defines Glb) (ascii "glb") bs refl refl e
  kind_is us (Defines (AwaitKind m)) bs i n e = absurd (false≢true n)
  kind_is us (Defines StrictlySampled) bs i n e = two_words_lem us (Defines StrictlySampled) (ascii "sampled") bs refl e
  kind_is us (Defines Sampled) bs i n e = one_word us (Defines Sampled) (ascii "sampled") bs refl refl e
  kind_is us (Defines Upto) bs i n e = one_word us (Defines Upto) (ascii "upto") bs refl refl e
  kind_is us (Defines (Deferred (m ∷ ms))) bs i n e = absurd (false≢true n)
  kind_is us (Defines (Deferred [])) bs i n e = one_word us (Defines (Deferred [])) (ascii "deferred") bs refl refl e

  -- what a relation's kind says is not clockDef
  pub no_clock_def : (k : Relation) (us : List Span) (bs : Words) → said t us ≡ kind_words (Relates k) ++ bs → is ClockDef (token t us) ≡ false
  unfolding look_up same_bytes
  no_clock_def Coincides us bs e = first_told Bool (is ClockDef) false us (ascii "=") bs e refl
  no_clock_def Excludes us bs e = first_told Bool (is ClockDef) false us (ascii "#") bs e refl
  no_clock_def SubClock us bs e = first_told Bool (is ClockDef) false us (ascii "isSubClockOf") bs e refl
  no_clock_def StrictlyPrecedes us bs e = first_told Bool (is ClockDef) false us (ascii "strictly") (ascii "precedes" ∷ bs) e refl
  no_clock_def Precedes us bs e = first_told Bool (is ClockDef) false us (ascii "precedes") bs e refl
