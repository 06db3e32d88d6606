-- No word but `await` says that a constraint is an await: the kind that stands between two operands is none. Assumes nothing.
use mathlib.Core.Path.{◌≡◌, refl}
use mathlib.Core.Bool.{Bool, true, false, cond, ◌||◌}
use mathlib.Core.List.{List, [], ◌∷◌}
use Prim.Native.Nat.{ℕ}
use Rattle.constraint.specs.declared.Definition.{Definition}
use Rattle.constraint.specs.declared.Definition.TheVariants.{Union, Inter, Lub, Glb, Await as AwaitKind, StrictlySampled, Sampled, Upto, Deferred}
use Rattle.constraint.specs.declared.Kind.{Kind}
use Rattle.constraint.specs.declared.Kind.TheVariants.{Empty, Relates, Defines}
use Rattle.constraint.specs.declared.Relation.TheVariants.{Coincides, Excludes, SubClock, StrictlyPrecedes, Precedes}
use Rattle.constraint.proofs.Named.{arity, paired}
use Rattle.text.specs.Split.{bytes_of, front, rest}
use Rattle.text.specs.declared.Span.{Span}
use Rattle.grammar.specs.Grammar.{token, strict_kind, plain, Kinded, kind_at}
use Rattle.grammar.specs.Tokens.{is, form_words, token_of}
use Rattle.grammar.specs.declared.Token.TheVariants.{Strictly}
use Rattle.grammar.proofs.TokenLaws.{look_all, shape_all}

-- of the words that say a kind, that of a delay says no list yet
abbrev pub no_list : Definition → Bool
no_list Union = false
no_list Inter = false
no_list Lub = false
no_list Glb = false
no_list (AwaitKind n) = false
no_list StrictlySampled = false
no_list Sampled = false
no_list Upto = false
no_list (Deferred []) = true
no_list (Deferred (n ∷ ns)) = false

unfoldable pub not_await : Kind → Bool
not_await Empty = true
not_await (Relates k) = true
not_await (Defines k) = paired (arity k) || no_list k

token_plain : (w : List ℕ) → not_await (plain (token_of w)) ≡ true
unfolding not_await
token_plain w = look_all (λ s. not_await (plain s.token)) w (shape_all (λ k. not_await (plain k)) true refl refl refl refl w) form_words refl

strict_plain : (k : Kind) → not_await (strict_kind k) ≡ true
unfolding not_await
strict_plain Empty = refl
strict_plain (Relates Coincides) = refl
strict_plain (Relates Excludes) = refl
strict_plain (Relates SubClock) = refl
strict_plain (Relates StrictlyPrecedes) = refl
strict_plain (Relates Precedes) = refl
strict_plain (Defines Union) = refl
strict_plain (Defines Inter) = refl
strict_plain (Defines Lub) = refl
strict_plain (Defines Glb) = refl
strict_plain (Defines (AwaitKind n)) = refl
strict_plain (Defines StrictlySampled) = refl
strict_plain (Defines Sampled) = refl
strict_plain (Defines Upto) = refl
strict_plain (Defines (Deferred ns)) = refl

pub kind_plain : (t : List ℕ) (us : List Span) → not_await (kind_at t us).kind ≡ true
unfolding kind_at
kind_plain t us = go (is Strictly (token t us))
  where
    go : (x : Bool) → not_await (cond {A = Kinded} x (record { kind = strict_kind (plain (token t (rest us))); after = rest (rest us) }) (record { kind = plain (token t us); after = rest us })).kind ≡ true
    go true = strict_plain (plain (token t (rest us)))
    go false = token_plain (bytes_of t (front t us))
