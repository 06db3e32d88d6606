-- The rows of forms by their shape: two operands with the words of a kind between them, the same with the list of a delay behind them, or an
-- await; a relation, or a definition. And digit runs: what they end before. Assumes nothing.
use mathlib.Core.Path.{◌≡◌, refl, sym, ap, ◌∙◌}
use mathlib.Core.Bool.{true, false}
use mathlib.Core.List.{[], ◌∷◌, ◌++◌, map, append_assoc}
use Rattle.constraint.specs.declared.Definition.{Definition}
use Rattle.constraint.specs.declared.Definition.TheVariants.{Union, Inter, Lub, Glb, StrictlySampled, Sampled, Upto, Deferred}
use Rattle.constraint.specs.declared.Kind.{Kind}
use Rattle.constraint.specs.declared.Kind.TheVariants.{Relates, Defines}
use Rattle.constraint.specs.declared.Relation.{Relation}
use Rattle.constraint.specs.declared.Relation.TheVariants.{Coincides, Excludes, SubClock, StrictlyPrecedes, Precedes}
use Rattle.text.specs.Ascii.{ascii}
use Rattle.text.specs.Digits.{value}
use Rattle.grammar.specs.Grammar.{is_kind, is_deferred}
use Rattle.grammar.proofs.KindLaws.{not_await}
use Rattle.forms.specs.Forms.{Word, Words, is_name, is_digits, all_digits, Right, both, awaits, delays, Form, relates, defines, IsRight, union, inter, lub, glb, await, strictly_sampled, sampled, upto, deferred, IsForm, coincides, excludes, sub_clock, strictly_precedes, precedes, clock_def}
use Rattle.forms.proofs.WordLaws.{kind_words}

-- the first of some words is no digit run, so that digit runs before them end there
abbrev pub NoRun : Words → Type 0
NoRun [] = Unit {0}
NoRun (u ∷ us) = is_digits u ≡ false

module _ (O : Type 0) (IsOp : Words → O → Type 0) where
  -- two operands with a kind between them
  pub record Between (k : Kind) (x y : O) (us : Words) : Type 0 where
    pub a : Words
    pub c : Words
    pub first : IsOp a x
    pub second : IsOp c y
    pub kind : is_kind k ≡ true
    pub plainly : not_await k ≡ true
    pub words : us ≡ a ++ (kind_words k ++ c)

  -- with whatever words behind them
  pub onward : (k : Kind) (x y : O) (ws us : Words) (p : Between k x y ws) → ws ++ us ≡ p.a ++ (kind_words k ++ (p.c ++ us))
  onward k x y ws us p = ap (λ (z : Words). z ++ us) p.words ∙ append_assoc p.a (kind_words k ++ p.c) us ∙ ap (λ (z : Words). p.a ++ z) (append_assoc (kind_words k) p.c us)

  -- a right side, as one of three shapes
  pub data RightShape (us : Words) : Right O → Type 0 where
    two : {k : Definition} {x y : O} → is_deferred k ≡ false → Between (Defines k) x y us → RightShape us (both k x y)
    listed : {vs : Words} (ns : Words) {x y : O} → Between (Defines (Deferred [])) x y vs → all_digits ns ≡ true → us ≡ vs ++ ascii "for" ∷ ns → RightShape us (delays (map (value 0) ns) x y)
    waits : {n : Word} {a : Words} {x : O} → is_digits n ≡ true → IsOp a x → us ≡ ascii "await" ∷ n ∷ a → RightShape us (awaits (value 0 n) x)

  between : (k : Kind) (a c : Words) (x y : O) → is_kind k ≡ true → not_await k ≡ true → IsOp a x → IsOp c y → Between k x y (a ++ (kind_words k ++ c))
  between k a c x y i n p q = record { a = a; c = c; first = p; second = q; kind = i; plainly = n; words = refl }

  pub right_shape : (us : Words) (r : Right O) → IsRight IsOp us r → RightShape us r
  unfolding not_await
  right_shape us r (union {a = a} {b = c} {x = x} {y = y} p q) = two refl (between (Defines Union) a c x y refl refl p q)
  right_shape us r (inter {a = a} {b = c} {x = x} {y = y} p q) = two refl (between (Defines Inter) a c x y refl refl p q)
  right_shape us r (lub {a = a} {b = c} {x = x} {y = y} p q) = two refl (between (Defines Lub) a c x y refl refl p q)
  right_shape us r (glb {a = a} {b = c} {x = x} {y = y} p q) = two refl (between (Defines Glb) a c x y refl refl p q)
  right_shape us r (await {n = n} {a = a} {x = x} d p) = waits d p refl
  right_shape us r (strictly_sampled {a = a} {b = c} {x = x} {y = y} p q) = two refl (between (Defines StrictlySampled) a c x y refl refl p q)
  right_shape us r (sampled {a = a} {b = c} {x = x} {y = y} p q) = two refl (between (Defines Sampled) a c x y refl refl p q)
  right_shape us r (upto {a = a} {b = c} {x = x} {y = y} p q) = two refl (between (Defines Upto) a c x y refl refl p q)
  right_shape us r (deferred {a = a} {b = c} ns {x = x} {y = y} p q d) = listed ns (between (Defines (Deferred [])) a c x y refl refl p q) d (sym (append_assoc a (ascii "deferred" ∷ c) (ascii "for" ∷ ns)))

  pub data Shape (us : Words) : Form O → Type 0 where
    relation : {k : Relation} {x y : O} → Between (Relates k) x y us → Shape us (relates k x y)
    definition : {c : Word} {rs : Words} {r : Right O} → is_name c ≡ true → IsRight IsOp rs r → us ≡ c ∷ ascii "clockDef" ∷ rs → Shape us (defines c r)

  pub shape : (us : Words) (f : Form O) → IsForm IsOp us f → Shape us f
  unfolding not_await
  shape us f (coincides {a = a} {b = c} {x = x} {y = y} p q) = relation (between (Relates Coincides) a c x y refl refl p q)
  shape us f (excludes {a = a} {b = c} {x = x} {y = y} p q) = relation (between (Relates Excludes) a c x y refl refl p q)
  shape us f (sub_clock {a = a} {b = c} {x = x} {y = y} p q) = relation (between (Relates SubClock) a c x y refl refl p q)
  shape us f (strictly_precedes {a = a} {b = c} {x = x} {y = y} p q) = relation (between (Relates StrictlyPrecedes) a c x y refl refl p q)
  shape us f (precedes {a = a} {b = c} {x = x} {y = y} p q) = relation (between (Relates Precedes) a c x y refl refl p q)
  shape us f (clock_def n p) = definition n p refl
