-- Readings of a line, step by step: what each definition gives where a test passes. The laws of forms are over the reader of operands. Assumes
-- nothing.
use mathlib.Core.Path.{◌≡◌, refl, sym, ap, ◌∙◌}
use mathlib.Core.Bool.{Bool, true, false, ◌&&◌}
use mathlib.Core.List.{List, []}
use Prim.Native.Nat.{ℕ, zero, suc, ◌-◌}
use native.Mathlib.Omega.{arith}
use lib.ListN.{length}
use Rattle.text.specs.Bytes.{same_bytes}
use Rattle.text.specs.Split.{bytes_of, front, rest}
use Rattle.text.specs.declared.Span.{Span}
use Rattle.constraint.specs.declared.Definition.TheVariants.{Await as AwaitKind, Deferred}
use Rattle.constraint.specs.declared.Kind.{Kind}
use Rattle.constraint.specs.declared.Kind.TheVariants.{Defines}
use Rattle.grammar.specs.Building.{defining, provisional, with_implicit}
use Rattle.grammar.specs.Grammar.{Parsed, no_form, parsed, and_then, only_if, Placed, Formed, Kinded, Operands, token, clock_at, name, kind_at, is_kind, sides, delay_list, past_digits, is_delay, tail, second, pair, await_number, await_side, expression, is_side, inner, operand, at_end, closed, line_form}
use Rattle.grammar.specs.Tokens.{is, shape_of, look_up}
use Rattle.grammar.specs.declared.Inner.{Inner}
use Rattle.grammar.specs.declared.Names.{Names}
use Rattle.grammar.specs.declared.Token.TheVariants.{End, Name, Digits, ClockDef, Await, Open, Close, For}
use Rattle.grammar.proofs.TokenLaws.{told_apart}

-- ---- what every reading has
abbrev pub Each : {A : Type 0} → (A → List Span → Type 0) → Parsed A → Type 0
Each P no_form = Unit {0}
Each P (parsed a us) = P a us

pub each_only : {A : Type 0} (P : A → List Span → Type 0) (x : Bool) (p : Parsed A) → (x ≡ true → Each P p) → Each P (only_if x p)
unfolding only_if
each_only P true p f = f refl
each_only P false p f = tt

pub each_then : {A B : Type 0} (P : A → List Span → Type 0) (Q : B → List Span → Type 0) (p : Parsed A) (f : A → List Span → Parsed B)
    → Each P p → ((a : A) (us : List Span) → P a us → Each Q (f a us)) → Each Q (and_then p f)
unfolding and_then
each_then P Q no_form f e g = tt
each_then P Q (parsed a us) f e g = g a us e

-- ---- readings by a test, and one behind another
only : {A : Type 0} (t : Bool) (p : Parsed A) → t ≡ true → only_if t p ≡ p
unfolding only_if
only true p e = refl
only false p e = cc

then_some : {A B : Type 0} (p : Parsed A) (f : A → List Span → Parsed B) (a : A) (ws : List Span) → p ≡ parsed a ws → and_then p f ≡ f a ws
unfolding and_then
then_some p f a ws e = rw e

module _ (t : List ℕ) where
  -- no word is left
  pub end_token : token t [] ≡ End
  unfolding front look_up same_bytes shape_of
  end_token = let e : length t - length t ≡ 0 = omega arith in rw e

  pub name_some : (ws : List Span) {S : Type 0} (ns : Names) (s : S) → is Name (token t ws) ≡ true → name t ns s ws ≡ parsed (record { left = s; clock = clock_at t ns (front t ws) }) (rest ws)
  unfolding name
  name_some ws ns s e = only _ _ e

  -- ---- behind two operands
  module _ (k : Kind) (ws : List Span) where
    pub tail_none : is_delay k ≡ false → tail t k ws ≡ parsed k ws
    unfolding tail
    tail_none e = rw e

    pub tail_list : is_delay k ≡ true → is For (token t ws) ≡ true → tail t k ws ≡ parsed (Defines (Deferred (delay_list t (rest ws)))) (past_digits t (rest ws))
    unfolding tail
    tail_list e f = rw e (only _ _ f)

  -- ---- forms
  module _ {S : Type 0} (operands : Operands S) (s : S) (ws : List Span) where
    pub await_some : is Await (token t ws) ≡ true → is Digits (token t (rest ws)) ≡ true → (a : Placed S) (us : List Span) → operands s (rest (rest ws)) ≡ parsed a us
        → expression t operands s ws ≡ parsed (record { left = a.left; constraint = sides (Defines (AwaitKind (await_number (bytes_of t (front t (rest ws)))))) a.clock 0 }) us
    unfolding expression await_side
    await_some w d a us g = rw w (only _ _ d ∙ then_some _ _ a us g)

    module _ (w : is Await (token t ws) ≡ false) (a : Placed S) (us : List Span) (e : operands s ws ≡ parsed a us) (k : Kinded) (q : k ≡ kind_at t us) (f : is_kind k.kind ≡ true) where
      pub pair_some : (c : Placed S) (xs : List Span) → operands a.left k.after ≡ parsed c xs → (j : Kind) (vs : List Span) → tail t k.kind xs ≡ parsed j vs
          → expression t operands s ws ≡ parsed (record { left = c.left; constraint = sides j a.clock c.clock }) vs
      unfolding expression pair second
      pair_some c xs g j vs h = rw w (then_some _ _ a us e ∙ rw (← q) (only _ _ f ∙ then_some _ _ c xs g ∙ then_some _ _ j vs h))

    module _ (clock : Span → ℕ) where
      pub line_defines : (is Name (token t ws) && is ClockDef (token t (rest ws))) ≡ true → line_form t clock operands s ws ≡ closed true (clock (front t ws)) (expression t operands s (rest (rest ws)))
      unfolding line_form
      line_defines e = rw e

      pub line_relates : (is Name (token t ws) && is ClockDef (token t (rest ws))) ≡ false → line_form t clock operands s ws ≡ closed false 0 (expression t operands s ws)
      unfolding line_form
      line_relates e = rw e

-- ---- operands by the level, and the end of one in parentheses
module _ (t : List ℕ) (ns : Names) (n : ℕ) (s : Inner) (ws : List Span) where
  pub operand_flat : n ≡ 0 → operand t ns n s ws ≡ name t ns s ws
  unfolding operand
  operand_flat e = rw e

  pub operand_name : is Open (token t ws) ≡ false → operand t ns n s ws ≡ name t ns s ws
  unfolding operand
  operand_name e = go n
    where
      go : (m : ℕ) → operand t ns m s ws ≡ name t ns s ws
      go zero = refl
      go (suc m) = rw e

  pub operand_inner : (n ≡ 0 → ⊥) → is Open (token t ws) ≡ true → operand t ns n s ws ≡ and_then (expression t (operand t ns (n - 1)) s (rest ws)) (inner t)
  unfolding operand
  operand_inner h e = go n h
    where
      go : (m : ℕ) → (m ≡ 0 → ⊥) → operand t ns m s ws ≡ and_then (expression t (operand t ns (m - 1)) s (rest ws)) (inner t)
      go zero k = absurd (k refl)
      go (suc m) k = let z : suc m - 1 ≡ m = omega arith in rw (e, z)

-- a name is read as an operand at every level
pub operand_read_lem : (t : List ℕ) (ns : Names) (n : ℕ) (s : Inner) (ws : List Span) (k : ℕ) → is Name (token t ws) ≡ true → k ≡ clock_at t ns (front t ws)
    → operand t ns n s ws ≡ parsed (record { left = s; clock = k }) (rest ws)
operand_read_lem t ns n s ws k e q = operand_name t ns n s ws (told_apart Name Open (token t ws) e) ∙ name_some t ws ns s e ∙ ap (λ (c : ℕ). parsed (record { left = s; clock = c }) (rest ws)) (sym q)

pub inner_some : (t : List ℕ) (p : Parsed (Formed Inner)) (f : Formed Inner) (us : List Span) → p ≡ parsed f us → (is Close (token t us) && is_side true f.constraint.kind) ≡ true
    → and_then p (inner t) ≡ parsed (record { left = with_implicit f.left f.constraint; clock = provisional f.left.clocks }) (rest us)
unfolding inner
inner_some t p f us e g = then_some p _ f us e ∙ only _ _ g

-- ---- the end of a line
pub closed_some : {S : Type 0} (d : Bool) (c : ℕ) (p : Parsed (Formed S)) (f : Formed S) → p ≡ parsed f [] → is_side d f.constraint.kind ≡ true
    → closed d c p ≡ parsed (record { left = f.left; constraint = defining c f.constraint }) []
unfolding at_end
closed_some d c p f e g = then_some p _ f [] e ∙ only _ _ g
