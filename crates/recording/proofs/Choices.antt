-- With unknown names refused, a recording is read as with unknown names ignored, or it is refused with 38: the two headers differ where a name is
-- met that the table lacks, and there alone. Assumes nothing.
use mathlib.Core.Path.{◌≡◌, refl, ap}
use mathlib.Core.Logic.{◌⊎◌, inl, inr}
use mathlib.Core.Bool.{Bool, true, false, not, cond, ◌||◌}
use mathlib.Core.List.{List, [], ◌∷◌}
use Prim.Native.Nat.{ℕ}
use lib.Dec.{eqb, ltb}
use lib.ListN.{length}
use Rattle.limit.specs.Checked.{Checked, passed, stopped, refuse_if, and_then}
use Rattle.limit.specs.declared.Limit.{Limit}
use Rattle.limit.specs.declared.Limit.TheVariants.{VariableUnknown}
use Rattle.text.specs.Split.{bytes_of}
use Rattle.text.specs.declared.Span.{Span}
use Rattle.recording.specs.Body.{refused_at, ends_with, onward, body_of, reading}
use Rattle.recording.specs.Header.{says, command_of, shaped, declare, Header, by_command, header, skipping, declaring, most_bytes, first_other, opened, words}
use Rattle.recording.specs.Variables.{Variable, ignored, Naming, look_up, is_declared, clock_again}
use Rattle.recording.specs.declared.Command.{Command}
use Rattle.recording.specs.declared.Command.TheVariants.{Skipped, Declaration, Definitions, Unknown}
use Rattle.recording.specs.declared.UnknownNames.{UnknownNames}
use Rattle.recording.specs.declared.UnknownNames.TheVariants.{Refused, Ignored}

-- the same, or the first is refused with 38
abbrev Alike : {A : Type 0} → Checked A → Checked A → Type 0
Alike x y = (x ≡ y) ⊎ ((p : ℕ) × (x ≡ stopped VariableUnknown p))

unless_broken : {A : Type 0} (b : Bool) (l : Limit) (p : ℕ) (x y : Checked A) → Alike x y → Alike (refuse_if b l p x) (refuse_if b l p y)
unless_broken true l p x y h = inl refl
unless_broken false l p x y h = h

-- 38 itself, which the other does not ask
unknown_alone : {A : Type 0} (b : Bool) (p : ℕ) (x : Checked A) → Alike (refuse_if b VariableUnknown p x) x
unknown_alone true p x = inr (p, refl)
unknown_alone false p x = inl refl

then_alike : {A B : Type 0} (x y : Checked A) (f h : A → Checked B) → Alike x y → ((a : A) → Alike (f a) (h a)) → Alike (and_then x f) (and_then y h)
unfolding and_then
then_alike {A = A} x y f h (inl e) k = rw e (go y)
  where
    go : (z : Checked A) → Alike (and_then z f) (and_then z h)
    go (passed a) = k a
    go (stopped l p) = inl refl
then_alike x y f h (inr e) k = inr (e.0, rw e.1 refl)

by_command_lem : (k : Command) (s d e u t c : Checked Header) → Alike s t → Alike d c → Alike (by_command k s d e u) (by_command k t c e u)
by_command_lem Skipped s d e u t c p q = p
by_command_lem Declaration s d e u t c p q = q
by_command_lem Definitions s d e u t c p q = inl refl
by_command_lem Unknown s d e u t c p q = inl refl

module _ (named : List ℕ → ℕ) (n : ℕ) (r : List ℕ) where
  abbrev naming : UnknownNames → Naming
  naming u = record { named = named; count = n; unknown = u }

  declare_alike : (at : ℕ) (vs : List Variable) (kind width id name last : Span)
      → Alike (declare (naming Refused) r at vs kind width id name last) (declare (naming Ignored) r at vs kind width id name last)
  unfolding declare
  declare_alike at vs kind width id name last =
      unless_broken (not (shaped r kind width id last)) _ _ _ _
      (unless_broken (is_declared (look_up vs (bytes_of r id)) || clock_again vs (named (bytes_of r name))) _ _ _ _
      (unknown_alone (eqb (named (bytes_of r name)) ignored) at _))

  mutual
    unfolding header skipping declaring

    header_alike : (vs : List Variable) (ws : List Span) → Alike (header (naming Refused) r vs ws) (header (naming Ignored) r vs ws)
    header_alike vs [] = inl refl
    header_alike vs (w ∷ ws) = by_command_lem (command_of (bytes_of r w)) _ _ _ _ _ _ (skipping_alike vs ws) (declaring_alike vs w.start ws)

    skipping_alike : (vs : List Variable) (ws : List Span) → Alike (skipping (naming Refused) r vs ws) (skipping (naming Ignored) r vs ws)
    skipping_alike vs [] = inl refl
    skipping_alike vs (w ∷ ws) = go (says (bytes_of r w) "$end") (header_alike vs ws) (skipping_alike vs ws)
      where
        go : (x : Bool) → Alike (header (naming Refused) r vs ws) (header (naming Ignored) r vs ws) → Alike (skipping (naming Refused) r vs ws) (skipping (naming Ignored) r vs ws)
            → Alike (cond x (header (naming Refused) r vs ws) (skipping (naming Refused) r vs ws)) (cond x (header (naming Ignored) r vs ws) (skipping (naming Ignored) r vs ws))
        go true p q = p
        go false p q = q

    declaring_alike : (vs : List Variable) (at : ℕ) (ws : List Span) → Alike (declaring (naming Refused) r vs at ws) (declaring (naming Ignored) r vs at ws)
    declaring_alike vs at [] = inl refl
    declaring_alike vs at (a ∷ []) = inl refl
    declaring_alike vs at (a ∷ b ∷ []) = inl refl
    declaring_alike vs at (a ∷ b ∷ c ∷ []) = inl refl
    declaring_alike vs at (a ∷ b ∷ c ∷ d ∷ []) = inl refl
    declaring_alike vs at (a ∷ b ∷ c ∷ d ∷ e ∷ ws) = then_alike _ _ _ _ (declare_alike at vs a b c d e) (λ us. header_alike us ws)

  opened_alike : Alike (opened (naming Refused) r) (opened (naming Ignored) r)
  unfolding opened
  opened_alike = unless_broken (ltb most_bytes (length r)) _ _ _ _ (unless_broken (ltb (first_other r) (length r)) _ _ _ _ (header_alike [] (words r 0)))

  pub reading_alike : (reading (naming Refused) r ≡ reading (naming Ignored) r) ⊎ ((p : ℕ) × (reading (naming Refused) r ≡ ends_with (refused_at VariableUnknown p)))
  unfolding onward
  reading_alike = go opened_alike
    where
      go : Alike (opened (naming Refused) r) (opened (naming Ignored) r) → (reading (naming Refused) r ≡ reading (naming Ignored) r) ⊎ ((p : ℕ) × (reading (naming Refused) r ≡ ends_with (refused_at VariableUnknown p)))
      go (inl e) = inl (ap (λ (c : Checked Header). onward c (body_of r)) e)
      go (inr e) = inr (e.0, ap (λ (c : Checked Header). onward c (body_of r)) e.1)
