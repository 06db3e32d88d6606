-- Laws of the header, unfolded by one command. Assumes nothing.
use mathlib.Core.Path.{◌≡◌, refl, sym, ap, ◌∙◌}
use mathlib.Core.Bool.{Bool, true, false, not, cond, ◌&&◌, ◌||◌}
use mathlib.Core.List.{List, [], ◌∷◌, ◌++◌}
use Prim.Native.Nat.{ℕ, ◌≤◌, ◌<◌}
use native.Mathlib.Decide.{dec_lt}
use native.Mathlib.Omega.{arith}
use borrow.Author.Tests.{leb-true, le-leb, lt-leb, lt-ltb, le-ltb}
use lib.Dec.{ltb}
use lib.ListN.{length}
use Rattle.limit.specs.Checked.{passed, stopped}
use Rattle.limit.specs.declared.Limit.TheVariants.{HeaderCommand, VariableShape, DeclaredTwice, VariableUnknown, VariableCount, ClockUndeclared, RecordingLength, RecordingByte}
use Rattle.constraint.proofs.Booleans.{and_l, and_r}
use Rattle.text.specs.Split.{bytes_of}
use Rattle.text.specs.declared.Span.{Span}
use Rattle.recording.specs.Answers.{after_end}
use Rattle.recording.specs.Header.{words, says, shaped, declare, Header, cut_off, close, header, skipping, declaring, most_bytes, first_other, opened}
use Rattle.recording.specs.Variables.{Variable, refuses_unknown, Naming, look_up, is_declared, clock_again, all_declared}
use Rattle.limit.proofs.CheckLaws.{refuses, allows}

-- ---- the end of the header
module _ (n : ℕ) (r : List ℕ) (at : ℕ) (vs : List Variable) (ws : List Span) where
  pub close_cut : ws ≡ [] → close n r at vs ws ≡ cut_off r
  unfolding close
  close_cut e = rw e

  module _ (w : Span) (us : List Span) (e : ws ≡ w ∷ us) where
    pub close_other : says (bytes_of r w) "$end" ≡ false → close n r at vs ws ≡ stopped HeaderCommand at
    unfolding close
    close_other s = rw (e, s)

    module _ (s : says (bytes_of r w) "$end" ≡ true) where
      pub close_lacks : all_declared vs n ≡ false → close n r at vs ws ≡ stopped ClockUndeclared at
      unfolding close
      close_lacks d = rw (e, s, d)

      pub close_all : all_declared vs n ≡ true → close n r at vs ws ≡ passed (record { variables = vs; body = us })
      unfolding close
      close_all d = rw (e, s, d)

-- ---- declarations
pub shaped_short : (r : List ℕ) (kind width id last : Span) → shaped r kind width id last ≡ true → length (bytes_of r id) ≤ 4
shaped_short r kind width id last e = leb-true (length (bytes_of r id)) 4 (and_r (says (bytes_of r kind) "event" && says (bytes_of r width) "1") _ (and_l _ (says (bytes_of r last) "$end") e))

module _ (g : Naming) (r : List ℕ) (at : ℕ) (vs : List Variable) (kind width id name last : Span) where
  abbrev twice : Bool
  twice = is_declared (look_up vs (bytes_of r id)) || clock_again vs (g.named (bytes_of r name))

  abbrev unknown : Bool
  unknown = refuses_unknown g.unknown (g.named (bytes_of r name))

  pub declare_shape : shaped r kind width id last ≡ false → declare g r at vs kind width id name last ≡ stopped VariableShape at
  unfolding declare
  declare_shape s = refuses _ _ _ _ (ap not s)

  module _ (s : shaped r kind width id last ≡ true) where
    pub declare_twice : twice ≡ true → declare g r at vs kind width id name last ≡ stopped DeclaredTwice at
    unfolding declare
    declare_twice d = allows _ _ _ _ (ap not s) ∙ refuses _ _ _ _ d

    module _ (d : twice ≡ false) where
      pub declare_unknown : unknown ≡ true → declare g r at vs kind width id name last ≡ stopped VariableUnknown at
      unfolding declare
      declare_unknown u = allows _ _ _ _ (ap not s) ∙ allows _ _ _ _ d ∙ refuses _ _ _ _ u

      module _ (u : unknown ≡ false) where
        pub declare_full : 128 ≤ length vs → declare g r at vs kind width id name last ≡ stopped VariableCount at
        unfolding declare
        declare_full h = allows _ _ _ _ (ap not s) ∙ allows _ _ _ _ d ∙ allows _ _ _ _ u ∙ refuses _ _ _ _ (le-leb 128 (length vs) h)

        pub declare_more : length vs < 128 → declare g r at vs kind width id name last ≡ passed (vs ++ record { id = bytes_of r id; clock = g.named (bytes_of r name) } ∷ [])
        unfolding declare
        declare_more h = allows _ _ _ _ (ap not s) ∙ allows _ _ _ _ d ∙ allows _ _ _ _ u ∙ allows _ _ _ _ (lt-leb 128 (length vs) h)

-- ---- command by command
module _ (g : Naming) (r : List ℕ) (vs : List Variable) where
  -- a skipped command: the header goes on behind its `$end`
  pub skipping_on : (ws : List Span) → skipping g r vs ws ≡ header g r vs (after_end r ws)
  unfolding skipping after_end
  skipping_on [] = unfold header in refl
  skipping_on (w ∷ ws) = go (says (bytes_of r w) "$end") (skipping_on ws)
    where
      go : (x : Bool) → skipping g r vs ws ≡ header g r vs (after_end r ws)
          → cond x (header g r vs ws) (skipping g r vs ws) ≡ header g r vs (cond x ws (after_end r ws))
      go true ih = refl
      go false ih = ih

  -- a declaration whose words run out
  pub declaring_short : (at : ℕ) (us : List Span) → length us < 5 → declaring g r vs at us ≡ cut_off r
  unfolding declaring
  declaring_short at [] h = refl
  declaring_short at (a ∷ []) h = refl
  declaring_short at (a ∷ b ∷ []) h = refl
  declaring_short at (a ∷ b ∷ c ∷ []) h = refl
  declaring_short at (a ∷ b ∷ c ∷ d ∷ []) h = refl
  declaring_short at (a ∷ b ∷ c ∷ d ∷ l ∷ us) h = absurd (omega arith)

-- ---- before words
module _ (g : Naming) (r : List ℕ) where
  pub opened_long : most_bytes < length r → opened g r ≡ stopped RecordingLength 0
  unfolding opened
  opened_long h = refuses _ _ _ _ (lt-ltb most_bytes (length r) h)

  module _ (h : length r ≤ most_bytes) where
    pub opened_other : (i : ℕ) → i ≡ first_other r → i < length r → opened g r ≡ stopped RecordingByte i
    unfolding opened
    opened_other i e k = allows _ _ _ _ (le-ltb most_bytes (length r) h) ∙ rw (← e) (refuses _ _ _ _ (lt-ltb i (length r) k))

    pub opened_header : (i : ℕ) → i ≡ first_other r → length r ≤ i → opened g r ≡ header g r [] (words r 0)
    unfolding opened
    opened_header i e k = allows _ _ _ _ (le-ltb most_bytes (length r) h) ∙ allows _ _ _ _ (ap (λ (x : ℕ). ltb x (length r)) (sym e) ∙ le-ltb i (length r) k)

  -- a header is read of a recording within limit 30 alone
  pub opened_within : (h : Header) → opened g r ≡ passed h → length r ≤ most_bytes
  unfolding opened
  opened_within h e = go (dec_lt most_bytes (length r))
    where
      go : Dec (most_bytes < length r) → length r ≤ most_bytes
      go (no k) = omega arith
      go (yes k) = let s : opened g r ≡ stopped RecordingLength 0 = opened_long k in let z : ◌≡◌ {A = ℕ} 0 1 = cc in absurd (omega arith)
