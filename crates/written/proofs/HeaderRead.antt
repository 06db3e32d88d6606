-- Declarations that were written are read as the variables, up to one with a name that is refused. Assumes nothing.
use Rattle.std.specs.Prelude.{Some, None}
use Prim.Native.Nat.{ℕ, ◌+◌, ◌≤◌, ◌<◌}
use mathlib.Core.Path.{◌≡◌, refl, sym, ap, ◌∙◌}
use mathlib.Core.List.{List, [], ◌∷◌, ◌++◌, append_assoc, append-nil, map}
use mathlib.Core.Bool.{Bool, true, false, not, cond, ◌&&◌, ◌||◌}
use native.Mathlib.Omega.{arith}
use borrow.Author.Tests.{le-leb, ne_eqb, eqb-false, leb-true}
use lib.Dec.{leb, eqb}
use lib.ListN.{length, drop, length-append}
use Rattle.limit.specs.Checked.{passed, stopped, and_then}
use Rattle.limit.specs.declared.Limit.TheVariants.{VariableUnknown}
use Rattle.constraint.proofs.Booleans.{and_l}
use Rattle.text.specs.Ascii.{ascii}
use Rattle.text.specs.Bytes.{all_bytes, same_bytes}
use Rattle.text.specs.Split.{bytes_of}
use Rattle.text.specs.declared.Span.{Span}
use Rattle.text.proofs.Bytes.{all_to, differ_same}
use Rattle.recording.specs.Header.{words, says, command_of, shaped, header, declaring}
use Rattle.recording.specs.Variables.{Variable, refuses_unknown, Naming, with_id, look_up, is_declared, has_clock, clock_again, all_declared}
use Rattle.recording.specs.declared.Command.TheVariants.{Declaration, Definitions}
use Rattle.recording.proofs.HeaderLaws.{declare_unknown, declare_more, close_all}
use Rattle.written.specs.Claim.{variables, Each, Apart, graphic, Graphic, Differ}
use Rattle.written.specs.Layout.{WrittenVariable, texts, declaration_words, declaration, definitions_end}
use Rattle.written.proofs.EachLaws.{each_with}
use Rattle.written.proofs.LineLaws.{outside, Word, Words, first_text, other_texts, behind_texts, line_words_lem, line_bytes}

-- ---- words

graphic_outside : (b : ℕ) → graphic b ≡ true → outside b ≡ true
graphic_outside b e =
    let h : 33 ≤ b = leb-true 33 b (and_l (leb 33 b) (leb b 126) e) in
    rw (ne_eqb b 9 (λ z. omega arith), ne_eqb b 10 (λ z. omega arith), ne_eqb b 13 (λ z. omega arith), ne_eqb b 32 (λ z. omega arith))

pub graphic_word : (w : List ℕ) → Graphic w → Word w
graphic_word w g = record { some = g.some; whole = all_to graphic outside graphic_outside w g.bytes }

fixed : (w : List ℕ) → 0 < length w → all_bytes outside w ≡ true → Word w
fixed w s h = record { some = s; whole = h }

declaration_words_lem : (v : WrittenVariable) → Graphic v.id → Graphic v.name → Words (ascii "$var") (declaration_words v)
unfolding all_bytes
declaration_words_lem v i n =
    let var : Word (ascii "$var") = fixed (ascii "$var") (omega arith) refl in
    let event : Word (ascii "event") = fixed (ascii "event") (omega arith) refl in
    let one : Word (ascii "1") = fixed (ascii "1") (omega arith) refl in
    let end : Word (ascii "$end") = fixed (ascii "$end") (omega arith) refl in
    (var, (event, (one, (graphic_word v.id i, (graphic_word v.name n, end)))))

end_words : Words (ascii "$enddefinitions") (ascii "$end" ∷ [])
unfolding all_bytes
end_words = (fixed (ascii "$enddefinitions") (omega arith) refl, fixed (ascii "$end") (omega arith) refl)

is_var : command_of (ascii "$var") ≡ Declaration
unfolding same_bytes
is_var = refl

is_definitions : command_of (ascii "$enddefinitions") ≡ Definitions
unfolding same_bytes
is_definitions = refl

says_event : says (ascii "event") "event" ≡ true
unfolding same_bytes
says_event = refl

says_one : says (ascii "1") "1" ≡ true
unfolding same_bytes
says_one = refl

says_end : says (ascii "$end") "$end" ≡ true
unfolding same_bytes
says_end = refl

-- ---- a variable more
with_more : (us : List Variable) (u : Variable) (w : List ℕ) → with_id us w ≡ None → same_bytes u.id w ≡ false → with_id (us ++ u ∷ []) w ≡ None
unfolding with_id
with_more [] u w h e = rw e
with_more (x ∷ us) u w h e = go (same_bytes x.id w) h (with_more us u w)
  where
    go : (t : Bool) → cond t (Some x.clock) (with_id us w) ≡ None → (with_id us w ≡ None → same_bytes u.id w ≡ false → with_id (us ++ u ∷ []) w ≡ None)
        → cond t (Some x.clock) (with_id (us ++ u ∷ []) w) ≡ None
    go true h ih = h
    go false h ih = ih h e

has_more : (us : List Variable) (u : Variable) (k : ℕ) → has_clock us k ≡ false → eqb u.clock k ≡ false → has_clock (us ++ u ∷ []) k ≡ false
unfolding has_clock
has_more [] u k h e = rw e
has_more (x ∷ us) u k h e = go (eqb x.clock k) h (has_more us u k)
  where
    go : (t : Bool) → (t || has_clock us k) ≡ false → (has_clock us k ≡ false → eqb u.clock k ≡ false → has_clock (us ++ u ∷ []) k ≡ false) → (t || has_clock (us ++ u ∷ []) k) ≡ false
    go true h ih = h
    go false h ih = ih h e

again_more : (us : List Variable) (u : Variable) (k : ℕ) → clock_again us k ≡ false → Differ u.clock k → clock_again (us ++ u ∷ []) k ≡ false
again_more us u k h e = go (eqb k 32) refl h
  where
    go : (t : Bool) → eqb k 32 ≡ t → (not t && has_clock us k) ≡ false → (not t && has_clock (us ++ u ∷ []) k) ≡ false
    go true q h = refl
    go false q h = has_more us u k h (ne_eqb u.clock k (λ z. eqb-false k 32 q (sym z ∙ e z)))

look_none : (us : List Variable) (w : List ℕ) → with_id us w ≡ None → look_up us w ≡ None
look_none us w e = go (leb (length w) 4)
  where
    go : (t : Bool) → cond t (with_id us w) None ≡ None
    go true = e
    go false = refl

-- ---- declarations
module _ (g : Naming) (r : List ℕ) where
  -- six words that declare a variable
  module _ (us : List Variable) (v : WrittenVariable) (a b c d e f : Span) (later : List Span) (q : map (bytes_of r) (a ∷ b ∷ c ∷ d ∷ e ∷ f ∷ []) ≡ ascii "$var" ∷ declaration_words v)
      (short : length v.id ≤ 4) (new : with_id us v.id ≡ None) (once : clock_again us (g.named v.name) ≡ false) where
    command_is : command_of (bytes_of r a) ≡ Declaration
    command_is = let qa : bytes_of r a ≡ ascii "$var" = cc in rw (qa, is_var)

    id_is : bytes_of r d ≡ v.id
    id_is = cc

    name_is : bytes_of r e ≡ v.name
    name_is = cc

    shape_is : shaped r b c d f ≡ true
    shape_is =
        let qb : bytes_of r b ≡ ascii "event" = cc in
        let qc : bytes_of r c ≡ ascii "1" = cc in
        let qf : bytes_of r f ≡ ascii "$end" = cc in
        rw (qb, qc, id_is, qf, says_event, says_one, says_end, le-leb (length v.id) 4 short)

    not_twice : (is_declared (look_up us (bytes_of r d)) || clock_again us (g.named (bytes_of r e))) ≡ false
    not_twice = rw (id_is, name_is, look_none us v.id new, once)

    declares : refuses_unknown g.unknown (g.named v.name) ≡ false → length us < 128
        → header g r us (a ∷ b ∷ c ∷ d ∷ e ∷ f ∷ later) ≡ header g r (us ++ variables g.named (v ∷ [])) later
    unfolding header declaring and_then
    declares known few = rw (command_is, declare_more g r a.start us b c d e f shape_is not_twice (rw name_is known) few, id_is, name_is)

    misnames : refuses_unknown g.unknown (g.named v.name) ≡ true → header g r us (a ∷ b ∷ c ∷ d ∷ e ∷ f ∷ later) ≡ stopped VariableUnknown a.start
    unfolding header declaring and_then
    misnames unknown = rw (command_is, declare_unknown g r a.start us b c d e f shape_is not_twice (rw name_is unknown))

  -- us are the variables so far, which have neither the ids nor the clocks of those that follow
  pub declarations_read : (vs : List WrittenVariable) (us : List Variable) (at : ℕ) (s : List ℕ) → drop at r ≡ texts declaration vs ++ s
      → Each (λ v. Graphic v.id) vs → Each (λ v. length v.id ≤ 4) vs → Each (λ v. Graphic v.name) vs
      → Apart (λ u v. u.id ≡ v.id → ⊥) vs → Apart (λ u v. Differ (g.named u.name) (g.named v.name)) vs
      → Each (λ v. with_id us v.id ≡ None) vs → Each (λ v. clock_again us (g.named v.name) ≡ false) vs
      → Each (λ v. refuses_unknown g.unknown (g.named v.name) ≡ false) vs → length us + length vs ≤ 128
      → header g r us (words r at) ≡ header g r (us ++ variables g.named vs) (words r (at + length (texts declaration vs)))
  unfolding texts Each Apart
  declarations_read [] us at s d ids sh nm di on new once known few = let z : at + 0 ≡ at = omega arith in rw (z, append-nil us)
  declarations_read (v ∷ vs) us at s d ids sh nm di on new once known few =
      let u : Variable = record { id = v.id; clock = g.named v.name } in
      let e = first_text r at declaration v vs s d in
      let m : length (us ++ u ∷ []) + length vs ≤ 128 = omega (arith, length-append us (u ∷ [])) in
      ap (header g r us) (line_words_lem r (declaration_words v) (ascii "$var") at (texts declaration vs ++ s) (declaration_words_lem v ids.0 nm.0) e)
      ∙ declares us v _ _ _ _ _ _ (words r (at + length (declaration v))) (line_bytes r (declaration_words v) (ascii "$var") at (texts declaration vs ++ s) e) sh.0 new.0 once.0 known.0 (omega arith)
      ∙ declarations_read vs (us ++ u ∷ []) (at + length (declaration v)) s (other_texts r at declaration v vs s d) ids.1 sh.1 nm.1 di.1 on.1
      (each_with vs (λ w p k. with_more us u w.id p (differ_same v.id w.id k)) new.1 di.0)
      (each_with vs (λ w p k. again_more us u (g.named w.name) p k) once.1 on.0)
      known.1
      m
      ∙ ap (λ (j : ℕ). header g r ((us ++ u ∷ []) ++ variables g.named vs) (words r j)) (behind_texts r at declaration v vs s d)
      ∙ ap (λ (x : List Variable). header g r x (words r (at + length (texts declaration (v ∷ vs))))) (append_assoc us (u ∷ []) (variables g.named vs))

  -- a variable more, with a name that the table lacks
  pub misnamed_read : (us : List Variable) (v : WrittenVariable) (at : ℕ) (s : List ℕ) → drop at r ≡ declaration v ++ s
      → Graphic v.id → length v.id ≤ 4 → Graphic v.name → with_id us v.id ≡ None → clock_again us (g.named v.name) ≡ false
      → refuses_unknown g.unknown (g.named v.name) ≡ true → header g r us (words r at) ≡ stopped VariableUnknown at
  misnamed_read us v at s d id short name new once unknown =
      ap (header g r us) (line_words_lem r (declaration_words v) (ascii "$var") at s (declaration_words_lem v id name) d)
      ∙ misnames us v _ _ _ _ _ _ (words r (at + length (declaration v))) (line_bytes r (declaration_words v) (ascii "$var") at s d) short new once unknown

  -- the end of the header
  closes : (us : List Variable) (a b : Span) (later : List Span) → map (bytes_of r) (a ∷ b ∷ []) ≡ ascii "$enddefinitions" ∷ ascii "$end" ∷ [] → all_declared us g.count ≡ true
      → header g r us (a ∷ b ∷ later) ≡ passed (record { variables = us; body = later })
  unfolding header
  closes us a b later q k =
      let qa : bytes_of r a ≡ ascii "$enddefinitions" = cc in
      let qb : bytes_of r b ≡ ascii "$end" = cc in
      let s : says (bytes_of r b) "$end" ≡ true = rw (qb, says_end) in
      rw (qa, is_definitions) (close_all g.count r a.start us (b ∷ later) b later refl s k)

  pub end_read : (us : List Variable) (at : ℕ) (s : List ℕ) → drop at r ≡ definitions_end ++ s → all_declared us g.count ≡ true
      → header g r us (words r at) ≡ passed (record { variables = us; body = words r (at + length definitions_end) })
  end_read us at s d k =
      ap (header g r us) (line_words_lem r (ascii "$end" ∷ []) (ascii "$enddefinitions") at s end_words d)
      ∙ closes us _ _ (words r (at + length definitions_end)) (line_bytes r (ascii "$end" ∷ []) (ascii "$enddefinitions") at s d) k
