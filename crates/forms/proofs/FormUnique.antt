-- No line fits two forms: for any relation of operands in which the words in front determine the operand, since an operand's first
-- word, and the words of a kind, tell the rows apart, and a list of digit runs ends before a word that is none; and operands in parentheses are such a relation, level by level. Assumes nothing.
use mathlib.Core.Path.{◌≡◌, refl, sym, ap, ◌∙◌}
use mathlib.Core.Bool.{cond, true, true≢false, false≢true}
use mathlib.Core.List.{[], ◌∷◌, ◌++◌, map, append_assoc, append-nil}
use Prim.Native.Nat.{ℕ, zero, suc}
use native.Mathlib.Omega.{arith}
use Rattle.constraint.specs.declared.Definition.TheVariants.{Union, Inter, Lub, Glb, Await as AwaitKind, StrictlySampled, Sampled, Upto, Deferred}
use Rattle.constraint.specs.declared.Kind.{Kind}
use Rattle.constraint.specs.declared.Kind.TheVariants.{Empty, Relates, Defines}
use Rattle.constraint.specs.declared.Relation.{Relation}
use Rattle.constraint.specs.declared.Relation.TheVariants.{Coincides, Excludes, SubClock, StrictlyPrecedes, Precedes}
use Rattle.text.specs.Ascii.{ascii}
use Rattle.text.specs.Bytes.{all_bytes, same_bytes}
use Rattle.text.specs.Digits.{value}
use Rattle.grammar.specs.Grammar.{strict_kind, plain, is_kind, is_delay}
use Rattle.grammar.specs.Tokens.{is, token_of, look_up}
use Rattle.constraint.proofs.Booleans.{and_l, and_r}
use Rattle.grammar.specs.declared.Token.TheVariants.{Name, Await, Strictly}
use Rattle.grammar.proofs.KindLaws.{not_await}
use Rattle.forms.specs.Forms.{Word, Words, words_of, name_shape, is_name, is_digits, all_digits, Right, both, awaits, delays, Form, relates, defines, IsRight, IsForm, Operand, name, inner, IsOperandOf, one_name, in_parentheses, IsOperand, levels, NoLineFitsTwoForms}
use Rattle.forms.proofs.FormLaws.{Opens, by_name_lem, by_other}
use Rattle.forms.proofs.FormRows.{operands_open}
use Rattle.forms.proofs.FormShapes.{NoRun, Between, onward, RightShape, two, listed, waits, right_shape, Shape, relation, definition, shape}
use Rattle.forms.proofs.WordLaws.{kind_words, name_is}

-- the kind that the first words say
abbrev kind_of : Words → Kind
kind_of [] = Empty
kind_of (u ∷ []) = plain (token_of u)
kind_of (u ∷ v ∷ vs) = cond (is Strictly (token_of u)) (strict_kind (plain (token_of v))) (plain (token_of u))

kind_of_lem : (k : Kind) (u : Word) (us : Words) → is_kind k ≡ true → not_await k ≡ true → kind_of (kind_words k ++ u ∷ us) ≡ k
unfolding not_await look_up same_bytes
kind_of_lem Empty u us i n = absurd (false≢true i)
kind_of_lem (Relates Coincides) u us i n = refl
kind_of_lem (Relates Excludes) u us i n = refl
kind_of_lem (Relates SubClock) u us i n = refl
kind_of_lem (Relates StrictlyPrecedes) u us i n = refl
kind_of_lem (Relates Precedes) u us i n = refl
kind_of_lem (Defines Union) u us i n = refl
kind_of_lem (Defines Inter) u us i n = refl
kind_of_lem (Defines Lub) u us i n = refl
kind_of_lem (Defines Glb) u us i n = refl
kind_of_lem (Defines (AwaitKind m)) u us i n = absurd (false≢true n)
kind_of_lem (Defines StrictlySampled) u us i n = refl
kind_of_lem (Defines Sampled) u us i n = refl
kind_of_lem (Defines Upto) u us i n = refl
kind_of_lem (Defines (Deferred [])) u us i n = refl
kind_of_lem (Defines (Deferred (m ∷ ms))) u us i n = absurd (false≢true n)

cancel : (ks us vs : Words) → ks ++ us ≡ ks ++ vs → us ≡ vs
cancel [] us vs e = e
cancel (k ∷ ks) us vs e = let q : ks ++ us ≡ ks ++ vs = cc in cancel ks us vs q

kind_opened : (k : Kind) (c us : Words) → Opens c → is_kind k ≡ true → not_await k ≡ true → kind_of (kind_words k ++ (c ++ us)) ≡ k
kind_opened k c us (by_name_lem {n = n} h) i m = kind_of_lem k n us i m
kind_opened k c us (by_other {u = u} {us = vs} h g) i m = kind_of_lem k u (vs ++ us) i m

-- digit runs before words of which the first is none
runs_same : (ns ms us zs : Words) → all_digits ns ≡ true → all_digits ms ≡ true → NoRun us → NoRun zs → ns ++ us ≡ ms ++ zs → (ns ≡ ms) × (us ≡ zs)
runs_same [] [] us zs d e f g q = (refl, q)
runs_same [] (m ∷ ms) [] zs d e f g q = let z : ◌≡◌ {A = ℕ} 0 1 = cc in absurd (omega arith)
runs_same [] (m ∷ ms) (u ∷ us) zs d e f g q = let h : u ≡ m = cc in absurd (false≢true (sym f ∙ ap is_digits h ∙ and_l (is_digits m) (all_digits ms) e))
runs_same (n ∷ ns) [] us [] d e f g q = let z : ◌≡◌ {A = ℕ} 0 1 = cc in absurd (omega arith)
runs_same (n ∷ ns) [] us (z ∷ zs) d e f g q = let h : z ≡ n = cc in absurd (false≢true (sym g ∙ ap is_digits h ∙ and_l (is_digits n) (all_digits ns) d))
runs_same (n ∷ ns) (m ∷ ms) us zs d e f g q =
    let h : n ≡ m = cc in
    let i : ns ++ us ≡ ms ++ zs = cc in
    let r = runs_same ns ms us zs (and_r (is_digits n) (all_digits ns) d) (and_r (is_digits m) (all_digits ms) e) f g i in
    (λ k. h k ∷ r.0 k, r.1)

def_kind : (us : Words) → kind_of (ascii "clockDef" ∷ us) ≡ Empty
unfolding look_up same_bytes
def_kind [] = refl
def_kind (u ∷ us) = refl

-- the list of a delay, with whatever words behind it
behind : (ws vs ns us : Words) → ws ≡ vs ++ ascii "for" ∷ ns → ws ++ us ≡ vs ++ ascii "for" ∷ (ns ++ us)
behind ws vs ns us e = ap (λ (z : Words). z ++ us) e ∙ append_assoc vs (ascii "for" ∷ ns) us

module _ (O : Type 0) (IsOp : Words → O → Type 0) (opens : (a : Words) (x : O) → IsOp a x → Opens a)
    (one : (a c us vs : Words) (x y : O) → IsOp a x → IsOp c y → a ++ us ≡ c ++ vs → (x ≡ y) × (us ≡ vs)) where
  one_pair : (ws vs us zs : Words) (k j : Kind) (x y v w : O) → Between O IsOp k x y ws → Between O IsOp j v w vs → ws ++ us ≡ vs ++ zs → (k ≡ j) × (x ≡ v) × (y ≡ w) × (us ≡ zs)
  one_pair ws vs us zs k j x y v w p q e =
      let f = one p.a q.a (kind_words k ++ (p.c ++ us)) (kind_words j ++ (q.c ++ zs)) x v p.first q.first (sym (onward O IsOp k x y ws us p) ∙ e ∙ onward O IsOp j v w vs zs q) in
      let g : k ≡ j = sym (kind_opened k p.c us (opens p.c y p.second) p.kind p.plainly) ∙ ap kind_of f.1 ∙ kind_opened j q.c zs (opens q.c w q.second) q.kind q.plainly in
      let h : kind_words j ++ (p.c ++ us) ≡ kind_words j ++ (q.c ++ zs) = ap (λ (z : Kind). kind_words z ++ (p.c ++ us)) (sym g) ∙ f.1 in
      let s = one p.c q.c us zs y w p.second q.second (cancel (kind_words j) (p.c ++ us) (q.c ++ zs) h) in
      (g, f.0, s.0, s.1)

  await_opens : (a us vs : Words) → Opens a → a ++ us ≡ ascii "await" ∷ vs → ⊥
  unfolding look_up same_bytes
  await_opens a us vs (by_name_lem {n = n} h) e = let q : n ≡ ascii "await" = cc in false≢true (ap (λ u. is Name (token_of u)) (sym q) ∙ name_is n ∙ h)
  await_opens a us vs (by_other {u = u} {us = ws} h k) e = let q : u ≡ ascii "await" = cc in true≢false (ap (λ u. is Await (token_of u)) (sym q) ∙ k)

  pair_no_await : (k : Kind) (x y : O) (ws us vs : Words) → Between O IsOp k x y ws → ws ++ us ≡ ascii "await" ∷ vs → ⊥
  pair_no_await k x y ws us vs p e = await_opens p.a (kind_words k ++ (p.c ++ us)) vs (opens p.a x p.first) (sym (onward O IsOp k x y ws us p) ∙ e)

  module _ (us zs : Words) (f : NoRun us) (g : NoRun zs) where
    shapes_same : (ws vs : Words) (r s : Right O) → RightShape O IsOp ws r → RightShape O IsOp vs s → ws ++ us ≡ vs ++ zs → (r ≡ s) × (us ≡ zs)
    shapes_same ws vs r s (two {k = k} {x = x} {y = y} n p) (two {k = j} {x = v} {y = w} m q) e =
        let h = one_pair ws vs us zs (Defines k) (Defines j) x y v w p q e in
        let d : k ≡ j = cc h.0 in
        (λ i. both (d i) (h.1 i) (h.2 i), h.3)
    shapes_same ws vs r s (two {k = k} {x = x} {y = y} n p) (listed {vs = qs} ms {x = v} {y = w} q d h) e =
        let i = one_pair ws qs us (ascii "for" ∷ (ms ++ zs)) (Defines k) (Defines (Deferred [])) x y v w p q (e ∙ behind vs qs ms zs h) in
        absurd (false≢true (sym n ∙ ap is_delay i.0))
    shapes_same ws vs r s (listed {vs = ps} ns {x = x} {y = y} p d h) (two {k = j} {x = v} {y = w} m q) e =
        let i = one_pair ps vs (ascii "for" ∷ (ns ++ us)) zs (Defines (Deferred [])) (Defines j) x y v w p q (sym (behind ws ps ns us h) ∙ e) in
        absurd (false≢true (sym m ∙ ap is_delay (sym i.0)))
    shapes_same ws vs r s (listed {vs = ps} ns {x = x} {y = y} p d h) (listed {vs = qs} ms {x = v} {y = w} q c j) e =
        let i = one_pair ps qs (ascii "for" ∷ (ns ++ us)) (ascii "for" ∷ (ms ++ zs)) (Defines (Deferred [])) (Defines (Deferred [])) x y v w p q (sym (behind ws ps ns us h) ∙ e ∙ behind vs qs ms zs j) in
        let k : ns ++ us ≡ ms ++ zs = cc i.3 in
        let o = runs_same ns ms us zs d c f g k in
        (λ l. delays (map (value 0) (o.0 l)) (i.1 l) (i.2 l), o.1)
    shapes_same ws vs r s (two {k = k} {x = x} {y = y} m p) (waits {n = n} {a = a} b q h) e =
        absurd (pair_no_await (Defines k) x y ws us (n ∷ (a ++ zs)) p (e ∙ ap (λ (z : Words). z ++ zs) h))
    shapes_same ws vs r s (waits {n = n} {a = a} b p h) (two {k = k} {x = x} {y = y} m q) e =
        absurd (pair_no_await (Defines k) x y vs zs (n ∷ (a ++ us)) q (sym e ∙ ap (λ (z : Words). z ++ us) h))
    shapes_same ws vs r s (listed {vs = ps} ns {x = x} {y = y} p d j) (waits {n = n} {a = a} b q h) e =
        absurd (pair_no_await (Defines (Deferred [])) x y ps (ascii "for" ∷ (ns ++ us)) (n ∷ (a ++ zs)) p (sym (behind ws ps ns us j) ∙ e ∙ ap (λ (z : Words). z ++ zs) h))
    shapes_same ws vs r s (waits {n = n} {a = a} b p h) (listed {vs = qs} ms {x = x} {y = y} q d j) e =
        absurd (pair_no_await (Defines (Deferred [])) x y qs (ascii "for" ∷ (ms ++ zs)) (n ∷ (a ++ us)) q (sym (behind vs qs ms zs j) ∙ sym e ∙ ap (λ (z : Words). z ++ us) h))
    shapes_same ws vs r s (waits {n = n} {a = a} {x = x} b p h) (waits {n = m} {a = c} {x = y} t q j) e =
        let d : ascii "await" ∷ n ∷ (a ++ us) ≡ ascii "await" ∷ m ∷ (c ++ zs) = ap (λ (z : Words). z ++ us) (sym h) ∙ e ∙ ap (λ (z : Words). z ++ zs) j in
        let i : n ≡ m = cc in
        let k : a ++ us ≡ c ++ zs = cc in
        let o = one a c us zs x y p q k in
        (λ l. awaits (value 0 (i l)) (o.0 l), o.1)

    -- the words in front determine a right side, where no digit run stands behind it
    pub front_right : (ws vs : Words) (r s : Right O) → IsRight IsOp ws r → IsRight IsOp vs s → ws ++ us ≡ vs ++ zs → (r ≡ s) × (us ≡ zs)
    front_right ws vs r s p q = shapes_same ws vs r s (right_shape O IsOp ws r p) (right_shape O IsOp vs s q)

  never_both : (k : Relation) (x y : O) (us rs : Words) (c : Word) → Between O IsOp (Relates k) x y us → is_name c ≡ true → us ≡ c ∷ ascii "clockDef" ∷ rs → ⊥
  never_both k x y us rs c p n e = go p.a (opens p.a x p.first) (sym p.words ∙ e)
    where
      go : (a : Words) → Opens a → a ++ (kind_words (Relates k) ++ p.c) ≡ c ∷ ascii "clockDef" ∷ rs → ⊥
      go a (by_name_lem {n = m} h) q =
          let s : kind_words (Relates k) ++ p.c ≡ ascii "clockDef" ∷ rs = cc in
          let r : Relates k ≡ Empty = sym (kind_opened (Relates k) p.c [] (opens p.c y p.second) p.kind p.plainly) ∙ ap (λ (z : Words). kind_of (kind_words (Relates k) ++ z)) (append-nil p.c) ∙ ap kind_of s ∙ def_kind rs in
          let z : ◌≡◌ {A = ℕ} 0 1 = cc in omega arith
      go a (by_other {u = u} {us = us} h m) q = let s : u ≡ c = cc in true≢false (sym (name_is c ∙ n) ∙ ap (λ v. is Name (token_of v)) (sym s) ∙ h)

  pub one_form : (us : Words) (f g : Form O) → IsForm IsOp us f → IsForm IsOp us g → f ≡ g
  one_form us f g p q = go f g (shape O IsOp us f p) (shape O IsOp us g q)
    where
      go : (f g : Form O) → Shape O IsOp us f → Shape O IsOp us g → f ≡ g
      go f g (relation {k = k} {x = x} {y = y} p) (relation {k = j} {x = v} {y = w} q) =
          let h = one_pair us us [] [] (Relates k) (Relates j) x y v w p q refl in
          let e : k ≡ j = cc h.0 in
          λ i. relates (e i) (h.1 i) (h.2 i)
      go f g (relation {k = k} {x = x} {y = y} p) (definition {c = c} {rs = rs} n q e) = absurd (never_both k x y us rs c p n e)
      go f g (definition {c = c} {rs = rs} n q e) (relation {k = k} {x = x} {y = y} p) = absurd (never_both k x y us rs c p n e)
      go f g (definition {c = c} {rs = rs} {r = r} n p e) (definition {c = d} {rs = ss} {r = s} m q h) =
          let u : c ≡ d = cc in
          let v : rs ≡ ss = cc in
          let w : r ≡ s = (front_right [] [] tt tt rs ss r s p q (ap (λ (z : Words). z ++ []) v)).0 in
          λ i. defines (u i) (w i)

-- ---- operands, level by level
module _ (Side : Words → Right Operand → Type 0) (one : (us zs : Words) → NoRun us → NoRun zs → (ws vs : Words) (r s : Right Operand) → Side ws r → Side vs s → ws ++ us ≡ vs ++ zs → (r ≡ s) × (us ≡ zs)) where
  not_open : (n : Word) (us vs : Words) → is_name n ≡ true → n ∷ us ≡ ascii "(" ∷ vs → ⊥
  unfolding name_shape
  not_open n us vs h e = let q : n ≡ ascii "(" = cc in false≢true (ap is_name (sym q) ∙ h)

  one_inside : (a c us vs : Words) (x y : Operand) → IsOperandOf Side a x → IsOperandOf Side c y → a ++ us ≡ c ++ vs → (x ≡ y) × (us ≡ vs)
  unfolding is_digits all_bytes
  one_inside a c us vs x y (one_name {n = n} p) (one_name {n = m} q) e =
      let f : n ≡ m = cc in
      let g : us ≡ vs = cc in
      (ap name f, g)
  one_inside a c us vs x y (one_name {n = n} p) (in_parentheses {ws = ws} q) e = absurd (not_open n us _ p e)
  one_inside a c us vs x y (in_parentheses {ws = ws} p) (one_name {n = n} q) e = absurd (not_open n vs _ q (sym e))
  one_inside a c us vs x y (in_parentheses {ws = ws} {r = r} p) (in_parentheses {ws = zs} {r = s} q) e =
      let d : (ws ++ ascii ")" ∷ []) ++ us ≡ (zs ++ ascii ")" ∷ []) ++ vs = cc in
      let f = one (ascii ")" ∷ us) (ascii ")" ∷ vs) refl refl ws zs r s p q (sym (append_assoc ws (ascii ")" ∷ []) us) ∙ d ∙ append_assoc zs (ascii ")" ∷ []) vs) in
      let g : us ≡ vs = cc f.1 in
      (ap inner f.0, g)

one_operand : (n : ℕ) (a c us vs : Words) (x y : Operand) → IsOperand n a x → IsOperand n c y → a ++ us ≡ c ++ vs → (x ≡ y) × (us ≡ vs)
unfolding IsOperand
one_operand zero = one_inside (λ ws r. ⊥) (λ us zs f g ws vs r s p q e. absurd p)
one_operand (suc n) = one_inside (IsRight (IsOperand n)) (front_right Operand (IsOperand n) (operands_open n) (one_operand n))

pub one_form_of : (n : ℕ) (us : Words) (f g : Form Operand) → IsForm (IsOperand n) us f → IsForm (IsOperand n) us g → f ≡ g
one_form_of n = one_form Operand (IsOperand n) (operands_open n) (one_operand n)

pub no_line_fits_two_forms : NoLineFitsTwoForms
no_line_fits_two_forms l = one_form_of levels (words_of l)
