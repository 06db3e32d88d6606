-- Lines whose operands have some levels: what `form_in` reads is a form of the line's words, every form is read, and row 12 of the limits is that
-- no form fits. Assumes nothing.
use mathlib.Core.Path.{◌≡◌, refl, sym, ap, ◌∙◌}
use mathlib.Core.Logic.{◌↔◌}
use mathlib.Core.Bool.{Bool, true, false, cond, ◌&&◌}
use mathlib.Core.List.{List, [], ◌∷◌, ◌++◌, append_assoc}
use Prim.Native.Nat.{ℕ, zero, suc}
use Rattle.constraint.proofs.Booleans.{and_l, and_r}
use Rattle.constraint.specs.declared.Definition.TheVariants.{Await as AwaitKind, Deferred}
use Rattle.constraint.specs.declared.Kind.TheVariants.{Defines}
use Rattle.text.specs.Ascii.{ascii}
use Rattle.text.specs.Bytes.{all_bytes, same_bytes}
use Rattle.text.specs.Split.{bytes_of, front, rest}
use Rattle.text.specs.declared.Span.{Span}
use Rattle.grammar.specs.Building.{provisional, with_implicit}
use Rattle.grammar.specs.Grammar.{no_form, parsed, and_then, Placed, Formed, token, clock_of, name as «nameRead», sides, listed, expression, is_side, inner as «innerRead», operand, form_in}
use Rattle.grammar.specs.Names.{number_in}
use Rattle.grammar.specs.Tokens.{is, look_up}
use Rattle.grammar.specs.declared.Inner.{Inner}
use Rattle.grammar.specs.declared.Names.{Names}
use Rattle.grammar.specs.declared.Token.TheVariants.{Name, Open, Close}
use Rattle.grammar.proofs.GrammarLaws.{Each, each_only, each_then, name_some, operand_name, inner_some}
use Rattle.grammar.proofs.TokenLaws.{told_apart}
use Rattle.forms.specs.Forms.{Word, Words, is_name, is_digits, Right, both, awaits, delays, Form, IsRight, IsForm, Operand, name, both_inside, awaits_inside, delays_inside, inner, IsOperandOf, one_name, in_parentheses, IsOperand}
use Rattle.forms.proofs.FormLaws.{Opens, by_name_lem, by_other, Took, OperandTaken, Agrees, parameter_of, right_of, form_with, SideTaken, RightTaken, right_taken, right_side, expression_sound, right_complete, LineTaken, reads_forms, no_form_fits}
use Rattle.forms.proofs.Said.{said, First, first_is, first_told, some_first}
use Rattle.forms.proofs.WordLaws.{name_is, open_word, close_word}

-- ---- what an operand opens with
module _ (Side : Words → Right Operand → Type 0) where
  operand_opens : (a : Words) (x : Operand) → IsOperandOf Side a x → Opens a
  unfolding look_up same_bytes
  operand_opens a x (one_name h) = by_name_lem h
  operand_opens a x (in_parentheses h) = by_other refl refl

pub operands_open : (n : ℕ) (a : Words) (x : Operand) → IsOperand n a x → Opens a
unfolding IsOperand
operands_open zero = operand_opens (λ ws r. ⊥)
operands_open (suc n) = operand_opens (IsRight (IsOperand n))

-- ---- operands, placed in a table that has these names

-- the clock that a name is
abbrev pub clock_named : List ℕ → Names → Word → ℕ
clock_named t ns w = clock_of (number_in t ns w)

-- a right side in parentheses becomes an implicit clock
abbrev pub enclosed : Formed Inner → Placed Inner
enclosed f = record { left = with_implicit f.left f.constraint; clock = provisional f.left.clocks }

module _ (t : List ℕ) (ns : Names) where
  abbrev pub placed : Inner → Operand → Placed Inner
  placed s (name w) = record { left = s; clock = clock_named t ns w }
  placed s (both_inside k x y) = enclosed (record {
    left = (placed (placed s x).left y).left;
    constraint = sides (Defines k) (placed s x).clock (placed (placed s x).left y).clock;
  })
  placed s (awaits_inside n x) = enclosed (record { left = (placed s x).left; constraint = sides (Defines (AwaitKind (parameter_of n))) (placed s x).clock 0 })
  placed s (delays_inside ms x y) = enclosed (record {
    left = (placed (placed s x).left y).left;
    constraint = sides (Defines (Deferred (listed ms))) (placed s x).clock (placed (placed s x).left y).clock;
  })

  placed_inner : (s : Inner) (r : Right Operand) → placed s (inner r) ≡ enclosed (right_of placed s r)
  placed_inner s (both k x y) = refl
  placed_inner s (awaits n x) = refl
  placed_inner s (delays ms x y) = refl

  -- ---- the readers agree with the rows, level by level
  module _ (Side : Words → Right Operand → Type 0) where
    name_sound : (s : Inner) (ws : List Span) → Each (OperandTaken t (IsOperandOf Side) placed s ws) («nameRead» t ns s ws)
    name_sound s ws =
        unfold «nameRead» in each_only (OperandTaken t (IsOperandOf Side) placed s ws) (is Name (token t ws)) _ (λ n. record {
          words = bytes_of t (front t ws) ∷ [];
          it = name (bytes_of t (front t ws));
          split = some_first t (is Name) refl ws n;
          fits = one_name (sym (name_is (bytes_of t (front t ws))) ∙ n);
          made = refl;
        })

  name_complete : (m : ℕ) (s : Inner) (ws : List Span) (n : Word) (us : Words) → is_name n ≡ true → said t ws ≡ n ∷ us → Took t (operand t ns m s ws) (placed s (name n)) us
  name_complete m s ws n us h e =
      let f : First t ws n us = first_is t ws n us e in
      let k : is Name (token t ws) ≡ true = first_told t Bool (is Name) true ws n us e (name_is n ∙ h) in
      record {
        left = rest ws;
        words = f.after;
        took =
            operand_name t ns m s ws (told_apart Name Open (token t ws) k)
            ∙ name_some t ws ns s k
            ∙ ap (λ (u : Word). parsed (placed s (name u)) (rest ws)) f.bytes;
      }

  module _ (n : ℕ) (A : Agrees t (IsOperand n) placed (operand t ns n)) where
    abbrev Op : Words → Operand → Type 0
    Op = IsOperandOf (IsRight (IsOperand n))

    -- the closing parenthesis behind a right side
    inner_sound : (s : Inner) (ws : List Span) → is Open (token t ws) ≡ true → (f : Formed Inner) (us : List Span) → SideTaken t (IsOperand n) placed s (rest ws) us f → Each (OperandTaken t Op placed s ws) («innerRead» t f us)
    unfolding «innerRead»
    inner_sound s ws o f us h =
        each_only (OperandTaken t Op placed s ws) (is Close (token t us) && is_side true f.constraint.kind) _ (λ e.
        let c : is Close (token t us) ≡ true = and_l (is Close (token t us)) (is_side true f.constraint.kind) e in
        let r : RightTaken t (IsOperand n) placed s (rest ws) us f = right_taken t (IsOperand n) placed s (rest ws) us f h (and_r (is Close (token t us)) (is_side true f.constraint.kind) e) in
        record {
          words = ascii "(" ∷ (r.words ++ ascii ")" ∷ []);
          it = inner r.it;
          split =
              some_first t (is Open) refl ws o
              ∙ (λ i. open_word (bytes_of t (front t ws)) o i ∷ (r.split ∙ ap (λ (z : Words). r.words ++ z) (some_first t (is Close) refl us c ∙ ap (λ (u : Word). u ∷ said t (rest us)) (close_word (bytes_of t (front t us)) c))) i)
              ∙ ap (λ (z : Words). ascii "(" ∷ z) (sym (append_assoc r.words (ascii ")" ∷ []) (said t (rest us))));
          fits = in_parentheses r.fits;
          made = ap enclosed r.made ∙ sym (placed_inner s r.it);
        })

    deeper_sound : (s : Inner) (ws : List Span) → Each (OperandTaken t Op placed s ws) (operand t ns (suc n) s ws)
    unfolding operand
    deeper_sound s ws = go (is Open (token t ws)) refl
      where
        go : (x : Bool) → is Open (token t ws) ≡ x → Each (OperandTaken t Op placed s ws) (cond x (and_then (expression t (operand t ns n) s (rest ws)) («innerRead» t)) («nameRead» t ns s ws))
        go true o = each_then (λ f us. SideTaken t (IsOperand n) placed s (rest ws) us f) (OperandTaken t Op placed s ws) (expression t (operand t ns n) s (rest ws)) («innerRead» t) (expression_sound t (IsOperand n) placed (operand t ns n) A s (rest ws)) (inner_sound s ws o)
        go false o = name_sound (IsRight (IsOperand n)) s ws

    deeper_complete : (s : Inner) (ws : List Span) (a : Words) (x : Operand) (us : Words) → Op a x → said t ws ≡ a ++ us → Took t (operand t ns (suc n) s ws) (placed s x) us
    unfolding operand look_up same_bytes is_digits all_bytes
    deeper_complete s ws a x us (one_name {n = w} h) e = name_complete (suc n) s ws w us h e
    deeper_complete s ws a x us (in_parentheses {ws = vs} {r = r} h) e =
        let f : First t ws (ascii "(") ((vs ++ ascii ")" ∷ []) ++ us) = first_is t ws (ascii "(") ((vs ++ ascii ")" ∷ []) ++ us) e in
        let o : is Open (token t ws) ≡ true = first_told t Bool (is Open) true ws (ascii "(") ((vs ++ ascii ")" ∷ []) ++ us) e refl in
        let g : Took t (expression t (operand t ns n) s (rest ws)) (right_of placed s r) (ascii ")" ∷ us) =
        right_complete t (IsOperand n) placed (operand t ns n) A s (rest ws) vs (ascii ")" ∷ us) r h refl (f.after ∙ append_assoc vs (ascii ")" ∷ []) us) in
        let k : First t g.left (ascii ")") us = first_is t g.left (ascii ")") us g.words in
        let c : is Close (token t g.left) ≡ true = first_told t Bool (is Close) true g.left (ascii ")") us g.words refl in
        record {
          left = rest g.left;
          words = k.after;
          took =
              rw o
              (inner_some t (expression t (operand t ns n) s (rest ws)) (right_of placed s r) g.left g.took (rw (c, right_side t (IsOperand n) placed (operand t ns n) A s r))
              ∙ ap (λ (p : Placed Inner). parsed p (rest g.left)) (sym (placed_inner s r)));
        }

  pub operands_agree : (n : ℕ) → Agrees t (IsOperand n) placed (operand t ns n)
  unfolding operand IsOperand
  operands_agree zero = record { sound = name_sound (λ ws r. ⊥); complete = flat; opens = operand_opens (λ ws r. ⊥) }
    where
      flat : (s : Inner) (ws : List Span) (a : Words) (x : Operand) (us : Words) → IsOperandOf (λ ws r. ⊥) a x → said t ws ≡ a ++ us → Took t («nameRead» t ns s ws) (placed s x) us
      flat s ws a x us (one_name {n = w} h) e = name_complete zero s ws w us h e
      flat s ws a x us (in_parentheses h) e = absurd h
  operands_agree (suc n) = record { sound = deeper_sound n (operands_agree n); complete = deeper_complete n (operands_agree n); opens = operand_opens (IsRight (IsOperand n)) }

  -- ---- lines
  abbrev pub form_of : Inner → Form Operand → Formed Inner
  form_of s f = form_with placed (clock_named t ns) s f

  module _ (n : ℕ) (s : Inner) (ws : List Span) where
    pub form_sound : (g : Formed Inner) (us : List Span) → form_in t n ns s ws ≡ parsed g us → (f : Form Operand) × IsForm (IsOperand n) (said t ws) f × (g ≡ form_of s f) × (us ≡ [])
    form_sound g us e =
        let h : LineTaken t (IsOperand n) placed (clock_named t ns) s ws g us = (reads_forms t (IsOperand n) placed (operand t ns n) (operands_agree n) (clock_named t ns) s ws g us).0 e in
        (h.form, h.fits, h.made, h.none)

    pub form_complete : (f : Form Operand) → IsForm (IsOperand n) (said t ws) f → form_in t n ns s ws ≡ parsed (form_of s f) []
    form_complete f p = (reads_forms t (IsOperand n) placed (operand t ns n) (operands_agree n) (clock_named t ns) s ws (form_of s f) []).1 (record { none = refl; form = f; fits = p; made = refl })

    pub no_form_row : (form_in t n ns s ws ≡ no_form) ↔ ((f : Form Operand) → IsForm (IsOperand n) (said t ws) f → ⊥)
    no_form_row = no_form_fits t (IsOperand n) placed (operand t ns n) (operands_agree n) (clock_named t ns) s ws
