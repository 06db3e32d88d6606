-- The readers of `grammar` read exactly the forms, for any reader of operands that agrees with a relation of operands: what is read
-- is a form of the words, and every form is read. No law counts on an operand being one word. Assumes nothing.
use mathlib.Core.Path.{◌≡◌, refl, sym, ap, subst, ◌∙◌}
use mathlib.Core.Logic.{◌↔◌}
use mathlib.Core.Bool.{Bool, true, false, cond, ◌&&◌, and-false, true≢false, false≢true}
use mathlib.Core.List.{List, [], ◌∷◌, ◌++◌, map, append_assoc, append-nil}
use Prim.Native.Nat.{ℕ, ◌^◌, ◌≤◌, ◌<◌}
use native.Mathlib.Omega.{arith}
use borrow.Author.Tests.{lt-leb, ltb-false}
use lib.Dec.{leb, ltb}
use lib.ListN.{length, length-map}
use Rattle.constraint.specs.declared.Definition.{Definition}
use Rattle.constraint.specs.declared.Definition.TheVariants.{Union, Inter, Lub, Glb, Await as AwaitKind, StrictlySampled, Sampled, Upto, Deferred}
use Rattle.constraint.specs.declared.Kind.{Kind}
use Rattle.constraint.specs.declared.Kind.TheVariants.{Empty, Relates, Defines}
use Rattle.constraint.specs.declared.Relation.{Relation}
use Rattle.constraint.specs.declared.Relation.TheVariants.{Coincides, Excludes, SubClock, StrictlyPrecedes, Precedes}
use Rattle.constraint.proofs.Booleans.{and_l, and_r}
use Rattle.text.specs.Ascii.{ascii}
use Rattle.text.specs.Bytes.{same_bytes}
use Rattle.std.specs.Prelude.{Ok, Err}
use Rattle.text.specs.Digits.{value, over_at, read_decimal}
use Rattle.text.specs.Split.{bytes_of, front, rest}
use Rattle.text.specs.declared.Spoilt.TheVariants.{TooLarge}
use Rattle.text.specs.declared.Span.{Span}
use Rattle.grammar.specs.Building.{defining}
use Rattle.grammar.specs.Grammar.{Parsed, no_form, parsed, only_if, Placed, Formed, Operands, token, kind_at, is_kind, up_to, number_up_to, await_number, sides, delay_numbers, past_digits, all_delays, listed, is_deferred, is_delay, tail, second, pair, await_side, expression, is_side, at_end, closed, line_form}
use Rattle.grammar.specs.Tokens.{is, token_of, look_up}
use Rattle.grammar.specs.declared.Token.TheVariants.{Name, Digits, ClockDef, Await, For}
use Rattle.grammar.proofs.GrammarLaws.{Each, each_only, each_then, end_token, tail_none, tail_list, await_some, pair_some, line_defines, line_relates, closed_some}
use Rattle.grammar.proofs.KindLaws.{not_await, kind_plain}
use Rattle.grammar.proofs.ListLaws.{run_first, run_past, run_none, none_past}
use Rattle.grammar.proofs.TokenLaws.{told_apart}
use Rattle.forms.specs.Forms.{Word, Words, is_name, is_digits, all_digits, Right, both, awaits, delays, Form, relates, defines, IsRight, union, inter, lub, glb, await, strictly_sampled, sampled, upto, deferred, IsForm, coincides, excludes, sub_clock, strictly_precedes, precedes, clock_def}
use Rattle.forms.proofs.FormShapes.{NoRun}
use Rattle.forms.proofs.Said.{said, none_left, First, first_is, first_told, some_first, kind_words_lem, KindIs, kind_is, no_clock_def}
use Rattle.forms.proofs.WordLaws.{kind_words, clock_def_word, await_word, for_word, digits_is, name_is}

-- ---- a number is the value of its digits, however many; 0 stands for one above the most that there may be
abbrev pub cut_above : (most : ℕ) → ℕ → ℕ
cut_above most n = cond (leb n most) n 0

pub run_value : (most : ℕ) → most < 2 ^ 64 → (ds : Word) → is_digits ds ≡ true → number_up_to most ds ≡ cut_above most (value 0 ds)
unfolding is_digits read_decimal
run_value most m [] e = absurd (false≢true e)
run_value most m (d ∷ ds) e = rw e (go (ltb (value 0 (d ∷ ds)) (2 ^ 64)) refl)
  where
    go : (x : Bool) → ltb (value 0 (d ∷ ds)) (2 ^ 64) ≡ x → up_to most (cond x (Ok (value 0 (d ∷ ds))) (Err (TooLarge (over_at 0 0 (d ∷ ds))))) ≡ cut_above most (value 0 (d ∷ ds))
    go true q = refl
    go false q =
        let h : 2 ^ 64 ≤ value 0 (d ∷ ds) = ltb-false (value 0 (d ∷ ds)) (2 ^ 64) q in
        let k : leb (value 0 (d ∷ ds)) most ≡ false = lt-leb (value 0 (d ∷ ds)) most (omega arith) in
        rw k

-- that of an await
abbrev pub parameter_of : ℕ → ℕ
parameter_of n = cut_above 1_000_000 n

pub await_value : (ds : Word) → is_digits ds ≡ true → await_number ds ≡ parameter_of (value 0 ds)
await_value = run_value 1_000_000 (omega arith)

-- of a list those above 32 are cut, and it is out of range with them and without
cut_fits : (n : ℕ) → (leb 1 (cut_above 32 n) && leb (cut_above 32 n) 32) ≡ (leb 1 n && leb n 32)
cut_fits n = go (leb n 32) refl
  where
    go : (x : Bool) → leb n 32 ≡ x → (leb 1 (cond x n 0) && leb (cond x n 0) 32) ≡ (leb 1 n && x)
    go true q = rw q
    go false q = sym (and-false (leb 1 n))

cut_delays : (ns : List ℕ) → all_delays (map (cut_above 32) ns) ≡ all_delays ns
cut_delays [] = refl
cut_delays (n ∷ ns) = rw (cut_fits n, cut_delays ns)

cut_none : (ns : List ℕ) → all_delays ns ≡ true → map (cut_above 32) ns ≡ ns
cut_none [] a = refl
cut_none (n ∷ ns) a =
    let h : leb n 32 ≡ true = and_r (leb 1 n) (leb n 32) (and_l (leb 1 n && leb n 32) (all_delays ns) a) in
    rw (h, cut_none ns (and_r (leb 1 n && leb n 32) (all_delays ns) a))

pub listed_cut : (ns : List ℕ) → listed (map (cut_above 32) ns) ≡ listed ns
listed_cut ns = rw (length-map ns (cut_above 32), cut_delays ns) (go (leb 1 (length ns) && leb (length ns) 8) (all_delays ns) refl)
  where
    go : (x y : Bool) → all_delays ns ≡ y → cond (x && y) (map (cut_above 32) ns) [] ≡ cond (x && y) ns []
    go true true q = cut_none ns q
    go true false q = refl
    go false y q = refl

-- ---- rows by their kind
module _ {O : Type 0} (IsOp : Words → O → Type 0) {a c : Words} {x y : O} (p : IsOp a x) (q : IsOp c y) where
  pub relation_row : (k : Relation) → IsForm IsOp (a ++ (kind_words (Relates k) ++ c)) (relates k x y)
  relation_row Coincides = coincides p q
  relation_row Excludes = excludes p q
  relation_row SubClock = sub_clock p q
  relation_row StrictlyPrecedes = strictly_precedes p q
  relation_row Precedes = precedes p q

  pub right_row : (k : Definition) → not_await (Defines k) ≡ true → is_deferred k ≡ false → IsRight IsOp (a ++ (kind_words (Defines k) ++ c)) (both k x y)
  unfolding not_await
  right_row Union n d = union p q
  right_row Inter n d = inter p q
  right_row Lub n d = lub p q
  right_row Glb n d = glb p q
  right_row (AwaitKind m) n d = absurd (false≢true n)
  right_row StrictlySampled n d = strictly_sampled p q
  right_row Sampled n d = sampled p q
  right_row Upto n d = upto p q
  right_row (Deferred ms) n d = absurd (true≢false d)

-- a kind that words say and that is a delay is that one, without a list
delay_kind : (k : Kind) → not_await k ≡ true → is_delay k ≡ true → k ≡ Defines (Deferred [])
unfolding not_await
delay_kind Empty n d = absurd (false≢true d)
delay_kind (Relates k) n d = absurd (false≢true d)
delay_kind (Defines Union) n d = absurd (false≢true d)
delay_kind (Defines Inter) n d = absurd (false≢true d)
delay_kind (Defines Lub) n d = absurd (false≢true d)
delay_kind (Defines Glb) n d = absurd (false≢true d)
delay_kind (Defines (AwaitKind m)) n d = absurd (false≢true d)
delay_kind (Defines StrictlySampled) n d = absurd (false≢true d)
delay_kind (Defines Sampled) n d = absurd (false≢true d)
delay_kind (Defines Upto) n d = absurd (false≢true d)
delay_kind (Defines (Deferred [])) n d = refl
delay_kind (Defines (Deferred (m ∷ ms))) n d = absurd (false≢true n)

-- ---- what forms come to: placed operand by operand
abbrev pub of_clock : {S : Type 0} → ℕ → Formed S → Formed S
of_clock c f = record { left = f.left; constraint = defining c f.constraint }

module _ {S O : Type 0} (placed : S → O → Placed S) where
  abbrev pub pair_of : S → Kind → O → O → Formed S
  pair_of s k x y = record { left = (placed (placed s x).left y).left; constraint = sides k (placed s x).clock (placed (placed s x).left y).clock }

  abbrev pub right_of : S → Right O → Formed S
  right_of s (both k x y) = pair_of s (Defines k) x y
  right_of s (awaits n x) = record { left = (placed s x).left; constraint = sides (Defines (AwaitKind (parameter_of n))) (placed s x).clock 0 }
  right_of s (delays ns x y) = pair_of s (Defines (Deferred (listed ns))) x y

  -- the clock of a name by its bytes
  abbrev pub form_with : (Word → ℕ) → S → Form O → Formed S
  form_with named s (relates k x y) = of_clock 0 (pair_of s (Relates k) x y)
  form_with named s (defines c r) = of_clock (named c) (right_of s r)

-- ---- the list of a delay: its digit runs, as they are read
pub record Runs (t : List ℕ) (ws : List Span) : Type 0 where
  pub words : Words
  pub digits : all_digits words ≡ true
  pub split : said t ws ≡ words ++ said t (past_digits t ws)
  pub numbers : delay_numbers t ws ≡ map (cut_above 32) (map (value 0) words)

pub runs_sound : (t : List ℕ) (ws : List Span) → Runs t ws
unfolding delay_numbers past_digits
runs_sound t [] = record { words = []; digits = refl; split = refl; numbers = refl }
runs_sound t (w ∷ ws) = go (is Digits (token_of (bytes_of t w))) refl (runs_sound t ws)
  where
    go : (x : Bool) → is Digits (token_of (bytes_of t w)) ≡ x → Runs t ws → Runs t (w ∷ ws)
    go true e h =
        let d : is_digits (bytes_of t w) ≡ true = sym (digits_is (bytes_of t w)) ∙ e in
        record {
          words = bytes_of t w ∷ h.words;
          digits = rw (d, h.digits);
          split = rw e (ap (λ (us : Words). bytes_of t w ∷ us) h.split);
          numbers = rw e (λ i. run_value 32 (omega arith) (bytes_of t w) d i ∷ h.numbers i);
        }
    go false e h = record { words = []; digits = refl; split = rw e; numbers = rw e }

pub runs_complete : (t : List ℕ) (ns us : Words) → all_digits ns ≡ true → NoRun us → (ws : List Span) → said t ws ≡ ns ++ us → (delay_numbers t ws ≡ map (cut_above 32) (map (value 0) ns)) × (said t (past_digits t ws) ≡ us)
runs_complete t [] us d f ws e = (run_none t ws (no_run us f e), ap (said t) (none_past t ws (no_run us f e)) ∙ e)
  where
    no_run : (us : Words) → NoRun us → said t ws ≡ us → is Digits (token t ws) ≡ false
    no_run [] f e = ap (λ (vs : List Span). is Digits (token t vs)) (none_left t ws e) ∙ ap (is Digits) (end_token t)
    no_run (u ∷ us) f e = first_told t Bool (is Digits) false ws u us e (digits_is u ∙ f)
runs_complete t (n ∷ ns) us d f ws e =
    let g : First t ws n (ns ++ us) = first_is t ws n (ns ++ us) e in
    let i : is_digits n ≡ true = and_l (is_digits n) (all_digits ns) d in
    let k : is Digits (token t ws) ≡ true = first_told t Bool (is Digits) true ws n (ns ++ us) e (digits_is n ∙ i) in
    let h = runs_complete t ns us (and_r (is_digits n) (all_digits ns) d) f (rest ws) g.after in
    let v : number_up_to 32 (bytes_of t (front t ws)) ≡ cut_above 32 (value 0 n) = ap (number_up_to 32) g.bytes ∙ run_value 32 (omega arith) n i in
    (run_first t ws k ∙ (λ j. v j ∷ h.0 j), ap (said t) (run_past t ws k) ∙ h.1)

-- ---- readers of operands
-- what an operand may open with: it is one name, or its first word is neither a name nor `await`
pub data Opens : Words → Type 0 where
  by_name_lem : {n : Word} → is_name n ≡ true → Opens (n ∷ [])
  by_other : {u : Word} {us : Words} → is Name (token_of u) ≡ false → is Await (token_of u) ≡ false → Opens (u ∷ us)

-- a reading gives v, and leaves spans that stand for us
pub record Took {A : Type 0} (t : List ℕ) (p : Parsed A) (v : A) (us : Words) : Type 0 where
  pub left : List Span
  pub words : said t left ≡ us
  pub took : p ≡ parsed v left

module _ (t : List ℕ) {S O : Type 0} (IsOp : Words → O → Type 0) (placed : S → O → Placed S) where
  -- the words in front are an operand, and what was read is that operand, placed
  pub record OperandTaken (s : S) (ws : List Span) (p : Placed S) (us : List Span) : Type 0 where
    pub words : Words
    pub it : O
    pub split : said t ws ≡ words ++ said t us
    pub fits : IsOp words it
    pub made : p ≡ placed s it

  pub record Agrees (operands : Operands S) : Type 0 where
    pub sound : (s : S) (ws : List Span) → Each (OperandTaken s ws) (operands s ws)
    pub complete : (s : S) (ws : List Span) (a : Words) (x : O) (us : Words) → IsOp a x → said t ws ≡ a ++ us → Took t (operands s ws) (placed s x) us
    pub opens : (a : Words) (x : O) → IsOp a x → Opens a

  -- ---- what was read: two operands and a kind that is neither an await nor a delay, a delay, or an await
  pub data SideTaken (s : S) (ws us : List Span) : Formed S → Type 0 where
    of_pair : {a c : Words} {x y : O} {k : Kind} → not_await k ≡ true → is_delay k ≡ false → IsOp a x → IsOp c y → said t ws ≡ a ++ (kind_words k ++ (c ++ said t us))
        → SideTaken s ws us (pair_of placed s k x y)
    of_delay : {a c : Words} (ns : Words) {x y : O} → IsOp a x → IsOp c y → all_digits ns ≡ true → said t ws ≡ a ++ ascii "deferred" ∷ (c ++ ascii "for" ∷ (ns ++ said t us))
        → SideTaken s ws us (right_of placed s (delays (map (value 0) ns) x y))
    of_await : {n : Word} {a : Words} {x : O} → is_digits n ≡ true → IsOp a x → said t ws ≡ ascii "await" ∷ n ∷ (a ++ said t us) → SideTaken s ws us (right_of placed s (awaits (value 0 n) x))

  -- the words in front are a right side, and what was read is that right side, placed
  pub record RightTaken (s : S) (ws us : List Span) (f : Formed S) : Type 0 where
    pub words : Words
    pub it : Right O
    pub split : said t ws ≡ words ++ said t us
    pub fits : IsRight IsOp words it
    pub made : f ≡ right_of placed s it

  -- a side that was read is a right side where it defines a clock
  both_taken : (s : S) (ws us : List Span) (a c : Words) (x y : O) (k : Kind) → not_await k ≡ true → is_delay k ≡ false → IsOp a x → IsOp c y → is_side true k ≡ true → said t ws ≡ a ++ (kind_words k ++ (c ++ said t us))
      → RightTaken s ws us (pair_of placed s k x y)
  both_taken s ws us a c x y Empty m d p q i e = absurd (false≢true i)
  both_taken s ws us a c x y (Relates k) m d p q i e = absurd (false≢true i)
  both_taken s ws us a c x y (Defines k) m d p q i e = record {
    words = a ++ (kind_words (Defines k) ++ c);
    it = both k x y;
    split = e ∙ ap (λ (z : Words). a ++ z) (sym (append_assoc (kind_words (Defines k)) c (said t us))) ∙ sym (append_assoc a (kind_words (Defines k) ++ c) (said t us));
    fits = right_row IsOp p q k m d;
    made = refl;
  }

  pub right_taken : (s : S) (ws us : List Span) (f : Formed S) → SideTaken s ws us f → is_side true f.constraint.kind ≡ true → RightTaken s ws us f
  right_taken s ws us f (of_pair {a = a} {c = c} {x = x} {y = y} {k = k} m d p q e) i = both_taken s ws us a c x y k m d p q i e
  right_taken s ws us f (of_delay {a = a} {c = c} ns {x = x} {y = y} p q d e) i = record {
    words = a ++ ascii "deferred" ∷ (c ++ ascii "for" ∷ ns);
    it = delays (map (value 0) ns) x y;
    split =
        e ∙ ap (λ (z : Words). a ++ ascii "deferred" ∷ z) (sym (append_assoc c (ascii "for" ∷ ns) (said t us)))
        ∙ sym (append_assoc a (ascii "deferred" ∷ (c ++ ascii "for" ∷ ns)) (said t us));
    fits = deferred ns p q d;
    made = refl;
  }
  right_taken s ws us f (of_await {n = n} {a = a} {x = x} d p e) i = record { words = ascii "await" ∷ n ∷ a; it = awaits (value 0 n) x; split = e; fits = await d p; made = refl }

  -- what stands behind two operands
  data TailTaken (k : Kind) (ws : List Span) : List Span → Kind → Type 0 where
    nothing : is_delay k ≡ false → TailTaken k ws ws k
    a_list : {us : List Span} (ns : Words) → k ≡ Defines (Deferred []) → all_digits ns ≡ true → said t ws ≡ ascii "for" ∷ (ns ++ said t us) → TailTaken k ws us (Defines (Deferred (listed (map (value 0) ns))))

  tail_sound : (k : Kind) (ws : List Span) → not_await k ≡ true → Each (λ n us. TailTaken k ws us n) (tail t k ws)
  unfolding tail
  tail_sound k ws m = go (is_delay k) refl
    where
      go : (x : Bool) → is_delay k ≡ x → Each (λ n us. TailTaken k ws us n) (cond x (only_if (is For (token t ws)) (parsed (Defines (Deferred (listed (delay_numbers t (rest ws))))) (past_digits t (rest ws)))) (parsed k ws))
      go true d = each_only (λ n us. TailTaken k ws us n) (is For (token t ws)) _ (λ f.
          let r : Runs t (rest ws) = runs_sound t (rest ws) in
          rw (r.numbers, listed_cut (map (value 0) r.words)) (a_list r.words (delay_kind k m d) r.digits
          (some_first t (is For) refl ws f ∙ (λ i. for_word (bytes_of t (front t ws)) f i ∷ r.split i))))
      go false d = nothing d

  pair_taken : (s : S) (ws vs : List Span) (k : Kind) (a c : Words) (x y : O) → not_await k ≡ true → IsOp a x → IsOp c y → said t ws ≡ a ++ (kind_words k ++ (c ++ said t vs))
      → (us : List Span) (j : Kind) → TailTaken k vs us j → SideTaken s ws us (pair_of placed s j x y)
  pair_taken s ws vs k a c x y m p q e us n (nothing d) = of_pair m d p q e
  pair_taken s ws vs k a c x y m p q e us n (a_list ns f d g) = (of_delay ns p q d ((rw f at e) ∙ ap (λ (z : Words). a ++ ascii "deferred" ∷ (c ++ z)) g))

  pub record LineTaken (named : Word → ℕ) (s : S) (ws : List Span) (g : Formed S) (us : List Span) : Type 0 where
    pub none : us ≡ []
    pub form : Form O
    pub fits : IsForm IsOp (said t ws) form
    pub made : g ≡ form_with placed named s form

  module _ (operands : Operands S) (A : Agrees operands) where
    -- ---- sound
    pair_sound : (s : S) (ws : List Span) → Each (λ f us. SideTaken s ws us f) (pair t operands s ws)
    unfolding pair second
    pair_sound s ws =
        each_then (OperandTaken s ws) (λ f us. SideTaken s ws us f) (operands s ws) _ (A.sound s ws) (λ a us h.
        each_only (λ f us. SideTaken s ws us f) (is_kind (kind_at t us).kind) _ (λ e.
        each_then (OperandTaken a.left (kind_at t us).after) (λ f us. SideTaken s ws us f) (operands a.left (kind_at t us).after) _ (A.sound a.left (kind_at t us).after) (λ c vs g.
        each_then (λ n xs. TailTaken (kind_at t us).kind vs xs n) (λ f us. SideTaken s ws us f) (tail t (kind_at t us).kind vs) _ (tail_sound (kind_at t us).kind vs (kind_plain t us)) (λ n xs k.
        rw (g.made, h.made) (pair_taken s ws vs (kind_at t us).kind h.words g.words h.it g.it (kind_plain t us) h.fits g.fits
        (h.split ∙ ap (λ (z : Words). h.words ++ z) (kind_words_lem t us e ∙ ap (λ (z : Words). kind_words (kind_at t us).kind ++ z) g.split)) xs n k)))))

    await_sound : (s : S) (ws : List Span) → is Await (token t ws) ≡ true → Each (λ f us. SideTaken s ws us f) (await_side t operands s (rest ws))
    unfolding await_side
    await_sound s ws w =
        each_only (λ f us. SideTaken s ws us f) (is Digits (token t (rest ws))) _ (λ d.
        each_then (OperandTaken s (rest (rest ws))) (λ f us. SideTaken s ws us f) (operands s (rest (rest ws))) _ (A.sound s (rest (rest ws))) (λ a us h.
        let n : Word = bytes_of t (front t (rest ws)) in
        let ds : is_digits n ≡ true = sym (digits_is n) ∙ d in
        rw (await_value n ds, h.made) (of_await ds h.fits
        (some_first t (is Await) refl ws w
        ∙ (λ i. await_word (bytes_of t (front t ws)) w i ∷ some_first t (is Digits) refl (rest ws) d i)
        ∙ ap (λ (z : Words). ascii "await" ∷ n ∷ z) h.split))))

    pub expression_sound : (s : S) (ws : List Span) → Each (λ f us. SideTaken s ws us f) (expression t operands s ws)
    unfolding expression
    expression_sound s ws = go (is Await (token t ws)) refl
      where
        go : (x : Bool) → is Await (token t ws) ≡ x → Each (λ f us. SideTaken s ws us f) (cond x (await_side t operands s (rest ws)) (pair t operands s ws))
        go true w = await_sound s ws w
        go false w = pair_sound s ws

    module _ (named : Word → ℕ) (s : S) (ws : List Span) where
      relation_made : (a c : Words) (x y : O) (k : Kind) → IsOp a x → IsOp c y → is_side false k ≡ true → said t ws ≡ a ++ (kind_words k ++ (c ++ [])) → LineTaken named s ws (of_clock 0 (pair_of placed s k x y)) []
      relation_made a c x y Empty p q i e = absurd (false≢true i)
      relation_made a c x y (Defines k) p q i e = absurd (false≢true i)
      relation_made a c x y (Relates k) p q i e =
          let w : said t ws ≡ a ++ (kind_words (Relates k) ++ c) = e ∙ ap (λ (z : Words). a ++ (kind_words (Relates k) ++ z)) (append-nil c) in
          record { none = refl; form = relates k x y; fits = rw w (relation_row IsOp p q k); made = refl }

      relation_end : (f : Formed S) (us : List Span) → SideTaken s ws us f → Each (LineTaken named s ws) (at_end false 0 f us)
      unfolding at_end only_if
      relation_end f (u ∷ us) h = tt
      relation_end f [] (of_pair {a = a} {c = c} {x = x} {y = y} {k = k} n d p q e) = each_only (LineTaken named s ws) (is_side false k) _ (λ i. relation_made a c x y k p q i e)
      relation_end f [] (of_delay ns p q d e) = tt
      relation_end f [] (of_await d p e) = tt

      module _ (c : Word) (vs : List Span) (n : is_name c ≡ true) (e : said t ws ≡ c ∷ ascii "clockDef" ∷ said t vs) where
        definition_made : (f : Formed S) → RightTaken s vs [] f → LineTaken named s ws (of_clock (named c) f) []
        definition_made f h =
            let w : said t ws ≡ c ∷ ascii "clockDef" ∷ h.words = e ∙ ap (λ (z : Words). c ∷ ascii "clockDef" ∷ z) (h.split ∙ append-nil h.words) in
            record { none = refl; form = defines c h.it; fits = rw w (clock_def n h.fits); made = ap (of_clock (named c)) h.made }

        definition_end : (f : Formed S) (us : List Span) → SideTaken s vs us f → Each (LineTaken named s ws) (at_end true (named c) f us)
        unfolding at_end only_if
        definition_end f (u ∷ us) h = tt
        definition_end f [] h = each_only (LineTaken named s ws) (is_side true f.constraint.kind) _ (λ i. definition_made f (right_taken s vs [] f h i))

      -- whatever the reader of lines reads is a form, and all of the line
      line_sound : Each (LineTaken named s ws) (line_form t (λ w. named (bytes_of t w)) operands s ws)
      unfolding line_form
      line_sound = go (is Name (token t ws)) (is ClockDef (token t (rest ws))) refl refl
        where
          relation : Each (LineTaken named s ws) (closed false 0 (expression t operands s ws))
          relation = each_then (λ f us. SideTaken s ws us f) (LineTaken named s ws) (expression t operands s ws) (at_end false 0) (expression_sound s ws) relation_end

          definition : (c : Word) (vs : List Span) → is_name c ≡ true → said t ws ≡ c ∷ ascii "clockDef" ∷ said t vs → Each (LineTaken named s ws) (closed true (named c) (expression t operands s vs))
          definition c vs n e = each_then (λ f us. SideTaken s vs us f) (LineTaken named s ws) (expression t operands s vs) (at_end true (named c)) (expression_sound s vs) (definition_end c vs n e)

          go : (x y : Bool) → is Name (token t ws) ≡ x → is ClockDef (token t (rest ws)) ≡ y
              → Each (LineTaken named s ws) (cond (x && y) (closed true (named (bytes_of t (front t ws))) (expression t operands s (rest (rest ws)))) (closed false 0 (expression t operands s ws)))
          go true true p q =
              let c : Word = bytes_of t (front t ws) in
              let d : bytes_of t (front t (rest ws)) ≡ ascii "clockDef" = clock_def_word (bytes_of t (front t (rest ws))) q in
              definition c (rest (rest ws)) (sym (name_is c) ∙ p)
              (some_first t (is Name) refl ws p ∙ ap (λ (z : Words). c ∷ z) (some_first t (is ClockDef) refl (rest ws) q ∙ ap (λ (u : Word). u ∷ said t (rest (rest ws))) d))
          go true false p q = relation
          go false y p q = relation

    -- ---- complete: a side is read with whatever words stand behind it
    module _ (s : S) (ws : List Span) where
      no_await : (a us : Words) → Opens a → said t ws ≡ a ++ us → is Await (token t ws) ≡ false
      no_await a us (by_name_lem {n = n} h) e = first_told t Bool (is Await) false ws n us e (told_apart Name Await (token_of n) (name_is n ∙ h))
      no_await a us (by_other {u = u} {us = vs} h k) e = first_told t Bool (is Await) false ws u (vs ++ us) e k

      pair_complete : (k : Kind) (a c : Words) (x y : O) (vs us : Words) (n : Kind) → is_kind k ≡ true → not_await k ≡ true → IsOp a x → IsOp c y
          → said t ws ≡ a ++ (kind_words k ++ (c ++ vs)) → ((xs : List Span) → said t xs ≡ vs → Took t (tail t k xs) n us) → Took t (expression t operands s ws) (pair_of placed s n x y) us
      pair_complete k a c x y vs us n i m p q e behind =
          let f : Took t (operands s ws) (placed s x) (kind_words k ++ (c ++ vs)) = A.complete s ws a x (kind_words k ++ (c ++ vs)) p e in
          let g : KindIs t f.left k (c ++ vs) = kind_is t f.left k (c ++ vs) i m f.words in
          let h : Took t (operands (placed s x).left (kind_at t f.left).after) (placed (placed s x).left y) vs =
          A.complete (placed s x).left (kind_at t f.left).after c y vs q g.after in
          let j : Took t (tail t k h.left) n us = behind h.left h.words in
          let w : is Await (token t ws) ≡ false = no_await a (kind_words k ++ (c ++ vs)) (A.opens a x p) e in
          record {
            left = j.left;
            words = j.words;
            took =
                pair_some t operands s ws w (placed s x) f.left f.took (kind_at t f.left) refl (ap is_kind g.kind ∙ i) (placed (placed s x).left y) h.left h.took n j.left (ap (λ (z : Kind). tail t z h.left) g.kind ∙ j.took);
          }

      plain_complete : (k : Kind) (a c : Words) (x y : O) (us : Words) → is_kind k ≡ true → not_await k ≡ true → is_delay k ≡ false → IsOp a x → IsOp c y
          → said t ws ≡ a ++ (kind_words k ++ (c ++ us)) → Took t (expression t operands s ws) (pair_of placed s k x y) us
      plain_complete k a c x y us i m d p q e = pair_complete k a c x y us us k i m p q e (λ xs f. record { left = xs; words = f; took = tail_none t k xs d })

      delay_complete : (ns a c : Words) (x y : O) (us : Words) → IsOp a x → IsOp c y → all_digits ns ≡ true → NoRun us → said t ws ≡ (a ++ ascii "deferred" ∷ (c ++ ascii "for" ∷ ns)) ++ us
          → Took t (expression t operands s ws) (right_of placed s (delays (map (value 0) ns) x y)) us
      unfolding not_await look_up same_bytes
      delay_complete ns a c x y us p q d f e =
          pair_complete (Defines (Deferred [])) a c x y (ascii "for" ∷ (ns ++ us)) us (Defines (Deferred (listed (map (value 0) ns)))) refl refl p q
          (e ∙ append_assoc a (ascii "deferred" ∷ (c ++ ascii "for" ∷ ns)) us ∙ ap (λ (z : Words). a ++ ascii "deferred" ∷ z) (append_assoc c (ascii "for" ∷ ns) us)) (λ xs g.
          let h : First t xs (ascii "for") (ns ++ us) = first_is t xs (ascii "for") (ns ++ us) g in
          let r = runs_complete t ns us d f (rest xs) h.after in
          record {
            left = past_digits t (rest xs);
            words = r.1;
            took =
                tail_list t (Defines (Deferred [])) xs refl (first_told t Bool (is For) true xs (ascii "for") (ns ++ us) g refl)
                ∙ ap (λ (m : List ℕ). parsed (Defines (Deferred m)) (past_digits t (rest xs))) (ap listed r.0 ∙ listed_cut (map (value 0) ns));
          })

      await_complete : (n : Word) (a : Words) (x : O) (us : Words) → is_digits n ≡ true → IsOp a x → said t ws ≡ ascii "await" ∷ n ∷ (a ++ us)
          → Took t (expression t operands s ws) (right_of placed s (awaits (value 0 n) x)) us
      unfolding look_up same_bytes
      await_complete n a x us d p e =
          let f : First t ws (ascii "await") (n ∷ (a ++ us)) = first_is t ws (ascii "await") (n ∷ (a ++ us)) e in
          let g : First t (rest ws) n (a ++ us) = first_is t (rest ws) n (a ++ us) f.after in
          let h : Took t (operands s (rest (rest ws))) (placed s x) us = A.complete s (rest (rest ws)) a x us p g.after in
          let w : is Await (token t ws) ≡ true = first_told t Bool (is Await) true ws (ascii "await") (n ∷ (a ++ us)) e refl in
          let k : is Digits (token t (rest ws)) ≡ true = first_told t Bool (is Digits) true (rest ws) n (a ++ us) f.after (digits_is n ∙ d) in
          record {
            left = h.left;
            words = h.words;
            took =
                await_some t operands s ws w k (placed s x) h.left h.took
                ∙ ap (λ (z : ℕ). parsed (record { left = (placed s x).left; constraint = sides (Defines (AwaitKind z)) (placed s x).clock 0 }) h.left) (ap await_number g.bytes ∙ await_value n d);
          }

      both_complete : (k : Definition) (a c : Words) (x y : O) (us : Words) → not_await (Defines k) ≡ true → is_deferred k ≡ false → IsOp a x → IsOp c y → said t ws ≡ (a ++ (kind_words (Defines k) ++ c)) ++ us
          → Took t (expression t operands s ws) (right_of placed s (both k x y)) us
      both_complete k a c x y us n d p q e =
          plain_complete (Defines k) a c x y us refl n d p q
          (e ∙ append_assoc a (kind_words (Defines k) ++ c) us ∙ ap (λ (z : Words). a ++ z) (append_assoc (kind_words (Defines k)) c us))

      pub right_complete : (rs us : Words) (r : Right O) → IsRight IsOp rs r → NoRun us → said t ws ≡ rs ++ us → Took t (expression t operands s ws) (right_of placed s r) us
      unfolding not_await
      right_complete rs us r (union {a = a} {b = c} {x = x} {y = y} p q) f e = both_complete Union a c x y us refl refl p q e
      right_complete rs us r (inter {a = a} {b = c} {x = x} {y = y} p q) f e = both_complete Inter a c x y us refl refl p q e
      right_complete rs us r (lub {a = a} {b = c} {x = x} {y = y} p q) f e = both_complete Lub a c x y us refl refl p q e
      right_complete rs us r (glb {a = a} {b = c} {x = x} {y = y} p q) f e = both_complete Glb a c x y us refl refl p q e
      right_complete rs us r (await {n = n} {a = a} {x = x} d p) f e = await_complete n a x us d p e
      right_complete rs us r (strictly_sampled {a = a} {b = c} {x = x} {y = y} p q) f e = both_complete StrictlySampled a c x y us refl refl p q e
      right_complete rs us r (sampled {a = a} {b = c} {x = x} {y = y} p q) f e = both_complete Sampled a c x y us refl refl p q e
      right_complete rs us r (upto {a = a} {b = c} {x = x} {y = y} p q) f e = both_complete Upto a c x y us refl refl p q e
      right_complete rs us r (deferred {a = a} {b = c} ns {x = x} {y = y} p q d) f e = delay_complete ns a c x y us p q d f e

    pub right_side : (s : S) (r : Right O) → is_side true (right_of placed s r).constraint.kind ≡ true
    right_side s (both k x y) = refl
    right_side s (awaits n x) = refl
    right_side s (delays ns x y) = refl

    -- a side behind which no word stands is all of a line
    closed_by : (d : Bool) (c : ℕ) (p : Parsed (Formed S)) (f : Formed S) → is_side d f.constraint.kind ≡ true → Took t p f [] → closed d c p ≡ parsed (of_clock c f) []
    closed_by d c p f i h = closed_some d c p f (h.took ∙ ap (λ (us : List Span). parsed f us) (none_left t h.left h.words)) i

    module _ (named : Word → ℕ) (s : S) (ws : List Span) where
      abbrev line : Parsed (Formed S)
      line = line_form t (λ w. named (bytes_of t w)) operands s ws

      no_definition : (k : Relation) (a c : Words) → Opens a → said t ws ≡ a ++ (kind_words (Relates k) ++ c) → (is Name (token t ws) && is ClockDef (token t (rest ws))) ≡ false
      no_definition k a c (by_name_lem {n = n} h) e = cut (is Name (token t ws)) (is ClockDef (token t (rest ws))) (no_clock_def t k (rest ws) c (first_is t ws n (kind_words (Relates k) ++ c) e).after)
        where
          cut : (x y : Bool) → y ≡ false → (x && y) ≡ false
          cut true y p = p
          cut false y p = refl
      no_definition k a c (by_other {u = u} {us = vs} h m) e =
          let f : is Name (token t ws) ≡ false = first_told t Bool (is Name) false ws u (vs ++ (kind_words (Relates k) ++ c)) e h in
          rw f

      relation_complete : (k : Relation) (a c : Words) (x y : O) → IsOp a x → IsOp c y → said t ws ≡ a ++ (kind_words (Relates k) ++ c) → line ≡ parsed (form_with placed named s (relates k x y)) []
      unfolding not_await
      relation_complete k a c x y p q e =
          line_relates t operands s ws (λ w. named (bytes_of t w)) (no_definition k a c (A.opens a x p) e)
          ∙ closed_by false 0 (expression t operands s ws) (pair_of placed s (Relates k) x y) refl
          (plain_complete s ws (Relates k) a c x y [] refl refl refl p q (e ∙ ap (λ (z : Words). a ++ (kind_words (Relates k) ++ z)) (sym (append-nil c))))

      definition_complete : (c : Word) (rs : Words) (r : Right O) → is_name c ≡ true → IsRight IsOp rs r → said t ws ≡ c ∷ ascii "clockDef" ∷ rs → line ≡ parsed (form_with placed named s (defines c r)) []
      unfolding look_up same_bytes
      definition_complete c rs r n p e =
          let f : First t ws c (ascii "clockDef" ∷ rs) = first_is t ws c (ascii "clockDef" ∷ rs) e in
          let g : First t (rest ws) (ascii "clockDef") rs = first_is t (rest ws) (ascii "clockDef") rs f.after in
          let i : is Name (token t ws) ≡ true = first_told t Bool (is Name) true ws c (ascii "clockDef" ∷ rs) e (name_is c ∙ n) in
          let j : is ClockDef (token t (rest ws)) ≡ true = first_told t Bool (is ClockDef) true (rest ws) (ascii "clockDef") rs f.after refl in
          line_defines t operands s ws (λ w. named (bytes_of t w)) (rw (i, j))
          ∙ closed_by true (named (bytes_of t (front t ws))) (expression t operands s (rest (rest ws))) (right_of placed s r) (right_side s r)
          (right_complete s (rest (rest ws)) rs [] r p tt (g.after ∙ sym (append-nil rs)))
          ∙ ap (λ (u : Word). parsed (of_clock (named u) (right_of placed s r)) []) f.bytes

      -- every form is read, as what it comes to
      line_complete : (us : Words) (f : Form O) → IsForm IsOp us f → said t ws ≡ us → line ≡ parsed (form_with placed named s f) []
      line_complete us f (coincides {a = a} {b = c} {x = x} {y = y} p q) e = relation_complete Coincides a c x y p q e
      line_complete us f (excludes {a = a} {b = c} {x = x} {y = y} p q) e = relation_complete Excludes a c x y p q e
      line_complete us f (sub_clock {a = a} {b = c} {x = x} {y = y} p q) e = relation_complete SubClock a c x y p q e
      line_complete us f (strictly_precedes {a = a} {b = c} {x = x} {y = y} p q) e = relation_complete StrictlyPrecedes a c x y p q e
      line_complete us f (precedes {a = a} {b = c} {x = x} {y = y} p q) e = relation_complete Precedes a c x y p q e
      line_complete us f (clock_def {c = c} {ws = rs} {r = r} n p) e = definition_complete c rs r n p e

      -- ---- the theorem of forms
      pub reads_forms : (g : Formed S) (us : List Span) → (line ≡ parsed g us) ↔ LineTaken named s ws g us
      reads_forms g us = (
        (λ e. subst (Each (LineTaken named s ws)) e (line_sound named s ws)),
        (λ h. line_complete (said t ws) h.form h.fits refl ∙ rw (h.none, h.made)),
      )

      pub no_form_fits : (line ≡ no_form) ↔ ((f : Form O) → IsForm IsOp (said t ws) f → ⊥)
      no_form_fits = (
        (λ e f p. let q : line ≡ parsed (form_with placed named s f) [] = line_complete (said t ws) f p refl in let z : ◌≡◌ {A = ℕ} 0 1 = cc in absurd (omega arith)),
        (λ n. go line (line_sound named s ws) n),
      )
        where
          go : (p : Parsed (Formed S)) → Each (LineTaken named s ws) p → ((f : Form O) → IsForm IsOp (said t ws) f → ⊥) → p ≡ no_form
          go no_form h n = refl
          go (parsed g us) h n = absurd (n h.form h.fits)
