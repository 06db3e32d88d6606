-- A recording that may be written is read as the steps that it was written from: its bytes, its header, its body; and the example of Claim
-- may be written, so the conditions can be met. And a variable whose name the table lacks is refused. Assumes nothing.
use Rattle.std.specs.Prelude.{Option, Some, None}
use Prim.Native.Nat.{ℕ, zero, suc, ◌+◌, ◌≤◌, ◌<◌}
use mathlib.Core.Path.{◌≡◌, refl, sym, ap, ◌∙◌}
use mathlib.Core.List.{List, [], ◌∷◌, ◌++◌, append_assoc, append-nil}
use mathlib.Core.Bool.{Bool, true, false, not, ◌&&◌, or-true}
use native.Mathlib.Omega.{arith}
use borrow.Author.Tests.{le-leb, ne_eqb}
use lib.Dec.{eqb}
use lib.ListN.{length, drop, length-append}
use lib.Seq.{drop_at}
use Rattle.limit.specs.Checked.{passed, stopped}
use Rattle.limit.specs.declared.Limit.TheVariants.{VariableUnknown}
use Rattle.text.specs.Ascii.{ascii}
use Rattle.text.specs.Bytes.{parting, all_bytes, same_bytes}
use Rattle.text.specs.Digits.{digits, digits_of}
use Rattle.text.proofs.Bytes.{equal_same, differ_same, all_append, all_to}
use Rattle.text.specs.declared.Class.TheVariants.{Parting}
use Rattle.text.proofs.Decimals.{digits_are}
use Rattle.text.proofs.Runs.{words_over}
use Rattle.recording.specs.BeforeWords.{recorded}
use Rattle.recording.specs.Body.{Ending, ended, ends_with, closing, onward, body_steps, reading}
use Rattle.recording.specs.Header as recording
use Rattle.recording.specs.Header.{words, opened}
use Rattle.recording.specs.Variables.{Variable, ignored, refuses_unknown, Naming, with_id, has_clock, clock_again, all_declared}
use Rattle.recording.specs.declared.Step.{Step}
use Rattle.recording.specs.declared.UnknownNames.{UnknownNames}
use Rattle.recording.specs.declared.UnknownNames.TheVariants.{Refused, Ignored}
use Rattle.recording.proofs.BeforeWords.{before_words}
use Rattle.recording.proofs.BodyLaws.{body_done}
use Rattle.written.specs.Claim.{variables, read_steps, as_read, Each, Apart, graphic, Graphic, is_0, is_1, is_x, Declarable, Writable, WrittenIsRead, Misnamed, MisnamedIsRefused, by_name}
use Rattle.written.specs.Layout.{WrittenVariable, WrittenTick, WrittenStep, line, texts, declaration_words, declaration, definitions_end, mark, tick_at, variable_at, step, header, written, two, three}
use Rattle.written.proofs.BodyRead.{Plain, plain, Known, steps_read}
use Rattle.written.proofs.EachLaws.{each_all, each_to, each_with, each_at}
use Rattle.written.proofs.HeaderRead.{graphic_word, declarations_read, misnamed_read, end_read}
use Rattle.written.proofs.LineLaws.{left_behind}

-- ---- the bytes: each line has recorded bytes alone

abbrev Recorded : List ℕ → Type 0
Recorded w = all_bytes recorded w ≡ true

graphic_recorded : (w : List ℕ) → all_bytes graphic w ≡ true → Recorded w
graphic_recorded = all_to graphic recorded (λ b e. rw e (or-true (parting b)))

abbrev AllRecorded : List ℕ → List (List ℕ) → Type 0
AllRecorded w [] = Recorded w
AllRecorded w (x ∷ ws) = Recorded w × AllRecorded x ws

line_recorded : (ws : List (List ℕ)) (w : List ℕ) → AllRecorded w ws → Recorded (line w ws)
unfolding line all_bytes
line_recorded [] w e = all_append recorded w (10 ∷ []) e refl
line_recorded (x ∷ ws) w e = all_append recorded w (32 ∷ line x ws) e.0 (line_recorded ws x e.1)

texts_recorded : {A : Type 0} (f : A → List ℕ) (l : List A) → Each (λ a. Recorded (f a)) l → Recorded (texts f l)
unfolding texts Each all_bytes
texts_recorded f [] e = refl
texts_recorded f (a ∷ l) e = all_append recorded (f a) (texts f l) e.0 (texts_recorded f l e.1)

declaration_recorded : (v : WrittenVariable) → Graphic v.id → Graphic v.name → Recorded (declaration v)
unfolding all_bytes
declaration_recorded v i n = line_recorded (declaration_words v) (ascii "$var") (refl, (refl, (refl, (graphic_recorded v.id i.bytes, (graphic_recorded v.name n.bytes, refl)))))

end_recorded : Recorded definitions_end
unfolding all_bytes
end_recorded = line_recorded (ascii "$end" ∷ []) (ascii "$enddefinitions") (refl, refl)

mark_recorded : (t : ℕ) → Recorded (mark t)
unfolding all_bytes
mark_recorded t =
    line_recorded [] (35 ∷ digits t)
    (digits_are recorded (λ d h. rw (le-leb 33 (48 + d) (omega arith), le-leb (48 + d) 126 (omega arith)) (or-true (parting (48 + d)))) t)

tick_recorded : (vs : List WrittenVariable) (i : WrittenTick) → Plain i.value → Graphic (variable_at vs i.variable).id → Recorded (tick_at vs i)
unfolding all_bytes
tick_recorded vs i p g = line_recorded [] (i.value ∷ (variable_at vs i.variable).id) (rw p.byte (graphic_recorded (variable_at vs i.variable).id g.bytes))

-- ---- look-ups

found_at : (named : List ℕ → ℕ) (vs : List WrittenVariable) (i : ℕ) → i < length vs → Apart (λ u v. u.id ≡ v.id → ⊥) vs
    → with_id (variables named vs) (variable_at vs i).id ≡ Some (named (variable_at vs i).name)
unfolding with_id Apart
found_at named [] i h d = absurd (omega arith)
found_at named (v ∷ vs) zero h d = rw (equal_same v.id)
found_at named (v ∷ vs) (suc i) h d =
    let q : same_bytes v.id (variable_at vs i).id ≡ false = differ_same v.id (variable_at vs i).id (each_at (record { id = []; name = [] }) (λ u. v.id ≡ u.id → ⊥) vs i d.0 (omega arith)) in
    rw q (found_at named vs i (omega arith) d.1)

all_clocks : (us : List Variable) (n : ℕ) → ((k : ℕ) → k < n → has_clock us k ≡ true) → all_declared us n ≡ true
unfolding all_declared
all_clocks us zero f = refl
all_clocks us (suc n) f = rw (f n (omega arith)) (all_clocks us n (λ k h. f k (omega arith)))

none_yet : (k : ℕ) → clock_again [] k ≡ false
unfolding has_clock
none_yet k = go (eqb k 32)
  where
    go : (t : Bool) → (not t && false) ≡ false
    go true = refl
    go false = refl

-- 38 lets the names pass: all are the table's, or the others are ignored
all_known_lem : (named : List ℕ → ℕ) (vs : List WrittenVariable) (u : UnknownNames) → (u ≡ Refused → Each (λ v. named v.name ≡ ignored → ⊥) vs) → Each (λ v. refuses_unknown u (named v.name) ≡ false) vs
all_known_lem named vs Refused h = each_to vs (λ v k. ne_eqb (named v.name) ignored k) (h refl)
all_known_lem named vs Ignored h = each_all vs (λ v. refl)

-- variables that may be declared, and what follows them
module _ (g : Naming) (vs : List WrittenVariable) (ok : Declarable g vs) where
  pub variables_recorded : Recorded (texts declaration vs)
  variables_recorded = texts_recorded declaration vs (each_with vs declaration_recorded ok.ids ok.names)

  pub variables_read : (r s : List ℕ) → drop 0 r ≡ texts declaration vs ++ s → Recorded r → length r ≤ 65_536
      → opened g r ≡ recording.header g r (variables g.named vs) (words r (0 + length (texts declaration vs)))
  variables_read r s d h fits =
      before_words.header g r fits h
      ∙ declarations_read g r vs [] 0 s d ok.ids ok.short ok.names ok.distinct ok.once
      (each_all vs (λ v. unfold with_id in refl)) (each_all vs (λ v. none_yet (g.named v.name))) (all_known_lem g.named vs g.unknown ok.known) (omega (arith, ok.few))

-- ---- the whole, and bytes behind it
module _ (g : Naming) (vs : List WrittenVariable) (ss : List WrittenStep) (ok : Writable g vs ss) (later : List ℕ) (bytes : Recorded later) (fits : length (written vs ss ++ later) ≤ 65_536) where
  abbrev text : List ℕ
  text = written vs ss ++ later

  abbrev us : List Variable
  us = variables g.named vs

  abbrev body : List ℕ
  body = texts (step vs) ss

  id_at : (i : ℕ) → i < length vs → Graphic (variable_at vs i).id
  id_at i h = each_at (record { id = []; name = [] }) (λ v. Graphic v.id) vs i ok.declarations.ids h

  -- the value and the variable of each tick
  abbrev Ticks : (i : WrittenTick) → Type 0
  Ticks i = Plain i.value × (i.variable < length vs)

  ticks : Each (λ s. Each Ticks s.ticks) ss
  ticks = each_with ss (λ s p h. each_with s.ticks (λ i u e. (plain u, e)) p h) ok.values ok.declared

  known : (i : WrittenTick) → Ticks i → Known g.named vs us text i
  known i h =
      let v = variable_at vs i.variable in
      let short : length v.id ≤ 4 = each_at (record { id = []; name = [] }) (λ u. length u.id ≤ 4) vs i.variable ok.declarations.short h.1 in
      record {
        plain = h.0;
        word = graphic_word v.id (id_at i.variable h.1);
        found = rw (le-leb (length v.id) 4 short) (found_at g.named vs i.variable h.1 ok.declarations.distinct);
      }

  step_recorded : (s : WrittenStep) → Each Ticks s.ticks → Recorded (step vs s)
  step_recorded s e =
      all_append recorded (mark s.time) (texts (tick_at vs) s.ticks) (mark_recorded s.time)
      (texts_recorded (tick_at vs) s.ticks (each_to s.ticks (λ i h. tick_recorded vs i h.0 (id_at i.variable h.1)) e))

  text_recorded : Recorded text
  text_recorded =
      all_append recorded (written vs ss) later
      (all_append recorded (header vs) body
      (all_append recorded (texts declaration vs) definitions_end (variables_recorded g vs ok.declarations) end_recorded)
      (texts_recorded (step vs) ss (each_to ss step_recorded ticks)))
      bytes

  header_left : text ≡ header vs ++ (body ++ later)
  header_left = append_assoc (header vs) body later

  declarations_left : drop 0 text ≡ texts declaration vs ++ (definitions_end ++ (body ++ later))
  declarations_left = header_left ∙ append_assoc (texts declaration vs) definitions_end (body ++ later)

  end_left : drop (0 + length (texts declaration vs)) text ≡ definitions_end ++ (body ++ later)
  end_left = left_behind text 0 (texts declaration vs) (definitions_end ++ (body ++ later)) declarations_left

  body_at : 0 + length (texts declaration vs) + length definitions_end ≡ length (header vs)
  body_at = omega (arith, length-append (texts declaration vs) definitions_end)

  body_left : drop (length (header vs)) text ≡ body ++ later
  body_left = ap (drop (length (header vs))) header_left ∙ drop_at (header vs) (body ++ later) (length (header vs)) refl

  header_read : opened g text ≡ passed (record { variables = us; body = words text (length (header vs)) })
  header_read =
      variables_read g vs ok.declarations text (definitions_end ++ (body ++ later)) declarations_left text_recorded fits
      ∙ end_read g text us (0 + length (texts declaration vs)) (body ++ later) end_left (all_clocks us g.count ok.covers)
      ∙ ap (λ (i : ℕ). passed (record { variables = us; body = words text i })) body_at

  steps_at : length (header vs) + length body ≡ length (written vs ss)
  steps_at = sym (length-append (header vs) body)

  pub later_left : drop (length (written vs ss)) text ≡ later
  later_left = drop_at (written vs ss) later (length (written vs ss)) refl

  -- the steps, where what stands behind them ends reading so
  pub ends_with_lem : (e : Ending) → ((p : Option Step) → body_steps us text p (words text (length (written vs ss))) ≡ closing p (ends_with e))
      → reading g text ≡ record { steps = read_steps g.named vs (length (header vs)) ss; ending = e }
  unfolding onward closing
  ends_with_lem e rest =
      rw header_read
      (steps_read g.named vs us text later e ss None (length (header vs)) body_left ok.times (each_all ss (λ s. refl)) ok.rise
      (each_to ss (λ s e. each_to s.ticks known e) ticks) ok.single (λ p. ap (λ (i : ℕ). body_steps us text p (words text i)) steps_at ∙ rest p))

  -- nothing stands there
  pub ends : later ≡ [] → reading g text ≡ as_read g.named vs ss
  ends z = ends_with_lem ended (λ p. body_done us text p _ (words_over text Parting (length (written vs ss)) (omega (arith, length-append (written vs ss) later, ap (λ (l : List ℕ). length l) z))))

pub written_is_read : WrittenIsRead
unfolding all_bytes
written_is_read g vs ss ok =
    let e : written vs ss ++ [] ≡ written vs ss = append-nil (written vs ss) in
    rw e at (ends g vs ss ok [] refl (rw e ok.fits) refl)

-- ---- a name that the table lacks

without : (named : List ℕ → ℕ) (w : List ℕ) (vs : List WrittenVariable) → Each (λ u. u.id ≡ w → ⊥) vs → with_id (variables named vs) w ≡ None
unfolding with_id Each
without named w [] h = refl
without named w (v ∷ vs) h = rw (differ_same v.id w h.0) (without named w vs h.1)

pub misnamed_is_refused : MisnamedIsRefused
unfolding onward
misnamed_is_refused g vs v later ok =
    let front = texts declaration vs in
    let text = front ++ (declaration v ++ later) in
    let us = variables g.named vs in
    let whole : Recorded text = all_append recorded front (declaration v ++ later) (variables_recorded g vs ok.declarations) (all_append recorded (declaration v) later (declaration_recorded v ok.id ok.name) ok.bytes) in
    let once : clock_again us (g.named v.name) ≡ false = rw ok.lacks in
    let unknown : refuses_unknown g.unknown (g.named v.name) ≡ true = rw (ok.refuses, ok.lacks) in
    let at : 0 + length front ≡ length front = omega arith in
    let header-stops : opened g text ≡ stopped VariableUnknown (length front) =
    variables_read g vs ok.declarations text (declaration v ++ later) refl whole ok.fits
    ∙ misnamed_read g text us v (0 + length front) later (left_behind text 0 front (declaration v ++ later) refl) ok.id ok.short ok.name (without g.named v.id vs ok.distinct) once unknown
    ∙ ap (λ (i : ℕ). stopped VariableUnknown i) at
    in
    rw header-stops

-- ---- the example may be written

covered : (k : ℕ) → k < 2 → has_clock (variables by_name two) k ≡ true
unfolding has_clock same_bytes
covered zero h = refl
covered (suc zero) h = refl
covered (suc (suc k)) h = absurd (omega arith)

head_differs : {a b : ℕ} {v w : List ℕ} → a ∷ v ≡ b ∷ w → (a ≡ b → ⊥) → ⊥
head_differs e h = h cc

pub two_may_be_declared : (u : UnknownNames) → Declarable (record { named = by_name; count = 2; unknown = u }) two
unfolding Each Apart all_bytes same_bytes
two_may_be_declared u = record {
  ids = (record { some = omega arith; bytes = refl }, (record { some = omega arith; bytes = refl }, tt));
  short = (omega arith, (omega arith, tt));
  distinct = ((λ e. head_differs e (λ z. omega (arith, z)), tt), (tt, tt));
  names = (record { some = omega arith; bytes = refl }, (record { some = omega arith; bytes = refl }, tt));
  once = ((λ e. absurd (omega (arith, e)), tt), (tt, tt));
  known = λ e. (λ z. omega (arith, z), (λ z. omega (arith, z), tt));
  few = omega arith;
}

pub three_may_be_written : (u : UnknownNames) → Writable (record { named = by_name; count = 2; unknown = u }) two three
unfolding Each Apart all_bytes same_bytes line texts digits digits_of
three_may_be_written u = record {
  declarations = two_may_be_declared u;
  covers = covered;
  times = (omega arith, (omega arith, (omega arith, tt)));
  rise = ((omega arith, (omega arith, tt)), ((omega arith, tt), (tt, tt)));
  values = ((is_1, tt), (tt, ((is_x, (is_0, tt)), tt)));
  declared = ((omega arith, tt), (tt, ((omega arith, (omega arith, tt)), tt)));
  single = ((tt, tt), (tt, (((λ e. absurd (omega (arith, e)), tt), (tt, tt)), tt)));
  fits = omega arith;
}

-- and behind its variables one may be misnamed
abbrev lamp : WrittenVariable
lamp = record { id = ascii "%"; name = ascii "lamp" }

pub lamp_is_misnamed : Misnamed (record { named = by_name; count = 2; unknown = Refused }) two lamp []
unfolding Each all_bytes same_bytes line texts
lamp_is_misnamed = record {
  declarations = two_may_be_declared Refused;
  id = record { some = omega arith; bytes = refl };
  short = omega arith;
  distinct = (λ e. head_differs e (λ z. omega (arith, z)), (λ e. head_differs e (λ z. omega (arith, z)), tt));
  name = record { some = omega arith; bytes = refl };
  lacks = refl;
  refuses = refl;
  bytes = refl;
  fits = omega arith;
}
