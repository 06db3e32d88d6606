-- In every step that is read, only clocks of the table tick: its tick set is below 2 ^ n, where n is the table's clock count. A variable's
-- clock is one of the table's, or that of no clock, and no tick of it is kept. Assumes nothing.
use Rattle.std.specs.Prelude.{Option, Some, None, Result, Ok, Err}
use mathlib.Core.Path.{◌≡◌}
use mathlib.Core.Logic.{◌⊎◌, inl, inr}
use mathlib.Core.Bool.{Bool, true, false, not, cond, ◌||◌}
use mathlib.Core.List.{List, [], ◌∷◌, ◌++◌}
use Prim.Native.Nat.{ℕ, ◌+◌, ◌^◌, ◌≤◌, ◌<◌}
use native.Mathlib.Omega.{arith}
use borrow.Author.Tests.{lt-ltb, le-ltb}
use lib.Bits.{or_lt}
use lib.Dec.{leb, ltb}
use lib.ListN.{length}
use lib.Pow.{pow-lt, suc_ones}
use Rattle.limit.specs.declared.Limit.{Limit}
use Rattle.limit.specs.declared.Limit.TheVariants.{RecordingLength, RecordingByte, VariableShape, DeclaredTwice, VariableUnknown, VariableCount, BodyWord, MarkTime, TickTwice}
use Rattle.constraint.specs.Ticks.{with_tick, bits}
use Rattle.text.specs.Bytes.{same_bytes}
use Rattle.text.specs.Digits.{read_decimal}
use Rattle.text.specs.Split.{bytes_of}
use Rattle.text.specs.declared.Spoilt.{Spoilt}
use Rattle.text.specs.declared.Spoilt.TheVariants.{NotDigit, TooLarge}
use Rattle.text.specs.declared.Span.{Span}
use Rattle.grammar.specs.Grammar.{clock_of}
use Rattle.grammar.specs.Names.{position}
use Rattle.grammar.specs.declared.Names.{Names}
use Rattle.recording.specs.Body.{opens_mark, is_value, begin, ticking, is_late, time_turn, mark_turn, found_turn, variable_turn, change_turn, word_turn, Reading, closing, onward, body_steps, body_of, reading}
use Rattle.limit.specs.Checked.{Checked, passed, stopped, refuse_if, and_then}
use Rattle.recording.specs.Header.{says, command_of, shaped, declare, Header, most_bytes, first_other, close, by_command, header, skipping, declaring, opened, words}
use Rattle.recording.specs.Variables.{Variable, refuses_unknown, Naming, clock_named, with_id, look_up, is_declared, clock_again, all_declared}
use Rattle.recording.specs.declared.Command.{Command}
use Rattle.recording.specs.declared.Command.TheVariants.{Skipped, Declaration, Definitions, Unknown}
use Rattle.recording.specs.declared.Step.{Step}

-- a clock of the table, or none
abbrev pub Clock : ℕ → ℕ → Type 0
Clock n k = (k < n) ⊎ (k ≡ 32)

-- ---- names

position_clock : (t w : List ℕ) (i : ℕ) (ps : List Span) → Clock (i + length ps) (clock_of (position t w i ps))
unfolding position
position_clock t w i [] = inr cc
position_clock t w i (p ∷ ps) = go (same_bytes (bytes_of t p) w) (position_clock t w (i + 1) ps)
  where
    go : (x : Bool) → Clock (i + 1 + length ps) (clock_of (position t w (i + 1) ps)) → Clock (i + length (p ∷ ps)) (clock_of (cond x (Some i) (position t w (i + 1) ps)))
    go true h = inl (omega arith)
    go false (inl h) = inl (omega arith)
    go false (inr h) = inr h

pub named_clock : (t : List ℕ) (ns : Names) (w : List ℕ) → Clock (length ns.spans) (clock_named t ns w)
named_clock t ns w = go (position_clock t w 0 ns.spans)
  where
    go : Clock (0 + length ns.spans) (clock_named t ns w) → Clock (length ns.spans) (clock_named t ns w)
    go (inl h) = inl (omega arith)
    go (inr h) = inr h

module _ (g : Naming) (room : g.count ≤ 32) where
  abbrev n : ℕ
  n = g.count

  -- ---- variables

  abbrev Clocks : List Variable → Type 0
  Clocks [] = Unit {0}
  Clocks (v ∷ vs) = Clock n v.clock × Clocks vs

  one_more : (vs : List Variable) (v : Variable) → Clocks vs → Clock n v.clock → Clocks (vs ++ v ∷ [])
  one_more [] v h k = (k, tt)
  one_more (x ∷ vs) v h k = (h.0, one_more vs v h.1 k)

  -- what was found is the clock of a variable
  abbrev Found-clock : Option ℕ → Type 0
  Found-clock (Some k) = Clock n k
  Found-clock None = Unit {0}

  with_clock : (w : List ℕ) (vs : List Variable) → Clocks vs → Found-clock (with_id vs w)
  unfolding with_id
  with_clock w [] h = tt
  with_clock w (v ∷ vs) h = go (same_bytes v.id w) (with_clock w vs h.1)
    where
      go : (x : Bool) → Found-clock (with_id vs w) → Found-clock (cond x (Some v.clock) (with_id vs w))
      go true k = h.0
      go false k = k

  look_clock : (w : List ℕ) (vs : List Variable) → Clocks vs → Found-clock (look_up vs w)
  look_clock w vs h = go (leb (length w) 4)
    where
      go : (x : Bool) → Found-clock (cond x (with_id vs w) None)
      go true = with_clock w vs h
      go false = tt

  -- ---- the header: what it leaves has such variables
  abbrev Each : {A : Type 0} → (A → Type 0) → Checked A → Type 0
  Each P (passed a) = P a
  Each P (stopped l p) = Unit {0}

  unless_broken : {A : Type 0} (P : A → Type 0) (x : Bool) (l : Limit) (p : ℕ) (c : Checked A) → Each P c → Each P (refuse_if x l p c)
  unless_broken P true l p c h = tt
  unless_broken P false l p c h = h

  abbrev Known : Checked Header → Type 0
  Known c = Each (λ h. Clocks h.variables) c

  close_known : (r : List ℕ) (at : ℕ) (vs : List Variable) (ws : List Span) → Clocks vs → Known (close n r at vs ws)
  unfolding close
  close_known r at vs [] h = tt
  close_known r at vs (w ∷ ws) h = unless_broken _ (not (says (bytes_of r w) "$end")) _ _ _ (unless_broken _ (not (all_declared vs n)) _ _ _ h)

  module _ (all : (w : List ℕ) → Clock n (g.named w)) (r : List ℕ) where
    declare_known : (at : ℕ) (vs : List Variable) (kind width id name last : Span) → Clocks vs → Each Clocks (declare g r at vs kind width id name last)
    unfolding declare
    declare_known at vs kind width id name last h =
        let v : Variable = record { id = bytes_of r id; clock = g.named (bytes_of r name) } in
        let added : Checked (List Variable) = passed (vs ++ v ∷ []) in
        let p37 : Checked (List Variable) = refuse_if (leb 128 (length vs)) VariableCount at added in
        let p38 : Checked (List Variable) = refuse_if (refuses_unknown g.unknown v.clock) VariableUnknown at p37 in
        let p34 : Checked (List Variable) = refuse_if (is_declared (look_up vs v.id) || clock_again vs v.clock) DeclaredTwice at p38 in
        unless_broken Clocks (not (shaped r kind width id last)) VariableShape at p34
        (unless_broken Clocks (is_declared (look_up vs v.id) || clock_again vs v.clock) DeclaredTwice at p38
        (unless_broken Clocks (refuses_unknown g.unknown v.clock) VariableUnknown at p37
        (unless_broken Clocks (leb 128 (length vs)) VariableCount at added (one_more vs v h (all (bytes_of r name))))))

    then_known : (c : Checked (List Variable)) (f : List Variable → Checked Header) → Each Clocks c → ((vs : List Variable) → Clocks vs → Known (f vs)) → Known (and_then c f)
    unfolding and_then
    then_known (passed vs) f h k = k vs h
    then_known (stopped l p) f h k = tt

    by_command_lem : (k : Command) (s d e u : Checked Header) → Known s → Known d → Known e → Known u → Known (by_command k s d e u)
    by_command_lem Skipped s d e u p q v w = p
    by_command_lem Declaration s d e u p q v w = q
    by_command_lem Definitions s d e u p q v w = v
    by_command_lem Unknown s d e u p q v w = w

    mutual
      unfolding header skipping declaring

      header_known : (vs : List Variable) (ws : List Span) → Clocks vs → Known (header g r vs ws)
      header_known vs [] h = tt
      header_known vs (w ∷ ws) h = by_command_lem (command_of (bytes_of r w)) _ _ _ _ (skipping_known vs ws h) (declaring_known vs w.start ws h) (close_known r w.start vs ws h) tt

      skipping_known : (vs : List Variable) (ws : List Span) → Clocks vs → Known (skipping g r vs ws)
      skipping_known vs [] h = tt
      skipping_known vs (w ∷ ws) h = go (says (bytes_of r w) "$end") (header_known vs ws h) (skipping_known vs ws h)
        where
          go : (x : Bool) → Known (header g r vs ws) → Known (skipping g r vs ws) → Known (cond x (header g r vs ws) (skipping g r vs ws))
          go true p q = p
          go false p q = q

      declaring_known : (vs : List Variable) (at : ℕ) (ws : List Span) → Clocks vs → Known (declaring g r vs at ws)
      declaring_known vs at [] h = tt
      declaring_known vs at (a ∷ []) h = tt
      declaring_known vs at (a ∷ b ∷ []) h = tt
      declaring_known vs at (a ∷ b ∷ c ∷ []) h = tt
      declaring_known vs at (a ∷ b ∷ c ∷ d ∷ []) h = tt
      declaring_known vs at (a ∷ b ∷ c ∷ d ∷ e ∷ ws) h = then_known _ _ (declare_known at vs a b c d e h) (λ us k. header_known us ws k)

    opened_known : Known (opened g r)
    unfolding opened
    opened_known =
        let p31 : Checked Header = refuse_if (ltb (first_other r) (length r)) RecordingByte (first_other r) (header g r [] (words r 0)) in
        unless_broken (λ h. Clocks h.variables) (ltb most_bytes (length r)) RecordingLength 0 p31
        (unless_broken (λ h. Clocks h.variables) (ltb (first_other r) (length r)) RecordingByte (first_other r) (header g r [] (words r 0)) (header_known [] (words r 0) tt))

  -- ---- the body: only clocks of the table tick
  abbrev Ticking : Step → Type 0
  Ticking o = o.ticks < 2 ^ n

  with_tick_below : (f k : ℕ) → f < 2 ^ n → Clock n k → with_tick f k < 2 ^ n
  with_tick_below f k h (inl e) = rw (lt-ltb k 32 (omega arith)) (or_lt n f (2 ^ k) h (pow-lt e))
  with_tick_below f k h (inr e) = rw (le-ltb k 32 (omega arith)) h

  found_ticking : (o : Step) (at : ℕ) (x : Option ℕ) → Ticking o → Found-clock x → Each Ticking (found_turn o at x)
  found_ticking o at None h k = tt
  found_ticking o at (Some k) h e = unless_broken Ticking (bits o.ticks k) TickTwice at (passed (ticking k o)) (with_tick_below o.ticks k h e)

  zero_below : 0 < 2 ^ n
  zero_below = omega (arith, suc_ones n)

  time_ticking : (o : Option Step) (at : ℕ) (d : Result ℕ Spoilt) → Each Ticking (time_turn o at d)
  time_ticking o at (Err (NotDigit i)) = tt
  time_ticking o at (Err (TooLarge i)) = tt
  time_ticking o at (Ok t) = unless_broken Ticking (is_late o t) MarkTime at (passed (begin at t)) zero_below

  mark_ticking : (o : Option Step) (at : ℕ) (w : List ℕ) → Each Ticking (mark_turn o at w)
  unfolding mark_turn
  mark_ticking o at [] = tt
  mark_ticking o at (b ∷ ds) = time_ticking o at (read_decimal ds)

  -- the open step, where there is one
  abbrev OpenTicking : Option Step → Type 0
  OpenTicking None = Unit {0}
  OpenTicking (Some s) = Ticking s

  abbrev AllTicking : List Step → Type 0
  AllTicking [] = Unit {0}
  AllTicking (s ∷ ss) = Ticking s × AllTicking ss

  module _ (vs : List Variable) (known : Clocks vs) where
    variable_ticking : (o : Option Step) (at : ℕ) (id : List ℕ) → OpenTicking o → Each Ticking (variable_turn vs o at id)
    variable_ticking None at id h = tt
    variable_ticking (Some s) at id h = found_ticking s at (look_up vs id) h (look_clock id vs known)

    change_ticking : (o : Option Step) (at : ℕ) (w : List ℕ) → OpenTicking o → Each Ticking (change_turn vs o at w)
    unfolding change_turn
    change_ticking o at [] h = tt
    change_ticking o at (b ∷ []) h = tt
    change_ticking o at (b ∷ i ∷ is) h = unless_broken Ticking (not (is_value b)) BodyWord at (variable_turn vs o at (i ∷ is)) (variable_ticking o at (i ∷ is) h)

    word_ticking : (o : Option Step) (at : ℕ) (w : List ℕ) → OpenTicking o → Each Ticking (word_turn vs o at w)
    unfolding word_turn
    word_ticking o at w h = go (opens_mark w)
      where
        go : (x : Bool) → Each Ticking (cond x (mark_turn o at w) (change_turn vs o at w))
        go true = mark_ticking o at w
        go false = change_ticking o at w h

    closing_ticking : (o : Option Step) (g : Reading) → OpenTicking o → AllTicking g.steps → AllTicking (closing o g).steps
    unfolding closing
    closing_ticking None g h k = k
    closing_ticking (Some s) g h k = (h, k)

    onward_ticking : (c : Checked Step) (f : Step → Reading) → Each Ticking c → ((s : Step) → Ticking s → AllTicking (f s).steps) → AllTicking (onward c f).steps
    unfolding onward
    onward_ticking (passed s) f h k = k s h
    onward_ticking (stopped l p) f h k = tt

    body_ticking : (r : List ℕ) (o : Option Step) (ws : List Span) → OpenTicking o → AllTicking (body_steps vs r o ws).steps
    unfolding body_steps
    body_ticking r o [] h = closing_ticking o _ h tt
    body_ticking r o (w ∷ ws) h = go (opens_mark (bytes_of r w)) (onward_ticking _ _ (word_ticking o w.start (bytes_of r w) h) (λ s k. body_ticking r (Some s) ws k))
      where
        later : Reading
        later = onward (word_turn vs o w.start (bytes_of r w)) (λ s. body_steps vs r (Some s) ws)

        go : (x : Bool) → AllTicking later.steps → AllTicking (cond x (closing o later) later).steps
        go true k = closing_ticking o later h k
        go false k = k

  -- ---- the whole recording
  pub one_ticking : (before later : List Step) (s : Step) → AllTicking (before ++ s ∷ later) → Ticking s
  one_ticking [] later s h = h.0
  one_ticking (x ∷ before) later s h = one_ticking before later s h.1

  pub reading_ticking : ((w : List ℕ) → Clock n (g.named w)) → (r : List ℕ) → AllTicking (reading g r).steps
  unfolding onward
  reading_ticking all r = go (opened g r) (opened_known all r)
    where
      go : (c : Checked Header) → Known c → AllTicking (onward c (body_of r)).steps
      go (passed h) k = body_ticking h.variables k r None h.body tt
      go (stopped l p) k = tt
