-- The checks of each call, in their order, and what it writes where all are passed. Assumes nothing.
use mathlib.Core.Path.{◌≡◌, refl, sym, ap, ◌∙◌}
use mathlib.Core.Bool.{Bool, true, false, cond, not}
use mathlib.Core.List.{List, [], ◌∷◌}
use Prim.Native.Nat.{ℕ, ◌%◌, ◌≤◌, ◌<◌}
use native.Mathlib.Omega.{arith}
use borrow.Author.Tests.{lt-ltb, le-ltb, eq-eqb, ne_eqb}
use lib.Dec.{ltb}
use lib.IntN.{ℤ}
use lib.ListN.{length, take}
use lib.Seq.{sets}
use Rattle.std.specs.Prelude.{Ok, Err}
use Rattle.constraint.specs.SamePlace.{Answer, same_place_of}
use Rattle.constraint.specs.declared.Constraint.{Constraint}
use Rattle.lent.specs.Start.{StartTold, start_of}
use Rattle.judging.specs.Single.{StepTold, step_of, stopped_said}
use Rattle.judging.specs.declared.Stopped.{Stopped}
use Rattle.judging.specs.declared.Stopped.TheVariants.{Violated, Refused}
use Rattle.constraint.specs.declared.Configuration.{Configuration}
use Rattle.recording.specs.declared.UnknownNames.{UnknownNames}
use Rattle.table.specs.Reader as table
use Rattle.run.specs.Run.{Told, run_of}
use Rattle.reading.specs.Recorded as recorded
use Rattle.reading.specs.Recorded.{recorded_into}
use Rattle.reading.specs.Written.{written}
use Rattle.reading.specs.declared.NoRoom.{NoRoom}
use Rattle.reading.specs.declared.RecordingRead.{RecordingRead}
use Rattle.order.specs.Order.{OrderTold, order_of}
use Rattle.monitor_c.specs.declared.AnswerNumbers.{AnswerNumbers}
use Rattle.monitor_c.specs.declared.Status.{Status}
use Rattle.monitor_c.specs.declared.Status.TheVariants.{AnswerShort, WordsShort, RecordsRagged, KindUnknown, OrderShort, ChoiceInvalid}
use Rattle.monitor_c.specs.Calls.{done, answer_short, words_short, records_ragged, kind_unknown, order_short, steps_short, left, order_left, steps_left, room, choice, run_left, run_into, recorded_left, recording_into, ragged, shape, Left, on_records, start_left, start_into, step_words, step_left, step_into, place_left, place_into, ordered_left, order_into}
use Rattle.monitor_c.specs.Numbers.{unknown_of, clocks_of, records_of, kinds_known, configuration_of, of_table, answer_and}
use Rattle.reading.proofs.StoreLaws.{sets_append, sets_written}
use Rattle.monitor_c.proofs.First65.{start_first, step_first, place_first, order_first}

-- an answer of three numbers, with others stored behind it
pub stored_behind : (t : AnswerNumbers) (ns out : List ℕ) → length (answer_and t ns) ≤ length out → sets (written (answer_and t []) out) 3 ns ≡ written (answer_and t ns) out
stored_behind t ns out room =
    ap (λ (xs : List ℕ). sets xs 3 ns) (sym (sets_written (answer_and t []) out (omega (arith, room))))
    ∙ sym (sets_append (answer_and t []) ns out 0)
    ∙ sets_written (answer_and t ns) out room

-- a list has room for so many
abbrev pub Room : (length least : ℕ) → Status → Type 0
Room n k s = room n k s ≡ Ok (tt {0})

pub not_short : (n k : ℕ) (s : Status) → Room n k s → ltb n k ≡ false
not_short n k s e = go (ltb n k) e
  where
    go : (x : Bool) → cond x (Err s) (Ok (tt {0})) ≡ Ok (tt {0}) → x ≡ false
    go true e = (cc)
    go false e = refl

-- records that have their shape: their numbers come in eights, and their kinds are known
pub record Shaped (ns : List ℕ) : Type 0 where
  pub even : ragged ns ≡ false
  pub known : kinds_known ns ≡ true

pub shaped : (ns : List ℕ) → shape ns ≡ Ok (tt {0}) → Shaped ns
shaped ns e = go (ragged ns) (kinds_known ns) refl refl e
  where
    go : (x y : Bool) → ragged ns ≡ x → kinds_known ns ≡ y → cond x (Err RecordsRagged) (cond (not y) (Err KindUnknown) (Ok (tt {0}))) ≡ Ok (tt {0}) → Shaped ns
    go true y p q e = (cc)
    go false true p q e = record { even = p; known = q }
    go false false p q e = (cc)

-- ---- ccsl_run

-- a choice that was made
pub record Chosen (u : ℕ) (n : UnknownNames) : Type 0 where
  pub known : ltb 1 u ≡ false
  pub is : n ≡ unknown_of u

pub chosen : (u : ℕ) (n : UnknownNames) → choice u ≡ Ok n → Chosen u n
chosen u n e = go (ltb 1 u) refl e
  where
    go : (x : Bool) → ltb 1 u ≡ x → cond x (Err ChoiceInvalid) (Ok (unknown_of u)) ≡ Ok n → Chosen u n
    go true p e = (cc)
    go false p e = record { known = p; is = cc }

module _ (t r : List ℕ) (u : ℕ) (n : UnknownNames) (chose : choice u ≡ Ok n) (out : List ℕ) where
  pub judged : (ws : List ℤ) → Room (length out) 5 AnswerShort → Room (length ws) 128 WordsShort → (v : Told) → v ≡ run_of t r n → run_left v out ws ≡ run_into t r u out ws
  unfolding run_into
  judged ws a w v e =
      let k = chosen u n chose in
      rw (not_short (length out) 5 AnswerShort a, not_short (length ws) 128 WordsShort w, k.known) (ap (λ z. run_left z out ws) (e ∙ ap (run_of t r) k.is))

  -- ---- ccsl_read_recording

  pub read : (ts ms fs : List ℕ) → Room (length out) 4 AnswerShort → (l : recorded.Left) → l ≡ recorded_into t r n ts ms fs → recorded_left l out ≡ recording_into t r u out ts ms fs
  unfolding recording_into
  read ts ms fs a l e =
      let k = chosen u n chose in
      rw (not_short (length out) 4 AnswerShort a, k.known) (ap (λ z. recorded_left z out) (e ∙ ap (λ m. recorded_into t r m ts ms fs) k.is))

-- what a reading left, as its answer tells
module _ (out ts ms fs : List ℕ) where
  pub recording_steps_short : (n : NoRoom) → steps_left steps_short out ts ms fs ≡ recorded_left (recorded.left (Err n) ts ms fs) out
  recording_steps_short n = refl

  pub recording_read : (q : RecordingRead) → steps_left done (written (answer_and (of_table (table.said q.outcome)) (q.steps ∷ [])) out) ts ms fs ≡ recorded_left (recorded.left (Ok q) ts ms fs) out
  recording_read q = refl

-- ---- ccsl_start_words and ccsl_step

module _ (ns out : List ℕ) (ws : List ℤ) (a : Room (length out) 3 AnswerShort) (w : Room (length ws) 128 WordsShort) (r : shape ns ≡ Ok (tt {0})) where
  in_shape : (l : Left) → l ≡ on_records ns out ws l
  unfolding on_records
  in_shape l = let s = shaped ns r in rw (not_short (length out) 3 AnswerShort a, not_short (length ws) 128 WordsShort w, s.even, s.known) refl

  module _ (named clocks : ℕ) where
    pub started : (t : StartTold) → t ≡ start_of (clocks_of named clocks) (take 65 (records_of ns)) → start_left t out ws ≡ start_into ns named clocks out ws
    started t e =
        ap (λ u. start_left u out ws) (e ∙ start_first (clocks_of named clocks) (records_of ns))
        ∙ in_shape (start_left (start_of (clocks_of named clocks) (records_of ns)) out ws)

    pub stepped : (f : ℕ) (t : StepTold) → t ≡ step_of (clocks_of named clocks) (take 65 (records_of ns)) (configuration_of ws) f → step_left t out ws ≡ step_into ns named clocks f out ws
    stepped f t e =
        ap (λ u. step_left u out ws) (e ∙ step_first (clocks_of named clocks) (records_of ns) (configuration_of ws) f)
        ∙ in_shape (step_left (step_of (clocks_of named clocks) (records_of ns) (configuration_of ws) f) out ws)

module _ (ns out : List ℕ) (ws : List ℤ) (l : Left) where
  pub answer_short_lem : length out < 3 → left answer_short out ws ≡ on_records ns out ws l
  unfolding on_records
  answer_short_lem a = rw (lt-ltb (length out) 3 a) refl

  pub words_short_lem : 3 ≤ length out → length ws < 128 → left words_short out ws ≡ on_records ns out ws l
  unfolding on_records
  words_short_lem a w = rw (le-ltb (length out) 3 a, lt-ltb (length ws) 128 w) refl

  pub records_ragged_lem : 3 ≤ length out → 128 ≤ length ws → (length ns % 8 ≡ 0 → ⊥) → left records_ragged out ws ≡ on_records ns out ws l
  unfolding on_records
  records_ragged_lem a w r = rw (le-ltb (length out) 3 a, le-ltb (length ws) 128 w, ne_eqb (length ns % 8) 0 r) refl

  pub kind_unknown_lem : 3 ≤ length out → 128 ≤ length ws → length ns % 8 ≡ 0 → kinds_known ns ≡ false → left kind_unknown out ws ≡ on_records ns out ws l
  unfolding on_records
  kind_unknown_lem a w r k = rw (le-ltb (length out) 3 a, le-ltb (length ws) 128 w, eq-eqb (length ns % 8) 0 r, k) refl

-- a step that is not taken leaves the words alone
pub left_alone : (why : Stopped) (c : Configuration) (ws : List ℤ) → ws ≡ step_words (stopped_said why) c ws
left_alone (Violated r) c ws = refl
left_alone (Refused r) c ws = refl

-- ---- ccsl_same_place

pub compared : (ns : List ℕ) (named clocks : ℕ) (ws vs : List ℤ) (out : List ℕ)
    → Room (length out) 3 AnswerShort → Room (length ws) 128 WordsShort → Room (length vs) 128 WordsShort → shape ns ≡ Ok (tt {0})
    → (t : Answer) → t ≡ same_place_of (clocks_of named clocks) (take 65 (records_of ns)) (configuration_of ws).words (configuration_of vs).words → place_left t out ≡ place_into ns named clocks ws vs out
unfolding place_into
compared ns named clocks ws vs out a w v r t e =
    let s = shaped ns r in
    rw (not_short (length out) 3 AnswerShort a, not_short (length ws) 128 WordsShort w, not_short (length vs) 128 WordsShort v, s.even, s.known)
    (ap (λ u. place_left u out) (e ∙ place_first (clocks_of named clocks) (records_of ns) (configuration_of ws).words (configuration_of vs).words))

-- ---- ccsl_definition_order

pub ordered : (ns : List ℕ) (named clocks : ℕ) (out os : List ℕ) → Room (length out) 4 AnswerShort → shape ns ≡ Ok (tt {0}) → Room (length os) 32 OrderShort
    → (t : OrderTold) → t ≡ order_of (clocks_of named clocks) (take 65 (records_of ns)) → ordered_left t out os ≡ order_into ns named clocks out os
unfolding order_into
ordered ns named clocks out os a r o t e =
    let s = shaped ns r in
    rw (not_short (length out) 4 AnswerShort a, not_short (length os) 32 OrderShort o, s.even, s.known)
    (ap (λ u. ordered_left u out os) (e ∙ order_first (clocks_of named clocks) (records_of ns)))

pub order_short_lem : (ns : List ℕ) (named clocks : ℕ) (out os : List ℕ)
    → 4 ≤ length out → length ns % 8 ≡ 0 → kinds_known ns ≡ true → length os < 32 → order_left order_short out os ≡ order_into ns named clocks out os
unfolding order_into
order_short_lem ns named clocks out os a r k o = rw (le-ltb (length out) 4 a, eq-eqb (length ns % 8) 0 r, k, lt-ltb (length os) 32 o) refl
