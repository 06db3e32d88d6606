-- What each call returns and writes: `include/ccsl_monitor.h`, function by function. Assumes nothing.
use Rattle.std.specs.Prelude.{Bool, not, cond, List, [], ◌∷◌, ℕ, ◌%◌, eqb, ltb, ℤ, length, take, Result, Ok, Err}
use Rattle.constraint.specs.SamePlace as place
use Rattle.constraint.specs.SamePlace.{same_place_of}
use Rattle.constraint.specs.declared.Configuration.{Configuration}
use Rattle.constraint.specs.declared.Constraint.{Constraint}
use Rattle.grammar.specs.Building.{clocks_in}
use Rattle.table.specs.Reader as table
use Rattle.recording.specs.declared.UnknownNames.{UnknownNames}
use Rattle.run.specs.Run as run
use Rattle.judging.specs.Single as single
use Rattle.lent.specs.Start as start
use Rattle.order.specs.Order as order
use Rattle.reading.specs.Recorded as reading
use Rattle.reading.specs.Written.{written}
use Rattle.monitor_c.specs.Numbers.{unknown_ignored, unknown_of, of_run, clocks_of, records_of, kinds_known, record_numbers, name_numbers, padded, configuration_of, word_numbers, of_table, of_start, of_step, of_place, of_order, answer_and}
use Rattle.monitor_c.specs.declared.AnswerNumbers.{AnswerNumbers}
use Rattle.monitor_c.specs.declared.Status.{Status}
use Rattle.monitor_c.specs.declared.Status.TheVariants.{Done, AnswerShort, WordsShort, RecordsShort, NamesShort, RecordsRagged, KindUnknown, OrderShort, ChoiceInvalid, StepsShort}

-- ---- ccsl_layout

-- that of eight numbers a record and 128 words; layout 1 was six numbers a record and 64 words
abbrev pub layout : ℕ
layout = 2

-- ---- the status of a call

abbrev pub done : ℕ
done = 0

abbrev pub answer_short : ℕ
answer_short = 1

abbrev pub words_short : ℕ
words_short = 2

abbrev pub records_short : ℕ
records_short = 3

abbrev pub names_short : ℕ
names_short = 4

abbrev pub records_ragged : ℕ
records_ragged = 5

abbrev pub kind_unknown : ℕ
kind_unknown = 6

abbrev pub order_short : ℕ
order_short = 7

abbrev pub choice_invalid : ℕ
choice_invalid = 8

abbrev pub steps_short : ℕ
steps_short = 9

-- the number of a status
abbrev pub number : Status → ℕ
number Done = done
number AnswerShort = answer_short
number WordsShort = words_short
number RecordsShort = records_short
number NamesShort = names_short
number RecordsRagged = records_ragged
number KindUnknown = kind_unknown
number OrderShort = order_short
number ChoiceInvalid = choice_invalid
number StepsShort = steps_short

-- what a call returns that found a shape lacking, or did its work
abbrev pub returned : Result (Unit {0}) Status → ℕ
returned (Ok u) = done
returned (Err s) = number s

-- the numbers of `records` do not come in rows
abbrev pub ragged : List ℕ → Bool
ragged ns = not (eqb (length ns % 8) 0)

abbrev pub short : {A : Type 0} → List A → ℕ → Bool
short xs n = ltb (length xs) n

-- a list has so many numbers, or else a status is told
abbrev pub room : (length least : ℕ) → Status → Result (Unit {0}) Status
room n least s = cond (ltb n least) (Err s) (Ok tt)

-- the shape that records have to have: their numbers come in rows, and each kind is one
abbrev pub shape : List ℕ → Result (Unit {0}) Status
shape ns = cond (ragged ns) (Err RecordsRagged) (cond (not (kinds_known ns)) (Err KindUnknown) (Ok tt))

-- the choice for unknown names, which is one of two
abbrev pub choice : ℕ → Result UnknownNames Status
choice u = cond (ltb unknown_ignored u) (Err ChoiceInvalid) (Ok (unknown_of u))

-- ---- ccsl_run

-- a status, and what two lists then hold
pub record Left : Type 0 where
  pub status : ℕ
  pub answer : List ℕ
  pub words : List ℤ

abbrev pub left : (status : ℕ) → (answer : List ℕ) → (words : List ℤ) → Left
left s out ws = record { status = s; answer = out; words = ws }

abbrev pub run_left : run.Told → List ℕ → List ℤ → Left
run_left t out ws =
    left done (written (answer_and (of_run t.said) (t.steps ∷ t.constraints ∷ [])) out) (written (word_numbers t.configuration) ws)

unfoldable pub run_into : (table recording : List ℕ) → (unknown : ℕ) → (answer : List ℕ) → (words : List ℤ) → Left
run_into t r u out ws =
    cond (short out 5) (left answer_short out ws)
    (cond (short ws 128) (left words_short out ws)
    (cond (ltb unknown_ignored u) (left choice_invalid out ws)
    (run_left (run.run_of t r (unknown_of u)) out ws)))

-- ---- ccsl_read_table

pub record TableLeft : Type 0 where
  pub status : ℕ
  pub answer : List ℕ
  pub records : List ℕ
  pub names : List ℕ

abbrev pub table_left : (status : ℕ) → (answer records names : List ℕ) → TableLeft
table_left s out rs ns = record { status = s; answer = out; records = rs; names = ns }

-- behind the answer: how many constraints, how many clocks, and how many of these are named
abbrev pub read_left : table.Told → (answer records names : List ℕ) → TableLeft
read_left t out rs ns =
    table_left done
    (written (answer_and (of_table t.said) (length t.table.records ∷ (clocks_in t.table).count ∷ (clocks_in t.table).named ∷ [])) out)
    (written (padded 512 (record_numbers t.table.records)) rs)
    (written (padded 64 (name_numbers t.table.names.spans)) ns)

unfoldable pub read_into : (text : List ℕ) → (answer records names : List ℕ) → TableLeft
read_into t out rs ns =
    cond (short out 6) (table_left answer_short out rs ns)
    (cond (short rs 512) (table_left records_short out rs ns)
    (cond (short ns 64) (table_left names_short out rs ns)
    (read_left (table.read_table t) out rs ns)))

-- ---- ccsl_start_words and ccsl_step

-- the checks of both, in their order
unfoldable pub on_records : (records answer : List ℕ) → (words : List ℤ) → Left → Left
on_records ns out ws l =
    cond (short out 3) (left answer_short out ws)
    (cond (short ws 128) (left words_short out ws)
    (cond (ragged ns) (left records_ragged out ws)
    (cond (not (kinds_known ns)) (left kind_unknown out ws)
    l)))

-- an answer, and what the words then are
abbrev pub answered_left : AnswerNumbers → (words : List ℤ) → (answer : List ℕ) → Left
answered_left t ws out = left done (written (answer_and t []) out) ws

abbrev pub start_left : start.StartTold → List ℕ → List ℤ → Left
start_left t out ws = answered_left (of_start t.said) (written (word_numbers t.configuration) ws) out

abbrev pub start_into : (records : List ℕ) → (named clocks : ℕ) → (answer : List ℕ) → (words : List ℤ) → Left
start_into ns named clocks out ws = on_records ns out ws (start_left (start.start_of (clocks_of named clocks) (records_of ns)) out ws)

-- the words are moved where the step is accepted, and left alone else
abbrev pub step_words : single.StepSaid → Configuration → List ℤ → List ℤ
step_words single.accepted c ws = written (word_numbers c) ws
step_words (single.violated r) c ws = ws
step_words (single.refused number place) c ws = ws

abbrev pub step_left : single.StepTold → List ℕ → List ℤ → Left
step_left t out ws = answered_left (of_step t.said) (step_words t.said t.configuration ws) out

abbrev pub step_into : (records : List ℕ) → (named clocks ticks : ℕ) → (answer : List ℕ) → (words : List ℤ) → Left
step_into ns named clocks f out ws = on_records ns out ws (step_left (single.step_of (clocks_of named clocks) (records_of ns) (configuration_of ws) f) out ws)

-- ---- ccsl_same_place

pub record AnswerLeft : Type 0 where
  pub status : ℕ
  pub answer : List ℕ

abbrev pub answer_left : (status : ℕ) → (answer : List ℕ) → AnswerLeft
answer_left s out = record { status = s; answer = out }

abbrev pub place_left : place.Answer → List ℕ → AnswerLeft
place_left a out = answer_left done (written (answer_and (of_place a) []) out)

unfoldable pub place_into : (records : List ℕ) → (named clocks : ℕ) → (first second : List ℤ) → (answer : List ℕ) → AnswerLeft
place_into ns named clocks ws vs out =
    cond (short out 3) (answer_left answer_short out)
    (cond (short ws 128) (answer_left words_short out)
    (cond (short vs 128) (answer_left words_short out)
    (cond (ragged ns) (answer_left records_ragged out)
    (cond (not (kinds_known ns)) (answer_left kind_unknown out)
    (place_left (same_place_of (clocks_of named clocks) (records_of ns) (configuration_of ws).words (configuration_of vs).words) out)))))

-- ---- ccsl_definition_order

pub record OrderLeft : Type 0 where
  pub status : ℕ
  pub answer : List ℕ
  pub order : List ℕ

abbrev pub order_left : (status : ℕ) → (answer order : List ℕ) → OrderLeft
order_left s out os = record { status = s; answer = out; order = os }

-- behind the answer: how many records are listed
abbrev pub ordered_left : order.OrderTold → (answer order : List ℕ) → OrderLeft
ordered_left t out os = order_left done (written (answer_and (of_order t.said) (t.count ∷ [])) out) (written t.records os)

unfoldable pub order_into : (records : List ℕ) → (named clocks : ℕ) → (answer order : List ℕ) → OrderLeft
order_into ns named clocks out os =
    cond (short out 4) (order_left answer_short out os)
    (cond (ragged ns) (order_left records_ragged out os)
    (cond (not (kinds_known ns)) (order_left kind_unknown out os)
    (cond (short os 32) (order_left order_short out os)
    (ordered_left (order.order_of (clocks_of named clocks) (records_of ns)) out os))))

-- ---- ccsl_read_recording

pub record StepsLeft : Type 0 where
  pub status : ℕ
  pub answer : List ℕ
  pub times : List ℕ
  pub marks : List ℕ
  pub ticks : List ℕ

abbrev pub steps_left : (status : ℕ) → (answer times marks ticks : List ℕ) → StepsLeft
steps_left s out ts ms fs = record { status = s; answer = out; times = ts; marks = ms; ticks = fs }

-- behind the answer: how many steps were read. Where a list has fewer places than the recording has bytes, nothing is written
abbrev pub recorded_left : reading.Left → (answer : List ℕ) → StepsLeft
recorded_left l out =
    cond l.room
    (steps_left done (written (answer_and (of_table l.said) (l.count ∷ [])) out) l.times l.marks l.ticks)
    (steps_left steps_short out l.times l.marks l.ticks)

unfoldable pub recording_into : (table recording : List ℕ) → (unknown : ℕ) → (answer times marks ticks : List ℕ) → StepsLeft
recording_into t r u out ts ms fs =
    cond (short out 4) (steps_left answer_short out ts ms fs)
    (cond (ltb unknown_ignored u) (steps_left choice_invalid out ts ms fs)
    (recorded_left (reading.recorded_into t r (unknown_of u) ts ms fs) out))
