-- What reading gives of a table and a recording, with nothing judged: how it ended, and the steps that were closed before, each with its time, the
-- offset of its mark and its tick set (document 01, "Recording"; document 02, M-103). Assumes nothing.
use Rattle.std.specs.Prelude.{◌≡◌, refl, Bool, true, false, cond, ◌||◌, List, [], ◌∷◌, map, ℕ, ltb, length, Result, Ok, Err}
use Rattle.limit.specs.Limit.{number_of}
use Rattle.limit.specs.declared.Refusal.{Refusal}
use Rattle.table.specs.Reader as table
use Rattle.recording.specs.Body.{Ending, ended, refused_at, Reading}
use Rattle.recording.specs.declared.Step.{Step}
use Rattle.recording.specs.declared.UnknownNames.{UnknownNames}
use Rattle.run.specs.Complete.{mark}
use Rattle.run.specs.Run.{recorded_by}
use Rattle.reading.specs.Written.{written}
use Rattle.reading.specs.declared.NoRoom.{NoRoom}
use Rattle.reading.specs.declared.RecordingRead.{RecordingRead}

-- how reading ended: `read`, or `refused` with number and place, as a table's reader says it
abbrev pub ended_as : Ending → table.Said
ended_as ended = table.read
ended_as (refused_at l p) = table.refused (number_of l) p

pub record Recorded : Type 0 where
  pub said : table.Said
  pub steps : List Step

abbrev pub recorded : Reading → Recorded
recorded g = record { said = ended_as g.ending; steps = g.steps }

-- a refused table has no step
unfoldable pub with_table : table.Said → Recorded → Recorded
with_table table.read g = g
with_table (table.refused n p) g = record { said = table.refused n p; steps = [] }

-- a recording as read by a table's names, and a choice what becomes of others
abbrev pub recorded_of : (table recording : List ℕ) → UnknownNames → Recorded
recorded_of t r u = with_table (table.read_table t).said (recorded (recorded_by t r u))

-- ---- into lists of the caller's

-- what a call leaves: whether there was room, how reading ended, how many steps there are, and what the three lists then hold
pub record Left : Type 0 where
  pub room : Bool
  pub said : table.Said
  pub count : ℕ
  pub times : List ℕ
  pub marks : List ℕ
  pub ticks : List ℕ

-- where there is no room nothing is read, and nothing written
abbrev pub untouched : (times marks ticks : List ℕ) → Left
untouched ts ms fs = record { room = false; said = table.read; count = 0; times = ts; marks = ms; ticks = fs }

abbrev pub left : Result RecordingRead NoRoom → (times marks ticks : List ℕ) → Left
left (Ok q) ts ms fs = record { room = true; said = table.said q.outcome; count = q.steps; times = ts; marks = ms; ticks = fs }
left (Err n) ts ms fs = untouched ts ms fs

abbrev pub time_of : Step → ℕ
time_of s = s.time.0

abbrev pub mark_of : Step → ℕ
mark_of s = s.mark.0

abbrev pub ticks_of : Step → ℕ
ticks_of s = s.ticks

-- each list has the steps in the place of its first numbers
abbrev pub filled : Recorded → (times marks ticks : List ℕ) → Left
filled g ts ms fs = record {
  room = true;
  said = g.said;
  count = length g.steps;
  times = written (map time_of g.steps) ts;
  marks = written (map mark_of g.steps) ms;
  ticks = written (map ticks_of g.steps) fs;
}

-- some list has fewer places than the recording has bytes
abbrev pub too_short : (recording times marks ticks : List ℕ) → Bool
too_short r ts ms fs = ltb (length ts) (length r) || ltb (length ms) (length r) || ltb (length fs) (length r)

unfoldable pub recorded_into : (table recording : List ℕ) → UnknownNames → (times marks ticks : List ℕ) → Left
recorded_into t r u ts ms fs = cond (too_short r ts ms fs) (untouched ts ms fs) (filled (recorded_of t r u) ts ms fs)

-- ---- an example: two steps, in lists with a place more

two_steps :
    filled (recorded (record { steps = mark 4 1 ∷ mark 9 0 ∷ []; ending = ended })) (7 ∷ 7 ∷ 7 ∷ []) (7 ∷ 7 ∷ 7 ∷ []) (7 ∷ 7 ∷ 7 ∷ [])
    ≡ record { room = true; said = table.read; count = 2; times = 4 ∷ 9 ∷ 7 ∷ []; marks = 0 ∷ 0 ∷ 7 ∷ []; ticks = 1 ∷ 0 ∷ 7 ∷ [] }
two_steps = refl
