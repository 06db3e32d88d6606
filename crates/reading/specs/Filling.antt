-- Of the code's shape: steps that are written one behind the other. Assumes nothing.
use Rattle.std.specs.Prelude.{true, List, map, ℕ, ◌+◌, ◌≤◌, length}
use Rattle.std.proofs.lemmas.List.Edits.{sets}
use Rattle.recording.specs.Body.{Reading}
use Rattle.reading.specs.Recorded.{ended_as, Left, time_of, mark_of, ticks_of}

-- each list has as many places as the recording has bytes
pub record Room (r ts ms fs : List ℕ) : Type 0 where
  pub times : length r ≤ length ts
  pub marks : length r ≤ length ms
  pub ticks : length r ≤ length fs

-- steps so far: how many, and the lists with them
pub record Steps : Type 0 where
  pub count : ℕ
  pub times : List ℕ
  pub marks : List ℕ
  pub ticks : List ℕ

abbrev pub steps : (count : ℕ) → (times marks ticks : List ℕ) → Steps
steps n ts ms fs = record { count = n; times = ts; marks = ms; ticks = fs }

-- what is left of a reading, written behind the steps so far
unfoldable pub onto : Reading → Steps → Left
onto g b = record {
  room = true;
  said = ended_as g.ending;
  count = b.count + length g.steps;
  times = sets b.times b.count (map time_of g.steps);
  marks = sets b.marks b.count (map mark_of g.steps);
  ticks = sets b.ticks b.count (map ticks_of g.steps);
}
