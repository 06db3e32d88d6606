-- Steps that are written one behind the other, up to where reading ends. Assumes nothing.
use Rattle.std.specs.Prelude.{Some, Ok, Err}
use mathlib.Core.Path.{◌≡◌}
use mathlib.Core.List.{List, map}
use Prim.Native.Nat.{ℕ, suc, ◌+◌, ◌≤◌, ◌<◌}
use native.Mathlib.Nat.{zero-add, add-zero}
use native.Mathlib.Numerals.{add-one}
use native.Mathlib.Omega.{arith}
use lib.ListN.{length, set, length-map}
use Rattle.limit.specs.declared.Refusal.{Refusal}
use Rattle.recording.specs.Body.{ended, refused_at, Reading, ends_with, closing}
use Rattle.recording.specs.declared.Step.{Step}
use Rattle.run.proofs.RunLaws.{one_fewer}
use Rattle.reading.specs.Filling.{Room, steps, onto}
use Rattle.reading.specs.Recorded.{recorded, left, filled, time_of, mark_of, ticks_of}
use Rattle.reading.proofs.StoreLaws.{sets_written}

-- a step that is closed is written, and the rest behind it
pub onto_closing : (s : Step) (g : Reading) (n : ℕ) (ts ms fs : List ℕ)
    → onto (closing (Some s) g) (steps n ts ms fs) ≡ onto g (steps (n + 1) (set ts n s.time.0) (set ms n s.mark.0) (set fs n s.ticks))
unfolding closing onto
onto_closing s g n ts ms fs = let e : n + suc (length g.steps) ≡ suc n + length g.steps = omega arith in rw (add-one n, e)

-- ---- the end

pub ends_read : (n : ℕ) (ts ms fs : List ℕ) → left (Ok (record { outcome = Ok tt; steps = n })) ts ms fs ≡ onto (ends_with ended) (steps n ts ms fs)
unfolding onto
ends_read n ts ms fs = rw (add-zero n)

pub ends_refused : (f : Refusal) (n : ℕ) (ts ms fs : List ℕ) → left (Ok (record { outcome = Err f; steps = n })) ts ms fs ≡ onto (ends_with (refused_at f.limit f.place.0)) (steps n ts ms fs)
unfolding onto
ends_refused f n ts ms fs = rw (add-zero n)

-- ---- all of them, where there are no more steps than bytes

module _ (r : List ℕ) (g : Reading) (few : length g.steps ≤ length r) (ts ms fs : List ℕ) (room : Room r ts ms fs) where
  pub onto_all : onto g (steps 0 ts ms fs) ≡ filled (recorded g) ts ms fs
  unfolding onto
  onto_all =
      rw (
        zero-add (length g.steps),
        sets_written (map time_of g.steps) ts (omega (arith, few, room.times, length-map g.steps time_of)),
        sets_written (map mark_of g.steps) ms (omega (arith, few, room.marks, length-map g.steps mark_of)),
        sets_written (map ticks_of g.steps) fs (omega (arith, few, room.ticks, length-map g.steps ticks_of)),
      )

-- a list that is still as long as it was has a place for the next step
pub place : (s : Step) (g h : Reading) (n : ℕ) (r xs ys : List ℕ) → h ≡ closing (Some s) g → n + length h.steps ≤ length r → length xs ≡ length ys → length r ≤ length ys → n < length xs
place s g h n r xs ys e few same room = omega (arith, few, same, room, one_fewer s g h e)
