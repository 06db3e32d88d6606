-- The checks of the lists, and the table and the header as they were read. Assumes nothing.
use Rattle.std.specs.Prelude.{true, false, Ok, Err}
use mathlib.Core.Path.{◌≡◌, refl, ap}
use mathlib.Core.List.{List, []}
use Prim.Native.Nat.{ℕ}
use borrow.Author.Tests.{ltb-false}
use mathlib.Core.Bool.{Bool, ◌||◌, true≢false}
use Rattle.limit.specs.Limit.{number_of}
use Rattle.limit.specs.declared.Refusal.{Refusal}
use Rattle.grammar.specs.declared.Table.{Table}
use Rattle.table.specs.Reader as table
use Rattle.recording.specs.Body.{onward, reading}
use Rattle.recording.specs.Header.{opened}
use Rattle.limit.specs.Checked.{stopped}
use Rattle.recording.specs.Variables.{Naming, naming_in}
use Rattle.recording.specs.declared.UnknownNames.{UnknownNames}
use Rattle.run.proofs.RunLaws.{is_read, is_table}
use Rattle.reading.specs.Filling.{Room}
use Rattle.reading.specs.Recorded.{Recorded, recorded, with_table, recorded_of, left, filled, too_short, untouched, recorded_into}

-- ---- the lists

neither : (x y : Bool) → (x || y) ≡ false → (x ≡ false) × (y ≡ false)
neither true y e = absurd (true≢false e)
neither false y e = (refl, e)

module _ (t r : List ℕ) (u : UnknownNames) (ts ms fs : List ℕ) where
  pub no_room : too_short r ts ms fs ≡ true → untouched ts ms fs ≡ recorded_into t r u ts ms fs
  unfolding recorded_into
  no_room e = rw e refl

  pub in_room : too_short r ts ms fs ≡ false → filled (recorded_of t r u) ts ms fs ≡ recorded_into t r u ts ms fs
  unfolding recorded_into
  in_room e = rw e refl

  -- then each list has a place for each byte
  pub room : too_short r ts ms fs ≡ false → Room r ts ms fs
  room e =
      let both = neither _ _ e in
      let front = neither _ _ both.0 in
      record { times = ltb-false _ _ front.0; marks = ltb-false _ _ front.1; ticks = ltb-false _ _ both.1 }

-- ---- the table

-- nothing but a refusal
abbrev pub refused_with : Refusal → Recorded
refused_with f = record { said = table.refused (number_of f.limit) f.place.0; steps = [] }

module _ (t r : List ℕ) (u : UnknownNames) where
  pub table_refused : (f : Refusal) → table.told (Err f) ≡ table.read_table t → recorded_of t r u ≡ refused_with f
  unfolding with_table
  table_refused f e = rw (← e)

  pub table_read : (b : Table) → table.told (Ok b) ≡ table.read_table t → recorded_of t r u ≡ recorded (reading (naming_in t b.names u) r)
  unfolding with_table
  table_read b e = rw (is_read t b e) (ap (λ (d : Table). recorded (reading (naming_in t d.names u) r)) (is_table t b e))

-- ---- the header

pub header_refused : (g : Naming) (r : List ℕ) (f : Refusal) (ts ms fs : List ℕ) → stopped f.limit f.place.0 ≡ opened g r
    → left (Ok (record { outcome = Err f; steps = 0 })) ts ms fs ≡ filled (recorded (reading g r)) ts ms fs
unfolding onward
header_refused g r f ts ms fs e = rw (← e)
