-- The text determines what was told: no two answers print alike. Assumes nothing.
use Rattle.std.specs.Prelude.{◌≡◌}
use Rattle.run.specs.Run.{Told}
use Rattle.printing.specs.Printed.{printed, shown}

-- verdict, number of accepted steps, and the two words of each constraint
pub record Alike (t u : Told) : Type 0 where
  pub said : t.said ≡ u.said
  pub steps : t.steps ≡ u.steps
  pub words : shown t ≡ shown u

abbrev pub TextDetermines : Type 0
TextDetermines = (t u : Told) → printed t ≡ printed u → Alike t u
