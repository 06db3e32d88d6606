-- The edges of document 01 and those of the delay hold: one claim over each table, which antt computes. Assumes nothing.
use mathlib.Core.Path.{refl}
use Rattle.constraint.specs.Edges.{EdgesHold, DelaysHold}

pub edges_hold : EdgesHold
edges_hold = refl

pub delays_hold : DelaysHold
delays_hold = refl
