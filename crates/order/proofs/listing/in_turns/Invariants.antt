-- So many are listed as turns are over, and the turns that are left list the others.
use Rattle.std.proofs.Common.{◌≡◌, ◌-◌, ◌++◌, length}
use Rattle.order.specs.Rows.{clocks_left, turns_of}
use Rattle.order.proofs.listing.in_turns.Given as goal

abbrev pub invariant-loop : goal.invariant-loop
invariant-loop l = record {
  many : length l.order.items ≡ l.index;
  gives : turns_of (length l.definitions) (clocks_left l.definitions) l.definitions ≡ l.order.items ++ turns_of (length l.definitions - l.index) l.left l.definitions;
}
