use Rattle.std.proofs.Common.{◌≡◌, length, take, map}
use Rattle.monitor_c.proofs.Rows.{record_in}
use Rattle.monitor_c.proofs.records.records_of.Given as goal

abbrev pub invariant-loop-row : goal.invariant-loop-row
invariant-loop-row l = record { size : length l.records ≡ l.row-index; so_far : l.records ≡ map record_in (take l.row-index l.first) }
