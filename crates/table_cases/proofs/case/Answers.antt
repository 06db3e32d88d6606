-- A table that was read has at most 32 clocks. Assumes nothing.
use Rattle.table.proofs.TableVerdict.{most_clocks}
use Rattle.table_cases.proofs.case.Goals as goal

pub table-requires : goal.table-requires
table-requires g c = most_clocks _ c.in-Ok.table c.in-Ok.ensures
