-- A table has at most 32 clocks, so that their count fits.
use Rattle.std.proofs.Common.{arith}
use Rattle.table.proofs.TableVerdict.{most_clocks}
use Rattle.monitor_c.proofs.calls.read_into.Goals as goal

pub overflow_add-clocks : goal.overflow_add-clocks
overflow_add-clocks c = record { fits = omega (arith, most_clocks c.args.text.now c.in-Ok.table c.in-Ok.ensures) }
