use Rattle.std.proofs.Common.{rules, ◌<◌, length, get_or}
use Rattle.std.proofs.lemmas.List.Edits.{map_over_more}
use Rattle.order.specs.Rows.{row_through}
use Rattle.order.proofs.circles.through.Goals as goal

pub loop-row-preserved : goal.loop-row-preserved
loop-row-preserved c =
    let more : c.loop-row.row-index < length c.args.rows.now = search (rules, c.loop-row-test.true) in
    rw (c.row_through.ensures, ← c.row-item.is) (map_over_more (row_through c.args.k (get_or c.args.rows.now c.args.k c.index-rows-k.result)) c.args.rows.now c.loop-row.row-items c.loop-row.row-index c.row-item.result more c.loop-row.invariant c.row-item.is)
