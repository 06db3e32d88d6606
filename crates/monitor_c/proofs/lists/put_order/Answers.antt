use Rattle.std.proofs.Common.{ap, ◌∙◌}
use Rattle.std.proofs.lemmas.List.{take_all}
use Rattle.reading.specs.Written.{written}
use Rattle.monitor_c.proofs.Writes.{cleared, number_written, over_zeros}
use Rattle.monitor_c.proofs.lists.put_order.Goals as goal

pub loop-i-preserved : goal.loop-i-preserved
loop-i-preserved c =
    let rs = c.args.records.now in
    let zs = c.clear.new.numbers in
    number_written rs zs c.loop-i.numbers c.loop-i.i c.loop-i.invariant c.loop-i-test.true (cleared 32 rs c.args.numbers.now zs c.clear.ensures c.requires.few c.requires.room)

pub returns : goal.returns
returns c =
    let rs = c.args.records.now in
    over_zeros 32 rs c.args.numbers.now c.clear.new.numbers c.loop-i.numbers c.requires.few c.clear.ensures
    (c.loop-i.invariant ∙ ap (λ qs. written qs c.clear.new.numbers) (take_all c.loop-i.i rs c.loop-i-test.false))
