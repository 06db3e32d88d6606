use Rattle.std.proofs.Common.{arith, refl, ap, ◌∙◌}
use Rattle.std.proofs.lemmas.List.{take_all}
use Rattle.monitor_c.specs.Numbers.{record_numbers, numbers_of}
use Rattle.reading.specs.Written.{written}
use Rattle.monitor_c.proofs.Writes.{length_flat, row_written, over_zeros}
use Rattle.monitor_c.proofs.lists.put_records.Goals as goal

pub loop-i-preserved : goal.loop-i-preserved
loop-i-preserved c =
    row_written numbers_of 8 (λ r. refl) c.args.records.now c.clear.new.numbers c.loop-i.numbers _ c.loop-i.i _ _ (omega arith) c.loop-i.invariant c.loop-i-test.true
    (c.copy_from_slice.ensures.after ∙ c.numbers_of.ensures ∙ ap numbers_of c.index-records-i.is)

pub returns : goal.returns
returns c =
    let rs = c.args.records.now in
    over_zeros 512 (record_numbers rs) c.args.numbers.now c.clear.new.numbers c.loop-i.numbers (omega (arith, length_flat numbers_of 8 (λ r. refl) rs, c.requires.few)) c.clear.ensures
    (c.loop-i.invariant ∙ ap (λ qs. written (record_numbers qs) c.clear.new.numbers) (take_all c.loop-i.i rs c.loop-i-test.false))
