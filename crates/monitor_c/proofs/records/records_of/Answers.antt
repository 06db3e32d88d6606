use Rattle.std.proofs.Common.{length, [], ◌∷◌, ◌++◌, ap, ap₂, take, map, ◌∙◌, arith}
use Rattle.std.proofs.lemmas.List.{length-append, take_all}
use Rattle.monitor_c.proofs.Rows.{record_in, records_read, one_more, first_65}
use Rattle.monitor_c.proofs.records.records_of.Goals as goal

pub loop-row-preserved : goal.loop-row-preserved
loop-row-preserved c = record {
  size = omega (arith, ap length c.push.ensures, length-append c.loop-row.records (c.record_of.result ∷ []));
  so_far =
      c.push.ensures ∙ ap₂ (λ rs r. rs ++ r ∷ []) c.loop-row.invariant.so_far c.record_of.ensures
      ∙ one_more (take c.min.result c.as_chunks.result.0.now) c.loop-row.row-index _ c.loop-row-test.true;
}

pub returns : goal.returns
returns c =
    let rows = c.as_chunks.result.0.now in
    c.loop-row.invariant.so_far
    ∙ ap (map record_in) (take_all c.loop-row.row-index (take c.min.result rows) c.loop-row-test.false ∙ ap (λ k. take k rows) c.min.ensures ∙ first_65 rows)
    ∙ records_read c.args.numbers.now rows c.as_chunks.ensures.front
