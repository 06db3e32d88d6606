use Rattle.std.proofs.Common.{sym, ◌∙◌}
use borrow.Author.Tests.{eqb-true}
use Rattle.monitor_c.proofs.Rows.{kind_unknown, in_shape}
use Rattle.monitor_c.proofs.records.shape.Goals as goal

pub returns-then-not-kinds_known : goal.returns-then-not-kinds_known
returns-then-not-kinds_known c =
    let even = sym c.as_chunks.ensures.back_len ∙ eqb-true _ 0 (sym c.is_empty.ensures ∙ c.if-not-is_empty.false) in
    kind_unknown c.args.numbers.now c.as_chunks.result.0.now c.as_chunks.ensures.front even (sym c.kinds_known.ensures ∙ c.if-not-kinds_known.true)

pub returns : goal.returns
returns c =
    let even = sym c.as_chunks.ensures.back_len ∙ eqb-true _ 0 (sym c.is_empty.ensures ∙ c.if-not-is_empty.false) in
    in_shape c.args.numbers.now c.as_chunks.result.0.now c.as_chunks.ensures.front even (sym c.kinds_known.ensures ∙ c.if-not-kinds_known.false)
