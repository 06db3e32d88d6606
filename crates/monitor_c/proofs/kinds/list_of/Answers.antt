use Rattle.std.proofs.Common.{sym, ap, ◌∙◌, take, length, arith}
use Rattle.monitor_c.proofs.Bytes.{too_many, zero_given, none_given}
use Rattle.monitor_c.proofs.kinds.list_of.Goals as goal
use Rattle.std.proofs.lemmas.List.{take_all, length-take}

pub returns-then-contains : goal.returns-then-contains
returns-then-contains c =
    c.new-list.ensures ∙ zero_given c.args.numbers c.args.count c.to_le_bytes-bytes.result c.to_le_bytes-bytes.ensures c.if-count-gt8.false (sym c.contains.ensures.value ∙ c.if-contains.true)

pub returns-then-count-gt8 : goal.returns-then-count-gt8
returns-then-count-gt8 c = c.new-list.ensures ∙ too_many c.args.numbers c.args.count c.if-count-gt8.true

pub push-requires : goal.push-requires
push-requires c =
    let bs = c.to_le_bytes-bytes.result in
    omega (arith, ap length c.loop-number.invariant, length-take c.args.count bs, length-take c.loop-number.number-index (take c.args.count bs))

pub returns : goal.returns
returns c =
    c.loop-number.invariant ∙ take_all c.loop-number.number-index (take c.args.count c.to_le_bytes-bytes.result) c.loop-number-test.false
    ∙ none_given c.args.numbers c.args.count c.to_le_bytes-bytes.result c.to_le_bytes-bytes.ensures c.if-count-gt8.false (sym c.contains.ensures.value ∙ c.if-contains.false)
