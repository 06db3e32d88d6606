use Rattle.std.proofs.Common.{◌∙◌}
use Rattle.monitor_c.proofs.Bytes.{packed_is}
use Rattle.monitor_c.proofs.kinds.packed.Goals as goal

pub returns : goal.returns
returns c =
    c.from_le_bytes.ensures
    ∙ packed_is c.copy_from_slice.new.self c.args.list.now c.len-count.result (c.copy_from_slice.ensures.after ∙ c.as_slice.ensures) c.len-count.ensures.value c.len-count.ensures.few
