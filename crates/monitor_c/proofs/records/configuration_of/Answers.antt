use Rattle.std.proofs.Common.{rules, ◌+◌, ◌*◌, get_or, ◌∙◌, arith}
use mir.Syntax.{w64}
use mir.Val.{SFits}
use mir.Facts.{to_z-of_z}
use lib.IntN.{pos}
use lib.ListN.{length-set}
use Rattle.monitor_c.proofs.Writes.{pair_read}
use Rattle.monitor_c.proofs.records.configuration_of.Goals as goal

pub loop-i-preserved : goal.loop-i-preserved
loop-i-preserved c =
    let ws = c.args.words.now in
    let f : SFits w64 (get_or ws (2 * c.loop-i.i) (pos 0)) = search rules in
    let g : SFits w64 (get_or ws (2 * c.loop-i.i + 1) (pos 0)) = search rules in
    rw (to_z-of_z f, to_z-of_z g) record {
      size = length-set c.loop-i.pairs c.loop-i.i _ ∙ c.loop-i.invariant.size;
      so_far = pair_read ws c.loop-i.pairs c.loop-i.i (omega arith) (omega arith) c.loop-i.invariant.so_far;
    }
