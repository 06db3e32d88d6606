use Rattle.std.proofs.Common.{rules}
use mir.Syntax.{w64}
use mir.Val.{SFits}
use mir.Facts.{to_z-of_z}
use lib.IntN.{pos}
use lib.ListN.{get_or}
use Rattle.constraint.specs.Pairs.{first, second}
use Rattle.constraint.specs.declared.Word.{Word}
use Rattle.monitor_c.proofs.Writes.{pair_written}
use Rattle.monitor_c.proofs.lists.put_words.Goals as goal

pub loop-i-preserved : goal.loop-i-preserved
loop-i-preserved c =
    let w : Word = get_or c.args.pairs.now c.loop-i.i (record { first = pos 0; second = pos 0 }) in
    let f : SFits w64 w.first = search rules in
    let g : SFits w64 w.second = search rules in
    rw (to_z-of_z f, to_z-of_z g) (pair_written first second c.args.pairs.now c.args.words.now c.loop-i.words c.loop-i.i _ c.loop-i.invariant c.loop-i-test.true c.requires)
