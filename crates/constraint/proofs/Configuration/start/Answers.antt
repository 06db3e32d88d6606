use Rattle.std.proofs.Common.{arith, ap, sym, ◌≡◌, ◌∙◌, length, length-set}
use Rattle.constraint.specs.Lists.{empty, slots}
use Rattle.constraint.specs.Meaning.{start}
use Rattle.constraint.proofs.Slots.{length_slots}
use Rattle.constraint.proofs.Walk.{slot_at, map_on, map_done}
use Rattle.constraint.proofs.Configuration.start.Goals as goal

pub loop-i-preserved : goal.loop-i-preserved
loop-i-preserved c =
    let rs = c.args.records.now in
    let i = c.loop-i.i in
    let e = length_slots 64 rs in
    let k : length c.loop-i.words ≡ 64 = c.loop-i.invariant.size in
    record {
      size = length-set c.loop-i.words i _ ∙ k;
      started = map_on start (slots 64 rs) c.loop-i.words i empty _ (omega arith) (omega arith) c.loop-i.invariant.started (c.start.ensures ∙ ap start (c.slot.ensures ∙ sym (slot_at 64 rs i empty (omega arith))));
    }

pub returns : goal.returns
returns c =
    let e = length_slots 64 c.args.records.now in
    let k : length c.loop-i.words ≡ 64 = c.loop-i.invariant.size in
    let i : c.loop-i.i ≡ 64 = omega arith in
    map_done start (slots 64 c.args.records.now) c.loop-i.words c.loop-i.i (omega arith) (omega arith) c.loop-i.invariant.started
