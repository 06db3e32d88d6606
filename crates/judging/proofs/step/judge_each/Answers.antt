-- A record's word is moved, within its million or past it. Assumes nothing.
use Rattle.std.proofs.Common.{rules, ◌+◌, ◌<◌, sym, ap, ◌∙◌, length, length-set, arith}
use Rattle.limit.specs.declared.Place.{Place}
use Rattle.constraint.specs.Ticks.{bits}
use Rattle.judging.specs.Code.{turned}
use Rattle.judging.proofs.Turns.{onto_none, turn_on}
use Rattle.judging.proofs.step.judge_each.Goals as goal
use Rattle.judging.proofs.step.judge_each.Goals.{in-Moves, in-Leaves}

pub loop-i-init : goal.loop-i-init
loop-i-init c = record { size = search rules; gives = onto_none _ }

pub loop-i-preserved : goal.loop-i-preserved
loop-i-preserved c =
    let l = c.loop-i in
    let p : Place = record { 0 = l.i + 1 } in
    let room : l.i < length l.words = omega (arith, l.invariant.size, c.loop-i-test.true, c.requires) in
    let turn = turn_on (bits c.args.ticks) c.args.records.now l.words l.i _ c.index-records-i.is c.loop-i-test.true room l.past in
    elim c.match-look.branch [
      | in-Moves w ↦
          rw (w.words-is, w.past-is, w.by_numbers.ensures)
          (record {
            size = length-set l.words l.i _ ∙ l.invariant.size;
            gives = l.invariant.gives ∙ turn l.past _ w.in-Moves.word (λ behind. ap (λ a. turned a p l.past behind) (sym c.look.ensures ∙ w.in-Moves.is));
          })
      | in-Leaves w ↦
          rw (w.words-is, w.past-is, w.or-past.ensures)
          (record {
            size = length-set l.words l.i _ ∙ l.invariant.size;
            gives = l.invariant.gives ∙ turn _ _ w.in-Leaves.word (λ behind. ap (λ a. turned a p l.past behind) (sym c.look.ensures ∙ w.in-Leaves.is));
          })
    ]
