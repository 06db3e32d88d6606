-- The words moved so far, in front of what the records and words to come give.
use Rattle.std.proofs.Common.{◌≡◌, ◌+◌, length, take, drop, None}
use Rattle.constraint.specs.Ticks.{bits}
use Rattle.judging.specs.Code.{walked}
use Rattle.judging.proofs.Turns.{onto}
use Rattle.judging.proofs.step.judge_each.Given as goal

abbrev pub invariant-loop-i : goal.invariant-loop-i
invariant-loop-i l = record {
  size : length l.words ≡ 64;
  gives : walked (bits l.ticks) 1 None l.records l.fn.words ≡ onto (take l.i l.words) (walked (bits l.ticks) (l.i + 1) l.past (drop l.i l.records) (drop l.i l.words));
}
