-- Surveying the records from this one on, from what is known and with the words as they now are, comes to surveying all from the beginning.
use Rattle.std.proofs.Common.{◌≡◌, length, drop}
use Rattle.lent.specs.Survey.{begins, surveyed}
use Rattle.lent.proofs.walks.step.Given as goal

abbrev pub invariant-loop-i : goal.invariant-loop-i
invariant-loop-i l = record {
  words : length l.after.words ≡ 64;
  same :
      surveyed l.i (record { known = l.survey; words = l.after.words }) (drop l.i l.first)
      ≡ surveyed 0 (record { known = begins l.fn.clocks l.fn.ticks; words = l.fn.configuration.words }) l.first;
}
