-- The pairs before i are written.
use Rattle.std.proofs.Common.{◌≡◌, take}
use Rattle.monitor_c.specs.Numbers.{pair_numbers}
use Rattle.reading.specs.Written.{written}
use Rattle.monitor_c.proofs.lists.put_words.Given as goal

abbrev pub invariant-loop-i : goal.invariant-loop-i
invariant-loop-i l = l.words ≡ written (pair_numbers (take l.i l.pairs)) l.initial.words
