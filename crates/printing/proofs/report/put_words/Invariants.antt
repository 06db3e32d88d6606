-- `put_words` meets its contract. The invariant: the parts from i on, and the line's end, are what is left of the text. Assumes nothing.
use Prim.Native.Nat.{◌+◌, ◌-◌, ◌*◌, ◌≤◌}
use lib.ListN.{length, drop}
use Rattle.printing.specs.Printed.{rest}
use Rattle.printing.proofs.PrintedLaws.{texts}
use Rattle.printing.proofs.PutLaws.{Left}
use Rattle.printing.proofs.report.put_words.Given as goal

abbrev pub invariant-loop-i : goal.invariant-loop-i
invariant-loop-i l =
    (l.i ≤ length l.words) × (l.to ≤ l.at + 42 * l.i) × Left l.initial.out l.at (rest (texts l.words)) l.out l.to (rest (texts (drop l.i l.words)))

abbrev pub decreases-loop-i : goal.decreases-loop-i
decreases-loop-i l = length l.words - l.i
