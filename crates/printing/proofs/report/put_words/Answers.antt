use Prim.Native.Nat.{◌+◌}
use native.Mathlib.Omega.{arith}
use lib.IntN.{pos}
use lib.ListN.{set}
use Rattle.constraint.specs.Meaning.{word}
use Rattle.printing.specs.Printed.{rest}
use Rattle.printing.specs.Put.{Put}
use Rattle.printing.proofs.PrintedLaws.{texts, left_pair, left_end}
use Rattle.printing.proofs.PutLaws.{left_all}
use Rattle.printing.proofs.report.put_words.Goals as goal
use Rattle.printing.proofs.report.put_words.Goals.{After-loop-i}

pub loop-i-preserved : goal.loop-i-preserved
loop-i-preserved c =
    (omega arith, omega arith, left_pair c.args.words.now _ _ c.loop-i.invariant.2 c.loop-i-test.true c.put_pair-to.ensures.put)

-- the line's end is put last
whole : (c : After-loop-i) → Put c.args.out.now c.args.at (rest (texts c.args.words.now)) (set c.loop-i.out c.loop-i.to 10) (c.loop-i.to + 1)
whole c = left_end c.args.words.now _ (word (pos 0)) c.loop-i.invariant.2 c.loop-i-test.false

pub loop-i-init : goal.loop-i-init
loop-i-init c = (omega arith, omega arith, left_all _ _ _)

pub returns : goal.returns
returns c = record { put = whole c; short = omega arith }
