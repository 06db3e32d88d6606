-- The words so far are written. Assumes nothing.
use Rattle.std.proofs.Common.{◌++◌, take}
use Rattle.std.specs.Fmt.{HasWritten, IsPlainFormatter}
use Rattle.std.specs.Prelude.{codes}
use Rattle.printing.proofs.PrintedLaws.{words_text}
use Rattle.printing.proofs.ConfigLineDisplay.fmt.Given as goal

abbrev pub invariant-loop-word : goal.invariant-loop-word
invariant-loop-word g l =
    IsPlainFormatter l.fn.f → HasWritten g.W.Write.write_str_gives l.fn.f (codes "config" ++ words_text (take l.word-index l.word-items)) l.f
