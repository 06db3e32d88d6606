-- The line's end behind the words. Assumes nothing.
use lib.Seq.{take_all}
use Rattle.std.proofs.Common.{◌≡◌, take}
use Rattle.std.proofs.Output.{has_written_append, has_written_of_eq}
use Rattle.printing.proofs.PrintedLaws.{config_line_is}
use Rattle.printing.proofs.ConfigLineDisplay.fmt.Goals as goal

pub returns-clause-writes : goal.returns-clause-writes
returns-clause-writes g c p ok =
    let all : take c.loop-word.word-index c.args.self.now.0.now ≡ c.args.self.now.0.now = take_all _ _ c.loop-word-test.false in
    let so_far = c.loop-word.invariant p in
    has_written_of_eq _ _ _ _ _ (rw all (config_line_is c.args.self.now.0.now)) (has_written_append _ _ _ _ _ _ so_far (c.writeln.ensures.writes so_far.plain ok))
