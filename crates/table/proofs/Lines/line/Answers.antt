-- `line` gives the line that begins at the offset, if one is left. Assumes nothing.
use Rattle.std.proofs.Common.{refl, false, arith, ◌≤◌, length}
use Rattle.text.specs.Bytes.{passes}
use Rattle.text.specs.declared.Class.TheVariants.{Newline}
use Rattle.text.proofs.Runs.{run_from, run_within}
use Rattle.table.proofs.ReaderLaws.{one_line}
use Rattle.table.proofs.Lines.line.Goals as goal
use Rattle.table.proofs.Lines.line.Goals.{After-run_end-end}

-- the line ends within the text
within : (e : After-run_end-end) → e.run_end-end.result ≤ length e.args.self.now.text.now
within e = omega (arith, e.run_end-end.ensures, run_within (passes Newline false) e.args.self.now.text.now e.args.self.now.at e.if-self.false)

pub overflow_add-self : goal.overflow_add-self
overflow_add-self c = omega (arith, within c)

pub returns : goal.returns
returns c =
    let e = (goal.at.returns c).After-run_end-end in
    let s = c.args.self.now in
    (refl, (one_line s.text.now s.at c.run_end-end.result c.if-self.false c.run_end-end.ensures, refl, omega (arith, c.run_end-end.ensures, run_from (passes Newline false) s.text.now s.at), within e, refl))
