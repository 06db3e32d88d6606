-- `word_from` meets its contract. Assumes nothing.
use mathlib.Core.Path.{sym, ◌∙◌}
use Rattle.text.proofs.Runs.{next_none, next_alone, next_some}
use Rattle.text.proofs.split.word_from.Goals as goal

pub returns-then-n-start : goal.returns-then-n-start
returns-then-n-start c =
    let r = c.run_end-start in
    next_none c.args.class _ _ _ r.ensures c.if-n-start.true

pub returns-then-contains : goal.returns-then-contains
returns-then-contains c =
    let i = c.contains in
    let r = c.run_end-start in
    next_alone c.args.class _ _ _ r.ensures c.if-n-start.false (rw (← c.ends-end_class.ensures) (sym i.ensures ∙ c.if-contains.true))

pub returns : goal.returns
returns c =
    let i = c.contains in
    let r = c.run_end-start in
    next_some c.args.class _ _ _ r.ensures c.if-n-start.false (rw (← c.ends-end_class.ensures) (sym i.ensures ∙ c.if-contains.false)) _ (rw (← c.ends-end_class.ensures) c.run_end-end.ensures)

pub bounds-text-start : goal.bounds-text-start
bounds-text-start c = c.if-n-start.false
