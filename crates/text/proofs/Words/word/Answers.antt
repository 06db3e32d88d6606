-- `word` gives the first of the words that are left, if there is one. Assumes nothing.
use Rattle.std.proofs.Common.{refl}
use Rattle.text.proofs.Runs.{is_last, is_word}
use Rattle.text.proofs.Words.word.Goals as goal

pub returns-then-span : goal.returns-then-span
returns-then-span c =
    let none = is_last _ _ _ _ c.next_word-span.ensures c.if-span.true in
    (refl, (none, none))

pub returns : goal.returns
returns c = (refl, (is_word _ _ _ _ c.next_word-span.ensures c.if-span.false, c.of-bytes.ensures))
