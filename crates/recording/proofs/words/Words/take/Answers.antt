use Rattle.std.proofs.Common.{refl}
use Rattle.text.proofs.Runs.{is_last, is_word}
use Rattle.recording.proofs.words.Words.take.Goals as goal

pub returns-then-word : goal.returns-then-word
returns-then-word c = let none = is_last _ _ _ _ c.next_word-word.ensures c.if-word.true in (refl, (none, none))

pub returns : goal.returns
returns c = (refl, is_word _ _ _ _ c.next_word-word.ensures c.if-word.false)
