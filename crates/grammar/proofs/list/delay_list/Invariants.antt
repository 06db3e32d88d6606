-- What the digit runs that are left make of the list so far is what all make of it. Assumes nothing.
use Rattle.std.proofs.Common.{◌≡◌, length, []}
use Rattle.std.specs.Prelude.{Some}
use Rattle.text.specs.Words.{words_left}
use Rattle.grammar.specs.Answers.{with_numbers}
use Rattle.grammar.specs.Grammar.{delay_numbers, past_digits}
use Rattle.grammar.proofs.list.delay_list.Given as goal

abbrev pub invariant-loop-digits : goal.invariant-loop-digits
invariant-loop-digits l = record {
  line : l.words.text.now ≡ l.fn.words.text.now;
  list : with_numbers l.list (delay_numbers l.fn.words.text.now (words_left l.words)) ≡ with_numbers (Some []) (delay_numbers l.fn.words.text.now (words_left l.fn.words));
  past : past_digits l.fn.words.text.now (words_left l.words) ≡ past_digits l.fn.words.text.now (words_left l.fn.words);
}

abbrev pub decreases-loop-digits : goal.decreases-loop-digits
decreases-loop-digits l = length (words_left l.words)
