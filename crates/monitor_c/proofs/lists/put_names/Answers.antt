use Rattle.std.proofs.Common.{arith, refl, ap, ◌∙◌, List, ℕ, [], ◌∷◌}
use Rattle.std.proofs.lemmas.List.{take_all}
use Rattle.text.specs.declared.Span.{Span}
use Rattle.monitor_c.specs.Numbers.{name_numbers}
use Rattle.reading.specs.Written.{written}
use Rattle.monitor_c.proofs.Writes.{length_flat, pair_written, over_zeros}
use Rattle.monitor_c.proofs.lists.put_names.Goals as goal

pub loop-i-preserved : goal.loop-i-preserved
loop-i-preserved c =
    pair_written (λ (p : Span). p.start) (λ (p : Span). p.end) c.args.spans.now c.clear.new.numbers c.loop-i.numbers c.loop-i.i _ c.loop-i.invariant c.loop-i-test.true (omega arith)

pub returns : goal.returns
returns c =
    let ps = c.args.spans.now in
    let pair : Span → List ℕ = λ p. p.start ∷ p.end ∷ [] in
    over_zeros 64 (name_numbers ps) c.args.numbers.now c.clear.new.numbers c.loop-i.numbers (omega (arith, length_flat pair 2 (λ p. refl) ps, c.requires.few)) c.clear.ensures
    (c.loop-i.invariant ∙ ap (λ qs. written (name_numbers qs) c.clear.new.numbers) (take_all c.loop-i.i ps c.loop-i-test.false))
