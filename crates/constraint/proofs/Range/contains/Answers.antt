use Rattle.std.proofs.Common.{Bool, ◌&&◌, ◌≡◌, sym, ap, ◌∙◌, rules}
use lib.IntN.{pos}
use Rattle.constraint.specs.Meaning.{between}
use Rattle.constraint.proofs.Range.contains.Goals as goal

pub returns-then-between : goal.returns-then-between
returns-then-between c =
    let s = c.args.self in
    let w = c.args.w in
    let one : c.between.result ≡ between s.low s.high w.first = search rules in
    let two : c.between-then-between.result ≡ between (pos 0) s.most_used w.second = search rules in
    two ∙ ap (λ (x : Bool). x && between (pos 0) s.most_used w.second) (sym (sym one ∙ c.if-between.true))
