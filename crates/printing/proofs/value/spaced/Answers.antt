-- `spaced` meets its contract: a space, then the digits, at most 20. Assumes nothing.
use mathlib.Core.List.{◌∷◌}
use native.Mathlib.Omega.{arith}
use lib.ListN.{length-set}
use borrow.Author.Rules.{rules}
use Rattle.text.specs.Digits.{digits}
use Rattle.printing.specs.Put.{Put}
use Rattle.printing.proofs.DecimalLaws.{digits_of_64}
use Rattle.printing.proofs.PutLaws.{put_byte, put_then}
use Rattle.printing.proofs.value.spaced.Goals as goal
use Rattle.printing.proofs.value.spaced.Goals.{After-put_number}

pub put_number-requires : goal.put_number-requires
put_number-requires c =
    let a = c.args in
    omega (arith, length-set a.out.now a.at 32, digits_of_64 a.n (search rules))

-- the space and the digits
both : (c : After-put_number) → Put c.args.out.now c.args.at (32 ∷ digits c.args.n) c.put_number.new.out c.put_number.result
both c = put_then (put_byte _ _ 32) c.put_number.ensures

pub returns : goal.returns
returns c =
    let p = (goal.at.returns c).After-put_number in
    record { put = both p; short = omega (arith, (both p).ends, digits_of_64 c.args.n (search rules)) }
