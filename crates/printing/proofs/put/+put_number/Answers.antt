use Prim.Native.Nat.{ℕ, ◌+◌, ◌%◌, ◌<◌}
use mathlib.Core.Path.{ap}
use mathlib.Core.List.{List}
use native.Mathlib.Omega.{arith}
use lib.ListN.{length, set}
use Rattle.text.specs.Digits.{digits}
use Rattle.printing.specs.Put.{Put}
use Rattle.printing.proofs.DecimalLaws.{front, front_none, front_some, digits_last, digits_length}
use Rattle.printing.proofs.PutLaws.{put_none, put_byte, put_then, put_length}
use Rattle.printing.proofs.put.+put_number.Goals as goal
use Rattle.printing.proofs.put.+put_number.Goals.{Joined-n-ge10, else-n-ge10, then-n-ge10}

-- where the branch ends, the digits before the last are put
in_front : (t : ℕ) → (c : Joined-n-ge10 t) → Put c.args.out.now c.args.at (front digits c.args.n) c.if-n-ge10.out c.if-n-ge10.last
in_front t c =
    elim c.if-n-ge10.branch [ then-n-ge10 w ↦ rw (w.out-is, w.last-is, front_some c.args.n w.if-n-ge10.true) w.put_number-last.ensures | else-n-ge10 w ↦ rw (w.out-is, w.last-is, front_none c.args.n w.if-n-ge10.false) (put_none _ _) ]

-- and there is room for the last
room : (t : ℕ) → (c : Joined-n-ge10 t) → c.if-n-ge10.last < length c.if-n-ge10.out
room t c = omega (arith, (in_front t c).ends, put_length (in_front t c), digits_length c.args.n, c.requires)

pub put_number-last-requires : goal.put_number-last-requires
put_number-last-requires t c =
    let n : ℕ = c.args.n in
    (omega arith, omega (arith, digits_length n, ap (λ (l : List ℕ). length l) (front_some n c.if-n-ge10.true)))

-- with the last, they are the digits
whole : (t : ℕ) → (c : Joined-n-ge10 t) → Put c.args.out.now c.args.at (digits c.args.n) (set c.if-n-ge10.out c.if-n-ge10.last (48 + c.args.n % 10)) (c.if-n-ge10.last + 1)
whole t c = rw (digits_last c.args.n) (put_then (in_front t c) (put_byte _ _ _))

pub bounds-out-last : goal.bounds-out-last
bounds-out-last t c = room t c

pub overflow_add-result : goal.overflow_add-result
overflow_add-result t c = omega (arith, (whole t (goal.at.overflow_add-result t c).Joined-n-ge10).ends)

pub returns : goal.returns
returns t c = whole t (goal.at.returns t c).Joined-n-ge10
