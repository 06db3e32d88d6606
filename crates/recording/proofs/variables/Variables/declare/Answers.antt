use Rattle.std.proofs.Common.{arith, length-set, get_or}
use native.Mathlib.Nat.{le_of_eq, min-le_left, min-le_right}
use Rattle.recording.proofs.VariableLaws.{room, length_variables, code_kept, starts_more, given_more}
use Rattle.recording.proofs.variables.Variables.declare.Goals as goal

pub invariant_of-self : goal.invariant_of-self
invariant_of-self c =
    let v = c.self.inside in
    let few = room v _ c.self.view_is c.self.invariant.counted c.requires.1 in
    let low = le_of_eq c.min.ensures in
    record {
      few = omega (arith, few);
      counted = length_variables _ _ _ (omega (arith, few, c.self.told, length-set v.ids v.count c.code-code.result)) (omega (arith, few, c.self.told, length-set v.clocks v.count c.args.clock));
      begins = starts_more v.count v.ids v.starts _ _ _ (omega (arith, few, c.self.told)) c.bucket-bucket.ensures.0 (omega (arith, c.self.told, c.bucket-bucket.ensures.1)) (omega (arith, low, min-le_left (get_or v.starts c.bucket-bucket.result 0) v.count)) (omega (arith, low, min-le_right (get_or v.starts c.bucket-bucket.result 0) v.count)) c.self.invariant.begins;
      given = given_more v _ _ _ _ few (omega (arith, few, c.self.told)) (omega (arith, few, c.self.told)) c.self.invariant.counted (code_kept _ _ c.code-code.ensures.0 c.code-code.ensures.1 c.requires.0) c.bucket-bucket.ensures.0 c.min.ensures c.self.invariant.given;
    }
