use Rattle.std.proofs.Common.{take}
use Rattle.b3_ir.specs.Procedure.{procedures}
use Rattle.a64_object.specs.Joined.{IsJoinedOf}
use Rattle.a64_object.proofs.object.joined_object.Given as goal

abbrev pub invariant-loop-at : goal.invariant-loop-at
invariant-loop-at l = IsJoinedOf (take l.at (procedures l.valid)) l.object
