use Rattle.std.proofs.Common.{take}
use Rattle.std.specs.Prelude.{All}
use Rattle.b3_ir.specs.Procedure.{Kept}
use Rattle.b3_rules.specs.Rules.{IsId}
use Rattle.b3_validate.specs.Index.{IsIndexOf}
use Rattle.b3_validate.proofs.values.are_ids.Given as goal

abbrev pub invariant-loop-id : goal.invariant-loop-id
invariant-loop-id l = (p : Kept) → IsIndexOf p l.index → All (IsId p.procedure) (take l.id-index l.ids)
