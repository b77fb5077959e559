use Rattle.std.proofs.Common.{take}
use Rattle.std.specs.Prelude.{All}
use Rattle.b3_ir.specs.Procedure.{Kept}
use Rattle.b3_rules.specs.Rules.{IsBlockNumber}
use Rattle.b3_validate.specs.Index.{IsIndexOf}
use Rattle.b3_validate.proofs.values.are_blocks.Given as goal

abbrev pub invariant-loop-number : goal.invariant-loop-number
invariant-loop-number l = (p : Kept) → IsIndexOf p l.index → All (IsBlockNumber p.procedure) (take l.number-index l.numbers)
