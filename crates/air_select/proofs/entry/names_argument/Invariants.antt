use Rattle.std.proofs.Common.{List, length}
use Rattle.b3_ir.specs.Procedure.{values_from, values_of}
use Rattle.b3_ir.specs.declared.value.Value.{Value}
use Rattle.air_select.specs.Selected.{names_argument}
use Rattle.air_fold.proofs.Walks.{IsWalked}
use Rattle.air_select.proofs.entry.names_argument.Given as goal

abbrev pub invariant-loop-at : goal.invariant-loop-at
invariant-loop-at l = IsWalked l.p 0 (λ (vs : List Value). names_argument vs l.r) (names_argument (values_of l.p.procedure 0) l.r) l.at

abbrev pub decreases-loop-at : goal.decreases-loop-at
decreases-loop-at l = length (values_from l.p 0 l.at)
