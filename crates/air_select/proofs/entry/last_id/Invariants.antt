use Rattle.std.proofs.Common.{List, length}
use Rattle.b3_ir.specs.Procedure.{values_from, values_of}
use Rattle.b3_ir.specs.declared.value.Value.{Value}
use Rattle.air_select.proofs.Entries.{last_from}
use Rattle.air_fold.proofs.Walks.{IsWalked}
use Rattle.air_select.proofs.entry.last_id.Given as goal

abbrev pub invariant-loop-at : goal.invariant-loop-at
invariant-loop-at l = IsWalked l.p 0 (λ (vs : List Value). last_from l.id vs) (last_from 0 (values_of l.p.procedure 0)) l.at

abbrev pub decreases-loop-at : goal.decreases-loop-at
decreases-loop-at l = length (values_from l.p 0 l.at)
