use Rattle.std.proofs.Common.{take}
use Rattle.std.specs.List.{list_any}
use Rattle.air_ir.specs.declared.operand.Operand.{Operand}
use Rattle.air_frame.specs.Marks.{Marks}
use Rattle.air_frame.specs.Needs.{arg_names, arg_spills, greatest}
use Rattle.air_frame.proofs.spills.mark_inst.Given as goal

abbrev pub invariant-loop-operand : goal.invariant-loop-operand
invariant-loop-operand l =
    Marks l.fn.named l.named (greatest (λ (o : Operand). arg_spills o.arg) (take l.operand-index l.operand-items))
    (λ n. list_any (λ (o : Operand). arg_names n o.arg) (take l.operand-index l.operand-items))
