use Rattle.std.proofs.Common.{◌≡◌, ◌++◌}
use Rattle.b3_ir.specs.Procedure.{values_of}
use Rattle.air_select.specs.Selected.{argument_moves}
use Rattle.air_select.proofs.entry.push_arguments.Given as goal

abbrev pub invariant-loop-r : goal.invariant-loop-r
invariant-loop-r l = l.insts ≡ l.initial.insts ++ argument_moves l.index (values_of l.p.procedure 0) l.value l.r
