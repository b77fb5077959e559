use Rattle.std.proofs.Common.{◌≡◌, take}
use Rattle.std.specs.Prelude.{sum_by}
use Rattle.a64_emit.specs.Code.{exits_of}
use Rattle.a64_emit.proofs.procedure.block_exits.Given as goal

abbrev pub invariant-loop-inst : goal.invariant-loop-inst
invariant-loop-inst l = l.count ≡ sum_by exits_of (take l.inst-index l.block.insts)
