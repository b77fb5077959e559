use Rattle.std.proofs.Common.{◌≡◌, take}
use Rattle.std.specs.List.{flat_map}
use Rattle.air_spill.specs.Rewritten.{home_by, rewritten_inst}
use Rattle.air_spill.proofs.procedure.rewritten_block.Given as goal

abbrev pub invariant-loop-inst : goal.invariant-loop-inst
invariant-loop-inst l = l.insts ≡ flat_map (rewritten_inst (home_by l.assignment)) (take l.inst-index l.block.insts)
