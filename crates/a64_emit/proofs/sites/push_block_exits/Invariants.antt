use Rattle.std.proofs.Common.{◌≡◌, ◌++◌, take}
use Rattle.std.specs.List.{flat_map}
use Rattle.a64_emit.specs.Made.{inst_exit}
use Rattle.a64_emit.proofs.sites.push_block_exits.Given as goal

abbrev pub invariant-loop-inst : goal.invariant-loop-inst
invariant-loop-inst l = l.sites ≡ l.initial.sites ++ flat_map (inst_exit l.frame) (take l.inst-index l.block.insts)
