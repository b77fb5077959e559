use Rattle.std.proofs.Common.{◌≡◌, ◌^◌, ◌<◌, ◌++◌, take}
use Rattle.std.specs.Prelude.{All}
use Rattle.std.specs.List.{flat_map}
use Rattle.air_ir.specs.declared.procedure.AirInst.{AirInst}
use Rattle.a64_emit.specs.Made.{inst_sites}
use Rattle.a64_emit.proofs.sites.push_block_sites.Given as goal

abbrev pub invariant-loop-inst : goal.invariant-loop-inst
invariant-loop-inst l = record {
  sites : l.sites ≡ l.initial.sites ++ flat_map (inst_sites l.frame) (take l.inst-index l.block.insts);
  small : All (λ (i : AirInst). i.value < 2 ^ 32) (take l.inst-index l.block.insts);
}
