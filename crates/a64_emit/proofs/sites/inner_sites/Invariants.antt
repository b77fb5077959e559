use Rattle.std.proofs.Common.{◌≡◌, take}
use Rattle.std.specs.Prelude.{All}
use Rattle.std.specs.List.{flat_map}
use Rattle.a64_emit.specs.Made.{HasSmallValuesIn, block_sites}
use Rattle.a64_emit.proofs.sites.inner_sites.Given as goal

abbrev pub invariant-loop-block : goal.invariant-loop-block
invariant-loop-block l = record {
  sites : l.sites ≡ flat_map (block_sites l.frame) (take l.block-index l.p.blocks);
  small : All HasSmallValuesIn (take l.block-index l.p.blocks);
}
