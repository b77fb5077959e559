use Rattle.std.proofs.Common.{◌≡◌, ◌++◌, take}
use Rattle.std.specs.List.{flat_map}
use Rattle.a64_emit.specs.Made.{block_exit_sites, inner_sites}
use Rattle.a64_emit.proofs.sites.procedure_sites.Given as goal

abbrev pub invariant-loop-block : goal.invariant-loop-block
invariant-loop-block l = l.sites ≡ inner_sites l.p l.frame ++ flat_map (block_exit_sites l.frame) (take l.block-index l.p.blocks)
