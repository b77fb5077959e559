use Rattle.std.proofs.Common.{◌≡◌, map, take}
use Rattle.air_spill.specs.Rewritten.{home_by, rewritten_block}
use Rattle.air_spill.proofs.procedure.rewritten_blocks.Given as goal

abbrev pub invariant-loop-block : goal.invariant-loop-block
invariant-loop-block l = l.list ≡ map (rewritten_block (home_by l.assignment)) (take l.block-index l.blocks)
