use Rattle.std.proofs.Common.{◌≡◌, ◌∷◌, map, take}
use Rattle.b3_ir.specs.Procedure.{values_of}
use Rattle.air_select.specs.Selected.{block_code, entry_of}
use Rattle.air_select.proofs.procedure.blocks_of.Given as goal

abbrev pub invariant-loop-block : goal.invariant-loop-block
invariant-loop-block l = l.list ≡ entry_of l.t.index (values_of l.p.procedure 0) ∷ map (block_code l.t) (take l.block l.p.procedure.blocks)
