-- The moves of a procedure: its Moves, and the pairs of its Shuffles, from a home to a home.
use Rattle.std.specs.Prelude.{List, [], ◌∷◌, ◌++◌}
use Rattle.std.specs.List.{flat_map}
use Rattle.air_ir.specs.Kinds.{Kind, Copies, kind_of}
use Rattle.air_ir.specs.declared.operand.Arg.{Arg}
use Rattle.air_ir.specs.declared.operand.Arg.TheVariants.{At}
use Rattle.air_ir.specs.declared.operand.Operand.{Operand}
use Rattle.air_ir.specs.declared.procedure.AirBlock.{AirBlock}
use Rattle.air_ir.specs.declared.procedure.AirInst.{AirInst}
use Rattle.air_ir.specs.declared.procedure.AirProc.{AirProc}
use Rattle.air_graph.specs.declared.moves.Copied.{Copied}

-- the copy of one argument to another, where both are homes
abbrev pub copied : Arg → Arg → List Copied
copied (At from) (At to) = record { from = from; to = to } ∷ []
copied from to = []

-- the copies of operands by pairs of a source and a destination
unfoldable pub pairs_of : List Operand → List Copied
pairs_of (from ∷ to ∷ os) = copied from.arg to.arg ++ pairs_of os
pairs_of (o ∷ []) = []
pairs_of [] = []

abbrev pub copied_by : Kind → List Operand → List Copied
copied_by Copies os = pairs_of os
copied_by _ os = []

-- those of an instruction, of a block and of a procedure, in order
abbrev pub inst_moves : AirInst → List Copied
inst_moves i = copied_by (kind_of i.op) i.operands

abbrev pub block_moves : AirBlock → List Copied
block_moves b = flat_map inst_moves b.insts

abbrev pub moves_of : AirProc → List Copied
moves_of p = flat_map block_moves p.blocks
