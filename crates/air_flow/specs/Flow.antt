-- A procedure of Air as a flow: the names are its temporaries by their numbers, and after them the registers x0 to
-- x30. Each instruction is a place.
use Rattle.std.specs.Prelude.{ℕ, ◌+◌, List, [], map, length, Option, Some, None, slice_index_or, filter_map, flat_map}
use Rattle.flow_live.specs.Graph.{Graph}
use Rattle.flow_live.specs.declared.touch.Touch.{Touch}
use Rattle.flow_live.specs.declared.touch.Touch.TheVariants as touch
use Rattle.air_ir.specs.Blocks.{block_of}
use Rattle.air_ir.specs.Related.{homes_of}
use Rattle.air_ir.specs.declared.operand.Arg.{Arg}
use Rattle.air_ir.specs.declared.operand.Arg.TheVariants.{At}
use Rattle.air_ir.specs.declared.operand.Home.{Home}
use Rattle.air_ir.specs.declared.operand.Home.TheVariants.{Tmp, Reg, Spill}
use Rattle.air_ir.specs.declared.operand.Operand.{Operand}
use Rattle.air_ir.specs.declared.operand.Role.{Role}
use Rattle.air_ir.specs.declared.operand.Role.TheVariants.{Use, LateUse, EarlyDef, Def, Clobber}
use Rattle.air_ir.specs.declared.procedure.AirBlock.{AirBlock}
use Rattle.air_ir.specs.declared.procedure.AirInst.{AirInst}
use Rattle.air_ir.specs.declared.procedure.AirProc.{AirProc}

-- the name of a home, where there are so many temporaries; a spill place has none
abbrev pub name_of : ℕ → Home → Option ℕ
name_of tmps (Tmp number) = Some number
name_of tmps (Reg reg) = Some (tmps + reg.0)
name_of tmps (Spill number) = None

-- the home of an operand that is written is defined, and the base and index of an address are used
abbrev pub written_as : Arg → ℕ → Touch
written_as (At home) name = touch.Def name
written_as _ name = touch.Use name

-- how an operand touches the names of its homes
abbrev pub touch_as : Role → Arg → ℕ → Touch
touch_as Use arg name = touch.Use name
touch_as LateUse arg name = touch.LateUse name
touch_as EarlyDef arg name = written_as arg name
touch_as Def arg name = written_as arg name
touch_as Clobber arg name = written_as arg name

-- the touches of an operand: one for each of its homes that has a name
abbrev pub operand_touches : ℕ → Operand → List Touch
operand_touches tmps o = map (touch_as o.role o.arg) (filter_map (name_of tmps) (homes_of o.arg))

-- the touches of an instruction, by its operands in order
abbrev pub touches_of : ℕ → List Operand → List Touch
touches_of tmps os = flat_map (operand_touches tmps) os

abbrev pub inst_touches : ℕ → AirInst → List Touch
inst_touches tmps i = touches_of tmps i.operands

-- those of the instructions of a block, and of the instruction at a place

abbrev pub block_touches : ℕ → AirBlock → List (List Touch)
block_touches tmps b = map (inst_touches tmps) b.insts

abbrev pub touches_at : AirProc → ℕ → ℕ → List Touch
touches_at p block place = slice_index_or (block_touches p.tmps (block_of p block)) place []

-- the flow of a procedure
abbrev pub flow_of : AirProc → Graph
flow_of p = record {
  blocks = length p.blocks;
  names = p.tmps + 31;
  places = λ block. length (block_of p block).insts;
  successors = λ block. length (block_of p block).targets;
  successor = λ block k. slice_index_or (block_of p block).targets k 0;
  touches = λ block place. length (touches_at p block place);
  touch = λ block place k. slice_index_or (touches_at p block place) k (touch.Use 0);
}
