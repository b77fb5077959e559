-- The definitions computed on one procedure, which returns its first argument plus one.
use Rattle.std.proofs.Common.{◌≡◌, ℕ, false, List, [], ◌∷◌, Some, refl}
use Rattle.std.specs.Prelude.{codes, nat_eq, if◌then◌else◌}
use Rattle.b3_base.specs.Memory.{is_mapped, read_word, write_word}
use Rattle.b3_base.specs.Run.{iterate}
use Rattle.b3_base.specs.declared.observation.Status.TheVariants.{Going, Returned}
use Rattle.b3_ir.specs.Procedure.{Procedure}
use Rattle.b3_ir.specs.declared.opcode.Opcode.TheVariants.{Const64, ArgumentReg, Add, Return}
use Rattle.b3_ir.specs.declared.opcode.Ty.TheVariants.{Void, Int64}
use Rattle.b3_ir.specs.declared.value.Body.TheVariants.{Plain, Constant, Argument}
use Rattle.b3_ir.specs.declared.value.Value.{Value}
use Rattle.b3_base.specs.Observed.{MachineStart, no_memory}
use Rattle.b3_meaning.specs.Run.{b3_run}
use Rattle.stackmap.specs.declared.site.Returns.TheVariants.{W64}
use Rattle.exit_table.specs.declared.tables.FrameRow.{FrameRow}
use Rattle.elf_obj.specs.declared.object.Object.{Object}
use Rattle.elf_obj.specs.declared.object.Symbol.{Symbol}
use Rattle.a64_word.specs.Decode.{decode}
use Rattle.a64_word.specs.Parts.{by_row}
use Rattle.a64_inst.specs.Step.{step_of, add_sub_imm, add_sub_reg, move_wide, access, store_pair, load_pair, branch_reg, shifted}
use Rattle.a64_run.specs.Placement.{start_of}
use Rattle.a64_run.specs.Machine.{Entry, machine_run}

abbrev values : List Value
values =
    record { id = 0; ty = Int64; kind = record { opcode = ArgumentReg; chill = false; traps = false }; children = []; body = Argument (record { 0 = 0 }); line = 3 }
    ∷ record { id = 1; ty = Int64; kind = record { opcode = Const64; chill = false; traps = false }; children = []; body = Constant 1; line = 4 }
    ∷ record { id = 2; ty = Int64; kind = record { opcode = Add; chill = false; traps = false }; children = 0 ∷ 1 ∷ []; body = Plain; line = 5 }
    ∷ record { id = 3; ty = Void; kind = record { opcode = Return; chill = false; traps = false }; children = 2 ∷ []; body = Plain; line = 6 }
    ∷ []

abbrev add_one : Procedure
add_one = record { name = codes "f"; line = 1; slots = []; blocks = record { number = 0; line = 2; values = values } ∷ [] }

-- its code by hand: add x0, x0, #1 and ret
abbrev short_code : List ℕ
short_code = 0x9100_0400 ∷ 0xD65F_03C0 ∷ []

abbrev symbol : Symbol
symbol = record { name = codes "f"; offset = 0; size = 8 }

abbrev frame : FrameRow
frame = record { bytes = 16; returns = W64; slots = []; saved = [] }

abbrev short_object : Object
short_object = record { text = short_code; symbols = symbol ∷ []; tables = record { frames = frame ∷ []; sites = [] } }

-- a start with 41 in x0 and a return address outside the text
abbrev start : MachineStart
start = record {
  registers = λ r. if nat_eq r 0 then 41 else if nat_eq r 30 then 0x3000_0000 else 0;
  sp = 0x8000_0000;
  code = 0x4000_0000;
  memory = no_memory;
  stack = λ _. 0;
  junk = λ _. 0;
}

abbrev entry : Entry
entry = record { object = short_object; symbol = symbol; frame = frame; start = start }

going : (b3_run add_one (start_of short_object frame start) [] 0).status ≡ Going
unfolding iterate
going = refl

returned : (b3_run add_one (start_of short_object frame start) [] 1).status ≡ Returned (Some 42)
unfolding iterate
returned = refl

stays : (b3_run add_one (start_of short_object frame start) [] 2).status ≡ Returned (Some 42)
unfolding iterate
stays = refl

machine_going : (machine_run entry [] 1).status ≡ Going
unfolding iterate decode by_row step_of add_sub_imm
machine_going = refl

machine_returned : (machine_run entry [] 2).status ≡ Returned (Some 42)
unfolding iterate decode by_row step_of add_sub_imm branch_reg
machine_returned = refl

machine_stays : (machine_run entry [] 3).status ≡ Returned (Some 42)
unfolding iterate decode by_row step_of add_sub_imm branch_reg
machine_stays = refl

-- a longer code for it, in which each value has a place in the frame
abbrev long_code : List ℕ
long_code =
    0xA9BF_7BFD ∷ 0x9100_03FD ∷ 0xD100_83FF ∷ 0xF900_03E0 ∷ 0xD280_002F ∷ 0xF2A0_000F ∷ 0xF2C0_000F ∷ 0xF2E0_000F ∷ 0xF900_07EF
    ∷ 0xF940_03EF ∷ 0xF940_07F0 ∷ 0x8B10_01F1 ∷ 0xF900_0BF1 ∷ 0xF940_0BE0 ∷ 0x9100_03BF ∷ 0xA8C1_7BFD ∷ 0xD65F_03C0 ∷ []

abbrev long_symbol : Symbol
long_symbol = record { name = codes "f"; offset = 0; size = 68 }

abbrev long_frame : FrameRow
long_frame = record { bytes = 48; returns = W64; slots = []; saved = [] }

abbrev long_object : Object
long_object = record { text = long_code; symbols = long_symbol ∷ []; tables = record { frames = long_frame ∷ []; sites = [] } }

abbrev long_entry : Entry
long_entry = record { object = long_object; symbol = long_symbol; frame = long_frame; start = start }

longer_going : (machine_run long_entry [] 3).status ≡ Going
unfolding iterate decode by_row step_of add_sub_imm store_pair is_mapped write_word
longer_going = refl

longer_returned : (machine_run long_entry [] 17).status ≡ Returned (Some 42)
unfolding iterate decode by_row step_of add_sub_imm add_sub_reg move_wide access store_pair load_pair branch_reg shifted is_mapped read_word write_word
longer_returned = refl
