-- No public clause cites this module: the values that make a site which is no access, what is asked of one, and the
-- opcodes that touch memory or the outside.
use Rattle.std.specs.Prelude.{◌≡◌, ℕ, ◌≤◌, Bool, true, false, drop, length}
use Rattle.b3_ir.specs.declared.opcode.Opcode.{Opcode}
use Rattle.b3_ir.specs.declared.opcode.Opcode.TheVariants.{CCall, Check, CheckAdd, CheckMul, CheckSub, FramePointer, Load, Load16S, Load16Z, Load8S, Load8Z, Patchpoint, SlotBase, Store, Store16, Store8}
use Rattle.b3_ir.specs.declared.value.Value.{Value}
use Rattle.stackmap.specs.Registers.{constraints_of}
use Rattle.stackmap.specs.Rules.{IsPlaceable}
use Rattle.air_stackmap.specs.Laws.{has_stackmap as has_map}

-- patchpoints, checks and calls
abbrev pub is_site : Opcode → Bool
is_site CCall = true
is_site op = has_map op

-- the opcodes that are selected as accesses, the address of a slot or the frame pointer, calls, patchpoints or checks
abbrev pub touches : Opcode → Bool
touches FramePointer = true
touches SlotBase = true
touches Load8Z = true
touches Load8S = true
touches Load16Z = true
touches Load16S = true
touches Load = true
touches Store8 = true
touches Store16 = true
touches Store = true
touches CCall = true
touches Patchpoint = true
touches Check = true
touches CheckAdd = true
touches CheckSub = true
touches CheckMul = true
touches _ = false

-- how many children such a value has in front of those that are reported
abbrev pub computed_count : Opcode → ℕ
computed_count Check = 1
computed_count CheckAdd = 2
computed_count CheckSub = 2
computed_count CheckMul = 2
computed_count _ = 0

-- a call has at most 8 arguments; of a patchpoint or a check the registers of its children can be given, and it has as
-- many as constraints
pub record SuitsSite (v : Value) : Type 0 where
  pub few : v.kind.opcode ≡ CCall → length v.children ≤ 9
  pub placeable : has_map v.kind.opcode ≡ true → IsPlaceable v
  pub counts : has_map v.kind.opcode ≡ true
      → length (drop (computed_count v.kind.opcode) v.children) ≡ length (constraints_of v)
