-- The instruction of an access, and addresses in the frame.
use Rattle.std.specs.Prelude.{ℕ, ℤ, ◌*◌, ◌/◌, ◌%◌, true, false, ◌&&◌, nat_eq, nat_le, if◌then◌else◌, List, [], ◌∷◌}
use Rattle.std.specs.Int.{cast_unsigned, w64}
use Rattle.b3_base.specs.declared.word.Width.{Width}
use Rattle.b3_base.specs.declared.word.Width.TheVariants.{W32, W64}
use Rattle.a64_inst.specs.StepMemory.{access_bytes}
use Rattle.a64_inst.specs.declared.inst.AccessKind.{AccessKind}
use Rattle.a64_inst.specs.declared.inst.AccessKind.TheVariants.{Strb, Ldrb, Ldrsb, Strh, Ldrh, Ldrsh, StrW, LdrW, StrX, LdrX}
use Rattle.a64_inst.specs.declared.inst.Inst.{Inst}
use Rattle.a64_inst.specs.declared.inst.Inst.TheVariants.{Access, AccessNear, AddSubImm}
use Rattle.air_ir.specs.declared.op.AirOp.{AirOp}
use Rattle.air_ir.specs.declared.op.AirOp.TheVariants as op
use Rattle.a64_code.specs.Places.{unless_zero}

-- which access a load or a store of a width is
abbrev pub access_kind : AirOp → Width → AccessKind
access_kind op.Load8Z width = Ldrb
access_kind op.Load8S width = Ldrsb
access_kind op.Load16Z width = Ldrh
access_kind op.Load16S width = Ldrsh
access_kind op.Load W32 = LdrW
access_kind op.Load W64 = LdrX
access_kind op.Store8 width = Strb
access_kind op.Store16 width = Strh
access_kind op.Store W32 = StrW
access_kind _ width = StrX

-- an access at a number of bytes above a register: a multiple of its size in 12 bits is scaled
abbrev pub offset_access : AccessKind → ℕ → ℕ → ℤ → Inst
offset_access kind rt rn offset =
    let above : ℕ = cast_unsigned w64 offset in
    if nat_eq (above % access_bytes kind) 0 && nat_le above (4095 * access_bytes kind) then
    Access kind rt rn (above / access_bytes kind) else
    AccessNear kind rt rn offset

-- the upper 12 bits of a number of 24 bits
abbrev pub upper : ℕ → ℕ
upper bytes = bytes / 4096 % 4096

-- the address so many bytes, a number of 24 bits, below x29, in a register
unfoldable pub below_x29 : ℕ → ℕ → List Inst
below_x29 reg bytes =
    if nat_le bytes 4095 then AddSubImm W64 true false reg 29 bytes false ∷ [] else
    AddSubImm W64 true false reg 29 (upper bytes) true
    ∷ unless_zero (bytes % 4096) (AddSubImm W64 true false reg reg (bytes % 4096) false ∷ [])
