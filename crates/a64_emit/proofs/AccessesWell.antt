-- The instructions of accesses have their fields in range.
use Rattle.std.proofs.Common.{◌≡◌, ℕ, ◌*◌, ◌/◌, ◌%◌, ◌^◌, ◌<◌, ◌≤◌, Bool, true, false, refl, arith}
use Rattle.std.specs.Prelude.{ℤ, pos, negsuc, ◌≤ℤ◌, ◌&&◌, ◌||◌, nat_eq, nat_le, if◌then◌else◌}
use Rattle.std.specs.Int.{cast_unsigned, w64}
use Rattle.std.proofs.lemmas.Bool.{and_parts, leb-true}
use Rattle.std.proofs.lemmas.Int.{ints}
use Rattle.a64_inst.specs.StepMemory.{access_bytes}
use Rattle.a64_inst.specs.WellFormed.{IsWellFormed}
use Rattle.a64_inst.specs.declared.inst.AccessKind.{AccessKind}
use Rattle.a64_inst.specs.declared.inst.AccessKind.TheVariants.{Strb, Ldrb, Ldrsb, Strh, Ldrh, Ldrsh, StrW, LdrW, StrX, LdrX}
use Rattle.a64_inst.specs.declared.inst.Inst.TheVariants.{Access, AccessNear}
use Rattle.air_ir.specs.Forms.{is_offset}
use Rattle.air_ir.specs.declared.operand.Arg.{Arg}
use Rattle.air_ir.specs.declared.operand.Arg.TheVariants.{At, Imm, Addr, Index, FrameSlot}
use Rattle.air_ir.specs.declared.operand.Home.{Home}
use Rattle.air_ir.specs.declared.operand.Home.TheVariants.{Reg, Spill, Tmp}
use Rattle.a64_code.specs.Accesses.{offset_access}
use Rattle.a64_emit.specs.Code.{access_inst, source_of}
use Rattle.a64_code.specs.Computing.{reg_of}
use Rattle.a64_emit.specs.Fitting.{IsReached}

or_first : (a b : Bool) → (a || b) ≡ true → b ≡ false → a ≡ true
or_first true b e f = refl
or_first false b e f = absurd cc

units_small : (kind : AccessKind) (n : ℕ) → n ≤ 4095 * access_bytes kind → n / access_bytes kind < 2 ^ 12
units_small Strb n le = omega arith
units_small Ldrb n le = omega arith
units_small Ldrsb n le = omega arith
units_small Strh n le = omega arith
units_small Ldrh n le = omega arith
units_small Ldrsh n le = omega arith
units_small StrW n le = omega arith
units_small LdrW n le = omega arith
units_small StrX n le = omega arith
units_small LdrX n le = omega arith

abbrev is_scaled : ℕ → ℕ → Bool
is_scaled bytes above = nat_eq (above % bytes) 0 && nat_le above (4095 * bytes)

-- an offset that isn't scaled is near
pub near_is_small : (bytes : ℕ) (offset : ℤ) → is_offset bytes offset ≡ true → is_scaled bytes (cast_unsigned w64 offset) ≡ false
    → (negsuc 255 ≤ℤ offset) × (offset ≤ℤ pos 255)
near_is_small bytes (pos n) fits far =
    let le = leb-true n 255 (or_first (nat_le n 255) (is_scaled bytes n) fits far) in (omega (arith, ints), omega (arith, ints))
near_is_small bytes (negsuc n) fits far = let le = leb-true n 255 fits in (omega (arith, ints), omega (arith, ints))

offset_well : (kind : AccessKind) (rt rn : ℕ) (offset : ℤ) → rt ≤ 31 → rn ≤ 31 → is_offset (access_bytes kind) offset ≡ true
    → IsWellFormed (offset_access kind rt rn offset)
offset_well kind rt rn offset le_rt le_rn fits =
    let above : ℕ = cast_unsigned w64 offset in
    elim (is_scaled (access_bytes kind) above) as (λ b. is_scaled (access_bytes kind) above ≡ b
    → IsWellFormed (if b then Access kind rt rn (above / access_bytes kind) else AccessNear kind rt rn offset)) [
      | true ↦ λ e.
          let most = leb-true above (4095 * access_bytes kind) (and_parts (nat_eq (above % access_bytes kind) 0) (nat_le above (4095 * access_bytes kind)) e).1 in
          (le_rt, le_rn, units_small kind above most)
      | false ↦ λ e. let near = near_is_small (access_bytes kind) offset fits e in (le_rt, le_rn, near.0, near.1)
    ] refl

-- a home that is a register of the processor, where it is one
abbrev pub IsSmallHome : Home → Type 0
IsSmallHome (Reg r) = r.0 ≤ 30
IsSmallHome home = Unit {0}

home_reg_small : (scratch : ℕ) (home : Home) → scratch ≤ 30 → IsSmallHome home → reg_of (source_of scratch (At home)) ≤ 31
home_reg_small scratch (Reg r) le small = omega arith
home_reg_small scratch (Spill n) le small = omega arith
home_reg_small scratch (Tmp n) le small = omega arith

abbrev pub HasSmallHomes : Arg → Type 0
HasSmallHomes (Addr base offset) = IsSmallHome base
HasSmallHomes (Index base index shift) = IsSmallHome base × IsSmallHome index
HasSmallHomes arg = Unit {0}

pub access_well : (kind : AccessKind) (rt : ℕ) (address : Arg) → rt ≤ 31 → HasSmallHomes address → IsReached kind address
    → IsWellFormed (access_inst kind rt address)
access_well kind rt (Addr base offset) le small fits =
    offset_well kind rt (reg_of (source_of 15 (At base))) offset le (home_reg_small 15 base (omega arith) small) fits
access_well kind rt (Index base index shift) le small fits =
    (le, home_reg_small 15 base (omega arith) small.0, home_reg_small 16 index (omega arith) small.1)
access_well kind rt (At home) le small fits = tt
access_well kind rt (Imm word) le small fits = tt
access_well kind rt (FrameSlot n) le small fits = tt
