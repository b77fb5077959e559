-- The sites of emitted code, in the order of their marks. No public clause cites this module.
use Rattle.std.specs.Prelude.{ℕ, ◌-◌, ◌*◌, ◌%◌, ◌^◌, ◌<◌, Bool, true, false, nat_le, if◌then◌else◌, List, [], ◌∷◌, ◌++◌, length, take, drop, All, Option, None}
use Rattle.std.specs.Int.Bits.{bit_or}
use Rattle.std.specs.List.{flat_map}
use Rattle.b3_base.specs.declared.word.Width.{Width}
use Rattle.b3_ir.specs.declared.value.Reg.{Reg as Register}
use Rattle.stackmap.specs.declared.site.Place.{Place}
use Rattle.stackmap.specs.declared.site.Rep.{Rep}
use Rattle.stackmap.specs.declared.site.Rep.TheVariants as rep
use Rattle.stackmap.specs.declared.site.Site.{Site}
use Rattle.stackmap.specs.declared.site.SiteKind.{SiteKind}
use Rattle.stackmap.specs.declared.site.SiteKind.TheVariants as site_kind
use Rattle.air_ir.specs.Kinds.{Calls, Checks, ChecksResult, Kind, Loads, Patches, Stores, kind_of}
use Rattle.air_ir.specs.Operands.{is_read}
use Rattle.air_ir.specs.SitesInPlaces.{register_at}
use Rattle.air_ir.specs.declared.frame.Frame.{Frame}
use Rattle.air_ir.specs.declared.op.AirOp.{AirOp}
use Rattle.air_ir.specs.declared.op.AirOp.TheVariants as op
use Rattle.air_ir.specs.declared.operand.Arg.{Arg}
use Rattle.air_ir.specs.declared.operand.Arg.TheVariants.{At, Imm}
use Rattle.air_ir.specs.declared.operand.Home.TheVariants.{Reg, Spill}
use Rattle.air_ir.specs.declared.operand.Operand.{Operand}
use Rattle.air_ir.specs.declared.procedure.AirBlock.{AirBlock}
use Rattle.air_ir.specs.declared.procedure.AirInst.{AirInst}
use Rattle.air_ir.specs.declared.procedure.AirProc.{AirProc}
use Rattle.a64_emit.specs.Code.{result_at, test_count, width_at}
use Rattle.a64_code.specs.Places.{spill_offset}

-- the site of an access that traps
abbrev pub trap_site : ℕ → Site
trap_site value = record { kind = site_kind.Trap; value = value; size = 1; reps = []; result = None; clobbers = 0 }

-- where the word of an argument stands
abbrev pub rep_of : Frame → Arg → Rep
rep_of f (At (Reg reg)) = rep.Register reg
rep_of f (At (Spill n)) = rep.Slot (spill_offset f n)
rep_of f (Imm word) = rep.Constant word
rep_of f _ = rep.Constant 0

abbrev pub place_of : Frame → Operand → Place
place_of f o = record { width = o.width; rep = rep_of f o.arg }

-- the places of those operands that are read
abbrev pub and_place : Bool → Frame → Operand → List Place → List Place
and_place true f o places = place_of f o ∷ places
and_place false f o places = places

unfoldable pub places_read : Frame → List Operand → List Place
places_read f [] = []
places_read f (o ∷ os) = and_place (is_read o.role) f o (places_read f os)

-- a set with one more of the registers x0 to x30
abbrev pub with_register : ℕ → ℕ → ℕ
with_register set r = if nat_le r 30 then bit_or set (1 * 2 ^ r % 2 ^ 32) else set

abbrev pub with_home : ℕ → Arg → ℕ
with_home set (At (Reg reg)) = with_register set reg.0
with_home set _ = set

-- a set with the registers of those operands that are written
unfoldable pub with_written : ℕ → List Operand → ℕ
with_written set [] = set
with_written set (o ∷ os) = with_written (if is_read o.role then set else with_home set o.arg) os

-- the last operand is a result
abbrev pub without_result : Bool → List Operand → List Operand
without_result typed os = take (length os - (if typed then 1 else 0)) os

abbrev pub result_in : Bool → List Operand → Option (Width × Register)
result_in true os = register_at (width_at os (length os - 1)) (result_at os)
result_in false os = None

-- a site at which the outside acts: the words that are reported are those that the operands from one on read
abbrev pub outward_site : Frame → SiteKind → ℕ → Bool → ℕ → AirInst → Site
outward_site f kind size typed from i = record {
  kind = kind;
  value = i.value;
  size = size;
  reps = places_read f (drop from i.operands);
  result = result_in typed i.operands;
  clobbers = with_written 0 (without_result typed i.operands);
}

-- the site of a check, whose inputs are the operands below one
abbrev pub exit_site : Frame → ℕ → AirInst → Site
exit_site f from i = record {
  kind = site_kind.Exit;
  value = i.value;
  size = 1;
  reps = places_read f (drop from i.operands);
  result = None;
  clobbers = 0;
}

abbrev pub patch_size : AirOp → ℕ
patch_size (op.Patch size typed) = size
patch_size _ = 0

-- the sites whose marks stand within the items of an instruction; the words of a call are those behind its function
abbrev pub sites_by : Kind → Frame → AirInst → List Site
sites_by (Loads extent extends) f i = if i.traps then trap_site i.value ∷ [] else []
sites_by (Stores extent) f i = if i.traps then trap_site i.value ∷ [] else []
sites_by (Calls typed) f i = outward_site f site_kind.Call 1 typed 1 i ∷ []
sites_by (Patches typed) f i = outward_site f site_kind.Patchpoint (patch_size i.op) typed 0 i ∷ []
sites_by _ f i = []

-- the sites of its exit
abbrev pub exit_by : Kind → Frame → AirInst → List Site
exit_by (Checks test) f i = exit_site f (test_count test) i ∷ []
exit_by (ChecksResult checked) f i = exit_site f 2 i ∷ []
exit_by _ f i = []

abbrev pub inst_sites : Frame → AirInst → List Site
inst_sites f i = sites_by (kind_of i.op) f i

abbrev pub inst_exit : Frame → AirInst → List Site
inst_exit f i = exit_by (kind_of i.op) f i

abbrev pub block_sites : Frame → AirBlock → List Site
block_sites f b = flat_map (inst_sites f) b.insts

abbrev pub block_exit_sites : Frame → AirBlock → List Site
block_exit_sites f b = flat_map (inst_exit f) b.insts

-- the exits' marks come after all others
abbrev pub inner_sites : AirProc → Frame → List Site
inner_sites p f = flat_map (block_sites f) p.blocks

abbrev pub exit_sites : AirProc → Frame → List Site
exit_sites p f = flat_map (block_exit_sites f) p.blocks

abbrev pub procedure_sites : AirProc → Frame → List Site
procedure_sites p f = inner_sites p f ++ exit_sites p f

-- the ids of values are numbers of 32 bits
abbrev pub HasSmallValuesIn : AirBlock → Type 0
HasSmallValuesIn b = All (λ (i : AirInst). i.value < 2 ^ 32) b.insts

abbrev pub HasSmallValues : AirProc → Type 0
HasSmallValues p = All HasSmallValuesIn p.blocks
