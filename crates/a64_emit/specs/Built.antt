-- The ops that are emitted.
use Rattle.std.specs.Prelude.{◌≡◌, nat_lt, Bool, true, All}
use Rattle.air_ir.specs.Kinds.{Kind, Checks, ChecksResult, Copies, Computes, Loads, Stores, Calls, Patches, SlotAddresses, FramePointers, Branches, Jumps, Switches, Returns, Fails, kind_of}
use Rattle.air_ir.specs.declared.op.AirOp.{AirOp}
use Rattle.air_ir.specs.declared.op.AirOp.TheVariants.{Patch}
use Rattle.air_ir.specs.declared.procedure.AirBlock.{AirBlock}
use Rattle.air_ir.specs.declared.procedure.AirInst.{AirInst}
use Rattle.air_ir.specs.declared.procedure.AirProc.{AirProc}

-- the kinds of ops that are emitted: copies, what computes a word, accesses, checks, calls and patchpoints, addresses in the
-- frame, and what ends a block
abbrev pub is_built_kind : Kind → Bool → Bool
is_built_kind Copies traps = true
is_built_kind Computes traps = true
is_built_kind (Loads extent extends) traps = true
is_built_kind (Stores extent) traps = true
is_built_kind (Calls typed) traps = true
is_built_kind (Patches typed) traps = true
is_built_kind (Checks test) traps = true
is_built_kind (ChecksResult checked) traps = true
is_built_kind SlotAddresses traps = true
is_built_kind FramePointers traps = true
is_built_kind (Branches test) traps = true
is_built_kind Jumps traps = true
is_built_kind (Switches cases) traps = true
is_built_kind Returns traps = true
is_built_kind Fails traps = true

-- a patchpoint without words isn't
abbrev pub is_built : AirOp → Bool → Bool
is_built (Patch size typed) traps = nat_lt 0 size
is_built op traps = is_built_kind (kind_of op) traps

abbrev pub IsBuilt : AirProc → Type 0
IsBuilt p = All (λ (b : AirBlock). All (λ (i : AirInst). is_built i.op i.traps ≡ true) b.insts) p.blocks
