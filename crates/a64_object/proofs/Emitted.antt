-- What is selected is emitted.
use Rattle.std.proofs.Common.{◌≡◌, ℕ, ◌<◌, Bool, true, false, refl, sym, subst, arith, lt-ltb}
use Rattle.std.specs.Prelude.{All}
use Rattle.b3_base.proofs.Lists.{All-from_places}
use Rattle.b3_ir.specs.declared.opcode.Opcode.TheVariants.{Patchpoint}
use Rattle.b3_ir.specs.declared.value.Stackmap.{Stackmap}
use Rattle.b3_ir.specs.declared.value.Value.{Value}
use Rattle.b3_rules.specs.Rules.{HasSize}
use Rattle.air_ir.specs.Expressed.{IsOpOf}
use Rattle.air_ir.specs.Kinds.{Kind, Calls, Checks, ChecksResult, Patches, Copies, Computes, Loads, Stores, SlotAddresses, FramePointers, Branches, Jumps, Switches, Returns, Fails, kind_of}
use Rattle.air_ir.specs.WellFormed.{StandsAt}
use Rattle.air_ir.specs.declared.op.AirOp.{AirOp}
use Rattle.air_ir.specs.declared.op.AirOp.TheVariants as op
use Rattle.air_ir.specs.declared.procedure.AirBlock.{AirBlock}
use Rattle.air_ir.specs.declared.procedure.AirInst.{AirInst}
use Rattle.air_ir.specs.declared.procedure.AirProc.{AirProc}
use Rattle.air_spill.specs.Stays.{ComesFromEach}
use Rattle.air_select.specs.Contract.{AreExpressed, has_stackmap}
use Rattle.a64_emit.specs.Built.{IsBuilt, is_built, is_built_kind}
use Rattle.a64_object.proofs.Values.{has_size, named_in}
use Rattle.b3_ir.specs.Procedure.{AllFit, Procedure}
use Rattle.b3_rules.specs.Valid.{IsValidProcedure}

-- ---- kinds
kind_built : (k : Kind) (traps : Bool) → is_built_kind k traps ≡ true
kind_built Copies traps = refl
kind_built Computes traps = refl
kind_built (Loads extent extends) traps = refl
kind_built (Stores extent) traps = refl
kind_built (Checks test) traps = refl
kind_built (ChecksResult checked) traps = refl
kind_built (Calls typed) traps = refl
kind_built (Patches typed) traps = refl
kind_built SlotAddresses traps = refl
kind_built FramePointers traps = refl
kind_built (Branches test) traps = refl
kind_built Jumps traps = refl
kind_built (Switches cases) traps = refl
kind_built Returns traps = refl
kind_built Fails traps = refl

-- a patchpoint has words
abbrev HasWords : AirOp → Type 0
HasWords (op.Patch size typed) = 0 < size
HasWords _ = Unit {0}

op_built : (o : AirOp) (traps : Bool) → HasWords o → is_built o traps ≡ true
op_built (op.Patch size typed) traps some = lt-ltb 0 size some
op_built o traps some = kind_built (kind_of o) traps

-- ---- patchpoints
module _ (p : Procedure) (valid : IsValidProcedure p) (fit : AllFit p.blocks) where
  -- the size of a patchpoint is its value's
  words_of : (o : AirOp) (map : Stackmap) (v : Value) → IsOpOf map v o → (v.kind.opcode ≡ Patchpoint → HasSize map) → has_stackmap (kind_of o) ≡ true → HasWords o
  words_of (op.Patch size typed) map v is sized e = let most = sized is.0 in omega (arith, is.1, most.0)
  words_of _ map v is sized e = tt

  inst_words : (q : AirProc) → AreExpressed p q → (block place : ℕ) (i : AirInst) → StandsAt q block place i → HasWords i.op
  inst_words q expressed block place i at = by (has_stackmap (kind_of i.op)) refl
    where
      no_words : (o : AirOp) → has_stackmap (kind_of o) ≡ false → HasWords o
      no_words (op.Patch size typed) e = cc
      no_words _ e = tt

      by : (b : Bool) → has_stackmap (kind_of i.op) ≡ b → HasWords i.op
      by false e = no_words i.op e
      by true e =
          let of = expressed block place i at e in
          let named = named_in p fit i.value of.0 of.1 in
          words_of i.op of.2.stackmap of.0 of.2.op (has_size p valid named.block named.place of.0 named.there of.2.stackmap of.2.carries) e

  pub built_of : (q r : AirProc) → AreExpressed p q → ComesFromEach q r → IsBuilt r
  built_of q r expressed comes =
      All-from_places (λ (b : AirBlock). All (λ (i : AirInst). is_built i.op i.traps ≡ true) b.insts) r.blocks
      (λ n block block_there. All-from_places (λ (i : AirInst). is_built i.op i.traps ≡ true) block.insts
      (λ k j inst_there.
      let from = comes n k j (record { of = block; block_there = block_there; inst_there = inst_there }) in
      let i : AirInst = from.1 in
      subst (λ o. is_built o j.traps ≡ true) (sym from.3.op) (op_built i.op j.traps (inst_words q expressed n from.0 i from.2))))
