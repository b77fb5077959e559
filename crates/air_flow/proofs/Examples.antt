-- No public clause cites this module. Which homes interfere in small procedures.
use Rattle.std.proofs.Common.{◌≡◌, ℕ, zero, suc, ◌<◌, inl, inr, Some, List, [], ◌∷◌, false, get_or, arith, refl, sym, ap, subst}
use Rattle.std.specs.Prelude.{slice_get}
use Rattle.b3_base.specs.declared.word.Width.{Width}
use Rattle.b3_base.specs.declared.word.Width.TheVariants.{W64}
use Rattle.flow_live.specs.Graph.{Place}
use Rattle.flow_live.specs.declared.touch.Touch.TheVariants as touch
use Rattle.stackmap.specs.declared.site.Returns.TheVariants.{Nothing}
use Rattle.air_ir.specs.Kinds.{Copies, kind_of}
use Rattle.air_ir.specs.WellFormed.{StandsAt}
use Rattle.air_ir.specs.declared.op.AirOp.{AirOp}
use Rattle.air_ir.specs.declared.op.AirOp.TheVariants.{Shuffle, Add, Patch}
use Rattle.air_ir.specs.declared.operand.Arg.TheVariants.{At}
use Rattle.air_ir.specs.declared.operand.Home.{Home}
use Rattle.air_ir.specs.declared.operand.Home.TheVariants.{Tmp, Reg}
use Rattle.air_ir.specs.declared.operand.Operand.{Operand}
use Rattle.air_ir.specs.declared.operand.Role.{Role}
use Rattle.air_ir.specs.declared.operand.Role.TheVariants.{Use, LateUse, EarlyDef, Def, Clobber}
use Rattle.air_ir.specs.declared.procedure.AirBlock.{AirBlock}
use Rattle.air_ir.specs.declared.procedure.AirInst.{AirInst}
use Rattle.air_ir.specs.declared.procedure.AirProc.{AirProc}
use Rattle.air_flow.specs.Flow.{inst_touches}
use Rattle.air_flow.specs.Interfere.{Interfere, Meets, IsCopied, IsPair}
use Rattle.air_flow.specs.Living.{IsDefinedBy, IsLiveAfter}
use Rattle.air_flow.proofs.Lives.{spot}

abbrev x : ℕ → Home
x n = Reg (record { 0 = n })

abbrev in_role : Role → Home → Operand
in_role role home = record { role = role; width = W64; arg = At home }

abbrev alone : ℕ → List AirInst → AirProc
alone tmps is = record { blocks = record { insts = is; targets = [] } ∷ []; tmps = tmps; slots = []; returns = Nothing }

-- ---- a patchpoint, and a sum behind it

abbrev patch : AirInst
patch = record {
  op = Patch 2 false;
  operands = in_role Use (Tmp 0) ∷ in_role LateUse (Tmp 1) ∷ in_role EarlyDef (x 9) ∷ in_role Clobber (x 10) ∷ [];
  value = 0;
  traps = false;
}

abbrev sum : AirInst
sum = record {
  op = Add;
  operands = in_role Use (Tmp 2) ∷ in_role Use (x 9) ∷ in_role Def (x 0) ∷ [];
  value = 1;
  traps = false;
}

abbrev p : AirProc
p = alone 3 (patch ∷ sum ∷ [])

stands : StandsAt p 0 0 patch
stands = record { of = record { insts = patch ∷ sum ∷ []; targets = [] }; block_there = refl; inst_there = refl }

early : IsDefinedBy p patch (x 9)
early = (12, (omega arith, refl), (2, omega arith, refl))

clobbered : IsDefinedBy p patch (x 10)
clobbered = (13, (omega arith, refl), (3, omega arith, refl))

-- an early definition meets a use
early_meets_use : Interfere p (x 9) (Tmp 0)
early_meets_use =
    (λ e. cc, inr (spot 0 0, patch, stands, inl (early, inr (inr (inl ((W64, (2, omega arith, refl)), (0, (omega arith, refl), (0, omega arith, refl))))))))

-- a late use meets what is clobbered
late_use_meets_clobber : Interfere p (Tmp 1) (x 10)
late_use_meets_clobber =
    (λ e. cc, inr (spot 0 0, patch, stands, inr (clobbered, inr (inl (1, (omega arith, refl), (1, omega arith, refl))))))

-- what is live across an instruction meets what it clobbers
lives_across : IsLiveAfter p (spot 0 0) (Tmp 2)
lives_across =
    (spot 0 1, inl (omega arith, refl, refl), (2, (omega arith, refl), record { path = []; is_path = tt; ends = (omega arith, (0, omega arith, inl refl)) }))

clobber_meets_what_lives : Interfere p (x 10) (Tmp 2)
clobber_meets_what_lives = (λ e. cc, inr (spot 0 0, patch, stands, inl (clobbered, inl (lives_across, λ c. let no : kind_of patch.op ≡ Copies = c.0 in cc))))

-- ---- a sum alone: its result may take the register of what it uses

abbrev half : AirInst
half = record { op = Add; operands = in_role Use (Tmp 0) ∷ in_role Def (x 3) ∷ []; value = 0; traps = false }

abbrev q : AirProc
q = alone 1 (half ∷ [])

abbrev body : AirBlock
body = record { insts = half ∷ []; targets = [] }

in_body : (place : ℕ) (i : AirInst) → StandsAt q 0 place i → slice_get body.insts place ≡ Some i
in_body place i at =
    let here : Some body ≡ Some at.of = at.block_there in
    let same : body ≡ at.of = cc in
    subst (λ (b : AirBlock). slice_get b.insts place ≡ Some i) (sym same) at.inst_there

only : (block place : ℕ) (i : AirInst) → StandsAt q block place i → (block ≡ 0) × (place ≡ 0) × (i ≡ half)
only zero zero i at = let e : Some half ≡ Some i = in_body 0 i at in (refl, refl, cc)
only zero (suc place) i at = let e = in_body (suc place) i at in absurd (cc)
only (suc block) place i at = let e = at.block_there in absurd (cc)

no_def : (n k : ℕ) → k < 2 → get_or (inst_touches 1 half) k (touch.Def n) ≡ touch.Def n → n ≡ 4
no_def n zero lt e = absurd (cc)
no_def n (suc zero) lt e = cc
no_def n (suc (suc k)) lt e = absurd (omega (arith, lt))

no_late : (n k : ℕ) → k < 2 → get_or (inst_touches 1 half) k (touch.LateUse n) ≡ touch.LateUse n → ⊥
no_late n zero lt e = cc
no_late n (suc zero) lt e = cc
no_late n (suc (suc k)) lt e = omega (arith, lt)

abbrev early_operand : Width → Operand
early_operand width = record { role = EarlyDef; width = width; arg = At (x 3) }

abbrev role_of : Operand → Role
role_of o = o.role

no_early : (width : Width) (k : ℕ) → k < 2 → get_or half.operands k (early_operand width) ≡ early_operand width → ⊥
no_early width zero lt e = let roles : Use ≡ EarlyDef = ap role_of e in cc
no_early width (suc zero) lt e = let roles : Def ≡ EarlyDef = ap role_of e in cc
no_early width (suc (suc k)) lt e = omega (arith, lt)

not_defined : IsDefinedBy q half (Tmp 0) → ⊥
not_defined (n, has, (k, lt, e)) = let zeroth : Some 0 ≡ Some n = has.1 in let fourth = no_def n k lt e in cc

dead : IsLiveAfter q (spot 0 0) (Tmp 0) → ⊥
dead (next, inl (less, same_block, same_place), live) = omega (arith, less)
dead (next, inr (last, (k, lt, e), first), live) = omega (arith, lt)

apart : Meets q (spot 0 0) half (x 3) (Tmp 0) → ⊥
apart (defined, inl (live, copied)) = dead live
apart (defined, inr (inl (n, has, (k, lt, e)))) = no_late n k lt e
apart (defined, inr (inr (inl ((width, (k, lt, e)), used)))) = no_early width k lt e
apart (defined, inr (inr (inr again))) = not_defined again

-- each meeting would be at the one instruction
at_half : (at : Place) (i : AirInst) (a b : Home) → StandsAt q at.block at.place i → Meets q at i a b → Meets q (spot 0 0) half a b
at_half at i a b s m =
    let here = only at.block at.place i s in
    subst (λ (j : AirInst). Meets q (spot 0 0) j a b) here.2
    (subst (λ (k : ℕ). Meets q (spot 0 k) i a b) here.1 (subst (λ (c : ℕ). Meets q (spot c at.place) i a b) here.0 m))

pub result_in_the_register_of_a_use : Interfere q (Tmp 0) (x 3) → ⊥
result_in_the_register_of_a_use (differ, inl (r, s, e, f)) = cc
result_in_the_register_of_a_use (differ, inr (at, i, s, inl m)) = not_defined (at_half at i (Tmp 0) (x 3) s m).0
result_in_the_register_of_a_use (differ, inr (at, i, s, inr m)) = apart (at_half at i (x 3) (Tmp 0) s m)

-- ---- copies, from the source to the destination of a pair

copying : AirOp → AirInst
copying op = record {
  op = op;
  operands = in_role Use (Tmp 0) ∷ in_role Def (x 3) ∷ in_role Use (x 4) ∷ in_role Def (Tmp 1) ∷ [];
  value = 0;
  traps = false;
}

second_pair : IsCopied (copying Shuffle) (x 4) (Tmp 1)
unfolding copying IsPair
second_pair = (refl, inr (inl (refl, refl)))

not_between_pairs : IsCopied (copying Shuffle) (x 4) (x 3) → ⊥
unfolding copying IsPair
not_between_pairs (op, inl (e, f)) = cc
not_between_pairs (op, inr (inl (e, f))) = cc
not_between_pairs (op, inr (inr none)) = none
