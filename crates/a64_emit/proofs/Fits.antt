-- The operands of an op are such as its code takes.
use Rattle.std.proofs.Common.{◌≡◌, ℕ, ◌<◌, List, [], ◌∷◌, ◌++◌, get_or, refl, sym, subst, ◌∙◌, append_assoc, true}
use Rattle.std.specs.Prelude.{All}
use Rattle.b3_base.specs.Word.{bits}
use Rattle.b3_base.specs.declared.word.Width.{Width}
use Rattle.b3_base.specs.declared.word.Width.TheVariants.{W32, W64}
use Rattle.a64_inst.specs.StepMemory.{access_bytes}
use Rattle.a64_inst.specs.declared.inst.AccessKind.{AccessKind}
use Rattle.a64_inst.specs.declared.inst.AccessKind.TheVariants.{Strb, Ldrb, Ldrsb, Strh, Ldrh, Ldrsh, StrW, LdrW, StrX, LdrX}
use Rattle.air_ir.specs.Forms.{AllFit, AreThese, BitOf, HasOperands, Immediates, IsAddress, IsWord, OfSum, OfLogic, Takes, Word, home, load, store, takes, test_takes, SiteOperands, Fits, OneIs, Result, listed}
use Rattle.air_ir.specs.declared.op.AirOp.{AirOp}
use Rattle.air_ir.specs.declared.op.AirOp.TheVariants as op
use Rattle.air_ir.specs.declared.op.Test.{Test}
use Rattle.air_ir.specs.declared.op.Test.TheVariants.{Compare, NonZero, Bit}
use Rattle.air_ir.specs.declared.operand.Arg.{Arg}
use Rattle.air_ir.specs.declared.operand.Arg.TheVariants.{At, Imm, Addr, Index, FrameSlot}
use Rattle.air_ir.specs.declared.operand.Home.TheVariants.{Reg, Spill, Tmp}
use Rattle.air_ir.specs.declared.operand.Operand.{Operand}
use Rattle.air_ir.specs.declared.procedure.AirInst.{AirInst}
use Rattle.air_ir.specs.declared.procedure.AirProc.{AirProc}
use Rattle.air_ir.specs.WellFormed.{IsGoodInst, IsWellFormed, NamesOwn}
use Rattle.a64_code.specs.Accesses.{access_kind}
use Rattle.a64_emit.specs.Code.{source_at, source_of, width_at}
use Rattle.a64_emit.specs.Switched.{AreDifferent}
use Rattle.a64_code.specs.Fitting.{FitsSource, IsTested}
use Rattle.a64_emit.specs.Fitting.{IsFitting, IsFittingBlock, IsLoaded, IsReached, IsStored}
use Rattle.a64_emit.proofs.ShuffleMoves.{shuffle_fits}

word_fits : (immediates : Immediates) (width : Width) (arg : Arg) (scratch : ℕ) → IsWord immediates width arg
    → FitsSource immediates width (source_of scratch arg)
word_fits immediates width (At (Reg r)) scratch is = tt
word_fits immediates width (At (Spill n)) scratch is = tt
word_fits immediates width (At (Tmp n)) scratch is = tt
word_fits immediates width (Imm word) scratch is = is
word_fits immediates width (Addr base offset) scratch is = tt
word_fits immediates width (Index base index shift) scratch is = tt
word_fits immediates width (FrameSlot n) scratch is = tt

second_fits : (immediates : Immediates) (width : Width) (ts : List Takes) (os : List Operand) → AllFit (home width ∷ Word width immediates ∷ ts) os
    → FitsSource immediates (width_at os 0) (source_at os 1 16)
unfolding AllFit
second_fits immediates width ts [] fits = absurd fits
second_fits immediates width ts (a ∷ []) fits = absurd fits.1
second_fits immediates width ts (a ∷ b ∷ os) fits =
    subst (λ w. FitsSource immediates w (source_of 16 b.arg)) (sym fits.0.1) (word_fits immediates width b.arg 16 fits.1.0.2)

bit_fits : (width : Width) (k : ℕ) (ts : List Takes) (os : List Operand) → AllFit (BitOf width k ∷ ts) os → k < bits (width_at os 0)
unfolding AllFit
bit_fits width k ts [] fits = absurd fits
bit_fits width k ts (a ∷ os) fits = subst (λ w. k < bits w) (sym fits.0.1) fits.0.3

test_fits : (t : Test) (width : Width) (ts : List Takes) (os : List Operand) → AllFit (test_takes t width ++ ts) os
    → IsTested t (width_at os 0) (source_at os 1 16)
test_fits (Compare cond) width ts os fits = second_fits OfSum width ts os fits
test_fits NonZero width ts os fits = tt
test_fits (Bit k) width ts os fits = bit_fits width k ts os fits

branch_fits : (t : Test) (width : Width) (os : List Operand) → AllFit (test_takes t width) os → IsTested t (width_at os 0) (source_at os 1 16)
branch_fits (Compare cond) width os fits = second_fits OfSum width [] os fits
branch_fits NonZero width os fits = tt
branch_fits (Bit k) width os fits = bit_fits width k [] os fits

address_fits : (kind : AccessKind) (arg : Arg) → IsAddress (access_bytes kind) arg → IsReached kind arg
address_fits kind (Addr base offset) is = is
address_fits kind (Index base index shift) is = tt
address_fits kind (At home) is = tt
address_fits kind (Imm word) is = tt
address_fits kind (FrameSlot n) is = tt

-- a load whose address is of an access of this kind
load_fits : (o : AirOp) (width : Width) (kind : AccessKind) (os : List Operand) → access_kind o width ≡ kind → AllFit (load width (access_bytes kind)) os → IsLoaded o os
unfolding AllFit
load_fits o width kind [] same fits = absurd fits
load_fits o width kind (a ∷ os) same fits =
    subst (λ w. IsReached (access_kind o w) a.arg) (sym fits.0.1) (subst (λ k. IsReached k a.arg) (sym same) (address_fits kind a.arg fits.0.2))

store_fits : (o : AirOp) (width : Width) (kind : AccessKind) (os : List Operand) → access_kind o width ≡ kind → AllFit (store width (access_bytes kind)) os
    → IsStored o os
unfolding AllFit
store_fits o width kind [] same fits = absurd fits
store_fits o width kind (a ∷ []) same fits = absurd fits.1
store_fits o width kind (a ∷ b ∷ os) same fits =
    subst (λ w. IsReached (access_kind o w) b.arg) (sym fits.0.1) (subst (λ k. IsReached k b.arg) (sym same) (address_fits kind b.arg fits.1.0.2))

word_load_fits : (width other : Width) (os : List Operand) → AreThese (takes op.Load width other) os → IsLoaded op.Load os
word_load_fits W32 other os fits = load_fits op.Load W32 LdrW os refl fits
word_load_fits W64 other os fits = load_fits op.Load W64 LdrX os refl fits

word_store_fits : (width other : Width) (os : List Operand) → AreThese (takes op.Store width other) os → IsStored op.Store os
word_store_fits W32 other os fits = store_fits op.Store W32 StrW os refl fits
word_store_fits W64 other os fits = store_fits op.Store W64 StrX os refl fits

switch_fits : (width : Width) (cases : List ℕ) (os : List Operand) → AllFit (home width ∷ []) os → AreDifferent width cases → AreDifferent (width_at os 0) cases
unfolding AllFit
switch_fits width cases [] fits differ = absurd fits
switch_fits width cases (a ∷ os) fits differ = subst (λ w. AreDifferent w cases) (sym fits.0.1) differ

check_fits : (t : Test) (width : Width) (inputs rest : List Operand) → AllFit (test_takes t width) inputs
    → IsTested t (width_at (inputs ++ rest) 0) (source_at (inputs ++ rest) 1 16)
unfolding AllFit
check_fits (Compare cond) width [] rest fits = absurd fits
check_fits (Compare cond) width (a ∷ []) rest fits = absurd fits.1
check_fits (Compare cond) width (a ∷ b ∷ os) rest fits =
    subst (λ w. FitsSource OfSum w (source_of 16 b.arg)) (sym fits.0.1) (word_fits OfSum width b.arg 16 fits.1.0.2)
check_fits NonZero width inputs rest fits = tt
check_fits (Bit k) width [] rest fits = absurd fits
check_fits (Bit k) width (a ∷ os) rest fits = subst (λ w. k < bits w) (sym fits.0.1) fits.0.3

-- the parts behind the inputs
pub grouped : (s : SiteOperands) → listed s ≡ s.inputs ++ (s.reported ++ (s.changed ++ s.results))
grouped s = append_assoc (s.inputs ++ s.reported) s.changed s.results ∙ append_assoc s.inputs s.reported (s.changed ++ s.results)

-- the inputs and the result of arithmetic that is checked
pub two_there : (os : List Operand) (width : Width) → AllFit (home width ∷ home width ∷ []) os
    → (a : Operand) × (b : Operand) × (os ≡ a ∷ b ∷ []) × Fits (home width) a × Fits (home width) b
unfolding AllFit
two_there [] width fits = absurd fits
two_there (a ∷ []) width fits = absurd fits.1
two_there (a ∷ b ∷ []) width fits = (a, b, refl, fits.0, fits.1.0)
two_there (a ∷ b ∷ o ∷ os) width fits = absurd fits.1.1

pub one_result : (os : List Operand) (width : Width) → OneIs true (Fits (Result width)) os → (o : Operand) × (os ≡ o ∷ []) × Fits (Result width) o
one_result [] width is = absurd is
one_result (o ∷ []) width is = (o, refl, is)
one_result (o ∷ p ∷ os) width is = absurd is

pub fitting : (p : AirProc) (o : AirOp) (os : List Operand) → HasOperands p.returns o os → All (λ (o : Operand). NamesOwn p o.role o.arg) os → IsFitting o os
fitting p op.Shuffle os has named = shuffle_fits p os has.0 has.1 named
fitting p (op.SetIf t) os has named = test_fits t has.0 _ os has.2
fitting p (op.SelectIf t) os has named = test_fits t has.0 _ os has.2
fitting p (op.BranchIf t) os has named = branch_fits t has.0 os has.2
fitting p (op.CheckIf t) os has named =
    subst (λ (xs : List Operand). IsTested t (width_at xs 0) (source_at xs 1 16)) (sym (has.1 ∙ grouped has.0))
    (check_fits t has.2.width has.0.inputs (has.0.reported ++ (has.0.changed ++ has.0.results)) has.2.fits)
fitting p op.Add os has named = second_fits OfSum has.0 _ os has.2
fitting p op.And os has named = second_fits OfLogic has.0 _ os has.2
fitting p op.Or os has named = second_fits OfLogic has.0 _ os has.2
fitting p op.Xor os has named = second_fits OfLogic has.0 _ os has.2
fitting p op.Load8Z os has named = load_fits op.Load8Z W32 Ldrb os refl has.2
fitting p op.Load8S os has named = load_fits op.Load8S W32 Ldrsb os refl has.2
fitting p op.Load16Z os has named = load_fits op.Load16Z W32 Ldrh os refl has.2
fitting p op.Load16S os has named = load_fits op.Load16S W32 Ldrsh os refl has.2
fitting p op.Load os has named = word_load_fits has.0 has.1 os has.2
fitting p op.Store8 os has named = store_fits op.Store8 W32 Strb os refl has.2
fitting p op.Store16 os has named = store_fits op.Store16 W32 Strh os refl has.2
fitting p op.Store os has named = word_store_fits has.0 has.1 os has.2
fitting p (op.Switch cases) os has named = switch_fits has.0 cases os has.1 has.2
fitting p o os has named = tt

fit_at : (p : AirProc) (i : AirInst) → IsGoodInst p i → IsFitting i.op i.operands
fit_at p i good = fitting p i.op i.operands good.operands good.names

pub blocks_fit : (p : AirProc) → IsWellFormed p → All IsFittingBlock p.blocks
blocks_fit p well k d lt j i within = fit_at p (get_or (get_or p.blocks k d).insts j i) ((well.blocks k d lt).insts j i within)
