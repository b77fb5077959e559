-- No public clause cites this module. Operands that aren't those of a site, calls of eight and of nine arguments,
-- Switches whose cases differ or don't, and spill places below a number.
use Rattle.std.proofs.Common.{◌≡◌, ◌+◌, ◌-◌, ◌^◌, ℕ, suc, inl, inr, true, false, List, [], ◌∷◌, ◌++◌, length, refl, sym, ap, ◌∙◌, subst, arith, lit<, lit≤}
use Rattle.std.specs.Prelude.{All, drop, replicate}
use Rattle.std.proofs.lemmas.List.{length-append}
use Rattle.std.proofs.lemmas.List.Elements.{All-append, All-head, All-from_recursion}
use Rattle.std.proofs.lemmas.List.Kept.{AllPairs-cons}
use Rattle.b3_base.specs.declared.word.Width.{Width}
use Rattle.b3_base.specs.declared.word.Width.TheVariants.{W32, W64}
use Rattle.b3_ir.specs.Fits.{reported_count}
use Rattle.b3_ir.specs.Procedure.{Procedure}
use Rattle.b3_ir.specs.declared.value.Value.{Value}
use Rattle.a64_inst.specs.declared.inst.Cond.TheVariants.{Lt}
use Rattle.stackmap.specs.declared.site.Returns.TheVariants as returns
use Rattle.air_ir.specs.Expressed.{IsExpressed}
use Rattle.air_ir.specs.Forms.{AllFit, DifferIn, HasOperands, IsChanged, IsPlacedResult, OfCall, OneIs, SiteFits, SiteOperands, Takes, arguments_from, call_clobbers, listed, operand_in, spills_changed}
use Rattle.air_ir.specs.WellFormed.{NamesSpillsBelow, SpillsBelow}
use Rattle.air_ir.specs.declared.op.AirOp.TheVariants as op
use Rattle.air_ir.specs.declared.op.Test.TheVariants.{Compare}
use Rattle.air_ir.specs.declared.operand.Home.TheVariants.{Spill, Tmp}
use Rattle.air_ir.specs.declared.operand.Arg.TheVariants.{At, Index}
use Rattle.air_ir.specs.declared.operand.Role.TheVariants.{Use, EarlyDef, Def, Clobber}
use Rattle.air_ir.specs.declared.operand.Operand.{Operand}
use Rattle.air_ir.specs.declared.procedure.AirBlock.{AirBlock}
use Rattle.air_ir.specs.declared.procedure.AirInst.{AirInst}
use Rattle.air_ir.specs.declared.procedure.AirProc.{AirProc}
use Rattle.air_ir.proofs.Examples.{block, call, inst, procedure, use_at, x}

-- ---- what no site has

length_of_fit : (ts : List Takes) (os : List Operand) → AllFit ts os → length os ≡ length ts
unfolding AllFit
length_of_fit [] [] fit = refl
length_of_fit [] (o ∷ os) fit = absurd fit
length_of_fit (t ∷ ts) [] fit = absurd fit
length_of_fit (t ∷ ts) (o ∷ os) fit = ap suc (length_of_fit ts os fit.1)

length_of_listed : (s : SiteOperands) → length (listed s) ≡ length s.inputs + (length s.reported + (length s.changed + length s.results))
length_of_listed s =
    let front : List Operand = s.inputs ++ s.reported in
    omega (arith, length-append (front ++ s.changed) s.results, length-append front s.changed, length-append s.inputs s.reported)

-- a comparison takes two words, so that none is left to report
no_second_use : (p : Procedure) (v : Value) (i : AirInst) → i.op ≡ op.CheckIf (Compare Lt)
    → length i.operands ≡ 2 → reported_count v ≡ 1 → IsExpressed p v i → ⊥
no_second_use p v i e two one h =
    let fits : SiteFits (op.CheckIf (Compare Lt)) h.site = subst (λ o. SiteFits o h.site) e h.fits in
    let inputs : length h.site.inputs ≡ 2 = length_of_fit _ h.site.inputs fits.fits in
    omega (arith, length_of_listed h.site, ap (λ (os : List Operand). length os) h.parts, h.count, inputs, two, one)

-- a patchpoint without a result that reports nothing has operands that are changed alone
all_changed : (Is : Operand → Type 0) (inputs reported changed results : List Operand) → AllFit [] inputs → length reported ≡ 0
    → All IsChanged changed → OneIs false Is results → All IsChanged (inputs ++ reported ++ changed ++ results)
unfolding AllFit
all_changed Is [] [] changed [] fits e changes result = All-append IsChanged changed [] changes (All-from_recursion IsChanged [] tt)
all_changed Is (o ∷ os) reported changed results fits e changes result = absurd fits
all_changed Is [] (o ∷ os) changed results fits e changes result = absurd (omega (arith, e))
all_changed Is [] [] changed (o ∷ os) fits e changes result = absurd result

use_is_not_changed : (o : Operand) → o.role ≡ Use → IsChanged o → ⊥
use_is_not_changed o e (r, inl f) = let g : EarlyDef ≡ Use = sym (ap (λ (o : Operand). o.role) f) ∙ e in absurd cc
use_is_not_changed o e (r, inr f) = let g : Clobber ≡ Use = sym (ap (λ (o : Operand). o.role) f) ∙ e in absurd cc

no_stray_use : (p : Procedure) (v : Value) (i : AirInst) → i.op ≡ op.Patch 4 false
    → i.operands ≡ operand_in Use W64 0 ∷ [] → reported_count v ≡ 0 → IsExpressed p v i → ⊥
no_stray_use p v i e os none h =
    let fits : SiteFits (op.Patch 4 false) h.site = subst (λ o. SiteFits o h.site) e h.fits in
    let s = h.site in
    let is = all_changed (IsPlacedResult fits.width) s.inputs s.reported s.changed s.results fits.fits (h.count ∙ none) fits.changes fits.result in
    let all : All IsChanged i.operands = subst (All IsChanged) (sym h.parts) is in
    use_is_not_changed (operand_in Use W64 0) refl (All-head IsChanged (operand_in Use W64 0) [] (subst (All IsChanged) os all))

-- ---- calls

abbrev eight : List Width
eight = replicate 8 W64

-- the ninth argument stands in the first spill place, which the call doesn't keep
ninth_is_spilled : arguments_from 0 (eight ++ W32 ∷ []) ≡ arguments_from 0 eight ++ record { role = Use; width = W32; arg = At (Spill 0) } ∷ []
ninth_is_spilled = refl

no_spill_of_eight : spills_changed 0 (drop 8 eight) ≡ []
no_spill_of_eight = refl

spill_of_nine : spills_changed 0 (drop 8 (eight ++ W32 ∷ [])) ≡ record { role = Clobber; width = W64; arg = At (Spill 0) } ∷ []
spill_of_nine = refl

call_is_formed : OfCall true call.operands
unfolding call_clobbers
call_is_formed = record {
  callee = use_at W64 (At (Tmp 1));
  widths = W32 ∷ [];
  width = W64;
  few = lit≤ tt;
  parts = refl;
  fits = (refl, refl, tt);
}

-- ---- cases: -1 and 2 ^ 32 - 1 differ at 64 bits alone

abbrev cases : List ℕ
cases = (2 ^ 64 - 1) ∷ (2 ^ 32 - 1) ∷ []

they_differ : DifferIn W64 (2 ^ 64 - 1) (2 ^ 32 - 1)
they_differ e = let f : 18446744073709551615 ≡ 4294967295 = e in omega (arith, f)

differ_at_64 : HasOperands returns.Nothing (op.Switch cases) (operand_in Use W64 0 ∷ [])
unfolding AllFit
differ_at_64 =
    let rest : List ℕ = (2 ^ 32 - 1) ∷ [] in (
      W64,
      ((refl, refl, tt), tt),
      AllPairs-cons (DifferIn W64) (2 ^ 64 - 1) rest (All-from_recursion (DifferIn W64 (2 ^ 64 - 1)) rest (they_differ, tt)) (λ i j d less within. absurd (omega arith)),
    )

equal_at_32 : HasOperands returns.Nothing (op.Switch cases) (operand_in Use W32 0 ∷ []) → ⊥
unfolding AllFit
equal_at_32 (W32, fit, differ) = differ 0 1 0 (lit< tt) (lit< tt) refl
equal_at_32 (W64, (fit, rest), differ) = absurd (let e = fit.1 in cc)

-- ---- spill places: 2 is named as an index

abbrev BelowOf : ℕ → AirInst → Type 0
BelowOf n i = All (λ (o : Operand). SpillsBelow n o.arg) i.operands

abbrev access : AirInst
access = inst op.Load (use_at W64 (Index (x 0) (Spill 2) 3) ∷ operand_in Def W64 0 ∷ [])

abbrev spilling : AirProc
spilling = procedure (block (access ∷ []) [] ∷ [])

named_below_3 : NamesSpillsBelow 3 spilling
named_below_3 =
    let operands : BelowOf 3 access = All-from_recursion (λ (o : Operand). SpillsBelow 3 o.arg) access.operands ((tt, lit< tt), (tt, tt)) in
    All-from_recursion (λ (b : AirBlock). All (BelowOf 3) b.insts) spilling.blocks (All-from_recursion (BelowOf 3) (access ∷ []) (operands, tt), tt)

not_below_2 : NamesSpillsBelow 2 spilling → ⊥
not_below_2 h =
    let spill = h 0 (block [] []) (lit< tt) 0 (inst op.Jump []) (lit< tt) 0 (operand_in Use W64 0) (lit< tt) in
    omega (arith, spill.1)
