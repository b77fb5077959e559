-- Control leaves a block to a target behind its last instruction alone, and that target is there.
use Rattle.std.proofs.Common.{◌≡◌, ℕ, suc, ◌+◌, ◌<◌, Option, Some, None, List, [], ◌∷◌, length, get_or, sym, ap, ◌∙◌, subst, arith, ⊎_elim}
use Rattle.std.specs.Prelude.{slice_get}
use Rattle.std.proofs.lemmas.Bool.{cases_lt}
use Rattle.std.proofs.lemmas.List.{get_or_append_left, length_push}
use Rattle.std.proofs.lemmas.Option.{get_or_from_slice_get, slice_get_within}
use Rattle.b3_base.specs.Observed.{Start}
use Rattle.air_ir.specs.Kinds.{target_count}
use Rattle.air_ir.specs.Meaning.{Effect, Exit, To, meaning, operation}
use Rattle.air_ir.specs.Operands.{Read, Target, targets, words}
use Rattle.air_ir.specs.Steps.{Outcome, Undefined, Goes, State, after_reading, carried_out, step}
use Rattle.air_ir.specs.WellFormed.{IsGoodBlock}
use Rattle.air_ir.specs.declared.procedure.AirBlock.{AirBlock}
use Rattle.air_ir.specs.declared.procedure.AirInst.{AirInst}
use Rattle.air_ir.specs.declared.procedure.AirProc.{AirProc}
use Rattle.air_ir.proofs.Meanings.{IsBelow, LeadsBelow, count_in, leads_below}

-- control may leave behind an instruction in this way: the run is over, or it goes to a target that the op takes
abbrev pub Leaves : AirInst → Exit → Type 0
Leaves i exit = IsBelow (count_in (target_count i.op)) (Some exit)

abbrev exit_of : Outcome × List ℕ → Option Exit
exit_of (Undefined, junk) = None
exit_of (Goes exit s, junk) = exit

carried_out-leaves : (n : ℕ) (s : State) (junk : List ℕ) (ts : List Target) (x : Option Effect) → LeadsBelow n x → IsBelow n (exit_of (carried_out s junk ts x))
carried_out-leaves n s junk ts None h = tt
carried_out-leaves n s junk ts (Some e) h = h

module _ (start : Start) where
  reading-leaves : (i : AirInst) (s : State) (junk : List ℕ) (x : Option (List Read)) → IsBelow (count_in (target_count i.op)) (exit_of (after_reading (meaning start) i s junk x))
  reading-leaves i s junk None = tt
  reading-leaves i s junk (Some ws) =
      carried_out-leaves (count_in (target_count i.op)) s junk (targets i.operands) (meaning start (operation i) ws s.world) (leads_below start (operation i) ws s.world)

  pub leaves : (i : AirInst) (s s' : State) (exit : Exit) (junk left : List ℕ) → step (meaning start) i s junk ≡ (Goes (Some exit) s', left) → Leaves i exit
  unfolding step
  leaves i s s' exit junk left e =
      subst (λ (o : Outcome × List ℕ). IsBelow (count_in (target_count i.op)) (exit_of o)) e (reading-leaves i s junk (words s.homes i.operands))

-- an instruction that is no terminal leaves to no target
no_target : (i : AirInst) (j : ℕ) → target_count i.op ≡ None → Leaves i (To j) → ⊥
no_target i j none below = let small : j < count_in None = subst (λ (c : Option ℕ). j < count_in c) none below in omega (arith, small)

-- so where it leaves to a target, it is the last one
pub leaves_last : (p : AirProc) (b : AirBlock) → IsGoodBlock p b → (k : ℕ) (i : AirInst) (j : ℕ) → slice_get b.insts k ≡ Some i → Leaves i (To j)
    → suc k ≡ length b.insts
leaves_last p b good k i j there below =
    let within : k < length b.insts = slice_get_within b.insts k i there in
    let long : length b.insts ≡ length good.body + 1 = ap (λ (l : List AirInst). length l) good.parts ∙ length_push good.body good.last in
    let here : get_or b.insts k i ≡ i = get_or_from_slice_get b.insts k i i there in
    ⊎_elim
    (λ inside.
    let same : get_or good.body k i ≡ i =
    sym (get_or_append_left good.body (good.last ∷ []) i k inside) ∙ ap (λ (l : List AirInst). get_or l k i) (sym good.parts) ∙ here in
    absurd (no_target i j (subst (λ (x : AirInst). target_count x.op ≡ None) same (good.inner k i inside)) below))
    (λ past. omega (arith, within, long, past))
    (cases_lt k (length good.body))
