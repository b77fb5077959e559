-- The instructions of a site are good ones.
use Rattle.std.proofs.Common.{◌≡◌, ◌≢◌, ◌∙◌, ℕ, ◌+◌, ◌<◌, ◌≤◌, Bool, true, false, List, [], ◌∷◌, ◌++◌, Option, Some, None, suc, inl, inr, refl, sym, subst, arith, cond, All}
use Rattle.std.proofs.lemmas.Bool.{false≢true, or_cases}
use Rattle.std.proofs.lemmas.List.Elements.{All-append, All-cons, All-nil}
use Rattle.b3_ir.specs.declared.value.Constraint.{Constraint}
use Rattle.b3_ir.specs.declared.value.Constraint.TheVariants.{SomeEarlyRegister}
use Rattle.b3_ir.specs.declared.value.Reg.{Reg as Register}
use Rattle.b3_ir.specs.declared.value.Stackmap.{Stackmap}
use Rattle.stackmap.specs.Placing.{register_for, result_register}
use Rattle.stackmap.specs.Registers.{constraints_of, has, has_result, is_late, stackmap_in}
use Rattle.stackmap.specs.Rules.{IsAllocatable, NamesRegisters, IsPlaceable}
use Rattle.stackmap.proofs.PlacedApart.{places_obey}
use Rattle.air_ir.specs.Expressed.{IsOpOf, result_in, result_role}
use Rattle.air_ir.specs.Forms.{AllFit, HasOperands}
use Rattle.air_ir.specs.WellFormed.{IsGoodInst, MayName, NamesOwn}
use Rattle.air_ir.specs.declared.op.AirOp.{AirOp}
use Rattle.air_ir.specs.declared.op.AirOp.TheVariants as op
use Rattle.air_ir.specs.declared.operand.Home.{Home}
use Rattle.air_ir.specs.declared.operand.Home.TheVariants.{Tmp, Reg}
use Rattle.air_ir.specs.declared.operand.Arg.TheVariants.{At}
use Rattle.air_ir.specs.declared.operand.Operand.{Operand}
use Rattle.air_ir.specs.declared.operand.Role.TheVariants.{Use, LateUse, EarlyDef, Def, Clobber}
use Rattle.air_ir.specs.declared.procedure.AirProc.{AirProc}
use Rattle.air_stackmap.specs.Described.{ComputesWith, IsSmall, NamesTemporary}
use Rattle.air_stackmap.specs.SiteCode.{arg_by, arg_of, changed, changed_by, child_moves, in_each, inst, is_changed_early, move_operands, moved, moves_from, patch_results, report_by, reported, results_by, site_inst, site_operands}
use Rattle.air_stackmap.specs.declared.child.Child.{Child}
use Rattle.air_stackmap.proofs.Expressed.{parts_fit, place_word}
use Rattle.air_stackmap.proofs.Listing.{clobbered_is, each_in, each_report}
use Rattle.b3_ir.specs.declared.value.Value.{Value}

abbrev pub Named : AirProc → Operand → Type 0
Named q o = NamesOwn q o.role o.arg

-- ---- children

home_named : (q : AirProc) (late : Bool) (constant : Option ℕ) (home : Home)
    → (constant ≡ None → (n : ℕ) × (home ≡ Tmp n) × (n < q.tmps)) → NamesOwn q (cond late LateUse Use) (arg_by constant home)
home_named q late (Some word) home there = tt
home_named q true None home there = let t = there refl in rw t.1 t.2
home_named q false None home there = let t = there refl in rw t.1 t.2

register_named : (q : AirProc) (late : Bool) (reg : Register) → IsAllocatable reg → MayName q (cond late LateUse Use) (Reg reg)
register_named q true reg is = is
register_named q false reg is = is

report_named : (q : AirProc) (a : Constraint) (register : Option Register) (c : Child) → ((reg : Register) → register ≡ Some reg → IsAllocatable reg)
    → NamesTemporary q c → Named q (report_by a register c)
report_named q a (Some reg) c within there = register_named q (is_late a) reg (within reg refl)
report_named q a None c within there = home_named q (is_late a) c.constant c.home there

module _ (q : AirProc) (v : Value) (map : Stackmap) (carries : stackmap_in v.body ≡ Some map) (placeable : IsPlaceable v) where
  within : (k : ℕ) (reg : Register) → register_for v k ≡ Some reg → IsAllocatable reg
  within = (places_obey v map carries placeable).allocatable

  reports_named : (cs : List Child) → All (NamesTemporary q) cs → All (Named q) (reported v cs)
  reports_named cs there =
      each_report (Named q) v 0 (constraints_of v) cs (NamesTemporary q) there (λ k a c is. report_named q a (register_for v k) c (within k) is)

  -- ---- registers that are changed

  names : NamesRegisters (has_result v) map
  names =
      let same : placeable.stackmap ≡ map = (let e = placeable.carries in cc) in
      subst (λ (m : Stackmap). NamesRegisters (has_result v) m) same placeable.registers

  not_frame : (r : ℕ) → is_changed_early v map r ≡ true → r ≢ 29
  not_frame r is e = elim (or_cases _ _ (subst (λ (n : ℕ). is_changed_early v map n ≡ true) e is)) [
    | inl listed ↦ false≢true (sym names.early.1 ∙ listed)
    | inr clobbered ↦
        (let k = clobbered_is v 0 map.constraints 29 clobbered in
        elim (within (0 + k.child) (record { 0 = 29 }) k.register) [ inl low ↦ omega (arith, low) | inr high ↦ omega (arith, high.1) ])
  ]

  not_frame_late : (r : ℕ) → has map.late r ≡ true → r ≢ 29
  not_frame_late r is e = false≢true (sym names.late.1 ∙ subst (λ (n : ℕ). has map.late n ≡ true) e is)

  changes_named : All (Named q) (changed v)
  changes_named =
      subst (λ (o : Option Stackmap). All (Named q) (changed_by v o)) (sym carries)
      (All-append (Named q) (in_each EarlyDef (is_changed_early v map) 31) (in_each Clobber (has map.late) 31)
      (each_in (Named q) EarlyDef (is_changed_early v map) 31 (λ r less e. (omega (arith, less), not_frame r e)))
      (each_in (Named q) Clobber (has map.late) 31 (λ r less e. (omega (arith, less), not_frame_late r e))))

  -- ---- the result of a patchpoint

  changeable : (reg : Register) → IsAllocatable reg → (reg.0 ≤ 30) × (reg.0 ≢ 29)
  changeable reg is = elim is [
    | inl low ↦ (omega (arith, low), λ e. omega (arith, low, e))
    | inr high ↦ (let h = high.1 in (omega (arith, h), λ e. omega (arith, h, e)))
  ]

  role_named : (c : Constraint) (reg : Register) → IsAllocatable reg → MayName q (result_role c) (Reg reg)
  role_named SomeEarlyRegister reg is = changeable reg is
  role_named _ reg is = is

  pub patch_results_named : All (Named q) (patch_results v)
  patch_results_named =
      subst (λ (o : Option Stackmap). All (Named q) (results_by v o)) (sym carries) (by (result_register v) refl)
    where
      by : (o : Option Register) → result_register v ≡ o → All (Named q) (result_in map v o)
      by (Some reg) e = All-cons (Named q) _ [] (role_named map.result reg ((places_obey v map carries placeable).result reg e).0) (All-nil (Named q))
      by None e = All-nil (Named q)

  -- ---- the instruction of the site

  has_operands : (o : AirOp) (inputs : List Operand) (cs : List Child) (results : List Operand) → IsOpOf map v o
      → ComputesWith v o inputs results → All IsSmall cs → HasOperands q.returns o (site_inst v o inputs cs results).operands
  has_operands (op.CheckIf test) inputs cs results is with_ small =
      (site_operands v inputs cs results, refl, parts_fit v map carries placeable (op.CheckIf test) inputs cs results is with_ small)
  has_operands op.CheckAdd inputs cs results is with_ small =
      (site_operands v inputs cs results, refl, parts_fit v map carries placeable op.CheckAdd inputs cs results is with_ small)
  has_operands op.CheckSub inputs cs results is with_ small =
      (site_operands v inputs cs results, refl, parts_fit v map carries placeable op.CheckSub inputs cs results is with_ small)
  has_operands op.CheckMul inputs cs results is with_ small =
      (site_operands v inputs cs results, refl, parts_fit v map carries placeable op.CheckMul inputs cs results is with_ small)
  has_operands (op.Patch size typed) inputs cs results is with_ small =
      (site_operands v inputs cs results, refl, parts_fit v map carries placeable (op.Patch size typed) inputs cs results is with_ small)
  has_operands _ inputs cs results is with_ small = absurd with_

  pub good_site : (o : AirOp) (inputs : List Operand) (cs : List Child) (results : List Operand) → IsOpOf map v o
      → ComputesWith v o inputs results → All IsSmall cs → All (NamesTemporary q) cs → All (Named q) inputs → All (Named q) results
      → IsGoodInst q (site_inst v o inputs cs results)
  good_site o inputs cs results is with_ small there named_in named_out = record {
    operands = has_operands o inputs cs results is with_ small;
    names =
        All-append (Named q) (inputs ++ reported v cs ++ changed v) results
        (All-append (Named q) (inputs ++ reported v cs) (changed v)
        (All-append (Named q) inputs (reported v cs) named_in (reports_named cs there)) changes_named) named_out;
  }

  -- ---- the moves

  pub good_move : (c : Child) (reg : Register) → IsAllocatable reg → IsSmall c → NamesTemporary q c
      → IsGoodInst q (inst v op.Move (move_operands c.width (arg_of c) reg))
  unfolding AllFit
  good_move c reg is small there =
      let to : Operand = record { role = Def; width = c.width; arg = At (Reg reg) } in
      record {
        operands = (c.width, c.width, ((refl, refl, place_word None c small), ((refl, refl, tt), tt)));
        names =
            All-cons (Named q) (record { role = Use; width = c.width; arg = arg_of c }) (to ∷ []) (home_named q false c.constant c.home there)
            (All-cons (Named q) to [] is (All-nil (Named q)));
      }

  good_from : (k : ℕ) (cs : List Child) → All IsSmall cs → All (NamesTemporary q) cs → All (IsGoodInst q) (moves_from v k cs)
  unfolding moves_from
  good_from k [] small there = All-nil (IsGoodInst q)
  good_from k (c ∷ cs) small there =
      All-append (IsGoodInst q) (moved v (register_for v k) c) (moves_from v (suc k) cs) (by (register_for v k) refl)
      (good_from (suc k) cs (λ i d less. small (suc i) d (omega (arith, less))) (λ i d less. there (suc i) d (omega (arith, less))))
    where
      by : (o : Option Register) → register_for v k ≡ o → All (IsGoodInst q) (moved v o c)
      by (Some reg) e = All-cons (IsGoodInst q) _ [] (good_move c reg (within k reg e) (small 0 c (omega arith)) (there 0 c (omega arith)))
          (All-nil (IsGoodInst q))
      by None e = All-nil (IsGoodInst q)

  pub good_moves : (cs : List Child) → All IsSmall cs → All (NamesTemporary q) cs → All (IsGoodInst q) (child_moves v cs)
  good_moves cs small there = good_from 0 cs small there
