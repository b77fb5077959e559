-- What holds of each instruction of a patchpoint or a check, and of each operand of its site.
use Rattle.std.proofs.Common.{◌≡◌, ℕ, suc, ◌⊎◌, inl, inr, Bool, true, false, List, [], ◌∷◌, ◌++◌, Option, Some, None, map, drop, refl, arith}
use Rattle.std.specs.Prelude.{All, if◌then◌else◌}
use Rattle.std.proofs.lemmas.List.Elements.{All-append, All-cons, All-nil}
use Rattle.b3_base.specs.declared.word.Width.{Width}
use Rattle.b3_base.specs.declared.word.Width.TheVariants.{W64}
use Rattle.b3_ir.specs.Types.{width_of}
use Rattle.b3_ir.specs.declared.opcode.Opcode.{Opcode}
use Rattle.b3_ir.specs.declared.opcode.Opcode.TheVariants as opcode
use Rattle.b3_ir.specs.declared.value.Constraint.{Constraint}
use Rattle.b3_ir.specs.declared.value.Reg.{Reg as Register}
use Rattle.b3_ir.specs.declared.value.Stackmap.{Stackmap}
use Rattle.b3_ir.specs.declared.value.Value.{Value}
use Rattle.stackmap.specs.Placing.{register_for, result_register}
use Rattle.stackmap.specs.Registers.{constraints_of, has, is_late, stackmap_in}
use Rattle.air_ir.specs.Expressed.{result_in, result_role}
use Rattle.air_ir.specs.Kinds.{kind_of}
use Rattle.air_ir.specs.declared.op.AirOp.{AirOp}
use Rattle.air_ir.specs.declared.op.AirOp.TheVariants as op
use Rattle.air_ir.specs.declared.op.Test.TheVariants.{Bit, Compare, NonZero}
use Rattle.air_ir.specs.declared.operand.Arg.TheVariants.{At}
use Rattle.air_ir.specs.declared.operand.Home.TheVariants.{Reg}
use Rattle.air_ir.specs.declared.operand.Operand.{Operand}
use Rattle.air_ir.specs.declared.operand.Role.{Role}
use Rattle.air_ir.specs.declared.operand.Role.TheVariants.{Clobber, EarlyDef, LateUse, Use}
use Rattle.air_ir.specs.declared.procedure.AirInst.{AirInst}
use Rattle.air_stackmap.specs.SiteCode as sites
use Rattle.air_stackmap.specs.SiteCode.{changed, changed_by, child_moves, in_each, is_changed_early, move_operands, moved, moves_from, patch_by, patch_op, patch_results, place_of, report_by, reported, results_by, site_code, site_inst}
use Rattle.air_stackmap.specs.declared.child.Child.{Child}
use Rattle.air_stackmap.proofs.Listing.{each_in, each_report}
use Rattle.air_fold.specs.Foldable.{bit_of, is_comparison}
use Rattle.air_fold.specs.Values.{child, known}
use Rattle.air_select.specs.Contract.{has_stackmap}
use Rattle.air_select.specs.Selected.{Condition, Tables, checked_of, child_of, code_of, condition, condition_of, folded_condition, folds, move, patched_from, reported_behind, result_of, use_of}
use Rattle.air_stackmap.specs.Laws.{has_stackmap as has_map}
use Rattle.air_select.specs.Temporaries.{home}

-- ---- lists of a site

module _ (v : Value) (Q : Child → Type 0) where
  module _ (P : AirInst → Type 0) (each : (c : Child) (reg : Register) → Q c → P (sites.inst v op.Move (move_operands c.width (sites.arg_of c) reg))) where
    moves_all : (k : ℕ) (cs : List Child) → All Q cs → All P (moves_from v k cs)
    unfolding moves_from
    moves_all k [] all = All-nil P
    moves_all k (c ∷ cs) all =
        All-append P (moved v (register_for v k) c) (moves_from v (suc k) cs) (by (register_for v k))
        (moves_all (suc k) cs (λ i d less. all (suc i) d (omega (arith, less))))
      where
        by : (o : Option Register) → All P (moved v o c)
        by (Some reg) = All-cons P _ [] (each c reg (all 0 c (omega arith))) (All-nil P)
        by None = All-nil P

    pub child_moves_all : (cs : List Child) → All Q cs → All P (child_moves v cs)
    child_moves_all cs all = moves_all 0 cs all

  module _ (P : Operand → Type 0) (in_register : (role : Role) (width : Width) (reg : Register) → P (record { role = role; width = width; arg = At (Reg reg) }))
      (in_child : (role : Role) (c : Child) → Q c → P (record { role = role; width = c.width; arg = sites.arg_of c })) where
    report_all : (cs : List Child) → All Q cs → All P (reported v cs)
    report_all cs all = each_report P v 0 (constraints_of v) cs Q all (λ k a c q. by a c q (register_for v k))
      where
        by : (a : Constraint) (c : Child) → Q c → (o : Option Register) → P (report_by a o c)
        by a c q (Some reg) = in_register (if is_late a then LateUse else Use) c.width reg
        by a c q None = in_child (if is_late a then LateUse else Use) c q

    changed_all : All P (changed v)
    changed_all = by (stackmap_in v.body)
      where
        by : (o : Option Stackmap) → All P (changed_by v o)
        by None = All-nil P
        by (Some map) =
            All-append P (in_each EarlyDef (is_changed_early v map) 31) (in_each Clobber (has map.late) 31)
            (each_in P EarlyDef (is_changed_early v map) 31 (λ r less e. in_register EarlyDef W64 (record { 0 = r })))
            (each_in P Clobber (has map.late) 31 (λ r less e. in_register Clobber W64 (record { 0 = r })))

    pub site_all : (o : AirOp) (inputs : List Operand) (cs : List Child) (results : List Operand) → All P inputs → All P results → All Q cs
        → All P (site_inst v o inputs cs results).operands
    site_all o inputs cs results ins outs all =
        All-append P (inputs ++ reported v cs ++ changed v) results
        (All-append P (inputs ++ reported v cs) (changed v) (All-append P inputs (reported v cs) ins (report_all cs all)) changed_all) outs

-- the result of a patchpoint is written into a register
pub patch_results_all : (v : Value) (P : Operand → Type 0)
    → ((role : Role) (width : Width) (reg : Register) → P (record { role = role; width = width; arg = At (Reg reg) })) → All P (patch_results v)
patch_results_all v P in_register = by (stackmap_in v.body)
  where
    of_map : (map : Stackmap) (r : Option Register) → All P (result_in map v r)
    of_map map (Some reg) = All-cons P _ [] (in_register (result_role map.result) (width_of v.ty) reg) (All-nil P)
    of_map map None = All-nil P

    by : (o : Option Stackmap) → All P (results_by v o)
    by (Some map) = of_map map (result_register v)
    by None = All-nil P

-- ---- the code of a value

-- an operand is the use of a value
abbrev pub IsUse : Tables → Operand → Type 0
IsUse t o = (id : ℕ) × (o ≡ use_of t id)

-- an operand is the result of a value, or stands in a register
abbrev pub IsOut : Tables → Value → Operand → Type 0
IsOut t v o =
    (o ≡ result_of t v) ⊎ ((role : Role) × (width : Width) × (reg : Register) × (o ≡ record { role = role; width = width; arg = At (Reg reg) }))

pub one_use : (t : Tables) (a : ℕ) → All (IsUse t) (use_of t a ∷ [])
one_use t a = All-cons (IsUse t) (use_of t a) [] (a, refl) (All-nil (IsUse t))

pub two_uses : (t : Tables) (a b : ℕ) → All (IsUse t) (use_of t a ∷ use_of t b ∷ [])
two_uses t a b = All-cons (IsUse t) (use_of t a) (use_of t b ∷ []) (a, refl) (one_use t b)

pub pick : {X : Type 0} (P : X → Type 0) (b : Bool) (x y : X) → P x → P y → P (if b then x else y)
pick P true x y p q = p
pick P false x y p q = q

pub condition_uses : (t : Tables) (id : ℕ) → All (IsUse t) (condition_of t id).over
condition_uses t id =
    let k = known t.index id in
    let Uses = λ (c : Condition). All (IsUse t) c.over in
    pick Uses (folds t id) (folded_condition t id) (record { test = NonZero; over = use_of t id ∷ [] })
    (pick Uses (is_comparison k.opcode)
    (record { test = Compare (condition k.opcode); over = use_of t k.first ∷ use_of t k.second ∷ [] })
    (record { test = Bit (bit_of (known t.index k.second).word); over = use_of t k.first ∷ [] })
    (two_uses t k.first k.second) (one_use t k.first)) (one_use t id)

-- a child stands in the home of a value, or is a word
abbrev pub IsChildOf : Tables → Child → Type 0
IsChildOf t c = (id : ℕ) × (c ≡ child_of t id)

pub are_children : (t : Tables) (ids : List ℕ) → All (IsChildOf t) (map (child_of t) ids)
are_children t ids = by ids
  where
    by : (ids : List ℕ) → All (IsChildOf t) (map (child_of t) ids)
    by [] = All-nil (IsChildOf t)
    by (id ∷ ids) = All-cons (IsChildOf t) (child_of t id) (map (child_of t) ids) (id, refl) (by ids)

pub patch_has : (v : Value) → has_stackmap (kind_of (patch_op v)) ≡ true
patch_has v = by (stackmap_in v.body)
  where
    by : (o : Option Stackmap) → has_stackmap (kind_of (patch_by v o)) ≡ true
    by (Some map) = refl
    by None = refl

module _ (t : Tables) (v : Value) (P : AirInst → Type 0)
    (moves : (c : Child) (reg : Register) → IsChildOf t c → P (sites.inst v op.Move (move_operands c.width (sites.arg_of c) reg)))
    (result : (reg : Register) → P (move v (width_of v.ty) (At (Reg reg)) (home t.index v.id))) where
  checked_all : (o : AirOp) (inputs : List Operand) (n : ℕ) (results : List Operand) → P (site_inst v o inputs (reported_behind t n v) results)
      → All P (site_code v o inputs (reported_behind t n v) results)
  checked_all o inputs n results holds =
      All-append P (child_moves v (reported_behind t n v)) (site_inst v o inputs (reported_behind t n v) results ∷ [])
      (child_moves_all v (IsChildOf t) P moves (reported_behind t n v) (are_children t (drop n v.children)))
      (All-cons P (site_inst v o inputs (reported_behind t n v) results) [] holds (All-nil P))

  patched_all : (r : Option Register) → All P (patched_from t v r)
  patched_all (Some reg) = All-cons P _ [] (result reg) (All-nil P)
  patched_all None = All-nil P

  abbrev Each : Type 0
  Each = (o : AirOp) (inputs results : List Operand) (n : ℕ) → has_stackmap (kind_of o) ≡ true → All (IsUse t) inputs → All (IsOut t v) results
      → P (site_inst v o inputs (reported_behind t n v) results)

  sum_all : Each → (o : AirOp) → has_stackmap (kind_of o) ≡ true → All P (checked_of t v o)
  sum_all each o e =
      let inputs : List Operand = use_of t (child v.children 0) ∷ use_of t (child v.children 1) ∷ [] in
      checked_all o inputs 2 (result_of t v ∷ [])
      (each o inputs (result_of t v ∷ []) 2 e (two_uses t (child v.children 0) (child v.children 1))
      (All-cons (IsOut t v) (result_of t v) [] (inl refl) (All-nil (IsOut t v))))

  -- what holds of each instruction of it: the moves, the site and the move of a result
  pub map_code_all : Each → (o : Opcode) → has_map o ≡ true → All P (code_of t o v)
  map_code_all each opcode.Patchpoint e =
      All-append P (site_code v (patch_op v) [] (reported_behind t 0 v) (patch_results v)) (patched_from t v (result_register v))
      (checked_all (patch_op v) [] 0 (patch_results v)
      (each (patch_op v) [] (patch_results v) 0 (patch_has v) (All-nil (IsUse t))
      (patch_results_all v (IsOut t v) (λ role width reg. inr (role, width, reg, refl)))))
      (patched_all (result_register v))
  map_code_all each opcode.Check e =
      let c = condition_of t (child v.children 0) in
      checked_all (op.CheckIf c.test) c.over 1 [] (each (op.CheckIf c.test) c.over [] 1 refl (condition_uses t (child v.children 0)) (All-nil (IsOut t v)))
  map_code_all each opcode.CheckAdd e = sum_all each op.CheckAdd refl
  map_code_all each opcode.CheckSub e = sum_all each op.CheckSub refl
  map_code_all each opcode.CheckMul e = sum_all each op.CheckMul refl
  map_code_all each _ e = absurd cc
