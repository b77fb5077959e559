-- Each instruction that doesn't end its block.
use Rattle.a64_emit.proofs.ChecksRun.{check_leads, checked_leads}
use Rattle.air_ir.specs.declared.op.Test.{Test}
use Rattle.b3_meaning.specs.declared.role.Checked.TheVariants.{Sum, Difference, Product}
use Rattle.b3_meaning.specs.declared.role.Checked.{Checked}
use Rattle.a64_emit.proofs.SitesMade.{check_op, result_site}
use Rattle.a64_inst.specs.declared.item.Item.TheVariants.{Label}
use Rattle.stackmap.specs.declared.site.SiteKind.TheVariants as site_kind
use Rattle.stackmap.specs.declared.site.Returns.{Returns}
use Rattle.a64_emit.proofs.Outward.{Owns}
use Rattle.a64_emit.proofs.OutwardLeads.{call_leads, patch_leads}
use Rattle.a64_emit.proofs.Inner.{InstLeads, access_leads, runs_leads, straight_items, items_of_load, items_of_store, code_of_load, code_of_store, load_site, store_site, first_site}
use Rattle.std.proofs.Common.{◌≡◌, ℕ, ◌+◌, ◌<◌, Bool, true, List, [], ◌∷◌, None, length, refl, sym, ap, ◌∙◌, subst, Some}
use Rattle.std.proofs.lemmas.Bool.{ltb-true}
use Rattle.std.specs.Prelude.{All, slice_get}
use Rattle.b3_base.specs.Ranged.{IsRangedAnswer}
use Rattle.a64_inst.specs.declared.item.Item.{Item}
use Rattle.air_ir.specs.Forms.{HasOperands, HasSite, OfCall}
use Rattle.air_ir.specs.Kinds.{kind_of, target_count}
use Rattle.air_ir.specs.Steps.{State}
use Rattle.air_ir.specs.declared.frame.Frame.{Frame}
use Rattle.air_ir.specs.declared.op.AirOp.{AirOp}
use Rattle.air_ir.specs.declared.op.AirOp.TheVariants as op
use Rattle.air_ir.specs.declared.operand.Operand.{Operand}
use Rattle.air_ir.specs.declared.procedure.AirInst.{AirInst}
use Rattle.a64_layout.specs.Layout.{place, position_of}
use Rattle.a64_layout.specs.Machine.{Machine}
use Rattle.a64_emit.specs.Built.{is_built}
use Rattle.a64_emit.specs.Code.{arg_at, fetch_address, fetch_stored, inner_items, inst_code, inst_items, load_inst, put_result, result_reg, store_inst, with_mark, breaks, call_inst, fetch, check_items, checked_items, test_count}
use Rattle.stackmap.specs.declared.site.Site.{Site}
use Rattle.a64_emit.specs.Made.{exit_by, inst_sites, sites_by, trap_site, outward_site, patch_size, exit_site}
use Rattle.a64_code.specs.Places.{plains}
use Rattle.a64_emit.specs.Related.{IsRelated}
use Rattle.a64_emit.specs.Setting.{Setting, IsSet}
use Rattle.a64_emit.proofs.Instructions.{AreOpen, inst_runs, is_load, is_store_op, is_straight, load_by, store_by}
use Rattle.a64_emit.proofs.MarkedRuns.{insts_plains, plains_passed}
use Rattle.a64_emit.proofs.Exits.{ExitAt, HasOwn}
use Rattle.a64_emit.proofs.Positions.{Among}
use Rattle.air_frame.specs.Frames.{IsFrameOf}

-- an instruction that may stand before the last one
pub record IsInner (z : Setting) (i : AirInst) : Type 0 where
  pub built : is_built i.op i.traps ≡ true
  pub inner : target_count i.op ≡ None
  pub operands : HasOperands z.procedure.returns i.op i.operands
  pub opened : AreOpen z i.operands
  pub owns : Owns z.procedure i

pub data Shape (o : AirOp) : Type 0 where
  IsALoad : (is : is_load o ≡ true) → Shape o
  IsAStore : (is : is_store_op o ≡ true) → Shape o
  IsACall : (typed : Bool) (is : o ≡ op.Call typed) → Shape o
  IsAPatch : (size : ℕ) (typed : Bool) (is : o ≡ op.Patch size typed) (some : 0 < size) → Shape o
  IsACheck : (t : Test) (is : o ≡ op.CheckIf t) → Shape o
  IsAChecked : (checked : Checked) (is : o ≡ check_op checked) → Shape o
  IsStraight : (is : is_straight o ≡ true) → Shape o

-- the kinds of ops that may stand before the last one
pub shape_of : (o : AirOp) (traps : Bool) → is_built o traps ≡ true → target_count o ≡ None
    → Shape o
shape_of op.Load8Z traps built inner = IsALoad refl
shape_of op.Load8S traps built inner = IsALoad refl
shape_of op.Load16Z traps built inner = IsALoad refl
shape_of op.Load16S traps built inner = IsALoad refl
shape_of op.Load traps built inner = IsALoad refl
shape_of op.Store8 traps built inner = IsAStore refl
shape_of op.Store16 traps built inner = IsAStore refl
shape_of op.Store traps built inner = IsAStore refl
shape_of (op.CheckIf test) traps built inner = IsACheck test refl
shape_of op.CheckAdd traps built inner = IsAChecked Sum refl
shape_of op.CheckSub traps built inner = IsAChecked Difference refl
shape_of op.CheckMul traps built inner = IsAChecked Product refl
shape_of (op.Call typed) traps built inner = IsACall typed refl
shape_of (op.Patch size typed) traps built inner = IsAPatch size typed refl (ltb-true 0 size built)
shape_of (op.BranchIf test) traps built inner = absurd cc
shape_of op.Jump traps built inner = absurd cc
shape_of (op.Switch cases) traps built inner = absurd cc
shape_of op.Return traps built inner = absurd cc
shape_of op.Oops traps built inner = absurd cc
shape_of o traps built inner = IsStraight refl

items_of_call : (f : Frame) (next label mark : ℕ) (targets : List ℕ) (traps : Bool) (os : List Operand) (o : AirOp) (typed : Bool) → o ≡ op.Call typed
    → inst_items f next label mark targets traps o os ≡ with_mark true mark (fetch f 15 (arg_at os 0)) (call_inst os ∷ [])
unfolding inst_items inner_items
items_of_call f next label mark targets traps os o typed is = ap (λ o. inst_items f next label mark targets traps o os) is

items_of_patch : (f : Frame) (next label mark : ℕ) (targets : List ℕ) (traps : Bool) (os : List Operand) (o : AirOp) (size : ℕ) (typed : Bool)
    → o ≡ op.Patch size typed → inst_items f next label mark targets traps o os ≡ with_mark true mark [] (breaks size)
unfolding inst_items inner_items
items_of_patch f next label mark targets traps os o size typed is = ap (λ o. inst_items f next label mark targets traps o os) is

items_of_check : (f : Frame) (next label mark : ℕ) (targets : List ℕ) (traps : Bool) (os : List Operand) (o : AirOp) (t : Test) → o ≡ op.CheckIf t
    → inst_items f next label mark targets traps o os ≡ check_items f label t os
unfolding inst_items
items_of_check f next label mark targets traps os o t is = ap (λ o. inst_items f next label mark targets traps o os) is

checked_op_items : (f : Frame) (next label mark : ℕ) (targets : List ℕ) (traps : Bool) (os : List Operand) (checked : Checked)
    → inst_items f next label mark targets traps (check_op checked) os ≡ checked_items f label checked os
unfolding inst_items
checked_op_items f next label mark targets traps os Sum = refl
checked_op_items f next label mark targets traps os Difference = refl
checked_op_items f next label mark targets traps os Product = refl

items_of_checked : (f : Frame) (next label mark : ℕ) (targets : List ℕ) (traps : Bool) (os : List Operand) (o : AirOp) (checked : Checked)
    → o ≡ check_op checked → inst_items f next label mark targets traps o os ≡ checked_items f label checked os
items_of_checked f next label mark targets traps os o checked is =
    ap (λ o. inst_items f next label mark targets traps o os) is ∙ checked_op_items f next label mark targets traps os checked

check_operands : (r : Returns) (o : AirOp) (os : List Operand) (t : Test) → o ≡ op.CheckIf t → HasOperands r o os → HasSite (op.CheckIf t) os
check_operands r o os t is has = subst (λ x. HasOperands r x os) is has

checked_sites : (f : Frame) (i : AirInst) (checked : Checked) → exit_by (kind_of (check_op checked)) f i ≡ exit_site f 2 i ∷ []
checked_sites f i Sum = refl
checked_sites f i Difference = refl
checked_sites f i Product = refl

call_operands : (r : Returns) (o : AirOp) (os : List Operand) (typed : Bool) → o ≡ op.Call typed → HasOperands r o os → OfCall typed os
call_operands r o os typed is has = subst (λ x. HasOperands r x os) is has

patch_operands : (r : Returns) (o : AirOp) (os : List Operand) (size : ℕ) (typed : Bool) → o ≡ op.Patch size typed → HasOperands r o os
    → HasSite (op.Patch size typed) os
patch_operands r o os size typed is has = subst (λ x. HasOperands r x os) is has

module _ (z : Setting) (set : IsSet z) (serves : IsFrameOf z.procedure z.frame)
    (placed : (k label : ℕ) → slice_get z.code k ≡ Some (Label label) → position_of z.code label ≡ k) (next label mark : ℕ) (targets : List ℕ) (i : AirInst) (s : State) (k : ℕ)
    (c : Machine) where
  pub inner_leads : IsInner z i → Among z.code k (inst_items z.frame next label mark targets i.traps i.op i.operands)
      → Among z.sites mark (inst_sites z.frame i)
      → HasOwn z (k + length (inst_items z.frame next label mark targets i.traps i.op i.operands)) label i
      → place z.code z.long (k + length (inst_items z.frame next label mark targets i.traps i.op i.operands)) < place z.code z.long (length z.code)
      → All IsRangedAnswer s.world.answers → IsRelated z s c
      → InstLeads z i s k c (k + length (inst_items z.frame next label mark targets i.traps i.op i.operands))
  inner_leads mine among sites exit room ranged rel =
      let Leads : List Item → Type 0 = λ items. InstLeads z i s k c (k + length items) in
      let Exit : Site → List Item → Type 0 = λ site items. ExitAt z (k + length items) label site in
      let Room : List Item → Type 0 = λ items. place z.code z.long (k + length items) < place z.code z.long (length z.code) in
      elim (shape_of i.op i.traps mine.built mine.inner) as (λ x. Leads (inst_items z.frame next label mark targets i.traps i.op i.operands)) [
        | IsALoad is ↦
            let same = items_of_load z.frame next label mark targets i.traps i.operands i.op is in
            subst Leads (sym same)
            (access_leads z set serves i s k mark c (fetch_address z.frame (arg_at i.operands 0))
            (put_result z.frame (result_reg (arg_at i.operands 1)) (arg_at i.operands 1))
            (load_inst i.op i.operands) (code_of_load z.frame i.operands i.op is) (subst (Among z.code k) same among) (subst Room same room)
            (λ traps. first_site z.sites mark (inst_sites z.frame i) (trap_site i.value) sites (load_site z.frame (kind_of i.op) i is traps)) ranged rel
            (load_by z set serves i s c z.procedure.returns i.op refl is mine.operands mine.opened rel))
        | IsAStore is ↦
            let same = items_of_store z.frame next label mark targets i.traps i.operands i.op is in
            subst Leads (sym same)
            (access_leads z set serves i s k mark c (fetch_stored z.frame i.operands) []
            (store_inst i.op i.operands) (code_of_store z.frame i.operands i.op is) (subst (Among z.code k) same among) (subst Room same room)
            (λ traps. first_site z.sites mark (inst_sites z.frame i) (trap_site i.value) sites (store_site z.frame (kind_of i.op) i is traps)) ranged rel
            (store_by z set serves i s c z.procedure.returns i.op refl is mine.operands mine.opened rel))
        | IsACall typed is ↦
            let same = items_of_call z.frame next label mark targets i.traps i.operands i.op typed is in
            subst Leads (sym same)
            (call_leads z set serves i s k mark c typed is (call_operands z.procedure.returns i.op i.operands typed is mine.operands) mine.owns
            (subst (Among z.code k) same among)
            (first_site z.sites mark (inst_sites z.frame i) (outward_site z.frame site_kind.Call 1 typed 1 i) sites (ap (λ o. sites_by (kind_of o) z.frame i) is))
            (subst Room same room) ranged rel)
        | IsAPatch size typed is some ↦
            let same = items_of_patch z.frame next label mark targets i.traps i.operands i.op size typed is in
            subst Leads (sym same)
            (patch_leads z set serves i s k mark c size typed is (patch_operands z.procedure.returns i.op i.operands size typed is mine.operands) mine.owns
            (subst (Among z.code k) same among) some
            (first_site z.sites mark (inst_sites z.frame i) (outward_site z.frame site_kind.Patchpoint size typed 0 i) sites
            (ap (λ o. sites_by (kind_of o) z.frame i) is
            ∙ ap (λ o. outward_site z.frame site_kind.Patchpoint (patch_size o) typed 0 i ∷ []) is))
            (subst Room same room) ranged rel)
        | IsACheck t is ↦
            let same = items_of_check z.frame next label mark targets i.traps i.operands i.op t is in
            subst Leads (sym same)
            (check_leads z set serves placed i s k c t is (check_operands z.procedure.returns i.op i.operands t is mine.operands) mine.owns mine.opened label
            (subst (Among z.code k) same among)
            (subst (Exit (exit_site z.frame (test_count t) i)) same (exit (exit_site z.frame (test_count t) i) (ap (λ o. exit_by (kind_of o) z.frame i) is)))
            ranged rel)
        | IsAChecked checked is ↦
            let same = items_of_checked z.frame next label mark targets i.traps i.operands i.op checked is in
            subst Leads (sym same)
            (checked_leads z set serves placed i s k c checked is
            (result_site z.procedure.returns checked i.operands (subst (λ o. HasOperands z.procedure.returns o i.operands) is mine.operands)) mine.owns
            mine.opened label (subst (Among z.code k) same among)
            (subst (Exit (exit_site z.frame 2 i)) same
            (exit (exit_site z.frame 2 i) (ap (λ o. exit_by (kind_of o) z.frame i) is ∙ checked_sites z.frame i checked)))
            (subst Room same room) ranged rel)
        | IsStraight is ↦
            let same = straight_items z.frame next label mark targets i.traps i.operands i.op is in
            subst Leads (sym same)
            (runs_leads z set serves i s k c (plains (inst_code z.frame i.op i.operands)) (plains_passed (inst_code z.frame i.op i.operands))
            (insts_plains (inst_code z.frame i.op i.operands)) (subst (Among z.code k) same among) (subst Room same room) ranged rel
            (inst_runs z set serves i s c z.procedure.returns is mine.operands mine.opened rel))
      ]
