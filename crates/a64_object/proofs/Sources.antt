-- The value that a call and an access that traps are selected for, through the rewriting of temporaries.
use Rattle.std.proofs.Common.{◌≡◌, ℕ, zero, suc, Bool, true, false, Some, List, [], ◌∷◌, drop, refl, sym, ap, ◌∙◌, subst}
use Rattle.std.specs.Prelude.{All, if◌then◌else◌, slice_get}
use Rattle.std.specs.List.{flat_map}
use Rattle.std.proofs.lemmas.List.Elements.{All-append, All-nil, All-weaker}
use Rattle.std.proofs.lemmas.Option.{get_or_from_slice_get, slice_get-map}
use Rattle.b3_base.proofs.Lists.{All-one, All-at}
use Rattle.b3_base.proofs.Booleans.{not_both}
use Rattle.b3_base.proofs.Options.{mapped}
use Rattle.b3_ir.specs.Procedure.{Block, Procedure, StandsAt, no_block, values_of}
use Rattle.b3_ir.specs.Types.{width_of}
use Rattle.b3_ir.specs.declared.opcode.Opcode.{Opcode}
use Rattle.b3_ir.specs.declared.opcode.Opcode.TheVariants as opcode
use Rattle.b3_ir.specs.declared.value.Value.{Value}
use Rattle.b3_meaning.specs.Roles.{role_of}
use Rattle.b3_meaning.specs.declared.role.Extent.{Extent}
use Rattle.b3_meaning.specs.declared.role.Extent.TheVariants.{Byte, Half, Whole}
use Rattle.air_ir.specs.Kinds.{Kind, Calls, Checks, ChecksResult, Copies, Loads, Patches, Stores, extent_bytes, kind_of}
use Rattle.air_ir.specs.Renaming.{rename_inst}
use Rattle.air_ir.specs.WellFormed as air
use Rattle.air_ir.specs.declared.assignment.Assignment.{Assignment}
use Rattle.air_ir.specs.declared.op.AirOp.{AirOp}
use Rattle.air_ir.specs.declared.op.AirOp.TheVariants as op
use Rattle.air_ir.specs.declared.operand.Home.{Home}
use Rattle.air_ir.specs.declared.operand.Operand.{Operand}
use Rattle.air_ir.specs.declared.procedure.AirBlock.{AirBlock}
use Rattle.air_ir.specs.declared.procedure.AirInst.{AirInst}
use Rattle.air_ir.specs.declared.procedure.AirProc.{AirProc}
use Rattle.air_stackmap.specs.Laws.{has_stackmap as has_map}
use Rattle.air_spill.specs.Rewritten.{copies, home_by, is_copy, kept_operands, rewritten, rewritten_block, rewritten_inst, with_operands}
use Rattle.air_fold.specs.Values.{child, width_at}
use Rattle.air_select.specs.Contract.{has_stackmap, is_arithmetic_kind}
use Rattle.air_select.specs.Selected.{Tables, before_access, block_code, call_to, code_of, entry_of, folds, load_of, selected, selected_by, store_of, tables, value_code}
use Rattle.air_select.specs.Sited.{touches}
use Rattle.air_select.proofs.CallCode.{call_all}
use Rattle.air_select.proofs.MapCode.{map_code_all, pick}
use Rattle.air_select.proofs.Pieces.{IsFor, flat_found, made_for}
use Rattle.air_select.proofs.Sites.{IsPlain, before_plain, code_plain, entry_plain, kind_arithmetic}
use Rattle.a64_run.specs.CodeOf.{is_access}

-- ---- kinds
abbrev pub calls : Kind → Bool
calls (Calls typed) = true
calls _ = false

abbrev pub accesses : Kind → Bool
accesses (Loads extent extends) = true
accesses (Stores extent) = true
accesses _ = false

plain_calls : (k : Kind) → is_arithmetic_kind k ≡ true → calls k ≡ false
plain_calls (Calls typed) e = absurd cc
plain_calls _ e = refl

map_calls : (k : Kind) → has_stackmap k ≡ true → (calls k ≡ false) × (accesses k ≡ false)
map_calls (Patches typed) e = (refl, refl)
map_calls (Checks test) e = (refl, refl)
map_calls (ChecksResult checked) e = (refl, refl)
map_calls _ e = absurd cc

-- ---- the code of a value
-- a call in the code of a value of an opcode is that of a CCall, and an access that traps that of one that does
pub record IsFrom (t : Tables) (v : Value) (o : Opcode) (i : AirInst) : Type 0 where
  pub call : calls (kind_of i.op) ≡ true → (o ≡ opcode.CCall) × (i ≡ call_to t v (child v.children 0) (drop 1 v.children))
  pub trap : accesses (kind_of i.op) ≡ true → i.traps ≡ true → (is_access (role_of o) ≡ true) × (v.kind.traps ≡ true)

module _ (t : Tables) (v : Value) (o : Opcode) where
  other_from : (i : AirInst) → calls (kind_of i.op) ≡ false → accesses (kind_of i.op) ≡ false → IsFrom t v o i
  other_from i no_call no_access = record {
    call = λ e. absurd (not_both (calls (kind_of i.op)) e no_call);
    trap = λ e traps. absurd (not_both (accesses (kind_of i.op)) e no_access);
  }

  plain_from : (i : AirInst) → IsPlain i → IsFrom t v o i
  plain_from i plain = record {
    call = λ e. absurd (not_both (calls (kind_of i.op)) e (plain_calls (kind_of i.op) (kind_arithmetic i.op plain.arithmetic)));
    trap = λ e traps. absurd (not_both i.traps traps plain.traps);
  }

  access_from : (i : AirInst) → calls (kind_of i.op) ≡ false → is_access (role_of o) ≡ true → i.traps ≡ v.kind.traps → IsFrom t v o i
  access_from i no_call access same = record {
    call = λ e. absurd (not_both (calls (kind_of i.op)) e no_call);
    trap = λ e traps. (access, sym same ∙ traps);
  }

  load_from : (air_op : AirOp) (extent : Extent) → calls (kind_of air_op) ≡ false → is_access (role_of o) ≡ true
      → All (IsFrom t v o) (load_of t v air_op extent)
  load_from air_op extent no_call access =
      let pointer = child v.children 0 in
      let bytes = extent_bytes extent (width_of v.ty) in
      All-append (IsFrom t v o) (before_access t v pointer bytes) _
      (All-weaker IsPlain (IsFrom t v o) plain_from (before_access t v pointer bytes) (before_plain t v pointer bytes))
      (All-one (IsFrom t v o) _ (access_from _ no_call access refl))

  store_from : (air_op : AirOp) (extent : Extent) → calls (kind_of air_op) ≡ false → is_access (role_of o) ≡ true
      → All (IsFrom t v o) (store_of t v air_op extent)
  store_from air_op extent no_call access =
      let pointer = child v.children 1 in
      let bytes = extent_bytes extent (width_at t.index (child v.children 0)) in
      All-append (IsFrom t v o) (before_access t v pointer bytes) _
      (All-weaker IsPlain (IsFrom t v o) plain_from (before_access t v pointer bytes) (before_plain t v pointer bytes))
      (All-one (IsFrom t v o) _ (access_from _ no_call access refl))

  map_from : has_map o ≡ true → All (IsFrom t v o) (code_of t o v)
  map_from e =
      map_code_all t v (IsFrom t v o) (λ c reg is. other_from _ refl refl) (λ reg. other_from _ refl refl)
      (λ air inputs results n has ins outs. let none = map_calls (kind_of air) has in other_from _ none.0 none.1) o e

  plainly : touches o ≡ false → All (IsFrom t v o) (code_of t o v)
  plainly e = All-weaker IsPlain (IsFrom t v o) plain_from (code_of t o v) (code_plain t v o e)

module _ (t : Tables) (v : Value) where
  code_from : (o : Opcode) → All (IsFrom t v o) (code_of t o v)
  code_from opcode.Patchpoint = map_from t v opcode.Patchpoint refl
  code_from opcode.Check = map_from t v opcode.Check refl
  code_from opcode.CheckAdd = map_from t v opcode.CheckAdd refl
  code_from opcode.CheckSub = map_from t v opcode.CheckSub refl
  code_from opcode.CheckMul = map_from t v opcode.CheckMul refl
  code_from opcode.CCall =
      call_all t v (IsFrom t v opcode.CCall) (λ k c at. other_from t v opcode.CCall _ refl refl)
      (record { call = λ e. (refl, refl); trap = λ e traps. absurd cc }) (other_from t v opcode.CCall _ refl refl)
  code_from opcode.FramePointer = All-one (IsFrom t v opcode.FramePointer) _ (other_from t v opcode.FramePointer _ refl refl)
  code_from opcode.SlotBase = All-one (IsFrom t v opcode.SlotBase) _ (other_from t v opcode.SlotBase _ refl refl)
  code_from opcode.Load8Z = load_from t v opcode.Load8Z op.Load8Z Byte refl refl
  code_from opcode.Load8S = load_from t v opcode.Load8S op.Load8S Byte refl refl
  code_from opcode.Load16Z = load_from t v opcode.Load16Z op.Load16Z Half refl refl
  code_from opcode.Load16S = load_from t v opcode.Load16S op.Load16S Half refl refl
  code_from opcode.Load = load_from t v opcode.Load op.Load Whole refl refl
  code_from opcode.Store8 = store_from t v opcode.Store8 op.Store8 Byte refl refl
  code_from opcode.Store16 = store_from t v opcode.Store16 op.Store16 Half refl refl
  code_from opcode.Store = store_from t v opcode.Store op.Store Whole refl refl
  code_from o = plainly t v o refl

  value_from : All (IsFrom t v v.kind.opcode) (value_code t v)
  unfolding value_code
  value_from =
      pick (All (IsFrom t v v.kind.opcode)) (folds t v.id) [] (code_of t v.kind.opcode v) (All-nil (IsFrom t v v.kind.opcode)) (code_from v.kind.opcode)

-- ---- a selected procedure

abbrev IsOfKind : AirInst → Type 0
IsOfKind i = (calls (kind_of i.op) ≡ false → (accesses (kind_of i.op) ≡ true) × (i.traps ≡ true))

-- an instruction that is a call, or an access that traps, is one of a value's
pub record IsSelected (p : Procedure) (i : AirInst) : Type 0 where
  pub block : ℕ
  pub at : ℕ
  pub value : Value
  pub stands : StandsAt p block at value
  pub made : i.value ≡ value.id
  pub from : IsFrom (tables p) value value.kind.opcode i

selected_from : (p : Procedure) (b k : ℕ) (i : AirInst) → air.StandsAt (selected p) b k i → IsOfKind i → IsSelected p i
unfolding selected_by block_code
selected_from p zero k i at kind =
    let t = tables p in
    let of : entry_of t.index (values_of p 0) ≡ at.of = (let e = at.block_there in cc) in
    let there : slice_get (entry_of t.index (values_of p 0)).insts k ≡ Some i =
    subst (λ (b : AirBlock). slice_get b.insts k ≡ Some i) (sym of) at.inst_there in
    let plain = All-at IsPlain (entry_of t.index (values_of p 0)).insts k i (entry_plain t.index (values_of p 0)) there in
    absurd (not_both i.traps (kind (plain_calls (kind_of i.op) (kind_arithmetic i.op plain.arithmetic))).1 plain.traps)
selected_from p (suc b) k i at kind =
    let t = tables p in
    let block = mapped (block_code t) (slice_get p.blocks b) at.of (sym (slice_get-map (block_code t) p.blocks b) ∙ at.block_there) in
    let of : Block = block.0 in
    let there : slice_get (flat_map (value_code t) of.values) k ≡ Some i =
    subst (λ (x : AirBlock). slice_get x.insts k ≡ Some i) (sym block.2) at.inst_there in
    let piece = flat_found (value_code t) of.values k i there in
    let v : Value = piece.part in
    let values : values_of p b ≡ of.values = ap (λ (x : Block). x.values) (get_or_from_slice_get p.blocks b of no_block block.1) in
    record {
      block = b;
      at = piece.at;
      value = v;
      stands = subst (λ (vs : List Value). slice_get vs piece.at ≡ Some v) (sym values) piece.there;
      made = All-at (IsFor v.id) (value_code t v) piece.within i (made_for t v) piece.here;
      from = All-at (IsFrom t v v.kind.opcode) (value_code t v) piece.within i (value_from t v) piece.here;
    }

-- ---- a procedure that is rewritten
-- what is no copy is one instruction by other homes
pub record IsRenamed (q : AirProc) (a : Assignment) (b : ℕ) (j : AirInst) : Type 0 where
  pub at : ℕ
  pub inst : AirInst
  pub stands : air.StandsAt q b at inst
  pub is : j ≡ rename_inst (home_by a) inst

with_op : (i j : AirInst) (os : List Operand) (n : ℕ) → slice_get (with_operands i os) n ≡ Some j → j.op ≡ i.op
with_op i j [] n there = absurd cc
with_op i j (o ∷ os) zero there = (let same : record i { operands = o ∷ os } ≡ j = cc in ap (λ (x : AirInst). x.op) (sym same))
with_op i j (o ∷ os) (suc n) there = absurd cc

renamed_by : (loc : Home → Home) (i j : AirInst) (n : ℕ) → slice_get (rewritten_inst loc i) n ≡ Some j → is_copy j.op ≡ false → j ≡ rename_inst loc i
unfolding rewritten_inst
renamed_by loc i j n there no_copy = by (is_copy i.op) refl n there
  where
    by : (b : Bool) → is_copy i.op ≡ b → (n : ℕ) → slice_get (if b then with_operands i (kept_operands loc i.operands) else rename_inst loc i ∷ []) n ≡ Some j
        → j ≡ rename_inst loc i
    by true copy n there =
        absurd (not_both (is_copy i.op) copy (ap is_copy (sym (with_op i j (kept_operands loc i.operands) n there)) ∙ no_copy))
    by false other zero there = (let same : rename_inst loc i ≡ j = cc in sym same)
    by false other (suc n) there = absurd cc

renamed : (q : AirProc) (a : Assignment) (b k : ℕ) (j : AirInst) → air.StandsAt (rewritten q a) b k j → is_copy j.op ≡ false → IsRenamed q a b j
unfolding rewritten_block
renamed q a b k j at no_copy =
    let loc = home_by a in
    let block = mapped (rewritten_block loc) (slice_get q.blocks b) at.of (sym (slice_get-map (rewritten_block loc) q.blocks b) ∙ at.block_there) in
    let there : slice_get (flat_map (rewritten_inst loc) block.0.insts) k ≡ Some j =
    subst (λ (x : AirBlock). slice_get x.insts k ≡ Some j) (sym block.2) at.inst_there in
    let piece = flat_found (rewritten_inst loc) block.0.insts k j there in
    record {
      at = piece.at;
      inst = piece.part;
      stands = record { of = block.0; block_there = block.1; inst_there = piece.there };
      is = renamed_by loc piece.part j piece.within piece.here no_copy;
    }

no_copy : (k : Kind) → (calls k ≡ false → accesses k ≡ true) → copies k ≡ false
no_copy Copies is = absurd (let bad = is refl in cc)
no_copy _ is = refl

-- a call, or an access that traps, of a procedure that is selected and rewritten
pub record IsSourceOf (p : Procedure) (a : Assignment) (j : AirInst) : Type 0 where
  pub inst : AirInst
  pub selected_for : IsSelected p inst
  pub is : j ≡ rename_inst (home_by a) inst

pub source_of : (p : Procedure) (a : Assignment) (q : AirProc) (b k : ℕ) (j : AirInst) → q ≡ rewritten (selected p) a → air.StandsAt q b k j → IsOfKind j
    → IsSourceOf p a j
source_of p a q b k j is at kind =
    let r = renamed (selected p) a b k j (subst (λ x. air.StandsAt x b k j) is at) (no_copy (kind_of j.op) (λ e. (kind e).0)) in
    let same_op : j.op ≡ r.inst.op = ap (λ (x : AirInst). x.op) r.is in
    let same_traps : j.traps ≡ r.inst.traps = ap (λ (x : AirInst). x.traps) r.is in
    let own : IsOfKind r.inst = λ e.
    let its = kind (ap (λ o. calls (kind_of o)) same_op ∙ e) in
    (ap (λ o. accesses (kind_of o)) (sym same_op) ∙ its.0, sym same_traps ∙ its.1) in
    record { inst = r.inst; selected_for = selected_from p b r.at r.inst r.stands own; is = r.is }
