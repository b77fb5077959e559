-- Where no value traps, no instruction does.
use Rattle.std.proofs.Common.{◌≡◌, ℕ, true, false, List, [], refl}
use Rattle.std.specs.Prelude.{All}
use Rattle.std.proofs.lemmas.List.Elements.{All-append, All-nil, All-weaker}
use Rattle.b3_base.proofs.Lists.{All-one}
use Rattle.b3_ir.specs.Procedure.{Procedure}
use Rattle.b3_ir.specs.Types.{width_of}
use Rattle.b3_ir.specs.declared.opcode.Opcode.{Opcode}
use Rattle.b3_ir.specs.declared.opcode.Opcode.TheVariants as opcode
use Rattle.b3_ir.specs.declared.value.Value.{Value}
use Rattle.b3_meaning.specs.declared.role.Extent.{Extent}
use Rattle.b3_meaning.specs.declared.role.Extent.TheVariants.{Byte, Half, Whole}
use Rattle.air_ir.specs.Kinds.{extent_bytes}
use Rattle.air_ir.specs.declared.op.AirOp.{AirOp}
use Rattle.air_ir.specs.declared.op.AirOp.TheVariants as op
use Rattle.air_ir.specs.declared.procedure.AirInst.{AirInst}
use Rattle.air_fold.specs.Values.{Index, child, width_at}
use Rattle.air_select.specs.Contract.{HasNoTraps, IsUntrapped}
use Rattle.air_select.specs.Selected.{Tables, before_access, code_of, entry_of, folds, load_of, selected, store_of, value_code}
use Rattle.air_stackmap.specs.Laws.{has_stackmap as has_map}
use Rattle.air_select.specs.Sited.{touches}
use Rattle.air_select.proofs.CallCode.{call_all}
use Rattle.air_select.proofs.MapCode.{map_code_all, pick}
use Rattle.air_select.proofs.Sites.{IsPlain, before_plain, code_plain, entry_plain, selected_when}

abbrev IsCalm : AirInst → Type 0
IsCalm i = i.traps ≡ false

abbrev DoesNotTrap : Value → Type 0
DoesNotTrap v = v.kind.traps ≡ false

plain_calm : (i : AirInst) → IsPlain i → IsCalm i
plain_calm i p = p.traps

module _ (t : Tables) (v : Value) (calm : DoesNotTrap v) where
  before_calm : (pointer bytes : ℕ) → All IsCalm (before_access t v pointer bytes)
  before_calm pointer bytes = All-weaker IsPlain IsCalm plain_calm (before_access t v pointer bytes) (before_plain t v pointer bytes)

  load_calm : (air_op : AirOp) (extent : Extent) → All IsCalm (load_of t v air_op extent)
  load_calm air_op extent =
      let pointer = child v.children 0 in
      let bytes = extent_bytes extent (width_of v.ty) in
      All-append IsCalm (before_access t v pointer bytes) _ (before_calm pointer bytes) (All-one IsCalm _ calm)

  store_calm : (air_op : AirOp) (extent : Extent) → All IsCalm (store_of t v air_op extent)
  store_calm air_op extent =
      let pointer = child v.children 1 in
      let bytes = extent_bytes extent (width_at t.index (child v.children 0)) in
      All-append IsCalm (before_access t v pointer bytes) _ (before_calm pointer bytes) (All-one IsCalm _ calm)

  weakly : (o : Opcode) → touches o ≡ false → All IsCalm (code_of t o v)
  weakly o e = All-weaker IsPlain IsCalm plain_calm (code_of t o v) (code_plain t v o e)

  map_calm : (o : Opcode) → has_map o ≡ true → All IsCalm (code_of t o v)
  map_calm o e = map_code_all t v IsCalm (λ c reg is. refl) (λ reg. refl) (λ air inputs results n has ins outs. refl) o e

  code_calm : (o : Opcode) → All IsCalm (code_of t o v)
  code_calm opcode.FramePointer = All-one IsCalm _ refl
  code_calm opcode.SlotBase = All-one IsCalm _ refl
  code_calm opcode.Load8Z = load_calm op.Load8Z Byte
  code_calm opcode.Load8S = load_calm op.Load8S Byte
  code_calm opcode.Load16Z = load_calm op.Load16Z Half
  code_calm opcode.Load16S = load_calm op.Load16S Half
  code_calm opcode.Load = load_calm op.Load Whole
  code_calm opcode.Store8 = store_calm op.Store8 Byte
  code_calm opcode.Store16 = store_calm op.Store16 Half
  code_calm opcode.Store = store_calm op.Store Whole
  code_calm opcode.Patchpoint = map_calm opcode.Patchpoint refl
  code_calm opcode.Check = map_calm opcode.Check refl
  code_calm opcode.CheckAdd = map_calm opcode.CheckAdd refl
  code_calm opcode.CheckSub = map_calm opcode.CheckSub refl
  code_calm opcode.CheckMul = map_calm opcode.CheckMul refl
  code_calm opcode.CCall = call_all t v IsCalm (λ k c at. refl) refl refl
  code_calm o = weakly o refl

value_calm : (t : Tables) (v : Value) → DoesNotTrap v → All IsCalm (value_code t v)
unfolding value_code
value_calm t v calm = pick (All IsCalm) (folds t v.id) [] (code_of t v.kind.opcode v) (All-nil IsCalm) (code_calm t v calm v.kind.opcode)

entry_calm : (x : Index) (vs : List Value) → All IsCalm (entry_of x vs).insts
entry_calm x vs = All-weaker IsPlain IsCalm plain_calm (entry_of x vs).insts (entry_plain x vs)

pub untrapped : (p : Procedure) → HasNoTraps p → IsUntrapped (selected p)
untrapped p calm = selected_when DoesNotTrap IsCalm value_calm entry_calm p calm
