-- What the ops of patchpoints and checks say of their sites, op for op.
use Rattle.std.proofs.Common.{◌≡◌, ◌⊎◌, ℕ, Bool, false, Some, None, length, inl, inr, refl, sym, ap, subst}
use Rattle.b3_ir.specs.Fits.{Fits, IsBody, reported_count}
use Rattle.b3_ir.specs.Table.{row_of}
use Rattle.b3_ir.specs.declared.opcode.Opcode.{Opcode}
use Rattle.b3_ir.specs.declared.opcode.Opcode.TheVariants as opcode
use Rattle.b3_ir.specs.declared.opcode.Ty.{Ty}
use Rattle.b3_ir.specs.declared.table.Carries.{Carries}
use Rattle.b3_ir.specs.declared.table.Carries.TheVariants as carries
use Rattle.b3_ir.specs.declared.value.Body.{Body}
use Rattle.b3_ir.specs.declared.value.Body.TheVariants as bodies
use Rattle.b3_ir.specs.declared.value.Stackmap.{Stackmap}
use Rattle.b3_ir.specs.declared.value.Value.{Value}
use Rattle.stackmap.specs.Obeys.{kind_of, size_of}
use Rattle.stackmap.specs.Registers.{has_result, is_patchpoint, stackmap_in}
use Rattle.stackmap.specs.declared.site.SiteKind.TheVariants as kind
use Rattle.air_ir.specs.Expressed.{IsOpOf}
use Rattle.air_ir.specs.SitesInPlaces.{patch_in}
use Rattle.air_ir.specs.declared.op.AirOp.{AirOp}
use Rattle.air_ir.specs.declared.op.AirOp.TheVariants as op

-- a patchpoint of a value
pub record IsPatchOf (map : Stackmap) (v : Value) (o : AirOp) : Type 0 where
  pub typed : Bool
  pub op : patch_in o ≡ Some (map.size, typed)
  pub result : typed ≡ has_result v
  pub opcode : v.kind.opcode ≡ opcode.Patchpoint

-- what an opcode says of a check
pub record IsCheckBy (map : Stackmap) (code : Opcode) : Type 0 where
  pub patches : is_patchpoint code ≡ false
  pub kind : kind_of code ≡ kind.Exit
  pub size : size_of code map ≡ 1
  pub carries : (row_of code).carries ≡ carries.Exit

pub record IsCheckOf (map : Stackmap) (v : Value) (o : AirOp) : Type 0 where
  pub op : patch_in o ≡ None
  pub by : IsCheckBy map v.kind.opcode

check_by : (map : Stackmap) (code known : Opcode) → code ≡ known → IsCheckBy map known → IsCheckBy map code
check_by map code known e is = subst (IsCheckBy map) (sym e) is

patch_of : (map : Stackmap) (v : Value) (size : ℕ) (typed : Bool) → IsOpOf map v (op.Patch size typed)
    → IsPatchOf map v (op.Patch size typed)
patch_of map v size typed (code, same, result) =
    record { typed = typed; op = ap (λ (n : ℕ). Some (n, typed)) same; result = result; opcode = code }

pub op_is : (map : Stackmap) (v : Value) (o : AirOp) → IsOpOf map v o → IsPatchOf map v o ⊎ IsCheckOf map v o
op_is map v op.Move is = absurd is
op_is map v op.Shuffle is = absurd is
op_is map v op.Add is = absurd is
op_is map v op.Sub is = absurd is
op_is map v op.Neg is = absurd is
op_is map v op.Mul is = absurd is
op_is map v op.MulSub is = absurd is
op_is map v op.Div is = absurd is
op_is map v op.UDiv is = absurd is
op_is map v op.And is = absurd is
op_is map v op.Or is = absurd is
op_is map v op.Xor is = absurd is
op_is map v op.Lsl is = absurd is
op_is map v op.Lsr is = absurd is
op_is map v op.Asr is = absurd is
op_is map v op.Ror is = absurd is
op_is map v op.Clz is = absurd is
op_is map v op.SExt8 is = absurd is
op_is map v op.SExt16 is = absurd is
op_is map v op.SExt32 is = absurd is
op_is map v op.ZExt32 is = absurd is
op_is map v op.MulHigh is = absurd is
op_is map v op.UMulHigh is = absurd is
op_is map v op.Load8Z is = absurd is
op_is map v op.Load8S is = absurd is
op_is map v op.Load16Z is = absurd is
op_is map v op.Load16S is = absurd is
op_is map v op.Load is = absurd is
op_is map v op.Store8 is = absurd is
op_is map v op.Store16 is = absurd is
op_is map v op.Store is = absurd is
op_is map v (op.SetIf test) is = absurd is
op_is map v (op.SelectIf test) is = absurd is
op_is map v (op.CheckIf test) is =
    let by : IsCheckBy map opcode.Check = record { patches = refl; kind = refl; size = refl; carries = refl } in
    inr (record { op = refl; by = check_by map v.kind.opcode opcode.Check is by })
op_is map v op.CheckAdd is =
    let by : IsCheckBy map opcode.CheckAdd = record { patches = refl; kind = refl; size = refl; carries = refl } in
    inr (record { op = refl; by = check_by map v.kind.opcode opcode.CheckAdd is by })
op_is map v op.CheckSub is =
    let by : IsCheckBy map opcode.CheckSub = record { patches = refl; kind = refl; size = refl; carries = refl } in
    inr (record { op = refl; by = check_by map v.kind.opcode opcode.CheckSub is by })
op_is map v op.CheckMul is =
    let by : IsCheckBy map opcode.CheckMul = record { patches = refl; kind = refl; size = refl; carries = refl } in
    inr (record { op = refl; by = check_by map v.kind.opcode opcode.CheckMul is by })
op_is map v (op.BranchIf test) is = absurd is
op_is map v op.Jump is = absurd is
op_is map v (op.Switch cases) is = absurd is
op_is map v (op.Call typed) is = absurd is
op_is map v (op.Patch size typed) is = inl (patch_of map v size typed is)
op_is map v op.Return is = absurd is
op_is map v op.Oops is = absurd is
op_is map v op.SlotAddress is = absurd is
op_is map v op.FramePointer is = absurd is

-- ---- a constraint for each reported child

body_site : (ty : Ty) (n : ℕ) (body : Body) (map : Stackmap) → stackmap_in body ≡ Some map
    → IsBody carries.Site ty n body → length map.constraints ≡ n
body_site ty n (bodies.Map m) map e is =
    let same : m ≡ map = cc in subst (λ (x : Stackmap). length x.constraints ≡ n) same is.sound.count
body_site ty n bodies.Plain map e is = absurd (cc)
body_site ty n (bodies.Constant x) map e is = absurd (cc)
body_site ty n (bodies.Argument x) map e is = absurd (cc)
body_site ty n (bodies.Slot x) map e is = absurd (cc)
body_site ty n (bodies.Offset x) map e is = absurd (cc)
body_site ty n (bodies.Target x) map e is = absurd (cc)
body_site ty n (bodies.Targets x) map e is = absurd (cc)
body_site ty n (bodies.Cases x y) map e is = absurd (cc)

body_exit : (ty : Ty) (n : ℕ) (body : Body) (map : Stackmap) → stackmap_in body ≡ Some map
    → IsBody carries.Exit ty n body → length map.constraints ≡ n
body_exit ty n (bodies.Map m) map e is =
    let same : m ≡ map = cc in subst (λ (x : Stackmap). length x.constraints ≡ n) same is.sound.count
body_exit ty n bodies.Plain map e is = absurd (cc)
body_exit ty n (bodies.Constant x) map e is = absurd (cc)
body_exit ty n (bodies.Argument x) map e is = absurd (cc)
body_exit ty n (bodies.Slot x) map e is = absurd (cc)
body_exit ty n (bodies.Offset x) map e is = absurd (cc)
body_exit ty n (bodies.Target x) map e is = absurd (cc)
body_exit ty n (bodies.Targets x) map e is = absurd (cc)
body_exit ty n (bodies.Cases x y) map e is = absurd (cc)

pub constraint_count : (map : Stackmap) (v : Value) (o : AirOp) → IsOpOf map v o → stackmap_in v.body ≡ Some map
    → Fits v
    → length map.constraints ≡ reported_count v
constraint_count map v o is carries_it fits = elim (op_is map v o is) [
  | inl patch ↦ body_site v.ty (reported_count v) v.body map carries_it
      (subst (λ (c : Carries). IsBody c v.ty (reported_count v) v.body)
      (ap (λ (c : Opcode). (row_of c).carries) patch.opcode) fits.body)
  | inr check ↦ body_exit v.ty (reported_count v) v.body map carries_it
      (subst (λ (c : Carries). IsBody c v.ty (reported_count v) v.body) check.by.carries fits.body)
]
