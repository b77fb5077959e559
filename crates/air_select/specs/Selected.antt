-- The procedure of Air that is selected for a procedure of B3.
use Rattle.std.specs.Prelude.{ℕ, pos, ◌||◌, zero, suc, ◌+◌, ◌-◌, ◌%◌, Bool, false, if◌then◌else◌, List, [], ◌∷◌, ◌++◌, drop, map, Option, Some, None, slice_index_or}
use Rattle.std.specs.Int.{cast_unsigned, w64}
use Rattle.std.specs.List.{flat_map, list_any}
use Rattle.std.specs.Prelude.{nat_eq}
use Rattle.b3_base.specs.Word.{bits}
use Rattle.b3_base.specs.declared.word.Width.{Width}
use Rattle.b3_base.specs.declared.word.Width.TheVariants.{W32, W64}
use Rattle.b3_ir.specs.Naming.{all_values}
use Rattle.b3_ir.specs.Procedure.{Block, Procedure, values_of}
use Rattle.b3_ir.specs.Types.{has_word, width_of}
use Rattle.b3_ir.specs.declared.opcode.Opcode.{Opcode}
use Rattle.b3_ir.specs.declared.opcode.Opcode.TheVariants as opcode
use Rattle.b3_ir.specs.declared.opcode.Ty.{Ty}
use Rattle.b3_ir.specs.declared.opcode.Ty.TheVariants.{Int32}
use Rattle.b3_ir.specs.declared.procedure.SlotLine.{SlotLine}
use Rattle.b3_ir.specs.declared.value.Body.{Body}
use Rattle.b3_ir.specs.declared.value.Body.TheVariants.{Argument, Cases, Slot, Target}
use Rattle.b3_ir.specs.declared.value.Reg.{Reg as Register}
use Rattle.b3_ir.specs.declared.value.Value.{Value}
use Rattle.b3_meaning.specs.declared.role.Extent.{Extent}
use Rattle.b3_meaning.specs.declared.role.Extent.TheVariants.{Byte, Half, Whole}
use Rattle.b3_rules.specs.Paths.{successors_in}
use Rattle.b3_rules.specs.Rules.{first_return}
use Rattle.stackmap.specs.Placing.{result_register}
use Rattle.stackmap.specs.declared.site.Returns.{Returns}
use Rattle.stackmap.specs.declared.site.Returns.TheVariants as returns
use Rattle.a64_inst.specs.declared.inst.Cond.{Cond}
use Rattle.a64_inst.specs.declared.inst.Cond.TheVariants.{Eq, Ne, Hs, Lo, Hi, Ls, Ge, Lt, Gt, Le}
use Rattle.air_ir.specs.Forms.{call_clobbers, is_offset, operand_in}
use Rattle.air_ir.specs.Kinds.{extent_bytes}
use Rattle.air_ir.specs.declared.op.AirOp.{AirOp}
use Rattle.air_ir.specs.declared.op.AirOp.TheVariants as op
use Rattle.air_ir.specs.declared.op.Test.{Test}
use Rattle.air_ir.specs.declared.op.Test.TheVariants.{Compare, NonZero, Bit}
use Rattle.air_ir.specs.declared.operand.Home.{Home}
use Rattle.air_ir.specs.declared.operand.Home.TheVariants.{Reg}
use Rattle.air_ir.specs.declared.operand.Arg.{Arg}
use Rattle.air_ir.specs.declared.operand.Arg.TheVariants.{Addr, At, FrameSlot, Imm, Index as Indexed}
use Rattle.air_ir.specs.declared.operand.Role.TheVariants.{Clobber, Def, Use}
use Rattle.air_ir.specs.declared.operand.Operand.{Operand}
use Rattle.air_ir.specs.declared.procedure.AirBlock.{AirBlock}
use Rattle.air_ir.specs.declared.procedure.AirInst.{AirInst}
use Rattle.air_ir.specs.declared.procedure.AirProc.{AirProc}
use Rattle.air_stackmap.specs.SiteCode.{patch_code, site_code}
use Rattle.air_stackmap.specs.declared.child.Child.{Child}
use Rattle.air_fold.specs.Foldable.{bit_of, is_comparison, is_constant, is_foldable, whole}
use Rattle.air_select.specs.Temporaries.{argument, first_extra, home, location, second_extra, tmp_count}
use Rattle.air_fold.specs.declared.known.Known.{Known}
use Rattle.air_fold.specs.Values.{Index, child, ids_of, index_of, known, offset_in, place, width_at, word_in}

-- what selection looks up: of each id its place and what is known of it, and whether its value is folded
pub record Tables : Type 0 where
  pub index : Index
  pub folds : List Bool

abbrev pub tables : Procedure → Tables
tables p = record { index = index_of p; folds = map (is_foldable p) (ids_of p) }

abbrev pub folds : Tables → ℕ → Bool
folds t id = slice_index_or t.folds (place t.index id) false

-- ---- the rows of opcodes

-- the condition of a comparison
abbrev pub condition : Opcode → Cond
condition opcode.Equal = Eq
condition opcode.LessThan = Lt
condition opcode.GreaterThan = Gt
condition opcode.LessEqual = Le
condition opcode.GreaterEqual = Ge
condition opcode.Above = Hi
condition opcode.Below = Lo
condition opcode.AboveEqual = Hs
condition opcode.BelowEqual = Ls
condition _ = Ne

-- the op of an opcode that is one instruction over its children: where they are two that are compared, their test
abbrev pub op_of : Opcode → AirOp
op_of opcode.Add = op.Add
op_of opcode.Sub = op.Sub
op_of opcode.Mul = op.Mul
op_of opcode.BitAnd = op.And
op_of opcode.BitOr = op.Or
op_of opcode.BitXor = op.Xor
op_of opcode.Neg = op.Neg
op_of opcode.Div = op.Div
op_of opcode.UDiv = op.UDiv
op_of opcode.Shl = op.Lsl
op_of opcode.SShr = op.Asr
op_of opcode.ZShr = op.Lsr
op_of opcode.RotR = op.Ror
op_of opcode.Clz = op.Clz
op_of opcode.SExt8 = op.SExt8
op_of opcode.SExt16 = op.SExt16
op_of opcode.SExt32 = op.SExt32
op_of opcode.ZExt32 = op.ZExt32
op_of opcode.Identity = op.Move
op_of other = op.SetIf (Compare (condition other))

-- ---- operands

abbrev pub use_at : Width → Arg → Operand
use_at width arg = record { role = Use; width = width; arg = arg }

abbrev pub def_at : Width → Home → Operand
def_at width to = record { role = Def; width = width; arg = At to }

-- the register of a number
abbrev pub register : ℕ → Home
register r = Reg (record { 0 = r })

-- the amount of a rotation right that is one left by this amount
abbrev pub turned : Width → ℕ → ℕ
turned width amount = (bits width - amount % bits width) % bits width

abbrev pub register_in : Body → ℕ
register_in (Argument reg) = reg.0
register_in _ = 0

abbrev pub phi_in : Body → ℕ
phi_in (Target phi) = phi
phi_in _ = 0

abbrev pub cases_in : Body → List ℕ
cases_in (Cases cases targets) = cases
cases_in _ = []

-- the number of a slot
abbrev pub slot_in : Body → ℕ
slot_in (Slot number) = number
slot_in _ = 0

-- ---- instructions

abbrev pub inst : Value → AirOp → List Operand → AirInst
inst v op operands = record { op = op; operands = operands; value = v.id; traps = false }

-- a load or a store traps where its value does
abbrev pub access : Value → AirOp → List Operand → AirInst
access v op operands = record { op = op; operands = operands; value = v.id; traps = v.kind.traps }

abbrev pub move : Value → Width → Arg → Home → AirInst
move v width from to = inst v op.Move (use_at width from ∷ def_at width to ∷ [])

abbrev pub copy_of : Value → Width × Arg × Home → AirInst
copy_of v c = move v c.0 c.1 c.2

-- a test, and the operands that it is over
pub record Condition : Type 0 where
  pub test : Test
  pub over : List Operand

-- the word of a constant
abbrev pub constant_in : Known → Option ℕ
constant_in k = if is_constant k.opcode then Some k.word else None

-- a result that is written into a register, where there is one
abbrev pub result_into : Value → ℕ → List Operand
result_into v r = if has_word v.ty then def_at (width_of v.ty) (register r) ∷ [] else []

-- block b of B3 is block b + 1 of Air; only the last value of a block names successors
abbrev pub targets_of : Value → List ℕ
targets_of v = map (λ b. b + 1) (successors_in v.body)

module _ (t : Tables) where
  -- a folded constant stands as its word in its use, and any other value in its home
  abbrev pub arg_of : ℕ → Arg
  arg_of id = if folds t id then Imm (known t.index id).word else At (home t.index id)

  abbrev pub use_of : ℕ → Operand
  use_of id = use_at (width_at t.index id) (arg_of id)

  -- the result of a value
  abbrev pub result_of : Value → Operand
  result_of v = def_at (width_of v.ty) (home t.index v.id)

  -- ---- conditions

  -- a folded condition is the test of its comparison, or of its bit
  abbrev pub folded_condition : ℕ → Condition
  folded_condition id =
      let k = known t.index id in
      if is_comparison k.opcode
      then record { test = Compare (condition k.opcode); over = use_of k.first ∷ use_of k.second ∷ [] }
      else record { test = Bit (bit_of (known t.index k.second).word); over = use_of k.first ∷ [] }

  abbrev pub condition_of : ℕ → Condition
  condition_of id =
      if folds t id then folded_condition id else record { test = NonZero; over = use_of id ∷ [] }

  -- ---- values

  -- one instruction over the children
  abbrev pub computes : Value → AirOp → List AirInst
  computes v op = inst v op (map use_of v.children ++ result_of v ∷ []) ∷ []

  -- a quotient, and the dividend less its product with the divisor
  abbrev pub quotient_of : Value → AirOp → AirInst
  quotient_of v divide = inst v divide (
      use_of (child v.children 0) ∷ use_of (child v.children 1)
      ∷ def_at (width_of v.ty) (first_extra t.index v.id) ∷ [])

  abbrev pub rest_into : Value → Home → AirInst
  rest_into v to = inst v op.MulSub (
      use_at (width_of v.ty) (At (first_extra t.index v.id)) ∷ use_of (child v.children 1)
      ∷ use_of (child v.children 0) ∷ def_at (width_of v.ty) to ∷ [])

  -- the remainder, and 0 where the divisor is 0: the quotient is 0 there
  abbrev pub chosen_rest : Value → AirInst
  chosen_rest v = inst v (op.SelectIf NonZero) (
      use_of (child v.children 1) ∷ use_at (width_of v.ty) (At (second_extra t.index v.id))
      ∷ use_at (width_of v.ty) (At (first_extra t.index v.id)) ∷ result_of v ∷ [])

  abbrev pub remainder : Value → AirOp → List AirInst
  remainder v divide =
      if v.kind.chill
      then quotient_of v divide ∷ rest_into v (second_extra t.index v.id) ∷ chosen_rest v ∷ []
      else quotient_of v divide ∷ rest_into v (home t.index v.id) ∷ []

  -- a rotation left is one right by the negative of the amount
  abbrev pub rotate_by : Value → Arg → AirInst
  rotate_by v amount = inst v op.Ror (use_of (child v.children 0) ∷ use_at W32 amount ∷ result_of v ∷ [])

  abbrev pub negative_amount : Value → AirInst
  negative_amount v =
      inst v op.Neg (use_of (child v.children 1) ∷ def_at W32 (first_extra t.index v.id) ∷ [])

  abbrev pub rotate_left : Value → List AirInst
  rotate_left v =
      let amount = child v.children 1 in
      if folds t amount
      then rotate_by v (Imm (turned (width_of v.ty) (known t.index amount).word)) ∷ []
      else negative_amount v ∷ rotate_by v (At (first_extra t.index v.id)) ∷ []

  abbrev pub select_on : Value → Condition → List AirInst
  select_on v c = inst v (op.SelectIf c.test) (
      c.over ++ use_of (child v.children 1) ∷ use_of (child v.children 2) ∷ result_of v ∷ []) ∷ []

  abbrev pub branch_on : Value → Condition → List AirInst
  branch_on v c = inst v (op.BranchIf c.test) c.over ∷ []

  -- a word is returned in x0
  abbrev pub return_of : Value → List ℕ → List AirInst
  return_of v [] = inst v op.Return [] ∷ []
  return_of v (c ∷ cs) =
      move v (width_at t.index c) (arg_of c) (register 0)
      ∷ inst v op.Return (use_at (width_at t.index c) (At (register 0)) ∷ []) ∷ []

  -- ---- accesses

  -- the sum of a pointer and an offset that doesn't fit in an address
  abbrev pub far_offset : Value → AirInst
  far_offset v = move v W64 (Imm (cast_unsigned w64 (offset_in v.body))) (first_extra t.index v.id)

  abbrev pub far_pointer : Value → ℕ → AirInst
  far_pointer v pointer = inst v op.Add (
      use_of pointer ∷ use_at W64 (At (first_extra t.index v.id)) ∷ def_at W64 (second_extra t.index v.id) ∷ [])

  abbrev pub far_sum : Value → ℕ → List AirInst
  far_sum v pointer = far_offset v ∷ far_pointer v pointer ∷ []

  -- what stands before an access of so many bytes
  abbrev pub before_access : Value → ℕ → ℕ → List AirInst
  before_access v pointer bytes =
      if folds t pointer || is_offset bytes (offset_in v.body) then [] else far_sum v pointer

  -- the address at a pointer in its home
  abbrev pub home_address : Value → ℕ → ℕ → Arg
  home_address v pointer bytes =
      if is_offset bytes (offset_in v.body)
      then Addr (home t.index pointer) (offset_in v.body)
      else Addr (second_extra t.index v.id) (pos 0)

  -- the address at a base and another child of a sum, of which this is known: a folded one is a shift by 3
  abbrev pub indexed_by : Home → ℕ → Known → Arg
  indexed_by base id k =
      if folds t id then Indexed base (home t.index k.first) 3 else Indexed base (home t.index id) 0

  -- the address at a folded sum: a constant goes into the offset, and any other child is an index
  abbrev pub sum_address : Value → Known → Arg
  sum_address v k =
      let second = known t.index k.second in
      if is_constant second.opcode
      then Addr (home t.index k.first) (whole second.word (offset_in v.body))
      else indexed_by (home t.index k.first) k.second second

  -- the address of an access of so many bytes
  abbrev pub address_of : Value → ℕ → ℕ → Arg
  address_of v pointer bytes =
      if folds t pointer then sum_address v (known t.index pointer) else home_address v pointer bytes

  -- a load from the first child
  abbrev pub load_of : Value → AirOp → Extent → List AirInst
  load_of v op extent =
      let width = width_of v.ty in
      let pointer = child v.children 0 in
      let bytes = extent_bytes extent width in
      before_access v pointer bytes
      ++ access v op (use_at width (address_of v pointer bytes) ∷ result_of v ∷ []) ∷ []

  -- a store of the first child at the second
  abbrev pub store_of : Value → AirOp → Extent → List AirInst
  store_of v op extent =
      let width = width_at t.index (child v.children 0) in
      let pointer = child v.children 1 in
      let bytes = extent_bytes extent width in
      before_access v pointer bytes
      ++ access v op (use_of (child v.children 0) ∷ use_at width (address_of v pointer bytes) ∷ []) ∷ []

  abbrev pub slot_of : Value → AirInst
  slot_of v = inst v op.SlotAddress (use_at W64 (FrameSlot (slot_in v.body)) ∷ result_of v ∷ [])

  abbrev pub frame_of : Value → AirInst
  frame_of v = inst v op.FramePointer (result_of v ∷ [])

  -- ---- calls

  -- arguments are put into registers one after the other, from this register on: what is read later stands in
  -- temporaries that are live until then, so none of these becomes a register that is written before
  abbrev pub arguments_into : Value → ℕ → List ℕ → List AirInst
  arguments_into v r [] = []
  arguments_into v r (c ∷ cs) = move v (width_at t.index c) (arg_of c) (register r) ∷ arguments_into v (suc r) cs

  -- they are read there
  abbrev pub arguments_at : ℕ → List ℕ → List Operand
  arguments_at r [] = []
  arguments_at r (c ∷ cs) = use_at (width_at t.index c) (At (register r)) ∷ arguments_at (suc r) cs

  -- such a result is put into the value's home
  abbrev pub result_from : Value → ℕ → List AirInst
  result_from v r =
      if has_word v.ty then move v (width_of v.ty) (At (register r)) (home t.index v.id) ∷ [] else []

  -- the callee stands in its home, the arguments in x0, x1 and so on, and the result in x0
  abbrev pub call_to : Value → ℕ → List ℕ → AirInst
  call_to v callee cs = inst v (op.Call (has_word v.ty)) (
      use_of callee ∷ arguments_at 0 cs ++ (map (operand_in Clobber W64) call_clobbers ++ result_into v 0))

  abbrev pub call_of : Value → List AirInst
  call_of v =
      arguments_into v 0 (drop 1 v.children)
      ++ call_to v (child v.children 0) (drop 1 v.children) ∷ result_from v 0

  -- ---- patchpoints and checks

  -- what a site finds of a reported child: its home, or its word where it is a constant
  abbrev pub child_of : ℕ → Child
  child_of id = record {
    width = width_at t.index id;
    home = home t.index id;
    constant = constant_in (known t.index id);
  }

  -- the children behind so many
  abbrev pub reported_behind : ℕ → Value → List Child
  reported_behind n v = map child_of (drop n v.children)

  -- a check computes with its first two children, and reports the others
  abbrev pub checked_of : Value → AirOp → List AirInst
  checked_of v op =
      site_code v op (use_of (child v.children 0) ∷ use_of (child v.children 1) ∷ []) (reported_behind 2 v)
      (result_of v ∷ [])

  -- or it tests its first child
  abbrev pub check_on : Value → Condition → List AirInst
  check_on v c = site_code v (op.CheckIf c.test) c.over (reported_behind 1 v) []

  -- the result of a patchpoint is put into the value's home
  abbrev pub patched_from : Value → Option Register → List AirInst
  patched_from v (Some reg) = move v (width_of v.ty) (At (Reg reg)) (home t.index v.id) ∷ []
  patched_from v None = []

  abbrev pub patchpoint_of : Value → List AirInst
  patchpoint_of v = patch_code v (reported_behind 0 v) ++ patched_from v (result_register v)

  -- the width, the source and the destination of a value that copies a word: the low half of a child is copied at
  -- 32 bits, an Upsilon's child goes to the location of its Phi, and a Phi has what stands in its location
  abbrev pub copied : Opcode → Value → Width × Arg × Home
  copied opcode.ArgumentReg v = (W64, At (argument t.index (register_in v.body)), home t.index v.id)
  copied opcode.Trunc v = (W32, arg_of (child v.children 0), home t.index v.id)
  copied opcode.Upsilon v = (
    width_at t.index (child v.children 0),
    arg_of (child v.children 0),
    location t.index (phi_in v.body),
  )
  copied opcode.Phi v = (width_of v.ty, At (location t.index v.id), home t.index v.id)
  copied other v = (width_of v.ty, Imm (word_in v.body), home t.index v.id)

  -- the instructions of a value, by its opcode
  abbrev pub code_of : Opcode → Value → List AirInst
  code_of opcode.Nop v = []
  code_of opcode.Const32 v = copy_of v (copied opcode.Const32 v) ∷ []
  code_of opcode.Const64 v = copy_of v (copied opcode.Const64 v) ∷ []
  code_of opcode.ArgumentReg v = copy_of v (copied opcode.ArgumentReg v) ∷ []
  code_of opcode.FramePointer v = frame_of v ∷ []
  code_of opcode.SlotBase v = slot_of v ∷ []
  code_of opcode.Trunc v = copy_of v (copied opcode.Trunc v) ∷ []
  code_of opcode.Upsilon v = copy_of v (copied opcode.Upsilon v) ∷ []
  code_of opcode.Phi v = copy_of v (copied opcode.Phi v) ∷ []
  code_of opcode.Mod v = remainder v op.Div
  code_of opcode.UMod v = remainder v op.UDiv
  code_of opcode.RotL v = rotate_left v
  code_of opcode.Select v = select_on v (condition_of (child v.children 0))
  code_of opcode.Load8Z v = load_of v op.Load8Z Byte
  code_of opcode.Load8S v = load_of v op.Load8S Byte
  code_of opcode.Load16Z v = load_of v op.Load16Z Half
  code_of opcode.Load16S v = load_of v op.Load16S Half
  code_of opcode.Load v = load_of v op.Load Whole
  code_of opcode.Store8 v = store_of v op.Store8 Byte
  code_of opcode.Store16 v = store_of v op.Store16 Half
  code_of opcode.Store v = store_of v op.Store Whole
  code_of opcode.CCall v = call_of v
  code_of opcode.Patchpoint v = patchpoint_of v
  code_of opcode.Check v = check_on v (condition_of (child v.children 0))
  code_of opcode.CheckAdd v = checked_of v op.CheckAdd
  code_of opcode.CheckSub v = checked_of v op.CheckSub
  code_of opcode.CheckMul v = checked_of v op.CheckMul
  code_of opcode.Jump v = inst v op.Jump [] ∷ []
  code_of opcode.Oops v = inst v op.Oops [] ∷ []
  code_of opcode.Branch v = branch_on v (condition_of (child v.children 0))
  code_of opcode.Switch v = inst v (op.Switch (cases_in v.body)) (use_of (child v.children 0) ∷ []) ∷ []
  code_of opcode.Return v = return_of v v.children
  code_of other v = computes v (op_of other)

  -- a folded value has none
  unfoldable pub value_code : Value → List AirInst
  value_code v = if folds t v.id then [] else code_of v.kind.opcode v

  -- ---- blocks

  unfoldable pub block_code : Block → AirBlock
  block_code b = record { insts = flat_map value_code b.values; targets = flat_map targets_of b.values }

-- ---- the entry

abbrev pub names_register : ℕ → Opcode → Body → Bool
names_register r opcode.ArgumentReg (Argument reg) = nat_eq reg.0 r
names_register r op body = false

-- some value is the argument in this register
abbrev pub names_argument : List Value → ℕ → Bool
names_argument vs r = list_any (λ (v : Value). names_register r v.kind.opcode v.body) vs

abbrev pub entry_inst : ℕ → AirOp → List Operand → AirInst
entry_inst value op operands = record { op = op; operands = operands; value = value; traps = false }

abbrev pub argument_move : Index → ℕ → ℕ → AirInst
argument_move x value r =
    entry_inst value op.Move (use_at W64 (At (register r)) ∷ def_at W64 (argument x r) ∷ [])

-- the arguments below a register that are named, each put into its temporary
abbrev pub argument_moves : Index → List Value → ℕ → ℕ → List AirInst
argument_moves x vs value zero = []
argument_moves x vs value (suc r) =
    argument_moves x vs value r ++ (if names_argument vs r then argument_move x value r ∷ [] else [])

-- the id of the last of some values
abbrev pub last_id : List Value → ℕ
last_id [] = 0
last_id (v ∷ []) = v.id
last_id (v ∷ w ∷ vs) = last_id (w ∷ vs)

-- what runs once, on the way to block 0 of B3, whose terminal it is made for
unfoldable pub entry_of : Index → List Value → AirBlock
entry_of x vs = record {
  insts = argument_moves x vs (last_id vs) 8 ++ entry_inst (last_id vs) op.Jump [] ∷ [];
  targets = 1 ∷ [];
}

-- ---- the whole

abbrev pub returns_type : Ty → Returns
returns_type Int32 = returns.W32
returns_type _ = returns.W64

abbrev pub returns_child : Index → List ℕ → Returns
returns_child x [] = returns.Nothing
returns_child x (c ∷ cs) = returns_type (known x c).ty

-- what the first Return returns, nothing where there is none
abbrev pub returns_by : Index → Option Value → Returns
returns_by x (Some v) = returns_child x v.children
returns_by x None = returns.Nothing

unfoldable pub selected_by : Tables → Procedure → AirProc
selected_by t p = record {
  blocks = entry_of t.index (values_of p 0) ∷ map (block_code t) p.blocks;
  tmps = tmp_count t.index;
  slots = map (λ (slot : SlotLine). slot.bytes) p.slots;
  returns = returns_by t.index (first_return (all_values p));
}

abbrev pub selected : Procedure → AirProc
selected p = selected_by (tables p) p
