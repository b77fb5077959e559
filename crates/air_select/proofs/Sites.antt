-- What holds of each instruction that is selected: its op is one that is selected, of arithmetic where its opcode is, and it
-- names no spill place.
use Rattle.std.proofs.Common.{◌≡◌, pos, ◌+◌, ℕ, zero, suc, inl, inr, Bool, true, false, ◌||◌, List, [], ◌∷◌, ◌++◌, drop, map, refl, sym, ap, ◌∙◌, ◌*◌, Some, None, subst}
use Rattle.std.specs.Prelude.{All, if◌then◌else◌}
use Rattle.std.specs.List.{flat_map}
use Rattle.std.proofs.lemmas.List.Concat.{flat_map-cons}
use Rattle.std.proofs.lemmas.List.Elements.{All-append, All-cons, All-head, All-map, All-nil, All-tail, All-weaker}
use Rattle.b3_base.proofs.Lists.{All-one, All-two}
use Rattle.b3_base.specs.declared.word.Width.{Width}
use Rattle.b3_base.specs.declared.word.Width.TheVariants.{W32, W64}
use Rattle.b3_ir.specs.Types.{width_of}
use Rattle.b3_ir.specs.Procedure.{Block, Procedure, values_of}
use Rattle.b3_ir.specs.declared.opcode.Opcode.{Opcode}
use Rattle.b3_ir.specs.declared.opcode.Opcode.TheVariants as opcode
use Rattle.b3_ir.specs.declared.value.Reg.{Reg as Register}
use Rattle.b3_ir.specs.declared.value.Value.{Value}
use Rattle.b3_meaning.specs.declared.role.Extent.{Extent}
use Rattle.b3_meaning.specs.declared.role.Extent.TheVariants.{Byte, Half, Whole}
use Rattle.air_ir.specs.Forms.{call_clobbers, is_offset, operand_in}
use Rattle.air_ir.specs.Kinds.{Kind, Copies, Computes, Branches, Jumps, Switches, Returns, Fails, extent_bytes, kind_of, makes_site}
use Rattle.air_ir.specs.WellFormed.{NamesSpillsBelow, SpillsBelow}
use Rattle.air_ir.specs.declared.op.AirOp.{AirOp}
use Rattle.air_ir.specs.declared.op.AirOp.TheVariants as op
use Rattle.air_ir.specs.declared.op.Test.TheVariants.{Bit, Compare, NonZero}
use Rattle.air_ir.specs.declared.operand.Arg.{Arg}
use Rattle.air_ir.specs.declared.operand.Arg.TheVariants.{Addr, At, FrameSlot, Imm, Index as Indexed}
use Rattle.air_ir.specs.declared.operand.Home.{Home}
use Rattle.air_ir.specs.declared.operand.Home.TheVariants.{Reg, Tmp}
use Rattle.air_ir.specs.declared.operand.Role.{Role}
use Rattle.air_ir.specs.declared.operand.Role.TheVariants.{Clobber, Def, Use}
use Rattle.air_ir.specs.declared.operand.Operand.{Operand}
use Rattle.air_ir.specs.declared.procedure.AirBlock.{AirBlock}
use Rattle.air_ir.specs.declared.procedure.AirInst.{AirInst}
use Rattle.air_select.specs.Contract.{HasArithmeticAlone, IsArithmetic, IsSelected, is_arithmetic, is_arithmetic_kind, has_stackmap, is_arithmetic_opcode, is_selected}
use Rattle.air_fold.specs.Foldable.{bit_of, is_comparison, is_constant, whole}
use Rattle.air_fold.specs.declared.known.Known.{Known}
use Rattle.air_select.specs.Selected.{Condition, Tables, address_of, arg_of, argument_move, argument_moves, arguments_into, before_access, block_code, call_of, call_to, cases_in, chosen_rest, code_of, computes, condition, condition_of, copy_of, def_at, entry_of, far_sum, folded_condition, folds, home_address, indexed_by, inst, last_id, load_of, move, names_argument, negative_amount, op_of, quotient_of, register, reported_behind, rest_into, result_from, result_of, return_of, rotate_by, select_on, selected, selected_by, slot_in, store_of, sum_address, tables, turned, use_at, use_of, value_code}
use Rattle.air_select.specs.Temporaries.{first_extra, home, second_extra}
use Rattle.air_fold.specs.Values.{Index, child, known, offset_in, place, width_at}
use Rattle.air_stackmap.specs.Laws.{has_stackmap as has_map}
use Rattle.air_select.specs.Sited.{touches}
use Rattle.air_stackmap.specs.SiteCode as sites
use Rattle.air_stackmap.specs.declared.child.Child.{Child}
use Rattle.air_select.proofs.CallCode.{arguments_all, operands_all, result_all}
use Rattle.air_select.proofs.MapCode.{IsChildOf, IsOut, IsUse, are_children, map_code_all, pick, site_all}

-- ---- lists
pub all_flat : {X Y : Type 0} (P : Y → Type 0) (f : X → List Y) → ((x : X) → All P (f x)) → (xs : List X) → All P (flat_map f xs)
all_flat P f each [] = All-nil P
all_flat P f each (x ∷ xs) = subst (All P) (sym (flat_map-cons f x xs)) (All-append P (f x) (flat_map f xs) (each x) (all_flat P f each xs))

pub all_of : {X : Type 0} (P : X → Type 0) → ((x : X) → P x) → (xs : List X) → All P xs
all_of P each [] = All-nil P
all_of P each (x ∷ xs) = All-cons P x xs (each x) (all_of P each xs)

pub all_three : {X : Type 0} (P : X → Type 0) (a b c : X) → P a → P b → P c → All P (a ∷ b ∷ c ∷ [])
all_three P a b c p q r = All-cons P a (b ∷ c ∷ []) p (All-two P b c q r)

-- what holds of the instructions of each value and of each entry holds of all
module _ (P : AirInst → Type 0) (values : (t : Tables) (v : Value) → All P (value_code t v))
    (entries : (x : Index) (vs : List Value) → All P (entry_of x vs).insts) where
  block_all : (t : Tables) (b : Block) → All P (block_code t b).insts
  unfolding block_code
  block_all t b = all_flat P (value_code t) (values t) b.values

  pub selected_all : (p : Procedure) → All (λ (b : AirBlock). All P b.insts) (selected p).blocks
  unfolding selected_by
  selected_all p =
      All-cons (λ (b : AirBlock). All P b.insts) (entry_of (tables p).index (values_of p 0)) (map (block_code (tables p)) p.blocks)
      (entries (tables p).index (values_of p 0))
      (All-map (λ (b : AirBlock). All P b.insts) (block_code (tables p)) p.blocks
      (all_of (λ (b : Block). All P (block_code (tables p) b).insts) (block_all (tables p)) p.blocks))

-- what holds of the instructions of each value with a property, and of each entry, holds of all where each value has it
all_flat_when : {X Y : Type 0} (Q : X → Type 0) (P : Y → Type 0) (f : X → List Y) → ((x : X) → Q x → All P (f x)) → (xs : List X) → All Q xs
    → All P (flat_map f xs)
all_flat_when Q P f each [] all = All-nil P
all_flat_when Q P f each (x ∷ xs) all =
    subst (All P) (sym (flat_map-cons f x xs))
    (All-append P (f x) (flat_map f xs) (each x (All-head Q x xs all)) (all_flat_when Q P f each xs (All-tail Q x xs all)))

module _ (Q : Value → Type 0) (P : AirInst → Type 0) (values : (t : Tables) (v : Value) → Q v → All P (value_code t v))
    (entries : (x : Index) (vs : List Value) → All P (entry_of x vs).insts) where
  block_when : (t : Tables) (b : Block) → All Q b.values → All P (block_code t b).insts
  unfolding block_code
  block_when t b all = all_flat_when Q P (value_code t) (values t) b.values all

  pub selected_when : (p : Procedure) → All (λ (b : Block). All Q b.values) p.blocks → All (λ (b : AirBlock). All P b.insts) (selected p).blocks
  unfolding selected_by
  selected_when p all =
      All-cons (λ (b : AirBlock). All P b.insts) (entry_of (tables p).index (values_of p 0)) (map (block_code (tables p)) p.blocks)
      (entries (tables p).index (values_of p 0))
      (All-map (λ (b : AirBlock). All P b.insts) (block_code (tables p)) p.blocks
      (All-weaker (λ (b : Block). All Q b.values) (λ (b : Block). All P (block_code (tables p) b).insts) (block_when (tables p)) p.blocks all))

-- ---- operands
abbrev pub IsLow : Operand → Type 0
IsLow o = SpillsBelow 0 o.arg

choice_low : (b : Bool) (word n : ℕ) → SpillsBelow 0 (if b then Imm word else At (Tmp n))
choice_low true word n = tt
choice_low false word n = tt

use_low : (t : Tables) (id : ℕ) → IsLow (use_of t id)
use_low t id = choice_low (folds t id) _ _

uses_low : (t : Tables) (ids : List ℕ) → All IsLow (map (use_of t) ids)
uses_low t ids = All-map IsLow (use_of t) ids (all_of (λ id. IsLow (use_of t id)) (use_low t) ids)

abbrev pub IsLowCondition : Condition → Type 0
IsLowCondition c = All IsLow c.over

one_low : (t : Tables) (id : ℕ) → All IsLow (use_of t id ∷ [])
one_low t id = All-one IsLow (use_of t id) (use_low t id)

folded_low : (t : Tables) (id : ℕ) → IsLowCondition (folded_condition t id)
folded_low t id =
    let k = known t.index id in
    pick IsLowCondition (is_comparison k.opcode)
    (record { test = Compare (condition k.opcode); over = use_of t k.first ∷ use_of t k.second ∷ [] })
    (record { test = Bit (bit_of (known t.index k.second).word); over = use_of t k.first ∷ [] })
    (All-cons IsLow (use_of t k.first) (use_of t k.second ∷ []) (use_low t k.first) (one_low t k.second))
    (one_low t k.first)

condition_low : (t : Tables) (id : ℕ) → IsLowCondition (condition_of t id)
condition_low t id =
    pick IsLowCondition (folds t id) (folded_condition t id) (record { test = NonZero; over = use_of t id ∷ [] })
    (folded_low t id) (one_low t id)

-- ---- instructions
-- the op of an instruction is no access, call or site, it has no traps, and it names no spill place
pub record IsPlain (i : AirInst) : Type 0 where
  pub arithmetic : is_arithmetic i.op ≡ true
  pub traps : i.traps ≡ false
  pub low : All IsLow i.operands

-- the op of an instruction is one that is selected, and it names no spill place
pub record IsFine (i : AirInst) : Type 0 where
  pub selected : is_selected i.op ≡ true
  pub low : All IsLow i.operands

arithmetic_selected : (op : AirOp) → is_arithmetic op ≡ true → is_selected op ≡ true
arithmetic_selected op.Shuffle e = absurd cc
arithmetic_selected op.Move e = refl
arithmetic_selected _ e = refl

plain_fine : (i : AirInst) → IsPlain i → IsFine i
plain_fine i p = record { selected = arithmetic_selected i.op p.arithmetic; low = p.low }

arithmetic_touches : (o : Opcode) → is_arithmetic_opcode o ≡ true → touches o ≡ false
arithmetic_touches opcode.FramePointer e = absurd cc
arithmetic_touches opcode.SlotBase e = absurd cc
arithmetic_touches opcode.Load8Z e = absurd cc
arithmetic_touches opcode.Load8S e = absurd cc
arithmetic_touches opcode.Load16Z e = absurd cc
arithmetic_touches opcode.Load16S e = absurd cc
arithmetic_touches opcode.Load e = absurd cc
arithmetic_touches opcode.Store8 e = absurd cc
arithmetic_touches opcode.Store16 e = absurd cc
arithmetic_touches opcode.Store e = absurd cc
arithmetic_touches opcode.CCall e = absurd cc
arithmetic_touches opcode.Patchpoint e = absurd cc
arithmetic_touches opcode.Check e = absurd cc
arithmetic_touches opcode.CheckAdd e = absurd cc
arithmetic_touches opcode.CheckSub e = absurd cc
arithmetic_touches opcode.CheckMul e = absurd cc
arithmetic_touches _ e = refl

one : (value : ℕ) (op : AirOp) (os : List Operand) → is_arithmetic op ≡ true → All IsLow os
    → IsPlain (record { op = op; operands = os; value = value; traps = false })
one value op os is low = record { arithmetic = is; traps = refl; low = low }

only : (i : AirInst) → IsPlain i → All IsPlain (i ∷ [])
only i p = All-one IsPlain i p

one_op_plain : (o : Opcode) → is_arithmetic (op_of o) ≡ true
one_op_plain opcode.Add = refl
one_op_plain opcode.Sub = refl
one_op_plain _ = refl

-- two and three operands
low_two : (a b : Operand) → IsLow a → IsLow b → All IsLow (a ∷ b ∷ [])
low_two a b p q = All-cons IsLow a (b ∷ []) p (All-one IsLow b q)

low_three : (a b c : Operand) → IsLow a → IsLow b → IsLow c → All IsLow (a ∷ b ∷ c ∷ [])
low_three a b c p q r = All-cons IsLow a (b ∷ c ∷ []) p (low_two b c q r)

low_four : (a b c d : Operand) → IsLow a → IsLow b → IsLow c → IsLow d → All IsLow (a ∷ b ∷ c ∷ d ∷ [])
low_four a b c d p q r s = All-cons IsLow a (b ∷ c ∷ d ∷ []) p (low_three b c d q r s)

arg_low : (t : Tables) (id : ℕ) (width : Width) → IsLow (use_at width (arg_of t id))
arg_low t id width = choice_low (folds t id) (known t.index id).word (3 * place t.index id)

module _ (t : Tables) (v : Value) where
  computes_plain : (op : AirOp) → is_arithmetic op ≡ true → All IsPlain (computes t v op)
  computes_plain op is =
      only (inst v op (map (use_of t) v.children ++ result_of t v ∷ []))
      (one v.id op (map (use_of t) v.children ++ result_of t v ∷ []) is
      (All-append IsLow (map (use_of t) v.children) (result_of t v ∷ []) (uses_low t v.children) (All-one IsLow (result_of t v) tt)))

  quotient_plain : (op : AirOp) → is_arithmetic op ≡ true → IsPlain (quotient_of t v op)
  quotient_plain op is =
      one v.id op (quotient_of t v op).operands is
      (low_three _ _ (def_at (width_of v.ty) (first_extra t.index v.id)) (use_low t (child v.children 0)) (use_low t (child v.children 1)) tt)

  rest_plain : (to : ℕ) → IsPlain (rest_into t v (Tmp to))
  rest_plain to =
      one v.id op.MulSub (rest_into t v (Tmp to)).operands refl
      (low_four (use_at (width_of v.ty) (At (first_extra t.index v.id))) (use_of t (child v.children 1)) (use_of t (child v.children 0))
      (def_at (width_of v.ty) (Tmp to)) tt (use_low t (child v.children 1)) (use_low t (child v.children 0)) tt)

  chosen_plain : IsPlain (chosen_rest t v)
  chosen_plain =
      one v.id (op.SelectIf NonZero) (chosen_rest t v).operands refl
      (low_four (use_of t (child v.children 1)) (use_at (width_of v.ty) (At (second_extra t.index v.id)))
      (use_at (width_of v.ty) (At (first_extra t.index v.id))) (result_of t v) (use_low t (child v.children 1)) tt tt tt)

  remainder_plain : (op : AirOp) → is_arithmetic op ≡ true → (b : Bool)
      → All IsPlain (if b then quotient_of t v op ∷ rest_into t v (second_extra t.index v.id) ∷ chosen_rest t v ∷ []
      else quotient_of t v op ∷ rest_into t v (home t.index v.id) ∷ [])
  remainder_plain op is true =
      all_three IsPlain (quotient_of t v op) (rest_into t v (second_extra t.index v.id)) (chosen_rest t v)
      (quotient_plain op is) (rest_plain (3 * place t.index v.id + 2)) chosen_plain
  remainder_plain op is false =
      All-two IsPlain (quotient_of t v op) (rest_into t v (home t.index v.id)) (quotient_plain op is) (rest_plain (3 * place t.index v.id))

  rotate_plain : (amount : Arg) → SpillsBelow 0 amount → IsPlain (rotate_by t v amount)
  rotate_plain amount low =
      one v.id op.Ror (rotate_by t v amount).operands refl
      (low_three _ (use_at W32 amount) (result_of t v) (use_low t (child v.children 0)) low tt)

  rotate_left_plain : (b : Bool)
      → All IsPlain (if b then rotate_by t v (Imm (turned (width_of v.ty) (known t.index (child v.children 1)).word)) ∷ []
      else negative_amount t v ∷ rotate_by t v (At (first_extra t.index v.id)) ∷ [])
  rotate_left_plain true =
      let amount : Arg = Imm (turned (width_of v.ty) (known t.index (child v.children 1)).word) in
      only (rotate_by t v amount) (rotate_plain amount tt)
  rotate_left_plain false =
      All-two IsPlain (negative_amount t v) (rotate_by t v (At (first_extra t.index v.id)))
      (one v.id op.Neg (negative_amount t v).operands refl
      (low_two (use_of t (child v.children 1)) (def_at W32 (first_extra t.index v.id)) (use_low t (child v.children 1)) tt))
      (rotate_plain (At (first_extra t.index v.id)) tt)

  select_plain : (c : Condition) → IsLowCondition c → All IsPlain (select_on t v c)
  select_plain c low =
      only _ (one v.id (op.SelectIf c.test) (c.over ++ use_of t (child v.children 1) ∷ use_of t (child v.children 2) ∷ result_of t v ∷ []) refl
      (All-append IsLow c.over _ low (low_three _ _ (result_of t v) (use_low t (child v.children 1)) (use_low t (child v.children 2)) tt)))

  return_plain : (cs : List ℕ) → All IsPlain (return_of t v cs)
  return_plain [] = only _ (one v.id op.Return [] refl (All-nil IsLow))
  return_plain (c ∷ cs) =
      All-two IsPlain (move v (width_at t.index c) (arg_of t c) (register 0)) (inst v op.Return (use_at (width_at t.index c) (At (register 0)) ∷ []))
      (one v.id op.Move (move v (width_at t.index c) (arg_of t c) (register 0)).operands refl
      (low_two (use_at (width_at t.index c) (arg_of t c)) (def_at (width_at t.index c) (register 0)) (arg_low t c (width_at t.index c)) tt))
      (one v.id op.Return (use_at (width_at t.index c) (At (register 0)) ∷ []) refl (All-one IsLow (use_at (width_at t.index c) (At (register 0))) tt))

  copy_plain : (width : Width) (from : Arg) (to : ℕ) → SpillsBelow 0 from → All IsPlain (copy_of v (width, from, Tmp to) ∷ [])
  copy_plain width from to low = only _ (one v.id op.Move _ refl (low_two (use_at width from) _ low tt))

  pub code_plain : (o : Opcode) → touches o ≡ false → All IsPlain (code_of t o v)
  code_plain opcode.Nop e = All-nil IsPlain
  code_plain opcode.Const32 e = copy_plain _ _ _ tt
  code_plain opcode.Const64 e = copy_plain _ _ _ tt
  code_plain opcode.ArgumentReg e = copy_plain _ _ _ tt
  code_plain opcode.Trunc e = copy_plain _ _ _ (arg_low t (child v.children 0) W32)
  code_plain opcode.Upsilon e = copy_plain _ _ _ (arg_low t (child v.children 0) W32)
  code_plain opcode.Phi e = copy_plain _ _ _ tt
  code_plain opcode.Mod e = remainder_plain op.Div refl v.kind.chill
  code_plain opcode.UMod e = remainder_plain op.UDiv refl v.kind.chill
  code_plain opcode.RotL e = rotate_left_plain (folds t (child v.children 1))
  code_plain opcode.Select e = select_plain (condition_of t (child v.children 0)) (condition_low t (child v.children 0))
  code_plain opcode.Jump e = only _ (one v.id op.Jump [] refl (All-nil IsLow))
  code_plain opcode.Oops e = only _ (one v.id op.Oops [] refl (All-nil IsLow))
  code_plain opcode.Branch e =
      let c = condition_of t (child v.children 0) in
      only _ (one v.id (op.BranchIf c.test) c.over refl (condition_low t (child v.children 0)))
  code_plain opcode.Switch e = only _ (one v.id (op.Switch (cases_in v.body)) _ refl (one_low t (child v.children 0)))
  code_plain opcode.Return e = return_plain v.children
  code_plain opcode.FramePointer e = absurd cc
  code_plain opcode.SlotBase e = absurd cc
  code_plain opcode.Load8Z e = absurd cc
  code_plain opcode.Load8S e = absurd cc
  code_plain opcode.Load16Z e = absurd cc
  code_plain opcode.Load16S e = absurd cc
  code_plain opcode.Load e = absurd cc
  code_plain opcode.Store8 e = absurd cc
  code_plain opcode.Store16 e = absurd cc
  code_plain opcode.Store e = absurd cc
  code_plain opcode.CCall e = absurd cc
  code_plain opcode.Patchpoint e = absurd cc
  code_plain opcode.Check e = absurd cc
  code_plain opcode.CheckAdd e = absurd cc
  code_plain opcode.CheckSub e = absurd cc
  code_plain opcode.CheckMul e = absurd cc
  code_plain o e = computes_plain (op_of o) (one_op_plain o)

  value_plain : is_arithmetic_opcode v.kind.opcode ≡ true → All IsPlain (value_code t v)
  unfolding value_code
  value_plain e =
      pick (All IsPlain) (folds t v.id) [] (code_of t v.kind.opcode v) (All-nil IsPlain) (code_plain v.kind.opcode (arithmetic_touches v.kind.opcode e))

  -- ---- accesses

  pub before_plain : (pointer bytes : ℕ) → All IsPlain (before_access t v pointer bytes)
  before_plain pointer bytes =
      pick (All IsPlain) (folds t pointer || is_offset bytes (offset_in v.body)) [] (far_sum t v pointer) (All-nil IsPlain)
      (All-two IsPlain _ _
      (one v.id op.Move _ refl (low_two (use_at W64 (Imm _)) (def_at W64 (first_extra t.index v.id)) tt tt))
      (one v.id op.Add _ refl (low_three (use_of t pointer) (use_at W64 (At (first_extra t.index v.id))) (def_at W64 (second_extra t.index v.id))
      (use_low t pointer) tt tt)))

  sum_low : (k : Known) → SpillsBelow 0 (sum_address t v k)
  sum_low k =
      let second = known t.index k.second in
      pick (SpillsBelow 0) (is_constant second.opcode) (Addr (home t.index k.first) (whole second.word (offset_in v.body)))
      (indexed_by t (home t.index k.first) k.second second) tt
      (pick (SpillsBelow 0) (folds t k.second) (Indexed (home t.index k.first) (home t.index second.first) 3)
      (Indexed (home t.index k.first) (home t.index k.second) 0) (tt, tt) (tt, tt))

  address_low : (width : Width) (pointer bytes : ℕ) → IsLow (use_at width (address_of t v pointer bytes))
  address_low width pointer bytes =
      pick (SpillsBelow 0) (folds t pointer) (sum_address t v (known t.index pointer)) (home_address t v pointer bytes) (sum_low (known t.index pointer))
      (pick (SpillsBelow 0) (is_offset bytes (offset_in v.body)) (Addr (home t.index pointer) (offset_in v.body)) (Addr (second_extra t.index v.id) (pos 0))
      tt tt)

  load_fine : (air_op : AirOp) (extent : Extent) → is_selected air_op ≡ true → All IsFine (load_of t v air_op extent)
  load_fine air_op extent is =
      let width = width_of v.ty in
      let pointer = child v.children 0 in
      let bytes = extent_bytes extent width in
      All-append IsFine (before_access t v pointer bytes) _
      (All-weaker IsPlain IsFine plain_fine (before_access t v pointer bytes) (before_plain pointer bytes))
      (All-one IsFine _ (record {
        selected = is;
        low = low_two (use_at width (address_of t v pointer bytes)) (result_of t v) (address_low width pointer bytes) tt;
      }))

  store_fine : (air_op : AirOp) (extent : Extent) → is_selected air_op ≡ true → All IsFine (store_of t v air_op extent)
  store_fine air_op extent is =
      let from = child v.children 0 in
      let width = width_at t.index from in
      let pointer = child v.children 1 in
      let bytes = extent_bytes extent width in
      All-append IsFine (before_access t v pointer bytes) _
      (All-weaker IsPlain IsFine plain_fine (before_access t v pointer bytes) (before_plain pointer bytes))
      (All-one IsFine _ (record {
        selected = is;
        low = low_two (use_of t from) (use_at width (address_of t v pointer bytes)) (use_low t from) (address_low width pointer bytes);
      }))

  -- ---- calls

  move_plain : (width : Width) (from : Arg) (to : Home) → SpillsBelow 0 from → SpillsBelow 0 (At to) → IsPlain (move v width from to)
  move_plain width from to low low' = one v.id op.Move _ refl (low_two (use_at width from) (def_at width to) low low')

  pub arguments_plain : (r : ℕ) (cs : List ℕ) → All IsPlain (arguments_into t v r cs)
  arguments_plain r cs = arguments_all t v IsPlain cs r (λ k c at. move_plain (width_at t.index c) (arg_of t c) (register (r + k)) (arg_low t c W64) tt)

  pub result_plain : (r : ℕ) → All IsPlain (result_from t v r)
  result_plain r = result_all t v IsPlain r (move_plain (width_of v.ty) (At (register r)) (home t.index v.id) tt tt)

  call_fine : (callee : ℕ) (cs : List ℕ) → IsFine (call_to t v callee cs)
  call_fine callee cs = record {
    selected = refl;
    low = operands_all t v IsLow callee cs (use_low t callee) (λ k c at. tt)
        (all_of (λ r. IsLow (operand_in Clobber W64 r)) (λ r. tt) call_clobbers) tt;
  }

  calls_fine : All IsFine (call_of t v)
  calls_fine =
      let cs = drop 1 v.children in
      All-append IsFine (arguments_into t v 0 cs) _ (All-weaker IsPlain IsFine plain_fine (arguments_into t v 0 cs) (arguments_plain 0 cs))
      (All-cons IsFine (call_to t v (child v.children 0) cs) (result_from t v 0) (call_fine (child v.children 0) cs)
      (All-weaker IsPlain IsFine plain_fine (result_from t v 0) (result_plain 0)))

  -- ---- patchpoints and checks

  word_low : (constant : Bool) (word n : ℕ) → SpillsBelow 0 (sites.arg_by (if constant then Some word else None) (Tmp n))
  word_low true word n = tt
  word_low false word n = tt

  child_low : (c : Child) → IsChildOf t c → SpillsBelow 0 (sites.arg_of c)
  child_low c is =
      subst (λ (d : Child). SpillsBelow 0 (sites.arg_of d)) (sym is.1)
      (word_low (is_constant (known t.index is.0).opcode) (known t.index is.0).word (3 * place t.index is.0))

  map_selected : (o : AirOp) → has_stackmap (kind_of o) ≡ true → is_selected o ≡ true
  map_selected op.Shuffle e = absurd cc
  map_selected _ e = refl

  in_place_low : (role : Role) (width : Width) (reg : Register) → IsLow (record { role = role; width = width; arg = At (Reg reg) })
  in_place_low role width reg = tt

  out_low : (o : Operand) → IsOut t v o → IsLow o
  out_low o (inl own) = subst IsLow (sym own) tt
  out_low o (inr placed) = subst IsLow (sym placed.3) (in_place_low placed.0 placed.1 placed.2)

  map_fine : (o : Opcode) → has_map o ≡ true → All IsFine (code_of t o v)
  map_fine o e =
      map_code_all t v IsFine
      (λ c reg is. record {
        selected = refl;
        low = low_two (record { role = Use; width = c.width; arg = sites.arg_of c })
            (record { role = Def; width = c.width; arg = At (Reg reg) }) (child_low c is) tt;
      })
      (λ reg. plain_fine _ (move_plain (width_of v.ty) (At (Reg reg)) (home t.index v.id) tt tt))
      (λ air inputs results n has ins outs. record {
        selected = map_selected air has;
        low = site_all v (IsChildOf t) IsLow in_place_low (λ role c is. child_low c is) air inputs (reported_behind t n v) results
            (All-weaker (IsUse t) IsLow (λ u is. subst IsLow (sym is.1) (use_low t is.0)) inputs ins)
            (All-weaker (IsOut t v) IsLow out_low results outs) (are_children t (drop n v.children));
      }) o e

  weakly : (o : Opcode) → touches o ≡ false → All IsFine (code_of t o v)
  weakly o e = All-weaker IsPlain IsFine plain_fine (code_of t o v) (code_plain o e)

  code_fine : (o : Opcode) → All IsFine (code_of t o v)
  code_fine opcode.FramePointer = All-one IsFine _ (record { selected = refl; low = All-one IsLow (result_of t v) tt })
  code_fine opcode.SlotBase =
      All-one IsFine _ (record { selected = refl; low = low_two (use_at W64 (FrameSlot (slot_in v.body))) (result_of t v) tt tt })
  code_fine opcode.Load8Z = load_fine op.Load8Z Byte refl
  code_fine opcode.Load8S = load_fine op.Load8S Byte refl
  code_fine opcode.Load16Z = load_fine op.Load16Z Half refl
  code_fine opcode.Load16S = load_fine op.Load16S Half refl
  code_fine opcode.Load = load_fine op.Load Whole refl
  code_fine opcode.Store8 = store_fine op.Store8 Byte refl
  code_fine opcode.Store16 = store_fine op.Store16 Half refl
  code_fine opcode.Store = store_fine op.Store Whole refl
  code_fine opcode.CCall = calls_fine
  code_fine opcode.Patchpoint = map_fine opcode.Patchpoint refl
  code_fine opcode.Check = map_fine opcode.Check refl
  code_fine opcode.CheckAdd = map_fine opcode.CheckAdd refl
  code_fine opcode.CheckSub = map_fine opcode.CheckSub refl
  code_fine opcode.CheckMul = map_fine opcode.CheckMul refl
  code_fine o = weakly o refl

  value_fine : All IsFine (value_code t v)
  unfolding value_code
  value_fine = pick (All IsFine) (folds t v.id) [] (code_of t v.kind.opcode v) (All-nil IsFine) (code_fine v.kind.opcode)

moves_plain : (x : Index) (vs : List Value) (value n : ℕ) → All IsPlain (argument_moves x vs value n)
moves_plain x vs value zero = All-nil IsPlain
moves_plain x vs value (suc r) =
    All-append IsPlain (argument_moves x vs value r) _ (moves_plain x vs value r)
    (pick (All IsPlain) (names_argument vs r) (argument_move x value r ∷ []) []
    (only _ (one value op.Move _ refl (low_two _ _ tt tt))) (All-nil IsPlain))

pub entry_plain : (x : Index) (vs : List Value) → All IsPlain (entry_of x vs).insts
unfolding entry_of
entry_plain x vs =
    All-append IsPlain (argument_moves x vs (last_id vs) 8) _ (moves_plain x vs (last_id vs) 8)
    (only _ (one (last_id vs) op.Jump [] refl (All-nil IsLow)))

all_fine : (p : Procedure) → All (λ (b : AirBlock). All IsFine b.insts) (selected p).blocks
all_fine p =
    selected_all IsFine value_fine (λ x vs. All-weaker IsPlain IsFine plain_fine (entry_of x vs).insts (entry_plain x vs)) p

-- ---- what the composition asks
pub arithmetic : (p : Procedure) → HasArithmeticAlone p → IsArithmetic (selected p)
arithmetic p alone =
    let Q = λ (v : Value). is_arithmetic_opcode v.kind.opcode ≡ true in
    All-weaker (λ (b : AirBlock). All IsPlain b.insts) (λ (b : AirBlock). All (λ (i : AirInst). is_arithmetic i.op ≡ true) b.insts)
    (λ b all. All-weaker IsPlain (λ (i : AirInst). is_arithmetic i.op ≡ true) (λ i plain. plain.arithmetic) b.insts all)
    (selected p).blocks (selected_when Q IsPlain value_plain entry_plain p alone)

pub are_selected : (p : Procedure) → IsSelected (selected p)
are_selected p =
    All-weaker (λ (b : AirBlock). All IsFine b.insts) (λ (b : AirBlock). All (λ (i : AirInst). is_selected i.op ≡ true) b.insts)
    (λ b all. All-weaker IsFine (λ (i : AirInst). is_selected i.op ≡ true) (λ i fine. fine.selected) b.insts all)
    (selected p).blocks (all_fine p)

pub spills : (p : Procedure) → NamesSpillsBelow 0 (selected p)
spills p =
    All-weaker (λ (b : AirBlock). All IsFine b.insts) (λ (b : AirBlock). All (λ (i : AirInst). All IsLow i.operands) b.insts)
    (λ b all. All-weaker IsFine (λ (i : AirInst). All IsLow i.operands) (λ i fine. fine.low) b.insts all)
    (selected p).blocks (all_fine p)

-- ---- sites
abbrev pub IsQuiet : AirInst → Type 0
IsQuiet i = makes_site (kind_of i.op) i.traps ≡ false

quiet_kind : (k : Kind) → is_arithmetic_kind k ≡ true → makes_site k false ≡ false
quiet_kind Copies e = refl
quiet_kind Computes e = refl
quiet_kind (Branches test) e = refl
quiet_kind Jumps e = refl
quiet_kind (Switches cases) e = refl
quiet_kind Returns e = refl
quiet_kind Fails e = refl
quiet_kind _ e = cc

pub kind_arithmetic : (op : AirOp) → is_arithmetic op ≡ true → is_arithmetic_kind (kind_of op) ≡ true
kind_arithmetic op.Shuffle e = refl
kind_arithmetic op.Move e = refl
kind_arithmetic _ e = e

pub makes_none : (i : AirInst) → IsPlain i → IsQuiet i
makes_none i plain = ap (makes_site (kind_of i.op)) plain.traps ∙ quiet_kind (kind_of i.op) (kind_arithmetic i.op plain.arithmetic)
