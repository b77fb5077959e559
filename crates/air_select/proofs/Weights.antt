-- What is selected weighs little: a value's instructions at most 120, and 32 for each child and case.
use Rattle.std.proofs.Common.{◌≡◌, ℕ, pos, zero, suc, ◌+◌, ◌*◌, ◌≤◌, Bool, true, false, ◌||◌, List, [], ◌∷◌, ◌++◌, drop, map, length, refl, ap, arith, length-append}
use Rattle.std.specs.Prelude.{All, if◌then◌else◌, sum_by}
use Rattle.std.specs.Int.{cast_unsigned, w64}
use Rattle.std.specs.List.{flat_map}
use Rattle.std.proofs.lemmas.List.{length-map}
use Rattle.std.proofs.lemmas.List.Concat.{flat_map-cons, length-flat_map}
use Rattle.std.proofs.lemmas.List.Elements.{All-append, All-cons, All-head, All-map, All-nil, All-tail}
use Rattle.std.proofs.lemmas.List.Sums.{sum_by-append, sum_by-cons}
use Rattle.b3_base.proofs.Lists.{All-one, All-two}
use Rattle.b3_base.specs.declared.word.Width.{Width}
use Rattle.b3_base.specs.declared.word.Width.TheVariants.{W32, W64}
use Rattle.b3_ir.specs.Naming.{all_values}
use Rattle.b3_ir.specs.Procedure.{Block, Procedure, total, values_of}
use Rattle.b3_ir.specs.Types.{has_word, width_of}
use Rattle.b3_ir.specs.declared.opcode.Opcode.{Opcode}
use Rattle.b3_ir.specs.declared.opcode.Opcode.TheVariants as opcode
use Rattle.b3_ir.specs.declared.value.Body.{Body}
use Rattle.b3_ir.specs.declared.value.Body.TheVariants.{Cases}
use Rattle.b3_ir.specs.declared.value.Value.{Value}
use Rattle.b3_meaning.specs.declared.role.Extent.{Extent}
use Rattle.b3_meaning.specs.declared.role.Extent.TheVariants.{Byte, Half, Whole}
use Rattle.air_ir.specs.Forms.{call_clobbers, is_offset, operand_in}
use Rattle.air_ir.specs.Kinds.{extent_bytes}
use Rattle.air_ir.specs.Weight.{arg_words, inst_weight, is_shuffle, op_words, weight}
use Rattle.air_ir.specs.declared.op.AirOp.{AirOp}
use Rattle.air_ir.specs.declared.op.AirOp.TheVariants as op
use Rattle.air_ir.specs.declared.op.Test.TheVariants.{Bit, Compare, NonZero}
use Rattle.air_ir.specs.declared.operand.Arg.{Arg}
use Rattle.air_ir.specs.declared.operand.Arg.TheVariants.{Addr, At, FrameSlot, Imm, Index as Indexed}
use Rattle.air_ir.specs.declared.operand.Home.{Home}
use Rattle.air_ir.specs.declared.operand.Home.TheVariants.{Tmp}
use Rattle.air_ir.specs.declared.operand.Operand.{Operand}
use Rattle.air_ir.specs.declared.operand.Role.TheVariants.{Clobber}
use Rattle.air_ir.specs.declared.procedure.AirBlock.{AirBlock}
use Rattle.air_ir.specs.declared.procedure.AirInst.{AirInst}
use Rattle.air_select.specs.Contract.{IsFew, IsWithinLimits, case_count, child_count}
use Rattle.air_fold.specs.Foldable.{bit_of, is_comparison, is_constant, whole}
use Rattle.air_fold.specs.declared.known.Known.{Known}
use Rattle.air_select.specs.Selected.{Condition, Tables, access, address_of, arg_of, argument_move, argument_moves, arguments_at, arguments_into, before_access, block_code, call_of, call_to, cases_in, chosen_rest, code_of, computes, condition, condition_of, copy_of, def_at, entry_of, far_sum, folded_condition, folds, frame_of, home_address, indexed_by, inst, last_id, load_of, move, names_argument, negative_amount, op_of, phi_in, quotient_of, register, register_in, rest_into, result_from, result_into, result_of, return_of, rotate_by, select_on, selected, selected_by, slot_in, slot_of, store_of, sum_address, tables, turned, use_at, use_of, value_code}
use Rattle.air_select.specs.Temporaries.{argument, first_extra, home, location, second_extra}
use Rattle.air_fold.specs.Values.{Index, child, known, offset_in, place, width_at, word_in}
use Rattle.air_stackmap.specs.Laws.{has_stackmap as has_map}
use Rattle.air_select.proofs.CallCode.{fewer_behind, operands_all}
use Rattle.air_select.proofs.MapCode.{pick}
use Rattle.air_select.proofs.Sites.{all_of, all_three}

-- ---- operands
-- an operand takes at most three words beside its op's own
abbrev pub IsShort : Operand → Type 0
IsShort o = arg_words o.arg ≤ 3

choice_short : (b : Bool) (word n : ℕ) → arg_words (if b then Imm word else At (Tmp n)) ≤ 3
choice_short true word n = omega arith
choice_short false word n = omega arith

arg_short : (t : Tables) (id : ℕ) → arg_words (arg_of t id) ≤ 3
arg_short t id = choice_short (folds t id) (known t.index id).word (3 * place t.index id)

use_short : (t : Tables) (id : ℕ) → IsShort (use_of t id)
use_short t id = arg_short t id

home_short : (width : Width) (n : ℕ) → IsShort (def_at width (Tmp n))
home_short width n = omega arith

tmp_short : (width : Width) (n : ℕ) → IsShort (use_at width (At (Tmp n)))
tmp_short width n = omega arith

all_words : List Operand → ℕ
all_words os = sum_by (λ (o : Operand). arg_words o.arg) os

short_words : (os : List Operand) → All IsShort os → all_words os ≤ 3 * length os
unfolding all_words
short_words [] short = omega arith
short_words (o ∷ os) short =
    let one = All-head IsShort o os short in
    let rest = short_words os (All-tail IsShort o os short) in
    omega (arith, one, rest, sum_by-cons (λ (o : Operand). arg_words o.arg) o os)

-- ---- instructions
no_shuffle : (op : AirOp) (os : List Operand) (n : ℕ) → all_words os ≤ n → (b : Bool) → b ≡ false
    → (if b then 6 * length os else op_words op + sum_by (λ (o : Operand). arg_words o.arg) os) ≤ op_words op + n
unfolding all_words
no_shuffle op os n le true e = absurd cc
no_shuffle op os n le false e = omega (arith, le)

weigh_any : (value : ℕ) (op : AirOp) (os : List Operand) (traps : Bool) → is_shuffle op ≡ false → All IsShort os
    → inst_weight (record { op = op; operands = os; value = value; traps = traps }) ≤ op_words op + 3 * length os + 1
weigh_any value op os traps other short =
    let words = no_shuffle op os (3 * length os) (short_words os short) (is_shuffle op) other in
    omega (arith, words)

weigh : (value : ℕ) (op : AirOp) (os : List Operand) → is_shuffle op ≡ false → All IsShort os
    → inst_weight (record { op = op; operands = os; value = value; traps = false }) ≤ op_words op + 3 * length os + 1
weigh value op os other short = weigh_any value op os false other short

one_weight : (i : AirInst) (n : ℕ) → inst_weight i ≤ n → sum_by inst_weight (i ∷ []) ≤ n
one_weight i n le = omega (arith, le, sum_by-cons inst_weight i [])

two_weights : (i j : AirInst) (m n : ℕ) → inst_weight i ≤ m → inst_weight j ≤ n → sum_by inst_weight (i ∷ j ∷ []) ≤ m + n
two_weights i j m n a b = omega (arith, a, one_weight j n b, sum_by-cons inst_weight i (j ∷ []))

three_weights : (i j k : AirInst) (m n o : ℕ) → inst_weight i ≤ m → inst_weight j ≤ n → inst_weight k ≤ o
    → sum_by inst_weight (i ∷ j ∷ k ∷ []) ≤ m + n + o
three_weights i j k m n o a b c = omega (arith, a, two_weights j k n o b c, sum_by-cons inst_weight i (j ∷ k ∷ []))

-- ---- conditions
pub record IsShortCondition (c : Condition) : Type 0 where
  pub few : length c.over ≤ 2
  pub short : All IsShort c.over

folded_short : (t : Tables) (id : ℕ) → IsShortCondition (folded_condition t id)
folded_short t id =
    let k = known t.index id in
    pick IsShortCondition (is_comparison k.opcode)
    (record { test = Compare (condition k.opcode); over = use_of t k.first ∷ use_of t k.second ∷ [] })
    (record { test = Bit (bit_of (known t.index k.second).word); over = use_of t k.first ∷ [] })
    (record { few = omega arith; short = All-two IsShort (use_of t k.first) (use_of t k.second) (use_short t k.first) (use_short t k.second) })
    (record { few = omega arith; short = All-one IsShort (use_of t k.first) (use_short t k.first) })

condition_short : (t : Tables) (id : ℕ) → IsShortCondition (condition_of t id)
condition_short t id =
    pick IsShortCondition (folds t id) (folded_condition t id) (record { test = NonZero; over = use_of t id ∷ [] })
    (folded_short t id) (record { few = omega arith; short = All-one IsShort (use_of t id) (use_short t id) })

-- ---- values
abbrev pub allowance : Value → ℕ
allowance v = 120 + 32 * (length v.children + case_count v.body)

cases_counted : (body : Body) → length (cases_in body) ≡ case_count body
cases_counted (Cases cases targets) = refl
cases_counted _ = refl

few_words : (o : Opcode) → op_words (op_of o) ≤ 2
few_words opcode.Add = omega arith
few_words _ = omega arith

no_shuffle_op : (o : Opcode) → is_shuffle (op_of o) ≡ false
no_shuffle_op opcode.Add = refl
no_shuffle_op _ = refl

module _ (t : Tables) (v : Value) where
  computes_light : (op : AirOp) → op_words op ≤ 2 → is_shuffle op ≡ false → sum_by inst_weight (computes t v op) ≤ allowance v
  computes_light op few other =
      let os : List Operand = map (use_of t) v.children ++ result_of t v ∷ [] in
      let short : All IsShort os =
      All-append IsShort (map (use_of t) v.children) (result_of t v ∷ [])
      (All-map IsShort (use_of t) v.children (all_of (λ id. IsShort (use_of t id)) (use_short t) v.children))
      (All-one IsShort (result_of t v) (home_short (width_of v.ty) (3 * place t.index v.id))) in
      let one = weigh v.id op os other short in
      let count = length-append (map (use_of t) v.children) (result_of t v ∷ []) in
      let same = length-map v.children (use_of t) in
      one_weight (inst v op os) (allowance v) (omega (arith, one, count, same, few))

  quotient_light : (op : AirOp) → op_words op ≤ 1 → is_shuffle op ≡ false → inst_weight (quotient_of t v op) ≤ 11
  quotient_light op few other =
      let one = weigh v.id op (quotient_of t v op).operands other
      (all_three IsShort (use_of t (child v.children 0)) (use_of t (child v.children 1)) (def_at (width_of v.ty) (first_extra t.index v.id))
      (use_short t (child v.children 0)) (use_short t (child v.children 1)) (home_short (width_of v.ty) (3 * place t.index v.id + 1))) in
      omega (arith, one, few)

  rest_light : (to : ℕ) → inst_weight (rest_into t v (Tmp to)) ≤ 14
  rest_light to =
      let one = weigh v.id op.MulSub (rest_into t v (Tmp to)).operands refl
      (All-cons IsShort (use_at (width_of v.ty) (At (first_extra t.index v.id)))
      (use_of t (child v.children 1) ∷ use_of t (child v.children 0) ∷ def_at (width_of v.ty) (Tmp to) ∷ [])
      (tmp_short (width_of v.ty) (3 * place t.index v.id + 1))
      (all_three IsShort (use_of t (child v.children 1)) (use_of t (child v.children 0)) (def_at (width_of v.ty) (Tmp to))
      (use_short t (child v.children 1)) (use_short t (child v.children 0)) (home_short (width_of v.ty) to))) in
      omega (arith, one)

  chosen_light : inst_weight (chosen_rest t v) ≤ 15
  chosen_light =
      let one = weigh v.id (op.SelectIf NonZero) (chosen_rest t v).operands refl
      (All-cons IsShort (use_of t (child v.children 1))
      (use_at (width_of v.ty) (At (second_extra t.index v.id)) ∷ use_at (width_of v.ty) (At (first_extra t.index v.id)) ∷ result_of t v ∷ [])
      (use_short t (child v.children 1))
      (all_three IsShort (use_at (width_of v.ty) (At (second_extra t.index v.id))) (use_at (width_of v.ty) (At (first_extra t.index v.id)))
      (result_of t v) (tmp_short (width_of v.ty) (3 * place t.index v.id + 2)) (tmp_short (width_of v.ty) (3 * place t.index v.id + 1))
      (home_short (width_of v.ty) (3 * place t.index v.id)))) in
      omega (arith, one)

  remainder_light : (op : AirOp) → op_words op ≤ 1 → is_shuffle op ≡ false → (b : Bool)
      → sum_by inst_weight (if b then quotient_of t v op ∷ rest_into t v (second_extra t.index v.id) ∷ chosen_rest t v ∷ []
      else quotient_of t v op ∷ rest_into t v (home t.index v.id) ∷ []) ≤ allowance v
  remainder_light op few other true =
      omega (
        arith,
        three_weights (quotient_of t v op) (rest_into t v (second_extra t.index v.id)) (chosen_rest t v) 11 14 15
            (quotient_light op few other) (rest_light (3 * place t.index v.id + 2)) chosen_light,
      )
  remainder_light op few other false =
      omega (
        arith,
        two_weights (quotient_of t v op) (rest_into t v (home t.index v.id)) 11 14
            (quotient_light op few other) (rest_light (3 * place t.index v.id)),
      )

  rotate_light : (amount : Arg) → arg_words amount ≤ 3 → inst_weight (rotate_by t v amount) ≤ 11
  rotate_light amount short =
      let one = weigh v.id op.Ror (rotate_by t v amount).operands refl
      (all_three IsShort (use_of t (child v.children 0)) (use_at W32 amount) (result_of t v)
      (use_short t (child v.children 0)) short (home_short (width_of v.ty) (3 * place t.index v.id))) in
      omega (arith, one)

  negative_light : inst_weight (negative_amount t v) ≤ 8
  negative_light =
      let one = weigh v.id op.Neg (negative_amount t v).operands refl
      (All-two IsShort (use_of t (child v.children 1)) (def_at W32 (first_extra t.index v.id))
      (use_short t (child v.children 1)) (home_short W32 (3 * place t.index v.id + 1))) in
      omega (arith, one)

  rotate_left_light : (b : Bool)
      → sum_by inst_weight (if b then rotate_by t v (Imm (turned (width_of v.ty) (known t.index (child v.children 1)).word)) ∷ []
      else negative_amount t v ∷ rotate_by t v (At (first_extra t.index v.id)) ∷ []) ≤ allowance v
  rotate_left_light true =
      let amount : Arg = Imm (turned (width_of v.ty) (known t.index (child v.children 1)).word) in
      omega (arith, one_weight (rotate_by t v amount) 11 (rotate_light amount (omega arith)))
  rotate_left_light false =
      omega (
        arith,
        two_weights (negative_amount t v) (rotate_by t v (At (first_extra t.index v.id))) 8 11
            negative_light (rotate_light (At (first_extra t.index v.id)) (omega arith)),
      )

  select_light : (c : Condition) → IsShortCondition c → sum_by inst_weight (select_on t v c) ≤ allowance v
  select_light c short =
      let rest : List Operand = use_of t (child v.children 1) ∷ use_of t (child v.children 2) ∷ result_of t v ∷ [] in
      let one = weigh v.id (op.SelectIf c.test) (c.over ++ rest) refl
      (All-append IsShort c.over rest short.short
      (all_three IsShort (use_of t (child v.children 1)) (use_of t (child v.children 2)) (result_of t v)
      (use_short t (child v.children 1)) (use_short t (child v.children 2)) (home_short (width_of v.ty) (3 * place t.index v.id)))) in
      let count = length-append c.over rest in
      one_weight (inst v (op.SelectIf c.test) (c.over ++ rest)) (allowance v) (omega (arith, one, count, short.few))

  branch_light : (c : Condition) → IsShortCondition c → sum_by inst_weight (inst v (op.BranchIf c.test) c.over ∷ []) ≤ allowance v
  branch_light c short =
      let one = weigh v.id (op.BranchIf c.test) c.over refl short.short in
      one_weight (inst v (op.BranchIf c.test) c.over) (allowance v) (omega (arith, one, short.few))

  switch_light : sum_by inst_weight (inst v (op.Switch (cases_in v.body)) (use_of t (child v.children 0) ∷ []) ∷ []) ≤ allowance v
  switch_light =
      let os : List Operand = use_of t (child v.children 0) ∷ [] in
      let one = weigh v.id (op.Switch (cases_in v.body)) os refl
      (All-one IsShort (use_of t (child v.children 0)) (use_short t (child v.children 0))) in
      let count = cases_counted v.body in
      one_weight (inst v (op.Switch (cases_in v.body)) os) (allowance v) (omega (arith, one, count))

  move_light : (width : Width) (from : Arg) (to : Home) → arg_words from ≤ 3 → arg_words (At to) ≤ 3
      → inst_weight (move v width from to) ≤ 8
  move_light width from to a b =
      omega (arith, weigh v.id op.Move (move v width from to).operands refl (All-two IsShort (use_at width from) (def_at width to) a b))

  copy_light : (width : Width) (from : Arg) (to : ℕ) → arg_words from ≤ 3 → sum_by inst_weight (copy_of v (width, from, Tmp to) ∷ []) ≤ allowance v
  copy_light width from to short =
      omega (arith, one_weight (move v width from (Tmp to)) 8 (move_light width from (Tmp to) short (omega arith)))

  alone_light : (op : AirOp) → op_words op ≤ 24 → is_shuffle op ≡ false → sum_by inst_weight (inst v op [] ∷ []) ≤ allowance v
  alone_light op few other =
      omega (arith, few, one_weight (inst v op []) 25 (omega (arith, few, weigh v.id op [] other (All-nil IsShort))))

  return_light : (cs : List ℕ) → sum_by inst_weight (return_of t v cs) ≤ allowance v
  return_light [] = alone_light op.Return (omega arith) refl
  return_light (c ∷ cs) =
      let width = width_at t.index c in
      omega (
        arith,
        two_weights (move v width (arg_of t c) (register 0)) (inst v op.Return (use_at width (At (register 0)) ∷ [])) 8 28
            (move_light width (arg_of t c) (register 0) (arg_short t c) (omega arith))
            (omega (arith, weigh v.id op.Return (use_at width (At (register 0)) ∷ []) refl (All-one IsShort (use_at width (At (register 0))) (omega arith)))),
      )

  before_light : (pointer bytes : ℕ) → sum_by inst_weight (before_access t v pointer bytes) ≤ 19
  before_light pointer bytes =
      let k : Arg = Imm (cast_unsigned w64 (offset_in v.body)) in
      let first = first_extra t.index v.id in
      let second = second_extra t.index v.id in
      let add : AirInst = inst v op.Add (use_of t pointer ∷ use_at W64 (At first) ∷ def_at W64 second ∷ []) in
      pick (λ (is : List AirInst). sum_by inst_weight is ≤ 19) (folds t pointer || is_offset bytes (offset_in v.body)) [] (far_sum t v pointer) (omega arith)
      (two_weights (move v W64 k first) add 8 11 (move_light W64 k first (omega arith) (omega arith)) (omega (
        arith,
        weigh v.id op.Add add.operands refl
            (all_three IsShort (use_of t pointer) (use_at W64 (At first)) (def_at W64 second) (use_short t pointer) (omega arith) (omega arith)),
      )))

  -- an address takes at most four words beside the op's own: those of a base and an index
  index_short : (base id : ℕ) (second : Known) → arg_words (indexed_by t (home t.index base) id second) ≤ 4
  index_short base id second =
      pick (λ (a : Arg). arg_words a ≤ 4) (folds t id) (Indexed (home t.index base) (home t.index second.first) 3)
      (Indexed (home t.index base) (home t.index id) 0) (omega arith) (omega arith)

  sum_short : (k : Known) → arg_words (sum_address t v k) ≤ 4
  sum_short k =
      let second = known t.index k.second in
      pick (λ (a : Arg). arg_words a ≤ 4) (is_constant second.opcode) (Addr (home t.index k.first) (whole second.word (offset_in v.body)))
      (indexed_by t (home t.index k.first) k.second second) (omega arith) (index_short k.first k.second second)

  address_short : (pointer bytes : ℕ) → arg_words (address_of t v pointer bytes) ≤ 4
  address_short pointer bytes =
      pick (λ (a : Arg). arg_words a ≤ 4) (folds t pointer) (sum_address t v (known t.index pointer)) (home_address t v pointer bytes)
      (sum_short (known t.index pointer))
      (pick (λ (a : Arg). arg_words a ≤ 4) (is_offset bytes (offset_in v.body)) (Addr (home t.index pointer) (offset_in v.body))
      (Addr (second_extra t.index v.id) (pos 0)) (omega arith) (omega arith))

  -- an access is behind what stands before it
  access_light : (air_op : AirOp) (before : List AirInst) (a b : Operand) → op_words air_op ≤ 1 → is_shuffle air_op ≡ false
      → sum_by inst_weight before ≤ 19 → arg_words a.arg ≤ 4 → arg_words b.arg ≤ 4
      → sum_by inst_weight (before ++ access v air_op (a ∷ b ∷ []) ∷ []) ≤ allowance v
  unfolding all_words
  access_light air_op before a b few other light short short' =
      let os : List Operand = a ∷ b ∷ [] in
      let all : all_words os ≤ 8 =
      omega (arith, short, short', sum_by-cons (λ (o : Operand). arg_words o.arg) a (b ∷ []), sum_by-cons (λ (o : Operand). arg_words o.arg) b []) in
      let words = no_shuffle air_op os 8 all (is_shuffle air_op) other in
      let one : inst_weight (access v air_op os) ≤ 12 = omega (arith, words, few) in
      omega (arith, light, one, sum_by-append inst_weight before (access v air_op os ∷ []), one_weight (access v air_op os) 12 one)

  load_light : (air_op : AirOp) (extent : Extent) → op_words air_op ≤ 1 → is_shuffle air_op ≡ false
      → sum_by inst_weight (load_of t v air_op extent) ≤ allowance v
  load_light air_op extent few other =
      let width = width_of v.ty in
      let pointer = child v.children 0 in
      let bytes = extent_bytes extent width in
      access_light air_op (before_access t v pointer bytes) (use_at width (address_of t v pointer bytes)) (result_of t v) few other (before_light pointer bytes)
      (address_short pointer bytes) (omega arith)

  store_light : (air_op : AirOp) (extent : Extent) → op_words air_op ≤ 1 → is_shuffle air_op ≡ false
      → sum_by inst_weight (store_of t v air_op extent) ≤ allowance v
  store_light air_op extent few other =
      let from = child v.children 0 in
      let width = width_at t.index from in
      let pointer = child v.children 1 in
      let bytes = extent_bytes extent width in
      access_light air_op (before_access t v pointer bytes) (use_of t from) (use_at width (address_of t v pointer bytes)) few other (before_light pointer bytes)
      (omega (arith, use_short t from)) (address_short pointer bytes)

  -- ---- calls

  arguments_light : (cs : List ℕ) (r : ℕ) → sum_by inst_weight (arguments_into t v r cs) ≤ 8 * length cs
  arguments_light [] r = omega arith
  arguments_light (c ∷ cs) r =
      let copy = move v (width_at t.index c) (arg_of t c) (register r) in
      omega (
        arith,
        sum_by-cons inst_weight copy (arguments_into t v (suc r) cs),
        move_light (width_at t.index c) (arg_of t c) (register r) (arg_short t c) (omega arith),
        arguments_light cs (suc r),
      )

  result_light : (r : ℕ) → sum_by inst_weight (result_from t v r) ≤ 8
  result_light r =
      let copy = move v (width_of v.ty) (At (register r)) (home t.index v.id) in
      pick (λ (is : List AirInst). sum_by inst_weight is ≤ 8) (has_word v.ty) (copy ∷ []) []
      (one_weight copy 8 (move_light (width_of v.ty) (At (register r)) (home t.index v.id) (omega arith) (omega arith))) (omega arith)

  uses_counted : (cs : List ℕ) (r : ℕ) → length (arguments_at t r cs) ≡ length cs
  uses_counted [] r = refl
  uses_counted (c ∷ cs) r = ap suc (uses_counted cs (suc r))

  result_counted : (r : ℕ) → length (result_into v r) ≤ 1
  result_counted r =
      pick (λ (os : List Operand). length os ≤ 1) (has_word v.ty) (def_at (width_of v.ty) (register r) ∷ []) [] (omega arith) (omega arith)

  clobbers_counted : length (map (operand_in Clobber W64) call_clobbers) ≡ 20
  unfolding call_clobbers
  clobbers_counted = refl

  call_counted : (callee : ℕ) (cs : List ℕ) → length (call_to t v callee cs).operands ≤ 22 + length cs
  call_counted callee cs =
      let changed : List Operand = map (operand_in Clobber W64) call_clobbers in
      omega (
        arith,
        uses_counted cs 0,
        clobbers_counted,
        result_counted 0,
        length-append (arguments_at t 0 cs) (changed ++ result_into v 0),
        length-append changed (result_into v 0),
      )

  call_light : sum_by inst_weight (call_of t v) ≤ allowance v
  call_light =
      let cs = drop 1 v.children in
      let call = call_to t v (child v.children 0) cs in
      let one = weigh v.id (op.Call (has_word v.ty)) call.operands refl
      (operands_all t v IsShort (child v.children 0) cs (use_short t (child v.children 0)) (λ k c at. omega arith)
      (all_of (λ r. IsShort (operand_in Clobber W64 r)) (λ r. omega arith) call_clobbers) (omega arith)) in
      omega (
        arith,
        one,
        call_counted (child v.children 0) cs,
        arguments_light cs 0,
        result_light 0,
        fewer_behind 1 v.children,
        sum_by-append inst_weight (arguments_into t v 0 cs) (call ∷ result_from t v 0),
        sum_by-cons inst_weight call (result_from t v 0),
      )

  code_light : (o : Opcode) → has_map o ≡ false → sum_by inst_weight (code_of t o v) ≤ allowance v
  code_light opcode.Nop plain = omega arith
  code_light opcode.Const32 plain = copy_light (width_of v.ty) (Imm (word_in v.body)) (3 * place t.index v.id) (omega arith)
  code_light opcode.Const64 plain = copy_light (width_of v.ty) (Imm (word_in v.body)) (3 * place t.index v.id) (omega arith)
  code_light opcode.ArgumentReg plain = copy_light W64 (At (argument t.index (register_in v.body))) (3 * place t.index v.id) (omega arith)
  code_light opcode.Trunc plain = copy_light W32 (arg_of t (child v.children 0)) (3 * place t.index v.id) (arg_short t (child v.children 0))
  code_light opcode.Upsilon plain =
      copy_light (width_at t.index (child v.children 0)) (arg_of t (child v.children 0)) (3 * place t.index (phi_in v.body) + 1)
      (arg_short t (child v.children 0))
  code_light opcode.Phi plain = copy_light (width_of v.ty) (At (location t.index v.id)) (3 * place t.index v.id) (omega arith)
  code_light opcode.FramePointer plain =
      omega (
        arith,
        one_weight (frame_of t v) 5 (omega (
          arith,
          weigh v.id op.FramePointer (frame_of t v).operands refl
              (All-one IsShort (result_of t v) (home_short (width_of v.ty) (3 * place t.index v.id))),
        )),
      )
  code_light opcode.SlotBase plain =
      omega (
        arith,
        one_weight (slot_of t v) 9 (omega (
          arith,
          weigh v.id op.SlotAddress (slot_of t v).operands refl
              (All-two IsShort (use_at W64 (FrameSlot (slot_in v.body))) (result_of t v) (omega arith) (home_short (width_of v.ty) (3 * place t.index v.id))),
        )),
      )
  code_light opcode.Load8Z plain = load_light op.Load8Z Byte (omega arith) refl
  code_light opcode.Load8S plain = load_light op.Load8S Byte (omega arith) refl
  code_light opcode.Load16Z plain = load_light op.Load16Z Half (omega arith) refl
  code_light opcode.Load16S plain = load_light op.Load16S Half (omega arith) refl
  code_light opcode.Load plain = load_light op.Load Whole (omega arith) refl
  code_light opcode.Store8 plain = store_light op.Store8 Byte (omega arith) refl
  code_light opcode.Store16 plain = store_light op.Store16 Half (omega arith) refl
  code_light opcode.Store plain = store_light op.Store Whole (omega arith) refl
  code_light opcode.CCall plain = call_light
  code_light opcode.Mod plain = remainder_light op.Div (omega arith) refl v.kind.chill
  code_light opcode.UMod plain = remainder_light op.UDiv (omega arith) refl v.kind.chill
  code_light opcode.RotL plain = rotate_left_light (folds t (child v.children 1))
  code_light opcode.Select plain = select_light (condition_of t (child v.children 0)) (condition_short t (child v.children 0))
  code_light opcode.Jump plain = alone_light op.Jump (omega arith) refl
  code_light opcode.Oops plain = alone_light op.Oops (omega arith) refl
  code_light opcode.Branch plain = branch_light (condition_of t (child v.children 0)) (condition_short t (child v.children 0))
  code_light opcode.Switch plain = switch_light
  code_light opcode.Return plain = return_light v.children
  code_light opcode.Patchpoint plain = absurd cc
  code_light opcode.Check plain = absurd cc
  code_light opcode.CheckAdd plain = absurd cc
  code_light opcode.CheckSub plain = absurd cc
  code_light opcode.CheckMul plain = absurd cc
  code_light o plain = computes_light (op_of o) (few_words o) (no_shuffle_op o)

  -- a patchpoint and a check are light by what is known of them
  abbrev pub IsLightSite : Type 0
  IsLightSite = has_map v.kind.opcode ≡ true → sum_by inst_weight (code_of t v.kind.opcode v) ≤ allowance v

  value_light : IsLightSite → sum_by inst_weight (value_code t v) ≤ allowance v
  unfolding value_code
  value_light site =
      pick (λ (is : List AirInst). sum_by inst_weight is ≤ allowance v) (folds t v.id) [] (code_of t v.kind.opcode v)
      (omega arith) (by (has_map v.kind.opcode) refl)
    where
      by : (map : Bool) → has_map v.kind.opcode ≡ map → sum_by inst_weight (code_of t v.kind.opcode v) ≤ allowance v
      by true has = site has
      by false plain = code_light v.kind.opcode plain

-- ---- blocks
values_light : (t : Tables) (vs : List Value) → All (IsLightSite t) vs → sum_by inst_weight (flat_map (value_code t) vs) ≤ sum_by allowance vs
values_light t [] sites = omega arith
values_light t (v ∷ vs) sites =
    let cut = ap (sum_by inst_weight) (flat_map-cons (value_code t) v vs) in
    let sum = sum_by-append inst_weight (value_code t v) (flat_map (value_code t) vs) in
    let first = value_light t v (All-head (IsLightSite t) v vs sites) in
    let rest = values_light t vs (All-tail (IsLightSite t) v vs sites) in
    omega (arith, cut, sum, first, rest, sum_by-cons allowance v vs)

abbrev block_weight : AirBlock → ℕ
block_weight b = sum_by inst_weight b.insts

abbrev block_allowance : Block → ℕ
block_allowance b = sum_by allowance b.values

abbrev pub HasLightSites : Tables → Block → Type 0
HasLightSites t b = All (IsLightSite t) b.values

block_light : (t : Tables) (b : Block) → HasLightSites t b → block_weight (block_code t b) ≤ block_allowance b
unfolding block_code
block_light t b sites = values_light t b.values sites

blocks_light : (t : Tables) (bs : List Block) → All (HasLightSites t) bs → sum_by block_weight (map (block_code t) bs) ≤ sum_by block_allowance bs
blocks_light t [] sites = omega arith
blocks_light t (b ∷ bs) sites =
    let first = block_light t b (All-head (HasLightSites t) b bs sites) in
    let rest = blocks_light t bs (All-tail (HasLightSites t) b bs sites) in
    omega (arith, first, rest, sum_by-cons block_weight (block_code t b) (map (block_code t) bs), sum_by-cons block_allowance b bs)

abbrev value_children : Value → ℕ
value_children v = length v.children + case_count v.body

abbrev block_children : Block → ℕ
block_children b = sum_by value_children b.values

values_allowed : (vs : List Value) → sum_by allowance vs ≡ 120 * length vs + 32 * sum_by value_children vs
values_allowed [] = refl
values_allowed (v ∷ vs) = omega (arith, values_allowed vs, sum_by-cons allowance v vs, sum_by-cons value_children v vs)

abbrev block_values : Block → ℕ
block_values b = length b.values

blocks_allowed : (bs : List Block) → sum_by block_allowance bs ≡ 120 * sum_by block_values bs + 32 * sum_by block_children bs
blocks_allowed [] = refl
blocks_allowed (b ∷ bs) =
    omega (arith, values_allowed b.values, blocks_allowed bs, sum_by-cons block_allowance b bs, sum_by-cons block_values b bs, sum_by-cons block_children b bs)

-- ---- the entry
moves_light : (x : Index) (vs : List Value) (value n : ℕ) → sum_by inst_weight (argument_moves x vs value n) ≤ 8 * n
moves_light x vs value zero = omega arith
moves_light x vs value (suc r) =
    let one : inst_weight (argument_move x value r) ≤ 8 = omega (
      arith,
      weigh value op.Move (argument_move x value r).operands refl
          (All-two IsShort (use_at W64 (At (register r))) (def_at W64 (argument x r)) (omega arith) (omega arith)),
    ) in
    let more : List AirInst = if names_argument vs r then argument_move x value r ∷ [] else [] in
    let last : sum_by inst_weight more ≤ 8 =
    pick (λ (is : List AirInst). sum_by inst_weight is ≤ 8) (names_argument vs r) (argument_move x value r ∷ []) []
    (one_weight (argument_move x value r) 8 one) (omega arith) in
    omega (arith, moves_light x vs value r, sum_by-append inst_weight (argument_moves x vs value r) more, last)

entry_light : (x : Index) (vs : List Value) → block_weight (entry_of x vs) ≤ 72
unfolding entry_of
entry_light x vs =
    let jump : AirInst = record { op = op.Jump; operands = []; value = last_id vs; traps = false } in
    let one : inst_weight jump ≤ 8 = omega (arith, weigh (last_id vs) op.Jump [] refl (All-nil IsShort)) in
    omega (arith, moves_light x vs (last_id vs) 8, sum_by-append inst_weight (argument_moves x vs (last_id vs) 8) (jump ∷ []), one_weight jump 8 one)

-- ---- the whole
pub light : (p : Procedure) → All (HasLightSites (tables p)) p.blocks → weight (selected p) ≤ 120 * total p + 32 * child_count p + 256
unfolding selected_by
light p sites =
    let t = tables p in
    let entry : AirBlock = entry_of t.index (values_of p 0) in
    omega (
      arith,
      entry_light t.index (values_of p 0),
      blocks_light t p.blocks sites,
      blocks_allowed p.blocks,
      sum_by-cons block_weight entry (map (block_code t) p.blocks),
    )

values_counted : (p : Procedure) → length (all_values p) ≡ total p
values_counted p = length-flat_map (λ (b : Block). b.values) p.blocks

pub few : (p : Procedure) → IsWithinLimits p → IsFew p (selected p)
unfolding selected_by
few p within =
    let ids = length-map (all_values p) (λ (v : Value). v.id) in
    let count = values_counted p in
    record {
      tmps = omega (arith, ids, count);
      most = omega (arith, ids, count, within.values);
      blocks = omega (arith, length-map p.blocks (block_code (tables p)));
    }
