-- The operands of what is selected name temporaries of the procedure, and registers that values may stand in.
use Rattle.std.proofs.Common.{◌≡◌, ℕ, pos, zero, suc, ◌+◌, ◌*◌, ◌<◌, ◌≤◌, ◌≢◌, inl, ◌&&◌, Bool, true, false, ◌||◌, List, [], ◌∷◌, ◌++◌, drop, map, length, refl, sym, ap, ◌∙◌, arith}
use Rattle.std.specs.Prelude.{All, ◌==◌, if◌then◌else◌, nat_eq, nat_le, not}
use Rattle.std.specs.Int.{cast_unsigned, w64}
use Rattle.std.specs.List.{list_all}
use Rattle.std.proofs.lemmas.Bool.{and_parts, leb-true}
use Rattle.std.proofs.lemmas.List.Elements.{All-append, All-cons, All-map, All-nil}
use Rattle.std.proofs.lemmas.Option.{slice_get_within}
use Rattle.b3_base.proofs.Lists.{All-one, All-two}
use Rattle.b3_base.specs.declared.word.Width.{Width}
use Rattle.b3_base.specs.declared.word.Width.TheVariants.{W32, W64}
use Rattle.b3_ir.specs.Procedure.{place_among}
use Rattle.b3_ir.specs.Types.{width_of}
use Rattle.b3_ir.specs.declared.opcode.Opcode.{Opcode}
use Rattle.b3_ir.specs.declared.opcode.Opcode.TheVariants as opcode
use Rattle.b3_ir.specs.declared.value.Value.{Value}
use Rattle.b3_meaning.specs.declared.role.Extent.{Extent}
use Rattle.b3_meaning.specs.declared.role.Extent.TheVariants.{Byte, Half, Whole}
use Rattle.air_ir.specs.Forms.{call_clobbers, is_offset, operand_in}
use Rattle.air_ir.specs.Kinds.{extent_bytes}
use Rattle.air_ir.specs.declared.operand.Role.TheVariants.{Clobber, Use}
use Rattle.air_ir.specs.declared.op.AirOp.{AirOp}
use Rattle.air_ir.specs.declared.op.AirOp.TheVariants as op
use Rattle.air_ir.specs.declared.op.Test.TheVariants.{Bit, Compare, NonZero}
use Rattle.air_ir.specs.declared.operand.Arg.{Arg}
use Rattle.air_ir.specs.declared.operand.Arg.TheVariants.{Addr, At, FrameSlot, Imm, Index as Indexed}
use Rattle.air_ir.specs.declared.operand.Home.TheVariants.{Tmp}
use Rattle.air_ir.specs.declared.operand.Operand.{Operand}
use Rattle.air_ir.specs.declared.procedure.AirInst.{AirInst}
use Rattle.air_ir.specs.WellFormed.{NamesOwn}
use Rattle.air_fold.specs.Foldable.{bit_of, is_comparison, is_constant, whole}
use Rattle.air_fold.specs.declared.known.Known.{Known}
use Rattle.air_select.specs.Selected.{Condition, access, address_of, arg_of, argument_move, argument_moves, before_access, call_of, cases_in, chosen_rest, code_of, computes, condition, condition_of, def_at, entry_of, far_sum, folded_condition, folds, frame_of, home_address, indexed_by, inst, last_id, load_of, names_argument, negative_amount, op_of, phi_in, quotient_of, register, register_in, rest_into, result_of, return_of, rotate_by, select_on, slot_in, slot_of, store_of, sum_address, turned, use_at, use_of, value_code, Tables}
use Rattle.air_select.specs.Temporaries.{argument, first_extra, home, second_extra, tmp_count}
use Rattle.air_fold.specs.Values.{child, known, offset_in, place, width_at}
use Rattle.air_stackmap.specs.Laws.{has_stackmap as has_map}
use Rattle.air_select.proofs.CallCode.{behind_count, call_all, operands_all}
use Rattle.air_select.proofs.MapCode.{pick}
use Rattle.air_select.proofs.Sites.{all_of, all_three}
use Rattle.air_ir.specs.declared.procedure.AirProc.{AirProc}

place_most : (ids : List ℕ) (id : ℕ) → place_among ids id ≤ length ids
place_most [] id = omega arith
place_most (n ∷ ns) id = by (n == id) (place_most ns id)
  where
    by : (b : Bool) → place_among ns id ≤ length ns → (if b then 0 else suc (place_among ns id)) ≤ length (n ∷ ns)
    by true le = omega arith
    by false le = omega (arith, le)

-- the registers that an instruction may change
abbrev is_changeable : ℕ → Bool
is_changeable r = nat_le r 30 && not (nat_eq r 29)

abbrev IsChangeable : ℕ → Type 0
IsChangeable r = (r ≤ 30) × (r ≢ 29)

changeable : (r : ℕ) → is_changeable r ≡ true → IsChangeable r
changeable r e =
    let both = and_parts (nat_le r 30) (not (nat_eq r 29)) e in
    (leb-true r 30 both.0, λ same. let bad : true ≡ false = sym both.1 ∙ ap (λ k. not (nat_eq k 29)) same in cc)

each_changeable : (rs : List ℕ) → list_all is_changeable rs ≡ true → All IsChangeable rs
each_changeable [] e = All-nil IsChangeable
each_changeable (r ∷ rs) e =
    let both = and_parts (is_changeable r) (list_all is_changeable rs) e in
    All-cons IsChangeable r rs (changeable r both.0) (each_changeable rs both.1)

module _ (q : AirProc) (t : Tables) (tmps : q.tmps ≡ tmp_count t.index) where
  abbrev pub IsOwn : Operand → Type 0
  IsOwn o = NamesOwn q o.role o.arg

  below : (id k : ℕ) → k ≤ 2 → 3 * place t.index id + k < q.tmps
  below id k le = let most = place_most t.index.ids id in omega (arith, most, tmps, le)

  pub home_below : (id : ℕ) → 3 * place t.index id < q.tmps
  home_below id = let most = place_most t.index.ids id in omega (arith, most, tmps)

  choice_own : (b : Bool) (width : Width) (word n : ℕ) → n < q.tmps → IsOwn (use_at width (if b then Imm word else At (Tmp n)))
  choice_own true width word n lt = tt
  choice_own false width word n lt = lt

  arg_own : (width : Width) (id : ℕ) → IsOwn (use_at width (arg_of t id))
  arg_own width id = choice_own (folds t id) width (known t.index id).word (3 * place t.index id) (home_below id)

  pub use_own : (id : ℕ) → IsOwn (use_of t id)
  use_own id = arg_own (width_at t.index id) id

  one_own : (id : ℕ) → All IsOwn (use_of t id ∷ [])
  one_own id = All-one IsOwn (use_of t id) (use_own id)

  abbrev IsOwnCondition : Condition → Type 0
  IsOwnCondition c = All IsOwn c.over

  folded_own : (id : ℕ) → IsOwnCondition (folded_condition t id)
  folded_own id =
      let k = known t.index id in
      pick IsOwnCondition (is_comparison k.opcode)
      (record { test = Compare (condition k.opcode); over = use_of t k.first ∷ use_of t k.second ∷ [] })
      (record { test = Bit (bit_of (known t.index k.second).word); over = use_of t k.first ∷ [] })
      (All-two IsOwn (use_of t k.first) (use_of t k.second) (use_own k.first) (use_own k.second))
      (one_own k.first)

  condition_own : (id : ℕ) → IsOwnCondition (condition_of t id)
  condition_own id =
      pick IsOwnCondition (folds t id) (folded_condition t id) (record { test = NonZero; over = use_of t id ∷ [] })
      (folded_own id) (one_own id)

  abbrev pub IsOwnInst : AirInst → Type 0
  IsOwnInst i = All IsOwn i.operands

  -- a call changes no register that isn't one of x0 to x30, and x29 neither
  clobbers_own : All (λ r. IsOwn (operand_in Clobber W64 r)) call_clobbers
  unfolding call_clobbers
  clobbers_own = each_changeable call_clobbers refl

  module _ (v : Value) (argued : v.kind.opcode ≡ opcode.ArgumentReg → register_in v.body < 8)
      (slotted : v.kind.opcode ≡ opcode.SlotBase → slot_in v.body < length q.slots)
      (called : v.kind.opcode ≡ opcode.CCall → length v.children ≤ 9) (plain : has_map v.kind.opcode ≡ false) where
    here_below : (k : ℕ) → k ≤ 2 → 3 * place t.index v.id + k < q.tmps
    here_below k le = below v.id k le

    computes_own : (op : AirOp) → All IsOwnInst (computes t v op)
    computes_own op =
        All-one IsOwnInst (inst v op (map (use_of t) v.children ++ result_of t v ∷ []))
        (All-append IsOwn (map (use_of t) v.children) (result_of t v ∷ [])
        (All-map IsOwn (use_of t) v.children (all_of (λ id. IsOwn (use_of t id)) use_own v.children))
        (All-one IsOwn (result_of t v) (home_below v.id)))

    quotient_own : (op : AirOp) → IsOwnInst (quotient_of t v op)
    quotient_own op =
        all_three IsOwn (use_of t (child v.children 0)) (use_of t (child v.children 1)) (def_at (width_of v.ty) (first_extra t.index v.id))
        (use_own (child v.children 0)) (use_own (child v.children 1)) (below v.id 1 (omega arith))

    rest_own : (to : ℕ) → to < q.tmps → IsOwnInst (rest_into t v (Tmp to))
    rest_own to lt =
        All-cons IsOwn (use_at (width_of v.ty) (At (first_extra t.index v.id)))
        (use_of t (child v.children 1) ∷ use_of t (child v.children 0) ∷ def_at (width_of v.ty) (Tmp to) ∷ [])
        (below v.id 1 (omega arith))
        (all_three IsOwn (use_of t (child v.children 1)) (use_of t (child v.children 0)) (def_at (width_of v.ty) (Tmp to))
        (use_own (child v.children 1)) (use_own (child v.children 0)) lt)

    chosen_own : IsOwnInst (chosen_rest t v)
    chosen_own =
        All-cons IsOwn (use_of t (child v.children 1))
        (use_at (width_of v.ty) (At (second_extra t.index v.id)) ∷ use_at (width_of v.ty) (At (first_extra t.index v.id)) ∷ result_of t v ∷ [])
        (use_own (child v.children 1))
        (all_three IsOwn (use_at (width_of v.ty) (At (second_extra t.index v.id))) (use_at (width_of v.ty) (At (first_extra t.index v.id)))
        (result_of t v) (below v.id 2 (omega arith)) (below v.id 1 (omega arith)) (home_below v.id))

    remainder_own : (op : AirOp) → (b : Bool)
        → All IsOwnInst (if b then quotient_of t v op ∷ rest_into t v (second_extra t.index v.id) ∷ chosen_rest t v ∷ []
        else quotient_of t v op ∷ rest_into t v (home t.index v.id) ∷ [])
    remainder_own op true =
        all_three IsOwnInst (quotient_of t v op) (rest_into t v (second_extra t.index v.id)) (chosen_rest t v)
        (quotient_own op) (rest_own (3 * place t.index v.id + 2) (below v.id 2 (omega arith))) chosen_own
    remainder_own op false =
        All-two IsOwnInst (quotient_of t v op) (rest_into t v (home t.index v.id)) (quotient_own op)
        (rest_own (3 * place t.index v.id) (home_below v.id))

    rotate_own : (amount : Arg) → IsOwn (use_at W32 amount) → IsOwnInst (rotate_by t v amount)
    rotate_own amount own =
        all_three IsOwn (use_of t (child v.children 0)) (use_at W32 amount) (result_of t v) (use_own (child v.children 0)) own (home_below v.id)

    rotate_left_own : (b : Bool)
        → All IsOwnInst (if b then rotate_by t v (Imm (turned (width_of v.ty) (known t.index (child v.children 1)).word)) ∷ []
        else negative_amount t v ∷ rotate_by t v (At (first_extra t.index v.id)) ∷ [])
    rotate_left_own true =
        let amount : Arg = Imm (turned (width_of v.ty) (known t.index (child v.children 1)).word) in
        All-one IsOwnInst (rotate_by t v amount) (rotate_own amount tt)
    rotate_left_own false =
        All-two IsOwnInst (negative_amount t v) (rotate_by t v (At (first_extra t.index v.id)))
        (All-two IsOwn (use_of t (child v.children 1)) (def_at W32 (first_extra t.index v.id)) (use_own (child v.children 1)) (below v.id 1 (omega arith)))
        (rotate_own (At (first_extra t.index v.id)) (below v.id 1 (omega arith)))

    select_own : (c : Condition) → IsOwnCondition c → All IsOwnInst (select_on t v c)
    select_own c own =
        let rest : List Operand = use_of t (child v.children 1) ∷ use_of t (child v.children 2) ∷ result_of t v ∷ [] in
        All-one IsOwnInst (inst v (op.SelectIf c.test) (c.over ++ rest))
        (All-append IsOwn c.over rest own
        (all_three IsOwn (use_of t (child v.children 1)) (use_of t (child v.children 2)) (result_of t v)
        (use_own (child v.children 1)) (use_own (child v.children 2)) (home_below v.id)))

    move_own : (width : Width) (from : Arg) (to : ℕ) → IsOwn (use_at width from) → to < q.tmps
        → All IsOwnInst (inst v op.Move (use_at width from ∷ def_at width (Tmp to) ∷ []) ∷ [])
    move_own width from to a b =
        All-one IsOwnInst (inst v op.Move (use_at width from ∷ def_at width (Tmp to) ∷ [])) (All-two IsOwn (use_at width from) (def_at width (Tmp to)) a b)

    return_own : (cs : List ℕ) → All IsOwnInst (return_of t v cs)
    return_own [] = All-one IsOwnInst (inst v op.Return []) (All-nil IsOwn)
    return_own (c ∷ cs) =
        let width = width_at t.index c in
        All-two IsOwnInst (inst v op.Move (use_at width (arg_of t c) ∷ def_at width (register 0) ∷ [])) (inst v op.Return (use_at width (At (register 0)) ∷ []))
        (All-two IsOwn (use_at width (arg_of t c)) (def_at width (register 0)) (arg_own width c) (inl (omega arith)))
        (All-one IsOwn (use_at width (At (register 0))) (inl (omega arith)))

    argument_below : register_in v.body < 8 → 3 * length t.index.ids + register_in v.body < q.tmps
    argument_below lt = omega (arith, tmps, lt)

    -- ---- accesses

    before_own : (pointer bytes : ℕ) → All IsOwnInst (before_access t v pointer bytes)
    before_own pointer bytes =
        let k : Arg = Imm (cast_unsigned w64 (offset_in v.body)) in
        let first = first_extra t.index v.id in
        let second = second_extra t.index v.id in
        let put : AirInst = inst v op.Move (use_at W64 k ∷ def_at W64 first ∷ []) in
        let add : AirInst = inst v op.Add (use_of t pointer ∷ use_at W64 (At first) ∷ def_at W64 second ∷ []) in
        pick (All IsOwnInst) (folds t pointer || is_offset bytes (offset_in v.body)) [] (far_sum t v pointer) (All-nil IsOwnInst)
        (All-two IsOwnInst put add
        (All-two IsOwn (use_at W64 k) (def_at W64 first) tt (below v.id 1 (omega arith)))
        (all_three IsOwn (use_of t pointer) (use_at W64 (At first)) (def_at W64 second) (use_own pointer) (below v.id 1 (omega arith))
        (below v.id 2 (omega arith))))

    sum_own : (k : Known) → NamesOwn q Use (sum_address t v k)
    sum_own k =
        let second = known t.index k.second in
        pick (NamesOwn q Use) (is_constant second.opcode) (Addr (home t.index k.first) (whole second.word (offset_in v.body)))
        (indexed_by t (home t.index k.first) k.second second) (home_below k.first)
        (pick (NamesOwn q Use) (folds t k.second) (Indexed (home t.index k.first) (home t.index second.first) 3)
        (Indexed (home t.index k.first) (home t.index k.second) 0) (home_below k.first, home_below second.first) (home_below k.first, home_below k.second))

    address_own : (width : Width) (pointer bytes : ℕ) → IsOwn (use_at width (address_of t v pointer bytes))
    address_own width pointer bytes =
        pick (NamesOwn q Use) (folds t pointer) (sum_address t v (known t.index pointer)) (home_address t v pointer bytes) (sum_own (known t.index pointer))
        (pick (NamesOwn q Use) (is_offset bytes (offset_in v.body)) (Addr (home t.index pointer) (offset_in v.body)) (Addr (second_extra t.index v.id) (pos 0))
        (home_below pointer) (below v.id 2 (omega arith)))

    load_own : (air_op : AirOp) (extent : Extent) → All IsOwnInst (load_of t v air_op extent)
    load_own air_op extent =
        let width = width_of v.ty in
        let pointer = child v.children 0 in
        let bytes = extent_bytes extent width in
        let at = use_at width (address_of t v pointer bytes) in
        let last : AirInst = access v air_op (at ∷ result_of t v ∷ []) in
        All-append IsOwnInst (before_access t v pointer bytes) (last ∷ []) (before_own pointer bytes)
        (All-one IsOwnInst last (All-two IsOwn at (result_of t v) (address_own width pointer bytes) (home_below v.id)))

    store_own : (air_op : AirOp) (extent : Extent) → All IsOwnInst (store_of t v air_op extent)
    store_own air_op extent =
        let from = child v.children 0 in
        let width = width_at t.index from in
        let pointer = child v.children 1 in
        let bytes = extent_bytes extent width in
        let at = use_at width (address_of t v pointer bytes) in
        let last : AirInst = access v air_op (use_of t from ∷ at ∷ []) in
        All-append IsOwnInst (before_access t v pointer bytes) (last ∷ []) (before_own pointer bytes)
        (All-one IsOwnInst last (All-two IsOwn (use_of t from) at (use_own from) (address_own width pointer bytes)))

    -- ---- calls

    call_own : length v.children ≤ 9 → All IsOwnInst (call_of t v)
    call_own le =
        let cs = drop 1 v.children in
        let few = behind_count v.children 8 le in
        call_all t v IsOwnInst
        (λ k c at. let lt = slice_get_within cs k c at in
        All-two IsOwn (use_at (width_at t.index c) (arg_of t c)) (def_at (width_at t.index c) (register (0 + k)))
        (arg_own (width_at t.index c) c) (inl (omega (arith, lt, few))))
        (operands_all t v IsOwn (child v.children 0) cs (use_own (child v.children 0))
        (λ k c at. let lt = slice_get_within cs k c at in inl (omega (arith, lt, few))) clobbers_own (inl (omega arith)))
        (All-two IsOwn (use_at (width_of v.ty) (At (register 0))) (def_at (width_of v.ty) (home t.index v.id)) (inl (omega arith)) (home_below v.id))

    has_none : (o : Opcode) → v.kind.opcode ≡ o → has_map o ≡ true → ⊥
    has_none o is has = let bad : false ≡ true = sym plain ∙ ap has_map is ∙ has in cc

    code_own : (o : Opcode) → v.kind.opcode ≡ o → All IsOwnInst (code_of t o v)
    code_own opcode.Nop is = All-nil IsOwnInst
    code_own opcode.Const32 is = move_own (width_of v.ty) (Imm _) (3 * place t.index v.id) tt (home_below v.id)
    code_own opcode.Const64 is = move_own (width_of v.ty) (Imm _) (3 * place t.index v.id) tt (home_below v.id)
    code_own opcode.ArgumentReg is =
        move_own W64 (At (argument t.index (register_in v.body))) (3 * place t.index v.id) (argument_below (argued is)) (home_below v.id)
    code_own opcode.Trunc is = move_own W32 (arg_of t (child v.children 0)) (3 * place t.index v.id) (arg_own W32 (child v.children 0)) (home_below v.id)
    code_own opcode.Upsilon is =
        move_own (width_at t.index (child v.children 0)) (arg_of t (child v.children 0)) (3 * place t.index (phi_in v.body) + 1)
        (arg_own (width_at t.index (child v.children 0)) (child v.children 0)) (below (phi_in v.body) 1 (omega arith))
    code_own opcode.Phi is =
        move_own (width_of v.ty) (At (first_extra t.index v.id)) (3 * place t.index v.id) (below v.id 1 (omega arith)) (home_below v.id)
    code_own opcode.FramePointer is = All-one IsOwnInst (frame_of t v) (All-one IsOwn (result_of t v) (home_below v.id))
    code_own opcode.SlotBase is =
        All-one IsOwnInst (slot_of t v) (All-two IsOwn (use_at W64 (FrameSlot (slot_in v.body))) (result_of t v) (slotted is) (home_below v.id))
    code_own opcode.Load8Z is = load_own op.Load8Z Byte
    code_own opcode.Load8S is = load_own op.Load8S Byte
    code_own opcode.Load16Z is = load_own op.Load16Z Half
    code_own opcode.Load16S is = load_own op.Load16S Half
    code_own opcode.Load is = load_own op.Load Whole
    code_own opcode.Store8 is = store_own op.Store8 Byte
    code_own opcode.Store16 is = store_own op.Store16 Half
    code_own opcode.Store is = store_own op.Store Whole
    code_own opcode.CCall is = call_own (called is)
    code_own opcode.Patchpoint is = absurd (has_none opcode.Patchpoint is refl)
    code_own opcode.Check is = absurd (has_none opcode.Check is refl)
    code_own opcode.CheckAdd is = absurd (has_none opcode.CheckAdd is refl)
    code_own opcode.CheckSub is = absurd (has_none opcode.CheckSub is refl)
    code_own opcode.CheckMul is = absurd (has_none opcode.CheckMul is refl)
    code_own opcode.Mod is = remainder_own op.Div v.kind.chill
    code_own opcode.UMod is = remainder_own op.UDiv v.kind.chill
    code_own opcode.RotL is = rotate_left_own (folds t (child v.children 1))
    code_own opcode.Select is = select_own (condition_of t (child v.children 0)) (condition_own (child v.children 0))
    code_own opcode.Jump is = All-one IsOwnInst (inst v op.Jump []) (All-nil IsOwn)
    code_own opcode.Oops is = All-one IsOwnInst (inst v op.Oops []) (All-nil IsOwn)
    code_own opcode.Branch is =
        let c = condition_of t (child v.children 0) in
        All-one IsOwnInst (inst v (op.BranchIf c.test) c.over) (condition_own (child v.children 0))
    code_own opcode.Switch is = All-one IsOwnInst (inst v (op.Switch (cases_in v.body)) (use_of t (child v.children 0) ∷ [])) (one_own (child v.children 0))
    code_own opcode.Return is = return_own v.children
    code_own o is = computes_own (op_of o)

    pub value_own : All IsOwnInst (value_code t v)
    unfolding value_code
    value_own = pick (All IsOwnInst) (folds t v.id) [] (code_of t v.kind.opcode v) (All-nil IsOwnInst) (code_own v.kind.opcode refl)

  moves_own : (vs : List Value) (value n : ℕ) → n ≤ 8 → All IsOwnInst (argument_moves t.index vs value n)
  moves_own vs value zero le = All-nil IsOwnInst
  moves_own vs value (suc r) le =
      All-append IsOwnInst (argument_moves t.index vs value r) (if names_argument vs r then argument_move t.index value r ∷ [] else [])
      (moves_own vs value r (omega (arith, le)))
      (pick (All IsOwnInst) (names_argument vs r) (argument_move t.index value r ∷ []) []
      (All-one IsOwnInst (argument_move t.index value r)
      (All-two IsOwn (use_at W64 (At (register r))) (def_at W64 (argument t.index r)) (inl (omega (arith, le))) (omega (arith, tmps, le))))
      (All-nil IsOwnInst))

  pub entry_own : (vs : List Value) → All IsOwnInst (entry_of t.index vs).insts
  unfolding entry_of
  entry_own vs =
      let jump : AirInst = record { op = op.Jump; operands = []; value = last_id vs; traps = false } in
      All-append IsOwnInst (argument_moves t.index vs (last_id vs) 8) (jump ∷ []) (moves_own vs (last_id vs) 8 (omega arith))
      (All-one IsOwnInst jump (All-nil IsOwn))
