-- Folded values: no instruction is made for one, and the instruction of its use carries it.
use Rattle.std.proofs.Common.{◌≡◌, ℕ, zero, suc, ◌+◌, ◌^◌, ◌<◌, inl, inr, Bool, true, false, ◌&&◌, ◌||◌, List, [], ◌∷◌, ◌++◌, Some, length, map, take, refl, sym, ap, ◌∙◌, subst, arith}
use Rattle.std.specs.Prelude.{Contains, not, if◌then◌else◌, slice_get, slice_index_or}
use Rattle.std.specs.List.{flat_map}
use Rattle.std.specs.Option.{option_map}
use Rattle.std.proofs.lemmas.Bool.{eqb-true}
use Rattle.std.proofs.lemmas.List.{length-map}
use Rattle.std.proofs.lemmas.Option.{get_or_from_slice_get, slice_get-get_or, slice_get-map, slice_get_within}
use Rattle.b3_base.proofs.Lists.{get_front, get_behind, Contains-at, All-at}
use Rattle.b3_base.proofs.Booleans.{not_both, and_first, and_second}
use Rattle.b3_base.proofs.Options.{mapped}
use Rattle.b3_base.specs.declared.word.Width.{Width}
use Rattle.b3_base.specs.declared.word.Width.TheVariants.{W32}
use Rattle.b3_ir.specs.Naming.{all_values, type_of}
use Rattle.b3_ir.specs.Procedure.{AllFit, Block, StandsAt, no_block, place_among, values_of, Procedure}
use Rattle.b3_ir.specs.Table.{is_terminal}
use Rattle.b3_ir.specs.Types.{AllowsTypes, AreTaken, width_of}
use Rattle.b3_ir.specs.declared.opcode.Opcode.{Opcode}
use Rattle.b3_ir.specs.declared.opcode.Opcode.TheVariants as opcode
use Rattle.b3_ir.specs.declared.opcode.Ty.{Ty}
use Rattle.b3_ir.specs.declared.table.More.TheVariants.{NoMore}
use Rattle.b3_ir.specs.declared.table.Takes.{Takes}
use Rattle.b3_ir.specs.declared.table.Takes.TheVariants.{Alike}
use Rattle.b3_ir.specs.declared.value.Value.{Value}
use Rattle.b3_ir.proofs.Typing.{allowed}
use Rattle.b3_rules.specs.Rules.{types_of}
use Rattle.b3_sound.proofs.FromValid.{is_kept}
use Rattle.b3_sound.proofs.Kept.{EndsBlock}
use Rattle.b3_meaning.specs.declared.role.Extent.{Extent}
use Rattle.b3_meaning.specs.declared.role.Extent.TheVariants.{Byte, Half, Whole}
use Rattle.air_ir.specs.Forms.{NoImmediate, OnlyZero}
use Rattle.air_ir.specs.Kinds.{extent_bytes}
use Rattle.air_ir.specs.declared.op.AirOp.{AirOp}
use Rattle.air_ir.specs.declared.op.AirOp.TheVariants as op
use Rattle.air_ir.specs.declared.op.Test.TheVariants.{Bit, Compare}
use Rattle.air_ir.specs.declared.operand.Arg.TheVariants.{At, Imm}
use Rattle.air_ir.specs.declared.procedure.AirBlock.{AirBlock}
use Rattle.air_ir.specs.declared.procedure.AirInst.{AirInst}
use Rattle.air_select.specs.Contract.{CarriesBits, CarriesComparisons, CarriesConstants, CarriesStored, CarriesSums, HasAddress, HasFirst, HasSecond, IsFolded, IsMade, NoneIsMade, TestsBit, TestsComparison, carried_word, test_in}
use Rattle.air_fold.specs.Foldable.{access_bytes, bit_of, first_fits, first_immediates, is_add, is_and, is_bit, is_bit_test, is_comparison, is_constant, is_foldable, is_immediate, is_index, is_pointer, is_shl, is_store, is_three, pointer_of, pointers, reaches, second_fits, second_immediates, sum_fits, uses, value_fits}
use Rattle.air_select.specs.Selected.{Condition, access, address_of, arg_of, before_access, block_code, branch_on, check_on, code_of, computes, condition, condition_of, entry_of, folds, inst, last_id, load_of, negative_amount, op_of, reported_behind, result_of, rotate_by, select_on, selected, selected_by, store_of, sum_address, tables, turned, use_at, use_of, value_code, Tables}
use Rattle.air_select.specs.Temporaries.{first_extra}
use Rattle.air_stackmap.specs.SiteCode.{child_moves, site_inst}
use Rattle.air_fold.specs.Values.{Index, child, ids_of, index_of, known, known_in, width_at, word_in}
use Rattle.air_fold.specs.declared.known.Known.{Known}
use Rattle.air_select.proofs.Children.{fit_cases}
use Rattle.air_fold.proofs.Places.{at_place, in_blocks, known_is, place_is, row_get, split_at}
use Rattle.air_select.proofs.Pieces.{IsFor, code_is, entry_for, flat_found, flat_get, made_for, unfolded_by}
use Rattle.air_select.proofs.Sound.{foldable_kind, sound}
use Rattle.b3_rules.specs.Valid.{IsValidProcedure}

-- ---- opcodes

ending_no_constant : (o : Opcode) → is_terminal o ≡ true → is_constant o ≡ true → ⊥
ending_no_constant opcode.Const32 e c = cc
ending_no_constant opcode.Const64 e c = cc
ending_no_constant _ e c = cc

ending_no_comparison : (o : Opcode) → is_terminal o ≡ true → is_comparison o ≡ true → ⊥
ending_no_comparison opcode.Equal e c = cc
ending_no_comparison _ e c = cc

ending_no_and : (o : Opcode) → is_terminal o ≡ true → is_and o ≡ true → ⊥
ending_no_and opcode.BitAnd e c = cc
ending_no_and _ e c = cc

constant_no_comparison : (o : Opcode) → is_constant o ≡ true → is_comparison o ≡ true → ⊥
constant_no_comparison opcode.Const32 e c = cc
constant_no_comparison opcode.Const64 e c = cc
constant_no_comparison _ e c = cc

constant_no_and : (o : Opcode) → is_constant o ≡ true → is_and o ≡ true → ⊥
constant_no_and opcode.Const32 e c = cc
constant_no_and opcode.Const64 e c = cc
constant_no_and _ e c = cc

ending_no_add : (o : Opcode) → is_terminal o ≡ true → is_add o ≡ true → ⊥
ending_no_add opcode.Add e c = cc
ending_no_add _ e c = cc

ending_no_shl : (o : Opcode) → is_terminal o ≡ true → is_shl o ≡ true → ⊥
ending_no_shl opcode.Shl e c = cc
ending_no_shl _ e c = cc

constant_no_add : (o : Opcode) → is_constant o ≡ true → is_add o ≡ true → ⊥
constant_no_add opcode.Const32 e c = cc
constant_no_add opcode.Const64 e c = cc
constant_no_add _ e c = cc

comparison_no_shl : (o : Opcode) → is_comparison o ≡ true → is_shl o ≡ true → ⊥
comparison_no_shl opcode.Shl e c = cc
comparison_no_shl _ e c = cc

comparison_no_add : (o : Opcode) → is_comparison o ≡ true → is_add o ≡ true → ⊥
comparison_no_add opcode.Add e c = cc
comparison_no_add _ e c = cc

and_no_shl : (o : Opcode) → is_and o ≡ true → is_shl o ≡ true → ⊥
and_no_shl opcode.BitAnd e c = cc
and_no_shl _ e c = cc

and_no_add : (o : Opcode) → is_and o ≡ true → is_add o ≡ true → ⊥
and_no_add opcode.BitAnd e c = cc
and_no_add _ e c = cc

and_no_comparison : (o : Opcode) → is_and o ≡ true → is_comparison o ≡ false
and_no_comparison opcode.BitAnd e = refl
and_no_comparison _ e = absurd cc

-- what has a condition is none of the kinds that are folded
record HasNoKind (o : Opcode) : Type 0 where
  constant : is_constant o ≡ false
  comparison : is_comparison o ≡ false
  conjunction : is_and o ≡ false
  sum : is_add o ≡ false
  shift : is_shl o ≡ false

-- which conditions fit
abbrev condition_fits : Index → Opcode → ℕ → Known → Bool
condition_fits x opcode.Branch zero k = is_comparison k.opcode || is_bit_test x k
condition_fits x opcode.Check zero k = is_comparison k.opcode || is_bit_test x k
condition_fits x opcode.Select zero k = is_comparison k.opcode
condition_fits x op at k = false

user_kind : (x : Index) (o : Opcode) (i : ℕ) (k : Known) → condition_fits x o i k ≡ true → HasNoKind o
user_kind x opcode.Branch i k e = record { constant = refl; comparison = refl; conjunction = refl; sum = refl; shift = refl }
user_kind x opcode.Check i k e = record { constant = refl; comparison = refl; conjunction = refl; sum = refl; shift = refl }
user_kind x opcode.Select i k e = record { constant = refl; comparison = refl; conjunction = refl; sum = refl; shift = refl }
user_kind x _ i k e = absurd cc

-- what fits and is no sum and no shift is a condition
no_sum_fits : (x : Index) (user : ℕ) (o : Opcode) (w : Bool) (k : Known) → pointer_of x user o w k ≡ true → (is_add k.opcode ≡ true → ⊥) → ⊥
no_sum_fits x user o w k e other =
    other (and_first (is_add k.opcode) (reaches (access_bytes x o (known x user)) w (known x user).offset (known x k.second)) e)

only_first : (x : Index) (o : Opcode) (user : ℕ) (k : Known) → first_fits x o user k ≡ true → (is_add k.opcode ≡ true → ⊥) → condition_fits x o 0 k ≡ true
only_first x opcode.Branch user k e other = e
only_first x opcode.Check user k e other = e
only_first x opcode.Select user k e other = e
only_first x opcode.Load8Z user k e other = absurd (no_sum_fits x user opcode.Load8Z false k e other)
only_first x opcode.Load8S user k e other = absurd (no_sum_fits x user opcode.Load8S false k e other)
only_first x opcode.Load16Z user k e other = absurd (no_sum_fits x user opcode.Load16Z false k e other)
only_first x opcode.Load16S user k e other = absurd (no_sum_fits x user opcode.Load16S false k e other)
only_first x opcode.Load user k e other = absurd (no_sum_fits x user opcode.Load true k e other)
only_first x _ user k e other = absurd cc

no_second_fits : (x : Index) (f : List Bool) (o : Opcode) (user : ℕ) (k : Known) → second_fits x f o user k ≡ true → (is_add k.opcode ≡ true → ⊥)
    → (is_shl k.opcode ≡ true → ⊥) → ⊥
no_second_fits x f opcode.Store8 user k e other also = no_sum_fits x user opcode.Store8 false k e other
no_second_fits x f opcode.Store16 user k e other also = no_sum_fits x user opcode.Store16 false k e other
no_second_fits x f opcode.Store user k e other also = no_sum_fits x user opcode.Store true k e other
no_second_fits x f opcode.Add user k e other also =
    also (and_first (is_shl k.opcode) (is_three (known x k.second) && not (is_constant (known x k.first).opcode))
    (and_second (is_pointer x f user) (is_index x k) e))
no_second_fits x f _ user k e other also = cc

only_condition : (x : Index) (f : List Bool) (o : Opcode) (i user : ℕ) (k : Known) → value_fits x f o i user k ≡ true → (is_add k.opcode ≡ true → ⊥)
    → (is_shl k.opcode ≡ true → ⊥) → condition_fits x o i k ≡ true
only_condition x f o zero user k e other also = only_first x o user k e other
only_condition x f o (suc zero) user k e other also = absurd (no_second_fits x f o user k e other also)
only_condition x f o (suc (suc i)) user k e other also = absurd cc

-- accesses
abbrev is_access : Opcode → Bool
is_access opcode.Load8Z = true
is_access opcode.Load8S = true
is_access opcode.Load16Z = true
is_access opcode.Load16S = true
is_access opcode.Load = true
is_access opcode.Store8 = true
is_access opcode.Store16 = true
is_access opcode.Store = true
is_access _ = false

store_kind : (o : Opcode) → is_store o ≡ true → HasNoKind o
store_kind opcode.Store8 e = record { constant = refl; comparison = refl; conjunction = refl; sum = refl; shift = refl }
store_kind opcode.Store16 e = record { constant = refl; comparison = refl; conjunction = refl; sum = refl; shift = refl }
store_kind opcode.Store e = record { constant = refl; comparison = refl; conjunction = refl; sum = refl; shift = refl }
store_kind _ e = absurd cc

access_kind : (o : Opcode) → is_access o ≡ true → HasNoKind o
access_kind opcode.Load8Z e = record { constant = refl; comparison = refl; conjunction = refl; sum = refl; shift = refl }
access_kind opcode.Load8S e = record { constant = refl; comparison = refl; conjunction = refl; sum = refl; shift = refl }
access_kind opcode.Load16Z e = record { constant = refl; comparison = refl; conjunction = refl; sum = refl; shift = refl }
access_kind opcode.Load16S e = record { constant = refl; comparison = refl; conjunction = refl; sum = refl; shift = refl }
access_kind opcode.Load e = record { constant = refl; comparison = refl; conjunction = refl; sum = refl; shift = refl }
access_kind opcode.Store8 e = record { constant = refl; comparison = refl; conjunction = refl; sum = refl; shift = refl }
access_kind opcode.Store16 e = record { constant = refl; comparison = refl; conjunction = refl; sum = refl; shift = refl }
access_kind opcode.Store e = record { constant = refl; comparison = refl; conjunction = refl; sum = refl; shift = refl }
access_kind _ e = absurd cc

-- a sum that fits is the pointer of an access
add_facts : (o : Opcode) → is_add o ≡ true → (is_comparison o ≡ false) × (is_and o ≡ false) × (is_shl o ≡ false) × (is_constant o ≡ false)
add_facts opcode.Add e = (refl, refl, refl, refl)
add_facts _ e = absurd cc

no_test : (x : Index) (k : Known) → is_and k.opcode ≡ false → is_bit_test x k ≡ true → ⊥
no_test x k none e = not_both (is_and k.opcode) (and_first (is_and k.opcode) (is_constant (known x k.second).opcode && is_bit (known x k.second).word) e) none

add_no_condition : (x : Index) (k : Known) → (is_comparison k.opcode || is_bit_test x k) ≡ true → is_add k.opcode ≡ true → ⊥
add_no_condition x k e add =
    let facts = add_facts k.opcode add in no_test x k facts.1 (sym (ap (λ b. b || is_bit_test x k) facts.0) ∙ e)

add_first : (x : Index) (o : Opcode) (user : ℕ) (k : Known) → first_fits x o user k ≡ true → is_add k.opcode ≡ true → is_access o ≡ true
add_first x opcode.Branch user k e add = absurd (add_no_condition x k e add)
add_first x opcode.Check user k e add = absurd (add_no_condition x k e add)
add_first x opcode.Select user k e add = absurd (not_both (is_comparison k.opcode) e (add_facts k.opcode add).0)
add_first x opcode.Load8Z user k e add = refl
add_first x opcode.Load8S user k e add = refl
add_first x opcode.Load16Z user k e add = refl
add_first x opcode.Load16S user k e add = refl
add_first x opcode.Load user k e add = refl
add_first x _ user k e add = absurd cc

add_second : (x : Index) (f : List Bool) (o : Opcode) (user : ℕ) (k : Known) → second_fits x f o user k ≡ true → is_add k.opcode ≡ true → is_access o ≡ true
add_second x f opcode.Store8 user k e add = refl
add_second x f opcode.Store16 user k e add = refl
add_second x f opcode.Store user k e add = refl
add_second x f opcode.Add user k e add =
    absurd (not_both (is_shl k.opcode)
    (and_first (is_shl k.opcode) (is_three (known x k.second) && not (is_constant (known x k.first).opcode))
    (and_second (is_pointer x f user) (is_index x k) e)) (add_facts k.opcode add).2)
add_second x f _ user k e add = absurd cc

-- a store stores 0 alone of constants
zero_stored : (o : Opcode) (width : Width) (word : ℕ) → is_store o ≡ true → is_immediate (first_immediates o) width word ≡ true → word ≡ 0
zero_stored o width word store fits =
    eqb-true word 0 (subst (λ (b : Bool). is_immediate (if b then OnlyZero else NoImmediate) width word ≡ true) store fits)

-- ---- the code of a use

-- an instruction of some code with a property
abbrev HasInst : List AirInst → (AirInst → Type 0) → Type 0
HasInst code Has = (n : ℕ) × (i : AirInst) × (slice_get code n ≡ Some i) × Has i

child_is : (cs : List ℕ) (i id : ℕ) → slice_get cs i ≡ Some id → child cs i ≡ id
child_is cs i id e = get_or_from_slice_get cs i id 0 e

module _ (t : Tables) (v : Value) (id : ℕ) (folded : folds t id ≡ true) where
  sum_is : (bytes : ℕ) → address_of t v id bytes ≡ sum_address t v (known t.index id)
  sum_is bytes = rw folded refl

  arg_is : arg_of t id ≡ Imm (known t.index id).word
  arg_is = rw folded refl

  computes_second : (op : AirOp) → slice_get v.children 1 ≡ Some id → HasInst (computes t v op) (HasSecond (known t.index id).word)
  computes_second op at = (
    0,
    inst v op (map (use_of t) v.children ++ result_of t v ∷ []),
    refl,
    (
      use_of t id,
      get_front (map (use_of t) v.children) (result_of t v ∷ []) 1 (use_of t id)
          (slice_get-map (use_of t) v.children 1 ∙ ap (option_map (use_of t)) at),
      arg_is,
    ),
  )

  rotates_second : slice_get v.children 1 ≡ Some id → HasInst (code_of t opcode.RotL v) (HasSecond (turned (width_of v.ty) (known t.index id).word))
  rotates_second at =
      let same : id ≡ child v.children 1 = sym (child_is v.children 1 id at) in
      by (child v.children 1) same
    where
      by : (amount : ℕ) → id ≡ amount
          → HasInst (if folds t amount then rotate_by t v (Imm (turned (width_of v.ty) (known t.index amount).word)) ∷ []
          else negative_amount t v ∷ rotate_by t v (At (first_extra t.index v.id)) ∷ []) (HasSecond (turned (width_of v.ty) (known t.index id).word))
      by amount same =
          subst (λ (a : ℕ). HasInst (if folds t a then rotate_by t v (Imm (turned (width_of v.ty) (known t.index a).word)) ∷ []
          else negative_amount t v ∷ rotate_by t v (At (first_extra t.index v.id)) ∷ []) (HasSecond (turned (width_of v.ty) (known t.index id).word))) same
          (rw folded (
            0,
            rotate_by t v (Imm (turned (width_of v.ty) (known t.index id).word)),
            refl,
            (use_at W32 (Imm (turned (width_of v.ty) (known t.index id).word)), refl, refl),
          ))

  -- an opcode that may have an immediate carries it
  carries_second : (o : Opcode) (width : Width) (word : ℕ) → is_immediate (second_immediates o) width word ≡ true → slice_get v.children 1 ≡ Some id
      → HasInst (code_of t o v) (HasSecond (carried_word o v.ty (known t.index id).word))
  carries_second opcode.RotL width word e at = rotates_second at
  carries_second opcode.Add width word e at = computes_second (op_of opcode.Add) at
  carries_second opcode.BitAnd width word e at = computes_second (op_of opcode.BitAnd) at
  carries_second opcode.BitOr width word e at = computes_second (op_of opcode.BitOr) at
  carries_second opcode.BitXor width word e at = computes_second (op_of opcode.BitXor) at
  carries_second opcode.Shl width word e at = computes_second (op_of opcode.Shl) at
  carries_second opcode.SShr width word e at = computes_second (op_of opcode.SShr) at
  carries_second opcode.ZShr width word e at = computes_second (op_of opcode.ZShr) at
  carries_second opcode.RotR width word e at = computes_second (op_of opcode.RotR) at
  carries_second opcode.Equal width word e at = computes_second (op_of opcode.Equal) at
  carries_second opcode.NotEqual width word e at = computes_second (op_of opcode.NotEqual) at
  carries_second opcode.LessThan width word e at = computes_second (op_of opcode.LessThan) at
  carries_second opcode.GreaterThan width word e at = computes_second (op_of opcode.GreaterThan) at
  carries_second opcode.LessEqual width word e at = computes_second (op_of opcode.LessEqual) at
  carries_second opcode.GreaterEqual width word e at = computes_second (op_of opcode.GreaterEqual) at
  carries_second opcode.Above width word e at = computes_second (op_of opcode.Above) at
  carries_second opcode.Below width word e at = computes_second (op_of opcode.Below) at
  carries_second opcode.AboveEqual width word e at = computes_second (op_of opcode.AboveEqual) at
  carries_second opcode.BelowEqual width word e at = computes_second (op_of opcode.BelowEqual) at
  carries_second _ width word e at = absurd cc

  -- a store carries the 0 that it stores
  store_first : (air_op : AirOp) (extent : Extent) → slice_get v.children 0 ≡ Some id → (known t.index id).word ≡ 0
      → HasInst (store_of t v air_op extent) (HasFirst 0)
  store_first air_op extent at none =
      let from = child v.children 0 in
      let width = width_at t.index from in
      let pointer = child v.children 1 in
      let bytes = extent_bytes extent width in
      let before = before_access t v pointer bytes in
      let last : AirInst = access v air_op (use_of t from ∷ use_at width (address_of t v pointer bytes) ∷ []) in (
        length before + 0,
        last,
        get_behind before (last ∷ []) 0,
        (use_of t from, refl, ap (arg_of t) (child_is v.children 0 id at) ∙ arg_is ∙ ap Imm none),
      )

  carries_first : (o : Opcode) → is_store o ≡ true → slice_get v.children 0 ≡ Some id → (known t.index id).word ≡ 0 → HasInst (code_of t o v) (HasFirst 0)
  carries_first opcode.Store8 e at none = store_first op.Store8 Byte at none
  carries_first opcode.Store16 e at none = store_first op.Store16 Half at none
  carries_first opcode.Store e at none = store_first op.Store Whole at none
  carries_first _ e at none = absurd cc

  -- an access carries the sum that is its pointer
  load_address : (air_op : AirOp) (extent : Extent) → slice_get v.children 0 ≡ Some id
      → HasInst (load_of t v air_op extent) (HasAddress (sum_address t v (known t.index id)))
  load_address air_op extent at =
      let pointer = child v.children 0 in
      let width = width_of v.ty in
      let bytes = extent_bytes extent width in
      let before = before_access t v pointer bytes in
      let address = use_at width (address_of t v pointer bytes) in
      let last : AirInst = access v air_op (address ∷ result_of t v ∷ []) in (
        length before + 0,
        last,
        get_behind before (last ∷ []) 0,
        (0, address, refl, ap (λ n. address_of t v n bytes) (child_is v.children 0 id at) ∙ sum_is bytes),
      )

  store_address : (air_op : AirOp) (extent : Extent) → slice_get v.children 1 ≡ Some id
      → HasInst (store_of t v air_op extent) (HasAddress (sum_address t v (known t.index id)))
  store_address air_op extent at =
      let from = child v.children 0 in
      let width = width_at t.index from in
      let pointer = child v.children 1 in
      let bytes = extent_bytes extent width in
      let before = before_access t v pointer bytes in
      let address = use_at width (address_of t v pointer bytes) in
      let last : AirInst = access v air_op (use_of t from ∷ address ∷ []) in (
        length before + 0,
        last,
        get_behind before (last ∷ []) 0,
        (1, address, refl, ap (λ n. address_of t v n bytes) (child_is v.children 1 id at) ∙ sum_is bytes),
      )

  carries_first_sum : (o : Opcode) → first_fits t.index o v.id (known t.index id) ≡ true → is_access o ≡ true → slice_get v.children 0 ≡ Some id
      → HasInst (code_of t o v) (HasAddress (sum_address t v (known t.index id)))
  carries_first_sum opcode.Load8Z e is at = load_address op.Load8Z Byte at
  carries_first_sum opcode.Load8S e is at = load_address op.Load8S Byte at
  carries_first_sum opcode.Load16Z e is at = load_address op.Load16Z Half at
  carries_first_sum opcode.Load16S e is at = load_address op.Load16S Half at
  carries_first_sum opcode.Load e is at = load_address op.Load Whole at
  carries_first_sum _ e is at = absurd cc

  carries_second_sum : (f : List Bool) (o : Opcode) → second_fits t.index f o v.id (known t.index id) ≡ true → is_access o ≡ true
      → slice_get v.children 1 ≡ Some id
      → HasInst (code_of t o v) (HasAddress (sum_address t v (known t.index id)))
  carries_second_sum f opcode.Store8 e is at = store_address op.Store8 Byte at
  carries_second_sum f opcode.Store16 e is at = store_address op.Store16 Half at
  carries_second_sum f opcode.Store e is at = store_address op.Store Whole at
  carries_second_sum f _ e is at = absurd cc

  carries_sum : (f : List Bool) (o : Opcode) (i : ℕ) → value_fits t.index f o i v.id (known t.index id) ≡ true → is_add (known t.index id).opcode ≡ true
      → slice_get v.children i ≡ Some id → (is_access o ≡ true) × HasInst (code_of t o v) (HasAddress (sum_address t v (known t.index id)))
  carries_sum f o zero e add at =
      let is = add_first t.index o v.id (known t.index id) e add in (is, carries_first_sum o e is at)
  carries_sum f o (suc zero) e add at =
      let is = add_second t.index f o v.id (known t.index id) e add in (is, carries_second_sum f o e is at)
  carries_sum f o (suc (suc i)) e add at = absurd cc

  -- the condition of a comparison, and of a bit
  abbrev comparing : Known → Condition
  comparing k = record { test = Compare (condition k.opcode); over = use_of t k.first ∷ use_of t k.second ∷ [] }

  abbrev bit_testing : Known → Condition
  bit_testing k = record { test = Bit (bit_of (known t.index k.second).word); over = use_of t k.first ∷ [] }

  compares : is_comparison (known t.index id).opcode ≡ true → condition_of t id ≡ comparing (known t.index id)
  compares e = rw (folded, e) refl

  tests_bit : is_comparison (known t.index id).opcode ≡ false → condition_of t id ≡ bit_testing (known t.index id)
  tests_bit e = rw (folded, e) refl

  abbrev Compared : Known → AirInst → Type 0
  Compared k i = (test_in i.op ≡ Compare (condition k.opcode) ∷ []) × (take 2 i.operands ≡ use_of t k.first ∷ use_of t k.second ∷ [])

  -- the code of a check ends with the instruction of its condition
  checks_on : (c : Condition) (Has : AirInst → Type 0) → Has (site_inst v (op.CheckIf c.test) c.over (reported_behind t 1 v) [])
      → HasInst (check_on t v c) Has
  checks_on c Has has =
      let moves = child_moves v (reported_behind t 1 v) in
      let last : AirInst = site_inst v (op.CheckIf c.test) c.over (reported_behind t 1 v) [] in
      (length moves + 0, last, get_behind moves (last ∷ []) 0, has)

  carries_comparison : (o : Opcode) (i : ℕ) → condition_fits t.index o i (known t.index id) ≡ true → is_comparison (known t.index id).opcode ≡ true
      → slice_get v.children i ≡ Some id → HasInst (code_of t o v) (Compared (known t.index id))
  carries_comparison opcode.Branch zero e is at =
      let c : condition_of t (child v.children 0) ≡ comparing (known t.index id) = ap (condition_of t) (child_is v.children 0 id at) ∙ compares is in
      subst (λ (d : Condition). HasInst (branch_on t v d) (Compared (known t.index id))) (sym c)
      (0, inst v (op.BranchIf (comparing (known t.index id)).test) (comparing (known t.index id)).over, refl, (refl, refl))
  carries_comparison opcode.Select zero e is at =
      let c : condition_of t (child v.children 0) ≡ comparing (known t.index id) = ap (condition_of t) (child_is v.children 0 id at) ∙ compares is in
      subst (λ (d : Condition). HasInst (select_on t v d) (Compared (known t.index id))) (sym c) (
        0,
        inst v (op.SelectIf (comparing (known t.index id)).test)
            ((comparing (known t.index id)).over ++ use_of t (child v.children 1) ∷ use_of t (child v.children 2) ∷ result_of t v ∷ []),
        refl,
        (refl, refl),
      )
  carries_comparison opcode.Check zero e is at =
      let c : condition_of t (child v.children 0) ≡ comparing (known t.index id) = ap (condition_of t) (child_is v.children 0 id at) ∙ compares is in
      subst (λ (d : Condition). HasInst (check_on t v d) (Compared (known t.index id))) (sym c)
      (checks_on (comparing (known t.index id)) (Compared (known t.index id)) (refl, refl))
  carries_comparison opcode.Branch (suc i) e is at = absurd cc
  carries_comparison opcode.Check (suc i) e is at = absurd cc
  carries_comparison opcode.Select (suc i) e is at = absurd cc
  carries_comparison _ i e is at = absurd cc

  abbrev BitTested : Known → AirInst → Type 0
  BitTested k i =
      (is_bit (known t.index k.second).word ≡ true) × (test_in i.op ≡ Bit (bit_of (known t.index k.second).word) ∷ [])
      × (take 1 i.operands ≡ use_of t k.first ∷ [])

  -- what fits as a condition and is a conjunction is the test of a bit
  bit_fits : (is_comparison (known t.index id).opcode || is_bit_test t.index (known t.index id)) ≡ true → is_and (known t.index id).opcode ≡ true
      → slice_get v.children 0 ≡ Some id
      → (is_bit (known t.index (known t.index id).second).word ≡ true) × (condition_of t (child v.children 0) ≡ bit_testing (known t.index id))
  bit_fits e is at =
      let k = known t.index id in
      let other : is_comparison k.opcode ≡ false = and_no_comparison k.opcode is in
      let test : is_bit_test t.index k ≡ true = sym (ap (λ b. b || is_bit_test t.index k) other) ∙ e in
      let second : (is_constant (known t.index k.second).opcode && is_bit (known t.index k.second).word) ≡ true =
      and_second (is_and k.opcode) (is_constant (known t.index k.second).opcode && is_bit (known t.index k.second).word) test in (
        and_second (is_constant (known t.index k.second).opcode) (is_bit (known t.index k.second).word) second,
        ap (condition_of t) (child_is v.children 0 id at) ∙ tests_bit other,
      )

  carries_bit : (o : Opcode) (i : ℕ) → condition_fits t.index o i (known t.index id) ≡ true → is_and (known t.index id).opcode ≡ true
      → slice_get v.children i ≡ Some id → HasInst (code_of t o v) (BitTested (known t.index id))
  carries_bit opcode.Branch zero e is at =
      let k = known t.index id in
      let fits = bit_fits e is at in
      subst (λ (d : Condition). HasInst (branch_on t v d) (BitTested k)) (sym fits.1)
      (0, inst v (op.BranchIf (bit_testing k).test) (bit_testing k).over, refl, (fits.0, refl, refl))
  carries_bit opcode.Check zero e is at =
      let k = known t.index id in
      let fits = bit_fits e is at in
      subst (λ (d : Condition). HasInst (check_on t v d) (BitTested k)) (sym fits.1)
      (checks_on (bit_testing k) (BitTested k) (fits.0, refl, refl))
  carries_bit opcode.Select zero e is at = absurd (not_both (is_comparison (known t.index id).opcode) e (and_no_comparison (known t.index id).opcode is))
  carries_bit opcode.Branch (suc i) e is at = absurd cc
  carries_bit opcode.Check (suc i) e is at = absurd cc
  carries_bit opcode.Select (suc i) e is at = absurd cc
  carries_bit _ i e is at = absurd cc

-- ---- the children of a comparison

two_listed : (ty : ℕ → Ty) (alike : Ty) (a b : Takes) (cs : List ℕ) → AreTaken alike (a ∷ b ∷ []) NoMore (map ty cs) → cs ≡ child cs 0 ∷ child cs 1 ∷ []
two_listed ty alike a b [] taken = absurd taken
two_listed ty alike a b (c ∷ []) taken = absurd taken.1
two_listed ty alike a b (c ∷ d ∷ []) taken = refl
two_listed ty alike a b (c ∷ d ∷ e ∷ cs) taken = absurd (let none : ty e ∷ map ty cs ≡ [] = taken.1.1 in cc)

two_children : (ty : ℕ → Ty) (o : Opcode) (is : Ty) (cs : List ℕ) → is_comparison o ≡ true → AllowsTypes o is (map ty cs) → cs ≡ child cs 0 ∷ child cs 1 ∷ []
two_children ty opcode.Equal is cs e h = two_listed ty h.alike Alike Alike cs h.children
two_children ty opcode.NotEqual is cs e h = two_listed ty h.alike Alike Alike cs h.children
two_children ty opcode.LessThan is cs e h = two_listed ty h.alike Alike Alike cs h.children
two_children ty opcode.GreaterThan is cs e h = two_listed ty h.alike Alike Alike cs h.children
two_children ty opcode.LessEqual is cs e h = two_listed ty h.alike Alike Alike cs h.children
two_children ty opcode.GreaterEqual is cs e h = two_listed ty h.alike Alike Alike cs h.children
two_children ty opcode.Above is cs e h = two_listed ty h.alike Alike Alike cs h.children
two_children ty opcode.Below is cs e h = two_listed ty h.alike Alike Alike cs h.children
two_children ty opcode.AboveEqual is cs e h = two_listed ty h.alike Alike Alike cs h.children
two_children ty opcode.BelowEqual is cs e h = two_listed ty h.alike Alike Alike cs h.children
two_children ty _ is cs e h = absurd cc

-- ---- the whole

-- the last value of a block is a terminal
last_stands : (vs : List Value) → EndsBlock vs → (j : ℕ) × (v : Value) × (slice_get vs j ≡ Some v) × (v.id ≡ last_id vs) × (is_terminal v.kind.opcode ≡ true)
last_stands [] ends = absurd ends
last_stands (v ∷ []) ends = (0, v, refl, refl, ends)
last_stands (v ∷ w ∷ vs) ends = let more = last_stands (w ∷ vs) ends.1 in (suc more.0, more.1, more.2, more.3, more.4)

module _ (p : Procedure) (valid : IsValidProcedure p) (fit : AllFit p.blocks) where
  folds_at : (b j : ℕ) (v : Value) → StandsAt p b j v → folds (tables p) v.id ≡ is_foldable p v.id
  folds_at b j v at =
      let there = row_get p.blocks b j v at in
      let below : place_among (ids_of p) v.id < length (ids_of p) =
      omega (arith, place_is p valid b j v at, slice_get_within (all_values p) _ v there, length-map (all_values p) (λ (w : Value). w.id)) in
      get_or_from_slice_get (map (is_foldable p) (ids_of p)) (place_among (ids_of p) v.id) (is_foldable p v.id) false
      (slice_get-map (is_foldable p) (ids_of p) (place_among (ids_of p) v.id) ∙ ap (option_map (is_foldable p)) (at_place (ids_of p) v.id below))

  ending_unfolded : (b j : ℕ) (v : Value) → StandsAt p b j v → is_terminal v.kind.opcode ≡ true → is_foldable p v.id ≡ false
  ending_unfolded b j v at ends = by (is_foldable p v.id) refl
    where
      by : (c : Bool) → is_foldable p v.id ≡ c → is_foldable p v.id ≡ false
      by false e = e
      by true e =
          absurd (elim (foldable_kind (index_of p) (pointers p) (uses p) v.id (known_in b v) (known_is p valid b j v at) e) [
            | inl constant ↦ ending_no_constant v.kind.opcode ends constant
            | inr other ↦ elim other [
              | inl comparison ↦ ending_no_comparison v.kind.opcode ends comparison
              | inr (inl bit) ↦
                  ending_no_and v.kind.opcode ends
                  (and_first (is_and v.kind.opcode)
                  (is_constant (known (index_of p) (child v.children 1)).opcode && is_bit (known (index_of p) (child v.children 1)).word) bit)
              | inr (inr (inl sum)) ↦ ending_no_add v.kind.opcode ends sum
              | inr (inr (inr shift)) ↦ ending_no_shl v.kind.opcode ends shift
            ]
          ])

  none_made : NoneIsMade p (selected p)
  unfolding selected_by block_code
  none_made zero place i at =
      let of : entry_of (index_of p) (values_of p 0) ≡ at.of = (let e = at.block_there in cc) in
      let there : slice_get (entry_of (index_of p) (values_of p 0)).insts place ≡ Some i =
      subst (λ (b : AirBlock). slice_get b.insts place ≡ Some i) (sym of) at.inst_there in
      let value : i.value ≡ last_id (values_of p 0) =
      All-at (IsFor (last_id (values_of p 0))) (entry_of (index_of p) (values_of p 0)).insts place i (entry_for (index_of p) (values_of p 0)) there in
      let kept = is_kept p valid fit in
      let last = last_stands (values_of p 0) (kept.ends 0 kept.some) in
      ap (is_foldable p) (value ∙ sym last.3) ∙ ending_unfolded 0 last.0 last.1 last.2 last.4
  none_made (suc b) place i at =
      let t = tables p in
      let block = mapped (block_code t) (slice_get p.blocks b) at.of (sym (slice_get-map (block_code t) p.blocks b) ∙ at.block_there) in
      let of : Block = block.0 in
      let there : slice_get (flat_map (value_code t) of.values) place ≡ Some i =
      subst (λ (x : AirBlock). slice_get x.insts place ≡ Some i) (sym block.2) at.inst_there in
      let piece = flat_found (value_code t) of.values place i there in
      let v : Value = piece.part in
      let values : values_of p b ≡ of.values = ap (λ (x : Block). x.values) (get_or_from_slice_get p.blocks b of no_block block.1) in
      let stands_at : StandsAt p b piece.at v = subst (λ (vs : List Value). slice_get vs piece.at ≡ Some v) (sym values) piece.there in
      let value : i.value ≡ v.id = All-at (IsFor v.id) (value_code t v) piece.within i (made_for t v) piece.here in
      ap (is_foldable p) value ∙ sym (folds_at b piece.at v stands_at) ∙ unfolded_by t v piece.within i piece.here

  -- an instruction of a value's code stands in the block
  made : (b j : ℕ) (v : Value) (Has : AirInst → Type 0) → StandsAt p b j v → folds (tables p) v.id ≡ false
      → HasInst (code_of (tables p) v.kind.opcode v) Has → IsMade (selected p) b v Has
  unfolding selected_by block_code
  made b j v Has at unfolded has =
      let t = tables p in
      let of : Block = slice_index_or p.blocks b no_block in
      let there = slice_get-get_or p.blocks b no_block (in_blocks p.blocks b j v at) in
      let here : slice_get (value_code t v) has.0 ≡ Some has.1 = ap (λ l. slice_get l has.0) (code_is t v unfolded) ∙ has.2 in (
        length (flat_map (value_code t) (take j (values_of p b))) + has.0,
        has.1,
        record {
          of = block_code t of;
          block_there = slice_get-map (block_code t) p.blocks b ∙ ap (option_map (block_code t)) there;
          inst_there = flat_get (value_code t) (values_of p b) j v has.0 has.1 at here;
        },
        All-at (IsFor v.id) (value_code t v) has.0 has.1 (made_for t v) here,
        has.3,
      )

  abbrev index : Index
  index = index_of p

  -- the constant of a sum that isn't folded is an immediate
  in_no_sum : (o : Opcode) (user : ℕ) → (is_add o ≡ true → is_pointer index (pointers p) user ≡ false) → sum_fits index (pointers p) o 1 user ≡ true → ⊥
  in_no_sum opcode.Add user free e = not_both (is_pointer index (pointers p) user) e (free refl)
  in_no_sum _ user free e = cc

  first_no_sum : (o : Opcode) (user : ℕ) → sum_fits index (pointers p) o 0 user ≡ true → ⊥
  first_no_sum opcode.Add user e = cc
  first_no_sum _ user e = cc

  constants : CarriesConstants p (selected p)
  constants b j c m v k at at_k unfolded constant folded child_at =
      let t = tables p in
      let k_folds : folds t k.id ≡ true = folds_at c m k at_k ∙ folded in
      let is = known_is p valid c m k at_k in
      let fit = (sound p valid).uses_fit b 1 k.id v (Contains-at (values_of p b) j v at) child_at k_folds in
      let has : HasInst (code_of t v.kind.opcode v) (HasSecond (carried_word v.kind.opcode v.ty (known index k.id).word)) =
      elim (fit_cases t (pointers p) b v.kind.opcode 1 v.id k.id fit) [
        | inl h ↦ carries_second t v k.id k_folds v.kind.opcode (width_of (known index k.id).ty) (known index k.id).word h.fits child_at
        | inr (inl h) ↦
            absurd (in_no_sum v.kind.opcode v.id (λ add. (sound p valid).pointer b v (Contains-at (values_of p b) j v at) add ∙ folds_at b j v at
            ∙ unfolded) h.fits)
        | inr (inr h) ↦ absurd (not_both (is_constant (known index k.id).opcode) (ap (λ (w : Known). is_constant w.opcode) is ∙ constant) h.constant)
      ] in
      subst (λ (w : Known). IsMade (selected p) b v (HasSecond (carried_word v.kind.opcode v.ty w.word))) is
      (made b j v (HasSecond (carried_word v.kind.opcode v.ty (known index k.id).word)) at (folds_at b j v at ∙ unfolded) has)

  -- what has a condition is not folded
  user_unfolded : (b j : ℕ) (v : Value) → StandsAt p b j v → HasNoKind v.kind.opcode → folds (tables p) v.id ≡ false
  user_unfolded b j v at h = by (folds (tables p) v.id) refl
    where
      by : (c : Bool) → folds (tables p) v.id ≡ c → folds (tables p) v.id ≡ false
      by false e = e
      by true e =
          absurd (elim ((sound p valid).kinds b v (Contains-at (values_of p b) j v at) e) [
            | inl constant ↦ not_both (is_constant v.kind.opcode) constant h.constant
            | inr other ↦ elim other [
              | inl comparison ↦ not_both (is_comparison v.kind.opcode) comparison h.comparison
              | inr (inr (inl sum)) ↦ not_both (is_add v.kind.opcode) sum h.sum
              | inr (inr (inr shift)) ↦ not_both (is_shl v.kind.opcode) shift h.shift
              | inr (inl bit) ↦
                  not_both (is_and v.kind.opcode)
                  (and_first (is_and v.kind.opcode)
                  (is_constant (known (index_of p) (child v.children 1)).opcode && is_bit (known (index_of p) (child v.children 1)).word) bit) h.conjunction
            ]
          ])

  stored : CarriesStored p (selected p)
  stored b j c m v k at at_k store constant folded child_at =
      let t = tables p in
      let k_folds : folds t k.id ≡ true = folds_at c m k at_k ∙ folded in
      let is = known_is p valid c m k at_k in
      let fit = (sound p valid).uses_fit b 0 k.id v (Contains-at (values_of p b) j v at) child_at k_folds in
      let has : HasInst (code_of t v.kind.opcode v) (HasFirst 0) =
      elim (fit_cases t (pointers p) b v.kind.opcode 0 v.id k.id fit) [
        | inl h ↦
            carries_first t v k.id k_folds v.kind.opcode store child_at
            (zero_stored v.kind.opcode (width_at index k.id) (known index k.id).word store h.fits)
        | inr (inl h) ↦ absurd (first_no_sum v.kind.opcode v.id h.fits)
        | inr (inr h) ↦ absurd (not_both (is_constant (known index k.id).opcode) (ap (λ (w : Known). is_constant w.opcode) is ∙ constant) h.constant)
      ] in
      made b j v (HasFirst 0) at (user_unfolded b j v at (store_kind v.kind.opcode store)) has

  -- how a child that is no constant fits
  as_value : (b j c m i : ℕ) (v k : Value) → StandsAt p b j v → StandsAt p c m k → (is_constant k.kind.opcode ≡ true → ⊥)
      → folds (tables p) k.id ≡ true → slice_get v.children i ≡ Some k.id → value_fits index (pointers p) v.kind.opcode i v.id (known index k.id) ≡ true
  as_value b j c m i v k at at_k other folded child_at =
      let fit = (sound p valid).uses_fit b i k.id v (Contains-at (values_of p b) j v at) child_at folded in
      let is = ap (λ (w : Known). is_constant w.opcode) (known_is p valid c m k at_k) in
      elim (fit_cases (tables p) (pointers p) b v.kind.opcode i v.id k.id fit) [
        | inl h ↦ absurd (other (sym is ∙ h.constant))
        | inr (inl h) ↦ absurd (other (sym is ∙ h.constant))
        | inr (inr h) ↦ h.fits
      ]

  as_condition : (b j c m i : ℕ) (v k : Value) → StandsAt p b j v → StandsAt p c m k → (is_constant k.kind.opcode ≡ true → ⊥)
      → (is_add k.kind.opcode ≡ true → ⊥) → (is_shl k.kind.opcode ≡ true → ⊥)
      → folds (tables p) k.id ≡ true → slice_get v.children i ≡ Some k.id → condition_fits index v.kind.opcode i (known index k.id) ≡ true
  as_condition b j c m i v k at at_k other no_sum no_shift folded child_at =
      let is = known_is p valid c m k at_k in
      only_condition index (pointers p) v.kind.opcode i v.id (known index k.id) (as_value b j c m i v k at at_k other folded child_at)
      (λ e. no_sum (sym (ap (λ (w : Known). is_add w.opcode) is) ∙ e)) (λ e. no_shift (sym (ap (λ (w : Known). is_shl w.opcode) is) ∙ e))

  child_place : (v : Value) (id : ℕ) → Contains v.children id → (i : ℕ) × (slice_get v.children i ≡ Some id)
  child_place v id has = (has.0, slice_get-get_or v.children has.0 id has.1 ∙ ap Some has.2)

  comparisons : CarriesComparisons p (selected p)
  comparisons b j c m v k at at_k comparison folded has =
      let t = tables p in
      let k_folds : folds t k.id ≡ true = folds_at c m k at_k ∙ folded in
      let is = known_is p valid c m k at_k in
      let i = child_place v k.id has in
      let fit = as_condition b j c m i.0 v k at at_k (λ constant. constant_no_comparison k.kind.opcode constant comparison)
      (λ add. comparison_no_add k.kind.opcode comparison add) (λ shift. comparison_no_shl k.kind.opcode comparison shift) k_folds i.1 in
      let inst_has = carries_comparison t v k.id k_folds v.kind.opcode i.0 fit (ap (λ (w : Known). is_comparison w.opcode) is ∙ comparison) i.1 in
      let cut = split_at (values_of p c) m k at_k in
      let rules = (is_kept p valid fit_all).rules c (take m (values_of p c)) k (cut.0, cut.1) in
      let two = two_children (type_of p) k.kind.opcode k.ty k.children comparison (allowed k.kind.opcode k.ty (types_of p k) rules.typed) in
      made b j v (TestsComparison p k) at (user_unfolded b j v at (user_kind index v.kind.opcode i.0 (known index k.id) fit)) (
        inst_has.0,
        inst_has.1,
        inst_has.2,
        (
          inst_has.3.0 ∙ ap (λ (w : Known). Compare (condition w.opcode) ∷ []) is,
          inst_has.3.1 ∙ ap (λ (w : Known). use_of t w.first ∷ use_of t w.second ∷ []) is ∙ ap (map (use_of t)) (sym two),
        ),
      )
    where
      fit_all : AllFit p.blocks
      fit_all = fit

  bits : CarriesBits p (selected p)
  bits b j c m d n v k w x at at_k conjunction folded has children at_w =
      let t = tables p in
      let k_folds : folds t k.id ≡ true = folds_at c m k at_k ∙ folded in
      let is = known_is p valid c m k at_k in
      let i = child_place v k.id has in
      let fits_so = as_condition b j c m i.0 v k at at_k (λ constant. constant_no_and k.kind.opcode constant conjunction)
      (λ add. and_no_add k.kind.opcode conjunction add) (λ shift. and_no_shl k.kind.opcode conjunction shift) k_folds i.1 in
      let inst_has = carries_bit t v k.id k_folds v.kind.opcode i.0 fits_so (ap (λ (z : Known). is_and z.opcode) is ∙ conjunction) i.1 in
      let first : (known index k.id).first ≡ x = ap (λ (z : Known). z.first) is ∙ ap (λ l. child l 0) children in
      let second : (known index k.id).second ≡ w.id = ap (λ (z : Known). z.second) is ∙ ap (λ l. child l 1) children in
      let word : (known index (known index k.id).second).word ≡ word_in w.body =
      ap (λ z. (known index z).word) second ∙ ap (λ (z : Known). z.word) (known_is p valid d n w at_w) in
      made b j v (TestsBit p x (word_in w.body)) at (user_unfolded b j v at (user_kind index v.kind.opcode i.0 (known index k.id) fits_so)) (
        inst_has.0,
        inst_has.1,
        inst_has.2,
        (
          bit_of (word_in w.body),
          eqb-true (2 ^ bit_of (word_in w.body)) (word_in w.body) (subst (λ z. is_bit z ≡ true) word inst_has.3.0),
          inst_has.3.1 ∙ ap (λ z. Bit (bit_of z) ∷ []) word,
          inst_has.3.2 ∙ ap (λ z. use_of t z ∷ []) first,
        ),
      )

  sums : CarriesSums p (selected p)
  sums b j c m v k at at_k add folded has =
      let t = tables p in
      let k_folds : folds t k.id ≡ true = folds_at c m k at_k ∙ folded in
      let is = known_is p valid c m k at_k in
      let i = child_place v k.id has in
      let fit = as_value b j c m i.0 v k at at_k (λ constant. constant_no_add k.kind.opcode constant add) k_folds i.1 in
      let carried = carries_sum t v k.id k_folds (pointers p) v.kind.opcode i.0 fit (ap (λ (w : Known). is_add w.opcode) is ∙ add) i.1 in
      made b j v (HasAddress (sum_address t v (known_in c k))) at (user_unfolded b j v at (access_kind v.kind.opcode carried.0))
      (subst (λ (w : Known). HasInst (code_of t v.kind.opcode v) (HasAddress (sum_address t v w))) is carried.1)

  pub is_folded : IsFolded p (selected p)
  is_folded = record { none = none_made; constants = constants; stored = stored; sums = sums; comparisons = comparisons; bits = bits }
