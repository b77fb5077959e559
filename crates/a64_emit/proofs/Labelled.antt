-- Emitted code is well labelled.
use Rattle.std.proofs.Common.{◌≡◌, ℕ, zero, suc, ◌+◌, ◌-◌, ◌/◌, ◌%◌, ◌^◌, ◌<◌, ◌≤◌, ◌⊎◌, Bool, true, false, ⊎_elim, List, [], ◌∷◌, ◌++◌, length, get_or, refl, sym, subst, arith}
use Rattle.std.specs.Prelude.{All, nat_eq, nat_le, nat_lt, if◌then◌else◌, sum_by}
use Rattle.std.proofs.lemmas.Bool.{cases_lt, leb-true}
use Rattle.std.proofs.lemmas.Int.{ints}
use Rattle.std.proofs.lemmas.List.Elements.{All-cons, All-head, All-nil, All-tail}
use Rattle.std.proofs.lemmas.List.Sums.{sum_by-cons}
use Rattle.b3_base.proofs.Widths.{bits-pos}
use Rattle.b3_meaning.specs.declared.role.Checked.{Checked}
use Rattle.b3_meaning.specs.declared.role.Checked.TheVariants.{Sum, Difference, Product}
use Rattle.a64_checked.specs.Checks.{comparing, making, passing}
use Rattle.air_ir.specs.Meaning.{case_number}
use Rattle.a64_inst.specs.declared.inst.Cond.TheVariants.{Eq, Hi}
use Rattle.b3_base.specs.Word.{bits}
use Rattle.b3_base.specs.declared.word.Width.{Width}
use Rattle.b3_base.specs.declared.word.Width.TheVariants.{W32, W64}
use Rattle.exit_table.specs.Good.{IsGoodSaved}
use Rattle.stackmap.specs.declared.site.SavedRow.{SavedRow}
use Rattle.a64_inst.specs.WellFormed.{IsReg, IsWellFormed, last_half}
use Rattle.a64_inst.specs.declared.inst.AccessKind.TheVariants.{LdrX, StrX}
use Rattle.a64_inst.specs.declared.inst.Inst.{Inst}
use Rattle.a64_inst.specs.declared.inst.Inst.TheVariants.{AddSubReg, Access, AddSubImm}
use Rattle.a64_inst.specs.declared.item.Item.{Item}
use Rattle.a64_inst.specs.declared.item.Item.TheVariants.{If, IfBit, IfZero, Jump, Label, Mark, Plain}
use Rattle.air_ir.specs.declared.op.AirOp.{AirOp}
use Rattle.air_ir.specs.declared.op.AirOp.TheVariants as op
use Rattle.air_ir.specs.declared.op.Test.{Test}
use Rattle.air_ir.specs.declared.op.Test.TheVariants.{Compare, NonZero, Bit}
use Rattle.air_ir.specs.declared.operand.Arg.{Arg}
use Rattle.air_ir.specs.declared.operand.Arg.TheVariants.{At, Imm, Addr, Index, FrameSlot}
use Rattle.air_ir.specs.declared.operand.Home.{Home}
use Rattle.air_ir.specs.declared.operand.Home.TheVariants.{Reg, Spill, Tmp}
use Rattle.air_ir.specs.declared.operand.Operand.{Operand}
use Rattle.air_ir.specs.declared.operand.Role.{Role}
use Rattle.air_ir.specs.declared.operand.Role.TheVariants.{Use, LateUse, EarlyDef, Def, Clobber}
use Rattle.air_ir.specs.WellFormed.{IsGoodBlock, IsGoodInst, MayName, NamesOwn, IsWellFormed as IsGoodProc}
use Rattle.air_shuffle.specs.Sequenced.{sequenced}
use Rattle.air_shuffle.specs.declared.moves.Move.{Move}
use Rattle.a64_emit.proofs.Fits.{fitting}
use Rattle.a64_emit.proofs.ShuffleMoves.{all_made, sequence_of}
use Rattle.air_ir.specs.declared.procedure.AirBlock.{AirBlock}
use Rattle.air_ir.specs.declared.procedure.AirInst.{AirInst}
use Rattle.air_ir.specs.declared.procedure.AirProc.{AirProc}
use Rattle.a64_code.specs.Accesses.{access_kind, below_x29, upper}
use Rattle.air_ir.specs.Kinds.{kind_of}
use Rattle.a64_emit.specs.Code.{arg_at, block_exits, block_labels, block_marks, blocks_exits, blocks_items, exits_by, exits_of, has_exit, inner_marks, inst_exits, insts_exits, branch_item, branches, compared, compute_code, copy_reg, bring, emitted, fetch, fetch_address, fetch_below, fetch_stored, fetch_tested, frame_address, inner_items, inst_code, inst_items, insts_items, labels_of, load_code, load_inst, load_items, marks_of, own_labels, put_result, result_at, result_reg, slot_offset, source_at, source_of, store_code, store_inst, store_items, test_at, test_count, width_at, with_mark, breaks, call_inst, guarded, fetch_checked, make_checked, checked_items, copies_code, home_of, kept_register, moves_of, shuffle_code}
use Rattle.a64_code.specs.Computing.{computing, move_reg, reg_of, sum_with, is_sum_word}
use Rattle.a64_code.specs.Constants.{constant, filling, half_count, half_move, half_moves, half_word, is_inverted}
use Rattle.a64_code.specs.Fitting.{IsComputed, IsTested}
use Rattle.a64_emit.specs.Fitting.{AreOrderable, IsFitting, IsLoaded, IsStored}
use Rattle.a64_code.specs.Places.{above_sp, epilogue, leave, load_at, lower_sp, plains, prologue, restores, saves, spill_offset, store_at, unless_zero}
use Rattle.a64_emit.specs.Switched.{case_items, case_of, cases_in_order, compare_word, jump_to, search_items, sorted_words, switch_items}
use Rattle.a64_emit.specs.Trees.{Leaf, Node, Tree, node_count, tree}
use Rattle.a64_emit.specs.declared.case.Case.{Case}
use Rattle.a64_code.specs.declared.source.Source.{Source}
use Rattle.a64_code.specs.declared.source.Source.TheVariants.{Constant, InReg}
use Rattle.a64_emit.proofs.AccessesWell.{HasSmallHomes, IsSmallHome, access_well}
use Rattle.a64_emit.proofs.LabelCounts.{all_labels}
use Rattle.a64_emit.proofs.Sorting.{each_map, search_labels, sorted_small}
use Rattle.a64_emit.proofs.Trees.{Each, each_append, each_left, each_right, each_weaker, in_order, tree_order}
use Rattle.a64_emit.proofs.Shapes.{computing_plain, move_plain, sum_plain, testing_plain}
use Rattle.air_ir.specs.declared.frame.Frame.{Frame}

-- ---- instructions

-- the fields of each instruction are in range
abbrev pub AllWell : List Inst → Type 0
AllWell [] = Unit {0}
AllWell (inst ∷ insts) = IsWellFormed inst × AllWell insts

well_append : (xs ys : List Inst) → AllWell xs → AllWell ys → AllWell (xs ++ ys)
well_append [] ys first rest = rest
well_append (x ∷ xs) ys first rest = (first.0, well_append xs ys first.1 rest)

load_well : (reg bytes : ℕ) → reg ≤ 31 → bytes < 2 ^ 21 → AllWell (load_at reg bytes)
unfolding load_at
load_well reg bytes le small =
    elim (nat_le bytes 32760) as (λ b. nat_le bytes 32760 ≡ b → AllWell (if b then Access LdrX reg 31 (bytes / 8) ∷ [] else
    AddSubImm W64 false false reg 31 (bytes / 4096) true ∷ Access LdrX reg reg (bytes % 4096 / 8) ∷ [])) [
      | true ↦ λ e. let near = leb-true bytes 32760 e in ((le, omega arith, omega arith), tt)
      | false ↦ λ e. ((le, omega arith, omega arith), ((le, le, omega arith), tt))
    ] refl

store_well : (reg bytes : ℕ) → reg ≤ 31 → bytes < 2 ^ 21 → AllWell (store_at reg bytes)
unfolding store_at
store_well reg bytes le small =
    elim (nat_le bytes 32760) as (λ b. nat_le bytes 32760 ≡ b → AllWell (if b then Access StrX reg 31 (bytes / 8) ∷ [] else
    AddSubImm W64 false false 15 31 (bytes / 4096) true ∷ Access StrX reg 15 (bytes % 4096 / 8) ∷ [])) [
      | true ↦ λ e. let near = leb-true bytes 32760 e in ((le, omega arith, omega arith), tt)
      | false ↦ λ e. ((omega arith, omega arith, omega arith), ((le, omega arith, omega arith), tt))
    ] refl

-- ---- constants

half_small : (word hw : ℕ) → half_word word hw < 2 ^ 16
half_small word hw = omega arith

last_is : (width : Width) (hw : ℕ) → hw < half_count width → hw ≤ last_half width
last_is W32 hw lt = omega arith
last_is W64 hw lt = omega arith

move_well : (width : Width) (inverted started : Bool) (reg half hw : ℕ) → reg ≤ 31 → half < 2 ^ 16 → hw ≤ last_half width → IsWellFormed (half_move width inverted started reg half hw)
move_well width inverted true reg half hw le small last = (le, small, last)
move_well width true false reg half hw le small last = (le, omega arith, last)
move_well width false false reg half hw le small last = (le, small, last)

fill_small : (inverted : Bool) → filling inverted < 2 ^ 16
fill_small true = omega arith
fill_small false = omega arith

count_pos : (width : Width) → 0 < half_count width
count_pos W32 = omega arith
count_pos W64 = omega arith

moves_well : (width : Width) (inverted : Bool) (reg word : ℕ) (started : Bool) (n hw : ℕ) → reg ≤ 31 → hw + n ≡ half_count width
    → AllWell (half_moves width inverted reg word started n hw)
unfolding half_moves
moves_well width inverted reg word true zero hw le count = tt
moves_well width inverted reg word false zero hw le count = (move_well width inverted false reg (filling inverted) 0 le (fill_small inverted) (last_is width 0 (count_pos width)), tt)
moves_well width inverted reg word started (suc n) hw le count =
    elim (nat_eq (half_word word hw) (filling inverted)) as (λ b. AllWell (if b then half_moves width inverted reg word started n (hw + 1) else
    half_move width inverted started reg (half_word word hw) hw ∷ half_moves width inverted reg word true n (hw + 1))) [
      | true ↦ moves_well width inverted reg word started n (hw + 1) le (omega arith)
      | false ↦ (
        move_well width inverted started reg (half_word word hw) hw le (half_small word hw) (last_is width hw (omega arith)),
        moves_well width inverted reg word true n (hw + 1) le (omega arith),
      )
    ]

constant_well : (width : Width) (reg word : ℕ) → reg ≤ 31 → AllWell (constant width reg word)
unfolding constant
constant_well width reg word le = moves_well width (is_inverted width word) reg word false (half_count width) 0 le (omega arith)

comparing_well : (kind : Checked) (width : Width) (a b : ℕ) → a ≤ 31 → b ≤ 31 → AllWell (comparing kind width a b)
unfolding comparing
comparing_well Sum width a b le_a le_b = ((omega arith, le_a, le_b, omega arith, bits-pos width), tt)
comparing_well Difference width a b le_a le_b = ((omega arith, le_a, le_b, omega arith, bits-pos width), tt)
comparing_well Product W32 a b le_a le_b = (
  (omega arith, le_a, le_b, omega arith),
  ((omega arith, omega arith, omega arith, omega arith), ((omega arith, omega arith, omega arith, omega arith, omega arith), tt)),
)
comparing_well Product W64 a b le_a le_b = (
  (omega arith, le_a, le_b),
  ((omega arith, le_a, le_b, omega arith), ((omega arith, omega arith, omega arith, omega arith, omega arith), tt)),
)

making_well : (kind : Checked) (width : Width) (rd a b : ℕ) → rd ≤ 31 → a ≤ 31 → b ≤ 31 → AllWell (making kind width rd a b)
unfolding making
making_well Sum width rd a b le le_a le_b = ((le, le_a, le_b, omega arith, bits-pos width), tt)
making_well Difference width rd a b le le_a le_b = ((le, le_a, le_b, omega arith, bits-pos width), tt)
making_well Product width rd a b le le_a le_b = ((le, omega arith, omega arith, omega arith, bits-pos width), tt)

breaks_well : (n : ℕ) → AllWell (breaks n)
unfolding breaks
breaks_well zero = tt
breaks_well (suc n) = (omega arith, breaks_well n)

-- ---- operands

-- the registers of an argument are those of the processor
abbrev pub IsSmallArg : Arg → Type 0
IsSmallArg (At home) = IsSmallHome home
IsSmallArg arg = HasSmallHomes arg

abbrev pub AreSmall : List Operand → Type 0
AreSmall os = (k : ℕ) → IsSmallArg (arg_at os k)

source_small : (scratch : ℕ) (arg : Arg) → scratch ≤ 30 → IsSmallArg arg → reg_of (source_of scratch arg) ≤ 31
source_small scratch (At (Reg r)) le small = omega arith
source_small scratch (At (Spill n)) le small = omega arith
source_small scratch (At (Tmp n)) le small = omega arith
source_small scratch (Imm word) le small = omega arith
source_small scratch (Addr base offset) le small = omega arith
source_small scratch (Index base index shift) le small = omega arith
source_small scratch (FrameSlot n) le small = omega arith

result_small : (arg : Arg) → IsSmallArg arg → result_reg arg ≤ 31
result_small (At (Reg r)) small = omega arith
result_small (At (Spill n)) small = omega arith
result_small (At (Tmp n)) small = omega arith
result_small (Imm word) small = omega arith
result_small (Addr base offset) small = omega arith
result_small (Index base index shift) small = omega arith
result_small (FrameSlot n) small = omega arith

unless_well : (n : ℕ) (insts : List Inst) → AllWell insts → AllWell (unless_zero n insts)
unless_well n insts well = elim (nat_eq n 0) as (λ b. AllWell (if b then [] else insts)) [ true ↦ tt | false ↦ well ]

module _ (f : Frame) (limit : f.bytes < 2 ^ 21) where
  pub fetch_well : (scratch : ℕ) (arg : Arg) → scratch ≤ 31 → AllWell (fetch f scratch arg)
  unfolding fetch
  fetch_well scratch (At (Spill n)) le = load_well scratch (above_sp f (spill_offset f n)) le (omega arith)
  fetch_well scratch (At (Reg r)) le = tt
  fetch_well scratch (At (Tmp n)) le = tt
  fetch_well scratch (Imm word) le = tt
  fetch_well scratch (Addr base offset) le = tt
  fetch_well scratch (Index base index shift) le = tt
  fetch_well scratch (FrameSlot n) le = tt

  below_well : (n : ℕ) (os : List Operand) (k scratch : ℕ) → scratch ≤ 31 → AllWell (fetch_below n f os k scratch)
  below_well n os k scratch le = elim (nat_lt k n) as (λ b. AllWell (if b then fetch f scratch (arg_at os k) else [])) [ true ↦ fetch_well scratch (arg_at os k) le | false ↦ tt ]

  put_well : (reg : ℕ) (arg : Arg) → reg ≤ 31 → AllWell (put_result f reg arg)
  unfolding put_result
  put_well reg (At (Spill n)) le = store_well reg (above_sp f (spill_offset f n)) le (omega arith)
  put_well reg (At (Reg r)) le = tt
  put_well reg (At (Tmp n)) le = tt
  put_well reg (Imm word) le = tt
  put_well reg (Addr base offset) le = tt
  put_well reg (Index base index shift) le = tt
  put_well reg (FrameSlot n) le = tt

  bring_well : (width : Width) (reg : ℕ) (arg : Arg) → reg ≤ 31 → IsSmallArg arg → AllWell (bring f width reg arg)
  unfolding bring
  bring_well width reg (At (Reg from)) le small =
      elim (nat_eq reg from.0) as (λ b. AllWell (if b then [] else move_reg width reg from.0 ∷ [])) [ true ↦ tt | false ↦ ((move_plain width reg from.0 le (omega arith)).fields, tt) ]
  bring_well width reg (At (Spill n)) le small = load_well reg (above_sp f (spill_offset f n)) le (omega arith)
  bring_well width reg (At (Tmp n)) le small = tt
  bring_well width reg (Imm word) le small = constant_well width reg word le
  bring_well width reg (Addr base offset) le small = tt
  bring_well width reg (Index base index shift) le small = tt
  bring_well width reg (FrameSlot n) le small = tt

  copy_small : (from to : Arg) → IsSmallArg from → IsSmallArg to → copy_reg from to ≤ 31
  copy_small (At (Reg r)) (At (Spill n)) small_from small_to = omega arith
  copy_small from (At (Spill n)) small_from small_to = omega arith
  copy_small from to small_from small_to = result_small to small_to

  -- the registers of a move are those of the processor
  abbrev IsSmallMove : Move → Type 0
  IsSmallMove m = IsSmallArg m.from × IsSmallHome m.to

  copies_well : (ms : List Move) → All IsSmallMove ms → AllWell (copies_code f ms)
  unfolding copies_code
  copies_well [] each = tt
  copies_well (m ∷ ms) each =
      let reg : ℕ = copy_reg m.from (At m.to) in
      let small = All-head IsSmallMove m ms each in
      let le = copy_small m.from (At m.to) small.0 small.1 in
      well_append (bring f m.width reg m.from ++ put_result f reg (At m.to)) (copies_code f ms)
      (well_append (bring f m.width reg m.from) (put_result f reg (At m.to)) (bring_well m.width reg m.from le small.0) (put_well reg (At m.to) le))
      (copies_well ms (All-tail IsSmallMove m ms each))

  small_home : (arg : Arg) → IsSmallArg arg → IsSmallHome (home_of arg)
  small_home (At home) small = small
  small_home (Imm word) small = tt
  small_home (Addr base offset) small = tt
  small_home (Index base index shift) small = tt
  small_home (FrameSlot n) small = tt

  small_moves : (os : List Operand) → AreSmall os → All IsSmallMove (moves_of os)
  unfolding moves_of
  small_moves [] small = All-nil IsSmallMove
  small_moves (o ∷ []) small = All-nil IsSmallMove
  small_moves (from ∷ to ∷ os) small =
      All-cons IsSmallMove _ (moves_of os) (small 0, small_home to.arg (small 1)) (small_moves os (λ k. small (suc (suc k))))

  shuffle_well : (os : List Operand) → AreSmall os → AreOrderable (moves_of os) → AllWell (shuffle_code f os)
  shuffle_well os small may =
      let ms : List Move = moves_of os in
      copies_well (sequenced kept_register ms)
      (all_made IsSmallMove ms (sequenced kept_register ms) (sequence_of ms may) (λ m own. (own.0, omega arith)) (λ m own. (omega arith, own.1))
      (small_moves os small))

  compute_well : (o : AirOp) (os : List Operand) → AreSmall os → IsComputed o (width_at os 0) (source_at os 1 16) → AllWell (compute_code f o os)
  compute_well o os small fits =
      let rd : ℕ = result_reg (result_at os) in
      let le_rd = result_small (result_at os) (small (length os - 1)) in
      let n : ℕ = length os - 1 in
      well_append ((fetch_below n f os 0 15 ++ fetch_below n f os 1 16) ++ fetch_below n f os 2 17)
      (computing o (width_at os 0) rd (source_at os 0 15) (source_at os 1 16) (source_at os 2 17) ∷ put_result f rd (result_at os))
      (well_append (fetch_below n f os 0 15 ++ fetch_below n f os 1 16) (fetch_below n f os 2 17)
      (well_append (fetch_below n f os 0 15) (fetch_below n f os 1 16) (below_well n os 0 15 (omega arith)) (below_well n os 1 16 (omega arith)))
      (below_well n os 2 17 (omega arith))) (
        (computing_plain o (width_at os 0) rd (source_at os 0 15) (source_at os 1 16) (source_at os 2 17) le_rd (source_small 15 (arg_at os 0) (omega arith) (small 0))
            (source_small 16 (arg_at os 1) (omega arith) (small 1)) (source_small 17 (arg_at os 2) (omega arith) (small 2)) fits).fields,
        put_well rd (result_at os) le_rd,
      )

  pub tested_well : (t : Test) (os : List Operand) → AllWell (fetch_tested f t os)
  tested_well t os = well_append (fetch f 15 (arg_at os 0)) (fetch_below (test_count t) f os 1 16) (fetch_well 15 (arg_at os 0) (omega arith)) (below_well (test_count t) os 1 16 (omega arith))

  test_well : (t : Test) (os : List Operand) → AreSmall os → IsTested t (width_at os 0) (source_at os 1 16) → IsWellFormed (test_at t os)
  test_well t os small fits =
      (testing_plain t (width_at os 0) (source_at os 0 15) (source_at os 1 16) (source_small 15 (arg_at os 0) (omega arith) (small 0))
      (source_small 16 (arg_at os 1) (omega arith) (small 1)) fits).fields

  pub compared_well : (t : Test) (os : List Operand) → AreSmall os → IsTested t (width_at os 0) (source_at os 1 16) → AllWell (compared t os)
  compared_well (Compare cond) os small fits = (test_well (Compare cond) os small fits, tt)
  compared_well NonZero os small fits = tt
  compared_well (Bit bit) os small fits = tt

  address_well : (arg : Arg) → AllWell (fetch_address f arg)
  unfolding fetch_address
  address_well (Addr base offset) = fetch_well 15 (At base) (omega arith)
  address_well (Index base index shift) =
      well_append (fetch f 15 (At base)) (fetch f 16 (At index)) (fetch_well 15 (At base) (omega arith)) (fetch_well 16 (At index) (omega arith))
  address_well (At home) = tt
  address_well (Imm word) = tt
  address_well (FrameSlot n) = tt

  small_homes : (arg : Arg) → IsSmallArg arg → HasSmallHomes arg
  small_homes (Addr base offset) small = small
  small_homes (Index base index shift) small = small
  small_homes (At home) small = tt
  small_homes (Imm word) small = tt
  small_homes (FrameSlot n) small = tt

  load_code_well : (o : AirOp) (os : List Operand) → AreSmall os → IsLoaded o os → AllWell (load_code f o os)
  load_code_well o os small fits =
      let le = result_small (arg_at os 1) (small 1) in
      well_append (fetch_address f (arg_at os 0)) _ (address_well (arg_at os 0)) (
        access_well (access_kind o (width_at os 0)) (result_reg (arg_at os 1)) (arg_at os 0) le (small_homes (arg_at os 0) (small 0)) fits,
        put_well (result_reg (arg_at os 1)) (arg_at os 1) le,
      )

  store_code_well : (o : AirOp) (os : List Operand) → AreSmall os → IsStored o os → AllWell (store_code f o os)
  store_code_well o os small fits =
      well_append (fetch_address f (arg_at os 1) ++ fetch f 17 (arg_at os 0)) _
      (well_append (fetch_address f (arg_at os 1)) (fetch f 17 (arg_at os 0)) (address_well (arg_at os 1)) (fetch_well 17 (arg_at os 0) (omega arith))) (
        access_well (access_kind o (width_at os 0)) (reg_of (source_of 17 (arg_at os 0))) (arg_at os 1) (source_small 17 (arg_at os 0) (omega arith) (small 0))
            (small_homes (arg_at os 1) (small 1)) fits,
        tt,
      )

  below_x29_well : (reg bytes : ℕ) → reg ≤ 31 → AllWell (below_x29 reg bytes)
  unfolding below_x29
  below_x29_well reg bytes le =
      elim (nat_le bytes 4095) as (λ b. nat_le bytes 4095 ≡ b → AllWell (if b then AddSubImm W64 true false reg 29 bytes false ∷ [] else
      AddSubImm W64 true false reg 29 (upper bytes) true ∷ unless_zero (bytes % 4096) (AddSubImm W64 true false reg reg (bytes % 4096) false ∷ []))) [
        | true ↦ λ e. let few = leb-true bytes 4095 e in ((le, omega arith, omega arith), tt)
        | false ↦ λ e. (
          (le, omega arith, omega arith),
          unless_well (bytes % 4096) (AddSubImm W64 true false reg reg (bytes % 4096) false ∷ []) ((le, le, omega arith), tt),
        )
      ] refl

  frame_address_well : (bytes : ℕ) (to : Arg) → IsSmallArg to → AllWell (frame_address f bytes to)
  frame_address_well bytes to small =
      let le = result_small to small in
      well_append (below_x29 (result_reg to) bytes) (put_result f (result_reg to) to) (below_x29_well (result_reg to) bytes le) (put_well (result_reg to) to le)

  pub code_well : (o : AirOp) (os : List Operand) → AreSmall os → IsFitting o os → AllWell (inst_code f o os)
  unfolding inst_code
  code_well op.Move os small fits =
      let reg : ℕ = copy_reg (arg_at os 0) (arg_at os 1) in
      let le = copy_small (arg_at os 0) (arg_at os 1) (small 0) (small 1) in
      well_append (bring f (width_at os 0) reg (arg_at os 0)) (put_result f reg (arg_at os 1)) (bring_well (width_at os 0) reg (arg_at os 0) le (small 0)) (put_well reg (arg_at os 1) le)
  code_well op.Shuffle os small fits = shuffle_well os small fits
  code_well (op.SetIf t) os small fits =
      let le = result_small (result_at os) (small (length os - 1)) in
      well_append (fetch_tested f t os) _ (tested_well t os) (test_well t os small fits, ((le, omega arith, omega arith), put_well (result_reg (result_at os)) (result_at os) le))
  code_well (op.SelectIf t) os small fits =
      let n : ℕ = test_count t in
      let le = result_small (result_at os) (small (length os - 1)) in
      let first : List Inst = fetch f 15 (arg_at os n) in
      let second : List Inst = fetch f 16 (arg_at os (n + 1)) in
      well_append ((fetch_tested f t os ++ test_at t os ∷ first) ++ second) _
      (well_append (fetch_tested f t os ++ test_at t os ∷ first) second
      (well_append (fetch_tested f t os) (test_at t os ∷ first) (tested_well t os) (test_well t os small fits, fetch_well 15 (arg_at os n) (omega arith)))
      (fetch_well 16 (arg_at os (n + 1)) (omega arith)))
      ((le, source_small 15 (arg_at os n) (omega arith) (small n), source_small 16 (arg_at os (n + 1)) (omega arith) (small (n + 1))), put_well (result_reg (result_at os)) (result_at os) le)
  code_well op.Load8Z os small fits = load_code_well op.Load8Z os small fits
  code_well op.Load8S os small fits = load_code_well op.Load8S os small fits
  code_well op.Load16Z os small fits = load_code_well op.Load16Z os small fits
  code_well op.Load16S os small fits = load_code_well op.Load16S os small fits
  code_well op.Load os small fits = load_code_well op.Load os small fits
  code_well op.Store8 os small fits = store_code_well op.Store8 os small fits
  code_well op.Store16 os small fits = store_code_well op.Store16 os small fits
  code_well op.Store os small fits = store_code_well op.Store os small fits
  code_well op.SlotAddress os small fits = frame_address_well (slot_offset f (arg_at os 0)) (arg_at os 1) (small 1)
  code_well op.FramePointer os small fits = frame_address_well 0 (arg_at os 0) (small 0)
  code_well (op.CheckIf t) os small fits = compute_well (op.CheckIf t) os small tt
  code_well (op.BranchIf t) os small fits = compute_well (op.BranchIf t) os small tt
  code_well (op.Switch cases) os small fits = compute_well (op.Switch cases) os small tt
  code_well o os small fits = compute_well o os small fits

  -- ---- the frame

  saves_well : (rows : List SavedRow) → All (IsGoodSaved f.bytes) rows → AllWell (saves f rows)
  unfolding saves
  saves_well [] goods = tt
  saves_well (s ∷ rows) goods =
      let high = (All-head (IsGoodSaved f.bytes) s rows goods).high in
      well_append (store_at s.reg.0 (above_sp f s.offset)) (saves f rows) (store_well s.reg.0 (above_sp f s.offset) (omega arith) (omega arith))
      (saves_well rows (All-tail (IsGoodSaved f.bytes) s rows goods))

  restores_well : (rows : List SavedRow) → All (IsGoodSaved f.bytes) rows → AllWell (restores f rows)
  unfolding restores
  restores_well [] goods = tt
  restores_well (s ∷ rows) goods =
      let high = (All-head (IsGoodSaved f.bytes) s rows goods).high in
      well_append (load_at s.reg.0 (above_sp f s.offset)) (restores f rows) (load_well s.reg.0 (above_sp f s.offset) (omega arith) (omega arith))
      (restores_well rows (All-tail (IsGoodSaved f.bytes) s rows goods))

  lower_well : (bytes : ℕ) → bytes < 2 ^ 21 → AllWell (lower_sp bytes)
  unfolding lower_sp
  lower_well bytes small =
      well_append (unless_zero (bytes / 4096) (AddSubImm W64 true false 31 31 (bytes / 4096) true ∷ [])) (unless_zero (bytes % 4096) (AddSubImm W64 true false 31 31 (bytes % 4096) false ∷ []))
      (unless_well (bytes / 4096) (AddSubImm W64 true false 31 31 (bytes / 4096) true ∷ []) ((omega arith, omega arith, omega arith), tt))
      (unless_well (bytes % 4096) (AddSubImm W64 true false 31 31 (bytes % 4096) false ∷ []) ((omega arith, omega arith, omega arith), tt))

  pub prologue_well : All (IsGoodSaved f.bytes) f.saved → AllWell (prologue f)
  unfolding prologue
  prologue_well goods = (
    (omega arith, omega arith, omega (arith, ints), omega (arith, ints), tt),
    (
      (omega arith, omega arith, omega arith),
      well_append (lower_sp (f.bytes - 16)) (saves f f.saved) (lower_well (f.bytes - 16) (omega arith)) (saves_well f.saved goods),
    ),
  )

  pub epilogue_well : All (IsGoodSaved f.bytes) f.saved → AllWell (epilogue f)
  unfolding epilogue
  epilogue_well goods =
      well_append (restores f f.saved) leave (restores_well f.saved goods)
      ((omega arith, omega arith, omega arith), ((omega arith, omega arith, omega (arith, ints), omega (arith, ints), λ e. omega arith), (omega arith, tt)))

-- ---- items

-- the fields of an item are in range, and a label that it is or names is below a number
abbrev pub IsFair : ℕ → Item → Type 0
IsFair n (Plain inst) = IsWellFormed inst
IsFair n (Jump label) = label < n
IsFair n (If cond label) = label < n
IsFair n (IfZero width nonzero reg label) = IsReg reg × (label < n)
IsFair n (IfBit nonzero reg at label) = IsReg reg × (at < 64) × (label < n)
IsFair n (Label label) = label < n
IsFair n (Mark mark) = Unit {0}

plains_fair : (n : ℕ) (insts : List Inst) → AllWell insts → Each (IsFair n) (plains insts)
plains_fair n [] well = tt
plains_fair n (inst ∷ insts) well = (well.0, plains_fair n insts well.1)

jump_fair : (n next label : ℕ) → label < n → Each (IsFair n) (jump_to next label)
jump_fair n next label lt = elim (nat_eq label next) as (λ b. Each (IsFair n) (if b then [] else Jump label ∷ [])) [ true ↦ tt | false ↦ (lt, tt) ]

bits_most : (width : Width) → bits width ≤ 64
bits_most W32 = omega arith
bits_most W64 = omega arith

branch_fair : (n : ℕ) (t : Test) (passes : Bool) (width : Width) (b : Source) (reg label : ℕ) → IsTested t width b → reg ≤ 31 → label < n → IsFair n (branch_item t passes width reg label)
branch_fair n (Compare cond) passes width b reg label fits le lt = lt
branch_fair n NonZero passes width b reg label fits le lt = (le, lt)
branch_fair n (Bit bit) passes width b reg label fits le lt = let most = bits_most width in (le, omega (arith, fits), lt)

branches_fair : (n : ℕ) (t : Test) (width : Width) (b : Source) (reg next then_label else_label : ℕ) → IsTested t width b → reg ≤ 31 → then_label < n → else_label < n
    → Each (IsFair n) (branches t width reg next then_label else_label)
branches_fair n t width b reg next then_label else_label fits le lt_then lt_else =
    elim (nat_eq then_label next) as (λ c. Each (IsFair n) (if c then branch_item t false width reg else_label ∷ [] else branch_item t true width reg then_label ∷ jump_to next else_label)) [
      | true ↦ (branch_fair n t false width b reg else_label fits le lt_else, tt)
      | false ↦ (branch_fair n t true width b reg then_label fits le lt_then, jump_fair n next else_label lt_else)
    ]

word_well : (width : Width) (reg word : ℕ) → reg ≤ 31 → AllWell (constant width 16 word ++ AddSubReg width true true 31 reg 16 0 0 ∷ [])
word_well W32 reg word le = well_append (constant W32 16 word) _ (constant_well W32 16 word (omega arith)) ((omega arith, le, omega arith, omega arith, omega arith), tt)
word_well W64 reg word le = well_append (constant W64 16 word) _ (constant_well W64 16 word (omega arith)) ((omega arith, le, omega arith, omega arith, omega arith), tt)

compare_well : (width : Width) (reg word : ℕ) → reg ≤ 31 → word < 2 ^ bits width → AllWell (compare_word width reg word)
compare_well width reg word le small =
    elim (is_sum_word width word) as (λ b. is_sum_word width word ≡ b → AllWell (if b then sum_with width true true 31 reg word ∷ [] else
    constant width 16 word ++ AddSubReg width true true 31 reg 16 0 0 ∷ [])) [
      | true ↦ λ e. ((sum_plain width true true 31 reg (Constant word) (omega arith) le (omega arith) (small, e)).fields, tt)
      | false ↦ λ e. word_well width reg word le
    ] refl

-- a case of a width, which leads to a label below a number
abbrev pub IsCaseOf : ℕ → Width → Case → Type 0
IsCaseOf n width case = (case.word < 2 ^ bits width) × (case.target < n)

cases_fair : (n : ℕ) (width : Width) (reg : ℕ) (cases : List Case) → reg ≤ 31 → Each (IsCaseOf n width) cases → Each (IsFair n) (case_items width reg cases)
unfolding case_items
cases_fair n width reg [] le are = tt
cases_fair n width reg (case ∷ cases) le are =
    each_append (IsFair n) (plains (compare_word width reg case.word)) (If Eq case.target ∷ case_items width reg cases)
    (plains_fair n (compare_word width reg case.word) (compare_well width reg case.word le are.0.0)) (are.0.1, cases_fair n width reg cases le are.1)

search_fair : (n : ℕ) (width : Width) (reg other next label : ℕ) (t : Tree Case) → reg ≤ 31 → Each (IsCaseOf n width) (in_order t) → other < n
    → label + node_count t ≤ n → Each (IsFair n) (search_items width reg other next label t)
unfolding search_items node_count in_order
search_fair n width reg other next label (Leaf cases) le are lt most =
    each_append (IsFair n) (case_items width reg cases) (jump_to next other) (cases_fair n width reg cases le are) (jump_fair n next other lt)
search_fair n width reg other next label (Node before case behind) le are lt most =
    let first : List Item = search_items width reg other label (label + 1) before in
    let rest : List Item = search_items width reg other next (label + 1 + node_count before) behind in
    let are_first = each_left (IsCaseOf n width) (in_order before) (case ∷ in_order behind) are in
    let are_rest = each_right (IsCaseOf n width) (in_order before) (case ∷ in_order behind) are in
    each_append (IsFair n) (plains (compare_word width reg case.word) ++ If Eq case.target ∷ If Hi label ∷ first) (Label label ∷ rest)
    (each_append (IsFair n) (plains (compare_word width reg case.word)) (If Eq case.target ∷ If Hi label ∷ first)
    (plains_fair n (compare_word width reg case.word) (compare_well width reg case.word le are_rest.0.0))
    (are_rest.0.1, (omega arith, search_fair n width reg other label (label + 1) before le are_first lt (omega arith))))
    (omega arith, search_fair n width reg other next (label + 1 + node_count before) behind le are_rest.1 lt (omega arith))

pub get_or_none : {X : Type 0} (xs : List X) (j : ℕ) (d : X) → length xs ≤ j → get_or xs j d ≡ d
get_or_none [] j d le = refl
get_or_none (x ∷ xs) zero d le = absurd (omega arith)
get_or_none (x ∷ xs) (suc j) d le = get_or_none xs j d (omega arith)

-- where there are no targets, 0 counts
target_below : (n : ℕ) (targets : List ℕ) (j : ℕ) → 0 < n → ((j : ℕ) → j < length targets → get_or targets j 0 < n) → get_or targets j 0 < n
target_below n targets j some below =
    ⊎_elim (λ lt. below j lt) (λ ge. let none : get_or targets j 0 ≡ 0 = get_or_none targets j 0 ge in omega arith) (cases_lt j (length targets))

-- the cases of a Switch are of its width, and lead to its targets
pub cases_lead : (n : ℕ) (width : Width) (cases targets : List ℕ) → 0 < n → ((j : ℕ) → j < length targets → get_or targets j 0 < n)
    → Each (IsCaseOf n width) (cases_in_order width cases targets)
cases_lead n width cases targets some below =
    each_map (IsCaseOf n width) (case_of width cases targets) (sorted_words width cases)
    (each_weaker (λ word. word < 2 ^ bits width) (λ word. IsCaseOf n width (case_of width cases targets word))
    (λ word small. (small, target_below n targets (case_number width word cases) some below)) (sorted_words width cases) (sorted_small width cases))

-- an instruction whose code is fair in a procedure of so many labels, of which its own are those from one on
pub record IsFairInst (n label : ℕ) (targets : List ℕ) (o : AirOp) (os : List Operand) : Type 0 where
  pub small : AreSmall os
  pub fits : IsFitting o os
  pub below : (j : ℕ) → j < length targets → get_or targets j 0 < n
  pub most : label + own_labels o ≤ n

module _ (f : Frame) (limit : f.bytes < 2 ^ 21) (goods : All (IsGoodSaved f.bytes) f.saved) (n : ℕ) (some : 0 < n) where
  with_mark_fair : (marks : Bool) (mark : ℕ) (before behind : List Inst) → AllWell before → AllWell behind → Each (IsFair n) (with_mark marks mark before behind)
  with_mark_fair true mark before behind first rest =
      each_append (IsFair n) (plains before ++ Mark mark ∷ []) (plains behind)
      (each_append (IsFair n) (plains before) (Mark mark ∷ []) (plains_fair n before first) (tt, tt)) (plains_fair n behind rest)
  with_mark_fair false mark before behind first rest =
      each_append (IsFair n) (plains before ++ []) (plains behind)
      (each_append (IsFair n) (plains before) [] (plains_fair n before first) tt) (plains_fair n behind rest)

  load_fair : (mark : ℕ) (traps : Bool) (o : AirOp) (os : List Operand) → AreSmall os → IsLoaded o os → Each (IsFair n) (load_items f mark traps o os)
  load_fair mark traps o os small fits =
      let le = result_small (arg_at os 1) (small 1) in
      with_mark_fair traps mark (fetch_address f (arg_at os 0)) (load_inst o os ∷ put_result f (result_reg (arg_at os 1)) (arg_at os 1))
      (address_well f limit (arg_at os 0)) (
        access_well (access_kind o (width_at os 0)) (result_reg (arg_at os 1)) (arg_at os 0) le (small_homes f limit (arg_at os 0) (small 0)) fits,
        put_well f limit (result_reg (arg_at os 1)) (arg_at os 1) le,
      )

  store_fair : (mark : ℕ) (traps : Bool) (o : AirOp) (os : List Operand) → AreSmall os → IsStored o os → Each (IsFair n) (store_items f mark traps o os)
  store_fair mark traps o os small fits =
      with_mark_fair traps mark (fetch_stored f os) (store_inst o os ∷ [])
      (well_append (fetch_address f (arg_at os 1)) (fetch f 17 (arg_at os 0)) (address_well f limit (arg_at os 1)) (fetch_well f limit 17 (arg_at os 0) (omega arith))) (
        access_well (access_kind o (width_at os 0)) (reg_of (source_of 17 (arg_at os 0))) (arg_at os 1) (source_small 17 (arg_at os 0) (omega arith) (small 0))
            (small_homes f limit (arg_at os 1) (small 1)) fits,
        tt,
      )

  inner_fair : (mark : ℕ) (traps : Bool) (o : AirOp) (os : List Operand) → AreSmall os → IsFitting o os → Each (IsFair n) (inner_items f mark traps o os)
  unfolding inner_items
  inner_fair mark traps op.Load8Z os small fits = load_fair mark traps op.Load8Z os small fits
  inner_fair mark traps op.Load8S os small fits = load_fair mark traps op.Load8S os small fits
  inner_fair mark traps op.Load16Z os small fits = load_fair mark traps op.Load16Z os small fits
  inner_fair mark traps op.Load16S os small fits = load_fair mark traps op.Load16S os small fits
  inner_fair mark traps op.Load os small fits = load_fair mark traps op.Load os small fits
  inner_fair mark traps op.Store8 os small fits = store_fair mark traps op.Store8 os small fits
  inner_fair mark traps op.Store16 os small fits = store_fair mark traps op.Store16 os small fits
  inner_fair mark traps op.Store os small fits = store_fair mark traps op.Store os small fits
  inner_fair mark traps (op.Call typed) os small fits =
      with_mark_fair true mark (fetch f 15 (arg_at os 0)) (call_inst os ∷ []) (fetch_well f limit 15 (arg_at os 0) (omega arith))
      (source_small 15 (arg_at os 0) (omega arith) (small 0), tt)
  inner_fair mark traps (op.Patch size typed) os small fits = with_mark_fair true mark [] (breaks size) tt (breaks_well size)
  inner_fair mark traps o os small fits = plains_fair n (inst_code f o os) (code_well f limit o os small fits)

  guarded_fair : (before : List Inst) (t : Test) (width : Width) (b : Source) (reg label : ℕ) (behind : List Inst) → AllWell before → AllWell behind
      → IsTested t width b → reg ≤ 31 → label + 1 ≤ n → Each (IsFair n) (guarded before t width reg label behind)
  guarded_fair before t width b reg label behind first rest fits le most =
      each_append (IsFair n) (plains before) _ (plains_fair n before first)
      (branch_fair n t true width b reg label fits le (omega arith), plains_fair n behind rest)

  -- an exit
  exit_fair : (label mark : ℕ) (b : Bool) → label + (if b then 1 else 0) ≤ n → Each (IsFair n) (exits_by b label mark)
  exit_fair label mark true most = (omega arith, (tt, (omega arith, tt)))
  exit_fair label mark false most = tt

  checked_fair : (label : ℕ) (kind : Checked) (os : List Operand) → AreSmall os → label + 1 ≤ n → Each (IsFair n) (checked_items f label kind os)
  checked_fair label kind os small most =
      let a : ℕ = reg_of (source_at os 0 15) in
      let b : ℕ = reg_of (source_at os 1 16) in
      let rd : ℕ = result_reg (result_at os) in
      let le_a = source_small 15 (arg_at os 0) (omega arith) (small 0) in
      let le_b = source_small 16 (arg_at os 1) (omega arith) (small 1) in
      let le_rd = result_small (result_at os) (small (length os - 1)) in
      guarded_fair (fetch_checked f kind os) (Compare (passing kind)) (width_at os 0) (InReg 0) 0 label (make_checked f kind os)
      (well_append (fetch f 15 (arg_at os 0)) _ (fetch_well f limit 15 (arg_at os 0) (omega arith))
      (well_append (fetch f 16 (arg_at os 1)) _ (fetch_well f limit 16 (arg_at os 1) (omega arith)) (comparing_well kind (width_at os 0) a b le_a le_b)))
      (well_append (making kind (width_at os 0) rd a b) _ (making_well kind (width_at os 0) rd a b le_rd le_a le_b) (put_well f limit rd (result_at os) le_rd))
      tt (omega arith) most

  pub inst_fair : (next label mark : ℕ) (targets : List ℕ) (traps : Bool) (o : AirOp) (os : List Operand) → IsFairInst n label targets o os
      → Each (IsFair n) (inst_items f next label mark targets traps o os)
  unfolding inst_items
  inst_fair next label mark targets traps (op.BranchIf t) os h =
      let reg : ℕ = reg_of (source_at os 0 15) in
      let le = source_small 15 (arg_at os 0) (omega arith) (h.small 0) in
      each_append (IsFair n) (plains (fetch_tested f t os ++ compared t os)) (branches t (width_at os 0) reg next (get_or targets 0 0) (get_or targets 1 0))
      (plains_fair n (fetch_tested f t os ++ compared t os) (well_append (fetch_tested f t os) (compared t os) (tested_well f limit t os) (compared_well f limit t os h.small h.fits)))
      (branches_fair n t (width_at os 0) (source_at os 1 16) reg next (get_or targets 0 0) (get_or targets 1 0) h.fits le (target_below n targets 0 some h.below) (target_below n targets 1 some h.below))
  inst_fair next label mark targets traps op.Jump os h = jump_fair n next (get_or targets 0 0) (target_below n targets 0 some h.below)
  inst_fair next label mark targets traps (op.Switch cases) os h =
      let reg : ℕ = reg_of (source_at os 0 15) in
      let le = source_small 15 (arg_at os 0) (omega arith) (h.small 0) in
      each_append (IsFair n) (plains (fetch f 15 (arg_at os 0))) (switch_items (width_at os 0) reg next label cases targets)
      (plains_fair n (fetch f 15 (arg_at os 0)) (fetch_well f limit 15 (arg_at os 0) (omega arith)))
      (let t : Tree Case = tree (cases_in_order (width_at os 0) cases targets) in
      let are : Each (IsCaseOf n (width_at os 0)) (in_order t) =
      subst (Each (IsCaseOf n (width_at os 0))) (sym (tree_order (cases_in_order (width_at os 0) cases targets)))
      (cases_lead n (width_at os 0) cases targets some h.below) in
      let count = search_labels (width_at os 0) cases targets in
      search_fair n (width_at os 0) reg (get_or targets (length cases) 0) next label t le are (target_below n targets (length cases) some h.below)
      (omega (arith, h.most)))
  inst_fair next label mark targets traps op.Return os h = plains_fair n (epilogue f) (epilogue_well f limit goods)
  inst_fair next label mark targets traps op.Oops os h = (omega arith, tt)
  inst_fair next label mark targets traps (op.CheckIf t) os h =
      guarded_fair (fetch_tested f t os ++ compared t os) t (width_at os 0) (source_at os 1 16) (reg_of (source_at os 0 15)) label []
      (well_append (fetch_tested f t os) (compared t os) (tested_well f limit t os) (compared_well f limit t os h.small h.fits)) tt h.fits
      (source_small 15 (arg_at os 0) (omega arith) (h.small 0)) h.most
  inst_fair next label mark targets traps op.CheckAdd os h = checked_fair label Sum os h.small h.most
  inst_fair next label mark targets traps op.CheckSub os h = checked_fair label Difference os h.small h.most
  inst_fair next label mark targets traps op.CheckMul os h = checked_fair label Product os h.small h.most
  inst_fair next label mark targets traps o os h = inner_fair mark traps o os h.small h.fits

-- ---- the procedure

allocatable_small : (r : ℕ) → (r ≤ 14) ⊎ ((19 ≤ r) × (r ≤ 28)) → r ≤ 30
allocatable_small r is = ⊎_elim (λ (le : r ≤ 14). omega arith) (λ (h : (19 ≤ r) × (r ≤ 28)). omega (arith, h.1)) is

home_small : (p : AirProc) (role : Role) (home : Home) → MayName p role home → IsSmallHome home
home_small p EarlyDef (Reg r) named = named.0
home_small p Clobber (Reg r) named = named.0
home_small p Use (Reg r) named = allocatable_small r.0 named
home_small p LateUse (Reg r) named = allocatable_small r.0 named
home_small p Def (Reg r) named = allocatable_small r.0 named
home_small p role (Spill n) named = tt
home_small p role (Tmp n) named = tt

named_small : (p : AirProc) (role : Role) (arg : Arg) → NamesOwn p role arg → IsSmallArg arg
named_small p role (At home) named = home_small p role home named
named_small p role (Imm word) named = tt
named_small p role (Addr base offset) named = home_small p role base named
named_small p role (Index base index shift) named = (home_small p role base named.0, home_small p role index named.1)
named_small p role (FrameSlot n) named = tt

pub names_small : (p : AirProc) (os : List Operand) → All (λ (o : Operand). NamesOwn p o.role o.arg) os → AreSmall os
names_small p os named k =
    let none : Operand = record { role = Use; width = W64; arg = Imm 0 } in
    ⊎_elim
    (λ lt. named_small p (get_or os k none).role (get_or os k none).arg (named k none lt))
    (λ ge. subst (λ (o : Operand). IsSmallArg o.arg) (sym (get_or_none os k none ge)) tt)
    (cases_lt k (length os))

module _ (p : AirProc) (f : Frame) (well : IsGoodProc p) (limit : f.bytes < 2 ^ 21) (goods : All (IsGoodSaved f.bytes) f.saved) where
  abbrev IsFairHere : Item → Type 0
  IsFairHere = IsFair (all_labels p)

  insts_fair : (next label mark : ℕ) (targets : List ℕ) (insts : List AirInst) → All (IsGoodInst p) insts
      → ((j : ℕ) → j < length targets → get_or targets j 0 < length p.blocks) → label + sum_by labels_of insts ≤ all_labels p
      → Each IsFairHere (insts_items f next label mark targets insts)
  unfolding insts_items
  insts_fair next label mark targets [] good below most = tt
  insts_fair next label mark targets (i ∷ insts) good below most =
      let here = All-head (IsGoodInst p) i insts good in
      let sum = sum_by-cons labels_of i insts in
      let some = well.entry in
      each_append IsFairHere (inst_items f next label mark targets i.traps i.op i.operands)
      (insts_items f next (label + labels_of i) (mark + marks_of i) targets insts)
      (inst_fair f limit goods (all_labels p) (omega arith) next label mark targets i.traps i.op i.operands
      (record {
        small = names_small p i.operands here.names;
        fits = fitting p i.op i.operands here.operands here.names;
        below = λ j lt. let less = below j lt in omega arith;
        most = omega arith;
      }))
      (insts_fair next (label + labels_of i) (mark + marks_of i) targets insts (All-tail (IsGoodInst p) i insts good) below (omega arith))

  blocks_fair : (first label mark : ℕ) (blocks : List AirBlock) → All (IsGoodBlock p) blocks → first + length blocks ≤ length p.blocks
      → label + sum_by block_labels blocks ≤ all_labels p → Each IsFairHere (blocks_items f first label mark blocks)
  unfolding blocks_items
  blocks_fair first label mark [] good le most = tt
  blocks_fair first label mark (block ∷ blocks) good le most =
      let here = All-head (IsGoodBlock p) block blocks good in
      let sum = sum_by-cons block_labels block blocks in (
        omega arith,
        each_append IsFairHere (insts_items f (first + 1) label mark block.targets block.insts)
            (blocks_items f (first + 1) (label + block_labels block) (mark + block_marks block) blocks)
            (insts_fair (first + 1) label mark block.targets block.insts here.insts (λ j lt. (here.targets j 0 lt).1) (omega arith))
            (blocks_fair (first + 1) (label + block_labels block) (mark + block_marks block) blocks (All-tail (IsGoodBlock p) block blocks good)
            (omega arith) (omega arith)),
      )

  exit_label : (o : AirOp) → (if has_exit (kind_of o) then 1 else 0) ≤ own_labels o
  exit_label (op.Switch cases) = omega arith
  exit_label o = omega arith

  insts_out : (label mark : ℕ) (insts : List AirInst) → label + sum_by labels_of insts ≤ all_labels p → Each IsFairHere (insts_exits label mark insts)
  unfolding insts_exits
  insts_out label mark [] most = tt
  insts_out label mark (i ∷ insts) most =
      let sum = sum_by-cons labels_of i insts in
      let one = exit_label i.op in
      each_append IsFairHere (inst_exits label mark i) (insts_exits (label + labels_of i) (mark + exits_of i) insts)
      (exit_fair f limit goods (all_labels p) (let some = well.entry in omega arith) label mark (has_exit (kind_of i.op)) (omega arith))
      (insts_out (label + labels_of i) (mark + exits_of i) insts (omega arith))

  blocks_out : (label mark : ℕ) (blocks : List AirBlock) → label + sum_by block_labels blocks ≤ all_labels p
      → Each IsFairHere (blocks_exits label mark blocks)
  unfolding blocks_exits
  blocks_out label mark [] most = tt
  blocks_out label mark (block ∷ blocks) most =
      let sum = sum_by-cons block_labels block blocks in
      each_append IsFairHere (insts_exits label mark block.insts) (blocks_exits (label + block_labels block) (mark + block_exits block) blocks)
      (insts_out label mark block.insts (omega arith)) (blocks_out (label + block_labels block) (mark + block_exits block) blocks (omega arith))

  pub code_fair : Each (IsFair (all_labels p)) (emitted p f)
  unfolding emitted
  code_fair =
      let rest : List Item = blocks_items f 0 (length p.blocks) 0 p.blocks in
      let out : List Item = blocks_exits (length p.blocks) (inner_marks p.blocks) p.blocks in
      each_append IsFairHere (plains (prologue f)) (rest ++ out) (plains_fair (all_labels p) (prologue f) (prologue_well f limit goods))
      (each_append IsFairHere rest out (blocks_fair 0 (length p.blocks) 0 p.blocks well.blocks (omega arith) (omega arith))
      (blocks_out (length p.blocks) (inner_marks p.blocks) p.blocks (omega arith)))
