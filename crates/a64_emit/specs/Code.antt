-- The code of a procedure.
use Rattle.std.specs.Prelude.{ℕ, zero, suc, ◌+◌, ◌-◌, Bool, true, false, not, nat_eq, nat_lt, if◌then◌else◌, List, [], ◌∷◌, ◌++◌, length, get_or, sum_by}
use Rattle.b3_base.specs.declared.word.Width.{Width}
use Rattle.b3_base.specs.declared.word.Width.TheVariants.{W32, W64}
use Rattle.b3_ir.specs.declared.value.Reg.{Reg as Register}
use Rattle.a64_inst.specs.StepMemory.{is_store}
use Rattle.a64_inst.specs.declared.inst.AccessKind.{AccessKind}
use Rattle.a64_inst.specs.declared.inst.BranchKind.TheVariants.{Blr}
use Rattle.a64_inst.specs.declared.inst.Inst.{Inst}
use Rattle.a64_inst.specs.declared.inst.Inst.TheVariants.{AccessIndex, BranchReg, Break, Nop, Select}
use Rattle.a64_inst.specs.declared.item.Item.{Item}
use Rattle.a64_inst.specs.declared.item.Item.TheVariants.{If, IfBit, IfZero, Label, Mark, Plain}
use Rattle.a64_layout.specs.Branch.{opposite_cond}
use Rattle.a64_checked.specs.Checks.{comparing, making, passing}
use Rattle.b3_meaning.specs.declared.role.Checked.{Checked}
use Rattle.b3_meaning.specs.declared.role.Checked.TheVariants.{Sum, Difference, Product}
use Rattle.air_ir.specs.Kinds.{Calls, Checks, ChecksResult, Kind, Loads, Patches, Stores, kind_of}
use Rattle.air_ir.specs.declared.frame.Frame.{Frame}
use Rattle.air_ir.specs.declared.op.AirOp.{AirOp}
use Rattle.air_ir.specs.declared.op.AirOp.TheVariants as op
use Rattle.air_ir.specs.declared.op.Test.{Test}
use Rattle.air_ir.specs.declared.op.Test.TheVariants.{Compare, NonZero, Bit}
use Rattle.air_ir.specs.declared.operand.Arg.{Arg}
use Rattle.air_ir.specs.declared.operand.Arg.TheVariants.{At, Imm, Addr, Index, FrameSlot}
use Rattle.air_ir.specs.declared.operand.Home.{Home}
use Rattle.air_ir.specs.declared.operand.Home.TheVariants.{Reg, Spill, Tmp}
use Rattle.air_ir.specs.declared.operand.Operand.{Operand}
use Rattle.air_ir.specs.declared.operand.Role.TheVariants.{Use}
use Rattle.air_ir.specs.declared.procedure.AirBlock.{AirBlock}
use Rattle.air_ir.specs.declared.procedure.AirInst.{AirInst}
use Rattle.air_ir.specs.declared.procedure.AirProc.{AirProc}
use Rattle.air_shuffle.specs.declared.moves.Move.{Move}
use Rattle.air_shuffle.specs.Sequenced.{sequenced}
use Rattle.a64_code.specs.declared.source.Source.{Source}
use Rattle.a64_code.specs.declared.source.Source.TheVariants.{InReg, Constant}
use Rattle.a64_code.specs.Accesses.{access_kind, below_x29, offset_access}
use Rattle.a64_code.specs.Computing.{computing, condition, move_reg, reg_of, takes_two, testing}
use Rattle.a64_code.specs.Constants.{constant}
use Rattle.a64_code.specs.Places.{above_sp, epilogue, load_at, plains, prologue, spill_offset, store_at}
use Rattle.a64_emit.specs.Switched.{jump_to, switch_items, switch_labels}

-- ---- marks

-- instructions as items, with a mark between them where there is to be one
abbrev pub marked_if : Bool → ℕ → List Item
marked_if true mark = Mark mark ∷ []
marked_if false mark = []

abbrev pub with_mark : Bool → ℕ → List Inst → List Inst → List Item
with_mark marks mark before behind = plains before ++ marked_if marks mark ++ plains behind

-- ---- operands

abbrev pub operand_at : List Operand → ℕ → Operand
operand_at os k = get_or os k (record { role = Use; width = W64; arg = Imm 0 })

abbrev pub arg_at : List Operand → ℕ → Arg
arg_at os k = (operand_at os k).arg

abbrev pub width_at : List Operand → ℕ → Width
width_at os k = (operand_at os k).width

-- where the word of an argument is once it is fetched: what stands in a spill place in the scratch register
abbrev pub source_of : ℕ → Arg → Source
source_of scratch (At (Reg reg)) = InReg reg.0
source_of scratch (Imm word) = Constant word
source_of scratch _ = InReg scratch

unfoldable pub fetch : Frame → ℕ → Arg → List Inst
fetch f scratch (At (Spill n)) = load_at scratch (above_sp f (spill_offset f n))
fetch f scratch _ = []

-- operand k is fetched where it is one of the first n
abbrev pub fetch_below : ℕ → Frame → List Operand → ℕ → ℕ → List Inst
fetch_below n f os k scratch = if nat_lt k n then fetch f scratch (arg_at os k) else []

abbrev pub source_at : List Operand → ℕ → ℕ → Source
source_at os k scratch = source_of scratch (arg_at os k)

-- the register in which a result is made, and what puts it in its place
abbrev pub result_reg : Arg → ℕ
result_reg (At (Reg reg)) = reg.0
result_reg _ = 17

unfoldable pub put_result : Frame → ℕ → Arg → List Inst
put_result f reg (At (Spill n)) = store_at reg (above_sp f (spill_offset f n))
put_result f reg _ = []

abbrev pub result_at : List Operand → Arg
result_at os = arg_at os (length os - 1)

-- ---- instructions

-- a word brought to a register
unfoldable pub bring : Frame → Width → ℕ → Arg → List Inst
bring f width reg (At (Reg from)) = if nat_eq reg from.0 then [] else move_reg width reg from.0 ∷ []
bring f width reg (At (Spill n)) = load_at reg (above_sp f (spill_offset f n))
bring f width reg (Imm word) = constant width reg word
bring f width reg _ = []

-- the register to which a copied word is brought, and from which it is stored in a spill place: its own where it has
-- one, else x16, since x17 keeps a word while the copies of a Shuffle are carried out
abbrev pub copy_reg : Arg → Arg → ℕ
copy_reg (At (Reg from)) (At (Spill n)) = from.0
copy_reg from (At (Spill n)) = 16
copy_reg from to = result_reg to

abbrev pub copy_code : Frame → Width → Arg → Arg → List Inst
copy_code f width from to = bring f width (copy_reg from to) from ++ put_result f (copy_reg from to) to

-- ---- Shuffles

-- the register that keeps a word while the copies of a Shuffle are carried out
abbrev pub kept_register : Register
kept_register = record { 0 = 17 }

-- the home of an argument, where it is one
abbrev pub home_of : Arg → Home
home_of (At home) = home
home_of _ = Tmp 0

-- pairs of a source and a destination as moves
unfoldable pub moves_of : List Operand → List Move
moves_of (from ∷ to ∷ os) = record { from = from.arg; to = home_of to.arg; width = from.width } ∷ moves_of os
moves_of (o ∷ []) = []
moves_of [] = []

-- moves, one after the other
unfoldable pub copies_code : Frame → List Move → List Inst
copies_code f [] = []
copies_code f (m ∷ ms) = copy_code f m.width m.from (At m.to) ++ copies_code f ms

-- a Shuffle: its moves in an order in which they do what all of them do at once (the law `sequences_are_right`)
abbrev pub shuffle_code : Frame → List Operand → List Inst
shuffle_code f os = copies_code f (sequenced kept_register (moves_of os))

-- ---- ops that compute

abbrev pub compute_code : Frame → AirOp → List Operand → List Inst
compute_code f op os =
    fetch_below (length os - 1) f os 0 15 ++ fetch_below (length os - 1) f os 1 16 ++ fetch_below (length os - 1) f os 2 17
    ++ computing op (width_at os 0) (result_reg (result_at os)) (source_at os 0 15) (source_at os 1 16) (source_at os 2 17)
    ∷ put_result f (result_reg (result_at os)) (result_at os)

-- the words that a test takes, and how many they are
abbrev pub test_count : Test → ℕ
test_count test = if takes_two test then 2 else 1

abbrev pub fetch_tested : Frame → Test → List Operand → List Inst
fetch_tested f test os = fetch f 15 (arg_at os 0) ++ fetch_below (test_count test) f os 1 16

abbrev pub test_at : Test → List Operand → Inst
test_at test os = testing test (width_at os 0) (source_at os 0 15) (source_at os 1 16)

abbrev pub set_code : Frame → Test → List Operand → List Inst
set_code f test os =
    fetch_tested f test os
    ++ test_at test os
    ∷ Select W32 true (result_reg (result_at os)) 31 31 (opposite_cond (condition test))
    ∷ put_result f (result_reg (result_at os)) (result_at os)

abbrev pub select_code : Frame → Test → List Operand → List Inst
select_code f test os =
    let n : ℕ = test_count test in
    fetch_tested f test os
    ++ test_at test os
    ∷ fetch f 15 (arg_at os n) ++ fetch f 16 (arg_at os (n + 1))
    ++ Select (width_at os n) false (result_reg (result_at os)) (reg_of (source_at os n 15)) (reg_of (source_at os (n + 1) 16)) (condition test)
    ∷ put_result f (result_reg (result_at os)) (result_at os)

-- ---- memory

-- the homes of an address are fetched
unfoldable pub fetch_address : Frame → Arg → List Inst
fetch_address f (Addr base offset) = fetch f 15 (At base)
fetch_address f (Index base index shift) = fetch f 15 (At base) ++ fetch f 16 (At index)
fetch_address f _ = []

-- an access of a register at an address
abbrev pub access_inst : AccessKind → ℕ → Arg → Inst
access_inst kind rt (Addr base offset) = offset_access kind rt (reg_of (source_of 15 (At base))) offset
access_inst kind rt (Index base index shift) =
    AccessIndex (not (is_store kind)) rt (reg_of (source_of 15 (At base))) (reg_of (source_of 16 (At index)))
    (nat_eq shift 3)
access_inst kind rt _ = Nop

abbrev pub load_inst : AirOp → List Operand → Inst
load_inst op os = access_inst (access_kind op (width_at os 0)) (result_reg (arg_at os 1)) (arg_at os 0)

abbrev pub load_code : Frame → AirOp → List Operand → List Inst
load_code f op os = fetch_address f (arg_at os 0) ++ load_inst op os ∷ put_result f (result_reg (arg_at os 1)) (arg_at os 1)

-- what is fetched for a store
abbrev pub fetch_stored : Frame → List Operand → List Inst
fetch_stored f os = fetch_address f (arg_at os 1) ++ fetch f 17 (arg_at os 0)

abbrev pub store_inst : AirOp → List Operand → Inst
store_inst op os = access_inst (access_kind op (width_at os 0)) (reg_of (source_of 17 (arg_at os 0))) (arg_at os 1)

abbrev pub store_code : Frame → AirOp → List Operand → List Inst
store_code f op os = fetch_stored f os ++ store_inst op os ∷ []

-- where an access traps a mark stands right before it
abbrev pub load_items : Frame → ℕ → Bool → AirOp → List Operand → List Item
load_items f mark traps op os =
    with_mark traps mark (fetch_address f (arg_at os 0))
    (load_inst op os ∷ put_result f (result_reg (arg_at os 1)) (arg_at os 1))

abbrev pub store_items : Frame → ℕ → Bool → AirOp → List Operand → List Item
store_items f mark traps op os = with_mark traps mark (fetch_stored f os) (store_inst op os ∷ [])

-- how far below x29 a slot stands
abbrev pub slot_offset : Frame → Arg → ℕ
slot_offset f (FrameSlot n) = get_or f.slots n 0
slot_offset f _ = 0

-- the address so many bytes below x29, in a place
abbrev pub frame_address : Frame → ℕ → Arg → List Inst
frame_address f bytes to = below_x29 (result_reg to) bytes ++ put_result f (result_reg to) to

-- ---- calls and patchpoints

-- the words of a patchpoint, which are filled in later
unfoldable pub breaks : ℕ → List Inst
breaks zero = []
breaks (suc n) = Break 2 ∷ breaks n

abbrev pub call_inst : List Operand → Inst
call_inst os = BranchReg Blr (reg_of (source_at os 0 15))

-- ---- each op

-- the code of an instruction that doesn't end its block
unfoldable pub inst_code : Frame → AirOp → List Operand → List Inst
inst_code f op.Move os = copy_code f (width_at os 0) (arg_at os 0) (arg_at os 1)
inst_code f op.Shuffle os = shuffle_code f os
inst_code f (op.SetIf test) os = set_code f test os
inst_code f (op.SelectIf test) os = select_code f test os
inst_code f op.Load8Z os = load_code f op.Load8Z os
inst_code f op.Load8S os = load_code f op.Load8S os
inst_code f op.Load16Z os = load_code f op.Load16Z os
inst_code f op.Load16S os = load_code f op.Load16S os
inst_code f op.Load os = load_code f op.Load os
inst_code f op.Store8 os = store_code f op.Store8 os
inst_code f op.Store16 os = store_code f op.Store16 os
inst_code f op.Store os = store_code f op.Store os
inst_code f op.SlotAddress os = frame_address f (slot_offset f (arg_at os 0)) (arg_at os 1)
inst_code f op.FramePointer os = frame_address f 0 (arg_at os 0)
inst_code f op os = compute_code f op os

-- ---- terminals

-- a branch to a label where a test passes, or where it doesn't
abbrev pub branch_item : Test → Bool → Width → ℕ → ℕ → Item
branch_item (Compare cond) passes width reg label = If (if passes then cond else opposite_cond cond) label
branch_item NonZero passes width reg label = IfZero width passes reg label
branch_item (Bit bit) passes width reg label = IfBit passes reg bit label

abbrev pub branches : Test → Width → ℕ → ℕ → ℕ → ℕ → List Item
branches test width reg next then_label else_label =
    if nat_eq then_label next then branch_item test false width reg else_label ∷ [] else
    branch_item test true width reg then_label ∷ jump_to next else_label

-- the flags are asked by a comparison alone
abbrev pub compared : Test → List Operand → List Inst
compared (Compare cond) os = test_at (Compare cond) os ∷ []
compared test os = []

abbrev pub branch_code : Frame → ℕ → List ℕ → Test → List Operand → List Item
branch_code f next targets test os =
    plains (fetch_tested f test os ++ compared test os)
    ++ branches test (width_at os 0) (reg_of (source_at os 0 15)) next (get_or targets 0 0) (get_or targets 1 0)

-- ---- checks

-- a branch to an exit where a test passes; the exit stands behind the last block
abbrev pub guarded : List Inst → Test → Width → ℕ → ℕ → List Inst → List Item
guarded before test width reg label behind = plains before ++ branch_item test true width reg label ∷ plains behind

abbrev pub check_items : Frame → ℕ → Test → List Operand → List Item
check_items f label test os =
    guarded (fetch_tested f test os ++ compared test os) test (width_at os 0) (reg_of (source_at os 0 15)) label []

abbrev pub fetch_checked : Frame → Checked → List Operand → List Inst
fetch_checked f kind os =
    fetch f 15 (arg_at os 0)
    ++ (fetch f 16 (arg_at os 1) ++ comparing kind (width_at os 0) (reg_of (source_at os 0 15)) (reg_of (source_at os 1 16)))

abbrev pub make_checked : Frame → Checked → List Operand → List Inst
make_checked f kind os =
    making kind (width_at os 0) (result_reg (result_at os)) (reg_of (source_at os 0 15)) (reg_of (source_at os 1 16))
    ++ put_result f (result_reg (result_at os)) (result_at os)

-- the result is made where it doesn't pass its width
abbrev pub checked_items : Frame → ℕ → Checked → List Operand → List Item
checked_items f label kind os =
    guarded (fetch_checked f kind os) (Compare (passing kind)) (width_at os 0) 0 label (make_checked f kind os)

-- an exit: its label, its mark and its break
abbrev pub exit_items : ℕ → ℕ → List Item
exit_items label mark = Label label ∷ Mark mark ∷ Plain (Break 1) ∷ []

-- the items of an instruction that doesn't end its block, where its mark has this number
unfoldable pub inner_items : Frame → ℕ → Bool → AirOp → List Operand → List Item
inner_items f mark traps op.Load8Z os = load_items f mark traps op.Load8Z os
inner_items f mark traps op.Load8S os = load_items f mark traps op.Load8S os
inner_items f mark traps op.Load16Z os = load_items f mark traps op.Load16Z os
inner_items f mark traps op.Load16S os = load_items f mark traps op.Load16S os
inner_items f mark traps op.Load os = load_items f mark traps op.Load os
inner_items f mark traps op.Store8 os = store_items f mark traps op.Store8 os
inner_items f mark traps op.Store16 os = store_items f mark traps op.Store16 os
inner_items f mark traps op.Store os = store_items f mark traps op.Store os
inner_items f mark traps (op.Call typed) os = with_mark true mark (fetch f 15 (arg_at os 0)) (call_inst os ∷ [])
inner_items f mark traps (op.Patch size typed) os = with_mark true mark [] (breaks size)
inner_items f mark traps op os = plains (inst_code f op os)

-- the items of an instruction of a block with these targets, before the block `next`; a Switch may use labels from
-- `label` on, and the exit of a check has that one
unfoldable pub inst_items : Frame → ℕ → ℕ → ℕ → List ℕ → Bool → AirOp → List Operand → List Item
inst_items f next label mark targets traps (op.BranchIf test) os = branch_code f next targets test os
inst_items f next label mark targets traps op.Jump os = jump_to next (get_or targets 0 0)
inst_items f next label mark targets traps (op.Switch cases) os =
    plains (fetch f 15 (arg_at os 0)) ++ switch_items (width_at os 0) (reg_of (source_at os 0 15)) next label cases targets
inst_items f next label mark targets traps op.Return os = plains (epilogue f)
inst_items f next label mark targets traps op.Oops os = Plain (Break 3) ∷ []
inst_items f next label mark targets traps (op.CheckIf test) os = check_items f label test os
inst_items f next label mark targets traps op.CheckAdd os = checked_items f label Sum os
inst_items f next label mark targets traps op.CheckSub os = checked_items f label Difference os
inst_items f next label mark targets traps op.CheckMul os = checked_items f label Product os
inst_items f next label mark targets traps op os = inner_items f mark traps op os

-- ---- blocks

-- how many labels an instruction has of its own
abbrev pub own_labels : AirOp → ℕ
own_labels (op.Switch cases) = switch_labels cases
own_labels (op.CheckIf test) = 1
own_labels op.CheckAdd = 1
own_labels op.CheckSub = 1
own_labels op.CheckMul = 1
own_labels _ = 0

-- whether a mark stands within the items of an instruction of this kind
abbrev pub has_mark : Kind → Bool → Bool
has_mark (Loads extent extends) traps = traps
has_mark (Stores extent) traps = traps
has_mark (Calls typed) traps = true
has_mark (Patches typed) traps = true
has_mark _ traps = false

-- how many marks stand there
abbrev pub own_marks : AirOp → Bool → ℕ
own_marks op traps = if has_mark (kind_of op) traps then 1 else 0

-- whether an instruction of this kind has an exit
abbrev pub has_exit : Kind → Bool
has_exit (Checks test) = true
has_exit (ChecksResult checked) = true
has_exit _ = false

-- how many exits an instruction has
abbrev pub own_exits : AirOp → ℕ
own_exits op = if has_exit (kind_of op) then 1 else 0

abbrev pub labels_of : AirInst → ℕ
labels_of i = own_labels i.op

abbrev pub marks_of : AirInst → ℕ
marks_of i = own_marks i.op i.traps

abbrev pub exits_of : AirInst → ℕ
exits_of i = own_exits i.op

unfoldable pub insts_items : Frame → ℕ → ℕ → ℕ → List ℕ → List AirInst → List Item
insts_items f next label mark targets [] = []
insts_items f next label mark targets (i ∷ is) =
    inst_items f next label mark targets i.traps i.op i.operands
    ++ insts_items f next (label + labels_of i) (mark + marks_of i) targets is

abbrev pub block_labels : AirBlock → ℕ
block_labels b = sum_by labels_of b.insts

abbrev pub block_marks : AirBlock → ℕ
block_marks b = sum_by marks_of b.insts

-- the items of blocks, the first of which has this number; their own labels are those from `label` on, and their marks
-- those from `mark` on
unfoldable pub blocks_items : Frame → ℕ → ℕ → ℕ → List AirBlock → List Item
blocks_items f b label mark [] = []
blocks_items f b label mark (block ∷ blocks) =
    Label b ∷ insts_items f (b + 1) label mark block.targets block.insts
    ++ blocks_items f (b + 1) (label + block_labels block) (mark + block_marks block) blocks

-- the exits of instructions and of blocks, in order: each has the label of its check, and their marks are those from
-- `mark` on
abbrev pub exits_by : Bool → ℕ → ℕ → List Item
exits_by true label mark = exit_items label mark
exits_by false label mark = []

abbrev pub inst_exits : ℕ → ℕ → AirInst → List Item
inst_exits label mark i = exits_by (has_exit (kind_of i.op)) label mark

unfoldable pub insts_exits : ℕ → ℕ → List AirInst → List Item
insts_exits label mark [] = []
insts_exits label mark (i ∷ is) =
    inst_exits label mark i ++ insts_exits (label + labels_of i) (mark + exits_of i) is

abbrev pub block_exits : AirBlock → ℕ
block_exits b = sum_by exits_of b.insts

unfoldable pub blocks_exits : ℕ → ℕ → List AirBlock → List Item
blocks_exits label mark [] = []
blocks_exits label mark (block ∷ blocks) =
    insts_exits label mark block.insts
    ++ blocks_exits (label + block_labels block) (mark + block_exits block) blocks

-- how many marks stand within the items of blocks
abbrev pub inner_marks : List AirBlock → ℕ
inner_marks blocks = sum_by block_marks blocks

unfoldable pub emitted : AirProc → Frame → List Item
emitted p f =
    plains (prologue f)
    ++ (blocks_items f 0 (length p.blocks) 0 p.blocks ++ blocks_exits (length p.blocks) (inner_marks p.blocks) p.blocks)
