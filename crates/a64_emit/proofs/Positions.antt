-- Where the blocks stand in the code of a procedure.
use Rattle.std.proofs.Common.{◌≡◌, ℕ, zero, suc, ◌+◌, ◌<◌, ◌≤◌, ◌⊎◌, Bool, true, false, not, cond, ⊎_elim, List, [], ◌∷◌, ◌++◌, Some, length, get_or, refl, sym, ap, ◌∙◌, subst, arith, append_assoc, length-append, eq-eqb}
use Rattle.std.proofs.lemmas.List.{append-nil}
use Rattle.std.proofs.lemmas.Option.{slice_get-get_or, slice_get_within}
use Rattle.std.specs.Prelude.{nat_eq, slice_get, if◌then◌else◌}
use Rattle.std.specs.List.{flat_map, position_or_len, sum_by}
use Rattle.std.proofs.lemmas.List.Sums.{sum_by-cons}
use Rattle.stackmap.specs.declared.site.Site.{Site}
use Rattle.b3_meaning.specs.declared.role.Checked.TheVariants.{Sum, Difference, Product}
use Rattle.a64_checked.specs.Checks.{passing}
use Rattle.air_ir.specs.Kinds.{Checks, ChecksResult, Kind, Loads, Stores, kind_of}
use Rattle.std.proofs.lemmas.Bool.{cases_lt, ne_eqb}
use Rattle.b3_base.proofs.Lists.{get_front, get_behind}
use Rattle.a64_inst.specs.declared.inst.Cond.TheVariants.{Eq, Hi}
use Rattle.a64_inst.specs.declared.inst.Inst.{Inst}
use Rattle.a64_inst.specs.declared.item.Item.{Item}
use Rattle.a64_inst.specs.declared.item.Item.TheVariants.{If, IfBit, IfZero, Jump, Label, Mark, Plain}
use Rattle.b3_base.specs.declared.word.Width.{Width}
use Rattle.air_ir.specs.declared.frame.Frame.{Frame}
use Rattle.air_ir.specs.declared.op.AirOp.{AirOp}
use Rattle.air_ir.specs.declared.op.AirOp.TheVariants as op
use Rattle.air_ir.specs.declared.op.Test.{Test}
use Rattle.air_ir.specs.declared.op.Test.TheVariants.{Compare, NonZero, Bit}
use Rattle.air_ir.specs.declared.operand.Operand.{Operand}
use Rattle.air_ir.specs.declared.procedure.AirBlock.{AirBlock}
use Rattle.air_ir.specs.declared.procedure.AirInst.{AirInst}
use Rattle.air_ir.specs.declared.procedure.AirProc.{AirProc}
use Rattle.a64_layout.specs.Layout.{is_label, position_of}
use Rattle.a64_layout.specs.Text.{is_any_label}
use Rattle.a64_emit.specs.Code.{arg_at, block_exits, block_labels, block_marks, blocks_exits, blocks_items, branch_item, branches, compared, emitted, exits_of, fetch, fetch_address, fetch_stored, fetch_tested, has_exit, has_mark, inner_marks, insts_exits, own_exits, inner_items, inst_code, inst_items, insts_items, labels_of, load_inst, load_items, marks_of, own_labels, put_result, result_reg, source_at, store_inst, store_items, width_at, with_mark, breaks, call_inst, guarded, fetch_checked, make_checked}
use Rattle.a64_code.specs.Computing.{reg_of}
use Rattle.a64_emit.specs.Made.{block_exit_sites, block_sites, exit_by, exit_sites, inner_sites, inst_exit, inst_sites, procedure_sites, sites_by, trap_site}
use Rattle.a64_code.specs.Places.{epilogue, plains, prologue}
use Rattle.a64_emit.specs.Switched.{case_items, cases_in_order, compare_word, jump_to, search_items, switch_items}
use Rattle.a64_emit.specs.Trees.{Leaf, Node, Tree, node_count, tree}
use Rattle.a64_emit.specs.declared.case.Case.{Case}
use Rattle.a64_emit.proofs.Trees.{Each, each_append, each_weaker}

-- ---- items one after the other

-- these stand among others from the k-th on
abbrev pub Among : {X : Type 0} → List X → ℕ → List X → Type 0
Among {X = X} code k items = (j : ℕ) (item : X) → slice_get items j ≡ Some item → slice_get code (k + j) ≡ Some item

pub among_split : (code before items rest : List Item) → code ≡ before ++ (items ++ rest) → Among code (length before) items
among_split code before items rest split j item there =
    ap (λ (xs : List Item). slice_get xs (length before + j)) split ∙ get_behind before (items ++ rest) j ∙ get_front items rest j item there

pub among_first : {X : Type 0} (code : List X) (k : ℕ) (xs ys : List X) → Among code k (xs ++ ys) → Among code k xs
among_first code k xs ys among j item there = among j item (get_front xs ys j item there)

pub among_rest : {X : Type 0} (code : List X) (k : ℕ) (xs ys : List X) → Among code k (xs ++ ys) → Among code (k + length xs) ys
among_rest code k xs ys among j item there =
    ap (slice_get code) (omega arith) ∙ among (length xs + j) item (get_behind xs ys j ∙ there)

-- ---- items within a block

-- an item that is no label
abbrev pub IsUnlabelled : Item → Type 0
IsUnlabelled item = is_any_label item ≡ false

pub plains_unlabelled : (insts : List Inst) → Each IsUnlabelled (plains insts)
plains_unlabelled [] = tt
plains_unlabelled (inst ∷ insts) = (refl, plains_unlabelled insts)

pub jump_unlabelled : (next label : ℕ) → Each IsUnlabelled (jump_to next label)
jump_unlabelled next label = elim (nat_eq label next) as (λ b. Each IsUnlabelled (if b then [] else Jump label ∷ [])) [ true ↦ tt | false ↦ (refl, tt) ]

branch_item_unlabelled : (test : Test) (passes : Bool) (width : Width) (reg label : ℕ) → IsUnlabelled (branch_item test passes width reg label)
branch_item_unlabelled (Compare cond) passes width reg label = refl
branch_item_unlabelled NonZero passes width reg label = refl
branch_item_unlabelled (Bit bit) passes width reg label = refl

guarded_unlabelled : (before : List Inst) (test : Test) (width : Width) (reg label : ℕ) (behind : List Inst)
    → Each IsUnlabelled (guarded before test width reg label behind)
guarded_unlabelled before test width reg label behind =
    each_append IsUnlabelled (plains before) (branch_item test true width reg label ∷ plains behind) (plains_unlabelled before)
    (branch_item_unlabelled test true width reg label, plains_unlabelled behind)

branches_unlabelled : (test : Test) (width : Width) (reg next then_label else_label : ℕ) → Each IsUnlabelled (branches test width reg next then_label else_label)
branches_unlabelled test width reg next then_label else_label =
    elim (nat_eq then_label next) as (λ b. Each IsUnlabelled (if b then branch_item test false width reg else_label ∷ [] else
    branch_item test true width reg then_label ∷ jump_to next else_label)) [
      | true ↦ (branch_item_unlabelled test false width reg else_label, tt)
      | false ↦ (branch_item_unlabelled test true width reg then_label, jump_unlabelled next else_label)
    ]

cases_unlabelled : (width : Width) (reg : ℕ) (cases : List Case) → Each IsUnlabelled (case_items width reg cases)
unfolding case_items
cases_unlabelled width reg [] = tt
cases_unlabelled width reg (case ∷ cases) =
    each_append IsUnlabelled (plains (compare_word width reg case.word)) (If Eq case.target ∷ case_items width reg cases)
    (plains_unlabelled (compare_word width reg case.word)) (refl, cases_unlabelled width reg cases)

-- what stands in a leaf
pub leaf_unlabelled : (width : Width) (reg other next : ℕ) (cases : List Case) → Each IsUnlabelled (case_items width reg cases ++ jump_to next other)
leaf_unlabelled width reg other next cases =
    each_append IsUnlabelled (case_items width reg cases) (jump_to next other) (cases_unlabelled width reg cases) (jump_unlabelled next other)

with_mark_unlabelled : (marks : Bool) (mark : ℕ) (before behind : List Inst) → Each IsUnlabelled (with_mark marks mark before behind)
with_mark_unlabelled true mark before behind =
    each_append IsUnlabelled (plains before ++ Mark mark ∷ []) (plains behind)
    (each_append IsUnlabelled (plains before) (Mark mark ∷ []) (plains_unlabelled before) (refl, tt)) (plains_unlabelled behind)
with_mark_unlabelled false mark before behind =
    each_append IsUnlabelled (plains before ++ []) (plains behind)
    (each_append IsUnlabelled (plains before) [] (plains_unlabelled before) tt) (plains_unlabelled behind)

load_unlabelled : (f : Frame) (mark : ℕ) (traps : Bool) (o : AirOp) (os : List Operand) → Each IsUnlabelled (load_items f mark traps o os)
load_unlabelled f mark traps o os =
    with_mark_unlabelled traps mark (fetch_address f (arg_at os 0)) (load_inst o os ∷ put_result f (result_reg (arg_at os 1)) (arg_at os 1))

store_unlabelled : (f : Frame) (mark : ℕ) (traps : Bool) (o : AirOp) (os : List Operand) → Each IsUnlabelled (store_items f mark traps o os)
store_unlabelled f mark traps o os = with_mark_unlabelled traps mark (fetch_stored f os) (store_inst o os ∷ [])

inner_unlabelled : (f : Frame) (mark : ℕ) (traps : Bool) (o : AirOp) (os : List Operand) → Each IsUnlabelled (inner_items f mark traps o os)
unfolding inner_items
inner_unlabelled f mark traps op.Load8Z os = load_unlabelled f mark traps op.Load8Z os
inner_unlabelled f mark traps op.Load8S os = load_unlabelled f mark traps op.Load8S os
inner_unlabelled f mark traps op.Load16Z os = load_unlabelled f mark traps op.Load16Z os
inner_unlabelled f mark traps op.Load16S os = load_unlabelled f mark traps op.Load16S os
inner_unlabelled f mark traps op.Load os = load_unlabelled f mark traps op.Load os
inner_unlabelled f mark traps op.Store8 os = store_unlabelled f mark traps op.Store8 os
inner_unlabelled f mark traps op.Store16 os = store_unlabelled f mark traps op.Store16 os
inner_unlabelled f mark traps op.Store os = store_unlabelled f mark traps op.Store os
inner_unlabelled f mark traps (op.Call typed) os = with_mark_unlabelled true mark (fetch f 15 (arg_at os 0)) (call_inst os ∷ [])
inner_unlabelled f mark traps (op.Patch size typed) os = with_mark_unlabelled true mark [] (breaks size)
inner_unlabelled f mark traps o os = plains_unlabelled (inst_code f o os)

-- an instruction has no label but that of its exit, or is a Switch
pub data InstShape (f : Frame) (next label mark : ℕ) (targets : List ℕ) (traps : Bool) (o : AirOp) (os : List Operand) : Type 0 where
  HasNone : (each : Each IsUnlabelled (inst_items f next label mark targets traps o os)) (same : own_labels o ≡ own_exits o)
      → InstShape f next label mark targets traps o os
  IsASwitch : (cases : List ℕ) (is : o ≡ op.Switch cases) → InstShape f next label mark targets traps o os

pub inst_shape : (f : Frame) (next label mark : ℕ) (targets : List ℕ) (traps : Bool) (o : AirOp) (os : List Operand)
    → InstShape f next label mark targets traps o os
unfolding inst_items
inst_shape f next label mark targets traps (op.BranchIf test) os =
    HasNone
    (each_append IsUnlabelled (plains (fetch_tested f test os ++ compared test os))
    (branches test (width_at os 0) (reg_of (source_at os 0 15)) next (get_or targets 0 0) (get_or targets 1 0))
    (plains_unlabelled (fetch_tested f test os ++ compared test os))
    (branches_unlabelled test (width_at os 0) (reg_of (source_at os 0 15)) next (get_or targets 0 0) (get_or targets 1 0)))
    refl
inst_shape f next label mark targets traps op.Jump os = HasNone (jump_unlabelled next (get_or targets 0 0)) refl
inst_shape f next label mark targets traps (op.Switch cases) os = IsASwitch cases refl
inst_shape f next label mark targets traps (op.CheckIf test) os =
    HasNone (guarded_unlabelled (fetch_tested f test os ++ compared test os) test (width_at os 0) (reg_of (source_at os 0 15)) label []) refl
inst_shape f next label mark targets traps op.CheckAdd os =
    HasNone (guarded_unlabelled (fetch_checked f Sum os) (Compare (passing Sum)) (width_at os 0) 0 label (make_checked f Sum os)) refl
inst_shape f next label mark targets traps op.CheckSub os =
    HasNone (guarded_unlabelled (fetch_checked f Difference os) (Compare (passing Difference)) (width_at os 0) 0 label (make_checked f Difference os)) refl
inst_shape f next label mark targets traps op.CheckMul os =
    HasNone (guarded_unlabelled (fetch_checked f Product os) (Compare (passing Product)) (width_at os 0) 0 label (make_checked f Product os)) refl
inst_shape f next label mark targets traps op.Return os = HasNone (plains_unlabelled (epilogue f)) refl
inst_shape f next label mark targets traps op.Oops os = HasNone (refl, tt) refl
inst_shape f next label mark targets traps o os = HasNone (inner_unlabelled f mark traps o os) refl

-- an item that is no label below a number
abbrev pub IsInner : ℕ → Item → Type 0
IsInner n (Label label) = n ≤ label
IsInner n item = Unit {0}

inner_of : (n : ℕ) (item : Item) → IsUnlabelled item → IsInner n item
inner_of n (Label label) none = absurd cc
inner_of n item none = tt

unlabelled_inner : (n : ℕ) (items : List Item) → Each IsUnlabelled items → Each (IsInner n) items
unlabelled_inner n items none = each_weaker IsUnlabelled (IsInner n) (inner_of n) items none

-- the labels of a search are those from its first one on
search_inner : (n : ℕ) (width : Width) (reg other next label : ℕ) (t : Tree Case) → n ≤ label → Each (IsInner n) (search_items width reg other next label t)
unfolding search_items
search_inner n width reg other next label (Leaf cases) le =
    unlabelled_inner n (case_items width reg cases ++ jump_to next other) (leaf_unlabelled width reg other next cases)
search_inner n width reg other next label (Node before case behind) le =
    let compare : List Item = plains (compare_word width reg case.word) in
    let first : List Item = search_items width reg other label (label + 1) before in
    let rest : List Item = search_items width reg other next (label + 1 + node_count before) behind in
    each_append (IsInner n) (compare ++ If Eq case.target ∷ If Hi label ∷ first) (Label label ∷ rest)
    (each_append (IsInner n) compare (If Eq case.target ∷ If Hi label ∷ first)
    (unlabelled_inner n compare (plains_unlabelled (compare_word width reg case.word)))
    (tt, (tt, search_inner n width reg other label (label + 1) before (omega arith))))
    (le, search_inner n width reg other next (label + 1 + node_count before) behind (omega arith))

switch_inner : (n : ℕ) (f : Frame) (next label mark : ℕ) (targets cases : List ℕ) (traps : Bool) (os : List Operand) → n ≤ label
    → Each (IsInner n) (inst_items f next label mark targets traps (op.Switch cases) os)
unfolding inst_items
switch_inner n f next label mark targets cases traps os le =
    each_append (IsInner n) (plains (fetch f 15 (arg_at os 0))) (switch_items (width_at os 0) (reg_of (source_at os 0 15)) next label cases targets)
    (unlabelled_inner n (plains (fetch f 15 (arg_at os 0))) (plains_unlabelled (fetch f 15 (arg_at os 0))))
    (search_inner n (width_at os 0) (reg_of (source_at os 0 15)) (get_or targets (length cases) 0) next label
    (tree (cases_in_order (width_at os 0) cases targets)) le)

inst_inner : (n : ℕ) (f : Frame) (next label mark : ℕ) (targets : List ℕ) (traps : Bool) (o : AirOp) (os : List Operand) → n ≤ label
    → Each (IsInner n) (inst_items f next label mark targets traps o os)
inst_inner n f next label mark targets traps o os le =
    elim (inst_shape f next label mark targets traps o os) as (λ x. Each (IsInner n) (inst_items f next label mark targets traps o os)) [
      | HasNone each same ↦ unlabelled_inner n (inst_items f next label mark targets traps o os) each
      | IsASwitch cases is ↦
          subst (λ o. Each (IsInner n) (inst_items f next label mark targets traps o os)) (sym is)
          (switch_inner n f next label mark targets cases traps os le)
    ]

insts_inner : (n : ℕ) (f : Frame) (next label mark : ℕ) (targets : List ℕ) (insts : List AirInst) → n ≤ label
    → Each (IsInner n) (insts_items f next label mark targets insts)
unfolding insts_items
insts_inner n f next label mark targets [] le = tt
insts_inner n f next label mark targets (i ∷ is) le =
    each_append (IsInner n) (inst_items f next label mark targets i.traps i.op i.operands)
    (insts_items f next (label + labels_of i) (mark + marks_of i) targets is)
    (inst_inner n f next label mark targets i.traps i.op i.operands le)
    (insts_inner n f next (label + labels_of i) (mark + marks_of i) targets is (omega arith))

-- ---- positions of labels

-- an item that isn't this label
abbrev pub IsNot : ℕ → Item → Type 0
IsNot label item = is_label label item ≡ false

is_not : (n label : ℕ) (item : Item) → label < n → IsInner n item → IsNot label item
is_not n label (Plain inst) lt inner = refl
is_not n label (Jump to) lt inner = refl
is_not n label (If cond to) lt inner = refl
is_not n label (IfZero width nonzero reg to) lt inner = refl
is_not n label (IfBit nonzero reg at to) lt inner = refl
is_not n label (Label to) lt inner = ne_eqb to label (λ e. omega arith)
is_not n label (Mark mark) lt inner = refl

pub none_is : (n label : ℕ) (items : List Item) → label < n → Each (IsInner n) items → Each (IsNot label) items
none_is n label [] lt inner = tt
none_is n label (item ∷ items) lt inner = (is_not n label item lt inner.0, none_is n label items lt inner.1)

first_is : (label : ℕ) (rest : List Item) → position_or_len (is_label label) (Label label ∷ rest) ≡ 0
first_is label rest = ap (λ b. cond (not b) (1 + position_or_len (is_label label) rest) 0) (eq-eqb label label refl)

first_not : (label : ℕ) (item : Item) (rest : List Item) → IsNot label item → position_or_len (is_label label) (item ∷ rest) ≡ 1 + position_or_len (is_label label) rest
first_not label item rest none = ap (λ b. cond (not b) (1 + position_or_len (is_label label) rest) 0) none

position_after : (label : ℕ) (before rest : List Item) → Each (IsNot label) before → position_or_len (is_label label) (before ++ Label label ∷ rest) ≡ length before
position_after label [] rest none = first_is label rest
position_after label (item ∷ before) rest none =
    let more = position_after label before rest none.1 in
    first_not label item (before ++ Label label ∷ rest) none.0 ∙ omega arith

pub position_behind : (label : ℕ) (before rest : List Item) → Each (IsNot label) before → position_of (before ++ Label label ∷ rest) label ≡ length before
unfolding position_of
position_behind label before rest none = position_after label before rest none

-- ---- the sites of blocks

counted_by : (f : Frame) (kind : Kind) (i : AirInst) → length (sites_by kind f i) ≡ (if has_mark kind i.traps then 1 else 0)
counted_by f (Loads extent extends) i = elim i.traps as (λ b. length (if b then trap_site i.value ∷ [] else []) ≡ (if b then 1 else 0)) [ true ↦ refl | false ↦ refl ]
counted_by f (Stores extent) i = elim i.traps as (λ b. length (if b then trap_site i.value ∷ [] else []) ≡ (if b then 1 else 0)) [ true ↦ refl | false ↦ refl ]
counted_by f kind i = refl

-- an instruction has as many sites as marks
pub inst_counted : (f : Frame) (i : AirInst) → length (inst_sites f i) ≡ marks_of i
inst_counted f i = counted_by f (kind_of i.op) i

insts_counted : (f : Frame) (insts : List AirInst) → length (flat_map (inst_sites f) insts) ≡ sum_by marks_of insts
insts_counted f [] = refl
insts_counted f (i ∷ is) =
    let here = inst_counted f i in
    let more = insts_counted f is in
    let both = length-append (inst_sites f i) (flat_map (inst_sites f) is) in
    let sum = sum_by-cons marks_of i is in
    omega arith

pub sites_counted : (f : Frame) (b : AirBlock) → length (block_sites f b) ≡ block_marks b
sites_counted f b = insts_counted f b.insts

-- and as many sites of exits as exits
exits_counted_by : (f : Frame) (kind : Kind) (i : AirInst) → length (exit_by kind f i) ≡ (if has_exit kind then 1 else 0)
exits_counted_by f (Checks test) i = refl
exits_counted_by f (ChecksResult checked) i = refl
exits_counted_by f kind i = refl

pub exits_counted : (f : Frame) (i : AirInst) → length (inst_exit f i) ≡ exits_of i
exits_counted f i = exits_counted_by f (kind_of i.op) i

all_exits_counted : (f : Frame) (insts : List AirInst) → length (flat_map (inst_exit f) insts) ≡ sum_by exits_of insts
all_exits_counted f [] = refl
all_exits_counted f (i ∷ is) =
    let here = exits_counted f i in
    let more = all_exits_counted f is in
    let both = length-append (inst_exit f i) (flat_map (inst_exit f) is) in
    let sum = sum_by-cons exits_of i is in
    omega arith

pub block_exits_counted : (f : Frame) (b : AirBlock) → length (block_exit_sites f b) ≡ block_exits b
block_exits_counted f b = all_exits_counted f b.insts

inner_counted : (f : Frame) (blocks : List AirBlock) → length (flat_map (block_sites f) blocks) ≡ inner_marks blocks
inner_counted f [] = refl
inner_counted f (b ∷ bs) =
    let here = sites_counted f b in
    let more = inner_counted f bs in
    let both = length-append (block_sites f b) (flat_map (block_sites f) bs) in
    let sum = sum_by-cons block_marks b bs in
    omega arith

-- as many sites come before those of exits as marks stand within blocks
pub inner_sites_counted : (p : AirProc) (f : Frame) → length (inner_sites p f) ≡ inner_marks p.blocks
inner_sites_counted p f = inner_counted f p.blocks

-- ---- the items of blocks

-- the exits of one of some blocks among those of all
pub record ExitsAmong (f : Frame) (labels own exit : ℕ) (blocks : List AirBlock) (block : AirBlock) : Type 0 where
  pub before : ℕ
  pub mark : ℕ
  pub items : (all : List Item) (at : ℕ) → Among all at (blocks_exits labels exit blocks) → Among all (at + before) (insts_exits own mark block.insts)
  pub sites : (all : List Site) → Among all exit (flat_map (block_exit_sites f) blocks) → Among all mark (block_exit_sites f block)

-- one of some blocks: what stands before it and after it; the labels of blocks are those below a number
pub record BlockAmong (n : ℕ) (f : Frame) (items : List Item) (first labels start : ℕ) (blocks : List AirBlock) (i : ℕ) (block : AirBlock) : Type 0 where
  pub before : List Item
  pub rest : List Item
  pub own : ℕ
  pub mark : ℕ
  pub above : n ≤ own
  pub split : items ≡ before ++ (Label (first + i) ∷ (insts_items f (first + i + 1) own mark block.targets block.insts ++ rest))
  pub clear : (label : ℕ) → first + i ≤ label → label < n → Each (IsNot label) before
  pub more : i + 1 < length blocks → (behind : List Item) × (rest ≡ Label (first + i + 1) ∷ behind)
  pub exits : (exit : ℕ) → ExitsAmong f labels own exit blocks block
  pub none : i ≡ 0 → before ≡ []
  pub sites : (all : List Site) → Among all start (flat_map (block_sites f) blocks) → Among all mark (block_sites f block)

blocks_rest : (f : Frame) (first label mark : ℕ) (blocks : List AirBlock) → 0 < length blocks
    → (behind : List Item) × (blocks_items f first label mark blocks ≡ Label first ∷ behind)
unfolding blocks_items
blocks_rest f first label mark [] some = absurd (omega arith)
blocks_rest f first label mark (block ∷ blocks) some = (_, refl)

other_label : (a b : ℕ) → a < b → IsNot b (Label a)
other_label a b lt = ne_eqb a b (λ e. omega arith)

pub block_among : (n : ℕ) (f : Frame) (first label mark : ℕ) (blocks : List AirBlock) (i : ℕ) (block : AirBlock) → n ≤ label
    → slice_get blocks i ≡ Some block → BlockAmong n f (blocks_items f first label mark blocks) first label mark blocks i block
unfolding blocks_items blocks_exits
block_among n f first label mark [] i block le there = cc
block_among n f first label mark (b ∷ bs) zero block le there =
    let same : b ≡ block = cc in
    let e : first ≡ first + 0 = omega arith in
    let rest : List Item = blocks_items f (first + 1) (label + block_labels b) (mark + block_marks b) bs in
    record {
      before = [];
      rest = rest;
      own = label;
      mark = mark;
      above = le;
      split = ap (λ (x : AirBlock). Label first ∷ (insts_items f (first + 1) label mark x.targets x.insts ++ rest)) same
          ∙ ap (λ n. Label n ∷ (insts_items f (n + 1) label mark block.targets block.insts ++ rest)) e;
      clear = λ other least below. tt;
      more = λ lt. let rest = blocks_rest f (first + 1) (label + block_labels b) (mark + block_marks b) bs (omega arith) in
          (rest.0, rest.1 ∙ ap (λ n. Label (n + 1) ∷ rest.0) e);
      exits = λ exit. record {
        before = 0;
        mark = exit;
        items = λ all at here. subst (λ (x : AirBlock). Among all (at + 0) (insts_exits label exit x.insts)) same
            (subst (λ n. Among all n (insts_exits label exit b.insts)) (omega arith)
            (among_first all at (insts_exits label exit b.insts) (blocks_exits (label + block_labels b) (exit + block_exits b) bs) here));
        sites = λ all here. subst (λ (x : AirBlock). Among all exit (block_exit_sites f x)) same
            (among_first all exit (block_exit_sites f b) (flat_map (block_exit_sites f) bs) here);
      };
      none = λ is. refl;
      sites = λ all here. subst (λ (x : AirBlock). Among all mark (block_sites f x)) same
          (among_first all mark (block_sites f b) (flat_map (block_sites f) bs) here);
    }
block_among n f first label mark (b ∷ bs) (suc i) block le there =
    let more = block_among n f (first + 1) (label + block_labels b) (mark + block_marks b) bs i block (omega arith) there in
    let e : first + 1 + i ≡ first + suc i = omega arith in
    let items : List Item = insts_items f (first + 1) label mark b.targets b.insts in
    let tail : ℕ → List Item = λ n. Label n ∷ (insts_items f (n + 1) more.own more.mark block.targets block.insts ++ more.rest) in
    record {
      before = Label first ∷ (items ++ more.before);
      rest = more.rest;
      own = more.own;
      mark = more.mark;
      above = more.above;
      split = ap (λ (xs : List Item). Label first ∷ (items ++ xs)) (more.split ∙ ap (λ n. more.before ++ tail n) e)
          ∙ ap (λ (xs : List Item). Label first ∷ xs) (sym (append_assoc items more.before (tail (first + suc i))));
      clear = λ other least below. (
        other_label first other (omega arith),
        each_append (IsNot other) items more.before
            (none_is n other items below (insts_inner n f (first + 1) label mark b.targets b.insts le)) (more.clear other (omega arith) below),
      );
      more = λ lt. let rest = more.more (omega arith) in (rest.0, rest.1 ∙ ap (λ n. Label (n + 1) ∷ rest.0) e);
      exits = λ exit.
          let own : List Item = insts_exits label exit b.insts in
          let behind : List Item = blocks_exits (label + block_labels b) (exit + block_exits b) bs in
          let rest = more.exits (exit + block_exits b) in
          record {
            before = length own + rest.before;
            mark = rest.mark;
            items = λ all at here. subst (λ n. Among all n (insts_exits more.own rest.mark block.insts)) (omega arith)
                (rest.items all (at + length own) (among_rest all at own behind here));
            sites = λ all here. rest.sites all (subst (λ n. Among all (exit + n) (flat_map (block_exit_sites f) bs)) (block_exits_counted f b)
                (among_rest all exit (block_exit_sites f b) (flat_map (block_exit_sites f) bs) here));
          };
      none = λ is. absurd (omega arith);
      sites = λ all here. more.sites all (subst (λ n. Among all (mark + n) (flat_map (block_sites f) bs)) (sites_counted f b)
          (among_rest all mark (block_sites f b) (flat_map (block_sites f) bs) here));
    }

-- ---- the blocks of a procedure

-- how many items stand before the exits
pub inner_length : AirProc → Frame → ℕ
inner_length p f = length (plains (prologue f)) + length (blocks_items f 0 (length p.blocks) 0 p.blocks)

-- where a block stands in the code: its label, its items, and then the next label, or the exits
pub record BlockStands (p : AirProc) (f : Frame) (b : ℕ) (block : AirBlock) : Type 0 where
  pub own : ℕ
  pub mark : ℕ
  pub above : length p.blocks ≤ own
  pub label : slice_get (emitted p f) (position_of (emitted p f) b) ≡ Some (Label b)
  pub items : Among (emitted p f) (position_of (emitted p f) b + 1) (insts_items f (b + 1) own mark block.targets block.insts)
  pub next : b + 1 < length p.blocks → position_of (emitted p f) (b + 1) ≡ position_of (emitted p f) b + 1 + length (insts_items f (b + 1) own mark block.targets block.insts)
  pub inside : position_of (emitted p f) b + 1 + length (insts_items f (b + 1) own mark block.targets block.insts) ≤ inner_length p f
  pub first : b ≡ 0 → position_of (emitted p f) b ≡ length (prologue f)
  pub sites : Among (procedure_sites p f) mark (block_sites f block)
  pub exits_at : ℕ
  pub exits_mark : ℕ
  pub behind : inner_length p f ≤ exits_at
  pub exits : Among (emitted p f) exits_at (insts_exits own exits_mark block.insts)
  pub exit_sites : Among (procedure_sites p f) exits_mark (block_exit_sites f block)

pub each_at : (P : Item → Type 0) (items : List Item) (k : ℕ) (item : Item) → Each P items → slice_get items k ≡ Some item → P item
each_at P [] k item each there = absurd cc
each_at P (x ∷ items) zero item each there = let same : x ≡ item = cc in subst P same each.0
each_at P (x ∷ items) (suc k) item each there = each_at P items k item each.1 there

pub length_plains : (insts : List Inst) → length (plains insts) ≡ length insts
length_plains [] = refl
length_plains (inst ∷ insts) = let more = length_plains insts in omega arith

module _ (p : AirProc) (f : Frame) (b : ℕ) (block : AirBlock) (there : slice_get p.blocks b ≡ Some block) where
  among : BlockAmong (length p.blocks) f (blocks_items f 0 (length p.blocks) 0 p.blocks) 0 (length p.blocks) 0 p.blocks b block
  among = block_among (length p.blocks) f 0 (length p.blocks) 0 p.blocks b block (omega arith) there

  within : b < length p.blocks
  within = slice_get_within p.blocks b block there

  front : List Item
  front = plains (prologue f) ++ among.before

  inside : List Item
  inside = insts_items f (b + 1) among.own among.mark block.targets block.insts

  out : List Item
  out = blocks_exits (length p.blocks) (inner_marks p.blocks) p.blocks

  blocks_split : blocks_items f 0 (length p.blocks) 0 p.blocks ≡ among.before ++ (Label b ∷ (inside ++ among.rest))
  unfolding inside
  blocks_split =
      let e : 0 + b ≡ b = omega arith in
      among.split ∙ ap (λ n. among.before ++ (Label n ∷ (insts_items f (n + 1) among.own among.mark block.targets block.insts ++ among.rest))) e

  split : emitted p f ≡ front ++ (Label b ∷ (inside ++ (among.rest ++ out)))
  unfolding emitted front out
  split =
      ap (λ (xs : List Item). plains (prologue f) ++ (xs ++ out)) blocks_split
      ∙ ap (λ (xs : List Item). plains (prologue f) ++ xs)
      (append_assoc among.before (Label b ∷ (inside ++ among.rest)) out ∙ ap (λ (xs : List Item). among.before ++ (Label b ∷ xs)) (append_assoc inside among.rest out))
      ∙ sym (append_assoc (plains (prologue f)) among.before (Label b ∷ (inside ++ (among.rest ++ out))))

  clear : (label : ℕ) → b ≤ label → label < length p.blocks → Each (IsNot label) front
  unfolding front
  clear label le lt =
      each_append (IsNot label) (plains (prologue f)) among.before
      (none_is (length p.blocks) label (plains (prologue f)) lt (unlabelled_inner (length p.blocks) (plains (prologue f)) (plains_unlabelled (prologue f)))) (among.clear label (omega arith) lt)

  at : position_of (emitted p f) b ≡ length front
  at = ap (λ xs. position_of xs b) split ∙ position_behind b front (inside ++ (among.rest ++ out)) (clear b (omega arith) within)

  -- up to the end of the block
  whole : List Item
  whole = front ++ (Label b ∷ inside)

  whole_length : length whole ≡ position_of (emitted p f) b + 1 + length inside
  unfolding whole
  whole_length = let count = length-append front (Label b ∷ inside) in let here = at in omega arith

  whole_split : emitted p f ≡ whole ++ (among.rest ++ out)
  unfolding whole
  whole_split = split ∙ sym (append_assoc front (Label b ∷ inside) (among.rest ++ out))

  whole_clear : b + 1 < length p.blocks → Each (IsNot (b + 1)) whole
  unfolding whole inside
  whole_clear lt =
      each_append (IsNot (b + 1)) front (Label b ∷ inside) (clear (b + 1) (omega arith) lt) (
        other_label b (b + 1) (omega arith),
        none_is (length p.blocks) (b + 1) inside lt (insts_inner (length p.blocks) f (b + 1) among.own among.mark block.targets block.insts among.above),
      )

  next_at : b + 1 < length p.blocks → position_of (emitted p f) (b + 1) ≡ length whole
  next_at lt =
      let rest = among.more lt in
      let e : 0 + b + 1 ≡ b + 1 = omega arith in
      let same : emitted p f ≡ whole ++ (Label (b + 1) ∷ (rest.0 ++ out)) =
      whole_split ∙ ap (λ (xs : List Item). whole ++ (xs ++ out)) (rest.1 ∙ ap (λ n. Label n ∷ rest.0) e) in
      ap (λ xs. position_of xs (b + 1)) same ∙ position_behind (b + 1) whole (rest.0 ++ out) (whole_clear lt)

  ends_inside : position_of (emitted p f) b + 1 + length inside ≤ inner_length p f
  unfolding inner_length front
  ends_inside =
      let here = at in
      let whole_front = length-append (plains (prologue f)) among.before in
      let all = ap (λ (xs : List Item). length xs) blocks_split in
      let parts = length-append among.before (Label b ∷ (inside ++ among.rest)) in
      let rest = length-append inside among.rest in
      omega arith

  out_at : Among (emitted p f) (inner_length p f) out
  unfolding emitted inner_length out
  out_at =
      let blocks : List Item = blocks_items f 0 (length p.blocks) 0 p.blocks in
      let here : Among (plains (prologue f) ++ (blocks ++ out)) 0 (plains (prologue f) ++ (blocks ++ out)) =
      λ j item there. ap (slice_get (plains (prologue f) ++ (blocks ++ out))) (omega arith) ∙ there in
      let e : 0 + length (plains (prologue f)) ≡ length (plains (prologue f)) = omega arith in
      among_rest (plains (prologue f) ++ (blocks ++ out)) (length (plains (prologue f))) blocks out
      (subst (λ n. Among (plains (prologue f) ++ (blocks ++ out)) n (blocks ++ out)) e
      (among_rest (plains (prologue f) ++ (blocks ++ out)) 0 (plains (prologue f)) (blocks ++ out) here))

  out_among : ExitsAmong f (length p.blocks) among.own (inner_marks p.blocks) p.blocks block
  out_among = among.exits (inner_marks p.blocks)

  out_sites : Among (procedure_sites p f) (inner_marks p.blocks) (exit_sites p f)
  out_sites =
      subst (λ n. Among (procedure_sites p f) n (exit_sites p f)) (let count = inner_sites_counted p f in omega arith)
      (among_rest (procedure_sites p f) 0 (inner_sites p f) (exit_sites p f) (λ j site there. ap (slice_get (procedure_sites p f)) (omega arith) ∙ there))

  label_at : slice_get (emitted p f) (position_of (emitted p f) b) ≡ Some (Label b)
  label_at =
      ap (slice_get (emitted p f)) (at ∙ omega arith)
      ∙ among_split (emitted p f) front (Label b ∷ inside) (among.rest ++ out) (split ∙ refl) 0 (Label b) refl

  items_at : Among (emitted p f) (position_of (emitted p f) b + 1) inside
  items_at =
      let behind : Among (emitted p f) (length front) (Label b ∷ inside) = among_split (emitted p f) front (Label b ∷ inside) (among.rest ++ out) (split ∙ refl) in
      let e : length front + length (Label b ∷ []) ≡ position_of (emitted p f) b + 1 = let here = at in omega arith in
      subst (λ k. Among (emitted p f) k inside) e (among_rest (emitted p f) (length front) (Label b ∷ []) inside behind)

  first_at : b ≡ 0 → position_of (emitted p f) b ≡ length (prologue f)
  unfolding front
  first_at is =
      let count = length_plains (prologue f) in
      at ∙ ap (λ (xs : List Item). length (plains (prologue f) ++ xs)) (among.none is) ∙ ap (λ (xs : List Item). length xs) (append-nil (plains (prologue f))) ∙ count

  pub block_stands : BlockStands p f b block
  unfolding inside out
  block_stands = record {
    own = among.own;
    mark = among.mark;
    above = among.above;
    label = label_at;
    items = items_at;
    next = λ lt. next_at lt ∙ whole_length;
    inside = ends_inside;
    first = first_at;
    sites = among.sites (procedure_sites p f) (among_first (procedure_sites p f) 0 (inner_sites p f) (exit_sites p f)
        (λ j site there. ap (slice_get (procedure_sites p f)) (omega arith) ∙ there));
    exits_at = inner_length p f + out_among.before;
    exits_mark = out_among.mark;
    behind = omega arith;
    exits = out_among.items (emitted p f) (inner_length p f) out_at;
    exit_sites = out_among.sites (procedure_sites p f) out_sites;
  }

-- the labels of blocks stand in order
module _ (p : AirProc) (f : Frame) where
  next_higher : (b : ℕ) → b + 1 < length p.blocks → position_of (emitted p f) b < position_of (emitted p f) (b + 1)
  next_higher b lt =
      let d : AirBlock = record { insts = []; targets = [] } in
      let stands = block_stands p f b (get_or p.blocks b d) (slice_get-get_or p.blocks b d (omega arith)) in
      let next = stands.next lt in
      omega arith

  pub positions_rise : (b c : ℕ) → b < c → c < length p.blocks → position_of (emitted p f) b < position_of (emitted p f) c
  positions_rise b zero lt within = absurd (omega arith)
  positions_rise b (suc c) lt within =
      let e : suc c ≡ c + 1 = omega arith in
      let step : position_of (emitted p f) c < position_of (emitted p f) (suc c) =
      subst (λ n. position_of (emitted p f) c < position_of (emitted p f) n) (sym e) (next_higher c (omega arith)) in
      ⊎_elim
      (λ less. let before = positions_rise b c less (omega arith) in omega arith)
      (λ more. let same : b ≡ c = omega arith in let at = ap (position_of (emitted p f)) same in omega arith)
      (cases_lt b c)
