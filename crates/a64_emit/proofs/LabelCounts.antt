-- How often labels stand in emitted code.
use Rattle.air_ir.specs.declared.op.Test.{Test}
use Rattle.a64_inst.specs.declared.inst.Inst.TheVariants.{Break}
use Rattle.a64_inst.specs.declared.inst.Inst.{Inst}
use Rattle.std.proofs.Common.{◌≡◌, ℕ, zero, suc, ◌+◌, ◌<◌, ◌≤◌, ⊎_elim, Bool, true, false, not, cond, List, [], ◌∷◌, ◌++◌, Some, length, get_or, refl, sym, ap, ◌∙◌, subst, arith, eq-eqb}
use Rattle.std.specs.Prelude.{if◌then◌else◌, nat_lt, slice_get, ◌==◌}
use Rattle.std.specs.List.{count_by, position_or_len, sum_by}
use Rattle.std.proofs.lemmas.Bool.Decides.{nat_tests}
use Rattle.std.proofs.lemmas.List.Sums.{sum_by-append, sum_by-cons}
use Rattle.a64_inst.specs.declared.inst.Cond.TheVariants.{Eq, Hi}
use Rattle.a64_inst.specs.declared.item.Item.{Item}
use Rattle.a64_inst.specs.declared.item.Item.TheVariants.{If, IfBit, IfZero, Jump, Label, Mark, Plain}
use Rattle.b3_base.specs.declared.word.Width.{Width}
use Rattle.air_ir.specs.Kinds.{kind_of}
use Rattle.air_ir.specs.declared.frame.Frame.{Frame}
use Rattle.air_ir.specs.declared.op.AirOp.{AirOp}
use Rattle.air_ir.specs.declared.op.AirOp.TheVariants as op
use Rattle.air_ir.specs.declared.operand.Operand.{Operand}
use Rattle.air_ir.specs.declared.procedure.AirBlock.{AirBlock}
use Rattle.air_ir.specs.declared.procedure.AirInst.{AirInst}
use Rattle.air_ir.specs.declared.procedure.AirProc.{AirProc}
use Rattle.a64_layout.specs.Layout.{is_label, position_of}
use Rattle.a64_layout.specs.Text.{is_any_label, label_count}
use Rattle.a64_layout.proofs.Labels.{label_stands}
use Rattle.a64_emit.specs.Code.{arg_at, block_exits, block_labels, block_marks, blocks_exits, blocks_items, emitted, exits_by, exits_of, fetch, has_exit, inner_marks, inst_exits, inst_items, insts_exits, insts_items, labels_of, marks_of, own_labels, source_at, width_at, guarded, branch_item}
use Rattle.a64_code.specs.Computing.{reg_of}
use Rattle.a64_code.specs.Places.{plains, prologue}
use Rattle.a64_emit.specs.Switched.{case_items, cases_in_order, compare_word, jump_to, search_items, switch_items, switch_labels}
use Rattle.a64_emit.specs.Trees.{Leaf, Node, Tree, node_count, tree}
use Rattle.a64_emit.specs.declared.case.Case.{Case}
use Rattle.a64_emit.proofs.Positions.{InstShape, IsUnlabelled, inst_shape, leaf_unlabelled, plains_unlabelled, HasNone, IsASwitch}
use Rattle.a64_emit.proofs.Sorting.{search_labels}
use Rattle.a64_emit.proofs.Trees.{Each, each_weaker}

-- ---- counts

none_more : (b : Bool) (n : ℕ) → b ≡ false → n ≡ 0 → cond b 1 0 + n ≡ 0
none_more false n e none = omega arith
none_more true n e none = absurd cc

pub count_none : (p : Item → Bool) (items : List Item) → Each (λ item. p item ≡ false) items → count_by p items ≡ 0
count_none p [] none = refl
count_none p (item ∷ items) none =
    sum_by-cons (λ item. cond (p item) 1 0) item items ∙ none_more (p item) (sum_by (λ item. cond (p item) 1 0) items) none.0 (count_none p items none.1)

-- how often a label stands among items
abbrev pub label_times : ℕ → List Item → ℕ
label_times label items = count_by (is_label label) items

-- 1 for a label below a number
abbrev pub below : ℕ → ℕ → ℕ
below n label = cond (nat_lt label n) 1 0

label_one : (n label : ℕ) → cond (n == label) 1 0 + below n label ≡ below (n + 1) label
label_one n label = grind (arith, nat_tests)

not_label : (label : ℕ) (item : Item) → IsUnlabelled item → is_label label item ≡ false
not_label label (Plain inst) none = refl
not_label label (Jump to) none = refl
not_label label (If test to) none = refl
not_label label (IfZero width nonzero reg to) none = refl
not_label label (IfBit nonzero reg at to) none = refl
not_label label (Label to) none = absurd cc
not_label label (Mark mark) none = refl

none_times : (label : ℕ) (items : List Item) → Each IsUnlabelled items → label_times label items ≡ 0
none_times label items none =
    count_none (is_label label) items (each_weaker IsUnlabelled (λ item. is_label label item ≡ false) (not_label label) items none)

both_times : (p : Item → Bool) (xs ys : List Item) → count_by p (xs ++ ys) ≡ count_by p xs + count_by p ys
both_times p xs ys = sum_by-append (λ item. cond (p item) 1 0) xs ys

pub more_times : (p : Item → Bool) (item : Item) (items : List Item) → count_by p (item ∷ items) ≡ cond (p item) 1 0 + count_by p items
more_times p item items = sum_by-cons (λ item. cond (p item) 1 0) item items

-- the labels of a search are its own ones, each once
search_times : (label : ℕ) (width : Width) (reg other next own : ℕ) (t : Tree Case)
    → label_times label (search_items width reg other next own t) + below own label ≡ below (own + node_count t) label
unfolding search_items node_count
search_times label width reg other next own (Leaf cases) =
    let none = none_times label (case_items width reg cases ++ jump_to next other) (leaf_unlabelled width reg other next cases) in
    let e : own ≡ own + 0 = omega arith in
    ap (λ n. n + below own label) none ∙ omega (arith, ap (λ n. below n label) e)
search_times label width reg other next own (Node before case behind) =
    let compare : List Item = plains (compare_word width reg case.word) in
    let first : List Item = search_items width reg other own (own + 1) before in
    let rest : List Item = search_items width reg other next (own + 1 + node_count before) behind in
    let none = none_times label compare (plains_unlabelled (compare_word width reg case.word)) in
    let parts = both_times (is_label label) (compare ++ If Eq case.target ∷ If Hi own ∷ first) (Label own ∷ rest) in
    let front = both_times (is_label label) compare (If Eq case.target ∷ If Hi own ∷ first) in
    let equal = more_times (is_label label) (If Eq case.target) (If Hi own ∷ first) in
    let high = more_times (is_label label) (If Hi own) first in
    let here = more_times (is_label label) (Label own) rest in
    let one = label_one own label in
    let more = search_times label width reg other own (own + 1) before in
    let last = search_times label width reg other next (own + 1 + node_count before) behind in
    let e : own + 1 + node_count before + node_count behind ≡ own + (node_count before + 1 + node_count behind) = omega arith in
    let same = ap (λ n. below n label) e in
    omega arith

search_count : (width : Width) (reg other next own : ℕ) (t : Tree Case) → label_count (search_items width reg other next own t) ≡ node_count t
unfolding search_items node_count
search_count width reg other next own (Leaf cases) = count_none is_any_label (case_items width reg cases ++ jump_to next other) (leaf_unlabelled width reg other next cases)
search_count width reg other next own (Node before case behind) =
    let compare : List Item = plains (compare_word width reg case.word) in
    let first : List Item = search_items width reg other own (own + 1) before in
    let rest : List Item = search_items width reg other next (own + 1 + node_count before) behind in
    let none = count_none is_any_label compare (plains_unlabelled (compare_word width reg case.word)) in
    let parts = both_times is_any_label (compare ++ If Eq case.target ∷ If Hi own ∷ first) (Label own ∷ rest) in
    let front = both_times is_any_label compare (If Eq case.target ∷ If Hi own ∷ first) in
    let equal = more_times is_any_label (If Eq case.target) (If Hi own ∷ first) in
    let high = more_times is_any_label (If Hi own) first in
    let here = more_times is_any_label (Label own) rest in
    let more = search_count width reg other own (own + 1) before in
    let last = search_count width reg other next (own + 1 + node_count before) behind in
    omega arith

-- and so are those of an instruction
switch_times : (label : ℕ) (f : Frame) (next own mark : ℕ) (targets cases : List ℕ) (traps : Bool) (os : List Operand)
    → label_times label (inst_items f next own mark targets traps (op.Switch cases) os) + below own label ≡ below (own + switch_labels cases) label
unfolding inst_items
switch_times label f next own mark targets cases traps os =
    let width : Width = width_at os 0 in
    let t : Tree Case = tree (cases_in_order width cases targets) in
    let fetched : List Item = plains (fetch f 15 (arg_at os 0)) in
    let none = none_times label fetched (plains_unlabelled (fetch f 15 (arg_at os 0))) in
    let parts = both_times (is_label label) fetched (switch_items width (reg_of (source_at os 0 15)) next own cases targets) in
    let own_times = search_times label width (reg_of (source_at os 0 15)) (get_or targets (length cases) 0) next own t in
    let same = ap (λ n. below (own + n) label) (search_labels width cases targets) in
    omega arith

switch_count : (f : Frame) (next own mark : ℕ) (targets cases : List ℕ) (traps : Bool) (os : List Operand)
    → label_count (inst_items f next own mark targets traps (op.Switch cases) os) ≡ switch_labels cases
unfolding inst_items
switch_count f next own mark targets cases traps os =
    let width : Width = width_at os 0 in
    let t : Tree Case = tree (cases_in_order width cases targets) in
    let fetched : List Item = plains (fetch f 15 (arg_at os 0)) in
    let none = count_none is_any_label fetched (plains_unlabelled (fetch f 15 (arg_at os 0))) in
    let parts = both_times is_any_label fetched (switch_items width (reg_of (source_at os 0 15)) next own cases targets) in
    let count = search_count width (reg_of (source_at os 0 15)) (get_or targets (length cases) 0) next own t in
    let same = search_labels width cases targets in
    omega arith

-- the label of an exit
exit_times : (label own mark : ℕ) (b : Bool) → label_times label (exits_by b own mark) + below own label ≡ below (own + (if b then 1 else 0)) label
exit_times label own mark true =
    let rest : List Item = Mark mark ∷ Plain (Break 1) ∷ [] in
    let none = none_times label rest (refl, (refl, tt)) in
    let here = more_times (is_label label) (Label own) rest in
    let one = label_one own label in
    omega arith
exit_times label own mark false =
    let e : own ≡ own + 0 = omega arith in
    let same = ap (λ n. below n label) e in
    omega arith

exit_count : (own mark : ℕ) (b : Bool) → label_count (exits_by b own mark) ≡ (if b then 1 else 0)
exit_count own mark true =
    let rest : List Item = Mark mark ∷ Plain (Break 1) ∷ [] in
    let none = count_none is_any_label rest (refl, (refl, tt)) in
    let here = more_times is_any_label (Label own) rest in
    omega arith
exit_count own mark false = refl

-- the labels of an instruction are those within it and that of its exit
inst_times : (label : ℕ) (f : Frame) (next own mark exit : ℕ) (targets : List ℕ) (traps : Bool) (o : AirOp) (os : List Operand)
    → label_times label (inst_items f next own mark targets traps o os) + label_times label (exits_by (has_exit (kind_of o)) own exit) + below own label
    ≡ below (own + own_labels o) label
inst_times label f next own mark exit targets traps o os =
    elim (inst_shape f next own mark targets traps o os)
    as (λ x. label_times label (inst_items f next own mark targets traps o os) + label_times label (exits_by (has_exit (kind_of o)) own exit)
    + below own label ≡ below (own + own_labels o) label) [
      | HasNone each same ↦
          let none = none_times label (inst_items f next own mark targets traps o os) each in
          let out = exit_times label own exit (has_exit (kind_of o)) in
          let e = ap (λ n. below (own + n) label) same in
          omega arith
      | IsASwitch cases is ↦
          subst (λ o. label_times label (inst_items f next own mark targets traps o os) + label_times label (exits_by (has_exit (kind_of o)) own exit)
          + below own label ≡ below (own + own_labels o) label) (sym is)
          (let times = switch_times label f next own mark targets cases traps os in omega arith)
    ]

inst_count : (f : Frame) (next own mark exit : ℕ) (targets : List ℕ) (traps : Bool) (o : AirOp) (os : List Operand)
    → label_count (inst_items f next own mark targets traps o os) + label_count (exits_by (has_exit (kind_of o)) own exit) ≡ own_labels o
inst_count f next own mark exit targets traps o os =
    elim (inst_shape f next own mark targets traps o os)
    as (λ x. label_count (inst_items f next own mark targets traps o os) + label_count (exits_by (has_exit (kind_of o)) own exit) ≡ own_labels o) [
      | HasNone each same ↦
          let none = count_none is_any_label (inst_items f next own mark targets traps o os) each in
          let out = exit_count own exit (has_exit (kind_of o)) in
          omega arith
      | IsASwitch cases is ↦
          subst (λ o. label_count (inst_items f next own mark targets traps o os) + label_count (exits_by (has_exit (kind_of o)) own exit) ≡ own_labels o) (sym is)
          (let count = switch_count f next own mark targets cases traps os in omega arith)
    ]

-- the labels of the instructions of a block are their own ones
insts_times : (label : ℕ) (f : Frame) (next own mark exit : ℕ) (targets : List ℕ) (insts : List AirInst)
    → label_times label (insts_items f next own mark targets insts) + label_times label (insts_exits own exit insts) + below own label
    ≡ below (own + sum_by labels_of insts) label
unfolding insts_items insts_exits
insts_times label f next own mark exit targets [] =
    let e : own ≡ own + 0 = omega arith in
    let same = ap (λ n. below n label) e in
    omega arith
insts_times label f next own mark exit targets (i ∷ insts) =
    let items : List Item = inst_items f next own mark targets i.traps i.op i.operands in
    let rest : List Item = insts_items f next (own + labels_of i) (mark + marks_of i) targets insts in
    let out : List Item = inst_exits own exit i in
    let others : List Item = insts_exits (own + labels_of i) (exit + exits_of i) insts in
    let parts = both_times (is_label label) items rest in
    let outs = both_times (is_label label) out others in
    let here = inst_times label f next own mark exit targets i.traps i.op i.operands in
    let more = insts_times label f next (own + labels_of i) (mark + marks_of i) (exit + exits_of i) targets insts in
    let sum = sum_by-cons labels_of i insts in
    let e : own + labels_of i + sum_by labels_of insts ≡ own + sum_by labels_of (i ∷ insts) = omega arith in
    let same = ap (λ n. below n label) e in
    omega arith

insts_count : (f : Frame) (next own mark exit : ℕ) (targets : List ℕ) (insts : List AirInst)
    → label_count (insts_items f next own mark targets insts) + label_count (insts_exits own exit insts) ≡ sum_by labels_of insts
unfolding insts_items insts_exits
insts_count f next own mark exit targets [] = refl
insts_count f next own mark exit targets (i ∷ insts) =
    let parts = both_times is_any_label (inst_items f next own mark targets i.traps i.op i.operands)
    (insts_items f next (own + labels_of i) (mark + marks_of i) targets insts) in
    let outs = both_times is_any_label (inst_exits own exit i) (insts_exits (own + labels_of i) (exit + exits_of i) insts) in
    let here = inst_count f next own mark exit targets i.traps i.op i.operands in
    let more = insts_count f next (own + labels_of i) (mark + marks_of i) (exit + exits_of i) targets insts in
    let sum = sum_by-cons labels_of i insts in
    omega arith

-- the labels of blocks are their numbers and their own ones
blocks_times : (label : ℕ) (f : Frame) (first own mark exit : ℕ) (blocks : List AirBlock)
    → label_times label (blocks_items f first own mark blocks) + label_times label (blocks_exits own exit blocks) + below first label + below own label
    ≡ below (first + length blocks) label + below (own + sum_by block_labels blocks) label
unfolding blocks_items blocks_exits
blocks_times label f first own mark exit [] =
    let a : first ≡ first + 0 = omega arith in
    let b : own ≡ own + 0 = omega arith in
    let same_a = ap (λ n. below n label) a in
    let same_b = ap (λ n. below n label) b in
    omega arith
blocks_times label f first own mark exit (block ∷ blocks) =
    let inside : List Item = insts_items f (first + 1) own mark block.targets block.insts in
    let rest : List Item = blocks_items f (first + 1) (own + block_labels block) (mark + block_marks block) blocks in
    let out : List Item = insts_exits own exit block.insts in
    let others : List Item = blocks_exits (own + block_labels block) (exit + block_exits block) blocks in
    let here = insts_times label f (first + 1) own mark exit block.targets block.insts in
    let more = blocks_times label f (first + 1) (own + block_labels block) (mark + block_marks block) (exit + block_exits block) blocks in
    let parts = both_times (is_label label) inside rest in
    let outs = both_times (is_label label) out others in
    let total = more_times (is_label label) (Label first) (inside ++ rest) in
    let one = label_one first label in
    let sum = sum_by-cons block_labels block blocks in
    let a : first + 1 + length blocks ≡ first + length (block ∷ blocks) = omega arith in
    let b : own + block_labels block + sum_by block_labels blocks ≡ own + sum_by block_labels (block ∷ blocks) = omega arith in
    let same_a = ap (λ n. below n label) a in
    let same_b = ap (λ n. below n label) b in
    omega arith

blocks_count : (f : Frame) (first own mark exit : ℕ) (blocks : List AirBlock)
    → label_count (blocks_items f first own mark blocks) + label_count (blocks_exits own exit blocks) ≡ length blocks + sum_by block_labels blocks
unfolding blocks_items blocks_exits
blocks_count f first own mark exit [] = refl
blocks_count f first own mark exit (block ∷ blocks) =
    let inside : List Item = insts_items f (first + 1) own mark block.targets block.insts in
    let rest : List Item = blocks_items f (first + 1) (own + block_labels block) (mark + block_marks block) blocks in
    let here = insts_count f (first + 1) own mark exit block.targets block.insts in
    let more = blocks_count f (first + 1) (own + block_labels block) (mark + block_marks block) (exit + block_exits block) blocks in
    let parts = both_times is_any_label inside rest in
    let outs = both_times is_any_label (insts_exits own exit block.insts) (blocks_exits (own + block_labels block) (exit + block_exits block) blocks) in
    let total = more_times is_any_label (Label first) (inside ++ rest) in
    let sum = sum_by-cons block_labels block blocks in
    omega arith

-- how many labels a procedure has: those of its blocks, and the own ones of Switches and checks
abbrev pub all_labels : AirProc → ℕ
all_labels p = length p.blocks + sum_by block_labels p.blocks

pub labels_counted : (p : AirProc) (f : Frame) → label_count (emitted p f) ≡ all_labels p
unfolding emitted
labels_counted p f =
    let front : List Item = plains (prologue f) in
    let rest : List Item = blocks_items f 0 (length p.blocks) 0 p.blocks in
    let out : List Item = blocks_exits (length p.blocks) (inner_marks p.blocks) p.blocks in
    let none = count_none is_any_label front (plains_unlabelled (prologue f)) in
    let more = blocks_count f 0 (length p.blocks) 0 (inner_marks p.blocks) p.blocks in
    let both = both_times is_any_label front (rest ++ out) in
    let behind = both_times is_any_label rest out in
    omega arith

all_below : (n label : ℕ) → below 0 label ≡ 0
all_below n label = grind (arith, nat_tests)

-- each of them stands once
pub code_times : (p : AirProc) (f : Frame) (label : ℕ) → label_times label (emitted p f) ≡ below (all_labels p) label
unfolding emitted
code_times p f label =
    let front : List Item = plains (prologue f) in
    let rest : List Item = blocks_items f 0 (length p.blocks) 0 p.blocks in
    let out : List Item = blocks_exits (length p.blocks) (inner_marks p.blocks) p.blocks in
    let none = none_times label front (plains_unlabelled (prologue f)) in
    let more = blocks_times label f 0 (length p.blocks) 0 (inner_marks p.blocks) p.blocks in
    let both = both_times (is_label label) front (rest ++ out) in
    let behind = both_times (is_label label) rest out in
    let zero_below = all_below 0 label in
    let e : 0 + length p.blocks ≡ length p.blocks = omega arith in
    let same = ap (λ n. below n label) e in
    omega arith

-- ---- where a label stands

pub below_most : (n label : ℕ) → below n label ≤ 1
below_most n label = elim (nat_lt label n) as (λ b. cond b 1 0 ≤ 1) [ true ↦ omega arith | false ↦ omega arith ]

pub below_is : (n label : ℕ) → label < n → below n label ≡ 1
below_is n label lt = grind (arith, nat_tests)

same_label : (label : ℕ) → is_label label (Label label) ≡ true
same_label label = eq-eqb label label refl

label_counted : (label : ℕ) (item : Item) (items : List Item) → item ≡ Label label → label_times label (item ∷ items) ≡ 1 + label_times label items
label_counted label item items same =
    more_times (is_label label) item items
    ∙ ap (λ x. cond (is_label label x) 1 0 + label_times label items) same ∙ ap (λ b. cond b 1 0 + label_times label items) (same_label label)

-- a label that stands among items is counted
pub some_times : (label : ℕ) (items : List Item) (i : ℕ) → slice_get items i ≡ Some (Label label) → 1 ≤ label_times label items
some_times label [] i there = absurd cc
some_times label (item ∷ items) zero there =
    let here = label_counted label item items cc in
    omega arith
some_times label (item ∷ items) (suc i) there =
    let more = more_times (is_label label) item items in
    let rest = some_times label items i there in
    omega arith

pub one_place : (label : ℕ) (items : List Item) (i j : ℕ) → label_times label items ≤ 1 → slice_get items i ≡ Some (Label label)
    → slice_get items j ≡ Some (Label label) → i ≡ j
one_place label [] i j few there_i there_j = absurd cc
one_place label (item ∷ items) zero zero few there_i there_j = refl
one_place label (item ∷ items) zero (suc j) few there_i there_j =
    let here = label_counted label item items cc in
    let rest = some_times label items j there_j in
    absurd (omega arith)
one_place label (item ∷ items) (suc i) zero few there_i there_j =
    let here = label_counted label item items cc in
    let rest = some_times label items i there_i in
    absurd (omega arith)
one_place label (item ∷ items) (suc i) (suc j) few there_i there_j =
    let more = more_times (is_label label) item items in
    ap suc (one_place label items i j (omega arith) there_i there_j)

-- a label that is counted has a position, where it stands
counted_within : (label : ℕ) (items : List Item) → 1 ≤ label_times label items → position_of items label < length items
unfolding position_of
counted_within label [] some = absurd (omega arith)
counted_within label (item ∷ items) some =
    let more = more_times (is_label label) item items in
    (elim (is_label label item) as (λ b. count_by (is_label label) (item ∷ items) ≡ cond b 1 0 + count_by (is_label label) items
    → cond (not b) (1 + position_or_len (is_label label) items) 0 < length (item ∷ items)) [
      | true ↦ λ more. omega arith
      | false ↦ λ more. let rest = counted_within label items (omega arith) in omega arith
    ]) more

pub stands_somewhere : (label : ℕ) (items : List Item) → 1 ≤ label_times label items
    → slice_get items (position_of items label) ≡ Some (Label label)
stands_somewhere label items some = label_stands items label (counted_within label items some)
