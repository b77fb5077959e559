-- Words stand behind each label of a block.
use Rattle.std.proofs.Common.{◌≡◌, ℕ, suc, ◌+◌, ◌<◌, ◌≤◌, Bool, true, false, List, [], ◌∷◌, ◌++◌, Some, length, get_or, refl, sym, ap, ◌∙◌, subst, arith, length-append}
use Rattle.std.specs.Prelude.{nat_eq, slice_get, if◌then◌else◌}
use Rattle.std.proofs.lemmas.Bool.{ne_eqb}
use Rattle.std.proofs.lemmas.Option.{slice_get_within, same_Some, none-some}
use Rattle.a64_inst.specs.declared.inst.Cond.{Cond}
use Rattle.a64_inst.specs.declared.inst.Cond.TheVariants.{Eq, Hi}
use Rattle.a64_inst.specs.declared.inst.Inst.{Inst}
use Rattle.a64_inst.specs.declared.item.Item.{Item}
use Rattle.a64_inst.specs.declared.item.Item.TheVariants.{If, Jump, Label, Plain}
use Rattle.b3_base.specs.declared.word.Width.{Width}
use Rattle.air_ir.specs.Kinds.{target_count}
use Rattle.air_ir.specs.declared.frame.Frame.{Frame}
use Rattle.air_ir.specs.declared.op.AirOp.{AirOp}
use Rattle.air_ir.specs.declared.op.AirOp.TheVariants as op
use Rattle.air_ir.specs.declared.op.Test.{Test}
use Rattle.air_ir.specs.declared.op.Test.TheVariants.{Compare, NonZero, Bit}
use Rattle.air_ir.specs.declared.operand.Operand.{Operand}
use Rattle.a64_layout.specs.Branch.{size_in}
use Rattle.a64_layout.specs.Layout.{Set, place}
use Rattle.a64_layout.proofs.Least.{place-next, place_mono}
use Rattle.a64_emit.specs.Code.{arg_at, branch_item, branches, compared, fetch, fetch_tested, inst_items, source_at, width_at}
use Rattle.a64_code.specs.Computing.{reg_of}
use Rattle.a64_code.specs.Places.{epilogue, leave, plains, restores}
use Rattle.a64_emit.specs.Switched.{case_items, cases_in_order, compare_word, jump_to, search_items, switch_items}
use Rattle.a64_emit.specs.Trees.{Leaf, Node, Tree, node_count, tree}
use Rattle.a64_emit.specs.declared.case.Case.{Case}
use Rattle.a64_emit.proofs.Positions.{Among, among_first, among_rest}

-- one of some items has words
pub record HasWords (items : List Item) : Type 0 where
  pub at : ℕ
  pub item : Item
  pub there : slice_get items at ≡ Some item
  pub size : (long : Bool) → 1 ≤ size_in long (Some item)

pub words_first : (item : Item) (items : List Item) → ((long : Bool) → 1 ≤ size_in long (Some item)) → HasWords (item ∷ items)
words_first item items size = record { at = 0; item = item; there = refl; size = size }

-- what stands among others stands among more
all_among : (xs ys : List Item) → Among (xs ++ ys) 0 (xs ++ ys)
all_among xs ys j item there = ap (slice_get (xs ++ ys)) (omega arith) ∙ there

pub words_left : (xs ys : List Item) → HasWords xs → HasWords (xs ++ ys)
words_left xs ys h = record {
  at = h.at;
  item = h.item;
  there = ap (slice_get (xs ++ ys)) (omega arith) ∙ among_first (xs ++ ys) 0 xs ys (all_among xs ys) h.at h.item h.there;
  size = h.size;
}

pub words_right : (xs ys : List Item) → HasWords ys → HasWords (xs ++ ys)
words_right xs ys h = record {
  at = 0 + length xs + h.at;
  item = h.item;
  there = among_rest (xs ++ ys) 0 xs ys (all_among xs ys) h.at h.item h.there;
  size = h.size;
}

-- so words stand there in a code
pub words_ahead : (code : List Item) (long : Set) (k : ℕ) (items : List Item) → Among code k items → HasWords items
    → place code long k < place code long (length code)
words_ahead code long k items among h =
    let there = among h.at h.item h.there in
    let within = slice_get_within code (k + h.at) h.item there in
    let next = place-next code long (k + h.at) in
    let same = ap (size_in (long (k + h.at))) there in
    let some = h.size (long (k + h.at)) in
    let up = place_mono code long (k + h.at + 1) (length code) (omega arith) in
    let on = place_mono code long k (k + h.at) (omega arith) in
    omega arith

branch_size : (test : Test) (passes : Bool) (width : Width) (reg label : ℕ) (long : Bool) → 1 ≤ size_in long (Some (branch_item test passes width reg label))
branch_size (Compare cond) passes width reg label true = omega arith
branch_size (Compare cond) passes width reg label false = omega arith
branch_size NonZero passes width reg label true = omega arith
branch_size NonZero passes width reg label false = omega arith
branch_size (Bit bit) passes width reg label true = omega arith
branch_size (Bit bit) passes width reg label false = omega arith

pub branches_words : (t : Test) (width : Width) (reg next then_label else_label : ℕ) → HasWords (branches t width reg next then_label else_label)
branches_words t width reg next then_label else_label =
    elim (nat_eq then_label next) as (λ b. HasWords
    (if b then branch_item t false width reg else_label ∷ [] else branch_item t true width reg then_label ∷ jump_to next else_label)) [
      | true ↦ words_first (branch_item t false width reg else_label) [] (branch_size t false width reg else_label)
      | false ↦ words_first (branch_item t true width reg then_label) (jump_to next else_label) (branch_size t true width reg then_label)
    ]

pub jump_words : (next label : ℕ) → label < next → HasWords (jump_to next label)
jump_words next label lt =
    let no : nat_eq label next ≡ false = ne_eqb label next (λ e. omega arith) in
    subst (λ b. HasWords (if b then [] else Jump label ∷ [])) (sym no) (words_first (Jump label) [] (λ long. omega arith))

pub if_size : (cond : Cond) (label : ℕ) (long : Bool) → 1 ≤ size_in long (Some (If cond label))
if_size cond label true = omega arith
if_size cond label false = omega arith

pub search_words : (width : Width) (reg other next label : ℕ) (t : Tree Case) → other < next → HasWords (search_items width reg other next label t)
unfolding search_items
search_words width reg other next label (Leaf cases) lt = words_right (case_items width reg cases) (jump_to next other) (jump_words next other lt)
search_words width reg other next label (Node before case behind) lt =
    let first : List Item = search_items width reg other label (label + 1) before in
    let rest : List Item = search_items width reg other next (label + 1 + node_count before) behind in
    words_left (plains (compare_word width reg case.word) ++ If Eq case.target ∷ If Hi label ∷ first) (Label label ∷ rest)
    (words_right (plains (compare_word width reg case.word)) (If Eq case.target ∷ If Hi label ∷ first)
    (words_first (If Eq case.target) (If Hi label ∷ first) (if_size Eq case.target)))

pub switch_words : (width : Width) (reg next label : ℕ) (cases targets : List ℕ) → length targets ≡ suc (length cases)
    → ((j : ℕ) → j < length targets → get_or targets j 0 < next) → HasWords (switch_items width reg next label cases targets)
switch_words width reg next label cases targets count below =
    search_words width reg (get_or targets (length cases) 0) next label (tree (cases_in_order width cases targets)) (below (length cases) (omega arith))

plain_words : (insts : List Inst) → 0 < length insts → HasWords (plains insts)
plain_words [] some = absurd (omega arith)
plain_words (inst ∷ insts) some = words_first (Plain inst) (plains insts) (λ long. omega arith)

epilogue_some : (f : Frame) → 0 < length (epilogue f)
unfolding epilogue
epilogue_some f = let total = length-append (restores f f.saved) leave in omega arith

-- what ends the last block has words: its targets are blocks before the next one
pub terminal_words : (f : Frame) (next label mark : ℕ) (targets : List ℕ) (traps : Bool) (o : AirOp) (os : List Operand) → target_count o ≡ Some (length targets)
    → ((j : ℕ) → j < length targets → get_or targets j 0 < next) → HasWords (inst_items f next label mark targets traps o os)
unfolding inst_items
terminal_words f next label mark targets traps (op.BranchIf test) os ends below =
    words_right (plains (fetch_tested f test os ++ compared test os))
    (branches test (width_at os 0) (reg_of (source_at os 0 15)) next (get_or targets 0 0) (get_or targets 1 0))
    (branches_words test (width_at os 0) (reg_of (source_at os 0 15)) next (get_or targets 0 0) (get_or targets 1 0))
terminal_words f next label mark targets traps op.Jump os ends below =
    let one : 1 ≡ length targets = same_Some 1 (length targets) ends in
    jump_words next (get_or targets 0 0) (below 0 (omega arith))
terminal_words f next label mark targets traps (op.Switch cases) os ends below =
    let count : suc (length cases) ≡ length targets = same_Some (suc (length cases)) (length targets) ends in
    words_right (plains (fetch f 15 (arg_at os 0))) (switch_items (width_at os 0) (reg_of (source_at os 0 15)) next label cases targets)
    (switch_words (width_at os 0) (reg_of (source_at os 0 15)) next label cases targets (sym count) below)
terminal_words f next label mark targets traps op.Return os ends below = plain_words (epilogue f) (epilogue_some f)
terminal_words f next label mark targets traps op.Oops os ends below = words_first _ [] (λ long. omega arith)
terminal_words f next label mark targets traps o os ends below = absurd (none-some (length targets) ends)
