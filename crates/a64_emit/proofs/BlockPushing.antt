-- How the code of blocks grows by that of one instruction more, or one block.
use Rattle.std.proofs.Common.{◌≡◌, ℕ, zero, suc, ◌+◌, ◌≤◌, List, [], ◌∷◌, ◌++◌, Some, refl, sym, ap, ◌∙◌, arith, length, drop, append_assoc, append-nil}
use Rattle.std.specs.Prelude.{slice_get, sum_by}
use Rattle.std.proofs.lemmas.List.Sums.{sum_by-cons}
use Rattle.b3_base.proofs.Lists.{drop_suc}
use Rattle.a64_inst.specs.declared.item.Item.{Item}
use Rattle.a64_inst.specs.declared.item.Item.TheVariants.{Label}
use Rattle.air_ir.specs.declared.frame.Frame.{Frame}
use Rattle.air_ir.specs.declared.procedure.AirBlock.{AirBlock}
use Rattle.air_ir.specs.declared.procedure.AirInst.{AirInst}
use Rattle.a64_emit.specs.Code.{block_exits, block_labels, block_marks, blocks_exits, blocks_items, exits_of, inst_exits, inst_items, insts_exits, insts_items, labels_of, marks_of}

none_left : {X : Type 0} (xs : List X) (k : ℕ) → length xs ≤ k → drop k xs ≡ []
none_left [] zero le = refl
none_left [] (suc k) le = refl
none_left (a ∷ xs) zero le = absurd (omega arith)
none_left (a ∷ xs) (suc k) le = none_left xs k (omega arith)

one_more : (k : ℕ) → suc k ≡ k + 1
one_more k = omega arith

pub insts_next : (f : Frame) (next label mark : ℕ) (targets : List ℕ) (insts : List AirInst) (k : ℕ) (i : AirInst) (code after whole : List Item)
    → code ++ insts_items f next label mark targets (drop k insts) ≡ whole → slice_get insts k ≡ Some i
    → after ≡ code ++ inst_items f next label mark targets i.traps i.op i.operands
    → after ++ insts_items f next (label + labels_of i) (mark + marks_of i) targets (drop (k + 1) insts) ≡ whole
unfolding insts_items
insts_next f next label mark targets insts k i code after whole left there pushed =
    let rest : List Item = insts_items f next (label + labels_of i) (mark + marks_of i) targets (drop (suc k) insts) in
    ap (λ n. after ++ insts_items f next (label + labels_of i) (mark + marks_of i) targets (drop n insts)) (sym (one_more k))
    ∙ ap (λ (xs : List Item). xs ++ rest) pushed
    ∙ append_assoc code (inst_items f next label mark targets i.traps i.op i.operands) rest
    ∙ ap (λ (xs : List AirInst). code ++ insts_items f next label mark targets xs) (sym (drop_suc insts k i there)) ∙ left

pub insts_done : (f : Frame) (next label mark : ℕ) (targets : List ℕ) (insts : List AirInst) (k : ℕ) (code whole : List Item)
    → code ++ insts_items f next label mark targets (drop k insts) ≡ whole → length insts ≤ k → code ≡ whole
unfolding insts_items
insts_done f next label mark targets insts k code whole left le =
    sym (append-nil code) ∙ ap (λ (xs : List AirInst). code ++ insts_items f next label mark targets xs) (sym (none_left insts k le)) ∙ left

pub blocks_next : (f : Frame) (blocks : List AirBlock) (b label mark : ℕ) (block : AirBlock) (code between after whole : List Item)
    → code ++ blocks_items f b label mark (drop b blocks) ≡ whole → slice_get blocks b ≡ Some block → between ≡ code ++ Label b ∷ []
    → after ≡ between ++ insts_items f (b + 1) label mark block.targets block.insts
    → after ++ blocks_items f (b + 1) (label + block_labels block) (mark + block_marks block) (drop (b + 1) blocks) ≡ whole
unfolding blocks_items
blocks_next f blocks b label mark block code between after whole left there labelled pushed =
    let insts : List Item = insts_items f (b + 1) label mark block.targets block.insts in
    let rest : List Item = blocks_items f (b + 1) (label + block_labels block) (mark + block_marks block) (drop (suc b) blocks) in
    ap (λ n. after ++ blocks_items f (b + 1) (label + block_labels block) (mark + block_marks block) (drop n blocks)) (sym (one_more b))
    ∙ ap (λ (xs : List Item). xs ++ rest) (pushed ∙ ap (λ (xs : List Item). xs ++ insts) labelled)
    ∙ append_assoc (code ++ Label b ∷ []) insts rest ∙ append_assoc code (Label b ∷ []) (insts ++ rest)
    ∙ ap (λ (xs : List AirBlock). code ++ blocks_items f b label mark xs) (sym (drop_suc blocks b block there)) ∙ left

pub blocks_done : (f : Frame) (blocks : List AirBlock) (b label mark : ℕ) (code whole : List Item)
    → code ++ blocks_items f b label mark (drop b blocks) ≡ whole → length blocks ≤ b → code ≡ whole
unfolding blocks_items
blocks_done f blocks b label mark code whole left le =
    sym (append-nil code) ∙ ap (λ (xs : List AirBlock). code ++ blocks_items f b label mark xs) (sym (none_left blocks b le)) ∙ left

pub exits_next : (label mark : ℕ) (insts : List AirInst) (k : ℕ) (i : AirInst) (code after whole : List Item)
    → code ++ insts_exits label mark (drop k insts) ≡ whole → slice_get insts k ≡ Some i → after ≡ code ++ inst_exits label mark i
    → after ++ insts_exits (label + labels_of i) (mark + exits_of i) (drop (k + 1) insts) ≡ whole
unfolding insts_exits
exits_next label mark insts k i code after whole left there pushed =
    let rest : List Item = insts_exits (label + labels_of i) (mark + exits_of i) (drop (suc k) insts) in
    ap (λ n. after ++ insts_exits (label + labels_of i) (mark + exits_of i) (drop n insts)) (sym (one_more k))
    ∙ ap (λ (xs : List Item). xs ++ rest) pushed ∙ append_assoc code (inst_exits label mark i) rest
    ∙ ap (λ (xs : List AirInst). code ++ insts_exits label mark xs) (sym (drop_suc insts k i there)) ∙ left

pub exits_done : (label mark : ℕ) (insts : List AirInst) (k : ℕ) (code whole : List Item) → code ++ insts_exits label mark (drop k insts) ≡ whole
    → length insts ≤ k → code ≡ whole
unfolding insts_exits
exits_done label mark insts k code whole left le =
    sym (append-nil code) ∙ ap (λ (xs : List AirInst). code ++ insts_exits label mark xs) (sym (none_left insts k le)) ∙ left

pub all_exits_next : (label mark : ℕ) (blocks : List AirBlock) (b : ℕ) (block : AirBlock) (code after whole : List Item)
    → code ++ blocks_exits label mark (drop b blocks) ≡ whole → slice_get blocks b ≡ Some block → after ≡ code ++ insts_exits label mark block.insts
    → after ++ blocks_exits (label + block_labels block) (mark + block_exits block) (drop (b + 1) blocks) ≡ whole
unfolding blocks_exits
all_exits_next label mark blocks b block code after whole left there pushed =
    let rest : List Item = blocks_exits (label + block_labels block) (mark + block_exits block) (drop (suc b) blocks) in
    ap (λ n. after ++ blocks_exits (label + block_labels block) (mark + block_exits block) (drop n blocks)) (sym (one_more b))
    ∙ ap (λ (xs : List Item). xs ++ rest) pushed ∙ append_assoc code (insts_exits label mark block.insts) rest
    ∙ ap (λ (xs : List AirBlock). code ++ blocks_exits label mark xs) (sym (drop_suc blocks b block there)) ∙ left

pub all_exits_done : (label mark : ℕ) (blocks : List AirBlock) (b : ℕ) (code whole : List Item) → code ++ blocks_exits label mark (drop b blocks) ≡ whole
    → length blocks ≤ b → code ≡ whole
unfolding blocks_exits
all_exits_done label mark blocks b code whole left le =
    sym (append-nil code) ∙ ap (λ (xs : List AirBlock). code ++ blocks_exits label mark xs) (sym (none_left blocks b le)) ∙ left

-- all of them were counted
pub sum_done : {X : Type 0} (count : X → ℕ) (xs : List X) (b n total : ℕ) → n + sum_by count (drop b xs) ≡ total → length xs ≤ b → n ≡ total
sum_done count xs b n total left le =
    let none = ap (sum_by count) (none_left xs b le) in omega arith

-- what is counted of those that are left
pub sum_left : {X : Type 0} (count : X → ℕ) (xs : List X) (b : ℕ) (x : X) → slice_get xs b ≡ Some x
    → sum_by count (drop b xs) ≡ count x + sum_by count (drop (b + 1) xs)
sum_left count xs b x there =
    ap (sum_by count) (drop_suc xs b x there) ∙ sum_by-cons count x (drop (suc b) xs)
    ∙ ap (λ n. count x + sum_by count (drop n xs)) (one_more b)
