-- Emitted code is no longer than its procedure weighs.
use Rattle.a64_code.specs.Computing.{reg_of}
use Rattle.a64_emit.proofs.Fits.{grouped, two_there, one_result}
use Rattle.b3_meaning.specs.declared.role.Checked.{Checked}
use Rattle.b3_meaning.specs.declared.role.Checked.TheVariants.{Sum, Difference, Product}
use Rattle.a64_checked.specs.Checks.{passing}
use Rattle.air_ir.specs.declared.operand.Role.TheVariants.{Clobber, Def}
use Rattle.std.proofs.Common.{◌≡◌, ℕ, ◌+◌, ◌^◌, ◌<◌, ◌≤◌, Bool, true, false, List, [], ◌∷◌, ◌++◌, length, get_or, refl, ap, ◌∙◌, arith, length-append, zero, suc, sym, subst, map, drop, append_assoc}
use Rattle.std.specs.Prelude.{All, if◌then◌else◌}
use Rattle.std.specs.List.{sum_by}
use Rattle.std.proofs.lemmas.List.{length-map}
use Rattle.std.proofs.lemmas.List.Elements.{All-head, All-tail}
use Rattle.std.proofs.lemmas.List.Sums.{count_by-le-length, length-filter, sum_by-append, sum_by-cons}
use Rattle.b3_base.specs.declared.word.Width.{Width}
use Rattle.b3_base.specs.declared.word.Width.TheVariants.{W32, W64}
use Rattle.stackmap.specs.declared.site.Returns.{Returns}
use Rattle.stackmap.specs.declared.site.SavedRow.{SavedRow}
use Rattle.a64_inst.specs.declared.inst.Inst.{Inst}
use Rattle.a64_inst.specs.declared.item.Item.{Item}
use Rattle.a64_inst.specs.declared.item.Item.TheVariants.{Label}
use Rattle.air_ir.specs.Forms.{AllFit, AreThese, HasOperands, Takes, home, takes, test_takes, arguments_from, call_clobbers, operand_in, spills_changed, HasSite, SiteOperands, AtSite, Fits, Result, listed, two_homes}
use Rattle.air_ir.specs.Kinds.{kind_of}
use Rattle.air_ir.specs.Weight.{inst_weight, op_words, words_by, weight}
use Rattle.air_ir.specs.WellFormed.{IsGoodBlock, IsGoodInst, IsWellFormed}
use Rattle.air_ir.specs.declared.frame.Frame.{Frame}
use Rattle.air_ir.specs.declared.op.AirOp.{AirOp}
use Rattle.air_ir.specs.declared.op.AirOp.TheVariants as op
use Rattle.air_ir.specs.declared.op.Test.{Test}
use Rattle.air_ir.specs.declared.op.Test.TheVariants.{Compare, NonZero, Bit}
use Rattle.air_ir.specs.declared.operand.Operand.{Operand}
use Rattle.air_ir.specs.declared.procedure.AirBlock.{AirBlock}
use Rattle.air_ir.specs.declared.procedure.AirInst.{AirInst}
use Rattle.air_ir.specs.declared.procedure.AirProc.{AirProc}
use Rattle.air_frame.specs.Frames.{IsFrameOf}
use Rattle.air_frame.specs.Needs.{callee_saved, writes}
use Rattle.a64_layout.specs.Branch.{size_of}
use Rattle.a64_layout.specs.Layout.{most_words}
use Rattle.a64_emit.specs.Built.{IsBuilt, is_built}
use Rattle.a64_emit.specs.Code.{arg_at, block_exits, block_labels, block_marks, blocks_exits, blocks_items, exits_of, has_exit, inner_marks, inst_exits, insts_exits, own_exits, compute_code, copy_code, emitted, fetch_address, fetch_stored, frame_address, has_mark, inner_items, inst_code, inst_items, insts_items, labels_of, load_inst, load_items, marked_if, marks_of, own_labels, put_result, result_reg, select_code, set_code, slot_offset, store_inst, store_items, test_count, width_at, with_mark, breaks, call_inst, fetch, check_items, checked_items, fetch_tested, compared, source_at, shuffle_code}
use Rattle.a64_emit.specs.Fitting.{AreFitting}
use Rattle.a64_code.specs.Places.{epilogue, plains, prologue}
use Rattle.a64_emit.proofs.AccessesLight.{load_code_most, pointer_most, slot_most, store_code_most}
use Rattle.a64_emit.specs.Switched.{switch_labels}
use Rattle.a64_emit.specs.Trees.{tree}
use Rattle.a64_emit.proofs.ShuffleMoves.{shuffle_most}
use Rattle.a64_emit.proofs.Sizes.{compute_most, most_is, operand_words, plain_words, words_of, fetch_most, place_least}
use Rattle.a64_emit.proofs.Trees.{nodes_few, tree_order}
use Rattle.a64_emit.proofs.Weights.{branch_code_most, copy_most, epilogue_most, fit_count, jump_most, prologue_most, select_most, set_most, switch_code_most, check_before, guarded_most, checked_most, compare_words, exit_words}

-- ---- instructions

pub test_length : (t : Test) (width : Width) → length (test_takes t width) ≡ test_count t
test_length (Compare cond) width = refl
test_length NonZero width = refl
test_length (Bit k) width = refl

test_fits : (t : Test) (width : Width) (ts : List Takes) (os : List Operand) → AllFit (test_takes t width ++ ts) os → length os ≡ test_count t + length ts
test_fits t width ts os fits =
    let count = fit_count (test_takes t width ++ ts) os fits in
    let both = length-append (test_takes t width) ts in
    let own = test_length t width in
    omega arith

load_count : (width other : Width) (os : List Operand) → AreThese (takes op.Load width other) os → length os ≡ 2
load_count W32 other os fits = fit_count (_ ∷ _ ∷ []) os fits
load_count W64 other os fits = fit_count (_ ∷ _ ∷ []) os fits

store_count : (width other : Width) (os : List Operand) → AreThese (takes op.Store width other) os → length os ≡ 2
store_count W32 other os fits = fit_count (_ ∷ _ ∷ []) os fits
store_count W64 other os fits = fit_count (_ ∷ _ ∷ []) os fits

module _ (f : Frame) (few : length f.saved ≤ 10) where
  compute_light : (o : AirOp) (os : List Operand) → 1 ≤ op_words o → words_of (plains (compute_code f o os)) ≤ op_words o + sum_by (operand_words f) os
  compute_light o os some =
      let most = compute_most f o os in
      let plain = plain_words (compute_code f o os) in
      omega arith

  if_words : (marks : Bool) (mark : ℕ) → words_of (marked_if marks mark) ≡ 0
  if_words true mark = refl
  if_words false mark = refl

  -- a mark has no word
  with_mark_words : (marks : Bool) (mark : ℕ) (before behind : List Inst) → words_of (with_mark marks mark before behind) ≡ length before + length behind
  with_mark_words marks mark before behind =
      let all = sum_by-append (size_of true) (plains before ++ marked_if marks mark) (plains behind) in
      let first = sum_by-append (size_of true) (plains before) (marked_if marks mark) in
      let none = if_words marks mark in
      let front = plain_words before in
      let rest = plain_words behind in
      omega arith

  load_light : (mark : ℕ) (traps : Bool) (o : AirOp) (os : List Operand) → length os ≡ 2
      → words_of (load_items f mark traps o os) ≤ 1 + sum_by (operand_words f) os
  load_light mark traps o os count =
      let behind : List Inst = load_inst o os ∷ put_result f (result_reg (arg_at os 1)) (arg_at os 1) in
      let most = load_code_most f o os count in
      let both = length-append (fetch_address f (arg_at os 0)) behind in
      let words = with_mark_words traps mark (fetch_address f (arg_at os 0)) behind in
      omega arith

  store_light : (mark : ℕ) (traps : Bool) (o : AirOp) (os : List Operand) → length os ≡ 2
      → words_of (store_items f mark traps o os) ≤ 1 + sum_by (operand_words f) os
  store_light mark traps o os count =
      let most = store_code_most f o os count in
      let both = length-append (fetch_stored f os) (store_inst o os ∷ []) in
      let words = with_mark_words traps mark (fetch_stored f os) (store_inst o os ∷ []) in
      omega arith

  breaks_count : (n : ℕ) → length (breaks n) ≡ n
  unfolding breaks
  breaks_count zero = refl
  breaks_count (suc n) = ap suc (breaks_count n)

  call_light : (mark : ℕ) (callee : Operand) (os : List Operand)
      → words_of (with_mark true mark (fetch f 15 callee.arg) (call_inst (callee ∷ os) ∷ [])) ≤ 1 + sum_by (operand_words f) (callee ∷ os)
  call_light mark callee os =
      let fetched = fetch_most f 15 callee.arg in
      let words = with_mark_words true mark (fetch f 15 callee.arg) (call_inst (callee ∷ os) ∷ []) in
      let sum = sum_by-cons (operand_words f) callee os in
      let least = place_least callee.arg in
      omega arith

  patch_light : (mark size : ℕ) (os : List Operand) → words_of (with_mark true mark [] (breaks size)) ≤ size + sum_by (operand_words f) os
  patch_light mark size os =
      let words = with_mark_words true mark [] (breaks size) in
      let count = breaks_count size in
      omega arith

  -- a check with its inputs in front
  check_light : (label : ℕ) (t : Test) (os : List Operand) → HasSite (op.CheckIf t) os
      → words_of (check_items f label t os) ≤ 3 + sum_by (operand_words f) os
  check_light label t os h =
      let rest : List Operand = h.0.reported ++ (h.0.changed ++ h.0.results) in
      subst (λ (xs : List Operand). words_of (check_items f label t xs) ≤ 3 + sum_by (operand_words f) xs) (sym (h.1 ∙ grouped h.0))
      (let xs : List Operand = h.0.inputs ++ rest in
      let before = check_before f t h.0.inputs rest (fit_count (test_takes t h.2.width) h.0.inputs h.2.fits ∙ test_length t h.2.width) in
      let most = guarded_most f (fetch_tested f t xs ++ compared t xs) t (width_at xs 0) (reg_of (source_at xs 0 15)) label [] in
      let both = sum_by-append (operand_words f) h.0.inputs rest in
      omega arith)

  checked_light : (label : ℕ) (kind : Checked) (os : List Operand) (s : SiteOperands) → os ≡ listed s
      → AtSite two_homes true (λ width. Fits (Result width)) s
      → words_of (checked_items f label kind os) ≤ compare_words f kind + 3 + sum_by (operand_words f) os
  checked_light label kind os s is at =
      let inputs = two_there s.inputs at.width at.fits in
      let result = one_result s.results at.width at.result in
      let parts : os ≡ inputs.0 ∷ inputs.1 ∷ ((s.reported ++ s.changed) ++ result.0 ∷ []) =
      is ∙ grouped s ∙ ap (λ (xs : List Operand). xs ++ (s.reported ++ (s.changed ++ s.results))) inputs.2
      ∙ ap (λ (xs : List Operand). inputs.0 ∷ inputs.1 ∷ (s.reported ++ (s.changed ++ xs))) result.1
      ∙ ap (λ (xs : List Operand). inputs.0 ∷ inputs.1 ∷ xs) (sym (append_assoc s.reported s.changed (result.0 ∷ []))) in
      subst (λ (xs : List Operand). words_of (checked_items f label kind xs) ≤ compare_words f kind + 3 + sum_by (operand_words f) xs) (sym parts)
      (checked_most f label kind inputs.0 inputs.1 (s.reported ++ s.changed) result.0)

  pub inst_light : (r : Returns) (next label mark : ℕ) (targets : List ℕ) (traps : Bool) (o : AirOp) (os : List Operand) → HasOperands r o os → is_built o traps ≡ true
      → words_of (inst_items f next label mark targets traps o os) ≤ words_by o os
  unfolding inst_items inner_items inst_code
  inst_light r next label mark targets traps (op.BranchIf t) os has built =
      branch_code_most f next targets t os (fit_count (test_takes t has.0) os has.2 ∙ test_length t has.0)
  inst_light r next label mark targets traps op.Jump os has built = let most = jump_most next (get_or targets 0 0) in omega arith
  inst_light r next label mark targets traps (op.Switch cases) os has built = switch_code_most f next label cases targets os (fit_count (home has.0 ∷ []) os has.1)
  inst_light r next label mark targets traps op.Return os has built =
      let most = epilogue_most f few in
      let plain = plain_words (epilogue f) in
      omega arith
  inst_light r next label mark targets traps op.Oops os has built = omega arith
  inst_light r next label mark targets traps op.Move os has built =
      let most = copy_most f os (fit_count (_ ∷ _ ∷ []) os has.2) in
      let plain = plain_words (copy_code f (width_at os 0) (arg_at os 0) (arg_at os 1)) in
      omega arith
  inst_light r next label mark targets traps (op.SetIf t) os has built =
      let most = set_most f t os (test_fits t has.0 (_ ∷ []) os has.2) in
      let plain = plain_words (set_code f t os) in
      omega arith
  inst_light r next label mark targets traps (op.SelectIf t) os has built =
      let most = select_most f t os (test_fits t has.0 (_ ∷ _ ∷ _ ∷ []) os has.2) in
      let plain = plain_words (select_code f t os) in
      omega arith
  inst_light r next label mark targets traps op.Load8Z os has built = load_light mark traps op.Load8Z os (fit_count (_ ∷ _ ∷ []) os has.2)
  inst_light r next label mark targets traps op.Load8S os has built = load_light mark traps op.Load8S os (fit_count (_ ∷ _ ∷ []) os has.2)
  inst_light r next label mark targets traps op.Load16Z os has built = load_light mark traps op.Load16Z os (fit_count (_ ∷ _ ∷ []) os has.2)
  inst_light r next label mark targets traps op.Load16S os has built = load_light mark traps op.Load16S os (fit_count (_ ∷ _ ∷ []) os has.2)
  inst_light r next label mark targets traps op.Load os has built = load_light mark traps op.Load os (load_count has.0 has.1 os has.2)
  inst_light r next label mark targets traps op.Store8 os has built = store_light mark traps op.Store8 os (fit_count (_ ∷ _ ∷ []) os has.2)
  inst_light r next label mark targets traps op.Store16 os has built = store_light mark traps op.Store16 os (fit_count (_ ∷ _ ∷ []) os has.2)
  inst_light r next label mark targets traps op.Store os has built = store_light mark traps op.Store os (store_count has.0 has.1 os has.2)
  inst_light r next label mark targets traps op.SlotAddress os has built =
      let most = slot_most f os (fit_count (_ ∷ _ ∷ []) os has.2) in
      let plain = plain_words (frame_address f (slot_offset f (arg_at os 0)) (arg_at os 1)) in
      omega arith
  inst_light r next label mark targets traps op.FramePointer os has built =
      let most = pointer_most f os (fit_count (_ ∷ []) os has.2) in
      let plain = plain_words (frame_address f 0 (arg_at os 0)) in
      omega arith
  inst_light r next label mark targets traps op.Shuffle os has built =
      let most = shuffle_most f os in
      let plain = plain_words (shuffle_code f os) in
      omega arith
  inst_light r next label mark targets traps (op.CheckIf t) os has built = let most = check_light label t os has in omega arith
  inst_light r next label mark targets traps op.CheckAdd os has built =
      let most = checked_light label Sum os has.0 has.1 has.2 in omega arith
  inst_light r next label mark targets traps op.CheckSub os has built =
      let most = checked_light label Difference os has.0 has.1 has.2 in omega arith
  inst_light r next label mark targets traps op.CheckMul os has built =
      let most = checked_light label Product os has.0 has.1 has.2 in omega arith
  inst_light r next label mark targets traps (op.Call typed) os has built =
      subst (λ (xs : List Operand). words_of (with_mark true mark (fetch f 15 (arg_at xs 0)) (call_inst xs ∷ [])) ≤ 1 + sum_by (operand_words f) xs)
      (sym has.parts) (call_light mark has.callee (arguments_from 0 has.widths ++ map (operand_in Clobber W64) call_clobbers
      ++ spills_changed 0 (drop 8 has.widths) ++ (if typed then operand_in Def has.width 0 ∷ [] else [])))
  inst_light r next label mark targets traps (op.Patch size typed) os has built = patch_light mark size os
  inst_light r next label mark targets traps o os has built = compute_light o os (omega arith)

  -- with its exit
  both_light : (r : Returns) (next label mark : ℕ) (targets : List ℕ) (traps : Bool) (o : AirOp) (os : List Operand) → HasOperands r o os
      → is_built o traps ≡ true → words_of (inst_items f next label mark targets traps o os) + own_exits o ≤ words_by o os
  unfolding inst_items
  both_light r next label mark targets traps (op.CheckIf t) os has built = let most = check_light label t os has in omega arith
  both_light r next label mark targets traps op.CheckAdd os has built = let most = checked_light label Sum os has.0 has.1 has.2 in omega arith
  both_light r next label mark targets traps op.CheckSub os has built = let most = checked_light label Difference os has.0 has.1 has.2 in omega arith
  both_light r next label mark targets traps op.CheckMul os has built = let most = checked_light label Product os has.0 has.1 has.2 in omega arith
  both_light r next label mark targets traps o os has built = let most = inst_light r next label mark targets traps o os has built in omega arith

  -- ---- blocks

  words_least : (i : AirInst) → words_by i.op i.operands ≤ inst_weight i
  words_least i = omega arith

  insts_light : (p : AirProc) (next label mark exit : ℕ) (targets : List ℕ) (insts : List AirInst) → All (IsGoodInst p) insts
      → All (λ (i : AirInst). is_built i.op i.traps ≡ true) insts
      → words_of (insts_items f next label mark targets insts) + words_of (insts_exits label exit insts) ≤ sum_by inst_weight insts
  unfolding insts_items insts_exits
  insts_light p next label mark exit targets [] good built = omega arith
  insts_light p next label mark exit targets (i ∷ insts) good built =
      let here = both_light p.returns next label mark targets i.traps i.op i.operands (All-head (IsGoodInst p) i insts good).operands
      (All-head (λ (i : AirInst). is_built i.op i.traps ≡ true) i insts built) in
      let least = words_least i in
      let own = exit_words f label exit (has_exit (kind_of i.op)) in
      let outs = sum_by-append (size_of true) (inst_exits label exit i) (insts_exits (label + labels_of i) (exit + exits_of i) insts) in
      let more = insts_light p next (label + labels_of i) (mark + marks_of i) (exit + exits_of i) targets insts (All-tail (IsGoodInst p) i insts good)
      (All-tail (λ (i : AirInst). is_built i.op i.traps ≡ true) i insts built) in
      let both = sum_by-append (size_of true) (inst_items f next label mark targets i.traps i.op i.operands)
      (insts_items f next (label + labels_of i) (mark + marks_of i) targets insts) in
      let sum = sum_by-cons inst_weight i insts in
      omega arith

  abbrev block_weight : AirBlock → ℕ
  block_weight b = sum_by inst_weight b.insts

  blocks_light : (p : AirProc) (first label mark exit : ℕ) (blocks : List AirBlock) → All (IsGoodBlock p) blocks
      → All (λ (b : AirBlock). All (λ (i : AirInst). is_built i.op i.traps ≡ true) b.insts) blocks
      → words_of (blocks_items f first label mark blocks) + words_of (blocks_exits label exit blocks) ≤ sum_by block_weight blocks
  unfolding blocks_items blocks_exits
  blocks_light p first label mark exit [] good built = omega arith
  blocks_light p first label mark exit (b ∷ blocks) good built =
      let inside : List Item = insts_items f (first + 1) label mark b.targets b.insts in
      let rest : List Item = blocks_items f (first + 1) (label + block_labels b) (mark + block_marks b) blocks in
      let outs = sum_by-append (size_of true) (insts_exits label exit b.insts)
      (blocks_exits (label + block_labels b) (exit + block_exits b) blocks) in
      let here = insts_light p (first + 1) label mark exit b.targets b.insts (All-head (IsGoodBlock p) b blocks good).insts
      (All-head (λ (b : AirBlock). All (λ (i : AirInst). is_built i.op i.traps ≡ true) b.insts) b blocks built) in
      let more = blocks_light p (first + 1) (label + block_labels b) (mark + block_marks b) (exit + block_exits b) blocks (All-tail (IsGoodBlock p) b blocks good)
      (All-tail (λ (b : AirBlock). All (λ (i : AirInst). is_built i.op i.traps ≡ true) b.insts) b blocks built) in
      let both = sum_by-append (size_of true) inside rest in
      let label = sum_by-cons (size_of true) (Label first) (inside ++ rest) in
      let sum = sum_by-cons block_weight b blocks in
      omega arith

few_saved : (p : AirProc) (f : Frame) → IsFrameOf p f → length f.saved ≤ 10
unfolding callee_saved
few_saved p f serves =
    let mapped = length-map f.saved (λ (s : SavedRow). s.reg.0) in
    let same = ap (λ (xs : List ℕ). length xs) serves.saved in
    let kept = length-filter (writes p) callee_saved in
    let most = count_by-le-length (writes p) callee_saved in
    omega arith

pub light : (p : AirProc) (f : Frame) → IsWellFormed p → IsBuilt p → IsFrameOf p f → most_words (emitted p f) ≤ weight p
unfolding emitted
light p f well built serves =
    let few = few_saved p f serves in
    let front = prologue_most f few in
    let plain = plain_words (prologue f) in
    let inside : List Item = blocks_items f 0 (length p.blocks) 0 p.blocks in
    let out : List Item = blocks_exits (length p.blocks) (inner_marks p.blocks) p.blocks in
    let blocks = blocks_light f few p 0 (length p.blocks) 0 (inner_marks p.blocks) p.blocks well.blocks built in
    let both = sum_by-append (size_of true) (plains (prologue f)) (inside ++ out) in
    let behind = sum_by-append (size_of true) inside out in
    let most = most_is (plains (prologue f) ++ (inside ++ out)) in
    omega arith

-- ---- labels

pub labels_few : (cases : List ℕ) → switch_labels cases ≤ length cases
labels_few cases =
    let few = nodes_few (tree cases) in
    let same = ap (λ (xs : List ℕ). length xs) (tree_order cases) in
    omega arith

few_labels : (o : AirOp) (os : List Operand) → own_labels o ≤ words_by o os
few_labels (op.Switch cases) os = let few = labels_few cases in omega arith
few_labels o os = omega arith

few_exits : (i : AirInst) → exits_of i ≤ 1
few_exits i = elim (has_exit (kind_of i.op)) as (λ b. (if b then 1 else 0) ≤ 1) [ true ↦ omega arith | false ↦ omega arith ]

few_marks : (i : AirInst) → marks_of i ≤ 1
few_marks i = elim (has_mark (kind_of i.op) i.traps) as (λ b. (if b then 1 else 0) ≤ 1) [ true ↦ omega arith | false ↦ omega arith ]

-- what is counted of each item is no more than what it weighs
sums_few : {X : Type 0} (count heavy : X → ℕ) → ((x : X) → count x ≤ heavy x) → (xs : List X) → sum_by count xs ≤ sum_by heavy xs
sums_few count heavy few [] = omega arith
sums_few count heavy few (x ∷ xs) =
    let here = few x in
    let more = sums_few count heavy few xs in
    let own = sum_by-cons count x xs in
    let sum = sum_by-cons heavy x xs in
    omega arith

labels_light : (i : AirInst) → labels_of i ≤ inst_weight i
labels_light i =
    let here = few_labels i.op i.operands in
    let least : words_by i.op i.operands ≤ inst_weight i = omega arith in
    omega arith

marks_light : (i : AirInst) → marks_of i ≤ inst_weight i
marks_light i =
    let here = few_marks i in
    let least : 1 ≤ inst_weight i = omega arith in
    omega arith

exits_light : (i : AirInst) → exits_of i ≤ inst_weight i
exits_light i =
    let here = few_exits i in
    let least : 1 ≤ inst_weight i = omega arith in
    omega arith

some_weight : (p : AirProc) (b : AirBlock) → IsGoodBlock p b → 1 ≤ sum_by inst_weight b.insts
some_weight p b good =
    let both = sum_by-append inst_weight good.body (good.last ∷ []) in
    let last = sum_by-cons inst_weight good.last [] in
    let some : 1 ≤ inst_weight good.last = omega arith in
    let same = ap (sum_by inst_weight) good.parts in
    omega arith

blocks_few : (p : AirProc) (blocks : List AirBlock) → All (IsGoodBlock p) blocks → length blocks ≤ sum_by (λ (b : AirBlock). sum_by inst_weight b.insts) blocks
blocks_few p [] good = omega arith
blocks_few p (b ∷ blocks) good =
    let here = some_weight p b (All-head (IsGoodBlock p) b blocks good) in
    let more = blocks_few p blocks (All-tail (IsGoodBlock p) b blocks good) in
    let sum = sum_by-cons (λ (b : AirBlock). sum_by inst_weight b.insts) b blocks in
    omega arith

-- the labels and the marks of a procedure of this weight are numbers of 32 bits
pub labels_fit : (p : AirProc) → IsWellFormed p → weight p < 2 ^ 24 → AreFitting p
labels_fit p well short =
    let few = blocks_few p p.blocks well.blocks in
    let Heavy : AirBlock → ℕ = λ b. sum_by inst_weight b.insts in
    let labels = sums_few block_labels Heavy (λ b. sums_few labels_of inst_weight labels_light b.insts) p.blocks in
    let marks = sums_few block_marks Heavy (λ b. sums_few marks_of inst_weight marks_light b.insts) p.blocks in
    let exits = sums_few block_exits Heavy (λ b. sums_few exits_of inst_weight exits_light b.insts) p.blocks in
    record { labels = omega arith; marks = omega arith }
