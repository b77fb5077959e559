-- The marks of emitted code are those of its sites.
use Rattle.b3_meaning.specs.declared.role.Checked.{Checked}
use Rattle.b3_meaning.specs.declared.role.Checked.TheVariants.{Sum, Difference, Product}
use Rattle.a64_checked.specs.Checks.{passing}
use Rattle.air_ir.specs.declared.operand.Home.TheVariants.{Reg, Spill, Tmp}
use Rattle.a64_emit.proofs.BranchEnds.{word_home}
use Rattle.a64_emit.proofs.Labelled.{AreSmall, IsSmallArg, names_small}
use Rattle.std.proofs.Common.{◌≡◌, ℕ, ℤ, suc, ◌+◌, Bool, true, false, List, [], ◌∷◌, ◌++◌, length, get_or, refl, sym, ap, subst, arith, append_assoc, zero, ◌<◌, ◌≤◌, Some, ◌∙◌}
use Rattle.std.specs.Prelude.{All, if◌then◌else◌, nat_eq, nat_le, ◌*◌, ◌%◌, ◌/◌, ◌&&◌, slice_get}
use Rattle.std.specs.Int.{cast_unsigned, w64}
use Rattle.std.specs.List.{flat_map}
use Rattle.std.proofs.lemmas.List.Elements.{All-head, All-tail}
use Rattle.stackmap.specs.declared.site.Returns.{Returns}
use Rattle.stackmap.specs.declared.site.Site.{Site}
use Rattle.stackmap.specs.declared.site.SiteKind.TheVariants as site_kind
use Rattle.a64_inst.specs.StepMemory.{access_bytes}
use Rattle.a64_inst.specs.declared.inst.AccessKind.{AccessKind}
use Rattle.a64_inst.specs.declared.inst.Inst.{Inst}
use Rattle.a64_inst.specs.declared.inst.Inst.TheVariants.{Access, AccessNear, Break}
use Rattle.a64_inst.specs.declared.inst.Cond.TheVariants.{Eq, Hi}
use Rattle.a64_inst.specs.declared.item.Item.{Item}
use Rattle.a64_inst.specs.declared.item.Item.TheVariants.{If, Jump, Label, Mark, Plain}
use Rattle.b3_base.specs.declared.word.Width.{Width}
use Rattle.b3_base.specs.declared.word.Width.TheVariants.{W32, W64}
use Rattle.air_ir.specs.Forms.{Address, AllFit, AreThese, HasOperands, IsAddress, Takes, Word, OnlyZero, takes, IsHome, OfCall}
use Rattle.air_ir.specs.Kinds.{Checks, ChecksResult, Kind, kind_of}
use Rattle.air_ir.specs.WellFormed.{IsGoodBlock, IsGoodInst, IsWellFormed}
use Rattle.air_ir.specs.declared.frame.Frame.{Frame}
use Rattle.air_ir.specs.declared.op.AirOp.{AirOp}
use Rattle.air_ir.specs.declared.op.AirOp.TheVariants as op
use Rattle.air_ir.specs.declared.op.Test.{Test}
use Rattle.air_ir.specs.declared.op.Test.TheVariants.{Compare, NonZero, Bit}
use Rattle.air_ir.specs.declared.operand.Arg.{Arg}
use Rattle.air_ir.specs.declared.operand.Arg.TheVariants.{At, Imm, Addr, Index, FrameSlot}
use Rattle.air_ir.specs.declared.operand.Operand.{Operand}
use Rattle.air_ir.specs.declared.procedure.AirBlock.{AirBlock}
use Rattle.air_ir.specs.declared.procedure.AirInst.{AirInst}
use Rattle.air_ir.specs.declared.procedure.AirProc.{AirProc}
use Rattle.a64_code.specs.Accesses.{access_kind, offset_access}
use Rattle.a64_emit.specs.Built.{IsBuilt, is_built}
use Rattle.a64_emit.specs.Code.{access_inst, arg_at, block_exits, block_labels, block_marks, blocks_exits, blocks_items, exits_by, exits_of, has_exit, inner_marks, inst_exits, insts_exits, branch_item, branches, compared, emitted, fetch, fetch_address, fetch_stored, fetch_tested, inner_items, inst_code, inst_items, insts_items, labels_of, load_inst, load_items, marks_of, put_result, result_reg, source_at, store_inst, store_items, width_at, with_mark, breaks, call_inst, source_of, guarded, fetch_checked, make_checked, test_count}
use Rattle.a64_code.specs.Computing.{reg_of}
use Rattle.a64_emit.specs.Made.{block_exit_sites, block_sites, exit_by, exit_sites, inner_sites, inst_exit, inst_sites, procedure_sites, sites_by, trap_site, outward_site, patch_size, exit_site}
use Rattle.a64_code.specs.Places.{epilogue, plains, prologue}
use Rattle.a64_emit.specs.Sites.{IsAccess, SuitsItems}
use Rattle.a64_emit.specs.Switched.{case_items, cases_in_order, compare_word, jump_to, search_items, switch_items}
use Rattle.a64_emit.specs.Trees.{Leaf, Node, Tree, node_count, tree}
use Rattle.a64_emit.specs.declared.case.Case.{Case}
use Rattle.a64_emit.proofs.Marks.{IsUnmarked, Marked, marked_append, marked_none, plains_unmarked}
use Rattle.a64_emit.proofs.Positions.{block_exits_counted, exits_counted, inner_sites_counted, inst_counted, sites_counted}
use Rattle.a64_emit.proofs.Trees.{Each, each_append}

-- ---- items without marks

jump_unmarked : (next label : ℕ) → Each IsUnmarked (jump_to next label)
jump_unmarked next label = elim (nat_eq label next) as (λ b. Each IsUnmarked (if b then [] else Jump label ∷ [])) [ true ↦ tt | false ↦ (refl, tt) ]

branch_item_unmarked : (test : Test) (passes : Bool) (width : Width) (reg label : ℕ) → IsUnmarked (branch_item test passes width reg label)
branch_item_unmarked (Compare cond) passes width reg label = refl
branch_item_unmarked NonZero passes width reg label = refl
branch_item_unmarked (Bit bit) passes width reg label = refl

branches_unmarked : (test : Test) (width : Width) (reg next then_label else_label : ℕ) → Each IsUnmarked (branches test width reg next then_label else_label)
branches_unmarked test width reg next then_label else_label =
    elim (nat_eq then_label next) as (λ b. Each IsUnmarked (if b then branch_item test false width reg else_label ∷ [] else
    branch_item test true width reg then_label ∷ jump_to next else_label)) [
      | true ↦ (branch_item_unmarked test false width reg else_label, tt)
      | false ↦ (branch_item_unmarked test true width reg then_label, jump_unmarked next else_label)
    ]

cases_unmarked : (width : Width) (reg : ℕ) (cases : List Case) → Each IsUnmarked (case_items width reg cases)
unfolding case_items
cases_unmarked width reg [] = tt
cases_unmarked width reg (case ∷ cases) =
    each_append IsUnmarked (plains (compare_word width reg case.word)) (If Eq case.target ∷ case_items width reg cases)
    (plains_unmarked (compare_word width reg case.word)) (refl, cases_unmarked width reg cases)

search_unmarked : (width : Width) (reg other next label : ℕ) (t : Tree Case) → Each IsUnmarked (search_items width reg other next label t)
unfolding search_items
search_unmarked width reg other next label (Leaf cases) =
    each_append IsUnmarked (case_items width reg cases) (jump_to next other) (cases_unmarked width reg cases) (jump_unmarked next other)
search_unmarked width reg other next label (Node before case behind) =
    let compare : List Item = plains (compare_word width reg case.word) in
    let first : List Item = search_items width reg other label (label + 1) before in
    let rest : List Item = search_items width reg other next (label + 1 + node_count before) behind in
    each_append IsUnmarked (compare ++ If Eq case.target ∷ If Hi label ∷ first) (Label label ∷ rest)
    (each_append IsUnmarked compare (If Eq case.target ∷ If Hi label ∷ first) (plains_unmarked (compare_word width reg case.word))
    (refl, (refl, search_unmarked width reg other label (label + 1) before)))
    (refl, search_unmarked width reg other next (label + 1 + node_count before) behind)

-- ---- accesses

address_accesses : (kind : AccessKind) (rt bytes : ℕ) (address : Arg) → IsAddress bytes address → IsAccess (access_inst kind rt address)
address_accesses kind rt bytes (Addr base offset) is = offset_accesses kind rt _ offset
  where
    offset_accesses : (kind : AccessKind) (rt rn : ℕ) (offset : ℤ) → IsAccess (offset_access kind rt rn offset)
    offset_accesses kind rt rn offset =
        let above : ℕ = cast_unsigned w64 offset in
        elim (nat_eq (above % access_bytes kind) 0 && nat_le above (4095 * access_bytes kind)) as
        (λ b. IsAccess (if b then Access kind rt rn (above / access_bytes kind) else AccessNear kind rt rn offset)) [ true ↦ tt | false ↦ tt ]
address_accesses kind rt bytes (Index base index shift) is = tt
address_accesses kind rt bytes (At home) is = absurd is
address_accesses kind rt bytes (Imm word) is = absurd is
address_accesses kind rt bytes (FrameSlot n) is = absurd is

first_address : (width : Width) (bytes : ℕ) (ts : List Takes) (os : List Operand) → AllFit (Address width bytes ∷ ts) os → IsAddress bytes (arg_at os 0)
unfolding AllFit
first_address width bytes ts [] fits = absurd fits
first_address width bytes ts (a ∷ os) fits = fits.0.2

second_address : (width : Width) (bytes : ℕ) (os : List Operand) → AllFit (Word width OnlyZero ∷ Address width bytes ∷ []) os → IsAddress bytes (arg_at os 1)
unfolding AllFit
second_address width bytes [] fits = absurd fits
second_address width bytes (a ∷ []) fits = absurd fits.1
second_address width bytes (a ∷ b ∷ os) fits = fits.1.0.2

word_address : (width other : Width) (os : List Operand) → AreThese (takes op.Load width other) os → (bytes : ℕ) × IsAddress bytes (arg_at os 0)
word_address W32 other os fits = (4, first_address W32 4 _ os fits)
word_address W64 other os fits = (8, first_address W64 8 _ os fits)

stored_address : (width other : Width) (os : List Operand) → AreThese (takes op.Store width other) os → (bytes : ℕ) × IsAddress bytes (arg_at os 1)
stored_address W32 other os fits = (4, second_address W32 4 os fits)
stored_address W64 other os fits = (8, second_address W64 8 os fits)

-- a mark right before what its site asks for
site_marked : (site : Site) (mark : ℕ) (front back : List Inst) → SuitsItems (plains back) site.kind site.size 0
    → Marked mark (with_mark true mark front back) (site ∷ [])
site_marked site mark front back suits =
    subst (λ (items : List Item). Marked mark items (site ∷ [])) (sym (append_assoc (plains front) (Mark mark ∷ []) (plains back)))
    (marked_append mark mark (plains front) (Mark mark ∷ plains back) [] (site ∷ []) (omega arith)
    (marked_none mark (plains front) (plains_unmarked front)) (refl, suits, marked_none (suc mark) (plains back) (plains_unmarked back)))

-- a check has no mark; that of its exit stands right before its break
guarded_unmarked : (before : List Inst) (test : Test) (width : Width) (reg label : ℕ) (behind : List Inst)
    → Each IsUnmarked (guarded before test width reg label behind)
guarded_unmarked before test width reg label behind =
    each_append IsUnmarked (plains before) (branch_item test true width reg label ∷ plains behind) (plains_unmarked before)
    (branch_item_unmarked test true width reg label, plains_unmarked behind)

exit_marked : (f : Frame) (label mark : ℕ) (i : AirInst) (kind : Kind) → Marked mark (exits_by (has_exit kind) label mark) (exit_by kind f i)
exit_marked f label mark i (Checks test) = (refl, refl, tt)
exit_marked f label mark i (ChecksResult checked) = (refl, refl, tt)
exit_marked f label mark i kind = tt

-- a mark right before an access is that of its trap
access_marked : (value mark : ℕ) (traps : Bool) (front back : List Inst) (inst : Inst) → IsAccess inst
    → Marked mark (with_mark traps mark front (inst ∷ back)) (if traps then trap_site value ∷ [] else [])
access_marked value mark true front back inst is = site_marked (trap_site value) mark front (inst ∷ back) (inst, refl, is)
access_marked value mark false front back inst is =
    marked_none mark ((plains front ++ []) ++ plains (inst ∷ back))
    (each_append IsUnmarked (plains front ++ []) (plains (inst ∷ back)) (each_append IsUnmarked (plains front) [] (plains_unmarked front) tt)
    (plains_unmarked (inst ∷ back)))

-- ---- calls and patchpoints

home_most : (arg : Arg) → IsHome arg → IsSmallArg arg → reg_of (source_of 15 arg) ≤ 30
home_most (At (Reg r)) is small = small
home_most (At (Spill n)) is small = omega arith
home_most (At (Tmp n)) is small = omega arith
home_most (Imm word) is small = absurd is
home_most (Addr base offset) is small = absurd is
home_most (Index base index shift) is small = absurd is
home_most (FrameSlot n) is small = absurd is

callee_there : (typed : Bool) (os : List Operand) → OfCall typed os → IsHome (arg_at os 0)
callee_there typed os h =
    subst (λ (xs : List Operand). IsHome (arg_at xs 0)) (sym h.parts) (word_home W64 h.callee.arg h.fits.2)

breaks_at : (size k : ℕ) → k < size → slice_get (plains (breaks size)) k ≡ Some (Plain (Break 2))
unfolding breaks
breaks_at zero k lt = absurd (omega arith)
breaks_at (suc size) zero lt = refl
breaks_at (suc size) (suc k) lt = breaks_at size k (omega arith)

-- ---- instructions

module _ (f : Frame) (next label mark : ℕ) (targets : List ℕ) (i : AirInst) where
  load_marked : (o : AirOp) (os : List Operand) (bytes : ℕ) → IsAddress bytes (arg_at os 0)
      → Marked mark (load_items f mark i.traps o os) (if i.traps then trap_site i.value ∷ [] else [])
  load_marked o os bytes is =
      access_marked i.value mark i.traps (fetch_address f (arg_at os 0)) (put_result f (result_reg (arg_at os 1)) (arg_at os 1)) (load_inst o os)
      (address_accesses (access_kind o (width_at os 0)) (result_reg (arg_at os 1)) bytes (arg_at os 0) is)

  store_marked : (o : AirOp) (os : List Operand) (bytes : ℕ) → IsAddress bytes (arg_at os 1)
      → Marked mark (store_items f mark i.traps o os) (if i.traps then trap_site i.value ∷ [] else [])
  store_marked o os bytes is =
      access_marked i.value mark i.traps (fetch_stored f os) [] (store_inst o os) (address_accesses (access_kind o (width_at os 0)) _ bytes (arg_at os 1) is)

  marked_by : (r : Returns) (o : AirOp) (os : List Operand) → i.op ≡ o → AreSmall os → HasOperands r o os → is_built o i.traps ≡ true
      → Marked mark (inst_items f next label mark targets i.traps o os) (sites_by (kind_of o) f i)
  unfolding inst_items inner_items
  marked_by r (op.BranchIf t) os e small has built =
      marked_none mark _ (each_append IsUnmarked (plains (fetch_tested f t os ++ compared t os))
      (branches t (width_at os 0) (reg_of (source_at os 0 15)) next (get_or targets 0 0) (get_or targets 1 0))
      (plains_unmarked (fetch_tested f t os ++ compared t os))
      (branches_unmarked t (width_at os 0) (reg_of (source_at os 0 15)) next (get_or targets 0 0) (get_or targets 1 0)))
  marked_by r op.Jump os e small has built = marked_none mark _ (jump_unmarked next (get_or targets 0 0))
  marked_by r (op.Switch cases) os e small has built =
      marked_none mark _ (each_append IsUnmarked (plains (fetch f 15 (arg_at os 0)))
      (switch_items (width_at os 0) (reg_of (source_at os 0 15)) next label cases targets) (plains_unmarked (fetch f 15 (arg_at os 0)))
      (search_unmarked (width_at os 0) (reg_of (source_at os 0 15)) (get_or targets (length cases) 0) next label
      (tree (cases_in_order (width_at os 0) cases targets))))
  marked_by r op.Return os e small has built = marked_none mark _ (plains_unmarked (epilogue f))
  marked_by r op.Oops os e small has built = tt
  marked_by r op.Load8Z os e small has built = load_marked op.Load8Z os 1 (first_address W32 1 _ os has.2)
  marked_by r op.Load8S os e small has built = load_marked op.Load8S os 1 (first_address W32 1 _ os has.2)
  marked_by r op.Load16Z os e small has built = load_marked op.Load16Z os 2 (first_address W32 2 _ os has.2)
  marked_by r op.Load16S os e small has built = load_marked op.Load16S os 2 (first_address W32 2 _ os has.2)
  marked_by r op.Load os e small has built = let a = word_address has.0 has.1 os has.2 in load_marked op.Load os a.0 a.1
  marked_by r op.Store8 os e small has built = store_marked op.Store8 os 1 (second_address W32 1 os has.2)
  marked_by r op.Store16 os e small has built = store_marked op.Store16 os 2 (second_address W32 2 os has.2)
  marked_by r op.Store os e small has built = let a = stored_address has.0 has.1 os has.2 in store_marked op.Store os a.0 a.1
  marked_by r (op.CheckIf test) os e small has built =
      marked_none mark _ (guarded_unmarked (fetch_tested f test os ++ compared test os) test (width_at os 0) (reg_of (source_at os 0 15)) label [])
  marked_by r op.CheckAdd os e small has built =
      marked_none mark _ (guarded_unmarked (fetch_checked f Sum os) (Compare (passing Sum)) (width_at os 0) 0 label (make_checked f Sum os))
  marked_by r op.CheckSub os e small has built =
      marked_none mark _ (guarded_unmarked (fetch_checked f Difference os) (Compare (passing Difference)) (width_at os 0) 0 label (make_checked f Difference os))
  marked_by r op.CheckMul os e small has built =
      marked_none mark _ (guarded_unmarked (fetch_checked f Product os) (Compare (passing Product)) (width_at os 0) 0 label (make_checked f Product os))
  marked_by r (op.Call typed) os e small has built =
      site_marked (outward_site f site_kind.Call 1 typed 1 i) mark (fetch f 15 (arg_at os 0)) (call_inst os ∷ [])
      (reg_of (source_at os 0 15), home_most (arg_at os 0) (callee_there typed os has) (small 0), refl)
  marked_by r (op.Patch size typed) os e small has built =
      let same : patch_size i.op ≡ size = ap patch_size e in
      site_marked (outward_site f site_kind.Patchpoint (patch_size i.op) typed 0 i) mark [] (breaks size)
      (λ j lt. ap (slice_get (plains (breaks size))) (omega arith) ∙ breaks_at size j (omega arith))
  marked_by r o os e small has built = marked_none mark _ (plains_unmarked (inst_code f o os))

-- ---- blocks

module _ (p : AirProc) (f : Frame) where
  insts_marked : (next label mark : ℕ) (targets : List ℕ) (insts : List AirInst) → All (IsGoodInst p) insts
      → All (λ (i : AirInst). is_built i.op i.traps ≡ true) insts
      → Marked mark (insts_items f next label mark targets insts) (flat_map (inst_sites f) insts)
  unfolding insts_items
  insts_marked next label mark targets [] good built = tt
  insts_marked next label mark targets (i ∷ insts) good built =
      marked_append mark (mark + marks_of i) (inst_items f next label mark targets i.traps i.op i.operands)
      (insts_items f next (label + labels_of i) (mark + marks_of i) targets insts) (inst_sites f i) (flat_map (inst_sites f) insts)
      (ap (λ n. mark + n) (sym (inst_counted f i)))
      (marked_by f next label mark targets i p.returns i.op i.operands refl
      (names_small p i.operands (All-head (IsGoodInst p) i insts good).names) (All-head (IsGoodInst p) i insts good).operands
      (All-head (λ (i : AirInst). is_built i.op i.traps ≡ true) i insts built))
      (insts_marked next (label + labels_of i) (mark + marks_of i) targets insts (All-tail (IsGoodInst p) i insts good)
      (All-tail (λ (i : AirInst). is_built i.op i.traps ≡ true) i insts built))

  blocks_marked : (first label mark : ℕ) (blocks : List AirBlock) → All (IsGoodBlock p) blocks
      → All (λ (b : AirBlock). All (λ (i : AirInst). is_built i.op i.traps ≡ true) b.insts) blocks
      → Marked mark (blocks_items f first label mark blocks) (flat_map (block_sites f) blocks)
  unfolding blocks_items
  blocks_marked first label mark [] good built = tt
  blocks_marked first label mark (b ∷ blocks) good built =
      marked_append mark (mark + block_marks b) (insts_items f (first + 1) label mark b.targets b.insts)
      (blocks_items f (first + 1) (label + block_labels b) (mark + block_marks b) blocks) (block_sites f b) (flat_map (block_sites f) blocks)
      (ap (λ n. mark + n) (sym (sites_counted f b)))
      (insts_marked (first + 1) label mark b.targets b.insts (All-head (IsGoodBlock p) b blocks good).insts
      (All-head (λ (b : AirBlock). All (λ (i : AirInst). is_built i.op i.traps ≡ true) b.insts) b blocks built))
      (blocks_marked (first + 1) (label + block_labels b) (mark + block_marks b) blocks (All-tail (IsGoodBlock p) b blocks good)
      (All-tail (λ (b : AirBlock). All (λ (i : AirInst). is_built i.op i.traps ≡ true) b.insts) b blocks built))

  insts_out : (label mark : ℕ) (insts : List AirInst) → Marked mark (insts_exits label mark insts) (flat_map (inst_exit f) insts)
  unfolding insts_exits
  insts_out label mark [] = tt
  insts_out label mark (i ∷ insts) =
      marked_append mark (mark + exits_of i) (inst_exits label mark i) (insts_exits (label + labels_of i) (mark + exits_of i) insts) (inst_exit f i)
      (flat_map (inst_exit f) insts) (ap (λ n. mark + n) (sym (exits_counted f i))) (exit_marked f label mark i (kind_of i.op))
      (insts_out (label + labels_of i) (mark + exits_of i) insts)

  blocks_out : (label mark : ℕ) (blocks : List AirBlock) → Marked mark (blocks_exits label mark blocks) (flat_map (block_exit_sites f) blocks)
  unfolding blocks_exits
  blocks_out label mark [] = tt
  blocks_out label mark (b ∷ blocks) =
      marked_append mark (mark + block_exits b) (insts_exits label mark b.insts) (blocks_exits (label + block_labels b) (mark + block_exits b) blocks)
      (block_exit_sites f b) (flat_map (block_exit_sites f) blocks) (ap (λ n. mark + n) (sym (block_exits_counted f b))) (insts_out label mark b.insts)
      (blocks_out (label + block_labels b) (mark + block_exits b) blocks)

  pub code_marked : IsWellFormed p → IsBuilt p → Marked 0 (emitted p f) (procedure_sites p f)
  unfolding emitted
  code_marked well built =
      let rest : List Item = blocks_items f 0 (length p.blocks) 0 p.blocks in
      let out : List Item = blocks_exits (length p.blocks) (inner_marks p.blocks) p.blocks in
      marked_append 0 0 (plains (prologue f)) (rest ++ out) [] (procedure_sites p f) (omega arith)
      (marked_none 0 (plains (prologue f)) (plains_unmarked (prologue f)))
      (marked_append 0 (inner_marks p.blocks) rest out (inner_sites p f) (exit_sites p f) (let count = inner_sites_counted p f in omega arith)
      (blocks_marked 0 (length p.blocks) 0 p.blocks well.blocks built) (blocks_out (length p.blocks) (inner_marks p.blocks) p.blocks))
