-- The code of a procedure carries out its blocks.
use Rattle.a64_emit.proofs.Outward.{owns_of}
use Rattle.std.proofs.Common.{◌≡◌, ℕ, ◌+◌, ◌<◌, ◌≤◌, true, ⊎_elim, List, [], ◌∷◌, ◌++◌, Some, None, refl, sym, ap, ◌∙◌, subst, arith, length, length-append, get_or, append_assoc, append-nil}
use Rattle.std.specs.Prelude.{All, slice_get}
use Rattle.std.proofs.lemmas.Bool.{cases_lt}
use Rattle.std.proofs.lemmas.Option.{slice_get-get_or, slice_get_within}
use Rattle.std.specs.List.{flat_map, sum_by}
use Rattle.std.proofs.lemmas.List.Sums.{sum_by-cons}
use Rattle.b3_base.proofs.Lists.{get_front}
use Rattle.b3_base.specs.Observed.{Answer}
use Rattle.b3_base.specs.Ranged.{IsRangedAnswer}
use Rattle.stackmap.specs.declared.site.Site.{Site}
use Rattle.a64_inst.specs.declared.item.Item.{Item}
use Rattle.a64_inst.specs.declared.item.Item.TheVariants.{Label}
use Rattle.air_ir.specs.Kinds.{target_count}
use Rattle.air_ir.specs.Steps.{State}
use Rattle.air_ir.specs.WellFormed.{IsGoodBlock, IsGoodInst, IsWellFormed}
use Rattle.air_ir.specs.declared.frame.Frame.{Frame}
use Rattle.air_ir.specs.declared.procedure.AirBlock.{AirBlock}
use Rattle.air_ir.specs.declared.procedure.AirInst.{AirInst}
use Rattle.air_ir.specs.declared.procedure.AirProc.{AirProc}
use Rattle.a64_layout.specs.Layout.{place, position_of}
use Rattle.a64_layout.specs.Machine.{Machine}
use Rattle.a64_layout.proofs.Least.{place_mono}
use Rattle.a64_emit.specs.Built.{IsBuilt, is_built}
use Rattle.a64_emit.specs.Code.{blocks_exits, blocks_items, emitted, inner_marks, insts_exits, insts_items, inst_items, labels_of, marks_of}
use Rattle.a64_emit.specs.Emitted.{Begins, CarriesOut, first_state}
use Rattle.a64_emit.specs.Made.{block_exit_sites, block_sites, inst_sites, procedure_sites}
use Rattle.a64_code.specs.Places.{plains, prologue}
use Rattle.a64_emit.specs.Related.{IsRelated}
use Rattle.a64_emit.proofs.Ahead.{words_ahead, terminal_words}
use Rattle.a64_emit.proofs.BlockEnds.{AtEnd, ahead_of_blocks, terminal_ends}
use Rattle.a64_emit.proofs.Blocks.{BlockEnds, block_carries, body_ends, entry_carries}
use Rattle.a64_emit.proofs.Endings.{among_plains}
use Rattle.a64_emit.proofs.Entering.{entered_related, entering}
use Rattle.a64_emit.proofs.InnerLeads.{IsInner}
use Rattle.a64_emit.proofs.Instructions.{AreOpen}
use Rattle.a64_emit.proofs.Opened.{all_at, operands_open, terminal_usable}
use Rattle.a64_emit.proofs.Exits.{HaveOwn, exits_stand}
use Rattle.a64_emit.proofs.Positions.{Among, BlockStands, among_first, among_rest, block_stands, inner_length}
use Rattle.a64_emit.proofs.Straight.{straight_runs}
use Rattle.air_frame.specs.Frames.{IsFrameOf}
use Rattle.a64_emit.specs.Setting.{IsSet, Setting}

-- ---- the parts of a block

last_at : {X : Type 0} (xs : List X) (x : X) → slice_get (xs ++ x ∷ []) (length xs) ≡ Some x
last_at [] x = refl
last_at (a ∷ xs) x = last_at xs x

-- the labels and marks before the last instruction
abbrev labels_before : ℕ → List AirInst → ℕ
labels_before label body = label + sum_by labels_of body

abbrev marks_before : ℕ → List AirInst → ℕ
marks_before mark body = mark + sum_by marks_of body

insts_both : (f : Frame) (next label mark : ℕ) (targets : List ℕ) (body : List AirInst) (last : AirInst)
    → insts_items f next label mark targets (body ++ last ∷ [])
    ≡ insts_items f next label mark targets body
    ++ inst_items f next (labels_before label body) (marks_before mark body) targets last.traps last.op last.operands
unfolding insts_items
insts_both f next label mark targets [] last =
    let a : label ≡ label + 0 = omega arith in
    let b : mark ≡ mark + 0 = omega arith in
    append-nil (inst_items f next label mark targets last.traps last.op last.operands)
    ∙ ap (λ n. inst_items f next n mark targets last.traps last.op last.operands) a
    ∙ ap (λ n. inst_items f next (label + 0) n targets last.traps last.op last.operands) b
insts_both f next label mark targets (i ∷ body) last =
    let here : List Item = inst_items f next label mark targets i.traps i.op i.operands in
    let rest : List Item = insts_items f next (label + labels_of i) (mark + marks_of i) targets body in
    let Last : ℕ → ℕ → List Item = λ n m. inst_items f next n m targets last.traps last.op last.operands in
    let labels = sum_by-cons labels_of i body in
    let marks = sum_by-cons marks_of i body in
    let a : labels_before (label + labels_of i) body ≡ labels_before label (i ∷ body) = omega arith in
    let b : marks_before (mark + marks_of i) body ≡ marks_before mark (i ∷ body) = omega arith in
    ap (λ (xs : List Item). here ++ xs) (insts_both f next (label + labels_of i) (mark + marks_of i) targets body last
    ∙ ap (λ n. rest ++ Last n (marks_before (mark + marks_of i) body)) a ∙ ap (λ m. rest ++ Last (labels_before label (i ∷ body)) m) b)
    ∙ sym (append_assoc here rest (Last (labels_before label (i ∷ body)) (marks_before mark (i ∷ body))))

-- the prologue stands first
front_among : (p : AirProc) (f : Frame) → Among (emitted p f) 0 (plains (prologue f))
unfolding emitted
front_among p f =
    let rest : List Item = blocks_items f 0 (length p.blocks) 0 p.blocks ++ blocks_exits (length p.blocks) (inner_marks p.blocks) p.blocks in
    among_first (plains (prologue f) ++ rest) 0 (plains (prologue f)) rest
    (λ j item there. ap (slice_get (plains (prologue f) ++ rest)) (omega arith) ∙ there)

prologue_some : (f : Frame) → 1 ≤ length (prologue f)
unfolding prologue
prologue_some f = omega arith

-- ---- blocks

module _ (z : Setting) (set : IsSet z) (serves : IsFrameOf z.procedure z.frame) (well : IsWellFormed z.procedure) (no_tmps : z.procedure.tmps ≡ 0)
    (built : IsBuilt z.procedure)
    (is_code : z.code ≡ emitted z.procedure z.frame) (is_sites : z.sites ≡ procedure_sites z.procedure z.frame)
    (placed : (k label : ℕ) → slice_get z.code k ≡ Some (Label label) → position_of z.code label ≡ k)
    (b : ℕ) (block : AirBlock) (there : slice_get z.procedure.blocks b ≡ Some block) where
  good : IsGoodBlock z.procedure block
  good = all_at (IsGoodBlock z.procedure) z.procedure.blocks b block there well.blocks

  stands : BlockStands z.procedure z.frame b block
  stands = block_stands z.procedure z.frame b block there

  within : b < length z.procedure.blocks
  within = slice_get_within z.procedure.blocks b block there

  body_at : (j : ℕ) (i : AirInst) → slice_get good.body j ≡ Some i → slice_get block.insts j ≡ Some i
  body_at j i at = ap (λ xs. slice_get xs j) good.parts ∙ get_front good.body (good.last ∷ []) j i at

  last_there : slice_get block.insts (length good.body) ≡ Some good.last
  last_there = ap (λ xs. slice_get xs (length good.body)) good.parts ∙ last_at good.body good.last

  inst_good : (j : ℕ) (i : AirInst) → slice_get block.insts j ≡ Some i → IsGoodInst z.procedure i
  inst_good j i at = all_at (IsGoodInst z.procedure) block.insts j i at good.insts

  inst_open : (j : ℕ) (i : AirInst) → slice_get block.insts j ≡ Some i → AreOpen z i.operands
  inst_open j i at = operands_open z b block there j i at no_tmps (inst_good j i at)

  inst_built : (j : ℕ) (i : AirInst) → slice_get block.insts j ≡ Some i → is_built i.op i.traps ≡ true
  inst_built j i at =
      all_at (λ (i : AirInst). is_built i.op i.traps ≡ true) block.insts j i at
      (all_at (λ (b : AirBlock). All (λ (i : AirInst). is_built i.op i.traps ≡ true) b.insts) z.procedure.blocks b block there built)

  inner : (j : ℕ) (i : AirInst) → slice_get good.body j ≡ Some i → IsInner z i
  inner j i at = record {
    built = inst_built j i (body_at j i at);
    inner = all_at (λ (i : AirInst). target_count i.op ≡ None) good.body j i at good.inner;
    operands = (inst_good j i (body_at j i at)).operands;
    opened = inst_open j i (body_at j i at);
    owns = owns_of z.procedure b j i (record { of = block; block_there = there; inst_there = body_at j i at }) (inst_good j i (body_at j i at)).names no_tmps;
  }

  -- the items of the block, from behind its label on
  start : ℕ
  start = position_of z.code b + 1

  items_of : List AirInst → List Item
  items_of insts = insts_items z.frame (b + 1) stands.own stands.mark block.targets insts

  -- the labels and the mark of the last instruction
  last_label : ℕ
  last_label = labels_before stands.own good.body

  last_mark : ℕ
  last_mark = marks_before stands.mark good.body

  end : ℕ
  end = start + length (items_of good.body)

  last_items : List Item
  last_items = inst_items z.frame (b + 1) last_label last_mark block.targets good.last.traps good.last.op good.last.operands

  all_items : items_of block.insts ≡ items_of good.body ++ last_items
  unfolding items_of last_items last_label last_mark
  all_items = ap items_of good.parts ∙ insts_both z.frame (b + 1) stands.own stands.mark block.targets good.body good.last

  among_all : Among z.code start (items_of block.insts)
  unfolding start items_of
  among_all = subst (λ code. Among code (position_of code b + 1) (items_of block.insts)) (sym is_code) stands.items

  among_last : Among z.code end last_items
  unfolding end
  among_last = among_rest z.code start (items_of good.body) last_items (subst (Among z.code start) all_items among_all)

  count : end + length last_items ≡ start + length (items_of block.insts)
  unfolding end
  count =
      let total = length-append (items_of good.body) last_items in
      let same : length (items_of block.insts) ≡ length (items_of good.body ++ last_items) = ap (λ xs. length xs) all_items in
      omega arith

  -- the next label stands behind the block
  next_at : b + 1 < length z.procedure.blocks
      → (position_of z.code (b + 1) ≡ end + length last_items) × (slice_get z.code (end + length last_items) ≡ Some (Label (b + 1)))
  unfolding start items_of
  next_at lt =
      let none : AirBlock = record { insts = []; targets = [] } in
      let other = block_stands z.procedure z.frame (b + 1) (get_or z.procedure.blocks (b + 1) none) (slice_get-get_or z.procedure.blocks (b + 1) none lt) in
      let next : position_of z.code (b + 1) ≡ position_of z.code b + 1 + length (items_of block.insts) =
      subst (λ code. position_of code (b + 1) ≡ position_of code b + 1 + length (items_of block.insts)) (sym is_code) (stands.next lt) in
      let label : slice_get z.code (position_of z.code (b + 1)) ≡ Some (Label (b + 1)) =
      subst (λ code. slice_get code (position_of code (b + 1)) ≡ Some (Label (b + 1))) (sym is_code) other.label in
      let at : position_of z.code (b + 1) ≡ end + length last_items = next ∙ sym count in
      (at, ap (slice_get z.code) (sym at) ∙ label)

  behind : (c : ℕ) → c < length z.procedure.blocks → place z.code z.long (position_of z.code c) < place z.code z.long (length z.code)
  behind c lt =
      subst (λ code. place code z.long (position_of code c) < place code z.long (length code)) (sym is_code)
      (ahead_of_blocks z.procedure z.frame well z.long c lt)

  at_end : AtEnd z block.targets (b + 1) last_label last_mark end good.last.traps good.last.op good.last.operands
  unfolding last_items last_label last_mark
  at_end = record {
    ends = good.ends;
    operands = (inst_good (length good.body) good.last last_there).operands;
    usable = terminal_usable z (length block.targets) good.last.op good.last.operands good.ends (inst_good (length good.body) good.last last_there).operands
        (inst_open (length good.body) good.last last_there);
    within = λ j lt. (good.targets j 0 lt).1;
    items = among_last;
    above = let above = stands.above in omega arith;
    at = λ lt. next_at lt;
    ahead = λ lt. subst (λ k. place z.code z.long k < place z.code z.long (length z.code)) (next_at lt).0 (behind (b + 1) lt);
  }

  -- a word stands at the end of the body or behind it
  words_end : place z.code z.long end < place z.code z.long (length z.code)
  unfolding last_items
  words_end =
      ⊎_elim
      (λ (lt : b + 1 < length z.procedure.blocks).
      let up = place_mono z.code z.long end (position_of z.code (b + 1)) (let at = (next_at lt).0 in omega arith) in
      let more = behind (b + 1) lt in
      omega arith)
      (λ (le : length z.procedure.blocks ≤ b + 1).
      words_ahead z.code z.long end last_items among_last
      (terminal_words z.frame (b + 1) last_label last_mark block.targets good.last.traps good.last.op good.last.operands good.ends
      (λ j lt. let below = (good.targets j 0 lt).1 in let here = within in omega arith)))
      (cases_lt (b + 1) (length z.procedure.blocks))

  among_sites : Among z.sites stands.mark (block_sites z.frame block)
  among_sites = subst (λ (sites : List Site). Among sites stands.mark (block_sites z.frame block)) (sym is_sites) stands.sites

  -- the exits of the block stand behind its end
  far : end ≤ inner_length z.procedure z.frame
  unfolding end start items_of
  far =
      let at = ap (λ code. position_of code b) is_code in
      let inside = stands.inside in
      let all = count in
      omega arith

  exits : HaveOwn z (inner_length z.procedure z.frame) stands.own block.insts
  exits =
      exits_stand z (inner_length z.procedure z.frame) stands.exits_at stands.own stands.exits_mark block.insts stands.behind
      (subst (λ code. Among code stands.exits_at (insts_exits stands.own stands.exits_mark block.insts)) (sym is_code) stands.exits)
      (subst (λ (sites : List Site). Among sites stands.exits_mark (block_exit_sites z.frame block)) (sym is_sites) stands.exit_sites)

  block_ends : (s : State) (d : Machine) → All IsRangedAnswer s.world.answers → IsRelated z s d → BlockEnds z block.targets block.insts s start d
  unfolding items_of end
  block_ends s d ranged rel =
      subst (λ insts. BlockEnds z block.targets insts s start d) (sym good.parts)
      (body_ends z set serves placed block.targets (b + 1) good.last end words_end
      (λ s c rel. terminal_ends z set serves placed good.last s block.targets (b + 1) last_label last_mark end c at_end rel)
      good.body stands.own stands.mark s start d inner (subst (λ insts. Among z.code start (items_of insts)) good.parts among_all)
      (subst (λ insts. Among z.sites stands.mark (flat_map (inst_sites z.frame) insts)) good.parts among_sites) (inner_length z.procedure z.frame) far
      (subst (HaveOwn z (inner_length z.procedure z.frame) stands.own) good.parts exits) refl ranged rel)

  label_there : slice_get z.code (position_of z.code b) ≡ Some (Label b)
  label_there = subst (λ code. slice_get code (position_of code b) ≡ Some (Label b)) (sym is_code) stands.label

  pub block_carried : (s : State) (c : Machine) → All IsRangedAnswer s.world.answers → IsRelated z s c → CarriesOut z b s (position_of z.code b) c
  unfolding start
  block_carried s c ranged rel = block_carries z set serves b block s (position_of z.code b) c there label_there rel (λ d rel. block_ends s d ranged rel)

  -- ---- the entry

  pub entry_carried : b ≡ 0 → (answers : List Answer) (c : Machine) → All IsRangedAnswer answers → Begins z c → CarriesOut z 0 (first_state z answers) 0 c
  unfolding start
  entry_carried is answers c ranged begins =
      let entered = entering z set serves.good c begins in
      let n : ℕ = length (prologue z.frame) in
      let at : position_of z.code b ≡ n = subst (λ code. position_of code b ≡ n) (sym is_code) (stands.first is) in
      let zero_at : position_of z.code 0 ≡ n = ap (position_of z.code) (sym is) ∙ at in
      let room : place z.code z.long (0 + n) < place z.code z.long (length z.code) =
      subst (λ k. place z.code z.long k < place z.code z.long (length z.code)) (at ∙ omega arith) (behind b within) in
      let front : Among z.code 0 (plains (prologue z.frame)) =
      subst (λ code. Among code 0 (plains (prologue z.frame))) (sym is_code) (front_among z.procedure z.frame) in
      let runs = straight_runs z set 0 c entered.after (prologue z.frame) entered.does (among_plains z.code 0 (prologue z.frame) front) room in
      entry_carries z set serves block (first_state z answers) n c entered.after (ap (slice_get z.procedure.blocks) (sym is) ∙ there)
      (ap (slice_get z.code) (sym zero_at) ∙ subst (λ k. slice_get z.code (position_of z.code k) ≡ Some (Label k)) is label_there)
      (prologue_some z.frame) begins.words.pc runs (entered_related z set serves answers c entered)
      (λ d rel. subst (λ k. BlockEnds z block.targets block.insts (first_state z answers) (k + 1) d) at (block_ends (first_state z answers) d ranged rel))
