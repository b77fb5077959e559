-- Whatever ends a block, its items lead where it does; and words stand behind each label of a block.
use Rattle.std.proofs.Common.{◌≡◌, ℕ, suc, ◌+◌, ◌-◌, ◌<◌, ◌≤◌, Bool, ⊎_elim, List, [], ◌∷◌, ◌++◌, Some, length, get_or, refl, sym, ap, subst, arith}
use Rattle.std.specs.Prelude.{slice_get}
use Rattle.std.proofs.lemmas.Bool.{cases_lt}
use Rattle.std.proofs.lemmas.Option.{slice_get-get_or, same_Some, none-some}
use Rattle.a64_inst.specs.declared.item.Item.TheVariants.{Label}
use Rattle.air_ir.specs.Forms.{AllFit, HasOperands}
use Rattle.air_ir.specs.Kinds.{target_count}
use Rattle.air_ir.specs.Steps.{State}
use Rattle.air_ir.specs.WellFormed.{IsGoodBlock, IsWellFormed}
use Rattle.air_ir.specs.declared.frame.Frame.{Frame}
use Rattle.air_ir.specs.declared.op.AirOp.{AirOp}
use Rattle.air_ir.specs.declared.op.AirOp.TheVariants as op
use Rattle.air_ir.specs.declared.operand.Operand.{Operand}
use Rattle.air_ir.specs.declared.procedure.AirBlock.{AirBlock}
use Rattle.air_ir.specs.declared.procedure.AirInst.{AirInst}
use Rattle.air_ir.specs.declared.procedure.AirProc.{AirProc}
use Rattle.a64_layout.specs.Layout.{Set, place, position_of}
use Rattle.a64_layout.specs.Machine.{Machine}
use Rattle.a64_layout.proofs.Least.{place_mono}
use Rattle.a64_emit.specs.Code.{emitted, inst_items, insts_items, labels_of, marks_of}
use Rattle.a64_emit.specs.Related.{IsRelated}
use Rattle.a64_emit.specs.Setting.{Setting, IsSet}
use Rattle.a64_emit.proofs.Ahead.{HasWords, terminal_words, words_ahead, words_left, words_right}
use Rattle.a64_emit.proofs.BranchEnds.{AllUsable, branch_ends}
use Rattle.a64_emit.proofs.Branching.{NextAt}
use Rattle.a64_emit.proofs.Endings.{Ends, jump_ends, oops_ends, return_ends}
use Rattle.a64_emit.proofs.Positions.{Among, block_stands, positions_rise}
use Rattle.a64_emit.proofs.SwitchEnds.{AllWithin, switch_ends}
use Rattle.air_frame.specs.Frames.{IsFrameOf}

no_operands : (os : List Operand) → AllFit [] os → os ≡ []
unfolding AllFit
no_operands [] fits = refl
no_operands (o ∷ os) fits = absurd fits

-- what stands where a block ends
pub record AtEnd (z : Setting) (targets_of : List ℕ) (next label mark k : ℕ) (traps : Bool) (o : AirOp) (os : List Operand) : Type 0 where
  pub ends : target_count o ≡ Some (length targets_of)
  pub operands : HasOperands z.procedure.returns o os
  pub usable : AllUsable z os
  pub within : AllWithin z targets_of
  pub items : Among z.code k (inst_items z.frame next label mark targets_of traps o os)
  pub above : length z.procedure.blocks ≤ label
  pub at : NextAt z next (k + length (inst_items z.frame next label mark targets_of traps o os))
  pub ahead : next < length z.procedure.blocks
      → place z.code z.long (k + length (inst_items z.frame next label mark targets_of traps o os)) < place z.code z.long (length z.code)

module _ (z : Setting) (set : IsSet z) (serves : IsFrameOf z.procedure z.frame)
    (placed : (k label : ℕ) → slice_get z.code k ≡ Some (Label label) → position_of z.code label ≡ k) where
  ends_by : (o : AirOp) (i : AirInst) (s : State) (targets_of : List ℕ) (next label mark k : ℕ) (c : Machine) → i.op ≡ o
      → AtEnd z targets_of next label mark k i.traps o i.operands
      → IsRelated z s c → Ends z targets_of i s k c
  unfolding inst_items
  ends_by (op.BranchIf t) i s targets_of next label mark k c is e rel =
      let two : 2 ≡ length targets_of = same_Some 2 (length targets_of) e.ends in
      branch_ends z set serves i s targets_of next k c t e.operands.0 is e.operands.2 e.usable (sym two) (e.within 0 (omega arith))
      (e.within 1 (omega arith)) e.items e.at rel
  ends_by op.Jump i s targets_of next label mark k c is e rel =
      let one : 1 ≡ length targets_of = same_Some 1 (length targets_of) e.ends in
      jump_ends z set serves i s targets_of next k c is (no_operands i.operands e.operands.2) (omega arith) (e.within 0 (omega arith)) e.items e.at rel
  ends_by (op.Switch cases) i s targets_of next label mark k c is e rel =
      let count : suc (length cases) ≡ length targets_of = same_Some (suc (length cases)) (length targets_of) e.ends in
      switch_ends z set serves placed i s cases targets_of next label k c e.operands.0 is e.operands.1 e.usable (sym count) e.within e.items e.at
      e.ahead e.above rel
  ends_by op.Return i s targets_of next label mark k c is e rel = return_ends z set serves i s targets_of k c is e.operands e.items rel
  ends_by op.Oops i s targets_of next label mark k c is e rel = oops_ends z set serves i s targets_of k c is (no_operands i.operands e.operands.2)
  ends_by o i s targets_of next label mark k c is e rel = absurd (none-some (length targets_of) e.ends)

  -- the items of what ends a block lead where it does
  pub terminal_ends : (i : AirInst) (s : State) (targets_of : List ℕ) (next label mark k : ℕ) (c : Machine) → AtEnd z targets_of next label mark k i.traps i.op i.operands
      → IsRelated z s c → Ends z targets_of i s k c
  terminal_ends i s targets_of next label mark k c e rel = ends_by i.op i s targets_of next label mark k c refl e rel

-- ---- words behind labels

module _ (f : Frame) (next : ℕ) (targets_of : List ℕ) where
  last_words : (label mark : ℕ) (body : List AirInst) (last : AirInst)
      → ((label mark : ℕ) → HasWords (inst_items f next label mark targets_of last.traps last.op last.operands))
      → HasWords (insts_items f next label mark targets_of (body ++ last ∷ []))
  unfolding insts_items
  last_words label mark [] last h = words_left (inst_items f next label mark targets_of last.traps last.op last.operands) [] (h label mark)
  last_words label mark (i ∷ body) last h =
      words_right (inst_items f next label mark targets_of i.traps i.op i.operands)
      (insts_items f next (label + labels_of i) (mark + marks_of i) targets_of (body ++ last ∷ []))
      (last_words (label + labels_of i) (mark + marks_of i) body last h)

pub ahead_of_blocks : (p : AirProc) (f : Frame) → IsWellFormed p → (long : Set) (b : ℕ) → b < length p.blocks
    → place (emitted p f) long (position_of (emitted p f) b) < place (emitted p f) long (length (emitted p f))
ahead_of_blocks p f well long b lt =
    let none : AirBlock = record { insts = []; targets = [] } in
    let n : ℕ = length p.blocks - 1 in
    let block : AirBlock = get_or p.blocks n none in
    let stands = block_stands p f n block (slice_get-get_or p.blocks n none (omega arith)) in
    let good : IsGoodBlock p block = well.blocks n none (omega arith) in
    let h : HasWords (insts_items f (n + 1) stands.own stands.mark block.targets (good.body ++ good.last ∷ [])) =
    last_words f (n + 1) block.targets stands.own stands.mark good.body good.last
    (λ label mark. terminal_words f (n + 1) label mark block.targets good.last.traps good.last.op good.last.operands good.ends
    (λ j within. let one = (good.targets j 0 within).1 in omega arith)) in
    let here : HasWords (insts_items f (n + 1) stands.own stands.mark block.targets block.insts) =
    subst (λ insts. HasWords (insts_items f (n + 1) stands.own stands.mark block.targets insts)) (sym good.parts) h in
    let ahead = words_ahead (emitted p f) long (position_of (emitted p f) n + 1) (insts_items f (n + 1) stands.own stands.mark block.targets block.insts)
    stands.items here in
    ⊎_elim
    (λ less.
    let rise = positions_rise p f b n less (omega arith) in
    let up = place_mono (emitted p f) long (position_of (emitted p f) b) (position_of (emitted p f) n + 1) (omega arith) in
    omega arith)
    (λ more.
    let same : b ≡ n = omega arith in
    let at = ap (position_of (emitted p f)) same in
    let up = place_mono (emitted p f) long (position_of (emitted p f) b) (position_of (emitted p f) n + 1) (omega arith) in
    omega arith)
    (cases_lt b n)
