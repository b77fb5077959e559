-- A procedure and what it is rewritten to have the same blocks.
use Rattle.std.proofs.Common.{◌≡◌, ℕ, zero, suc, ◌+◌, ◌<◌, inl, inr, Some, Bool, true, false, if◌then◌else◌, List, [], ◌∷◌, length, flat_map, refl, sym, ap, ◌∙◌, subst, arith}
use Rattle.std.specs.Prelude.{slice_get}
use Rattle.std.proofs.lemmas.Bool.{cases_Bool, false≢true}
use Rattle.std.proofs.lemmas.List.{get_or-map}
use Rattle.std.proofs.lemmas.Option.{slice_get-get_or, slice_get_within}
use Rattle.b3_base.proofs.Lists.{All-at}
use Rattle.b3_base.specs.Observed.{Answer, Start}
use Rattle.air_ir.specs.Blocks.{At, block_of, block_step, left}
use Rattle.air_ir.specs.Meaning.{To, meaning, operation}
use Rattle.air_ir.specs.Operands.{targets}
use Rattle.air_ir.specs.Related.{Alike, Flows, IsRelated, IsTarget, Refines, StepsAlike}
use Rattle.air_ir.specs.Renaming.{Copy, copy_inst, copy_operands, kept, rename_inst}
use Rattle.air_ir.specs.Run.{HasSameBlocks, first, first_homes}
use Rattle.air_ir.specs.Steps.{State, step, steps}
use Rattle.air_ir.specs.WellFormed.{IsGoodBlock, IsGoodInst, IsWellFormed, NamesSpillsBelow, StandsAt}
use Rattle.air_ir.specs.declared.assignment.Assignment.{Assignment}
use Rattle.air_ir.specs.declared.operand.Home.{Home}
use Rattle.air_ir.specs.declared.operand.Home.TheVariants.{Tmp, Reg, Spill}
use Rattle.air_ir.specs.declared.operand.Operand.{Operand}
use Rattle.air_ir.specs.declared.procedure.AirInst.{AirInst}
use Rattle.air_ir.specs.declared.procedure.AirProc.{AirProc}
use Rattle.air_ir.proofs.CopySteps.{copy-related, with_copies}
use Rattle.air_ir.proofs.HomeLaws.{Refines-nothing, Refines-same}
use Rattle.air_ir.proofs.Leaving.{Leaves, leaves, leaves_last}
use Rattle.air_ir.proofs.Meanings.{copying}
use Rattle.air_ir.proofs.SameRuns.{ConfigsAlike, left-alike, same_runs}
use Rattle.air_ir.proofs.Stepping.{step-related, steps-one, steps-related}
use Rattle.air_flow.specs.Interfere.{IsPair}
use Rattle.air_flow.specs.Living.{IsKept, IsKeptAfter}
use Rattle.air_flow.specs.Proper.{IsProper}
use Rattle.air_flow.proofs.Kept.{keep_on, keep_uses}
use Rattle.air_flow.proofs.Lives.{spot}
use Rattle.air_spill.specs.Rewritten.{first_spill, home_by, is_copy, kept_operands, rewritten, rewritten_block, rewritten_inst, with_operands}
use Rattle.air_spill.proofs.Apart.{is_apart, are_fine}
use Rattle.air_spill.proofs.CopyForms.{CopyForm, copy_form, copy_kind, is_copy-kind}
use Rattle.air_spill.proofs.KeptPairs.{kept-copies, with-copies}
use Rattle.air_ir.specs.declared.procedure.AirBlock.{AirBlock}

less_kept : (loc : Home → Home) (L M : Home → Type 0) (s t : State) → ((h : Home) → M h → L h) → IsRelated loc L s t → IsRelated loc M s t
less_kept loc L M s t h r = record { homes = λ g m. r.homes g (h g m); world = r.world }

-- ---- one instruction

pub rewritten-other : (loc : Home → Home) (i : AirInst) → is_copy i.op ≡ false → rewritten_inst loc i ≡ rename_inst loc i ∷ []
unfolding rewritten_inst
rewritten-other loc i e = ap (λ (b : Bool). if b then with_operands i (kept_operands loc i.operands) else rename_inst loc i ∷ []) e

pub rewritten-copies : (loc : Home → Home) (i : AirInst) (cs : List Copy) → is_copy i.op ≡ true → i.operands ≡ copy_operands cs
    → rewritten_inst loc i ≡ copy_inst i (kept loc cs)
unfolding rewritten_inst
rewritten-copies loc i cs e ops =
    ap (λ (b : Bool). if b then with_operands i (kept_operands loc i.operands) else rename_inst loc i ∷ []) e
    ∙ ap (λ (os : List Operand). with_operands i (kept_operands loc os)) ops
    ∙ ap (with_operands i) (kept-copies loc cs) ∙ with-copies i (kept loc cs)

module _ (p : AirProc) (a : Assignment) (good : IsWellFormed p) (proper : IsProper p a) (named : NamesSpillsBelow first_spill p) (start : Start) where
  module _ (block place : ℕ) (i : AirInst) (at : StandsAt p block place i) where
    good_inst : IsGoodInst p i
    good_inst = All-at (IsGoodInst p) at.of.insts place i (All-at (IsGoodBlock p) p.blocks block at.of good.blocks at.block_there).insts at.inst_there

    inst_related : (s t : State) (junk : List ℕ) → IsRelated (home_by a) (IsKept p (spot block place)) s t
        → Alike (IsRelated (home_by a) (IsKeptAfter p (spot block place)))
        (step (meaning start) i s junk) (steps (meaning start) (rewritten_inst (home_by a) i) t junk)
    inst_related s t junk r = elim (cases_Bool (is_copy i.op)) [
      | inr other ↦
          rw (rewritten-other (home_by a) i other, steps-one (meaning start) (rename_inst (home_by a) i) t junk)
          (step-related (meaning start) (home_by a) (IsKept p (spot block place)) (IsKeptAfter p (spot block place)) i s t junk
          (is_apart p a good proper named block place i at (λ kind. false≢true (sym other ∙ is_copy-kind i.op kind)))
          (keep_uses p block place i good at) r)
      | inl copies ↦
          let form : CopyForm i.operands = copy_form p.returns i.op i.operands copies good_inst.operands in
          let cs = form.copies in
          let same : with_copies i cs ≡ i = ap (λ (os : List Operand). record i { operands = os }) (sym form.are) in
          rw (rewritten-copies (home_by a) i cs copies form.are)
          (subst (λ (j : AirInst). Alike (IsRelated (home_by a) (IsKeptAfter p (spot block place)))
          (step (meaning start) j s junk) (steps (meaning start) (copy_inst i (kept (home_by a) cs)) t junk)) same
          (copy-related (meaning start) (home_by a) (IsKept p (spot block place)) (IsKeptAfter p (spot block place)) i cs s t junk
          (copying start (operation i) (copy_kind i.op copies))
          (are_fine p a good proper named block place i at cs form.differ
          (λ from to is pair. subst (λ (os : List Operand). IsPair os from to) form.are pair)
          (λ to is. subst (λ (os : List Operand). IsTarget to (targets os)) (sym form.are) is))
          (subst (Flows (IsKept p (spot block place)) (IsKeptAfter p (spot block place))) form.are (keep_uses p block place i good at)) r))
    ]

  -- ---- a block

  -- what is kept at each place of a block: at its beginning, and then after each instruction
  Here : ℕ → ℕ → Home → Type 0
  Here b zero = IsKept p (spot b 0)
  Here b (suc k) = IsKeptAfter p (spot b k)

  Within : ℕ → ℕ → State → State → Type 0
  Within b k s t = IsRelated (home_by a) (Here b k) s t

  -- at the beginning of a block
  At_block : ℕ → State → State → Type 0
  At_block b s t = (b < length p.blocks) × IsRelated (home_by a) (IsKept p (spot b 0)) s t

  module _ (b : ℕ) (of : AirBlock) (there : slice_get p.blocks b ≡ Some of) where
    down : (k : ℕ) (i : AirInst) → slice_get of.insts k ≡ Some i → (h : Home) → IsKept p (spot b k) h → Here b k h
    unfolding Here
    down zero i is h kept = kept
    down (suc k) i is h kept =
        let one : suc k ≡ k + 1 = omega arith in
        let within : suc k < length of.insts = slice_get_within of.insts (suc k) i is in
        (keep_on p b k of there).next h (omega (arith, within)) (subst (λ (n : ℕ). IsKept p (spot b n) h) one kept)

    insts_related : (s t : State) (junk : List ℕ) → IsRelated (home_by a) (IsKept p (spot b 0)) s t
        → StepsAlike Leaves of.insts (Within b) (steps (meaning start) of.insts s junk)
        (steps (meaning start) (flat_map (rewritten_inst (home_by a)) of.insts) t junk)
    unfolding Here Within
    insts_related s t junk r =
        steps-related (meaning start) Leaves (leaves start) (rewritten_inst (home_by a)) (Within b) of.insts
        (λ k i is s' t' j r'.
        inst_related b k i (record { of = of; block_there = there; inst_there = is }) s' t' j
        (less_kept (home_by a) (Here b k) (IsKept p (spot b k)) s' t' (down k i is) r'))
        s t junk r

    good_block : IsGoodBlock p of
    good_block = All-at (IsGoodBlock p) p.blocks b of good.blocks there

    onward : (k : ℕ) (i : AirInst) (j c : ℕ) (s t : State) → slice_get of.insts k ≡ Some i → Leaves i (To j)
        → slice_get of.targets j ≡ Some c → Within b (suc k) s t → At_block c s t
    unfolding Here Within At_block
    onward k i j c s t is goes target r =
        let last : suc k ≡ length of.insts = leaves_last p of good_block k i j is goes in
        let there_too : (0 < c) × (c < length p.blocks) =
        All-at (λ (target : ℕ). (0 < target) × (target < length p.blocks)) of.targets j c good_block.targets target in (
          there_too.1,
          less_kept (home_by a) (Here b (suc k)) (IsKept p (spot c 0)) s t
              (λ h kept. (keep_on p b k of there).target h j c (omega (arith, last)) target kept) r,
        )

    worlds : (k : ℕ) (s t : State) → Within b k s t → s.world ≡ t.world
    unfolding Within
    worlds k s t r = r.world

    block_related : (s t : State) (junk : List ℕ) → IsRelated (home_by a) (IsKept p (spot b 0)) s t
        → ConfigsAlike At_block (left of.targets (steps (meaning start) of.insts s junk))
        (left of.targets (steps (meaning start) (flat_map (rewritten_inst (home_by a)) of.insts) t junk))
    block_related s t junk r =
        left-alike At_block Leaves (Within b) of.targets of.insts onward worlds
        (steps (meaning start) of.insts s junk) (steps (meaning start) (flat_map (rewritten_inst (home_by a)) of.insts) t junk) (insts_related s t junk r)

  block-rewritten : (b : ℕ) → b < length p.blocks → block_of (rewritten p a) b ≡ rewritten_block (home_by a) (block_of p b)
  block-rewritten b lt = get_or-map (rewritten_block (home_by a)) p.blocks b (record { insts = []; targets = [] }) (record { insts = []; targets = [] }) lt

  step_related : (b : ℕ) (s t : State) (junk : List ℕ) → At_block b s t
      → ConfigsAlike At_block (block_step (meaning start) p (At b s, junk)) (block_step (meaning start) (rewritten p a) (At b t, junk))
  unfolding At_block block_step rewritten_block
  step_related b s t junk r =
      rw (block-rewritten b r.0)
      (block_related b (block_of p b) (slice_get-get_or p.blocks b (record { insts = []; targets = [] }) r.0) s t junk r.1)

  -- ---- the run

  begin : (answers : List Answer) (h : Home) → Refines (first_homes start h) (first_homes start (home_by a h))
  begin answers (Tmp k) = Refines-nothing (first_homes start (home_by a (Tmp k)))
  begin answers (Reg r) = Refines-same (first_homes start (Reg r)) (first_homes start (Reg r)) refl
  begin answers (Spill k) = Refines-same (first_homes start (Spill k)) (first_homes start (Spill k)) refl

  first_related : (answers : List Answer) (junk : List ℕ) → ConfigsAlike At_block (first start answers, junk) (first start answers, junk)
  unfolding ConfigsAlike At_block
  first_related answers junk =
      (_, refl, (good.entry, record { homes = λ h kept. begin answers h; world = refl }))

  block_worlds : (b : ℕ) (s t : State) → At_block b s t → s.world ≡ t.world
  unfolding At_block
  block_worlds b s t r = r.1.world

pub same_blocks : (p : AirProc) (a : Assignment) → IsWellFormed p → IsProper p a → NamesSpillsBelow first_spill p → HasSameBlocks p (rewritten p a)
same_blocks p a good proper named start answers ranged all =
    same_runs (At_block p a good proper named start) p (rewritten p a) start answers
    (step_related p a good proper named start) (block_worlds p a good proper named start) (first_related p a good proper named start answers)
