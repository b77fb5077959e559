-- What a procedure is rewritten to weighs no more.
use Rattle.std.proofs.Common.{inl, inr, ◌≡◌, ℕ, ◌≤◌, Option, Some, None, List, [], ◌∷◌, map, flat_map, All, sym, ap, subst, arith}
use Rattle.std.specs.Prelude.{slice_get, sum_by}
use Rattle.std.proofs.lemmas.Bool.{cases_Bool}
use Rattle.std.proofs.lemmas.List.Elements.{All-head, All-tail}
use Rattle.std.proofs.lemmas.List.Sums.{sum_by-append, sum_by-cons}
use Rattle.b3_ir.specs.declared.value.Reg.{Reg as Register}
use Rattle.air_ir.specs.Renaming.{copy_inst, copy_operands, kept, rename_inst}
use Rattle.air_ir.specs.Weight.{home_words, inst_weight, weight}
use Rattle.air_ir.specs.WellFormed.{IsGoodBlock, IsGoodInst, IsWellFormed}
use Rattle.air_ir.specs.declared.assignment.Assignment.{Assignment}
use Rattle.air_ir.specs.declared.operand.Home.{Home}
use Rattle.air_ir.specs.declared.operand.Home.TheVariants.{Tmp, Reg, Spill}
use Rattle.air_ir.specs.declared.operand.Operand.{Operand}
use Rattle.air_ir.specs.declared.procedure.AirBlock.{AirBlock}
use Rattle.air_ir.specs.declared.procedure.AirInst.{AirInst}
use Rattle.air_ir.specs.declared.procedure.AirProc.{AirProc}
use Rattle.air_ir.proofs.Weights.{kept-lighter, rename-lighter}
use Rattle.air_spill.specs.Rewritten.{home_by, is_copy, rewritten, rewritten_block, rewritten_inst, standing}
use Rattle.air_spill.proofs.CopyForms.{copy_form}
use Rattle.air_spill.proofs.SameRun.{rewritten-copies, rewritten-other}

-- a place takes no more words than a temporary
standing_words : (k : ℕ) (x : Option (Option Register)) → home_words (standing k x) ≤ 2
standing_words k (Some (Some reg)) = omega arith
standing_words k (Some None) = omega arith
standing_words k None = omega arith

module _ (p : AirProc) (a : Assignment) where
  no_more : (h : Home) → home_words (home_by a h) ≤ home_words h
  no_more (Tmp k) = standing_words k (slice_get a.homes k)
  no_more (Reg reg) = omega arith
  no_more (Spill n) = omega arith

  inst_lighter : (i : AirInst) → IsGoodInst p i → sum_by inst_weight (rewritten_inst (home_by a) i) ≤ inst_weight i
  inst_lighter i good = elim (cases_Bool (is_copy i.op)) [
    | inr other ↦
        let less = rename-lighter (home_by a) no_more i in
        let one = sum_by-cons inst_weight (rename_inst (home_by a) i) [] in
        subst (λ (l : List AirInst). sum_by inst_weight l ≤ inst_weight i) (sym (rewritten-other (home_by a) i other))
        (omega (arith, less, one))
    | inl e ↦
        let form = copy_form p.returns i.op i.operands e good.operands in
        let same : inst_weight (record i { operands = copy_operands form.copies }) ≡ inst_weight i =
        ap (λ (os : List Operand). inst_weight (record i { operands = os })) (sym form.are) in
        let less = kept-lighter (home_by a) no_more i form.copies in
        subst (λ (l : List AirInst). sum_by inst_weight l ≤ inst_weight i) (sym (rewritten-copies (home_by a) i form.copies e form.are))
        (subst (λ (n : ℕ). sum_by inst_weight (copy_inst i (kept (home_by a) form.copies)) ≤ n) same less)
  ]

  insts_lighter : (is : List AirInst) → All (IsGoodInst p) is → sum_by inst_weight (flat_map (rewritten_inst (home_by a)) is) ≤ sum_by inst_weight is
  insts_lighter [] good = omega arith
  insts_lighter (i ∷ is) good =
      let one = inst_lighter i (All-head (IsGoodInst p) i is good) in
      let rest = insts_lighter is (All-tail (IsGoodInst p) i is good) in
      let sums = sum_by-append inst_weight (rewritten_inst (home_by a) i) (flat_map (rewritten_inst (home_by a)) is) in
      let whole = sum_by-cons inst_weight i is in
      omega (arith, one, rest, sums, whole)

  abbrev block_weight : AirBlock → ℕ
  block_weight b = sum_by inst_weight b.insts

  blocks_lighter : (bs : List AirBlock) → All (IsGoodBlock p) bs → sum_by block_weight (map (rewritten_block (home_by a)) bs) ≤ sum_by block_weight bs
  unfolding rewritten_block
  blocks_lighter [] good = omega arith
  blocks_lighter (b ∷ bs) good =
      let one = insts_lighter b.insts (All-head (IsGoodBlock p) b bs good).insts in
      let rest = blocks_lighter bs (All-tail (IsGoodBlock p) b bs good) in
      let left = sum_by-cons block_weight (rewritten_block (home_by a) b) (map (rewritten_block (home_by a)) bs) in
      let right = sum_by-cons block_weight b bs in
      omega (arith, one, rest, left, right)

  pub lighter : IsWellFormed p → weight (rewritten p a) ≤ weight p
  lighter good = let less = blocks_lighter p.blocks good.blocks in omega (arith, less)
