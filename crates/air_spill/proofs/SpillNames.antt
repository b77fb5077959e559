-- The spill places that a rewritten procedure names.
use Rattle.std.proofs.Common.{inl, inr, ℕ, ◌+◌, ◌<◌, Option, Some, None, List, [], ◌∷◌, map, get_or, All, sym, subst, arith}
use Rattle.std.specs.Prelude.{slice_get}
use Rattle.std.proofs.lemmas.Bool.{cases_Bool}
use Rattle.std.proofs.lemmas.List.Elements.{All-cons, All-map, All-nil}
use Rattle.b3_ir.specs.declared.value.Reg.{Reg as Register}
use Rattle.air_ir.specs.Renaming.{Copy, copy_inst, copy_operands, kept, rename, rename_arg, rename_inst}
use Rattle.air_ir.specs.WellFormed.{IsGoodBlock, IsGoodInst, IsSpillBelow, IsWellFormed, MayName, NamesOwn, NamesSpillsBelow, SpillsBelow}
use Rattle.air_ir.specs.declared.assignment.Assignment.{Assignment}
use Rattle.air_ir.specs.declared.operand.Arg.{Arg}
use Rattle.air_ir.specs.declared.operand.Arg.TheVariants.{At, Imm, Addr, Index, FrameSlot}
use Rattle.air_ir.specs.declared.operand.Home.{Home}
use Rattle.air_ir.specs.declared.operand.Home.TheVariants.{Tmp, Reg, Spill}
use Rattle.air_ir.specs.declared.operand.Operand.{Operand}
use Rattle.air_ir.specs.declared.operand.Role.{Role}
use Rattle.air_ir.specs.declared.procedure.AirBlock.{AirBlock}
use Rattle.air_ir.specs.declared.procedure.AirInst.{AirInst}
use Rattle.air_ir.specs.declared.procedure.AirProc.{AirProc}
use Rattle.air_spill.specs.Rewritten.{first_spill, home_by, is_copy, rewritten, rewritten_block, rewritten_inst, standing}
use Rattle.air_spill.proofs.Apart.{AllBelow}
use Rattle.air_spill.proofs.CopyForms.{copy_form}
use Rattle.air_spill.proofs.Good.{is_tmp, kept_all}
use Rattle.air_spill.proofs.Members.{all_flat}
use Rattle.air_spill.proofs.SameRun.{rewritten-copies, rewritten-other}

module _ (p : AirProc) (a : Assignment) (named : NamesSpillsBelow first_spill p) where
  abbrev IsLow : Home → Type 0
  IsLow h = IsSpillBelow (first_spill + p.tmps) h

  standing_low : (k : ℕ) (x : Option (Option Register)) → k < p.tmps → IsLow (standing k x)
  standing_low k (Some (Some reg)) lt = tt
  standing_low k (Some None) lt = omega (arith, lt)
  standing_low k None lt = tt

  home_low : (role : Role) (h : Home) → MayName p role h → IsSpillBelow first_spill h → IsLow (home_by a h)
  home_low role (Tmp k) may low = standing_low k (slice_get a.homes k) (is_tmp p role k may)
  home_low role (Reg reg) may low = tt
  home_low role (Spill n) may low = omega (arith, low)

  arg_low : (role : Role) (arg : Arg) → NamesOwn p role arg → SpillsBelow first_spill arg → SpillsBelow (first_spill + p.tmps) (rename_arg (home_by a) arg)
  arg_low role (At h) own low = home_low role h own low
  arg_low role (Imm word) own low = tt
  arg_low role (Addr base offset) own low = home_low role base own low
  arg_low role (Index base index shift) own low = (home_low role base own.0 low.0, home_low role index own.1 low.1)
  arg_low role (FrameSlot number) own low = tt

  abbrev LowOperand : Operand → Type 0
  LowOperand o = SpillsBelow (first_spill + p.tmps) o.arg

  abbrev LowInst : AirInst → Type 0
  LowInst i = All LowOperand i.operands

  renamed_low : (i : AirInst) → IsGoodInst p i → AllBelow first_spill i.operands → All LowOperand (map (rename (home_by a)) i.operands)
  renamed_low i good low =
      All-map LowOperand (rename (home_by a)) i.operands
      (λ k d lt. arg_low (get_or i.operands k d).role (get_or i.operands k d).arg (good.names k d lt) (low k d lt))

  copies_low : (i : AirInst) (ks : List Copy) → All LowOperand (copy_operands ks) → All LowInst (copy_inst i ks)
  copies_low i [] low = All-nil LowInst
  copies_low i (c ∷ ks) low = All-cons LowInst (record i { operands = copy_operands (c ∷ ks) }) [] low (All-nil LowInst)

  insts_low : (i : AirInst) → IsGoodInst p i → AllBelow first_spill i.operands → All LowInst (rewritten_inst (home_by a) i)
  insts_low i good low = elim (cases_Bool (is_copy i.op)) [
    | inr other ↦
        subst (All LowInst) (sym (rewritten-other (home_by a) i other))
        (All-cons LowInst (rename_inst (home_by a) i) [] (renamed_low i good low) (All-nil LowInst))
    | inl e ↦
        let form = copy_form p.returns i.op i.operands e good.operands in
        subst (All LowInst) (sym (rewritten-copies (home_by a) i form.copies e form.are))
        (copies_low i (kept (home_by a) form.copies)
        (kept_all (home_by a) LowOperand form.copies
        (subst (λ (os : List Operand). All LowOperand (map (rename (home_by a)) os)) form.are (renamed_low i good low))))
  ]

  abbrev LowBlock : AirBlock → Type 0
  LowBlock b = All LowInst b.insts

  block_low : (b : AirBlock) → IsGoodBlock p b → All (λ (i : AirInst). AllBelow first_spill i.operands) b.insts → LowBlock (rewritten_block (home_by a) b)
  unfolding rewritten_block
  block_low b good low =
      all_flat (λ (i : AirInst). All LowInst (rewritten_inst (home_by a) i)) LowInst (rewritten_inst (home_by a)) b.insts (λ i all. all)
      (λ k d lt. insts_low (get_or b.insts k d) (good.insts k d lt) (low k d lt))

  pub names_low : IsWellFormed p → NamesSpillsBelow (first_spill + p.tmps) (rewritten p a)
  names_low good =
      All-map LowBlock (rewritten_block (home_by a)) p.blocks
      (λ k d lt. block_low (get_or p.blocks k d) (good.blocks k d lt) (named k d lt))
