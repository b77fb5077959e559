-- Renaming homes to others that take no more words adds no weight, and neither does leaving copies out.
use Rattle.std.proofs.Common.{◌≡◌, ℕ, ◌+◌, ◌*◌, ◌≤◌, max, Bool, true, false, if◌then◌else◌, List, [], ◌∷◌, map, length, ap, ◌∙◌, arith}
use Rattle.std.specs.Prelude.{sum_by}
use Rattle.std.proofs.lemmas.List.{length-map}
use Rattle.std.proofs.lemmas.List.Sums.{sum_by-cons}
use Rattle.air_ir.specs.Renaming.{Copy, copy_inst, copy_operands, destination, is_joined, kept, rename, rename_arg, rename_copy, rename_inst, source}
use Rattle.air_ir.specs.Weight.{arg_words, home_words, inst_weight, is_shuffle, op_words, words_by}
use Rattle.air_ir.specs.declared.op.AirOp.{AirOp}
use Rattle.air_ir.specs.declared.operand.Home.{Home}
use Rattle.air_ir.specs.declared.operand.Arg.{Arg}
use Rattle.air_ir.specs.declared.operand.Arg.TheVariants.{At, Imm, Addr, Index, FrameSlot}
use Rattle.air_ir.specs.declared.operand.Operand.{Operand}
use Rattle.air_ir.specs.declared.procedure.AirInst.{AirInst}

abbrev pub all_words : List Operand → ℕ
all_words os = sum_by (λ (o : Operand). arg_words o.arg) os

all_words-cons : (o : Operand) (os : List Operand) → all_words (o ∷ os) ≡ arg_words o.arg + all_words os
all_words-cons o os = sum_by-cons (λ (p : Operand). arg_words p.arg) o os

-- as many operands or fewer, and as many words or fewer, are no more weight
lighter : (op : AirOp) (os ps : List Operand) → length ps ≤ length os → all_words ps ≤ all_words os
    → max (words_by op ps) (1 + length ps) ≤ max (words_by op os) (1 + length os)
lighter op os ps few less = by (is_shuffle op)
  where
    by : (b : Bool) → max (if b then 6 * length ps else op_words op + all_words ps) (1 + length ps) ≤ max (if b then 6 * length os else op_words op + all_words os) (1 + length os)
    by true = omega (arith, few)
    by false = omega (arith, few, less)

module _ (loc : Home → Home) (no_more : (h : Home) → home_words (loc h) ≤ home_words h) where
  arg-lighter : (a : Arg) → arg_words (rename_arg loc a) ≤ arg_words a
  arg-lighter (At home) = no_more home
  arg-lighter (Imm word) = omega arith
  arg-lighter (Addr base offset) = no_more base
  arg-lighter (Index base index shift) = let b = no_more base in let i = no_more index in omega (arith, b, i)
  arg-lighter (FrameSlot number) = omega arith

  words-lighter : (os : List Operand) → all_words (map (rename loc) os) ≤ all_words os
  words-lighter [] = omega arith
  words-lighter (o ∷ os) =
      let one = arg-lighter o.arg in
      let rest = words-lighter os in
      rw (all_words-cons (rename loc o) (map (rename loc) os), all_words-cons o os) (omega (arith, one, rest))

  pub rename-lighter : (i : AirInst) → inst_weight (rename_inst loc i) ≤ inst_weight i
  rename-lighter i =
      let same = length-map i.operands (rename loc) in
      lighter i.op i.operands (map (rename loc) i.operands) (omega (arith, same)) (words-lighter i.operands)

  copies-fewer : (cs : List Copy) → length (copy_operands (kept loc cs)) ≤ length (copy_operands cs)
  unfolding copy_operands kept
  copies-fewer [] = omega arith
  copies-fewer (c ∷ cs) = by (is_joined loc c.from c.to) (copies-fewer cs)
    where
      by : (b : Bool) → length (copy_operands (kept loc cs)) ≤ length (copy_operands cs)
          → length (copy_operands (if b then kept loc cs else rename_copy loc c ∷ kept loc cs)) ≤ length (copy_operands (c ∷ cs))
      by true h = omega (arith, h)
      by false h = omega (arith, h)

  copy-words : (c : Copy) (cs : List Copy) → all_words (copy_operands (c ∷ cs)) ≡ arg_words c.from + (home_words c.to + all_words (copy_operands cs))
  unfolding copy_operands
  copy-words c cs = all_words-cons (source c) (destination c ∷ copy_operands cs) ∙ ap (λ n. arg_words c.from + n) (all_words-cons (destination c) (copy_operands cs))

  copies-lighter : (cs : List Copy) → all_words (copy_operands (kept loc cs)) ≤ all_words (copy_operands cs)
  unfolding copy_operands kept
  copies-lighter [] = omega arith
  copies-lighter (c ∷ cs) = by (is_joined loc c.from c.to) (copies-lighter cs)
    where
      by : (b : Bool) → all_words (copy_operands (kept loc cs)) ≤ all_words (copy_operands cs)
          → all_words (copy_operands (if b then kept loc cs else rename_copy loc c ∷ kept loc cs)) ≤ all_words (copy_operands (c ∷ cs))
      by true h = rw (copy-words c cs) (omega (arith, h))
      by false h =
          let from = arg-lighter c.from in
          let to = no_more c.to in
          rw (copy-words (rename_copy loc c) (kept loc cs), copy-words c cs) (omega (arith, h, from, to))

  -- what is left of a Move or a Shuffle
  pub kept-lighter : (i : AirInst) (cs : List Copy) → sum_by inst_weight (copy_inst i (kept loc cs)) ≤ inst_weight (record i { operands = copy_operands cs })
  kept-lighter i cs = by (kept loc cs) (copies-fewer cs) (copies-lighter cs)
    where
      by : (ks : List Copy) → length (copy_operands ks) ≤ length (copy_operands cs) → all_words (copy_operands ks) ≤ all_words (copy_operands cs)
          → sum_by inst_weight (copy_inst i ks) ≤ inst_weight (record i { operands = copy_operands cs })
      by [] few less = omega arith
      by (k ∷ ks) few less = let one = lighter i.op (copy_operands cs) (copy_operands (k ∷ ks)) few less in omega (arith, one)
