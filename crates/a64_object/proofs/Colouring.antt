-- What colouring asks of a procedure: it has few moves and few live names.
use Rattle.std.proofs.Common.{ℕ, ◌+◌, ◌*◌, ◌^◌, ◌≤◌, List, [], ◌∷◌, length, ap, arith, length-append}
use Rattle.std.specs.Prelude.{sum_by}
use Rattle.std.specs.List.{flat_map}
use Rattle.std.proofs.lemmas.List.Concat.{flat_map-cons}
use Rattle.std.proofs.lemmas.List.Sums.{sum_by-cons}
use Rattle.std.proofs.Math.Nat.{le-max_right, mul-le-mul_left}
use Rattle.air_ir.specs.Kinds.{Kind, Copies, Computes, kind_of}
use Rattle.air_ir.specs.Weight.{inst_weight, weight, words_by}
use Rattle.air_ir.specs.declared.operand.Arg.{Arg}
use Rattle.air_ir.specs.declared.operand.Arg.TheVariants.{At, Imm}
use Rattle.air_ir.specs.declared.operand.Operand.{Operand}
use Rattle.air_ir.specs.declared.procedure.AirBlock.{AirBlock}
use Rattle.air_ir.specs.declared.procedure.AirInst.{AirInst}
use Rattle.air_ir.specs.declared.procedure.AirProc.{AirProc}
use Rattle.air_graph.specs.Moves.{block_moves, copied, copied_by, inst_moves, moves_of, pairs_of}

copied_few : (from to : Arg) → length (copied from to) ≤ 1
copied_few (At from) (At to) = omega arith
copied_few (At from) (Imm to) = omega arith
copied_few (At from) _ = omega arith
copied_few (Imm from) to = omega arith
copied_few _ to = omega arith

pairs_few : (os : List Operand) → length (pairs_of os) ≤ length os
unfolding pairs_of
pairs_few [] = omega arith
pairs_few (o ∷ []) = omega arith
pairs_few (from ∷ to ∷ os) =
    omega (arith, length-append (copied from.arg to.arg) (pairs_of os), copied_few from.arg to.arg, pairs_few os)

by_few : (k : Kind) (os : List Operand) → length (copied_by k os) ≤ length os
by_few Copies os = pairs_few os
by_few Computes os = omega arith
by_few _ os = omega arith

inst_few : (i : AirInst) → length (inst_moves i) ≤ inst_weight i
inst_few i = omega (arith, by_few (kind_of i.op) i.operands, le-max_right (words_by i.op i.operands) (1 + length i.operands))

flat_few : {X Y : Type 0} (f : X → List Y) (w : X → ℕ) (xs : List X) → ((x : X) → length (f x) ≤ w x) → length (flat_map f xs) ≤ sum_by w xs
flat_few f w [] each = omega arith
flat_few f w (x ∷ xs) each =
    omega (arith, ap length (flat_map-cons f x xs), length-append (f x) (flat_map f xs), sum_by-cons w x xs, each x, flat_few f w xs each)

pub moves_few : (p : AirProc) → length (moves_of p) ≤ weight p
moves_few p =
    omega (arith, flat_few block_moves (λ (b : AirBlock). sum_by inst_weight b.insts) p.blocks (λ b. flat_few inst_moves inst_weight b.insts inst_few))

pub names_few : (blocks tmps : ℕ) → blocks ≤ 4097 → tmps ≤ 65536 → blocks * (tmps + 31) ≤ 2 ^ 32
names_few blocks tmps few small =
    let wide : blocks * (tmps + 31) ≤ blocks * 65567 = mul-le-mul_left blocks (omega (arith, small)) in
    omega (arith, wide, few)
