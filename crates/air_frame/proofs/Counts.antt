-- The numbers of spill places that a procedure names.
use Rattle.std.proofs.Common.{ℕ, max, ◌≤◌, List, [], ◌∷◌, All, arith}
use Rattle.std.specs.Prelude.{fold}
use Rattle.std.specs.List.{range_with_len}
use Rattle.std.proofs.lemmas.List.Elements.{All-head, All-tail}
use Rattle.std.proofs.lemmas.List.FromFn.{length-range_with_len}
use Rattle.std.proofs.lemmas.List.Sums.{count_by-le-length}
use Rattle.air_ir.specs.WellFormed.{IsSpillBelow, SpillsBelow}
use Rattle.air_ir.specs.declared.operand.Arg.{Arg}
use Rattle.air_ir.specs.declared.operand.Arg.TheVariants.{At, Imm, Addr, Index, FrameSlot}
use Rattle.air_ir.specs.declared.operand.Home.{Home}
use Rattle.air_ir.specs.declared.operand.Home.TheVariants.{Tmp, Reg, Spill}
use Rattle.air_ir.specs.declared.operand.Operand.{Operand}
use Rattle.air_ir.specs.declared.procedure.AirBlock.{AirBlock}
use Rattle.air_ir.specs.declared.procedure.AirInst.{AirInst}
use Rattle.air_frame.specs.Counts.{CountsBelow, NamesCounted}
use Rattle.air_frame.specs.Needs.{arg_spills, block_spills, greatest, home_spills, inst_spills, names, spill_count}

-- the greatest is within a bound of each
fold_within : {X : Type 0} (P : X → Type 0) (f : X → ℕ) (n : ℕ) → ((x : X) → P x → f x ≤ n)
    → (xs : List X) (most : ℕ) → most ≤ n → All P xs
    → fold (λ most x. max most (f x)) most xs ≤ n
fold_within P f n each [] most le all = le
fold_within P f n each (x ∷ xs) most le all =
    fold_within P f n each xs (max most (f x)) (omega (arith, le, each x (All-head P x xs all))) (All-tail P x xs all)

greatest_within : {X : Type 0} (P : X → Type 0) (f : X → ℕ) (n : ℕ) → ((x : X) → P x → f x ≤ n) → (xs : List X)
    → All P xs → greatest f xs ≤ n
greatest_within P f n each xs all = fold_within P f n each xs 0 (omega arith) all

home_within : (n : ℕ) (h : Home) → IsSpillBelow n h → home_spills h ≤ n
home_within n (Tmp number) below = omega arith
home_within n (Reg reg) below = omega arith
home_within n (Spill number) below = omega (arith, below)

arg_within : (n : ℕ) (arg : Arg) → SpillsBelow n arg → arg_spills arg ≤ n
arg_within n (At home) below = home_within n home below
arg_within n (Imm word) below = omega arith
arg_within n (Addr base offset) below = home_within n base below
arg_within n (Index base index shift) below =
    omega (arith, home_within n base below.0, home_within n index below.1)
arg_within n (FrameSlot number) below = omega arith

abbrev OperandBelow : ℕ → Operand → Type 0
OperandBelow n o = SpillsBelow n o.arg

abbrev InstBelow : ℕ → AirInst → Type 0
InstBelow n i = All (OperandBelow n) i.operands

abbrev BlockBelow : ℕ → AirBlock → Type 0
BlockBelow n b = All (InstBelow n) b.insts

inst_within : (n : ℕ) (i : AirInst) → InstBelow n i → inst_spills i ≤ n
inst_within n i below =
    greatest_within (OperandBelow n) (λ o. arg_spills o.arg) n (λ o. arg_within n o.arg) i.operands below

block_within : (n : ℕ) (b : AirBlock) → BlockBelow n b → block_spills b ≤ n
block_within n b below = greatest_within (InstBelow n) inst_spills n (inst_within n) b.insts below

pub counts_below : CountsBelow
counts_below n p below = greatest_within (BlockBelow n) block_spills n (block_within n) p.blocks below

pub names_counted : NamesCounted
names_counted p =
    let numbers = range_with_len 0 (spill_count p) in
    omega (arith, count_by-le-length (names p) numbers, length-range_with_len 0 (spill_count p))
