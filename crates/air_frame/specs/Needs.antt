-- What a procedure needs of its frame: the registers that it writes, and the spill places that it names.
use Rattle.std.specs.Prelude.{ℕ, suc, max, Bool, false, ◌||◌, nat_eq, List, [], ◌∷◌, fold}
use Rattle.std.specs.List.{count_by, list_any, range_with_len}
use Rattle.air_ir.specs.Operands.{Target, targets}
use Rattle.air_ir.specs.declared.operand.Home.{Home}
use Rattle.air_ir.specs.declared.operand.Home.TheVariants.{Reg, Spill}
use Rattle.air_ir.specs.declared.operand.Arg.{Arg}
use Rattle.air_ir.specs.declared.operand.Arg.TheVariants.{At, Addr, Index}
use Rattle.air_ir.specs.declared.operand.Operand.{Operand}
use Rattle.air_ir.specs.declared.procedure.AirBlock.{AirBlock}
use Rattle.air_ir.specs.declared.procedure.AirInst.{AirInst}
use Rattle.air_ir.specs.declared.procedure.AirProc.{AirProc}

-- ---- registers

-- the registers that a procedure keeps for its caller, beside x29 and x30: x19 to x28 (AAPCS64, 6.1.1)
unfoldable pub callee_saved : List ℕ
callee_saved = 19 ∷ 20 ∷ 21 ∷ 22 ∷ 23 ∷ 24 ∷ 25 ∷ 26 ∷ 27 ∷ 28 ∷ []

-- whether a home is this register
abbrev pub is_register : ℕ → Home → Bool
is_register r (Reg reg) = nat_eq reg.0 r
is_register r _ = false

-- whether an instruction writes or clobbers a register
abbrev pub inst_writes : ℕ → AirInst → Bool
inst_writes r i = list_any (λ (t : Target). is_register r t.home) (targets i.operands)

abbrev pub block_writes : ℕ → AirBlock → Bool
block_writes r b = list_any (inst_writes r) b.insts

-- whether an instruction of a procedure does
abbrev pub writes : AirProc → ℕ → Bool
writes p r = list_any (block_writes r) p.blocks

-- ---- spill places

-- one more than the number of a spill place, 0 for another home
abbrev pub home_spills : Home → ℕ
home_spills (Spill number) = suc number
home_spills _ = 0

-- one more than the greatest number of a spill place that an argument names, 0 where it names none
abbrev pub arg_spills : Arg → ℕ
arg_spills (At home) = home_spills home
arg_spills (Addr base offset) = home_spills base
arg_spills (Index base index shift) = max (home_spills base) (home_spills index)
arg_spills _ = 0

-- the greatest of what a function gives for each item, 0 where there is none
abbrev pub greatest : {X : Type 0} → (X → ℕ) → List X → ℕ
greatest f xs = fold (λ most x. max most (f x)) 0 xs

abbrev pub inst_spills : AirInst → ℕ
inst_spills i = greatest (λ (o : Operand). arg_spills o.arg) i.operands

abbrev pub block_spills : AirBlock → ℕ
block_spills b = greatest inst_spills b.insts

-- one more than the greatest number of a spill place that a procedure names, 0 where it names none
abbrev pub spill_count : AirProc → ℕ
spill_count p = greatest block_spills p.blocks

-- whether a home is this spill place
abbrev pub is_spill : ℕ → Home → Bool
is_spill n (Spill number) = nat_eq number n
is_spill n _ = false

-- whether an argument names a spill place
abbrev pub arg_names : ℕ → Arg → Bool
arg_names n (At home) = is_spill n home
arg_names n (Addr base offset) = is_spill n base
arg_names n (Index base index shift) = is_spill n base || is_spill n index
arg_names n _ = false

abbrev pub inst_names : ℕ → AirInst → Bool
inst_names n i = list_any (λ (o : Operand). arg_names n o.arg) i.operands

abbrev pub block_names : ℕ → AirBlock → Bool
block_names n b = list_any (inst_names n) b.insts

-- whether an instruction of a procedure does
abbrev pub names : AirProc → ℕ → Bool
names p n = list_any (block_names n) p.blocks

-- how many spill places a procedure names
abbrev pub named_count : AirProc → ℕ
named_count p = count_by (names p) (range_with_len 0 (spill_count p))
