-- No public clause cites this module. For each op that computes, the operands that it takes give as many words as its
-- word is computed from, and no more, and it has one result.
use Rattle.std.proofs.Common.{◌≡◌, ℕ, suc, Bool, true, false, ◌&&◌, not, nat_eq, List, [], ◌∷◌, Option, Some, None, is_some, replicate, refl}
use Rattle.std.specs.List.{list_all}
use Rattle.b3_base.specs.declared.word.Width.{Width}
use Rattle.b3_base.specs.declared.word.Width.TheVariants.{W32, W64}
use Rattle.a64_inst.specs.Values.{flags_of_sum}
use Rattle.a64_inst.specs.declared.inst.Cond.TheVariants.{Le}
use Rattle.air_ir.specs.Forms.{Takes, Result, takes}
use Rattle.air_ir.specs.Words.{computed}
use Rattle.air_ir.specs.declared.op.AirOp.{AirOp}
use Rattle.air_ir.specs.declared.op.AirOp.TheVariants as op
use Rattle.air_ir.specs.declared.op.Test.TheVariants.{Compare, NonZero, Bit}

-- how many of these are read, and how many are results
abbrev reads_in : List Takes → ℕ
reads_in [] = 0
reads_in (Result width ∷ ts) = reads_in ts
reads_in (t ∷ ts) = suc (reads_in ts)

abbrev results_in : List Takes → ℕ
results_in [] = 0
results_in (Result width ∷ ts) = suc (results_in ts)
results_in (t ∷ ts) = results_in ts

abbrev computes : AirOp → Width → ℕ → Bool
computes op width n = is_some (computed op width (replicate n 0))

abbrev agrees_on : AirOp → Width → Option (List Takes) → Bool
agrees_on op width (Some ts) = computes op width (reads_in ts) && not (computes op width (suc (reads_in ts))) && nat_eq (results_in ts) 1
agrees_on op width None = false

abbrev agrees : AirOp → Bool
agrees op = agrees_on op W32 (takes op W32 W64) && agrees_on op W64 (takes op W64 W32)

abbrev computing : List AirOp
computing =
    op.Add ∷ op.Sub ∷ op.Neg ∷ op.Mul ∷ op.MulSub ∷ op.Div ∷ op.UDiv ∷ op.And ∷ op.Or ∷ op.Xor
    ∷ op.Lsl ∷ op.Lsr ∷ op.Asr ∷ op.Ror ∷ op.Clz ∷ op.SExt8 ∷ op.SExt16 ∷ op.SExt32 ∷ op.ZExt32 ∷ op.MulHigh ∷ op.UMulHigh
    ∷ op.SetIf (Compare Le) ∷ op.SetIf NonZero ∷ op.SetIf (Bit 3)
    ∷ op.SelectIf (Compare Le) ∷ op.SelectIf NonZero ∷ op.SelectIf (Bit 3) ∷ []

each_agrees : list_all agrees computing ≡ true
unfolding flags_of_sum
each_agrees = refl
