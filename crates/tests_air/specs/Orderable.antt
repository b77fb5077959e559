-- Whether moves may be put in order.
use Rattle.std.specs.Prelude.{Bool, true, false, ◌&&◌, not, List, [], ◌∷◌}
use Rattle.std.specs.List.{list_any}
use Rattle.b3_ir.specs.declared.value.Reg.{Reg as Register}
use Rattle.air_ir.specs.Operands.{same_home}
use Rattle.air_ir.specs.declared.operand.Home.TheVariants.{Reg}
use Rattle.air_ir.specs.declared.operand.Arg.{Arg}
use Rattle.air_ir.specs.declared.operand.Arg.TheVariants.{At, Imm}
use Rattle.air_shuffle.specs.Moves.{writes}
use Rattle.air_shuffle.specs.declared.moves.Move.{Move}

abbrev pub is_source : Arg → Bool
is_source (At home) = true
is_source (Imm word) = true
is_source _ = false

-- a move from a home or an immediate, to a home that is neither the scratch nor another move's destination
abbrev pub goes_before : Register → Move → List Move → Bool
goes_before scratch c cs = is_source c.from && (not (same_home c.to (Reg scratch)) && not (list_any (writes c.to) cs))

unfoldable pub may_go : Register → List Move → Bool
may_go scratch [] = true
may_go scratch (c ∷ cs) = goes_before scratch c cs && may_go scratch cs
