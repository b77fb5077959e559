use Rattle.std.proofs.Common.{◌≡◌, take}
use Rattle.std.specs.List.{list_any}
use Rattle.air_ir.specs.Operands.{same_home}
use Rattle.air_ir.specs.declared.operand.Home.{Home}
use Rattle.air_graph.specs.Walk.{is_move}
use Rattle.air_graph.proofs.met.sources_of.Given as goal

abbrev pub invariant-loop-m : goal.invariant-loop-m
invariant-loop-m l = (from : Home) → list_any (λ h. same_home h from) l.homes ≡ is_move (take l.m-index l.moves) from l.to
