use Rattle.std.proofs.Common.{◌≡◌, take, false}
use Rattle.std.specs.List.{list_any}
use Rattle.air_ir.specs.Operands.{same_home}
use Rattle.air_graph.proofs.met.has_home.Given as goal

abbrev pub invariant-loop-h : goal.invariant-loop-h
invariant-loop-h l = list_any (λ h. same_home h l.home) (take l.h-index l.homes) ≡ false
