use Rattle.std.proofs.Common.{◌≡◌, ◌++◌, drop}
use Rattle.air_stackmap.specs.SiteCode.{moves_from}
use Rattle.air_stackmap.proofs.moves.push_moves.Given as goal

abbrev pub invariant-loop-at : goal.invariant-loop-at
invariant-loop-at l = l.insts ++ moves_from l.v l.at (drop l.at l.children) ≡ l.initial.insts ++ moves_from l.v 0 l.children
