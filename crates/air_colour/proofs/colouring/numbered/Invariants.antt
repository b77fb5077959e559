use Rattle.std.proofs.Common.{◌≡◌, map, take}
use Rattle.air_colour.specs.Assigned.{move_of}
use Rattle.air_colour.proofs.colouring.numbered.Given as goal

abbrev pub invariant-loop-m : goal.invariant-loop-m
invariant-loop-m l = l.list ≡ map (move_of l.tmps) (take l.m-index l.moves)
