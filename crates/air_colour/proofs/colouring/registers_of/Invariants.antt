use Rattle.std.proofs.Common.{◌≡◌, map, take}
use Rattle.air_colour.specs.Assigned.{as_register}
use Rattle.air_colour.proofs.colouring.registers_of.Given as goal

abbrev pub invariant-loop-g : goal.invariant-loop-g
invariant-loop-g l = l.list ≡ map as_register (take l.g-index l.given)
