use Rattle.std.proofs.Common.{◌≡◌, map, take}
use Rattle.air_select.specs.Selected.{use_of}
use Rattle.air_select.proofs.values.over_children.Given as goal

abbrev pub invariant-loop-id : goal.invariant-loop-id
invariant-loop-id l = l.operands ≡ map (use_of l.t) (take l.id-index l.children)
