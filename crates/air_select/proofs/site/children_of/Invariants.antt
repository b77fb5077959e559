use Rattle.std.proofs.Common.{◌≡◌, map, take}
use Rattle.air_select.specs.Selected.{child_of}
use Rattle.air_select.proofs.site.children_of.Given as goal

abbrev pub invariant-loop-id : goal.invariant-loop-id
invariant-loop-id l = l.list ≡ map (child_of l.t) (take l.id-index l.ids)
