use Rattle.std.proofs.Common.{◌≡◌, map, take}
use Rattle.b3_eval.specs.Lookup.{type_in}
use Rattle.b3_eval.proofs.children.child_types.Given as goal

abbrev pub invariant-loop-child : goal.invariant-loop-child
invariant-loop-child l = l.found ≡ map (type_in l.types) (take l.child-index l.children)
