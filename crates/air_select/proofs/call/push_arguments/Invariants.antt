use Rattle.std.proofs.Common.{◌≡◌, ◌++◌, drop}
use Rattle.air_select.specs.Selected.{arguments_into}
use Rattle.air_select.proofs.call.push_arguments.Given as goal

abbrev pub invariant-loop-id : goal.invariant-loop-id
invariant-loop-id l = record {
  count : l.r ≡ l.id-index;
  so_far : l.insts ++ arguments_into l.t l.v l.r (drop l.id-index l.ids) ≡ l.initial.insts ++ arguments_into l.t l.v 0 l.ids;
}
