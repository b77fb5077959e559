use Rattle.std.proofs.Common.{◌≡◌, ◌++◌, drop}
use Rattle.air_select.specs.Selected.{arguments_at}
use Rattle.air_select.proofs.call.push_argument_uses.Given as goal

abbrev pub invariant-loop-id : goal.invariant-loop-id
invariant-loop-id l = record {
  count : l.r ≡ l.id-index;
  so_far : l.operands ++ arguments_at l.t l.r (drop l.id-index l.ids) ≡ l.initial.operands ++ arguments_at l.t 0 l.ids;
}
