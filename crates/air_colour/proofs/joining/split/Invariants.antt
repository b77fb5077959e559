use Rattle.std.proofs.Common.{◌≡◌, ◌&&◌, false, not, take}
use Rattle.std.specs.Prelude.{filter, slice_index_or}
use Rattle.air_colour.specs.Kept.{has}
use Rattle.air_colour.proofs.joining.split.Given as goal

abbrev pub invariant-loop-x : goal.invariant-loop-x
invariant-loop-x l = record {
  both : l.both.items ≡ filter (λ x. slice_index_or l.left x false && has l.edges l.a x) (take l.x-index l.near);
  fresh : l.fresh.items ≡ filter (λ x. slice_index_or l.left x false && not (has l.edges l.a x)) (take l.x-index l.near);
}
