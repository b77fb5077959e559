use Rattle.std.proofs.Common.{◌≡◌, ◌≤◌, take}
use Rattle.std.specs.Prelude.{count_by}
use Rattle.air_colour.specs.Kept.{significant_left}
use Rattle.air_colour.proofs.joining.significant_near.Given as goal

abbrev pub invariant-loop-x : goal.invariant-loop-x
invariant-loop-x l = record {
  counted : l.many ≡ count_by (λ x. significant_left l.k l.edges l.left l.fixed x) (take l.x-index l.near);
  few : l.many ≤ l.x-index;
}
