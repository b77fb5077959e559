use Rattle.std.proofs.Common.{◌≡◌, ◌≤◌, ◌&&◌, not, take}
use Rattle.std.specs.Prelude.{count_by}
use Rattle.air_colour.specs.Kept.{has, significant_left}
use Rattle.air_colour.proofs.joining.significant_beyond.Given as goal

abbrev pub invariant-loop-y : goal.invariant-loop-y
invariant-loop-y l = record {
  counted : l.many ≡ count_by (λ x. significant_left l.k l.edges l.left l.fixed x && not (has l.edges l.a x)) (take l.y-index l.near);
  few : l.many ≤ l.y-index;
}
