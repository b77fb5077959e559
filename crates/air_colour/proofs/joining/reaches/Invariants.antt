use Rattle.std.proofs.Common.{◌≡◌, ◌≤◌, take, false}
use Rattle.std.specs.Prelude.{count_by, slice_index_or}
use Rattle.air_colour.proofs.joining.reaches.Given as goal

abbrev pub invariant-loop-b : goal.invariant-loop-b
invariant-loop-b l = record {
  counted : l.neighbours ≡ count_by (λ b. slice_index_or l.left b false) (take l.b-index l.near);
  few : l.neighbours ≤ l.b-index;
}
