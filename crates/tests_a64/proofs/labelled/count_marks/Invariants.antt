use Rattle.std.proofs.Common.{◌≡◌, ◌≤◌}
use Rattle.std.proofs.Math.ListN.{take}
use Rattle.std.specs.List.{count_by}
use Rattle.a64_layout.specs.Text.{is_any_mark}
use Rattle.tests_a64.proofs.labelled.count_marks.Given as goal

abbrev pub invariant-loop-at : goal.invariant-loop-at
invariant-loop-at l = record {
  count_is : l.count ≡ count_by is_any_mark (take l.at l.code);
  most : l.count ≤ l.at;
}
