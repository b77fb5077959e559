use Rattle.std.proofs.Common.{◌≡◌, ◌≤◌, length, drop}
use Rattle.b3_ir.specs.Types.{takes_types}
use Rattle.b3_ir.proofs.types.takes_types.Given as goal

abbrev pub invariant-loop-at : goal.invariant-loop-at
invariant-loop-at l = record {
  within : l.at ≤ length l.types;
  same : takes_types l.alike l.takes l.more l.types ≡ takes_types l.alike (drop l.at l.takes) l.more (drop l.at l.types);
}
