use Rattle.std.proofs.Common.{◌≡◌, length}
use Rattle.tests_b3.proofs.sets.put.Given as goal

abbrev pub invariant-loop-bit : goal.invariant-loop-bit
invariant-loop-bit l = record {
  bits : l.rows.bits ≡ l.initial.rows.bits;
  rows : length l.rows.sets ≡ length l.initial.rows.sets;
}
