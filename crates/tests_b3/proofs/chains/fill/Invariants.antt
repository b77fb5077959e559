use Rattle.std.proofs.Common.{◌≡◌, ◌+◌, length}
use Rattle.tests_b3.proofs.chains.fill.Given as goal

abbrev pub invariant-loop : goal.invariant-loop
invariant-loop l = record {
  spare : l.chains.spare + l.counter ≡ l.initial.chains.spare;
  lists : length l.chains.lists ≡ length l.initial.chains.lists;
}
