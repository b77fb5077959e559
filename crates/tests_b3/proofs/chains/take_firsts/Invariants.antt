use Rattle.std.proofs.Common.{◌≡◌, ◌+◌, length}
use Rattle.tests_b3.proofs.chains.take_firsts.Given as goal

abbrev pub invariant-loop : goal.invariant-loop
invariant-loop l = record {
  spare : l.chains.spare ≡ l.initial.chains.spare + l.counter;
  lists : length l.chains.lists ≡ length l.initial.chains.lists;
}
