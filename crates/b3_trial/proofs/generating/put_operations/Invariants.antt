use Rattle.std.proofs.Common.{◌≡◌, ◌++◌, ◌-◌, ◌*◌}
use Rattle.b3_trial.specs.Generated.{operations, state_behind, text_of}
use Rattle.b3_trial.proofs.generating.put_operations.Given as goal

abbrev pub invariant-loop-k : goal.invariant-loop-k
invariant-loop-k l = record {
  text : l.out ++ text_of (operations (513 - l.k) l.state l.k) ≡ l.fn.out ++ text_of (operations 500 l.fn.state 13);
  state : state_behind (3 * (513 - l.k)) l.state ≡ state_behind 1500 l.fn.state;
}
