use Rattle.std.proofs.Common.{◌++◌, ◌-◌, ◌*◌, arith}
use Rattle.b3_trial.specs.Generated.{operations, state_behind, text_of}
use Rattle.b3_trial.proofs.GeneratedLemmas.{operation_more, operations_done, state_done, state_more, text_ends}
use Rattle.b3_trial.proofs.generating.put_operations.Goals as goal

pub loop-k-preserved : goal.loop-k-preserved
loop-k-preserved c = record {
  text = operation_more c.loop-k.out c.put_operation.new.out (c.args.out.now ++ text_of (operations 500 c.args.state.now 13)) 513 c.loop-k.state
      c.put_operation.new.state c.loop-k.k
      (omega arith) c.put_operation.ensures.moved c.in_ok-put_operation.ensures.text c.loop-k.invariant.text;
  state = state_more 513 c.loop-k.state c.put_operation.new.state c.loop-k.k (state_behind 1500 c.args.state.now) (omega arith)
      c.put_operation.ensures.moved c.loop-k.invariant.state;
}

pub returns-clause-text : goal.returns-clause-text
returns-clause-text c =
    text_ends c.loop-k.out (c.args.out.now ++ text_of (operations 500 c.args.state.now 13)) (operations (513 - c.loop-k.k) c.loop-k.state c.loop-k.k)
    (operations_done (513 - c.loop-k.k) c.loop-k.state c.loop-k.k (omega arith)) c.loop-k.invariant.text

pub returns-clause-moved : goal.returns-clause-moved
returns-clause-moved c = state_done (3 * (513 - c.loop-k.k)) c.loop-k.state (state_behind 1500 c.args.state.now) (omega arith) c.loop-k.invariant.state
