use Rattle.std.proofs.Common.{◌++◌, ◌-◌, arith}
use Rattle.b3_trial.specs.Generated.{arguments, text_of}
use Rattle.b3_trial.proofs.GeneratedLemmas.{argument_more, arguments_done, text_ends}
use Rattle.b3_trial.proofs.generating.put_arguments.Goals as goal

pub loop-r-preserved : goal.loop-r-preserved
loop-r-preserved c = argument_more c.loop-r.out c.put_value.new.out (c.args.out.now ++ text_of (arguments 8 0)) c.loop-r.r c.from.result
    (omega arith) c.from.ensures c.in_ok-put_value.ensures c.loop-r.invariant

pub returns : goal.returns
returns c = text_ends c.loop-r.out (c.args.out.now ++ text_of (arguments 8 0)) (arguments (8 - c.loop-r.r) c.loop-r.r) (arguments_done (8 -
    c.loop-r.r) c.loop-r.r (omega arith)) c.loop-r.invariant
