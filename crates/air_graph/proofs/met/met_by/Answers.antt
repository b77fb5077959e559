use Rattle.std.proofs.Common.{arith}
use Rattle.std.proofs.lemmas.Grind.{common_steps}
use Rattle.air_graph.proofs.Meeting.{met_early, met_late}
use Rattle.air_graph.proofs.met.met_by.Goals as goal
use Rattle.air_graph.proofs.met.met_by.Goals.{then-in_list+in_ok-extend-3, else-in_list}

pub returns : goal.returns
returns c =
    elim c.if-in_list.branch [
      | then-in_list+in_ok-extend-3 w ↦
          met_early c.args.tmps c.args.t.now c.args.live.now c.args.x c.if-in_list.met (grind (arith, common_steps)) (grind (arith, common_steps))
      | else-in_list w ↦
          met_late c.args.tmps c.args.t.now c.args.live.now c.args.x c.if-in_list.met (grind (arith, common_steps)) (grind (arith, common_steps))
    ]
