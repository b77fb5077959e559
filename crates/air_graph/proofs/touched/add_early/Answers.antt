use Rattle.std.proofs.Common.{arith, append_assoc}
use Rattle.std.proofs.lemmas.Grind.{common_steps}
use Rattle.std.proofs.lemmas.List.Elements.{filter_map-append}
use Rattle.air_graph.proofs.touched.add_early.Goals as goal

pub loop-operand-preserved : goal.loop-operand-preserved
loop-operand-preserved c = grind (arith, common_steps, filter_map-append, append_assoc)
