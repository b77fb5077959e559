use Rattle.std.proofs.Common.{arith}
use Rattle.std.proofs.lemmas.Grind.{common_steps}
use Rattle.air_frame.proofs.Snoc.{spills_push}
use Rattle.air_frame.proofs.placing.place_spills.Goals as goal

pub loop-asked-preserved : goal.loop-asked-preserved
loop-asked-preserved c = grind (arith, common_steps, spills_push)
