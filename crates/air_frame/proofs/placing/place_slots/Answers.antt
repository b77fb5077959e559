use Rattle.std.proofs.Common.{arith}
use Rattle.std.proofs.lemmas.Grind.{common_steps}
use Rattle.air_frame.proofs.Snoc.{slots_push}
use Rattle.air_frame.proofs.placing.place_slots.Goals as goal

pub loop-size-preserved : goal.loop-size-preserved
loop-size-preserved c = grind (arith, common_steps, slots_push)
