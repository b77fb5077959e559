use Rattle.air_shuffle.specs.Waiting.{AreWritersBelow}
use Rattle.air_shuffle.proofs.writers.writers_of.Given as goal

abbrev pub invariant-loop-place : goal.invariant-loop-place
invariant-loop-place l = AreWritersBelow l.place l.moves l.writers
