use Rattle.air_shuffle.proofs.Sequenced.{sequences_right}
use Rattle.air_shuffle.proofs.sequencing.sequences_are_right.Goals as goal

pub returns : goal.returns
returns c = sequences_right
