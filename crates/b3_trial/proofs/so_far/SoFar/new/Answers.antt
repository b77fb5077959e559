use Rattle.std.proofs.Common.{refl}
use Rattle.b3_trial.proofs.PieceLemmas.{empty_memory}
use Rattle.b3_trial.proofs.so_far.SoFar.new.Goals as goal

pub returns : goal.returns
returns c = rw (empty_memory _ c.new.ensures, empty_memory _ c.new-2.ensures, c.new-3.ensures, c.new-4.ensures) refl
