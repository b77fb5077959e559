use Rattle.std.proofs.Common.{length}
use Rattle.b3_lines.specs.Lines.{lines_of}
use Rattle.b3_trial.specs.Trials.{so_far_of}
use Rattle.b3_trial.proofs.BadLines.{HasRead}
use Rattle.b3_trial.proofs.reading.read_lines.Given as goal

abbrev pub invariant-loop-text : goal.invariant-loop-text
invariant-loop-text l = HasRead (lines_of l.bytes) (so_far_of l.so_far) l.line (lines_of l.rest)

abbrev pub decreases-loop-text : goal.decreases-loop-text
decreases-loop-text l = length (lines_of l.rest)
