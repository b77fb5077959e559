use Rattle.std.proofs.Common.{◌≡◌, ◌+◌, drop}
use Rattle.b3_trial.specs.Lines.{colon_at}
use Rattle.b3_trial.proofs.line.colon_at.Given as goal

abbrev pub invariant-loop-i : goal.invariant-loop-i
invariant-loop-i l = l.i + colon_at (drop l.i l.text) ≡ colon_at l.text
