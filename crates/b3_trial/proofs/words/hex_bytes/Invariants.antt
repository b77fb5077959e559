use Rattle.std.proofs.Common.{◌≡◌, length}
use Rattle.b3_trial.specs.Lines.{hex_bytes, onto}
use Rattle.b3_trial.proofs.words.hex_bytes.Given as goal

abbrev pub invariant-loop-high : goal.invariant-loop-high
invariant-loop-high l = onto l.bytes (hex_bytes l.left) ≡ hex_bytes l.text

abbrev pub decreases-loop-high : goal.decreases-loop-high
decreases-loop-high l = length l.left
