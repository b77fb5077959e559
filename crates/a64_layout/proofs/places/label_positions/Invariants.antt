use Rattle.std.proofs.Common.{◌<◌}
use Rattle.a64_layout.specs.Text.{label_count}
use Rattle.a64_layout.proofs.Putting.{ArePut, label_at}
use Rattle.a64_layout.proofs.places.label_positions.Given as goal

abbrev pub invariant-loop-at : goal.invariant-loop-at
invariant-loop-at l = ArePut l.code label_at (label_count l.code) (λ k. k) (λ k. k < l.at) l.positions
