use Rattle.std.proofs.Common.{◌≡◌, ◌<◌}
use Rattle.a64_layout.specs.Layout.{place}
use Rattle.a64_layout.specs.Text.{chosen, label_count, mark_count}
use Rattle.a64_layout.proofs.Putting.{ArePut, label_at, mark_at}
use Rattle.a64_layout.proofs.places.put_places.Given as goal

abbrev pub invariant-loop-at : goal.invariant-loop-at
invariant-loop-at l = record {
  here_is : l.here ≡ place l.code (chosen l.long) l.at;
  labels : ArePut l.code label_at (label_count l.code) (place l.code (chosen l.long)) (λ k. k < l.at) l.labels;
  marks : ArePut l.code mark_at (mark_count l.code) (place l.code (chosen l.long)) (λ k. k < l.at) l.marks;
}
