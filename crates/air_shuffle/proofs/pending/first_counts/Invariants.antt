use Rattle.std.proofs.Common.{◌≡◌, replicate, take}
use Rattle.air_shuffle.specs.Waiting.{AreCounts, left_of}
use Rattle.air_shuffle.proofs.pending.first_counts.Given as goal

abbrev pub invariant-loop : goal.invariant-loop
invariant-loop l = l.counts.items ≡ replicate l.counter 0

abbrev pub invariant-loop-place : goal.invariant-loop-place
invariant-loop-place l = AreCounts l.moves (left_of l.moves (take l.place l.left)) l.counts.items
