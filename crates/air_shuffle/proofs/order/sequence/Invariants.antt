use Rattle.std.proofs.Common.{◌≡◌, length}
use Rattle.std.specs.Prelude.{None}
use Rattle.air_shuffle.specs.Following.{IsAt}
use Rattle.air_shuffle.specs.Sequenced.{sequenced}
use Rattle.air_shuffle.specs.Waiting.{IsCounted}
use Rattle.air_shuffle.proofs.order.sequence.Given as goal

abbrev pub invariant-loop-place : goal.invariant-loop-place
invariant-loop-place l = record {
  counted : IsCounted l.pending;
  many : length l.pending.moves.items ≡ length l.moves;
  at : IsAt (sequenced l.fn.scratch l.moves) l.place None l.done l.pending;
}
