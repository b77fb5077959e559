use Rattle.std.proofs.Common.{◌≡◌, length, take}
use Rattle.air_colour.proofs.Bars.{AreBars}
use Rattle.air_colour.proofs.choose.mark_barred.Given as goal

abbrev pub invariant-loop-x : goal.invariant-loop-x
invariant-loop-x l = record {
  long : length l.bars ≡ length l.initial.bars;
  marked : AreBars l.bars l.given (take l.x-index l.near);
}
