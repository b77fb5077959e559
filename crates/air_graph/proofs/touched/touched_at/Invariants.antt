use Rattle.std.proofs.Common.{◌≡◌, take}
use Rattle.std.specs.Prelude.{filter_map}
use Rattle.air_flow.specs.Flow.{touches_at}
use Rattle.air_graph.specs.Walk.{defined_by, used_by, used_late_by}
use Rattle.air_graph.proofs.touched.touched_at.Given as goal

abbrev pub invariant-loop-k : goal.invariant-loop-k
invariant-loop-k l = record {
  used : l.used ≡ filter_map (used_by l.tmps) (take l.k (touches_at l.flow.proc.now l.block l.place));
  late : l.late ≡ filter_map (used_late_by l.tmps) (take l.k (touches_at l.flow.proc.now l.block l.place));
  defined : l.defined ≡ filter_map (defined_by l.tmps) (take l.k (touches_at l.flow.proc.now l.block l.place));
}
