use Rattle.std.proofs.Common.{ℕ, ◌<◌, List, length, arith, ap, ◌∙◌}
use Rattle.flow_live.specs.declared.touch.Touch.{Touch}
use Rattle.air_flow.specs.Flow.{touches_at}
use Rattle.air_graph.specs.Walk.{defined_by, used_by, used_late_by}
use Rattle.air_graph.proofs.Numbers.{one_more}
use Rattle.air_graph.proofs.touched.touched_at.Goals as goal

pub loop-k-preserved : goal.loop-k-preserved
loop-k-preserved c =
    let tmps : ℕ = c.args.flow.now.proc.now.tmps in
    let ts : List Touch = touches_at c.args.flow.now.proc.now c.args.block c.args.place in
    let k : ℕ = c.loop-k.k in
    let lt : k < length ts = omega (arith, c.touches-k-end.ensures, c.loop-k-test.true) in
    record {
      used = one_more (used_by tmps) ts k c.loop-k.used c.push_some.new.numbers lt c.used_by.result c.loop-k.invariant.used
          (c.used_by.ensures ∙ ap (used_by tmps) c.touch-touch.ensures) c.in_ok-push_some.ensures;
      late = one_more (used_late_by tmps) ts k c.loop-k.late c.push_some-in-loop-k.new.numbers lt c.used_late_by.result c.loop-k.invariant.late
          (c.used_late_by.ensures ∙ ap (used_late_by tmps) c.touch-touch.ensures) c.in_ok-push_some-2.ensures;
      defined = one_more (defined_by tmps) ts k c.loop-k.defined c.push_some-in-loop-k-2.new.numbers lt c.defined_by.result c.loop-k.invariant.defined
          (c.defined_by.ensures ∙ ap (defined_by tmps) c.touch-touch.ensures) c.in_ok-push_some-3.ensures;
    }
