use Rattle.std.proofs.Common.{◌≡◌, ℕ, ◌+◌, ◌↔◌, true, length, arith, refl, sym, ap, ◌∙◌, subst}
use Rattle.air_ir.specs.declared.procedure.AirProc.{AirProc}
use Rattle.air_flow.specs.Interfere.{Interfere}
use Rattle.air_graph.specs.Edges.{EdgeSet, has_edge}
use Rattle.air_graph.specs.Walk.{Adds}
use Rattle.air_graph.proofs.Beside.{blank}
use Rattle.air_graph.proofs.Walking.{AreHigh, MeetBelow, MeetIn, block_step, whole}
use Rattle.air_graph.proofs.walk.graph.Goals as goal

pub loop-block-preserved : goal.loop-block-preserved
loop-block-preserved c =
    let p : AirProc = c.args.p.now in
    let first : EdgeSet = c.add_registers.new.edges in
    let sized : first.names ≡ p.tmps + 25 = c.add_registers.ensures.names ∙ ap (λ (s : EdgeSet). s.names) c.in_ok-edges.ensures in
    let names = c.loop-block.invariant.names in
    record {
      names = c.add_block.ensures.names ∙ names;
      edges = subst (λ (k : ℕ). Adds k first c.add_block.new.edges (MeetBelow p (c.loop-block.block + 1))) (sym sized)
          (block_step p c.loop-block.block first c.loop-block.edges c.add_block.new.edges
          (subst (λ (k : ℕ). Adds k first c.loop-block.edges (MeetBelow p c.loop-block.block)) sized c.loop-block.invariant.edges)
          (subst (λ (k : ℕ). Adds k c.loop-block.edges c.add_block.new.edges (MeetIn p c.loop-block.block)) (names ∙ sized)
          (subst (λ (q : AirProc). Adds c.loop-block.edges.names c.loop-block.edges c.add_block.new.edges (MeetIn q c.loop-block.block)) c.in_ok-flow.ensures
          c.in_ok-add_block.ensures.edges)));
    }

pub returns : goal.returns
returns c =
    let p : AirProc = c.args.p.now in
    let none : EdgeSet = c.in_ok-edges.edges in
    let first : EdgeSet = c.add_registers.new.edges in
    let none_sized : none.names ≡ p.tmps + 25 = ap (λ (s : EdgeSet). s.names) c.in_ok-edges.ensures in
    let sized : first.names ≡ p.tmps + 25 = c.add_registers.ensures.names ∙ none_sized in
    let end : c.loop-block.block ≡ length p.blocks = omega (arith, c.loop-block-test.false, c.loop-block.auto.block-end, c.len-block-end.ensures) in
    record {
      tmps = refl;
      meets = λ a b i j ea eb. subst (λ (s : EdgeSet). (has_edge s i j ≡ true) ↔ Interfere p a b) (sym c.edges-2.view_is)
          (whole p none first c.loop-block.edges (blank none (p.tmps + 25) c.in_ok-edges.ensures)
          (subst (λ (k : ℕ). Adds k none first (AreHigh p.tmps)) none_sized c.in_ok-add_registers.ensures.edges)
          (subst (λ (k : ℕ). Adds k first c.loop-block.edges (MeetBelow p (length p.blocks))) sized
          (subst (λ (k : ℕ). Adds first.names first c.loop-block.edges (MeetBelow p k)) end c.loop-block.invariant.edges))
          a b i j ea eb);
      moves = c.in_ok-moves_of.ensures;
    }
