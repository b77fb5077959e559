use Rattle.std.proofs.Common.{ℕ, ◌+◌, arith, get_or, sym, ap, ◌∙◌, subst, take}
use Rattle.std.proofs.lemmas.List.Elements.{Contains-get_or}
use Rattle.air_graph.specs.Edges.{EdgeSet}
use Rattle.air_graph.specs.Walk.{Adds}
use Rattle.air_graph.proofs.Adding.{FromTo, add_itself, add_one}
use Rattle.air_graph.proofs.met.add_all.Goals as goal
use Rattle.air_graph.proofs.met.add_all.Goals.{then-y-x+in_ok-add, else-y-x}

pub add-requires-clause-j : goal.add-requires-clause-j
add-requires-clause-j c =
    let lt = c.requires.met (get_or c.args.met.now c.loop-y.y-index 0) (Contains-get_or c.args.met.now c.loop-y.y-index 0 c.loop-y-test.true) in
    let names = c.loop-y.invariant.names in
    omega (arith, lt, names)

pub loop-y-preserved : goal.loop-y-preserved
loop-y-preserved c =
    let n : ℕ = c.args.edges.now.names in
    let k : ℕ = c.loop-y.y-index in
    elim c.if-y-x.branch [
      | then-y-x+in_ok-add w ↦ record {
        names = ap (λ (s : EdgeSet). s.names) w.edges-is ∙ w.add.ensures.names ∙ c.loop-y.invariant.names;
        edges = subst (λ (s : EdgeSet). Adds n c.args.edges.now s (FromTo c.args.x (take (k + 1) c.args.met.now))) (sym w.edges-is)
            (add_one n c.args.edges.now c.loop-y.edges c.args.x c.args.met.now k c.loop-y-test.true c.loop-y.invariant.edges w.add.new.self
            w.if-y-x.true w.in_ok-add.ensures.edges);
      }
      | else-y-x w ↦ record {
        names = ap (λ (s : EdgeSet). s.names) w.edges-is ∙ c.loop-y.invariant.names;
        edges = subst (λ (s : EdgeSet). Adds n c.args.edges.now s (FromTo c.args.x (take (k + 1) c.args.met.now))) (sym w.edges-is)
            (add_itself n c.args.edges.now c.loop-y.edges c.args.x c.args.met.now k c.loop-y-test.true c.loop-y.invariant.edges
            w.if-y-x.false);
      }
    ]
