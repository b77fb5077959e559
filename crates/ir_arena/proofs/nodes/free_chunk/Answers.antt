use Rattle.std.proofs.Common.{◌≡◌, ℕ, refl, sym, ap, ◌∙◌, arith, add-one}
use Rattle.ir_arena.specs.Layout.{free_nodes}
use Rattle.ir_arena.proofs.Free.{length-free_nodes, free_nodes-none, free_nodes-push}
use Rattle.ir_arena.proofs.nodes.free_chunk.Goals as goal

pub loop-i-init : goal.loop-i-init
loop-i-init g c = record {
  chunk = c.in_ok-chunk.ensures ∙ sym (free_nodes-none c.args.start c.args.free);
  first = refl;
  in_range = omega arith;
}

pub push-requires : goal.push-requires
push-requires g c =
    let count = length-free_nodes g.row.T.Denot c.args.start c.args.free c.loop-i.i in
    rw c.loop-i.invariant.chunk (omega arith)

pub loop-i-preserved : goal.loop-i-preserved
loop-i-preserved g c = record {
  chunk = c.push.ensures ∙ free_nodes-push c.args.start c.args.free c.loop-i.i c.loop-i.first c.loop-i.chunk c.loop-i.invariant.chunk c.loop-i.invariant.first;
  first = rw add-one refl;
  in_range = omega arith;
}

pub returns-clause-chunk : goal.returns-clause-chunk
returns-clause-chunk g c =
    let all : c.loop-i.i ≡ 64 = omega arith in
    c.loop-i.invariant.chunk ∙ ap (λ (n : ℕ). free_nodes c.args.start c.args.free n) all
