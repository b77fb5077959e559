use Rattle.std.proofs.Common.{◌<◌, length, refl, ◌∙◌, arith}
use Rattle.ir_arena.proofs.ChunkLemmas.{length-joined, chunk_of, joined}
use Rattle.ir_arena.proofs.nodes.Nodes.node_mut.Goals as goal

pub index_mut-requires : goal.index_mut-requires
index_mut-requires g c =
    let all = length-joined c.self.inside.chunks.items c.self.invariant.0 in
    let below : c.args.id < length (joined c.self.inside.chunks.items) = rw c.self.view_is c.requires in
    omega arith

pub node_mut-requires : goal.node_mut-requires
node_mut-requires g c =
    let below : c.args.id < length (joined c.self.inside.chunks.items) = rw c.self.view_is c.requires in
    let of = chunk_of c.self.inside.chunks.items c.self.invariant.0 c.args.id c.index_mut.result.now below c.index_mut.ensures.value in
    let full = of.full in
    omega arith

pub returns : goal.returns
returns g c =
    let below : c.args.id < length (joined c.self.inside.chunks.items) = rw c.self.view_is c.requires in
    let of = chunk_of c.self.inside.chunks.items c.self.invariant.0 c.args.id c.index_mut.result.now below c.index_mut.ensures.value in (
      (refl, λ w. rw (← c.self.view_is) (of.sets w)),
      record { lends = tt; value = rw (← c.self.view_is) (of.gets ∙ c.node_mut.ensures.value) },
    )
