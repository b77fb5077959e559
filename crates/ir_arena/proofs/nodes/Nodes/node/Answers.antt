use Rattle.std.proofs.Common.{◌<◌, length, ◌∙◌, arith}
use Rattle.ir_arena.proofs.ChunkLemmas.{length-joined, chunk_of, joined}
use Rattle.ir_arena.proofs.nodes.Nodes.node.Goals as goal

pub index-requires : goal.index-requires
index-requires g c =
    let all = length-joined c.self.inside.chunks.items c.self.invariant.0 in
    let below : c.args.id < length (joined c.self.inside.chunks.items) = rw c.self.view_is c.requires in
    omega arith

pub node-requires : goal.node-requires
node-requires g c =
    let below : c.args.id < length (joined c.self.inside.chunks.items) = rw c.self.view_is c.requires in
    let of = chunk_of c.self.inside.chunks.items c.self.invariant.0 c.args.id c.index.result.now below c.index.ensures in
    let full = of.full in
    omega arith

pub returns : goal.returns
returns g c =
    let below : c.args.id < length (joined c.self.inside.chunks.items) = rw c.self.view_is c.requires in
    let of = chunk_of c.self.inside.chunks.items c.self.invariant.0 c.args.id c.index.result.now below c.index.ensures in
    rw (← c.self.view_is) (of.gets ∙ c.node.ensures)
