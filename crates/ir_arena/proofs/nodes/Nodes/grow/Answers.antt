use Rattle.std.proofs.Common.{◌≡◌, ◌<◌, ◌^◌, length, ap, ◌∙◌, arith}
use Rattle.std.proofs.lemmas.List.{length_push}
use Rattle.ir_arena.proofs.Free.{length-free_nodes}
use Rattle.ir_arena.proofs.ChunkLemmas.{length-joined, joined, AllFull-push}
use Rattle.ir_arena.proofs.nodes.Nodes.grow.Goals as goal

pub free_chunk-requires : goal.free_chunk-requires
free_chunk-requires g c =
    let all = length-joined c.self.inside.chunks.items c.self.invariant.0 in
    let below : length (joined c.self.inside.chunks.items) < 2 ^ 32 = rw c.self.view_is c.requires in
    let len : c.len-start.result ≡ length (joined c.self.inside.chunks.items) = rw c.self.view_is c.len-start.ensures.len in
    omega arith

pub invariant_of-self-2 : goal.invariant_of-self-2
invariant_of-self-2 g c =
    let all = length-joined c.self.inside.chunks.items c.self.invariant.0 in
    let below : length (joined c.self.inside.chunks.items) < 2 ^ 32 = rw c.self.view_is c.requires in
    let full : length c.in_ok-chunk.chunk ≡ 64 = ap length c.in_ok-chunk.ensures.chunk ∙ length-free_nodes g.row.T.Denot c.len-start.result c.args.free 64 in
    let push = length_push c.self.inside.chunks.items c.in_ok-chunk.chunk in
    rw (c.push_reserved.ensures.items, c.reserve.ensures.items) (AllFull-push c.self.inside.chunks.items c.in_ok-chunk.chunk c.self.invariant.0 full, omega arith)

pub returns-clause-small : goal.returns-clause-small
returns-clause-small g c =
    let both = invariant_of-self-2 g c in
    let all = length-joined c.push_reserved.new.self.items both.0 in
    let few = both.1 in
    omega arith
