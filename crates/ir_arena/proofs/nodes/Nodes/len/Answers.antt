use Rattle.std.proofs.Common.{arith}
use Rattle.ir_arena.proofs.ChunkLemmas.{length-joined}
use Rattle.ir_arena.proofs.nodes.Nodes.len.Goals as goal

pub returns-clause-len : goal.returns-clause-len
returns-clause-len g c =
    let all = length-joined c.self.inside.chunks.items c.self.invariant.0 in
    rw (← c.self.view_is) (omega arith)
