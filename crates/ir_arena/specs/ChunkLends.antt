-- What a `Chunk` and the nodes end as, where a `&mut` to a node is returned.
use Rattle.std.specs.Prelude.{ℕ, List, slice_set}
use Rattle.std.specs.Borrow.{Lends, Fml, RattleType, MutBor}
use Rattle.ir_arena.specs.declared.node.Node.{Node}
use Rattle.ir_arena.specs.contracts.node.Node.{the_row as node_row}
use Rattle.ir_arena.specs.contracts.chunk.Chunk.{the_row}

-- once the borrow r ends, the place has the last node written through r
abbrev pub lends_node : (T : RattleType) → MutBor (List (Node T.Denot)) → ℕ → MutBor (Node T.Denot) → Fml
lends_node T s at r = Lends (the_row T) (node_row T) s r (slice_set s.now at)
