-- What the nodes end as, where a `&mut` to one of them is returned.
use Rattle.std.specs.Prelude.{ℕ, List, slice_set}
use Rattle.std.specs.Borrow.{Lends, Fml, RattleType, MutBor}
use Rattle.ir_arena.specs.declared.node.Node.{Node}
use Rattle.ir_arena.specs.contracts.node.Node.{the_row as node_row}
use Rattle.ir_arena.specs.contracts.nodes.Nodes.{the_row}

-- once the borrow r ends, the node of this id is the last one written through r
abbrev pub lends_node : (T : RattleType) → MutBor (List (Node T.Denot)) → ℕ → MutBor (Node T.Denot) → Fml
lends_node T s id r = Lends (the_row T) (node_row T) s r (slice_set s.now id)
