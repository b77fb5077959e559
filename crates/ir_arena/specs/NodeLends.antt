-- What a node ends as, where a `&mut` to its item is returned.
use Rattle.std.specs.Prelude.{Some}
use Rattle.std.specs.Borrow.{Lends, Fml, RattleType, MutBor}
use Rattle.ir_arena.specs.declared.node.Node.{Node}
use Rattle.ir_arena.specs.contracts.node.Node.{the_row}

-- once the borrow r ends, the node has the last item written through r
abbrev pub lends_item : (T : RattleType) → MutBor (Node T.Denot) → MutBor T.Denot → Fml
lends_item T s r = Lends (the_row T) T s r (λ item. record s.now { item = Some item })
