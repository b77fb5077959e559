-- What a `Chains` ends as, where a `&mut` to one of its items is returned.
use Rattle.std.specs.Prelude.{ℕ, map}
use Rattle.std.specs.Borrow.{Lends, Fml, RattleType, MutBor}
use Rattle.ir_arena.specs.Chains.{Chains, with_item}
use Rattle.ir_arena.specs.contracts.chains.Chains.{the_row}

-- once the borrow r ends, the node of this id has the last item written through r
abbrev pub lends_item : (T : RattleType) → MutBor (Chains T.Denot) → ℕ → MutBor T.Denot → Fml
lends_item T s id r =
    Lends (the_row T) T s r (λ item. record s.now { lists = map (with_item id item) s.now.lists })
