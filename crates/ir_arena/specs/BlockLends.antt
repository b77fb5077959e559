-- What a block ends as, once the loan of a value has ended.
use Rattle.std.specs.Prelude.{ℕ, slice_set}
use Rattle.std.specs.Borrow.{Fml, RattleType, MutBor, Lends}
use Rattle.std.specs.declared.alloc.Allocator.{Ghosts}
use Rattle.ir_arena.specs.declared.raw.Block.{Block}
use Rattle.ir_arena.specs.contracts.raw.Block.{the_row}

module _ (R A : RattleType) (g : Ghosts A.Denot) where
  -- the block, with another value at a place
  abbrev pub with_item : Block R.Denot A.Denot → ℕ → R.Denot → Block R.Denot A.Denot
  with_item block at x = record { start = block.start; by = block.by; alloc = block.alloc; items = slice_set block.items at x }

  abbrev pub lends_item : MutBor (Block R.Denot A.Denot) → ℕ → MutBor R.Denot → Fml
  lends_item block at r = Lends (the_row R A g) R block r (with_item block.now at)
