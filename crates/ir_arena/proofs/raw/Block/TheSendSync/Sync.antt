use denote.RattleType.{RattleType}
use denote.Param.Send.{IsSync}
use Rattle.std.specs.declared.alloc.Allocator.{Ghosts}
use Rattle.ir_arena.proofs.BlockCrosses.{Block-sync}
use Rattle.ir_arena.specs.contracts.raw.Block.{the_row}

pub sync : (R A : RattleType) (g : Ghosts A.Denot) → IsSync R → IsSync A → IsSync (the_row R A g)
sync = Block-sync
