use denote.RattleType.{RattleType}
use denote.Param.Send.{IsSend, Frees}
use Rattle.std.specs.declared.alloc.Allocator.{Ghosts}
use Rattle.ir_arena.proofs.BlockCrosses.{Block-send}
use Rattle.ir_arena.specs.contracts.raw.Block.{the_row}

pub send : (R A : RattleType) (g : Ghosts A.Denot) → IsSend R → IsSend A → Frees g g.dealloc_token → IsSend (the_row R A g)
send = Block-send
