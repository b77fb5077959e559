-- A `&` to a block reaches each of its values, and neither the room nor the right to free it. Assumes `Logic`.
use mathlib.Core.List.{[], ◌++◌}
use base.Fml.{Incl-trans}
use contract.BorrowLft.{meet_⊑_left}
use denote.RattleType.{RattleType}
use denote.Param.Laws.{Laws}
use denote.Param.Shared.{copy_shared}
use denote.Shares.{Shares-less}
use denote.Struct.Field.{RawPtr-field}
use denote.Struct.Laws.{RawPtr-copy, field_copy}
use denote.Struct.Lending.{of_Lends}
use Rattle.std.specs.declared.alloc.Allocator.{Ghosts}
use Rattle.std.specs.contracts.marker.PhantomData as phantom
use Rattle.ir_arena.specs.contracts.raw.Block as Block
use Rattle.ir_arena.proofs.raw.Block.TheLaw.Statement.{statement}
use Rattle.ir_arena.proofs.Lending.{block_lends_laws, lend_block}

pub shares : (R A : RattleType) (g : Ghosts A.Denot) (L : Laws R) (K : Laws A) → statement R A g L K
shares R A g L K =
    of_Lends (Block.struct R A g) (Block.the_codes R.Denot A.Denot R.coded A.coded (phantom.the_row A).coded) (Block.the_heap R A g) (Block.the_lent R A g)
    (λ block p. block_lends_laws R L.shr_laws block.start block.items)
    (copy_shared RawPtr-field RawPtr-copy, (copy_shared (phantom.the_field A) (field_copy (phantom.the_type A) tt), tt))
    (λ M 𝓤 𝓛 block p.
    let l = (Block.the_row R A g).lives in
    let inside = Incl-trans (meet_⊑_left (R.lives ++ (A.lives ++ [])) _) (meet_⊑_left R.lives (A.lives ++ [])) in
    lend_block 𝓛 R l (Shares-less 𝓛 R R.lives l inside (L.shares 𝓛)) (g.dealloc_token block.alloc) block.start block.items)
