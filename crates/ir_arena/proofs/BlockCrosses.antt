-- A block may cross threads as its values and its allocator may.
use Rattle.std.specs.Prelude.{ℕ, ◌+◌, List, [], ◌∷◌}
use Rattle.std.specs.Mem.{type_size}
use base.Fraction.{full_share}
use base.Shift.{Keyless}
use denote.RattleType.{RattleType}
use denote.Index.{row}
use denote.RawPtr.{Ptr, block_ptr, null_ptr}
use denote.Slice.{elements_shared}
use denote.Struct.Owning.{shape, fields, to}
use denote.Param.Send.{IsSend, IsSync, Frees, Common, AllSend, part_keyless, owning_send, struct_sync, sendable}
use Rattle.std.specs.declared.alloc.Allocator.{Ghosts}
use Rattle.ir_arena.specs.Block.{block_owns, block_lends}
use Rattle.ir_arena.specs.contracts.raw.Block as Block

module _ (R A : RattleType) (g : Ghosts A.Denot) where
  values-Keyless : IsSend R → (xs : List R.Denot) (b o : ℕ) → Keyless (row R full_share xs b o)
  values-Keyless s [] b o = tt
  values-Keyless s (x ∷ xs) b o = (part_keyless R s full_share x b o, values-Keyless s xs b (o + type_size R))

  owned-Keyless : IsSend R → Frees g g.dealloc_token → (a : A.Denot) (p : Ptr) (xs : List R.Denot) → Keyless (block_owns R (g.dealloc_token a) p xs)
  owned-Keyless s f a null_ptr xs = tt
  owned-Keyless s f a (block_ptr b o) xs = ((tt, tt), ((values-Keyless s xs b o, tt), f.frees a _ (block_ptr b o)))

  values-Common : IsSync R → (xs : List R.Denot) (b o : ℕ) → Common (elements_shared R xs b o)
  values-Common y [] b o κ = tt
  values-Common y (x ∷ xs) b o κ = (y.shared x b o κ, values-Common y xs b (o + type_size R) κ)

  lent-Common : IsSync R → (p : Ptr) (xs : List R.Denot) → Common (block_lends R p xs)
  lent-Common y null_ptr xs κ = tt
  lent-Common y (block_ptr b o) xs κ = ((tt, tt), values-Common y xs b o κ)

  pub Block-send : IsSend R → IsSend A → Frees g g.dealloc_token → IsSend (Block.the_row R A g)
  Block-send s t f =
      let O = Block.the_type R A g in
      let all : AllSend (fields O) = (search sendable, (search sendable, tt)) in
      owning_send O all (λ h. owned-Keyless s f h.alloc h.start h.items) (λ k h w. tt)

  pub Block-sync : IsSync R → IsSync A → IsSync (Block.the_row R A g)
  Block-sync y t =
      let O = Block.the_type R A g in
      record { shared = λ h b o κ. ((struct_sync (shape O) (search sendable, (search sendable, tt))).shared (to O h) b o κ, lent-Common y h.start h.items κ) }
