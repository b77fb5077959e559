-- A loan of a block lends its values. Assumes `Logic`.
use Rattle.std.specs.Prelude.{List, [], ◌∷◌, ℕ, ◌+◌, ◌-◌, ◌*◌, length}
use Rattle.std.specs.Mem.{type_size}
use seplogic.Ra.Ura.{Ura}
use base.Fraction.{full_share}
use base.Fml.{Lft, Fml, ftrue, ffalse, fsep, froom}
use mir.Syntax.{Ty}
use types.Logic.{Logic}
use denote.RattleType.{RattleType, RowLaws}
use denote.Memory.{part_at, shared_of}
use denote.Index.{row}
use denote.Slice.{elements_shared, elements_shr_laws}
use denote.Sharing.{ShrLaws, said}
use denote.SharingLaws.{beside_shr_laws, said_shr_laws}
use denote.Shares.{Shares}
use denote.RawPtr.{Ptr, block_ptr, null_ptr}
use denote.Struct.Lending.{Lends, Lends-both, Lends-first, Lends-false, Lends-nothing, Lends-said}
use Rattle.ir_arena.specs.Block.{in_bounds, room_of, block_owns, block_lends}

pub block_lends_laws : (R : RattleType) → RowLaws R → (p : Ptr) (xs : List R.Denot) → ShrLaws (block_lends R p xs)
block_lends_laws R L null_ptr xs = said_shr_laws ffalse tt
block_lends_laws R L (block_ptr b o) xs = beside_shr_laws (said (in_bounds R xs)) (elements_shared R xs b o) (said_shr_laws (in_bounds R xs) (tt, tt)) (elements_shr_laws R L xs b o)

module _ {M : Type 1} {𝓤 : Ura M} (𝓛 : Logic 𝓤) (R : RattleType) (l : Lft) (one : Shares 𝓛 R l) where
  lend_values : (xs : List R.Denot) (b o : ℕ) → Lends 𝓛 (row R full_share xs b o) (elements_shared R xs b o) l
  lend_values [] b o = Lends-nothing 𝓛 ftrue l
  lend_values (x ∷ xs) b o =
      let next = o + type_size R in
      let first : Lends 𝓛 (part_at R full_share x b o) (shared_of R x b o) l = λ κ ts. one x κ ts b o in
      Lends-both 𝓛 (part_at R full_share x b o) (row R full_share xs b next) (shared_of R x b o) (elements_shared R xs b next) l first (lend_values xs b next)

  pub lend_block : (token : Ty → Ptr → Fml) (p : Ptr) (xs : List R.Denot) → Lends 𝓛 (block_owns R token p xs) (block_lends R p xs) l
  lend_block token null_ptr xs = Lends-false 𝓛 (said ffalse) l
  lend_block token (block_ptr b o) xs =
      let values : Lft → Fml = elements_shared R xs b o in
      let held : Fml = row R full_share xs b o in
      let room : Fml = froom (room_of R (64 - length xs)) b (length xs * type_size R + o) in
      let free : Fml = token (room_of R 64) (block_ptr b o) in
      let lent : Lends 𝓛 (fsep (fsep held room) free) values l = Lends-first 𝓛 (fsep held room) free values l (Lends-first 𝓛 held room values l (lend_values xs b o)) in
      Lends-both 𝓛 (in_bounds R xs) (fsep (fsep held room) free) (said (in_bounds R xs)) values l (Lends-said 𝓛 (in_bounds R xs) (tt, tt) l) lent
