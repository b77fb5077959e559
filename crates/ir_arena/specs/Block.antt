-- What a block of 64 places owns and lends, at values of the row R.
use Rattle.std.specs.Prelude.{ℕ, ◌+◌, ◌-◌, ◌*◌, ◌^◌, ◌<◌, List, length}
use Rattle.std.specs.Mem.{type_size}
use base.Fraction.{full_share}
use base.Fml.{Lft, Fml, ffalse, fsep, flt, froom}
use mir.Syntax.{Ty, ty_array}
use mir.Raw.{raw}
use denote.RattleType.{RattleType}
use denote.Memory.{lone}
use denote.Index.{row}
use denote.Slice.{elements_shared}
use denote.Sharing.{said, beside}
use denote.RawPtr.{Ptr, block_ptr, null_ptr}

module _ (R : RattleType) where
  -- 64 values take fewer than 2 ^ 63 bytes
  abbrev pub FitsBlock : Type 0
  FitsBlock = 64 * type_size R < 2 ^ 63

  -- that is so, and there are at most 64 values
  abbrev pub in_bounds : List R.Denot → Fml
  in_bounds xs = fsep (flt (64 * type_size R) (2 ^ 63)) (flt (length xs) 65)

  -- room for n values
  abbrev pub room_of : ℕ → Ty
  room_of n = raw (ty_array (lone R.mir) n)

  -- the values side by side, and the room after them
  abbrev pub places : ℕ → ℕ → List R.Denot → Fml
  places b o xs = fsep (row R full_share xs b o) (froom (room_of (64 - length xs)) b (length xs * type_size R + o))

  -- the places, and the right to free them
  abbrev pub block_owns : (Ty → Ptr → Fml) → Ptr → List R.Denot → Fml
  block_owns token null_ptr xs = ffalse
  block_owns token (block_ptr b o) xs = fsep (in_bounds xs) (fsep (places b o xs) (token (room_of 64) (block_ptr b o)))

  -- the values alone
  abbrev pub block_lends : Ptr → List R.Denot → Lft → Fml
  block_lends null_ptr xs = said ffalse
  block_lends (block_ptr b o) xs = beside (said (in_bounds xs)) (elements_shared R xs b o)
