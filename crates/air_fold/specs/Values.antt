-- What is known of the values of a procedure, by their ids.
use Rattle.std.specs.Prelude.{ℕ, ℤ, pos, suc, List, [], ◌∷◌, ◌++◌, map, slice_index_or}
use Rattle.b3_base.specs.declared.word.Width.{Width}
use Rattle.b3_ir.specs.Naming.{all_values}
use Rattle.b3_ir.specs.Procedure.{Block, Procedure, place_among}
use Rattle.b3_ir.specs.Types as types
use Rattle.b3_ir.specs.declared.opcode.Opcode.TheVariants.{Nop}
use Rattle.b3_ir.specs.declared.opcode.Ty.TheVariants.{Void}
use Rattle.b3_ir.specs.declared.value.Body.{Body}
use Rattle.b3_ir.specs.declared.value.Body.TheVariants.{Constant, Offset}
use Rattle.b3_ir.specs.declared.value.Value.{Value}
use Rattle.air_fold.specs.declared.known.Known.{Known}

-- ---- what is known of a value by its id

-- the word of a constant
abbrev pub word_in : Body → ℕ
word_in (Constant word) = word
word_in _ = 0

-- the offset of an access, in bytes
abbrev pub offset_in : Body → ℤ
offset_in (Offset offset) = offset
offset_in _ = pos 0

-- a child of a value, 0 where it has none at this place
abbrev pub child : List ℕ → ℕ → ℕ
child children at = slice_index_or children at 0

-- what is known of a value in a block
abbrev pub known_in : ℕ → Value → Known
known_in block v = record {
  ty = v.ty;
  opcode = v.kind.opcode;
  block = block;
  word = word_in v.body;
  first = child v.children 0;
  second = child v.children 1;
  offset = offset_in v.body;
}

-- what is known of the values of blocks, the first of which has this number
abbrev pub known_from : ℕ → List Block → List Known
known_from block [] = []
known_from block (b ∷ bs) = map (known_in block) b.values ++ known_from (suc block) bs

-- what is known where an id names no value
abbrev pub unknown : Known
unknown = record { ty = Void; opcode = Nop; block = 0; word = 0; first = 0; second = 0; offset = pos 0 }

-- the ids of all values, in order, and beside each what is known of its value
pub record Index : Type 0 where
  pub ids : List ℕ
  pub known : List Known

abbrev pub ids_of : Procedure → List ℕ
ids_of p = map (λ (v : Value). v.id) (all_values p)

abbrev pub index_of : Procedure → Index
index_of p = record { ids = ids_of p; known = known_from 0 p.blocks }

-- the place of the value that an id names: how many values stand before the first that has the id
abbrev pub place : Index → ℕ → ℕ
place x id = place_among x.ids id

abbrev pub known : Index → ℕ → Known
known x id = slice_index_or x.known (place x id) unknown

abbrev pub width_at : Index → ℕ → Width
width_at x id = types.width_of (known x id).ty
