-- What a site meets of the procedures of a text.
use Rattle.std.specs.Prelude.{◌≡◌, ℕ, ◌+◌, Bool, nat_lt, if◌then◌else◌, List, [], ◌∷◌, map}
use Rattle.b3_base.specs.declared.range.Range.{Range}
use Rattle.exit_table.specs.declared.tables.FrameRow.{FrameRow}
use Rattle.exit_table.specs.Good.{AreSizes, Span, spans_of}
use Rattle.exit_table.specs.FrameReading.{is_clear}

-- ranges follow each other without gaps from a byte of the text on
abbrev pub AreJoined : ℕ → List Range → Type 0
AreJoined start [] = Unit {0}
AreJoined start (extent ∷ rest) = (extent.first ≡ start) × AreJoined (start + extent.len) rest

-- how many bytes the procedures have
abbrev pub lengths_of : List Range → List ℕ
lengths_of extents = map (λ extent. extent.len) extents

-- the bytes of the text that its procedures have, in order
pub record AreExtents (extents : List Range) : Type 0 where
  pub joined : AreJoined 0 extents
  pub sizes : AreSizes (lengths_of extents)

-- a procedure: where it ends in the text, the bytes of its frame, and which of them are not taken
pub record Room : Type 0 where
  pub end : ℕ
  pub bytes : ℕ
  pub clear : Span → Bool

abbrev pub room : Range → FrameRow → Room
room extent frame = record { end = extent.first + extent.len; bytes = frame.bytes; clear = is_clear (spans_of frame) }

abbrev pub rooms_of : List Range → List FrameRow → List Room
rooms_of [] frames = []
rooms_of (extent ∷ extents) [] = []
rooms_of (extent ∷ extents) (frame ∷ frames) = room extent frame ∷ rooms_of extents frames

-- behind the text there is no room
abbrev pub nowhere : Room
nowhere = record { end = 0; bytes = 0; clear = is_clear [] }

-- the procedure of a byte of the text: the first that ends above it
abbrev pub room_at : List Room → ℕ → Room
room_at [] pc = nowhere
room_at (room ∷ rooms) pc = if nat_lt pc room.end then room else room_at rooms pc
