-- Public clauses cite this module by `sequenced` alone, which needs no belief. The moves that are left, by their places
-- among all moves.
use Rattle.std.specs.Prelude.{◌≡◌, ◌≢◌, ℕ, ◌+◌, ◌*◌, ◌-◌, ◌<◌, Bool, false, ◌&&◌, nat_eq, if◌then◌else◌, List, [], ◌∷◌, length, Option, Some, None, slice_index_or, slice_set}
use Rattle.b3_base.specs.declared.word.Width.TheVariants.{W32}
use Rattle.indexmap.specs.IndexMap as map
use Rattle.air_ir.specs.declared.operand.Home.{Home}
use Rattle.air_ir.specs.declared.operand.Home.TheVariants.{Tmp, Reg, Spill}
use Rattle.air_ir.specs.declared.operand.Arg.{Arg}
use Rattle.air_ir.specs.declared.operand.Arg.TheVariants.{At, Imm, Addr, Index, FrameSlot}
use Rattle.air_shuffle.specs.Moves.{IsSource, Move}
use Rattle.air_shuffle.specs.Pending.{readers}
use Rattle.air_shuffle.specs.declared.pending.Pending.{Pending}

-- ---- moves by their places

abbrev pub no_move : Move
no_move = record { from = At (Tmp 0); to = Tmp 0; width = W32 }

abbrev pub move_at : List Move → ℕ → Move
move_at ms k = slice_index_or ms k no_move

-- sources are homes or immediates, and the destinations differ
pub record IsSequenceable (ms : List Move) : Type 0 where
  pub sources : (k : ℕ) → k < length ms → IsSource (move_at ms k).from
  pub differ : (i k : ℕ) → i < length ms → k < length ms → (move_at ms i).to ≡ (move_at ms k).to → i ≡ k

-- the moves that are left
unfoldable pub left_of : List Move → List Bool → List Move
left_of [] bs = []
left_of (c ∷ cs) [] = []
left_of (c ∷ cs) (b ∷ bs) = if b then c ∷ left_of cs bs else left_of cs bs

-- ---- which move writes a home

abbrev pub number_of : Home → ℕ
number_of (Tmp number) = number * 3
number_of (Reg reg) = reg.0 * 3 + 1
number_of (Spill number) = number * 3 + 2

module _ {S : Type 0} where
  abbrev pub writer_of : map.IndexMap ℕ ℕ S → Arg → Option ℕ
  writer_of writers (At home) = map.get nat_eq writers (number_of home)
  writer_of writers (Imm word) = None
  writer_of writers (Addr base offset) = None
  writer_of writers (Index base index shift) = None
  writer_of writers (FrameSlot number) = None

-- one of the first n moves that writes a home, or none of them does
abbrev pub IsWriterBelow : ℕ → List Move → Home → Option ℕ → Type 0
IsWriterBelow n ms h (Some k) = (k < n) × ((move_at ms k).to ≡ h)
IsWriterBelow n ms h None = (k : ℕ) → k < n → (move_at ms k).to ≢ h

abbrev pub AreWritersBelow : {S : Type 0} → ℕ → List Move → map.IndexMap ℕ ℕ S → Type 0
AreWritersBelow n ms writers = (h : Home) → IsWriterBelow n ms h (map.get nat_eq writers (number_of h))

abbrev pub AreWriters : {S : Type 0} → List Move → map.IndexMap ℕ ℕ S → Type 0
AreWriters ms writers = AreWritersBelow (length ms) ms writers

-- ---- counts

abbrev pub count_at : List ℕ → ℕ → ℕ
count_at counts k = slice_index_or counts k 0

-- how many of the moves that are left read the destination of each
pub record AreCounts (ms left : List Move) (counts : List ℕ) : Type 0 where
  pub many : length counts ≡ length ms
  pub are : (k : ℕ) → k < length ms → count_at counts k ≡ readers (move_at ms k).to left

-- one of them becomes another
abbrev pub changed : (ℕ → ℕ) → Option ℕ → List ℕ → List ℕ
changed f (Some k) counts = slice_set counts k (f (count_at counts k))
changed f None counts = counts

abbrev pub raised : Option ℕ → List ℕ → List ℕ
raised w counts = changed (λ n. n + 1) w counts

abbrev pub lowered : Option ℕ → List ℕ → List ℕ
lowered w counts = changed (λ n. n - 1) w counts

-- ---- all of it

-- a move is left, and the destination isn't read
abbrev pub is_free_at : Pending → ℕ → Bool
is_free_at p k = slice_index_or p.left.items k false && nat_eq (count_at p.counts.items k) 0

abbrev pub pending_in : Pending → List Move
pending_in p = left_of p.moves.items p.left.items

abbrev pub is_left_at : Pending → ℕ → Bool
is_left_at p k = slice_index_or p.left.items k false

-- counts and writers are those of the moves
pub record IsCounted (p : Pending) : Type 0 where
  pub many : length p.left.items ≡ length p.moves.items
  pub sound : IsSequenceable p.moves.items
  pub apart : (k : ℕ) → k < length p.moves.items → (move_at p.moves.items k).to ≢ Reg p.scratch
  pub writers : AreWriters p.moves.items p.writers
  pub counts : AreCounts p.moves.items (pending_in p) p.counts.items
