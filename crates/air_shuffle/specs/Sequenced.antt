-- One list of moves in order that do what moves do at once. What it means is said by its law, so it needs no belief.
use Rattle.std.specs.Prelude.{◌≡◌, ◌≢◌, ℕ, zero, suc, ◌+◌, ◌*◌, ◌≤◌, Bool, ◌&&◌, not, nat_eq, if◌then◌else◌, List, [], ◌∷◌, length, map, All, AllPairs, Option, Some, None}
use Rattle.std.specs.List.{count_by}
use Rattle.b3_ir.specs.declared.value.Reg.{Reg as Register}
use Rattle.air_ir.specs.declared.operand.Home.{Home}
use Rattle.air_ir.specs.declared.operand.Home.TheVariants.{Reg}
use Rattle.air_ir.specs.declared.operand.Arg.{Arg}
use Rattle.air_ir.specs.declared.operand.Arg.TheVariants.{Imm}
use Rattle.air_shuffle.specs.Moves.{DoAtOnce, GoUp, IsMadeOf, IsSource, Move, from_scratch, is_self, reads, saved, writes}
use Rattle.air_shuffle.specs.Pending.{readers}
use Rattle.air_shuffle.specs.Waiting.{left_of}

-- no pending move reads the destination of a move
abbrev pub is_free : List Move → Move → Bool
is_free pending c = nat_eq (readers c.to pending) 0

-- and it writes the home that was read last
abbrev pub is_next : List Move → Arg → Move → Bool
is_next pending last c = reads c.to last && is_free pending c

-- the first move that passes a test, and the others
unfoldable pub first_that : (Move → Bool) → List Move → Option Move
first_that test [] = None
first_that test (c ∷ cs) = if test c then Some c else first_that test cs

unfoldable pub others_than : (Move → Bool) → List Move → List Move
others_than test [] = []
others_than test (c ∷ cs) = if test c then cs else c ∷ others_than test cs

-- what is done next: a move, or the source of one is saved, or all is done
pub data Choice : Type 0 where
  Does : (move : Move) (rest : List Move) → Choice
  Saves : (move : Move) (rest : List Move) → Choice
  Ends : Choice

abbrev pub chosen : Option Move → (Move → Bool) → List Move → Choice → Choice
chosen (Some c) test pending other = Does c (others_than test pending)
chosen None test pending other = other

abbrev pub saves_first : List Move → Choice
saves_first [] = Ends
saves_first (c ∷ cs) = Saves c cs

-- a free move to the home that was read last, or else the first free move; where none is free the source of the first
-- move is saved
abbrev pub choice : Arg → List Move → Choice
choice last pending =
    chosen (first_that (is_next pending last) pending) (is_next pending last) pending
    (chosen (first_that (is_free pending) pending) (is_free pending) pending (saves_first pending))

abbrev pub carried_out : Register → (Arg → List Move → List Move) → Choice → List Move
carried_out scratch more (Does c rest) = c ∷ more c.from rest
carried_out scratch more (Saves c rest) = saved scratch c ∷ more c.from (from_scratch scratch c ∷ rest)
carried_out scratch more Ends = []

-- at most n moves for those that are pending
unfoldable pub ordered : ℕ → Register → Arg → List Move → List Move
ordered zero scratch last pending = []
ordered (suc n) scratch last pending = carried_out scratch (ordered n scratch) (choice last pending)

-- all moves but those from a home to itself
abbrev pub sequenced : Register → List Move → List Move
sequenced scratch ms =
    ordered (2 * length ms) scratch (Imm 0) (left_of ms (map (λ (c : Move). not (is_self c)) ms))

-- moves in order do what others do at once, and are made of them; none is from a home to itself, few are saved, and
-- none where the moves make no cycle
pub record IsSequenceOf (scratch : Register) (ms done : List Move) : Type 0 where
  pub at_once : DoAtOnce scratch ms done
  pub made : All (IsMadeOf scratch ms) done
  pub no_self : count_by is_self done ≡ 0
  pub lengths : length done + count_by is_self ms ≡ length ms + count_by (writes (Reg scratch)) done
  pub straight : (rank : Home → ℕ) → GoUp rank ms → count_by (writes (Reg scratch)) done ≡ 0
  pub few : length done + 2 * count_by is_self ms ≤ 2 * length ms

abbrev pub SequencesAreRight : Type 0
SequencesAreRight = (scratch : Register) (ms : List Move) → All (λ (c : Move). IsSource c.from) ms
    → AllPairs (λ (c d : Move). c.to ≢ d.to) ms → All (λ (c : Move). c.to ≢ Reg scratch) ms
    → IsSequenceOf scratch ms (sequenced scratch ms)
