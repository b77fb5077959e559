-- Moves carried out one after the other, and all at once by a Shuffle.
use Rattle.std.specs.Prelude.{◌≡◌, ◌≢◌, ◌<◌, ℕ, Bool, true, false, List, [], ◌∷◌, ◌⊎◌, map, Contains}
use Rattle.b3_base.specs.Observed.{Start}
use Rattle.b3_ir.specs.declared.value.Reg.{Reg as Register}
use Rattle.air_ir.specs.Meaning.{meaning}
use Rattle.air_ir.specs.Operands.{same_home}
use Rattle.air_ir.specs.Related.{Alike, Refines}
use Rattle.air_ir.specs.Steps.{State, step, steps}
use Rattle.air_ir.specs.declared.op.AirOp.TheVariants as op
use Rattle.air_ir.specs.declared.operand.Home.{Home}
use Rattle.air_ir.specs.declared.operand.Home.TheVariants.{Reg}
use Rattle.air_ir.specs.declared.operand.Arg.{Arg}
use Rattle.air_ir.specs.declared.operand.Arg.TheVariants.{At, Imm, Addr, Index, FrameSlot}
use Rattle.air_ir.specs.declared.operand.Role.TheVariants.{Use, Def}
use Rattle.air_ir.specs.declared.operand.Operand.{Operand}
use Rattle.air_ir.specs.declared.procedure.AirInst.{AirInst}
pub use Rattle.air_shuffle.specs.declared.moves.Move.{Move}

-- what a move may take its word from: a home or an immediate
abbrev pub IsSource : Arg → Type 0
IsSource (At home) = Unit {0}
IsSource (Imm word) = Unit {0}
IsSource _ = ⊥

-- whether an argument is the word of a home
abbrev pub reads : Home → Arg → Bool
reads h (At home) = same_home home h
reads h (Imm word) = false
reads h (Addr base offset) = false
reads h (Index base index shift) = false
reads h (FrameSlot number) = false

-- from a home to itself
abbrev pub is_self : Move → Bool
is_self c = reads c.to c.from

-- homes have ranks, and each move but those from a home to itself goes up: then the moves make no cycle
abbrev pub GoUp : (Home → ℕ) → List Move → Type 0
GoUp rank cs = (c : Move) → Contains cs c → is_self c ≡ false → (h : Home) → c.from ≡ At h → rank h < rank c.to

-- to this home
abbrev pub writes : Home → Move → Bool
writes h c = same_home c.to h

-- a move in two parts: its word is saved in the scratch, and is taken from there
abbrev pub saved : Register → Move → Move
saved scratch c = record { from = c.from; to = Reg scratch; width = c.width }

abbrev pub from_scratch : Register → Move → Move
from_scratch scratch c = record { from = At (Reg scratch); to = c.to; width = c.width }

-- a move is one of the given ones, whole, or one of its two parts
pub record IsMadeOf (scratch : Register) (cs : List Move) (c : Move) : Type 0 where
  pub given : Move
  pub has : Contains cs given
  pub is : (c ≡ given) ⊎ ((c ≡ saved scratch given) ⊎ (c ≡ from_scratch scratch given))

-- moves as operands: pairs of a source and a destination
unfoldable pub pairs : List Move → List Operand
pairs [] = []
pairs (c ∷ cs) =
    record { role = Use; width = c.width; arg = c.from } ∷ record { role = Def; width = c.width; arg = At c.to }
    ∷ pairs cs

-- all of them at once, and one of them, made for a value
abbrev pub shuffle_of : ℕ → Bool → List Move → AirInst
shuffle_of value traps cs = record { op = op.Shuffle; operands = pairs cs; value = value; traps = traps }

abbrev pub move_of : ℕ → Bool → Move → AirInst
move_of value traps c = record { op = op.Move; operands = pairs (c ∷ []); value = value; traps = traps }

-- what some moves leave at once, and what others leave one after the other: the same in each home but the scratch,
-- and where a home is moved to itself, what stood there, of which no less can be read
pub record IsLeftAlike (scratch : Register) (cs : List Move) (s t : State) : Type 0 where
  pub homes : (h : Home) → h ≢ Reg scratch → Refines (s.homes h) (t.homes h)
  pub same : (h : Home) → h ≢ Reg scratch → ((c : Move) → Contains cs c → is_self c ≡ true → h ≢ c.to)
      → t.homes h ≡ s.homes h
  pub world : s.world ≡ t.world

-- some moves carried out in order do what others do at once: wherever the Shuffle of these is defined, the Moves
-- of those leave the same, but for the scratch
abbrev pub DoAtOnce : Register → List Move → List Move → Type 0
DoAtOnce scratch cs done =
    (start : Start) (value : ℕ) (traps : Bool) (s : State) (junk : List ℕ)
    → Alike (IsLeftAlike scratch cs) (step (meaning start) (shuffle_of value traps cs) s junk)
    (steps (meaning start) (map (move_of value traps) done) s junk)
