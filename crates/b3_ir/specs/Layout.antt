-- How a procedure is kept in chains. No public clause cites this module.
use Rattle.std.specs.Prelude.{◌≡◌, ℕ, ◌<◌, ◌≤◌, ◌^◌, List, [], Some, length, map, sum_by, slice_get, take}
use Rattle.ir_arena.specs.Chains.{list_at, in_use}
use Rattle.b3_ir.specs.declared.value.Value.{Value}
use Rattle.b3_ir.specs.declared.procedure.Heading.{Heading}
use Rattle.b3_ir.specs.declared.procedure.SlotLine.{SlotLine}
use Rattle.b3_ir.specs.Procedure.{Block, AllFit}

-- the block with the values of its chain
abbrev pub block_of : List (List (ℕ × Value)) → Heading → Block
block_of lists b = record { number = b.number; line = b.line; values = map (λ (e : ℕ × Value). e.1) (list_at lists b.chain) }

-- the ids of its chain
abbrev pub ids_of : List (List (ℕ × Value)) → Heading → List ℕ
ids_of lists b = map (λ (e : ℕ × Value). e.0) (list_at lists b.chain)

-- each block has a chain of its own, and what is in use is in a block
pub record IsKept (lists : List (List (ℕ × Value))) (blocks : List Heading) : Type 0 where
  pub within : (i : ℕ) (b : Heading) → slice_get blocks i ≡ Some b → b.chain < length lists
  pub apart : (i j : ℕ) (b c : Heading) → slice_get blocks i ≡ Some b → slice_get blocks j ≡ Some c → b.chain ≡ c.chain → i ≡ j
  pub counted : in_use lists ≡ sum_by (λ (s : Block). length s.values) (map (block_of lists) blocks)

-- the live blocks are kept so; the others wait with empty chains of their own to be used again, and
-- each chain is a block's
pub record IsHeld (lists : List (List (ℕ × Value))) (all : List Heading) (live : ℕ) : Type 0 where
  pub kept : IsKept lists (take live all)
  pub fits : live ≤ length all
  pub as_many : length lists ≡ length all
  pub within : (i : ℕ) (b : Heading) → slice_get all i ≡ Some b → b.chain < length lists
  pub apart : (i j : ℕ) (b c : Heading) → slice_get all i ≡ Some b → slice_get all j ≡ Some c → b.chain ≡ c.chain → i ≡ j
  pub idle : (i : ℕ) (b : Heading) → live ≤ i → slice_get all i ≡ Some b → list_at lists b.chain ≡ []

-- blocks are held so, 32 bits count them and the slots, and each value fits
pub record IsSound (slots : List SlotLine) (lists : List (List (ℕ × Value))) (all : List Heading) (live : ℕ) : Type 0 where
  pub held : IsHeld lists all live
  pub short : length all < 2 ^ 32
  pub few_slots : length slots < 2 ^ 32
  pub fit : AllFit (map (block_of lists) (take live all))
