-- The rules of a valid module, one predicate each. An id names the first value of the procedure that has it,
-- and a number the first block that has it.
use Rattle.std.specs.Prelude.{◌≡◌, ◌≢◌, ℕ, ◌+◌, ◌-◌, ◌^◌, ◌<◌, ◌≤◌, ◌⊎◌, Bool, true, List, [], ◌∷◌, length, map, Option, Some, None, slice_get, All, AllPairs}
use Rattle.b3_base.specs.Arithmetic.{low}
use Rattle.b3_ir.specs.Naming.{all_values, type_of, value_named}
use Rattle.b3_ir.specs.Procedure.{Block, Procedure, StandsAt, values_of}
use Rattle.b3_ir.specs.Types.{allows_types, width_of}
use Rattle.b3_ir.specs.declared.opcode.Opcode.{Opcode}
use Rattle.b3_ir.specs.declared.opcode.Opcode.TheVariants.{ArgumentReg, CCall, Patchpoint, Phi, Return}
use Rattle.b3_ir.specs.declared.opcode.Ty.{Ty}
use Rattle.b3_ir.specs.declared.opcode.Ty.TheVariants.{Void, Int32}
use Rattle.b3_ir.specs.declared.procedure.SlotLine.{SlotLine}
use Rattle.b3_ir.specs.declared.value.Body.{Body}
use Rattle.b3_ir.specs.declared.value.Body.TheVariants.{Argument, Cases, Slot, Target}
use Rattle.b3_ir.specs.declared.value.Stackmap.{Stackmap}
use Rattle.b3_ir.specs.declared.value.Value.{Value}
use Rattle.stackmap.specs.Registers.{has_result, stackmap_in}
use Rattle.b3_rules.specs.Paths.{IsCoveredAt, successors_in}

-- ---- names, numbers and ids

-- no procedure that stands before has the name
abbrev pub HasNewName : List Procedure → ℕ → Procedure → Type 0
HasNewName ps k p = (j : ℕ) (q : Procedure) → slice_get ps j ≡ Some q → j < k → q.name ≢ p.name

-- a slot has its place as its number, and a byte or more
abbrev pub IsSlotAt : ℕ → SlotLine → Type 0
IsSlotAt place slot = (slot.number ≡ place) × (0 < slot.bytes)

-- one place comes before another: in an earlier block, or earlier in the block
abbrev pub IsEarlier : ℕ → ℕ → ℕ → ℕ → Type 0
IsEarlier c m b j = (c < b) ⊎ ((c ≡ b) × (m < j))

-- no value that stands before has the id
abbrev pub HasNewId : Procedure → ℕ → ℕ → Value → Type 0
HasNewId p b j v = (c m : ℕ) (w : Value) → StandsAt p c m w → IsEarlier c m b j → w.id ≢ v.id

-- ---- ends of blocks

-- the value at this place is the last of its block
abbrev pub IsLast : Procedure → ℕ → ℕ → Type 0
IsLast p b j = j + 1 ≡ length (values_of p b)

-- ---- what a value names

-- an id is one of a value
abbrev pub IsId : Procedure → ℕ → Type 0
IsId p id = (v : Value) × (value_named p id ≡ Some v)

-- so is that of the Phi that a body names
abbrev pub NamesId : Procedure → Body → Type 0
NamesId p (Target phi) = IsId p phi
NamesId p _ = Unit {0}

abbrev pub KnowsIds : Procedure → Value → Type 0
KnowsIds p v = All (IsId p) v.children × NamesId p v.body

-- the types of a value's children
abbrev pub types_of : Procedure → Value → List Ty
types_of p v = map (type_of p) v.children

-- the opcode's row allows the value's type and its children's
abbrev pub IsTyped : Procedure → Value → Type 0
IsTyped p v = allows_types v.kind.opcode v.ty (types_of p v) ≡ true

-- what an Upsilon names is a Phi of the type of its child
abbrev pub IsPhiOf : Procedure → ℕ → List Ty → Type 0
IsPhiOf p id types =
    (phi : Value) × (value_named p id ≡ Some phi) × (phi.kind.opcode ≡ Phi) × (types ≡ phi.ty ∷ [])

abbrev pub SuitsPhi : Procedure → List Ty → Body → Type 0
SuitsPhi p types (Target phi) = IsPhiOf p phi types
SuitsPhi p types _ = Unit {0}

-- what a SlotBase names is the number of a slot
abbrev pub HasSlot : Procedure → ℕ → Type 0
HasSlot p number = (k : ℕ) × (slot : SlotLine) × (slice_get p.slots k ≡ Some slot) × (slot.number ≡ number)

abbrev pub KnowsSlot : Procedure → Body → Type 0
KnowsSlot p (Slot number) = HasSlot p number
KnowsSlot p _ = Unit {0}

-- a number is that of a block
abbrev pub IsBlockNumber : Procedure → ℕ → Type 0
IsBlockNumber p number =
    (k : ℕ) × (block : Block) × (slice_get p.blocks k ≡ Some block) × (block.number ≡ number)

abbrev pub KnowsBlocks : Procedure → Value → Type 0
KnowsBlocks p v = All (IsBlockNumber p) (successors_in v.body)

-- ---- Switch

-- the type of the first of some children
abbrev pub first_type : List Ty → Ty
first_type [] = Void
first_type (ty ∷ types) = ty

-- a case of an Int32, as a word of 64 bits taken signed, is from -2^31 to 2^32 - 1
abbrev pub IsCaseOf : Ty → ℕ → Type 0
IsCaseOf Int32 word = (word < 2 ^ 32) ⊎ (2 ^ 64 - 2 ^ 31 ≤ word)
IsCaseOf _ word = Unit {0}

-- two cases differ in a type's width
abbrev pub DifferAt : Ty → ℕ → ℕ → Type 0
DifferAt ty a b = low (width_of ty) a ≢ low (width_of ty) b

abbrev pub AreCasesOf : Ty → Body → Type 0
AreCasesOf ty (Cases cases targets) = AllPairs (DifferAt ty) cases × All (IsCaseOf ty) cases
AreCasesOf ty _ = Unit {0}

-- ---- Returns and arguments

-- the first of some values that is a Return
abbrev pub if_return : Opcode → Value → Option Value → Option Value
if_return Return v others = Some v
if_return _ v others = others

abbrev pub first_return : List Value → Option Value
first_return [] = None
first_return (v ∷ vs) = if_return v.kind.opcode v (first_return vs)

-- a Return has a child where the first Return of the procedure has one, and of its type
abbrev pub ReturnsAlike : Procedure → Value → Type 0
ReturnsAlike p v =
    v.kind.opcode ≡ Return → (w : Value) → first_return (all_values p) ≡ Some w → types_of p v ≡ types_of p w

-- a register that carries an argument: x0 to x7 (AAPCS64, 6.4.2)
abbrev pub IsArgumentIn : Body → Type 0
IsArgumentIn (Argument reg) = reg.0 ≤ 7
IsArgumentIn _ = Unit {0}

-- an ArgumentReg stands in block 0
abbrev pub IsArgumentAt : ℕ → Value → Type 0
IsArgumentAt b v = v.kind.opcode ≡ ArgumentReg → (b ≡ 0) × IsArgumentIn v.body

-- ---- sites

-- something holds of the stackmap of a value, where it has one, and of whether its site has a result
abbrev pub OfStackmap : (Bool → Stackmap → Type 0) → Value → Type 0
OfStackmap holds v = (map : Stackmap) → stackmap_in v.body ≡ Some map → holds (has_result v) map

-- a call has at most 8 arguments beside its callee, and a Patchpoint 1 to 64 words
abbrev pub HasSize : Stackmap → Type 0
HasSize map = (1 ≤ map.size) × (map.size ≤ 64)

abbrev pub HasSizes : Value → Type 0
HasSizes v =
    (v.kind.opcode ≡ CCall → length v.children ≤ 9)
    × (v.kind.opcode ≡ Patchpoint → (map : Stackmap) → stackmap_in v.body ≡ Some map → HasSize map)

-- ---- uses

-- each path to a use runs the definition first
abbrev pub CoversUses : Procedure → ℕ → ℕ → Value → Type 0
CoversUses p b j v = All (IsCoveredAt p b j) v.children
