-- What is looked up of the values of a procedure. No public clause cites this module.
use Rattle.std.specs.Prelude.{◌≡◌, ℕ, ◌↔◌, ◌<◌, nat_eq, Bool, true, false, IsTrue, List, Option, Some, None, slice_get}
use Rattle.indexmap.specs.IndexMap as map
use Rattle.indexmap.specs.IndexSet as set
use Rattle.b3_ir.specs.Procedure.{Block, Kept, Procedure, StandsAt, IsAt}
use Rattle.b3_ir.specs.declared.opcode.Opcode.{Opcode}
use Rattle.b3_ir.specs.declared.opcode.Opcode.TheVariants.{Return}
use Rattle.b3_ir.specs.declared.opcode.Ty.{Ty}
use Rattle.b3_ir.specs.declared.procedure.SlotLine.{SlotLine}
use Rattle.b3_ir.specs.declared.value.Value.{Value}
use Rattle.b3_rules.specs.Rules.{HasSlot, IsBlockNumber, IsEarlier, types_of}
use Rattle.b3_validate.specs.declared.index.Named.{Named}
use Rattle.b3_validate.specs.declared.index.Index.{Index}

-- no value before a place passes a test
abbrev pub NoneBefore : Procedure → (Value → Bool) → ℕ → ℕ → Type 0
NoneBefore p test b j = (c m : ℕ) (w : Value) → StandsAt p c m w → IsEarlier c m b j → test w ≡ false

-- no value passes
abbrev pub NonePasses : Procedure → (Value → Bool) → Type 0
NonePasses p test = (c m : ℕ) (w : Value) → StandsAt p c m w → test w ≡ false

-- the first value that passes, with its place
pub record IsFirstBy (p : Procedure) (test : Value → Bool) (b j : ℕ) (v : Value) : Type 0 where
  pub there : StandsAt p b j v
  pub passes : test v ≡ true
  pub first : NoneBefore p test b j

-- ---- ids

abbrev pub has_id : ℕ → Value → Bool
has_id id v = nat_eq v.id id

-- an entry is that of the first value with an id
pub record IsNamedAt (p : Kept) (id : ℕ) (entry : Named) : Type 0 where
  pub block : ℕ
  pub place : ℕ
  pub value : Value
  pub first : IsFirstBy p.procedure (has_id id) block place value
  pub node : IsAt p entry.node block place
  pub ty : entry.ty ≡ value.ty
  pub opcode : entry.opcode ≡ value.kind.opcode

-- the entry of an id, or none where no value before a place has it
abbrev pub IsNamedBefore : Kept → ℕ → ℕ → ℕ → Option Named → Type 0
IsNamedBefore p b j id None = NoneBefore p.procedure (has_id id) b j
IsNamedBefore p b j id (Some entry) = IsNamedAt p id entry

abbrev pub AreNamedBefore : {S : Type 0} → Kept → ℕ → ℕ → map.IndexMap ℕ Named S → Type 0
AreNamedBefore p b j ids = (id : ℕ) → IsNamedBefore p b j id (map.get nat_eq ids id)

-- the entry of an id, or none where no value has it
abbrev pub IsNamed : Kept → ℕ → Option Named → Type 0
IsNamed p id None = NonePasses p.procedure (has_id id)
IsNamed p id (Some entry) = IsNamedAt p id entry

abbrev pub AreNamed : {S : Type 0} → Kept → map.IndexMap ℕ Named S → Type 0
AreNamed p ids = (id : ℕ) → IsNamed p id (map.get nat_eq ids id)

-- ---- numbers

abbrev pub AreSlotsBelow : {S : Type 0} → Procedure → ℕ → set.IndexSet ℕ S → Type 0
AreSlotsBelow p n numbers =
    (number : ℕ) → IsTrue (set.contains nat_eq numbers number)
    ↔ ((k : ℕ) × (slot : SlotLine) × (k < n) × (slice_get p.slots k ≡ Some slot) × (slot.number ≡ number))

abbrev pub AreSlots : {S : Type 0} → Procedure → set.IndexSet ℕ S → Type 0
AreSlots p numbers = (number : ℕ) → IsTrue (set.contains nat_eq numbers number) ↔ HasSlot p number

abbrev pub AreBlocksBelow : {S : Type 0} → Procedure → ℕ → set.IndexSet ℕ S → Type 0
AreBlocksBelow p n numbers =
    (number : ℕ) → IsTrue (set.contains nat_eq numbers number)
    ↔ ((k : ℕ) × (block : Block) × (k < n) × (slice_get p.blocks k ≡ Some block) × (block.number ≡ number))

abbrev pub AreBlocks : {S : Type 0} → Procedure → set.IndexSet ℕ S → Type 0
AreBlocks p numbers = (number : ℕ) → IsTrue (set.contains nat_eq numbers number) ↔ IsBlockNumber p number

-- ---- the first Return

abbrev pub is_return : Opcode → Bool
is_return Return = true
is_return _ = false

abbrev pub returns : Value → Bool
returns v = is_return v.kind.opcode

-- types are those of the children of the first Return
pub record AreReturned (p : Procedure) (types : List Ty) : Type 0 where
  pub block : ℕ
  pub place : ℕ
  pub value : Value
  pub first : IsFirstBy p returns block place value
  pub are : types ≡ types_of p value

abbrev pub IsReturned : Procedure → Option (List Ty) → Type 0
IsReturned p None = NonePasses p returns
IsReturned p (Some types) = AreReturned p types

-- ---- the whole index

pub record IsIndexOf (p : Kept) (index : Index) : Type 0 where
  pub ids : AreNamed p index.ids
  pub slots : AreSlots p.procedure index.slots
  pub blocks : AreBlocks p.procedure index.blocks
  pub returned : IsReturned p.procedure index.returned
