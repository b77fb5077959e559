-- The limits on a module that a text gives, and the first line that passes one.
use Rattle.std.specs.Prelude.{ℕ, ◌+◌, ◌<◌, nat_le, if◌then◌else◌, List, ◌∷◌, ◌++◌, length, map, sum_by, slice_get, ◌≡◌, Some}
use Rattle.std.specs.List.{flat_map}
use Rattle.b3_ir.specs.declared.value.Body.{Body}
use Rattle.b3_ir.specs.declared.value.Body.TheVariants.{Cases}
use Rattle.b3_ir.specs.declared.value.Value.{Value}
use Rattle.b3_ir.specs.declared.procedure.SlotLine.{SlotLine}
use Rattle.b3_ir.specs.Procedure.{Block, Procedure}
use Rattle.b3_module.specs.declared.fault.LimitName.{LimitName}
use Rattle.b3_module.specs.declared.fault.LimitName.TheVariants as limits

-- what stands on one line: a header, a slot of so many bytes, a heading, or a value with so many
-- children and cases
pub data Part : Type 0 where
  Header : Part
  Slot : (bytes : ℕ) → Part
  Heading : Part
  Computed : (operands : ℕ) → Part

-- the table of limits: the greatest number that a text or a procedure may have
abbrev pub most : LimitName → ℕ
most limits.Procedures = 256
most limits.Values = 65536
most limits.Children = 262144
most limits.ProcedureValues = 16384
most limits.ProcedureBlocks = 4096
most limits.ProcedureChildren = 131072
most limits.Slots = 4096
most limits.SlotBytes = 65536

-- whether it counts in the whole text, or in each procedure alone
pub data Scope : Type 0 where
  WholeText : Scope
  EachProcedure : Scope

abbrev pub scope : LimitName → Scope
scope limits.Procedures = WholeText
scope limits.Values = WholeText
scope limits.Children = WholeText
scope _ = EachProcedure

-- the place of a limit in the table
abbrev pub rank : LimitName → ℕ
rank limits.Procedures = 0
rank limits.Values = 1
rank limits.Children = 2
rank limits.ProcedureValues = 3
rank limits.ProcedureBlocks = 4
rank limits.ProcedureChildren = 5
rank limits.Slots = 6
rank limits.SlotBytes = 7

-- how much of what is limited a part is
abbrev pub counted : LimitName → Part → ℕ
counted limits.Procedures Header = 1
counted limits.Values (Computed operands) = 1
counted limits.Children (Computed operands) = operands
counted limits.ProcedureValues (Computed operands) = 1
counted limits.ProcedureBlocks Heading = 1
counted limits.ProcedureChildren (Computed operands) = operands
counted limits.Slots (Slot bytes) = 1
counted limits.SlotBytes (Slot bytes) = bytes
counted _ _ = 0

-- a part with its line
pub record Placed : Type 0 where
  pub line : ℕ
  pub part : Part

abbrev pub placed : ℕ → Part → Placed
placed line part = record { line = line; part = part }

abbrev pub cases_of : Body → ℕ
cases_of (Cases cases targets) = length cases
cases_of _ = 0

abbrev pub operands : Value → ℕ
operands v = length v.children + cases_of v.body

abbrev pub part_of_slot : SlotLine → Placed
part_of_slot s = placed s.line (Slot s.bytes)

abbrev pub part_of_value : Value → Placed
part_of_value v = placed v.line (Computed (operands v))

abbrev pub parts_of_slots : List SlotLine → List Placed
parts_of_slots slots = map part_of_slot slots

abbrev pub parts_of_values : List Value → List Placed
parts_of_values values = map part_of_value values

abbrev pub parts_of_block : Block → List Placed
parts_of_block b = placed b.line Heading ∷ parts_of_values b.values

-- the parts of a procedure, in order
abbrev pub parts_of : Procedure → List Placed
parts_of p = placed p.line Header ∷ (parts_of_slots p.slots ++ flat_map parts_of_block p.blocks)

-- how much of what is limited stands on the lines up to one
abbrev pub up_to : LimitName → ℕ → List Placed → ℕ
up_to which line parts = sum_by (λ (x : Placed). if nat_le x.line line then counted which x.part else 0) parts

-- with the lines up to one more stands in the text, or in one of its procedures, than the limit allows
abbrev pub PassesText : LimitName → ℕ → List Procedure → Type 0
PassesText which line m = most which < up_to which line (flat_map parts_of m)

abbrev pub PassesProcedure : LimitName → ℕ → List Procedure → Type 0
PassesProcedure which line m = (k : ℕ) × (p : Procedure) × (slice_get m k ≡ Some p) × (most which < up_to which line (parts_of p))

abbrev pub passes_in : Scope → LimitName → ℕ → List Procedure → Type 0
passes_in WholeText which line m = PassesText which line m
passes_in EachProcedure which line m = PassesProcedure which line m

abbrev pub Passes : LimitName → ℕ → List Procedure → Type 0
Passes which line m = passes_in (scope which) which line m

-- on this line stands what passes a limit first, and this is the first limit of the table that it passes
pub record IsFirstLimit (m : List Procedure) (which : LimitName) (line : ℕ) : Type 0 where
  pub passes : Passes which line m
  pub first : (other : LimitName) (before : ℕ) → before < line → Passes other before m → ⊥
  pub least : (other : LimitName) → rank other < rank which → Passes other line m → ⊥

-- no limit is passed
abbrev pub KeepsLimits : List Procedure → Type 0
KeepsLimits m = (which : LimitName) (line : ℕ) → Passes which line m → ⊥
