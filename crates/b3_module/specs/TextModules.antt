-- What texts give: the modules that a text can spell, lines aside.
use Rattle.std.specs.Prelude.{◌≤◌, ℕ, List, [], length}
use Rattle.std.specs.List.{AllByRecursion}
use Rattle.b3_ir.specs.declared.procedure.SlotLine.{SlotLine}
use Rattle.b3_ir.specs.declared.value.Body.{Body}
use Rattle.b3_ir.specs.declared.value.Body.TheVariants.{Targets, Cases}
use Rattle.b3_ir.specs.declared.value.Value.{Value}
use Rattle.b3_ir.specs.Names.{IsName}
use Rattle.b3_ir.specs.Procedure.{Block, Procedure}
use Rattle.b3_rows.specs.Listed.{IsListedValue, IsNumber}
use Rattle.b3_rows.specs.Ranges.{AreTargets}
use Rattle.b3_module.specs.Texts.{following}
use Rattle.b3_module.specs.Canonical.{Matches, bare}

abbrev pub targets_of : Body → List ℕ
targets_of (Targets targets) = targets
targets_of (Cases cases targets) = targets
targets_of body = []

-- its own line can say it, and the next line its successors, which are as its opcode asks
pub record IsTextValue (v : Value) : Type 0 where
  pub listed : IsListedValue (bare v)
  pub matched : Matches (following v.kind.opcode) v.body
  pub targets : AreTargets (targets_of v.body)

pub record IsTextSlot (s : SlotLine) : Type 0 where
  pub number : IsNumber s.number
  pub bytes : IsNumber s.bytes

pub record IsTextBlock (b : Block) : Type 0 where
  pub number : IsNumber b.number
  pub values : AllByRecursion IsTextValue b.values

-- the parts of a procedure, of which more may come
pub record IsBegunProcedure (p : Procedure) : Type 0 where
  pub name : IsName p.name
  pub slots : AllByRecursion IsTextSlot p.slots
  pub blocks : AllByRecursion IsTextBlock p.blocks

-- a whole one has a block
pub record IsTextProcedure (p : Procedure) : Type 0 where
  pub begun : IsBegunProcedure p
  pub some : 1 ≤ length p.blocks

-- one procedure or more
pub record IsTextModule (m : List Procedure) : Type 0 where
  pub some : 1 ≤ length m
  pub procedures : AllByRecursion IsTextProcedure m
