-- The procedures that are taken: they have names, and keep the limits of a text.
use Rattle.std.specs.Prelude.{ℕ, ◌≤◌, List, All, length, sum_by}
use Rattle.b3_ir.specs.Names.{IsName}
use Rattle.b3_ir.specs.Procedure.{Procedure, total}
use Rattle.b3_ir.specs.declared.procedure.SlotLine.{SlotLine}
use Rattle.a64_run.specs.Agrees.{child_count}
use Rattle.air_select.specs.Contract.{IsWithinLimits}

abbrev pub bytes_in : SlotLine → ℕ
bytes_in slot = slot.bytes

-- a procedure that has no more slots, and no more bytes in them, than a text may have
pub record HasFewSlots (p : Procedure) : Type 0 where
  pub slots : length p.slots ≤ 4096
  pub bytes : sum_by bytes_in p.slots ≤ 65536

-- procedures that one object may hold: at most 256, each with a name
pub record HaveNames (ps : List Procedure) : Type 0 where
  pub few : length ps ≤ 256
  pub names : All (λ (p : Procedure). IsName p.name) ps

-- procedures that have no more values, children and cases, and slots than a text may have
pub record AreWithinLimits (ps : List Procedure) : Type 0 where
  pub values : sum_by total ps ≤ 65536
  pub children : sum_by child_count ps ≤ 262144
  pub each : All IsWithinLimits ps
  pub slots : All HasFewSlots ps
