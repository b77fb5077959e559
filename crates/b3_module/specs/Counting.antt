-- How limits are told, part by part. No public clause cites this module.
use Rattle.std.specs.Prelude.{ℕ, ◌+◌, nat_lt, if◌then◌else◌, List, [], ◌∷◌, Option, Some, None, Result, Ok, Err}
use Rattle.b3_ir.specs.Procedure.{Procedure}
use Rattle.b3_module.specs.declared.fault.LimitName.{LimitName}
use Rattle.b3_module.specs.declared.fault.LimitName.TheVariants as limits
use Rattle.b3_module.specs.declared.counting.Counts.{Counts}
use Rattle.b3_module.specs.declared.counting.Passed.{Passed}
use Rattle.b3_module.specs.Limits.{Part, Header, Slot, Heading, Computed, Placed, parts_of}

abbrev pub passed : LimitName → ℕ → Passed
passed which line = record { which = which; line = line }

abbrev pub with_header : Counts → ℕ → Result Counts Passed
with_header c line = if nat_lt 256 (c.procedures + 1) then Err (passed limits.Procedures line) else Ok (record c { procedures = c.procedures + 1 })

abbrev pub with_slot : Counts → ℕ → ℕ → Result Counts Passed
with_slot c line bytes =
    if nat_lt 4096 (c.slots + 1) then Err (passed limits.Slots line)
    else (if nat_lt 65536 (c.slot_bytes + bytes) then Err (passed limits.SlotBytes line)
    else Ok (record c { slots = c.slots + 1; slot_bytes = c.slot_bytes + bytes }))

abbrev pub with_heading : Counts → ℕ → Result Counts Passed
with_heading c line = if nat_lt 4096 (c.procedure_blocks + 1) then Err (passed limits.ProcedureBlocks line) else Ok (record c { procedure_blocks = c.procedure_blocks + 1 })

abbrev pub with_value : Counts → ℕ → ℕ → Result Counts Passed
with_value c line n =
    if nat_lt 65536 (c.values + 1) then Err (passed limits.Values line)
    else (if nat_lt 262144 (c.children + n) then Err (passed limits.Children line)
    else (if nat_lt 16384 (c.procedure_values + 1) then Err (passed limits.ProcedureValues line)
    else (if nat_lt 131072 (c.procedure_children + n) then Err (passed limits.ProcedureChildren line)
    else Ok (record c {
      values = c.values + 1;
      children = c.children + n;
      procedure_values = c.procedure_values + 1;
      procedure_children = c.procedure_children + n;
    }))))

abbrev pub with_part : Counts → ℕ → Part → Result Counts Passed
with_part c line Header = with_header c line
with_part c line (Slot bytes) = with_slot c line bytes
with_part c line Heading = with_heading c line
with_part c line (Computed n) = with_value c line n

abbrev pub with_placed : Result Counts Passed → Placed → Result Counts Passed
with_placed (Err fault) x = Err fault
with_placed (Ok c) x = with_part c x.line x.part

-- parts are counted up to the first that passes a limit
abbrev pub counted_on : Result Counts Passed → List Placed → Result Counts Passed
counted_on r [] = r
counted_on r (x ∷ parts) = counted_on (with_placed r x) parts

-- a procedure begins
abbrev pub anew : Result Counts Passed → Result Counts Passed
anew (Err fault) = Err fault
anew (Ok c) = Ok (record c { procedure_values = 0; procedure_blocks = 0; procedure_children = 0; slots = 0; slot_bytes = 0 })

abbrev pub counted_all : Result Counts Passed → List Procedure → Result Counts Passed
counted_all r [] = r
counted_all r (p ∷ ps) = counted_all (counted_on (anew r) (parts_of p)) ps

abbrev pub no_counts : Counts
no_counts = record { procedures = 0; values = 0; children = 0; procedure_values = 0; procedure_blocks = 0; procedure_children = 0; slots = 0; slot_bytes = 0 }

-- what is told of it
abbrev pub first_told : Result Counts Passed → Option Passed
first_told (Ok c) = None
first_told (Err fault) = Some fault
