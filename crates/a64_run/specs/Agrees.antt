-- When the code of a procedure in an object agrees with the procedure: the machine reaches the
-- same status, events and memory as the run of B3, within a number of steps that is bounded from
-- both sides.
use Rattle.std.specs.Prelude.{◌≡◌, ℕ, ◌+◌, ◌*◌, ◌/◌, ◌≤◌, List, [], ◌∷◌, length, map, sum_by, All}
use Rattle.b3_base.specs.Observed.{Answer, MachineStart, Observation}
use Rattle.b3_base.specs.Ranged.{IsRangedAnswer}
use Rattle.b3_base.specs.Run.{RunsAlike}
use Rattle.b3_base.specs.declared.observation.Status.TheVariants.{Undefined}
use Rattle.b3_ir.specs.Procedure.{Block, Procedure, StandsAt, total}
use Rattle.b3_ir.specs.declared.opcode.Opcode.TheVariants.{Return}
use Rattle.b3_ir.specs.declared.opcode.Ty.{Ty}
use Rattle.b3_ir.specs.declared.opcode.Ty.TheVariants.{Int32, Int64}
use Rattle.b3_ir.specs.declared.procedure.SlotLine.{SlotLine}
use Rattle.b3_ir.specs.declared.value.Body.{Body}
use Rattle.b3_ir.specs.declared.value.Body.TheVariants.{Cases}
use Rattle.b3_ir.specs.declared.value.Value.{Value}
use Rattle.b3_meaning.specs.Run.{b3_run}
use Rattle.stackmap.specs.declared.site.Returns.TheVariants.{W32, W64}
use Rattle.exit_table.specs.declared.tables.FrameRow.{FrameRow}
use Rattle.elf_obj.specs.declared.object.Object.{Object}
use Rattle.elf_obj.specs.declared.object.Symbol.{Symbol}
use Rattle.a64_run.specs.Placement.{Places, start_of}
use Rattle.a64_run.specs.Machine.{Entry, machine_run, run_of}
use Rattle.a64_run.specs.Moments.{IsProper}

-- the values of a procedure are `total`; its children and cases
abbrev pub case_count : Body → ℕ
case_count (Cases cases targets) = length cases
case_count _ = 0

abbrev pub child_count : Procedure → ℕ
child_count p = sum_by (λ (b : Block). sum_by (λ (v : Value). length v.children + case_count v.body) b.values) p.blocks

-- the bytes of the slots, each rounded up to a multiple of 16
abbrev pub slot_bytes : Procedure → ℕ
slot_bytes p = sum_by (λ (slot : SlotLine). (slot.bytes + 15) / 16 * 16) p.slots

-- some Return of the procedure has a child of this type
abbrev pub ReturnsType : Procedure → Ty → Type 0
ReturnsType p ty = (block : ℕ) × (k : ℕ) × (v : Value) × (i : ℕ) × (j : ℕ) × (m : ℕ) × (child : Value)
    × StandsAt p block k v × (v.kind.opcode ≡ Return) × (v.children ≡ i ∷ [])
    × StandsAt p j m child × (child.id ≡ i) × (child.ty ≡ ty)

-- the words of a procedure's code
abbrev pub word_count : Symbol → ℕ
word_count symbol = symbol.size / 4

-- what is seen of a run is nothing, since it did what B3 leaves undefined
abbrev pub IsUndefined : Observation → Type 0
IsUndefined seen = seen.status ≡ Undefined

abbrev pub entry_of : Object → Symbol → FrameRow → MachineStart → Entry
entry_of o symbol frame m = record { object = o; symbol = symbol; frame = frame; start = m }

-- from this machine start, for these answers: at each number n of block steps at which the run of B3 from
-- the start that agrees is not undefined, the machine shows the same after k steps, and each moment before
-- is proper, where n / B ≤ k ≤ 2 * n * W for B blocks and W words of code. Neither run has a junk of its
-- own: what the outside leaves is a part of the machine start
abbrev pub AgreesFrom : Procedure → Object → Symbol → FrameRow → MachineStart → List Answer → Type 0
AgreesFrom p o symbol frame m answers =
    RunsAlike {J = Unit {0}} {K = Unit {0}} IsUndefined
    (λ _. b3_run p (start_of o frame m) answers)
    (λ _. machine_run (entry_of o symbol frame m) answers)
    (λ _ moment. IsProper (entry_of o symbol frame m) (run_of (entry_of o symbol frame m) answers moment))
    (length p.blocks)
    (2 * word_count symbol)

-- the symbol's code and frame agree with the procedure: the runs from each machine start that may begin
-- the procedure, for all answers; what is returned, the slots, and the sizes of code and frame, which the
-- text bounds
pub record Agrees (p : Procedure) (o : Object) (symbol : Symbol) (frame : FrameRow) : Type 0 where
  pub runs : (m : MachineStart) (answers : List Answer) → Places o symbol frame m → All IsRangedAnswer answers → AgreesFrom p o symbol frame m answers
  pub returns_32 : frame.returns ≡ W32 → ReturnsType p Int32
  pub returns_64 : frame.returns ≡ W64 → ReturnsType p Int64
  pub slots : map (λ slot. slot.size) frame.slots ≡ map (λ (slot : SlotLine). slot.bytes) p.slots
  pub words : word_count symbol ≤ 120 * total p + 32 * child_count p + 256
  pub bytes : frame.bytes ≤ 64 * total p + 8 * child_count p + slot_bytes p + 1024
