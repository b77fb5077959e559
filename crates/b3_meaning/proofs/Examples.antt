-- No public clause cites this module. The definitions computed: words of opcodes at their edges, and small runs.
use Rattle.std.proofs.Common.{◌≡◌, ℕ, ◌/◌, Bool, true, false, List, [], ◌∷◌, map, Some, None, refl}
use Rattle.std.specs.Prelude.{codes, nat_eq, pos, if◌then◌else◌}
use Rattle.b3_base.specs.Memory.{is_mapped, read_word, write_word}
use Rattle.b3_base.specs.Observed.{Answer, Give, Leave, Memory, Observation, Start, no_memory, undefined}
use Rattle.b3_base.specs.Run.{iterate}
use Rattle.b3_base.specs.declared.event.EventKind.TheVariants.{Call}
use Rattle.b3_base.specs.declared.observation.Status.{Status}
use Rattle.b3_base.specs.declared.observation.Status.TheVariants.{Going, Waiting, Left, Returned, Trapped, Exited}
use Rattle.b3_base.specs.declared.word.Width.TheVariants.{W64}
use Rattle.b3_ir.specs.Procedure.{Procedure}
use Rattle.b3_ir.specs.declared.opcode.Opcode.{Opcode}
use Rattle.b3_ir.specs.declared.opcode.Opcode.TheVariants as op
use Rattle.b3_ir.specs.declared.opcode.Ty.{Ty}
use Rattle.b3_ir.specs.declared.opcode.Ty.TheVariants.{Void, Int32, Int64}
use Rattle.b3_ir.specs.declared.value.Body.{Body}
use Rattle.b3_ir.specs.declared.value.Body.TheVariants.{Plain, Constant, Argument, Slot, Offset, Target, Targets, Cases}
use Rattle.b3_ir.specs.declared.value.Value.{Value}
use Rattle.b3_meaning.specs.Opcodes.{Outcome, Gives, Undefines, DivisionByZero, LeastByMinusOne, PrivateByte, UnmappedByte, CallIntoCode, result}
use Rattle.b3_meaning.specs.Run.{Lost, Undefined_, b3_run, run_of}

-- ---- words of opcodes

-- an opcode of two Int32 children
abbrev narrow : Opcode → Bool → ℕ → ℕ → Outcome
narrow opcode chill x y = result opcode chill Int32 (x ∷ y ∷ []) (Int32 ∷ Int32 ∷ [])

least_by_minus_one : narrow op.Div false 0x8000_0000 0xFFFF_FFFF ≡ Undefines LeastByMinusOne
least_by_minus_one = refl

least_by_minus_one_chill : narrow op.Div true 0x8000_0000 0xFFFF_FFFF ≡ Gives 2147483648
least_by_minus_one_chill = refl

by_zero : narrow op.Div false 0x8000_0000 0 ≡ Undefines DivisionByZero
by_zero = refl

by_zero_chill : narrow op.Div true 0x8000_0000 0 ≡ Gives 0
by_zero_chill = refl

rest_of_least : narrow op.Mod false 0x8000_0000 0xFFFF_FFFF ≡ Undefines LeastByMinusOne
rest_of_least = refl

rest_of_least_chill : narrow op.Mod true 0x8000_0000 0xFFFF_FFFF ≡ Gives 0
rest_of_least_chill = refl

rest_by_zero : narrow op.Mod false 0x8000_0000 0 ≡ Undefines DivisionByZero
rest_by_zero = refl

rest_by_zero_chill : narrow op.Mod true 0x8000_0000 0 ≡ Gives 0
rest_by_zero_chill = refl

-- -7 is 2 times -3, and -1
negative_rest : narrow op.Mod false 0xFFFF_FFF9 2 ≡ Gives 4294967295
negative_rest = refl

negative_quotient : narrow op.Div false 0xFFFF_FFF9 2 ≡ Gives 4294967293
negative_quotient = refl

no_rotation : result op.RotL false Int32 (0x8000_0001 ∷ 32 ∷ []) (Int32 ∷ Int32 ∷ []) ≡ Gives 0x8000_0001
no_rotation = refl

rotation : result op.RotL false Int64 (0x8000_0000_0000_0001 ∷ 65 ∷ []) (Int64 ∷ Int32 ∷ []) ≡ Gives 3
rotation = refl

signed_shift : result op.SShr false Int32 (0x8000_0000 ∷ 63 ∷ []) (Int32 ∷ Int32 ∷ []) ≡ Gives 0xFFFF_FFFF
signed_shift = refl

extension : result op.SExt8 false Int32 (0x180 ∷ []) (Int32 ∷ []) ≡ Gives 0xFFFF_FF80
extension = refl

-- -1 is below 1 in the children's type
narrow_comparison : result op.LessThan false Int32 (0xFFFF_FFFF ∷ 1 ∷ []) (Int32 ∷ Int32 ∷ []) ≡ Gives 1
narrow_comparison = refl

wide_comparison : result op.LessThan false Int32 (0xFFFF_FFFF ∷ 1 ∷ []) (Int64 ∷ Int64 ∷ []) ≡ Gives 0
wide_comparison = refl

-- ---- procedures

abbrev value_of : ℕ → Ty → Opcode → List ℕ → Body → Value
value_of id ty opcode children body = record {
  id = id;
  ty = ty;
  kind = record { opcode = opcode; chill = false; traps = false };
  children = children;
  body = body;
  line = 0;
}

abbrev trapping : Value → Value
trapping v = record v { kind = record v.kind { traps = true } }

abbrev argument : ℕ → ℕ → Value
argument id reg = value_of id Int64 op.ArgumentReg [] (Argument (record { 0 = reg }))

abbrev narrow_argument : ℕ → ℕ → Value
narrow_argument id child = value_of id Int32 op.Trunc (child ∷ []) Plain

abbrev return_of : ℕ → ℕ → Value
return_of id child = value_of id Void op.Return (child ∷ []) Plain

abbrev constant : ℕ → ℕ → Value
constant id word = value_of id Int64 op.Const64 [] (Constant word)

abbrev procedure_of : List (List Value) → Procedure
procedure_of blocks = record {
  name = codes "f";
  line = 0;
  slots = [];
  blocks = map (λ values. record { number = 0; line = 0; values = values }) blocks;
}

-- a start with these words in x0 and x1, a slot at 0x7000, these bytes, private bytes from 0x8000 to 0x8fff and code from 0x9000 to 0x9fff
abbrev start_of : ℕ → ℕ → Memory → Start
start_of x0 x1 memory = record {
  arguments = λ r. if nat_eq r 0 then x0 else if nat_eq r 1 then x1 else 0;
  frame_pointer = 0x7FF0;
  slots = 0x7000 ∷ [];
  memory = memory;
  is_hidden = λ address. nat_eq (address / 0x1000) 8;
  is_code = λ address. nat_eq (address / 0x1000) 9;
}

-- eight bytes from 0x7000 on
abbrev eight_bytes : Memory
eight_bytes q = if nat_eq (q / 8) 0xE00 then Some 0 else None

-- what is seen of a run in which memory stays as it is
abbrev status_after : List (List Value) → Start → List Answer → ℕ → Status
status_after blocks start answers n = (b3_run (procedure_of blocks) start answers n).status

-- ---- checks

abbrev checked_sum : List Value
checked_sum =
    argument 0 0 ∷ argument 1 1 ∷ narrow_argument 2 0 ∷ narrow_argument 3 1
    ∷ value_of 4 Int32 op.CheckAdd (2 ∷ 3 ∷ 2 ∷ 3 ∷ []) Plain
    ∷ return_of 5 4 ∷ []

sum_exits : status_after (checked_sum ∷ []) (start_of 2147483647 1 no_memory) [] 1 ≡ Exited 4 (2147483647 ∷ 1 ∷ [])
unfolding iterate
sum_exits = refl

sum_fits : status_after (checked_sum ∷ []) (start_of 5 6 no_memory) [] 1 ≡ Returned (Some 11)
unfolding iterate
sum_fits = refl

-- ---- accesses

abbrev load_traps : List Value
load_traps = argument 0 0 ∷ trapping (value_of 1 Int64 op.Load (0 ∷ []) (Offset (pos 0))) ∷ return_of 2 1 ∷ []

traps_at_unmapped : status_after (load_traps ∷ []) (start_of 0x7004 0 eight_bytes) [] 1 ≡ Trapped 1 0x7004
unfolding iterate is_mapped read_word
traps_at_unmapped = refl

-- the first seven bytes are neither mapped nor private
private_byte : run_of (procedure_of (load_traps ∷ [])) (start_of 0x7FF9 0 eight_bytes) [] 1 ≡ Lost (Undefined_ PrivateByte)
unfolding iterate is_mapped read_word
private_byte = refl

unmapped_byte : run_of (procedure_of ((argument 0 0 ∷ value_of 1 Int64 op.Load (0 ∷ []) (Offset (pos 0)) ∷ return_of 2 1 ∷ []) ∷ [])) (start_of 0x7004 0
    eight_bytes) [] 1 ≡ Lost (Undefined_ UnmappedByte)
unfolding iterate is_mapped read_word
unmapped_byte = refl

-- a word is put into the slot and loaded again
abbrev through_slot : List Value
through_slot =
    argument 0 0 ∷ value_of 1 Int64 op.SlotBase [] (Slot 0)
    ∷ value_of 2 Void op.Store (0 ∷ 1 ∷ []) (Offset (pos 0))
    ∷ value_of 3 Int64 op.Load (1 ∷ []) (Offset (pos 0))
    ∷ return_of 4 3 ∷ []

slot_keeps : status_after (through_slot ∷ []) (start_of 77 0 eight_bytes) [] 1 ≡ Returned (Some 77)
unfolding iterate is_mapped read_word write_word
slot_keeps = refl

slot_holds : (b3_run (procedure_of (through_slot ∷ [])) (start_of 0x1FE 0 eight_bytes) [] 1).memory 0x7001 ≡ Some 1
unfolding iterate is_mapped read_word write_word
slot_holds = refl

-- ---- switches

abbrev switching : List (List Value)
switching =
    (argument 0 0 ∷ narrow_argument 1 0 ∷ value_of 2 Void op.Switch (1 ∷ []) (Cases (0xFFFF_FFFF_FFFF_FFFF ∷ 7 ∷ []) (1 ∷ 2 ∷ 3 ∷ [])) ∷ [])
    ∷ (constant 3 1 ∷ return_of 4 3 ∷ []) ∷ (constant 5 2 ∷ return_of 6 5 ∷ []) ∷ (constant 7 3 ∷ return_of 8 7 ∷ []) ∷ []

first_case : status_after switching (start_of 4294967295 0 no_memory) [] 2 ≡ Returned (Some 1)
unfolding iterate
first_case = refl

second_case : status_after switching (start_of 7 0 no_memory) [] 2 ≡ Returned (Some 2)
unfolding iterate
second_case = refl

falls_through : status_after switching (start_of 0 0 no_memory) [] 2 ≡ Returned (Some 3)
unfolding iterate
falls_through = refl

-- ---- calls

abbrev calling : List Value
calling = argument 0 0 ∷ argument 1 1 ∷ value_of 2 Int64 op.CCall (0 ∷ 1 ∷ 0 ∷ []) Plain ∷ return_of 3 2 ∷ []

abbrev seen_of_call : Status → Memory → Observation
seen_of_call status memory = record {
  status = status;
  events = record { kind = Call 0x5000; arguments = 9 ∷ 0x5000 ∷ []; widths = W64 ∷ W64 ∷ []; memory = eight_bytes } ∷ [];
  memory = memory;
}

waits : b3_run (procedure_of (calling ∷ [])) (start_of 0x5000 9 eight_bytes) [] 1 ≡ seen_of_call Waiting eight_bytes
unfolding iterate
waits = refl

-- a byte that the memory doesn't hold isn't written
abbrev writes : Memory
writes q = if nat_eq q 0x7000 then Some 5 else if nat_eq q 0x6000 then Some 6 else None

comes_back : status_after (calling ∷ []) (start_of 0x5000 9 eight_bytes) (Give 4 writes ∷ []) 1 ≡ Returned (Some 4)
unfolding iterate
comes_back = refl

writes_mapped : (b3_run (procedure_of (calling ∷ [])) (start_of 0x5000 9 eight_bytes) (Give 4 writes ∷ []) 1).memory 0x7000 ≡ Some 5
unfolding iterate
writes_mapped = refl

writes_no_other : (b3_run (procedure_of (calling ∷ [])) (start_of 0x5000 9 eight_bytes) (Give 4 writes ∷ []) 1).memory 0x6000 ≡ None
unfolding iterate
writes_no_other = refl

leaves : b3_run (procedure_of (calling ∷ [])) (start_of 0x5000 9 eight_bytes) (Leave ∷ []) 1 ≡ seen_of_call Left eight_bytes
unfolding iterate
leaves = refl

into_code : run_of (procedure_of (calling ∷ [])) (start_of 0x9000 9 eight_bytes) [] 1 ≡ Lost (Undefined_ CallIntoCode)
unfolding iterate
into_code = refl

-- ---- a loop: a Phi counts to x0, where a check exits with the count

abbrev counting : List (List Value)
counting =
    (argument 0 0 ∷ constant 1 0 ∷ value_of 2 Void op.Upsilon (1 ∷ []) (Target 4) ∷ value_of 3 Void op.Jump [] (Targets (1 ∷ [])) ∷ [])
    ∷ (value_of 4 Int64 op.Phi [] Plain ∷ value_of 5 Int32 op.AboveEqual (4 ∷ 0 ∷ []) Plain ∷ value_of 6 Void op.Check (5 ∷ 4 ∷ []) Plain
    ∷ constant 7 1 ∷ value_of 8 Int64 op.Add (4 ∷ 7 ∷ []) Plain ∷ value_of 9 Void op.Upsilon (8 ∷ []) (Target 4)
    ∷ value_of 10 Void op.Jump [] (Targets (1 ∷ [])) ∷ []) ∷ []

counts_on : status_after counting (start_of 3 0 no_memory) [] 4 ≡ Going
unfolding iterate
counts_on = refl

exits_at_three : status_after counting (start_of 3 0 no_memory) [] 5 ≡ Exited 6 (3 ∷ [])
unfolding iterate
exits_at_three = refl

stays_out : status_after counting (start_of 3 0 no_memory) [] 9 ≡ Exited 6 (3 ∷ [])
unfolding iterate
stays_out = refl

-- what B3 leaves undefined shows nothing
shows_nothing : b3_run (procedure_of (calling ∷ [])) (start_of 0x9000 9 eight_bytes) [] 1 ≡ undefined
unfolding iterate
shows_nothing = refl
