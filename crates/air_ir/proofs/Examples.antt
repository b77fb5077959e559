-- No public clause cites this module. The definitions computed: a loop, a call, halves of words, an early
-- definition, an exit, a trap and a Switch.
use Rattle.std.proofs.Common.{◌≡◌, ◌+◌, ◌-◌, ◌^◌, ℕ, Bool, true, false, List, [], ◌∷◌, ◌++◌, map, Some, None, refl}
use Rattle.std.specs.Prelude.{nat_eq, if◌then◌else◌, pos}
use Rattle.b3_base.specs.Memory.{is_mapped, read_word}
use Rattle.b3_base.specs.Observed.{Answer, Give, Leave, Event, Start, no_memory, undefined}
use Rattle.b3_base.specs.Run.{iterate}
use Rattle.b3_base.specs.declared.event.EventKind.TheVariants as event
use Rattle.b3_base.specs.declared.observation.Status.{Status}
use Rattle.b3_base.specs.declared.observation.Status.TheVariants.{Going, Waiting, Returned, Trapped, Exited}
use Rattle.b3_base.specs.declared.word.Width.{Width}
use Rattle.b3_base.specs.declared.word.Width.TheVariants.{W32, W64}
use Rattle.a64_inst.specs.declared.inst.Cond.TheVariants.{Lt, Hi}
use Rattle.a64_inst.specs.Values.{flags_of_sum}
use Rattle.stackmap.specs.declared.site.Returns.TheVariants as returns
use Rattle.air_ir.specs.Blocks.{block_step, run_step}
use Rattle.air_ir.specs.Forms.{call_clobbers, operand_in}
use Rattle.air_ir.specs.Meaning.{meaning}
use Rattle.air_ir.specs.Operands.{put, put_all, read, targets, word_of, words}
use Rattle.air_ir.specs.Run.{air_run}
use Rattle.air_ir.specs.Steps.{junk_words, step, steps}
use Rattle.air_ir.specs.declared.op.AirOp.{AirOp}
use Rattle.air_ir.specs.declared.op.AirOp.TheVariants as op
use Rattle.air_ir.specs.declared.op.Test.TheVariants.{Compare, NonZero, Bit}
use Rattle.air_ir.specs.declared.operand.Home.{Home}
use Rattle.air_ir.specs.declared.operand.Home.TheVariants.{Tmp, Reg}
use Rattle.air_ir.specs.declared.operand.Arg.{Arg}
use Rattle.air_ir.specs.declared.operand.Arg.TheVariants.{At, Imm, Addr}
use Rattle.air_ir.specs.declared.operand.Role.TheVariants.{Use, LateUse, EarlyDef, Def, Clobber}
use Rattle.air_ir.specs.declared.operand.Operand.{Operand}
use Rattle.air_ir.specs.declared.procedure.AirBlock.{AirBlock}
use Rattle.air_ir.specs.declared.procedure.AirInst.{AirInst}
use Rattle.air_ir.specs.declared.procedure.AirProc.{AirProc}

-- ---- how procedures are written here

abbrev pub x : ℕ → Home
x r = Reg (record { 0 = r })

abbrev pub use_at : Width → Arg → Operand
use_at width arg = record { role = Use; width = width; arg = arg }

abbrev pub def_at : Width → Home → Operand
def_at width home = record { role = Def; width = width; arg = At home }

abbrev pub inst : AirOp → List Operand → AirInst
inst op operands = record { op = op; operands = operands; value = 9; traps = false }

abbrev pub move : Width → Arg → Home → AirInst
move width from to = inst op.Move (use_at width from ∷ def_at width to ∷ [])

abbrev pub block : List AirInst → List ℕ → AirBlock
block insts targets = record { insts = insts; targets = targets }

abbrev pub procedure : List AirBlock → AirProc
procedure blocks = record { blocks = blocks; tmps = 4; slots = []; returns = returns.W64 }

abbrev pub return_x0 : Width → AirInst
return_x0 width = inst op.Return (operand_in Use width 0 ∷ [])

-- a start with these words in x0 and x1, and no bytes
abbrev start_with : ℕ → ℕ → Start
start_with x0 x1 = record {
  arguments = λ r. if nat_eq r 0 then x0 else if nat_eq r 1 then x1 else 0;
  frame_pointer = 0;
  slots = [];
  memory = no_memory;
  is_hidden = λ address. false;
  is_code = λ address. false;
}

abbrev status_of : AirProc → ℕ → ℕ → List Answer → List ℕ → ℕ → Status
status_of p x0 x1 answers junk n = (air_run p (start_with x0 x1) answers junk n).status

abbrev events_of : AirProc → ℕ → ℕ → List Answer → List ℕ → ℕ → List Event
events_of p x0 x1 answers junk n = (air_run p (start_with x0 x1) answers junk n).events

-- ---- a loop: the sum of x0, x0 less 1 and so on to 1

abbrev pub loop : AirProc
loop = procedure (
    block (
    inst op.Shuffle (use_at W64 (At (x 0)) ∷ def_at W64 (Tmp 0) ∷ use_at W64 (Imm 0) ∷ def_at W64 (Tmp 1) ∷ [])
    ∷ inst op.Jump []
    ∷ []
    ) (1 ∷ [])
    ∷ block (
    inst op.Add (use_at W64 (At (Tmp 1)) ∷ use_at W64 (At (Tmp 0)) ∷ def_at W64 (Tmp 1) ∷ [])
    ∷ inst op.Add (use_at W64 (At (Tmp 0)) ∷ use_at W64 (Imm (2 ^ 64 - 1)) ∷ def_at W64 (Tmp 0) ∷ [])
    ∷ inst (op.BranchIf NonZero) (use_at W64 (At (Tmp 0)) ∷ [])
    ∷ []
    ) (1 ∷ 2 ∷ [])
    ∷ block (move W64 (At (Tmp 1)) (x 0) ∷ return_x0 W64 ∷ []) []
    ∷ []
    )

-- the entry belongs to the first block step, so four steps are three rounds and the return
loops : status_of loop 3 0 [] [] 3 ≡ Going
unfolding iterate run_step block_step steps step words word_of read put put_all targets junk_words meaning
loops = refl

loop_returns : status_of loop 3 0 [] [] 4 ≡ Returned (Some 6)
unfolding iterate run_step block_step steps step words word_of read put put_all targets junk_words meaning
loop_returns = refl

-- ---- a call: a temporary keeps its word, and a register that isn't kept has the word of junk at its place

abbrev pub call : AirInst
call = inst (op.Call true) (use_at W64 (At (Tmp 1)) ∷ operand_in Use W32 0 ∷ map (operand_in Clobber W64) call_clobbers ++ operand_in Def W64 0 ∷ [])

-- calls x1 with x0, and returns the result plus what stands in a home
abbrev calling : Home → AirProc
calling home = procedure (
    block (
    move W64 (At (x 0)) (Tmp 0) ∷ move W64 (At (x 1)) (Tmp 1) ∷ call
    ∷ inst op.Add (use_at W64 (At (x 0)) ∷ use_at W64 (At home) ∷ def_at W64 (x 0) ∷ [])
    ∷ return_x0 W64 ∷ []
    ) []
    ∷ []
    )

abbrev answer : List Answer
answer = Give 100 no_memory ∷ []

temporary_is_kept : status_of (calling (Tmp 0)) (7 + 2 ^ 32) 0x5000 answer (1 ∷ 2 ∷ 3 ∷ []) 1 ≡ Returned (Some (107 + 2 ^ 32))
unfolding iterate run_step block_step steps step words word_of read put put_all targets junk_words meaning call_clobbers
temporary_is_kept = refl

register_has_junk : status_of (calling (x 2)) 7 0x5000 answer (1 ∷ 2 ∷ 3 ∷ []) 1 ≡ Returned (Some 103)
unfolding iterate run_step block_step steps step words word_of read put put_all targets junk_words meaning call_clobbers
register_has_junk = refl

-- a word of junk that isn't there counts as 0
register_has_zero : status_of (calling (x 3)) 7 0x5000 answer (1 ∷ 2 ∷ 3 ∷ []) 1 ≡ Returned (Some 100)
unfolding iterate run_step block_step steps step words word_of read put put_all targets junk_words meaning call_clobbers
register_has_zero = refl

call_is_seen : events_of (calling (Tmp 0)) (7 + 2 ^ 32) 0x5000 answer [] 1
    ≡ record { kind = event.Call 0x5000; arguments = 7 ∷ []; widths = W32 ∷ []; memory = no_memory } ∷ []
unfolding iterate run_step block_step steps step words word_of read put put_all targets junk_words meaning call_clobbers
call_is_seen = refl

call_waits : status_of (calling (Tmp 0)) 7 0x5000 [] [] 1 ≡ Waiting
unfolding iterate run_step block_step steps step words word_of read put put_all targets junk_words meaning call_clobbers
call_waits = refl

-- ---- halves of words: the low half of x0 is copied, and then read at a width

abbrev halved : Width → AirProc
halved width = procedure (block (move W32 (At (x 0)) (Tmp 0) ∷ move width (At (Tmp 0)) (x 0) ∷ return_x0 width ∷ []) [] ∷ [])

half_is_read : status_of (halved W32) (7 + 2 ^ 32) 0 [] [] 1 ≡ Returned (Some 7)
unfolding iterate run_step block_step steps step words word_of read put put_all targets junk_words meaning
half_is_read = refl

-- a half that is read as a whole word is undefined, and so is a home that holds nothing
half_is_no_whole : air_run (halved W64) (start_with 7 0) [] [] 1 ≡ undefined
unfolding iterate run_step block_step steps step words word_of read put put_all targets junk_words meaning
half_is_no_whole = refl

nothing_is_read : air_run (procedure (block (move W32 (At (x 8)) (x 0) ∷ return_x0 W32 ∷ []) [] ∷ [])) (start_with 7 0) [] [] 1 ≡ undefined
unfolding iterate run_step block_step steps step words word_of read put put_all targets junk_words meaning
nothing_is_read = refl

-- ---- a patchpoint that reads x0, defines x1 early and has its result in x0

abbrev patching : Home → AirProc
patching home = procedure (
    block (
    inst (op.Patch 4 true) (operand_in Use W64 0 ∷ operand_in EarlyDef W64 1 ∷ operand_in Def W64 0 ∷ [])
    ∷ move W64 (At home) (x 0)
    ∷ return_x0 W64
    ∷ []
    ) []
    ∷ []
    )

early_has_junk : status_of (patching (x 1)) 7 8 answer (55 ∷ []) 1 ≡ Returned (Some 55)
unfolding iterate run_step block_step steps step words word_of read put put_all targets junk_words meaning
early_has_junk = refl

result_is_given : status_of (patching (x 0)) 7 8 answer (55 ∷ []) 1 ≡ Returned (Some 100)
unfolding iterate run_step block_step steps step words word_of read put put_all targets junk_words meaning
result_is_given = refl

use_is_seen : events_of (patching (x 1)) 7 8 (Leave ∷ []) [] 1 ≡ record { kind = event.Patch 9; arguments = 7 ∷ []; widths = W64 ∷ []; memory = no_memory } ∷ []
unfolding iterate run_step block_step steps step words word_of read put put_all targets junk_words meaning
use_is_seen = refl

-- ---- checks: x0 and x1 are added as words of 32 bits, and x1 and a constant are reported

abbrev adding : AirProc
adding = procedure (
    block (
    inst op.CheckAdd (operand_in Use W32 0 ∷ operand_in Use W32 1 ∷ operand_in LateUse W64 1 ∷ use_at W32 (Imm 5) ∷ operand_in Clobber W64 3 ∷ def_at W32 (x 0) ∷ [])
    ∷ return_x0 W32
    ∷ []
    ) []
    ∷ []
    )

sum_exits : status_of adding (2 ^ 31 - 1) (1 + 2 ^ 32) [] [] 1 ≡ Exited 9 (4294967297 ∷ 5 ∷ [])
unfolding iterate run_step block_step steps step words word_of read put put_all targets junk_words meaning
sum_exits = refl

sum_fits : status_of adding 5 6 [] [] 1 ≡ Returned (Some 11)
unfolding iterate run_step block_step steps step words word_of read put put_all targets junk_words meaning
sum_fits = refl

-- -1 is below 1 as a signed word, and above it as an unsigned one
abbrev comparing : AirOp → AirProc
comparing op = procedure (block (inst op (operand_in Use W64 0 ∷ use_at W64 (Imm 1) ∷ def_at W32 (x 0) ∷ []) ∷ return_x0 W32 ∷ []) [] ∷ [])

is_less : status_of (comparing (op.SetIf (Compare Lt))) (2 ^ 64 - 1) 0 [] [] 1 ≡ Returned (Some 1)
unfolding iterate run_step block_step steps step words word_of read put put_all targets junk_words meaning flags_of_sum
is_less = refl

is_above : status_of (comparing (op.SetIf (Compare Hi))) 0 0 [] [] 1 ≡ Returned (Some 0)
unfolding iterate run_step block_step steps step words word_of read put put_all targets junk_words meaning flags_of_sum
is_above = refl

-- ---- bit 3 of x0, or bit 31 of its low half

abbrev comparing_bit : ℕ → AirProc
comparing_bit k = procedure (block (inst (op.SetIf (Bit k)) (operand_in Use W64 0 ∷ def_at W32 (x 0) ∷ []) ∷ return_x0 W32 ∷ []) [] ∷ [])

abbrev returning_x0 : AirInst → AirProc
returning_x0 i = procedure (block (i ∷ return_x0 W64 ∷ []) [] ∷ [])

bit_is_set : status_of (comparing_bit 3) 12 0 [] [] 1 ≡ Returned (Some 1)
unfolding iterate run_step block_step steps step words word_of read put put_all targets junk_words meaning
bit_is_set = refl

bit_is_clear : status_of (comparing_bit 3) 0xF7 0 [] [] 1 ≡ Returned (Some 0)
unfolding iterate run_step block_step steps step words word_of read put put_all targets junk_words meaning
bit_is_clear = refl

abbrev selecting : AirProc
selecting = returning_x0 (
    inst (op.SelectIf (Bit 3)) (operand_in Use W64 0 ∷ operand_in Use W64 0 ∷ operand_in Use W64 1 ∷ operand_in Def W64 0 ∷ []))

bit_selects : status_of selecting 12 5 [] [] 1 ≡ Returned (Some 12)
unfolding iterate run_step block_step steps step words word_of read put put_all targets junk_words meaning
bit_selects = refl

other_is_selected : status_of selecting 0xF7 5 [] [] 1 ≡ Returned (Some 5)
unfolding iterate run_step block_step steps step words word_of read put put_all targets junk_words meaning
other_is_selected = refl

abbrev leaving : AirProc
leaving = returning_x0 (inst (op.CheckIf (Bit 31)) (operand_in Use W32 0 ∷ operand_in Use W64 1 ∷ []))

bit_exits : status_of leaving (2 ^ 31) 5 [] [] 1 ≡ Exited 9 (5 ∷ [])
unfolding iterate run_step block_step steps step words word_of read put put_all targets junk_words meaning
bit_exits = refl

bit_passes : status_of leaving (2 ^ 31 - 1) 5 [] [] 1 ≡ Returned (Some (2 ^ 31 - 1))
unfolding iterate run_step block_step steps step words word_of read put put_all targets junk_words meaning
bit_passes = refl

-- ---- high words: -1 by 2 is -2 as signed words, and 2 ^ 65 - 2 as unsigned ones

abbrev multiplying : AirOp → AirProc
multiplying op = returning_x0 (inst op (operand_in Use W64 0 ∷ operand_in Use W64 1 ∷ operand_in Def W64 0 ∷ []))

high_is_signed : status_of (multiplying op.MulHigh) (2 ^ 64 - 1) 2 [] [] 1 ≡ Returned (Some (2 ^ 64 - 1))
unfolding iterate run_step block_step steps step words word_of read put put_all targets junk_words meaning
high_is_signed = refl

high_is_unsigned : status_of (multiplying op.UMulHigh) (2 ^ 64 - 1) 2 [] [] 1 ≡ Returned (Some 1)
unfolding iterate run_step block_step steps step words word_of read put put_all targets junk_words meaning
high_is_unsigned = refl

-- ---- a load from x0 plus 8

abbrev loading : Bool → AirProc
loading traps = procedure (
    block (
    record { op = op.Load; operands = use_at W64 (Addr (x 0) (pos 8)) ∷ def_at W64 (x 0) ∷ []; value = 4; traps = traps }
    ∷ return_x0 W64
    ∷ []
    ) []
    ∷ []
    )

abbrev stored : Start
stored = record (start_with 0x2000 0) { memory = λ address. if nat_eq address 0x2008 then Some 5 else if nat_eq address 0x2009 then Some 1 else None }

load_traps : (air_run (loading true) stored [] [] 1).status ≡ Trapped 4 0x2008
unfolding iterate run_step block_step steps step words word_of read put put_all targets junk_words meaning is_mapped read_word
load_traps = refl

load_is_undefined : air_run (loading false) stored [] [] 1 ≡ undefined
unfolding iterate run_step block_step steps step words word_of read put put_all targets junk_words meaning is_mapped read_word
load_is_undefined = refl

abbrev loading_half : AirProc
loading_half = procedure (block (inst op.Load16Z (use_at W32 (Addr (x 0) (pos 8)) ∷ def_at W32 (x 0) ∷ []) ∷ return_x0 W32 ∷ []) [] ∷ [])

load_gives : (air_run loading_half stored [] [] 1).status ≡ Returned (Some 261)
unfolding iterate run_step block_step steps step words word_of read put put_all targets junk_words meaning is_mapped read_word
load_gives = refl

-- ---- a Switch on the low half of x0: -1 and 7, and any other word

abbrev returning : ℕ → AirBlock
returning word = block (move W64 (Imm word) (x 0) ∷ return_x0 W64 ∷ []) []

abbrev switching : AirProc
switching = procedure (
    block (inst op.Jump [] ∷ []) (1 ∷ [])
    ∷ block (inst (op.Switch ((2 ^ 64 - 1) ∷ 7 ∷ [])) (operand_in Use W32 0 ∷ []) ∷ []) (2 ∷ 3 ∷ 4 ∷ [])
    ∷ returning 1 ∷ returning 2 ∷ returning 3 ∷ []
    )

first_case : status_of switching (2 ^ 32 - 1) 0 [] [] 2 ≡ Returned (Some 1)
unfolding iterate run_step block_step steps step words word_of read put put_all targets junk_words meaning
first_case = refl

second_case : status_of switching 7 0 [] [] 2 ≡ Returned (Some 2)
unfolding iterate run_step block_step steps step words word_of read put put_all targets junk_words meaning
second_case = refl

no_case : status_of switching 0 0 [] [] 2 ≡ Returned (Some 3)
unfolding iterate run_step block_step steps step words word_of read put put_all targets junk_words meaning
no_case = refl
