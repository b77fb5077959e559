-- Which bytes are a trial, what it says, and which line of other bytes is bad. The first line that says something
-- names the procedure; the others may stand in any order.
use Rattle.std.specs.Prelude.{◌≡◌, ℕ, zero, suc, ◌+◌, ◌-◌, ◌^◌, ◌≤◌, ◌⊎◌, Bool, true, false, ◌&&◌, ◌||◌, not, nat_lt, nat_le, is_some, if◌then◌else◌, List, [], ◌∷◌, ◌++◌, length, map, take, replicate, slice_index, slice_index_or, slice_set, Option, Some, None, option_map, option_and_then}
use Rattle.std.specs.Option.{unwrap_or}
use Rattle.std.specs.FinMap as map
use Rattle.b3_base.specs.Memory.{map_bytes}
use Rattle.b3_base.specs.Observed.{Answer, MachineStart, Memory, answer_of, byte_or_zero, machine_start_of, no_memory}
use Rattle.b3_base.specs.Observed.{Give as GiveAnswer, Leave as LeaveAnswer}
use Rattle.b3_lines.specs.Lines.{lines_of}
use Rattle.b3_trial.specs.Lines.{line_of}
use Rattle.b3_trial.specs.declared.line.Line.{Line}
use Rattle.b3_trial.specs.declared.line.Line.TheVariants as lines
use Rattle.b3_trial.specs.declared.line.Piece.{Piece}
use Rattle.b3_trial.specs.declared.reading.Trial.{Trial as GivenTrial}
use Rattle.b3_trial.specs.declared.so_far.SoFar.{SoFar as GivenSoFar}

-- ---- what a trial says

-- the procedure that is run, the start of the machine's run, what the outside answers, and how many blocks and
-- steps are run
pub record Trial : Type 0 where
  pub name : List ℕ
  pub start : MachineStart
  pub answers : List Answer
  pub blocks : ℕ
  pub steps : ℕ

-- what the lines so far say: of each number that may stand once whether it stood, and the bytes that `bytes` and
-- `stack` lines put at addresses
pub record SoFar : Type 0 where
  pub name : Option (List ℕ)
  pub registers : List ℕ
  pub is_given : List Bool
  pub sp : Option ℕ
  pub code : Option ℕ
  pub blocks : Option ℕ
  pub steps : Option ℕ
  pub memory : Memory
  pub mapped : ℕ
  pub stack : Memory
  pub junk : List ℕ
  pub answers : List Answer

-- ---- limits

-- bytes of the `bytes` lines, answers, words of junk, blocks and steps
abbrev pub most_mapped : ℕ
most_mapped = 65536

abbrev pub most_answers : ℕ
most_answers = 256

abbrev pub most_junk : ℕ
most_junk = 8224

abbrev pub most_blocks : ℕ
most_blocks = 2 ^ 20

abbrev pub most_steps : ℕ
most_steps = 2 ^ 45

-- ---- bytes at addresses

-- whether one of the n addresses from `address` on is mapped
unfoldable pub is_any_mapped : Memory → ℕ → ℕ → Bool
is_any_mapped m address zero = false
is_any_mapped m address (suc n) = is_any_mapped m address n || is_some (m (address + n))

-- a memory with a piece more: no address is mapped twice, and none is past 2^64
unfoldable pub with_piece : Memory → Piece → Option Memory
with_piece m piece =
    if nat_le (piece.address + length piece.bytes) (2 ^ 64) && not (is_any_mapped m piece.address (length piece.bytes))
    then Some (map_bytes m piece.address piece.bytes)
    else None

abbrev pub with_pieces : Memory → List Piece → Option Memory
with_pieces m [] = Some m
with_pieces m (piece ∷ pieces) = option_and_then (λ more. with_pieces more pieces) (with_piece m piece)

-- ---- what a line adds

abbrev pub with_register : SoFar → ℕ → ℕ → Option SoFar
with_register s number word =
    if nat_lt number 31 && not (slice_index_or s.is_given number false)
    then Some (record s { registers = slice_set s.registers number word; is_given = slice_set s.is_given number true })
    else None

-- a word that may stand once, and at most as large as its limit
abbrev pub once : Option ℕ → ℕ → Option (Option ℕ)
once before word = if is_some before then None else Some (Some word)

abbrev pub once_up_to : ℕ → Option ℕ → ℕ → Option (Option ℕ)
once_up_to most before word = if nat_le word most then once before word else None

abbrev pub with_mapped : SoFar → Piece → Option SoFar
with_mapped s piece =
    if nat_le (s.mapped + length piece.bytes) most_mapped
    then option_map (λ memory. record s { memory = memory; mapped = s.mapped + length piece.bytes })
    (with_piece s.memory piece)
    else None

abbrev pub with_junk : SoFar → ℕ → Option SoFar
with_junk s word = if nat_lt (length s.junk) most_junk then Some (record s { junk = s.junk ++ word ∷ [] }) else None

abbrev pub with_answer : SoFar → Answer → Option SoFar
with_answer s answer =
    if nat_lt (length s.answers) most_answers then Some (record s { answers = s.answers ++ answer ∷ [] }) else None

abbrev pub with_give : SoFar → ℕ → List Piece → Option SoFar
with_give s value writes = option_and_then (λ m. with_answer s (GiveAnswer value m)) (with_pieces no_memory writes)

-- a line behind the one that names the procedure
abbrev pub said : SoFar → Line → Option SoFar
said s lines.Nothing = Some s
said s (lines.Procedure name) = None
said s (lines.Register number word) = with_register s number word
said s (lines.StackPointer word) = option_map (λ sp. record s { sp = sp }) (once s.sp word)
said s (lines.Code word) = option_map (λ code. record s { code = code }) (once s.code word)
said s (lines.Blocks word) = option_map (λ blocks. record s { blocks = blocks }) (once_up_to most_blocks s.blocks word)
said s (lines.Steps word) = option_map (λ steps. record s { steps = steps }) (once_up_to most_steps s.steps word)
said s (lines.Mapped piece) = with_mapped s piece
said s (lines.Stack piece) = option_map (λ stack. record s { stack = stack }) (with_piece s.stack piece)
said s (lines.Junk word) = with_junk s word
said s lines.Leave = with_answer s LeaveAnswer
said s (lines.Give value writes) = with_give s value writes

-- the first line that says something
abbrev pub named : SoFar → Line → Option SoFar
named s lines.Nothing = Some s
named s (lines.Procedure name) = Some (record s { name = Some name })
named s _ = None

abbrev pub added : SoFar → Line → Option SoFar
added s line = if is_some s.name then said s line else named s line

-- ---- whole trials

-- a line that says nothing good adds nothing
abbrev pub added_to : Option SoFar → Option Line → Option SoFar
added_to (Some s) (Some line) = added s line
added_to (Some s) None = None
added_to None line = None

-- what lines lead to
abbrev pub led : Option SoFar → List (List ℕ) → Option SoFar
led s [] = s
led s (line ∷ more) = led (added_to s (line_of line)) more

abbrev pub default_registers : List ℕ
default_registers = replicate 30 0 ++ 0x30000000 ∷ []

abbrev pub first : SoFar
first = record {
  name = None;
  registers = default_registers;
  is_given = replicate 31 false;
  sp = None;
  code = None;
  blocks = None;
  steps = None;
  memory = no_memory;
  mapped = 0;
  stack = no_memory;
  junk = [];
  answers = [];
}

abbrev pub start_in : SoFar → MachineStart
start_in s = record {
  registers = slice_index s.registers;
  sp = unwrap_or s.sp 0x80000000;
  code = unwrap_or s.code 0x40000000;
  memory = s.memory;
  stack = λ address. byte_or_zero (s.stack address);
  junk = slice_index s.junk;
}

abbrev pub trial_in : SoFar → List ℕ → Trial
trial_in s name = record {
  name = name;
  start = start_in s;
  answers = s.answers;
  blocks = unwrap_or s.blocks 1000;
  steps = unwrap_or s.steps 1000000;
}

abbrev pub ended : Option SoFar → Option Trial
ended None = None
ended (Some s) = option_map (trial_in s) s.name

-- the trial that lines spell
abbrev pub spelled : List (List ℕ) → Option Trial
spelled text = ended (led (Some first) text)

-- the bytes are the text of this trial
abbrev pub Spells : List ℕ → Trial → Type 0
Spells bytes t = spelled (lines_of bytes) ≡ Some t

-- ---- the bad line

-- lines are the text of some trial, or they begin one
abbrev pub IsTrial : List (List ℕ) → Type 0
IsTrial text = (t : Trial) × (spelled text ≡ Some t)

abbrev pub BeginsTrial : List (List ℕ) → Type 0
BeginsTrial text = (more : List (List ℕ)) × IsTrial (text ++ more)

-- the bad line, counted from 1: the least with which lines no longer begin a trial, or one more than the number of
-- lines where all of them begin a trial but are none
pub record IsBadLine (text : List (List ℕ)) (line : ℕ) : Type 0 where
  pub counted : 1 ≤ line
  pub before : BeginsTrial (take (line - 1) text)
  pub here : ((line ≤ length text) × ¬ (BeginsTrial (take line text))) ⊎ ((line ≡ length text + 1) × ¬ (IsTrial text))

abbrev pub BadLine : List ℕ → ℕ → Type 0
BadLine bytes line = IsBadLine (lines_of bytes) line

-- ---- what the program's values stand for

abbrev pub trial_of : GivenTrial → Trial
trial_of t = record {
  name = t.name;
  start = machine_start_of t.start;
  answers = map answer_of t.answers;
  blocks = t.blocks;
  steps = t.steps;
}

abbrev pub so_far_of : GivenSoFar → SoFar
so_far_of s = record {
  name = s.name;
  registers = s.registers;
  is_given = s.is_given;
  sp = s.sp;
  code = s.code;
  blocks = s.blocks;
  steps = s.steps;
  memory = map.get s.memory;
  mapped = s.mapped;
  stack = map.get s.stack;
  junk = s.junk;
  answers = map answer_of s.answers;
}
