-- The command line, the statuses and their lines, and the causes of each.
use Rattle.std.specs.Prelude.{◌≡◌, ◌⊎◌, ℕ, ◌^◌, ◌<◌, ◌≤◌, Bool, true, false, if◌then◌else◌, List, [], ◌∷◌, ◌++◌, length, take, codes, bytes_eq, Option, Some, None, option_map}
use Rattle.std.specs.Fmt.{decimal}
use Rattle.std.specs.Io.KnownBytes.{Appends}
use Rattle.b3_io.specs.Faults.{Rose}
use Rattle.b3_io.specs.Taken.{Takes}
use Rattle.b3_items.specs.Numbers.{below, digits_of, has_up_to}
use Rattle.b3_module.specs.declared.fault.LimitName.{LimitName}
use Rattle.b3_module.specs.declared.fault.LimitName.TheVariants as limits
use Rattle.b3c_core.specs.declared.command.Command.{Command}
use Rattle.b3c_core.specs.declared.command.Command.TheVariants as command
use Rattle.b3c_core.specs.declared.compiler.Fault.{Fault}
use Rattle.b3c_core.specs.declared.compiler.Fault.TheVariants as fault
use Rattle.b3c_core.specs.declared.ending.Ending.{Ending}
use Rattle.b3c_core.specs.declared.ending.Ending.TheVariants.{Written, Usage, ReadFault, TrialReadFault, WriteFault, TooLong, TrialTooLong, Syntax, Limit, Invalid, BadObject, BadTrial, Misplaced, NoMemory}
use Rattle.b3c_core.specs.declared.trying.EvalFault.{EvalFault}
use Rattle.b3c_core.specs.declared.trying.EvalFault.TheVariants as eval
use Rattle.b3c_core.specs.declared.trying.RunFault.{RunFault}
use Rattle.b3c_core.specs.declared.trying.RunFault.TheVariants as run
use Rattle.b3_trial.specs.Generated.{generated}
use Rattle.b3c_core.specs.Generating.{IsSummary}
use Rattle.b3c_core.specs.Compiled.{IsCause, IsCompiled, IsPrinted, IsTextCause, ReadsWhole, Writes, WritesPart}
use Rattle.b3c_core.specs.Tried.{IsEvalCause, IsEvaluated, IsRun, IsRunCause}

-- the most bytes that a text or a trial may have, and an object
abbrev pub text_limit : ℕ
text_limit = 16_777_216

abbrev pub object_limit : ℕ
object_limit = 134_217_728

-- ---- the command line

-- the command that one word names
abbrev pub command_named : List ℕ → Option Command
command_named word =
    if bytes_eq word (codes "compile") then Some command.Compile
    else (if bytes_eq word (codes "print") then Some command.Print else None)

-- the command that a word names before that of a trial's file
abbrev pub trial_command_named : List ℕ → Option Command
trial_command_named word =
    if bytes_eq word (codes "eval") then Some command.Eval
    else (if bytes_eq word (codes "run") then Some command.Run else None)

-- 1 to 10 decimal digits of a number below 2^32
unfoldable pub seed_of : List ℕ → Option ℕ
seed_of text = if has_up_to 10 text then below (2 ^ 32) (digits_of text) else None

-- the command that two words name: `gen` and a number, or one with a trial's file
abbrev pub command_with : List ℕ → List ℕ → Option Command
command_with word more =
    if bytes_eq word (codes "gen") then option_map command.Gen (seed_of more) else trial_command_named word

abbrev pub command_of : List (List ℕ) → Option Command
command_of (word ∷ []) = command_named word
command_of (word ∷ more ∷ []) = command_with word more
command_of _ = None

-- whether a command reads its input
abbrev pub reads_input : Command → Bool
reads_input (command.Gen n) = false
reads_input _ = true

-- whether a command reads a trial
abbrev pub takes_trial : Command → Bool
takes_trial command.Compile = false
takes_trial command.Print = false
takes_trial command.Eval = true
takes_trial command.Run = true
takes_trial (command.Gen n) = false

-- the most bytes that a command's input may have
abbrev pub limit_of : Command → ℕ
limit_of command.Run = object_limit
limit_of (command.Gen n) = 0
limit_of _ = text_limit

-- ---- what a command writes, and why it refuses

-- what a command writes for its input and its trial
abbrev pub output_of : Command → List ℕ → List ℕ → List ℕ → Type 0
output_of command.Compile input trial = IsCompiled input
output_of command.Print input trial = IsPrinted input
output_of command.Eval input trial = IsEvaluated input trial
output_of command.Run input trial = IsRun input trial
output_of (command.Gen n) input trial = IsSummary n

-- an ending that names a fault of a text has its cause
abbrev pub EndsText : (Fault → Type 0) → Ending → Type 0
EndsText Cause (Syntax line) = Cause (fault.Syntax line)
EndsText Cause (Limit which line) = Cause (fault.Limit which line)
EndsText Cause (Invalid rule line) = Cause (fault.Invalid rule line)
EndsText Cause NoMemory = Unit {0}
EndsText Cause _ = ⊥

abbrev pub EndsEval : List ℕ → List ℕ → Ending → Type 0
EndsEval text trial (BadTrial line) = IsEvalCause text trial (eval.Trial line)
EndsEval text trial Misplaced = (file : List ℕ) × IsEvalCause text trial (eval.Placement file)
EndsEval text trial ending = EndsText (IsCause text) ending

abbrev pub EndsRun : List ℕ → List ℕ → Ending → Type 0
EndsRun file trial (BadObject code byte) = IsRunCause file trial (run.Object code byte)
EndsRun file trial (BadTrial line) = IsRunCause file trial (run.Trial line)
EndsRun file trial Misplaced = IsRunCause file trial run.Placement
EndsRun file trial NoMemory = Unit {0}
EndsRun file trial _ = ⊥

-- why a command refuses its input and its trial
abbrev pub cause_of : Command → List ℕ → List ℕ → Ending → Type 0
cause_of command.Compile input trial = EndsText (IsCause input)
cause_of command.Print input trial = EndsText (IsTextCause input)
cause_of command.Eval input trial = EndsEval input trial
cause_of command.Run input trial = EndsRun input trial
cause_of (command.Gen n) input trial = EndsText (IsCause (generated n))

-- ---- endings

-- the status of an ending
abbrev pub status_of : Ending → ℕ
status_of Written = 0
status_of Usage = 2
status_of ReadFault = 3
status_of TrialReadFault = 3
status_of WriteFault = 4
status_of (Syntax line) = 5
status_of (Invalid rule line) = 6
status_of TooLong = 7
status_of TrialTooLong = 7
status_of (Limit which line) = 7
status_of (BadObject code byte) = 8
status_of (BadTrial line) = 8
status_of Misplaced = 8
status_of NoMemory = 9

-- what is limited, in words
abbrev pub limit_name : LimitName → List ℕ
limit_name limits.Procedures = codes "procedures"
limit_name limits.Values = codes "values"
limit_name limits.Children = codes "children"
limit_name limits.ProcedureValues = codes "procedure values"
limit_name limits.ProcedureBlocks = codes "procedure blocks"
limit_name limits.ProcedureChildren = codes "procedure children"
limit_name limits.Slots = codes "slots"
limit_name limits.SlotBytes = codes "slot bytes"

-- a line that names a place by its number
abbrev pub at_place : List ℕ → ℕ → List ℕ → List ℕ
at_place front number what = front ++ decimal number ++ codes ": " ++ what ++ codes "\n"

-- a line that names a line of the text
abbrev pub at_line : ℕ → List ℕ → List ℕ
at_line = at_place (codes "b3c: line ")

-- the line that an ending puts on the error stream
abbrev pub line_of : Ending → List ℕ
line_of Written = []
line_of Usage = codes "b3c: usage\n"
line_of ReadFault = codes "b3c: input: read fault\n"
line_of TrialReadFault = codes "b3c: trial: read fault\n"
line_of WriteFault = codes "b3c: write fault\n"
line_of TooLong = codes "b3c: input: limit bytes\n"
line_of TrialTooLong = codes "b3c: trial: limit bytes\n"
line_of NoMemory = codes "b3c: out of memory\n"
line_of (Syntax line) = at_line line (codes "syntax")
line_of (Invalid rule line) = at_line line (codes "invalid rule " ++ decimal rule)
line_of (Limit which line) = at_line line (codes "limit " ++ limit_name which)
line_of (BadObject code byte) = at_place (codes "b3c: byte ") byte (codes "bad object " ++ decimal code)
line_of (BadTrial line) = at_place (codes "b3c: trial line ") line (codes "syntax")
line_of Misplaced = codes "b3c: trial: placement\n"

-- the ending of a fault
abbrev pub ending_of : Fault → Ending
ending_of (fault.Syntax line) = Syntax line
ending_of (fault.Limit which line) = Limit which line
ending_of (fault.Invalid rule line) = Invalid rule line
ending_of fault.NoMemory = NoMemory

abbrev pub ending_of_eval : EvalFault → Ending
ending_of_eval (eval.Text refusal) = ending_of refusal
ending_of_eval (eval.Trial line) = BadTrial line
ending_of_eval (eval.Placement file) = Misplaced

abbrev pub ending_of_run : RunFault → Ending
ending_of_run (run.Object code byte) = BadObject code byte
ending_of_run (run.Trial line) = BadTrial line
ending_of_run run.Placement = Misplaced
ending_of_run run.NoMemory = NoMemory

-- ---- what has come about

-- what a call of the tool was given and did to its streams: the words, what input and trial told and
-- tell of the bytes that are left, what the output told and tells of the bytes that it holds,
-- and the counts of faults before and after
pub record Call : Type 0 where
  pub words : List (List ℕ)
  pub left : Option (List ℕ)
  pub left' : Option (List ℕ)
  pub input_faults : ℕ
  pub input_faults' : ℕ
  pub trial_left : Option (List ℕ)
  pub trial_left' : Option (List ℕ)
  pub trial_faults : ℕ
  pub trial_faults' : ℕ
  pub held : Option (List ℕ)
  pub held' : Option (List ℕ)
  pub output_faults : ℕ
  pub output_faults' : ℕ

-- an ending that comes only once the inputs were read
abbrev pub IsAfterReading : Ending → Type 0
IsAfterReading Usage = ⊥
IsAfterReading ReadFault = ⊥
IsAfterReading TrialReadFault = ⊥
IsAfterReading TooLong = ⊥
IsAfterReading TrialTooLong = ⊥
IsAfterReading _ = Unit {0}

-- an ending that refuses what was read
abbrev pub IsRefusal : Ending → Type 0
IsRefusal Written = ⊥
IsRefusal WriteFault = ⊥
IsRefusal ending = IsAfterReading ending

-- what has come about at an ending that follows once all was read, for a command whose outputs and whose
-- refusals are these: nothing for endings that come before
abbrev pub HasAnswered : (List ℕ → Type 0) → (Ending → Type 0) → Call → Ending → Type 0
HasAnswered Output Cause call Written = Writes Output call.held call.held'
HasAnswered Output Cause call WriteFault = WritesPart Output call.held call.held' call.output_faults call.output_faults'
HasAnswered Output Cause call NoMemory = Unit {0}
HasAnswered Output Cause call Usage = ⊥
HasAnswered Output Cause call ReadFault = ⊥
HasAnswered Output Cause call TrialReadFault = ⊥
HasAnswered Output Cause call TooLong = ⊥
HasAnswered Output Cause call TrialTooLong = ⊥
HasAnswered Output Cause call ending = Cause ending

-- an input was read to its end, none of its reads failed, and it has no more bytes than it may; a command that reads none
-- has none
abbrev pub HasReadInput : Bool → ℕ → Call → List ℕ → Type 0
HasReadInput true limit call input =
    ReadsWhole call.left call.left' input × (length input ≤ limit) × (call.input_faults' ≡ call.input_faults)
HasReadInput false limit call input = input ≡ []

-- a trial was read to its end, none of its reads failed, and it has no more bytes than it may; a command without one has
-- none
abbrev pub HasReadTrial : Bool → Call → List ℕ → Type 0
HasReadTrial true call trial =
    ReadsWhole call.trial_left call.trial_left' trial × (length trial ≤ text_limit)
    × (call.trial_faults' ≡ call.trial_faults)
HasReadTrial false call trial = trial ≡ []

-- the words name a command, whose input and whose trial were read
pub record HasRead (call : Call) (ending : Ending) : Type 0 where
  pub command : Command
  pub named : command_of call.words ≡ Some command
  pub input : List ℕ
  pub read : HasReadInput (reads_input command) (limit_of command) call input
  pub trial : List ℕ
  pub tried : HasReadTrial (takes_trial command) call trial
  pub answered : HasAnswered (output_of command input trial) (cause_of command input trial) call ending

-- more bytes came than may, from the input of a command that reads one, or from the trial of one that takes one, once its
-- input was read
pub record PassesInput (call : Call) : Type 0 where
  pub command : Command
  pub named : command_of call.words ≡ Some command
  pub reads : reads_input command ≡ true
  pub long : Takes (λ n. limit_of command < n) call.left call.left'

pub record PassesTrial (call : Call) : Type 0 where
  pub command : Command
  pub named : command_of call.words ≡ Some command
  pub takes : takes_trial command ≡ true
  pub input : List ℕ
  pub read : HasReadInput (reads_input command) (limit_of command) call input
  pub long : Takes (λ n. text_limit < n) call.trial_left call.trial_left'

-- a read failed, of the input of a command that reads one, or of the trial of one that takes one, once its input was read
pub record FailsInput (call : Call) : Type 0 where
  pub command : Command
  pub named : command_of call.words ≡ Some command
  pub reads : reads_input command ≡ true
  pub rose : Rose call.input_faults call.input_faults'

pub record FailsTrial (call : Call) : Type 0 where
  pub command : Command
  pub named : command_of call.words ≡ Some command
  pub takes : takes_trial command ≡ true
  pub input : List ℕ
  pub read : HasReadInput (reads_input command) (limit_of command) call input
  pub rose : Rose call.trial_faults call.trial_faults'

-- what has come about at each ending
abbrev pub HasEnded : Call → Ending → Type 0
HasEnded call Usage = command_of call.words ≡ None
HasEnded call ReadFault = FailsInput call
HasEnded call TrialReadFault = FailsTrial call
HasEnded call TooLong = PassesInput call
HasEnded call TrialTooLong = PassesTrial call
HasEnded call NoMemory = Unit {0}
HasEnded call ending = HasRead call ending

-- the words name a command, whose input was read
pub record HasReadItsInput (call : Call) : Type 0 where
  pub command : Command
  pub named : command_of call.words ≡ Some command
  pub input : List ℕ
  pub read : HasReadInput (reads_input command) (limit_of command) call input

-- the order of reading, where the first fact says that the trial is as it was: so it is at each ending that comes before
-- it is read. Want of memory comes before that too, or once the input was read; and each other ending says itself that
-- the input was read
abbrev pub LeavesTrial : Type 0 → Call → Ending → Type 0
LeavesTrial Unread call Usage = Unread
LeavesTrial Unread call ReadFault = Unread
LeavesTrial Unread call TooLong = Unread
LeavesTrial Unread call NoMemory = Unread ⊎ HasReadItsInput call
LeavesTrial Unread call _ = Unit {0}

-- a sink took this line, or its count of faults rose and it took a prefix of it
pub record TakesLine (line : List ℕ) (held held' : Option (List ℕ)) (faults faults' : ℕ) : Type 0 where
  pub count : ℕ
  pub taken : Appends held held' (take count line)
  pub cause : count < length line → Rose faults faults'
