-- What has come about at an ending, put together; and that bytes spell one module alone.
use Rattle.std.proofs.Common.{◌≡◌, ℕ, ◌<◌, ◌≤◌, true, false, List, [], length, Some, Ok, Err, refl, sym, subst, ◌∙◌, inl, inr}
use Rattle.std.specs.Prelude.{Result}
use Rattle.b3_io.specs.Faults.{Rose}
use Rattle.b3_io.specs.Taken.{Takes}
use Rattle.b3_ir.specs.Procedure.{Procedure}
use Rattle.b3_module.specs.Limits.{IsFirstLimit, KeepsLimits}
use Rattle.b3_module.specs.Texts.{BadLine, Spells}
use Rattle.b3_module.specs.declared.fault.LimitName.{LimitName}
use Rattle.b3_module.proofs.BadLines.{text_is_good}
use Rattle.b3_lines.specs.Lines.{lines_of}
use Rattle.b3c_core.specs.declared.command.Command.{Command}
use Rattle.b3c_core.specs.declared.command.Command.TheVariants as commands
use Rattle.b3c_core.specs.declared.ending.Ending.{Ending}
use Rattle.b3c_core.specs.declared.ending.Ending.TheVariants.{Written, Usage, ReadFault, TrialReadFault, WriteFault, TooLong, TrialTooLong, Syntax, Limit, Invalid, BadObject, BadTrial, Misplaced, NoMemory}
use Rattle.b3c_core.specs.Compiled.{IsNoText, IsPastLimit, ReadsWhole}
use Rattle.b3c_core.specs.Tool.{Call, FailsTrial, HasAnswered, HasEnded, HasRead, HasReadInput, HasReadItsInput, HasReadTrial, IsAfterReading, LeavesTrial, PassesTrial, cause_of, command_of, limit_of, output_of, reads_input, takes_trial, text_limit}

-- an ending that follows once all was read
has_read : (call : Call) (ending : Ending) (command : Command) (input trial : List ℕ) → command_of call.words ≡ Some command
    → HasReadInput (reads_input command) (limit_of command) call input → HasReadTrial (takes_trial command) call trial
    → HasAnswered (output_of command input trial) (cause_of command input trial) call ending → HasRead call ending
has_read call ending command input trial named read tried h =
    record { command = command; named = named; input = input; read = read; trial = trial; tried = tried; answered = h }

pub ended_after : (call : Call) (ending : Ending) (command : Command) (input trial : List ℕ) → command_of call.words ≡ Some command
    → HasReadInput (reads_input command) (limit_of command) call input → HasReadTrial (takes_trial command) call trial
    → HasAnswered (output_of command input trial) (cause_of command input trial) call ending → HasEnded call ending
ended_after call Written command input trial named read tried h = has_read call Written command input trial named read tried h
ended_after call WriteFault command input trial named read tried h = has_read call WriteFault command input trial named read tried h
ended_after call (Syntax line) command input trial named read tried h = has_read call (Syntax line) command input trial named read tried h
ended_after call (Limit which line) command input trial named read tried h = has_read call (Limit which line) command input trial named read tried h
ended_after call (Invalid rule line) command input trial named read tried h = has_read call (Invalid rule line) command input trial named read tried h
ended_after call (BadObject code byte) command input trial named read tried h = has_read call (BadObject code byte) command input trial named read tried h
ended_after call (BadTrial line) command input trial named read tried h = has_read call (BadTrial line) command input trial named read tried h
ended_after call Misplaced command input trial named read tried h = has_read call Misplaced command input trial named read tried h
ended_after call NoMemory command input trial named read tried h = tt
ended_after call Usage command input trial named read tried h = absurd h
ended_after call ReadFault command input trial named read tried h = absurd h
ended_after call TrialReadFault command input trial named read tried h = absurd h
ended_after call TooLong command input trial named read tried h = absurd h
ended_after call TrialTooLong command input trial named read tried h = absurd h

-- ---- what is read

pub has_input : (call : Call) (command : Command) (input : List ℕ) → reads_input command ≡ true → ReadsWhole call.left call.left' input
    → length input ≤ limit_of command → call.input_faults' ≡ call.input_faults → HasReadInput (reads_input command) (limit_of command) call input
has_input call command input reads whole small steady = subst (λ b. HasReadInput b (limit_of command) call input) (sym reads) (whole, small, steady)

pub no_input : (call : Call) (command : Command) (input : List ℕ) → reads_input command ≡ false → input ≡ [] → HasReadInput (reads_input command) (limit_of command) call input
no_input call command input reads none = subst (λ b. HasReadInput b (limit_of command) call input) (sym reads) none

-- a command that reads no input takes no trial
pub no_trial_either : (call : Call) (command : Command) → reads_input command ≡ false → HasReadTrial (takes_trial command) call []
no_trial_either call (commands.Gen n) reads = refl
no_trial_either call commands.Compile reads = absurd cc
no_trial_either call commands.Print reads = absurd cc
no_trial_either call commands.Eval reads = absurd cc
no_trial_either call commands.Run reads = absurd cc

-- what a reading says unless it failed, where it succeeded
pub where_read : {X E : Type 0} (P : Type 0) (answer : Result X E) (x : X) (fault : E) → answer ≡ Ok x → ((answer ≡ Err fault → ⊥) → P) → P
where_read P answer x fault is told = told (λ failed. no x fault (sym is ∙ failed))
  where
    no : {X E : Type 0} (x : X) (fault : E) → Ok x ≡ Err fault → ⊥
    no x fault e = cc

pub fails_trial : (call : Call) (command : Command) (input : List ℕ) → command_of call.words ≡ Some command → takes_trial command ≡ true
    → HasReadInput (reads_input command) (limit_of command) call input → Rose call.trial_faults call.trial_faults' → FailsTrial call
fails_trial call command input named takes read rose = record { command = command; named = named; takes = takes; input = input; read = read; rose = rose }

pub passes_trial : (call : Call) (command : Command) (input : List ℕ) → command_of call.words ≡ Some command → takes_trial command ≡ true
    → HasReadInput (reads_input command) (limit_of command) call input → Takes (λ n. text_limit < n) call.trial_left call.trial_left' → PassesTrial call
passes_trial call command input named takes read long = record { command = command; named = named; takes = takes; input = input; read = read; long = long }

-- ---- the order of reading

pub read_first : (call : Call) (command : Command) (input : List ℕ) → command_of call.words ≡ Some command
    → HasReadInput (reads_input command) (limit_of command) call input → HasReadItsInput call
read_first call command input named read = record { command = command; named = named; input = input; read = read }

-- a trial that isn't read is left, whatever the ending
pub leaves_unread : (Unread : Type 0) (call : Call) (ending : Ending) → Unread → LeavesTrial Unread call ending
leaves_unread Unread call Usage unread = unread
leaves_unread Unread call ReadFault unread = unread
leaves_unread Unread call TooLong unread = unread
leaves_unread Unread call NoMemory unread = inl unread
leaves_unread Unread call _ unread = tt

-- one that is read is so once the input was
pub leaves_read : (Unread : Type 0) (call : Call) (ending : Ending) → IsAfterReading ending → HasReadItsInput call → LeavesTrial Unread call ending
leaves_read Unread call Usage after read = absurd after
leaves_read Unread call ReadFault after read = absurd after
leaves_read Unread call TooLong after read = absurd after
leaves_read Unread call NoMemory after read = inr read
leaves_read Unread call _ after read = tt

-- ---- one module

same_some : {X : Type 0} (x y : X) → Some x ≡ Some y → x ≡ y
same_some x y e = cc

pub one_module : (text : List ℕ) (m n : List Procedure) → Spells text m → Spells text n → m ≡ n
one_module text m n first second = same_some m n (sym first ∙ second)

pub no_text : (text : List ℕ) (line : ℕ) → BadLine text line → IsNoText text line
no_text text line bad = record { bad = bad; none = λ m h. text_is_good (lines_of text) m line h.spells bad }

pub past_limit : (text : List ℕ) (which : LimitName) (line : ℕ) (m : List Procedure) → Spells text m → IsFirstLimit m which line → IsPastLimit text which line
past_limit text which line m spells first = record {
  procedures = m;
  spells = spells;
  first = first;
  none = λ others h. (subst KeepsLimits (one_module text others m h.spells spells) h.within) which line first.passes;
}
