-- What the commands promise that run a trial: of the procedures of a text, and of an object.
use Rattle.std.specs.Prelude.{◌≡◌, ◌≢◌, ℕ, ◌*◌, ◌≤◌, List, All, Err, Some, slice_get}
use Rattle.b3_base.specs.Observed.{Answer, MachineStart, Observation}
use Rattle.b3_base.specs.Ranged.{IsRangedAnswer}
use Rattle.b3_base.specs.declared.observation.Status.TheVariants.{Going, Undefined}
use Rattle.b3_ir.specs.Procedure.{Procedure}
use Rattle.b3_meaning.specs.Run.{Lost, Malformed, b3_run, run_of}
use Rattle.b3_trial.specs.Shown.{shown}
use Rattle.b3_trial.specs.Trials.{BadLine, Spells, Trial}
use Rattle.elf_obj.specs.Read.{IsFileOf as IsObjectOf}
use Rattle.elf_obj.specs.Reading.{read_object}
use Rattle.elf_obj.specs.declared.fault.ObjectFault.TheVariants.{Bad}
use Rattle.elf_obj.specs.declared.object.Object.{Object}
use Rattle.elf_obj.specs.declared.object.Symbol.{Symbol}
use Rattle.exit_table.specs.declared.tables.FrameRow.{FrameRow}
use Rattle.a64_run.specs.Agrees.{entry_of, word_count}
use Rattle.a64_run.specs.Finding.{MayBegin}
use Rattle.a64_run.specs.Machine.{machine_run}
use Rattle.a64_run.specs.Placement.{Places, start_of}
use Rattle.b3c_core.specs.Compiled.{IsCause, IsCompiled}
use Rattle.b3c_core.specs.declared.trying.EvalFault.{EvalFault}
use Rattle.b3c_core.specs.declared.trying.EvalFault.TheVariants as eval
use Rattle.b3c_core.specs.declared.trying.RunFault.{RunFault}
use Rattle.b3c_core.specs.declared.trying.RunFault.TheVariants as run

-- the trial may begin the procedure that it names in an object
pub record Begins (o : Object) (t : Trial) : Type 0 where
  pub symbol : Symbol
  pub frame : FrameRow
  pub may : MayBegin o t.name t.start symbol frame

-- ---- the run of B3

-- a file is what `compile` gives for a text, and a trial may begin a procedure of its object: this is printed of
-- the run of that procedure of the text, from the start that agrees, after the trial's number of block steps
pub record IsEvaluatedOver (text trial file output : List ℕ) : Type 0 where
  pub compiled : IsCompiled text file
  pub tried : Trial
  pub spells : Spells trial tried
  pub begins : Begins compiled.file_of.object tried
  pub place : ℕ
  pub procedure : Procedure
  pub there : slice_get compiled.procedures place ≡ Some procedure
  pub named : procedure.name ≡ tried.name
  pub ranged : All IsRangedAnswer tried.answers
  pub is : output ≡ shown (b3_run procedure (start_of compiled.file_of.object begins.frame tried.start) tried.answers tried.blocks)

abbrev pub IsEvaluated : List ℕ → List ℕ → List ℕ → Type 0
IsEvaluated text trial output = (file : List ℕ) × IsEvaluatedOver text trial file output

-- ---- the run of the machine

-- a trial may begin a procedure of an object: this is printed of the machine's run of that procedure after the
-- trial's number of steps
pub record IsRunOf (o : Object) (t : Trial) (output : List ℕ) : Type 0 where
  pub begins : Begins o t
  pub is : output ≡ shown (machine_run (entry_of o begins.symbol begins.frame t.start) t.answers t.steps)

-- a file holds a good object, other bytes a trial, and this is printed of its run
pub record IsRun (file trial output : List ℕ) : Type 0 where
  pub object : Object
  pub holds : IsObjectOf file object
  pub tried : Trial
  pub spells : Spells trial tried
  pub run : IsRunOf object tried output

-- ---- both runs

-- what was seen of an evaluated run
abbrev pub seen_of : {text trial file output : List ℕ} → IsEvaluatedOver text trial file output → Observation
seen_of e = b3_run e.procedure (start_of e.compiled.file_of.object e.begins.frame e.tried.start) e.tried.answers e.tried.blocks

-- where an evaluated run has ended, or waits, and isn't undefined, and the trial has 2 steps for each of its blocks
-- and each word of the procedure's code, the same is printed of the machine's run of the file
abbrev pub EvaluatedRunsAgree : Type 0
EvaluatedRunsAgree = (text trial file output : List ℕ) (e : IsEvaluatedOver text trial file output)
    → (seen_of e).status ≢ Going → (seen_of e).status ≢ Undefined
    → e.tried.blocks * (2 * word_count e.begins.symbol) ≤ e.tried.steps → IsRun file trial output

-- ---- runs that are lost

-- no run of a procedure of a compiled text is lost as malformed, where it begins at the start that agrees with a
-- machine start that may begin the procedure, and the answers are in range: where such a run is undefined it did
-- what B3 leaves undefined
abbrev pub CompiledNeverMalformed : Type 0
CompiledNeverMalformed = (text file : List ℕ) (c : IsCompiled text file) (k : ℕ) (p : Procedure)
    (symbol : Symbol) (frame : FrameRow) (m : MachineStart) (answers : List Answer) (n : ℕ)
    → slice_get c.procedures k ≡ Some p → slice_get c.file_of.object.symbols k ≡ Some symbol
    → slice_get c.file_of.object.tables.frames k ≡ Some frame
    → Places c.file_of.object symbol frame m → All IsRangedAnswer answers
    → run_of p (start_of c.file_of.object frame m) answers n ≢ Lost Malformed

-- ---- refusals

-- the bytes are no trial, and this is their bad line
pub record IsNoTrial (trial : List ℕ) (line : ℕ) : Type 0 where
  pub bad : BadLine trial line
  pub none : (t : Trial) → Spells trial t → ⊥

-- the bytes are no file of a good object, and their first fault has this number and stands at this byte
pub record IsNoObject (file : List ℕ) (code byte : ℕ) : Type 0 where
  pub first : read_object file ≡ Err (Bad code byte)
  pub none : (o : Object) → IsObjectOf file o → ⊥

-- the text has an object, by this file, in which the trial may not begin the procedure that it names
pub record IsMisplacedOver (text trial file : List ℕ) : Type 0 where
  pub compiled : IsCompiled text file
  pub tried : Trial
  pub spells : Spells trial tried
  pub misplaced : ¬ (Begins compiled.file_of.object tried)

pub record IsMisplacedIn (file trial : List ℕ) : Type 0 where
  pub object : Object
  pub holds : IsObjectOf file object
  pub tried : Trial
  pub spells : Spells trial tried
  pub misplaced : ¬ (Begins object tried)

-- why a text was not evaluated: it has no object, the trial is none, or it may not begin
abbrev pub IsEvalCause : List ℕ → List ℕ → EvalFault → Type 0
IsEvalCause text trial (eval.Text refusal) = IsCause text refusal
IsEvalCause text trial (eval.Trial line) = ((file : List ℕ) × IsCompiled text file) × IsNoTrial trial line
IsEvalCause text trial (eval.Placement file) = IsMisplacedOver text trial file

-- why the run of a trial over an object gave nothing
abbrev pub IsRunFaultOf : Object → Trial → RunFault → Type 0
IsRunFaultOf o t run.Placement = ¬ (Begins o t)
IsRunFaultOf o t run.NoMemory = Unit {0}
IsRunFaultOf o t _ = ⊥

-- why an object was not run
abbrev pub IsRunCause : List ℕ → List ℕ → RunFault → Type 0
IsRunCause file trial (run.Object code byte) = IsNoObject file code byte
IsRunCause file trial (run.Trial line) = ((o : Object) × IsObjectOf file o) × IsNoTrial trial line
IsRunCause file trial run.Placement = IsMisplacedIn file trial
IsRunCause file trial run.NoMemory = Unit {0}
