-- What the commands promise of their answers for a text, and when they refuse one.
use Rattle.std.specs.Prelude.{◌≡◌, ℕ, ◌<◌, ◌≤◌, List, [], length, take, Option, Some, IfSome}
use Rattle.std.specs.Io.KnownBytes.{Appends}
use Rattle.b3_io.specs.Faults.{Rose}
use Rattle.b3_ir.specs.Procedure.{Procedure}
use Rattle.b3_module.specs.Limits.{IsFirstLimit, KeepsLimits}
use Rattle.b3_module.specs.Texts.{BadLine, Spells}
use Rattle.b3_module.specs.declared.fault.LimitName.{LimitName}
use Rattle.b3_print.specs.Printed.{canonical}
use Rattle.b3_rules.specs.Breaches.{Breach, IsFirstBreach}
use Rattle.b3_rules.specs.Numbers.{number_of}
use Rattle.b3_rules.specs.Valid.{IsValid}
use Rattle.elf_obj.specs.declared.object.Object.{Object}
use Rattle.elf_obj.specs.Elf.{Holds}
use Rattle.a64_run.specs.CodeOf.{IsCodeOf}
use Rattle.a64_object.specs.Joined.{IsJoinedOf}
use Rattle.b3c_core.specs.declared.compiler.Fault.{Fault}
use Rattle.b3c_core.specs.declared.compiler.Fault.TheVariants.{Syntax, Limit, Invalid, NoMemory}

-- the bytes of a file hold an object, which is the code of some procedures: the code and the frame of
-- each agree with it, so from each machine start that may begin it the machine shows the same as the run
-- of B3. Each site is that of a value of what its procedure was reduced to, and keeps that value's constraints.
-- The object is what the passes make of what the procedures were reduced to. Nothing is reduced yet, so that is the
-- procedures themselves
pub record IsFileWith (procedures : List Procedure) (object : Object) (file : List ℕ) : Type 0 where
  pub reduced : List Procedure
  pub holds : Holds file object
  pub small : length file ≤ 134_217_728
  pub code : IsCodeOf procedures reduced object
  pub joined : IsJoinedOf reduced object
  pub nothing_reduced : reduced ≡ procedures

-- it holds one such object
pub record IsFileOf (procedures : List Procedure) (file : List ℕ) : Type 0 where
  pub object : Object
  pub is : IsFileWith procedures object file

-- a text spells procedures within the limits
pub record IsTextOf (text : List ℕ) (procedures : List Procedure) : Type 0 where
  pub spells : Spells text procedures
  pub within : KeepsLimits procedures

-- a text spells the procedures of a valid module, and this is the file of their object
pub record IsCompiled (text file : List ℕ) : Type 0 where
  pub procedures : List Procedure
  pub text_of : IsTextOf text procedures
  pub valid : IsValid procedures
  pub file_of : IsFileOf procedures file

-- a text spells procedures, and this is their canonical text
pub record IsPrinted (text output : List ℕ) : Type 0 where
  pub procedures : List Procedure
  pub text_of : IsTextOf text procedures
  pub is : output ≡ canonical procedures

-- the bytes are no text, and this is their bad line
pub record IsNoText (text : List ℕ) (line : ℕ) : Type 0 where
  pub bad : BadLine text line
  pub none : (procedures : List Procedure) → IsTextOf text procedures → ⊥

-- the bytes are a text that passes this limit first, on this line
pub record IsPastLimit (text : List ℕ) (which : LimitName) (line : ℕ) : Type 0 where
  pub procedures : List Procedure
  pub spells : Spells text procedures
  pub first : IsFirstLimit procedures which line
  pub none : (others : List Procedure) → IsTextOf text others → ⊥

-- the bytes are a text that breaks the rule of this number first, on this line
pub record IsInvalid (text : List ℕ) (rule line : ℕ) : Type 0 where
  pub procedures : List Procedure
  pub text_of : IsTextOf text procedures
  pub breach : Breach
  pub first : IsFirstBreach procedures breach
  pub number : rule ≡ number_of breach.rule
  pub on_line : line ≡ breach.line
  pub none : (others : List Procedure) → IsTextOf text others → IsValid others → ⊥

-- why a text was not read: it is none, it passes a limit, or want of memory
abbrev pub IsTextCause : List ℕ → Fault → Type 0
IsTextCause text (Syntax line) = IsNoText text line
IsTextCause text (Limit which line) = IsPastLimit text which line
IsTextCause text (Invalid rule line) = ⊥
IsTextCause text NoMemory = Unit {0}

-- why a text was not compiled: it wasn't read, or it breaks a rule
abbrev pub IsCause : List ℕ → Fault → Type 0
IsCause text (Invalid rule line) = IsInvalid text rule line
IsCause text fault = IsTextCause text fault

-- a source was read to its end and gave these bytes, where it tells its bytes
pub record ReadsWhole (left left' : Option (List ℕ)) (text : List ℕ) : Type 0 where
  pub all : IfSome left (λ bytes. text ≡ bytes)
  pub end : IfSome left (λ _. left' ≡ Some [])

-- the sink took the whole of an output
pub record Writes (Output : List ℕ → Type 0) (held held' : Option (List ℕ)) : Type 0 where
  pub output : List ℕ
  pub is_output : Output output
  pub written : Appends held held' output

-- the sink's count of faults rose, and it took the front of an output alone
pub record WritesPart (Output : List ℕ → Type 0) (held held' : Option (List ℕ)) (faults faults' : ℕ) : Type 0 where
  pub output : List ℕ
  pub is_output : Output output
  pub count : ℕ
  pub short : count < length output
  pub written : Appends held held' (take count output)
  pub cause : Rose faults faults'
