-- Where nothing failed and the inputs are good, a call ends with its output or for want of memory.
use Rattle.std.proofs.Common.{◌≡◌, ◌<◌, ◌≤◌, ◌⊎◌, ◌++◌, ◌+◌, ◌^◌, ℕ, List, Option, Some, None, Ok, true, length, inl, inr, refl, sym, subst, ap, ◌∙◌, arith}
use Rattle.std.proofs.Math.ListN.{length-append}
use Rattle.std.specs.Io.KnownBytes.{Consumes}
use Rattle.b3_io.specs.Faults.{Rose}
use Rattle.b3_io.specs.Taken.{Takes}
use Rattle.b3_ir.specs.Procedure.{Procedure}
use Rattle.b3_rules.specs.Valid.{IsValid}
use Rattle.b3_trial.specs.Generated.{generated}
use Rattle.b3_trial.specs.Trials.{Spells, Trial}
use Rattle.elf_obj.specs.Read.{IsFileOf as IsObjectOf}
use Rattle.elf_obj.specs.Reading.{read_object}
use Rattle.elf_obj.specs.declared.object.Object.{Object}
use Rattle.elf_obj.proofs.FileLaws.{object_again}
use Rattle.b3c_core.specs.declared.command.Command.{Command}
use Rattle.b3c_core.specs.declared.command.Command.TheVariants as command
use Rattle.b3c_core.specs.declared.ending.Ending.{Ending}
use Rattle.b3c_core.specs.declared.ending.Ending.TheVariants.{Written, Usage, ReadFault, TrialReadFault, WriteFault, TooLong, TrialTooLong, Syntax, Limit, Invalid, BadObject, BadTrial, Misplaced, NoMemory}
use Rattle.b3c_core.specs.Compiled.{IsCause, IsCompiled, IsTextOf, ReadsWhole}
use Rattle.b3c_core.specs.Generating.{IsSummary}
use Rattle.b3c_core.specs.Tried.{Begins}
use Rattle.b3c_core.specs.Tool.{Call, EndsText, HasAnswered, HasEnded, HasRead, HasReadInput, HasReadTrial, PassesInput, cause_of, command_of, limit_of, output_of, reads_input, status_of, takes_trial, text_limit}

same_some : {X : Type 0} (x y : X) → Some x ≡ Some y → x ≡ y
same_some x y e = cc

-- ---- what was read

same_command : (call : Call) (a b : Command) → command_of call.words ≡ Some a → command_of call.words ≡ Some b → a ≡ b
same_command call a b left right = same_some a b (sym left ∙ right)

taken_within : (text taken : List ℕ) (left' : Option (List ℕ)) → Consumes (Some text) left' taken → length taken ≤ length text
taken_within text taken None h = absurd h
taken_within text taken (Some rest) h =
    let whole : length text ≡ length (taken ++ rest) = ap length h in
    let parts : length (taken ++ rest) ≡ length taken + length rest = length-append taken rest in
    omega (arith, whole, parts)

not_long : (limit : ℕ) (left left' : Option (List ℕ)) (text : List ℕ) → left ≡ Some text → length text ≤ limit → ¬ (Takes (λ n. limit < n) left left')
not_long limit left left' text is small t =
    let within : length t.taken ≤ length text = taken_within text t.taken left' (subst (λ l. Consumes l left' t.taken) is t.consumed) in
    omega (arith, t.count, within, small)

all_of : (left left' : Option (List ℕ)) (text read : List ℕ) → left ≡ Some text → ReadsWhole left left' read → read ≡ text
all_of (Some bytes) left' text read is whole = whole.all ∙ same_some bytes text is
all_of None left' text read is whole = absurd (no is)
  where
    no : None ≡ Some text → ⊥
    no e = cc

-- what an ending that follows reading says of a command and an input
record Answered (call : Call) (ending : Ending) (c : Command) (input : List ℕ) : Type 0 where
  trial : List ℕ
  tried : HasReadTrial (takes_trial c) call trial
  answered : HasAnswered (output_of c input trial) (cause_of c input trial) call ending

answered_as : (call : Call) (ending : Ending) (c : Command) (input : List ℕ) → command_of call.words ≡ Some c → reads_input c ≡ true → call.left ≡ Some input
    → HasRead call ending → Answered call ending c input
answered_as call ending c input named reads is r =
    let same : r.command ≡ c = same_command call r.command c r.named named in
    let read : HasReadInput true (limit_of r.command) call r.input =
    subst (λ b. HasReadInput b (limit_of r.command) call r.input) (ap reads_input same ∙ reads) r.read in
    let whole : r.input ≡ input = all_of call.left call.left' input r.input is read.0 in
    record {
      trial = r.trial;
      tried = subst (λ d. HasReadTrial (takes_trial d) call r.trial) same r.tried;
      answered = subst (λ d. HasAnswered (output_of d input r.trial) (cause_of d input r.trial) call ending) same
          (subst (λ read. HasAnswered (output_of r.command read r.trial) (cause_of r.command read r.trial) call ending) whole r.answered);
    }

-- ---- endings that come before

usage_named : (call : Call) (c : Command) → command_of call.words ≡ Some c → ¬ (command_of call.words ≡ None)
usage_named call c named h = no (sym named ∙ h)
  where
    no : Some c ≡ None → ⊥
    no e = cc

not_too_long : (call : Call) (c : Command) (input : List ℕ) → command_of call.words ≡ Some c → call.left ≡ Some input → length input ≤ limit_of c → ¬ (PassesInput call)
not_too_long call c input named is small h =
    not_long (limit_of c) call.left call.left' input is small
    (subst (λ d. Takes (λ n. limit_of d < n) call.left call.left') (same_command call h.command c h.named named) h.long)

takes_as : (call : Call) (c d : Command) → command_of call.words ≡ Some c → command_of call.words ≡ Some d → takes_trial d ≡ true → takes_trial c ≡ true
takes_as call c d named other takes = ap takes_trial (same_command call c d named other) ∙ takes

-- ---- texts

pub compile_settles : (call : Call) (ending : Ending) → HasEnded call ending → command_of call.words ≡ Some command.Compile
    → (Rose call.input_faults call.input_faults' → ⊥) → (Rose call.output_faults call.output_faults' → ⊥)
    → (ps : List Procedure) (text : List ℕ) → call.left ≡ Some text → IsTextOf text ps → IsValid ps → length text ≤ text_limit
    → (status_of ending ≡ 0) ⊎ (status_of ending ≡ 9)
compile_settles call Written h named input output ps text is spelled valid small = inl refl
compile_settles call NoMemory h named input output ps text is spelled valid small = inr refl
compile_settles call Usage h named input output ps text is spelled valid small = absurd (usage_named call command.Compile named h)
compile_settles call ReadFault h named input output ps text is spelled valid small = absurd (input h.rose)
compile_settles call TrialReadFault h named input output ps text is spelled valid small =
    absurd (no (takes_as call command.Compile h.command named h.named h.takes))
  where
    no : takes_trial command.Compile ≡ true → ⊥
    no e = cc
compile_settles call TooLong h named input output ps text is spelled valid small = absurd (not_too_long call command.Compile text named is small h)
compile_settles call TrialTooLong h named input output ps text is spelled valid small =
    absurd (no (takes_as call command.Compile h.command named h.named h.takes))
  where
    no : takes_trial command.Compile ≡ true → ⊥
    no e = cc
compile_settles call WriteFault h named input output ps text is spelled valid small =
    absurd (output (answered_as call WriteFault command.Compile text named refl is h).answered.cause)
compile_settles call (Syntax line) h named input output ps text is spelled valid small =
    absurd ((answered_as call (Syntax line) command.Compile text named refl is h).answered.none ps spelled)
compile_settles call (Limit which line) h named input output ps text is spelled valid small =
    absurd ((answered_as call (Limit which line) command.Compile text named refl is h).answered.none ps spelled)
compile_settles call (Invalid rule line) h named input output ps text is spelled valid small =
    absurd ((answered_as call (Invalid rule line) command.Compile text named refl is h).answered.none ps spelled valid)
compile_settles call (BadObject code byte) h named input output ps text is spelled valid small =
    absurd (answered_as call (BadObject code byte) command.Compile text named refl is h).answered
compile_settles call (BadTrial line) h named input output ps text is spelled valid small =
    absurd (answered_as call (BadTrial line) command.Compile text named refl is h).answered
compile_settles call Misplaced h named input output ps text is spelled valid small =
    absurd (answered_as call Misplaced command.Compile text named refl is h).answered

pub print_settles : (call : Call) (ending : Ending) → HasEnded call ending → command_of call.words ≡ Some command.Print
    → (Rose call.input_faults call.input_faults' → ⊥) → (Rose call.output_faults call.output_faults' → ⊥)
    → (ps : List Procedure) (text : List ℕ) → call.left ≡ Some text → IsTextOf text ps → length text ≤ text_limit
    → (status_of ending ≡ 0) ⊎ (status_of ending ≡ 9)
print_settles call Written h named input output ps text is spelled small = inl refl
print_settles call NoMemory h named input output ps text is spelled small = inr refl
print_settles call Usage h named input output ps text is spelled small = absurd (usage_named call command.Print named h)
print_settles call ReadFault h named input output ps text is spelled small = absurd (input h.rose)
print_settles call TrialReadFault h named input output ps text is spelled small =
    absurd (no (takes_as call command.Print h.command named h.named h.takes))
  where
    no : takes_trial command.Print ≡ true → ⊥
    no e = cc
print_settles call TooLong h named input output ps text is spelled small = absurd (not_too_long call command.Print text named is small h)
print_settles call TrialTooLong h named input output ps text is spelled small =
    absurd (no (takes_as call command.Print h.command named h.named h.takes))
  where
    no : takes_trial command.Print ≡ true → ⊥
    no e = cc
print_settles call WriteFault h named input output ps text is spelled small =
    absurd (output (answered_as call WriteFault command.Print text named refl is h).answered.cause)
print_settles call (Syntax line) h named input output ps text is spelled small =
    absurd ((answered_as call (Syntax line) command.Print text named refl is h).answered.none ps spelled)
print_settles call (Limit which line) h named input output ps text is spelled small =
    absurd ((answered_as call (Limit which line) command.Print text named refl is h).answered.none ps spelled)
print_settles call (Invalid rule line) h named input output ps text is spelled small = absurd (answered_as call (Invalid rule line) command.Print text named refl is h).answered
print_settles call (BadObject code byte) h named input output ps text is spelled small = absurd (answered_as call (BadObject code byte) command.Print text named refl is h).answered
print_settles call (BadTrial line) h named input output ps text is spelled small = absurd (answered_as call (BadTrial line) command.Print text named refl is h).answered
print_settles call Misplaced h named input output ps text is spelled small = absurd (answered_as call Misplaced command.Print text named refl is h).answered

-- ---- trials

same_trial : (bytes : List ℕ) (t u : Trial) → Spells bytes t → Spells bytes u → t ≡ u
same_trial bytes t u left right = same_some t u (sym left ∙ right)

-- the trial that was read
tried_as : (call : Call) (bytes trial : List ℕ) → call.trial_left ≡ Some bytes → HasReadTrial true call trial → trial ≡ bytes
tried_as call bytes trial is h = all_of call.trial_left call.trial_left' bytes trial is h.0

pub eval_settles : (call : Call) (ending : Ending) → HasEnded call ending → command_of call.words ≡ Some command.Eval
    → (Rose call.input_faults call.input_faults' → ⊥) → (Rose call.trial_faults call.trial_faults' → ⊥) → (Rose call.output_faults call.output_faults' → ⊥)
    → (ps : List Procedure) (text : List ℕ) → call.left ≡ Some text → IsTextOf text ps → IsValid ps → length text ≤ text_limit
    → (t : Trial) (bytes : List ℕ) → call.trial_left ≡ Some bytes → Spells bytes t → length bytes ≤ text_limit
    → ((file : List ℕ) (made : IsCompiled text file) → Begins made.file_of.object t)
    → (status_of ending ≡ 0) ⊎ (status_of ending ≡ 9)
eval_settles call Written h named input trial output ps text is spelled valid small t bytes has spells short begins = inl refl
eval_settles call NoMemory h named input trial output ps text is spelled valid small t bytes has spells short begins = inr refl
eval_settles call Usage h named input trial output ps text is spelled valid small t bytes has spells short begins =
    absurd (usage_named call command.Eval named h)
eval_settles call ReadFault h named input trial output ps text is spelled valid small t bytes has spells short begins = absurd (input h.rose)
eval_settles call TrialReadFault h named input trial output ps text is spelled valid small t bytes has spells short begins = absurd (trial h.rose)
eval_settles call TooLong h named input trial output ps text is spelled valid small t bytes has spells short begins =
    absurd (not_too_long call command.Eval text named is small h)
eval_settles call TrialTooLong h named input trial output ps text is spelled valid small t bytes has spells short begins =
    absurd (not_long text_limit call.trial_left call.trial_left' bytes has short h.long)
eval_settles call WriteFault h named input trial output ps text is spelled valid small t bytes has spells short begins =
    absurd (output (answered_as call WriteFault command.Eval text named refl is h).answered.cause)
eval_settles call (Syntax line) h named input trial output ps text is spelled valid small t bytes has spells short begins =
    absurd ((answered_as call (Syntax line) command.Eval text named refl is h).answered.none ps spelled)
eval_settles call (Limit which line) h named input trial output ps text is spelled valid small t bytes has spells short begins =
    absurd ((answered_as call (Limit which line) command.Eval text named refl is h).answered.none ps spelled)
eval_settles call (Invalid rule line) h named input trial output ps text is spelled valid small t bytes has spells short begins =
    absurd ((answered_as call (Invalid rule line) command.Eval text named refl is h).answered.none ps spelled valid)
eval_settles call (BadObject code byte) h named input trial output ps text is spelled valid small t bytes has spells short begins =
    absurd (answered_as call (BadObject code byte) command.Eval text named refl is h).answered
eval_settles call (BadTrial line) h named input trial output ps text is spelled valid small t bytes has spells short begins =
    let a = answered_as call (BadTrial line) command.Eval text named refl is h in
    absurd (a.answered.1.none t (subst (λ b. Spells b t) (sym (tried_as call bytes a.trial has a.tried)) spells))
eval_settles call Misplaced h named input trial output ps text is spelled valid small t bytes has spells short begins =
    let a = answered_as call Misplaced command.Eval text named refl is h in
    let m = a.answered.1 in
    let same : t ≡ m.tried = same_trial a.trial t m.tried (subst (λ b. Spells b t) (sym (tried_as call bytes a.trial has a.tried)) spells) m.spells in
    absurd (m.misplaced (subst (Begins m.compiled.file_of.object) same (begins a.answered.0 m.compiled)))

same_ok : (file : List ℕ) (a b : Object) → read_object file ≡ Ok a → read_object file ≡ Ok b → a ≡ b
same_ok file a b left right = cc

same_object : (file : List ℕ) (a b : Object) → length file < 2 ^ 64 → IsObjectOf file a → IsObjectOf file b → a ≡ b
same_object file a b short left right = same_ok file a b (object_again file a short left.good left.holds) (object_again file b short right.good right.holds)

pub run_settles : (call : Call) (ending : Ending) → HasEnded call ending → command_of call.words ≡ Some command.Run
    → (Rose call.input_faults call.input_faults' → ⊥) → (Rose call.trial_faults call.trial_faults' → ⊥) → (Rose call.output_faults call.output_faults' → ⊥)
    → (o : Object) (file : List ℕ) → call.left ≡ Some file → IsObjectOf file o → length file ≤ limit_of command.Run
    → (t : Trial) (bytes : List ℕ) → call.trial_left ≡ Some bytes → Spells bytes t → length bytes ≤ text_limit → Begins o t
    → (status_of ending ≡ 0) ⊎ (status_of ending ≡ 9)
run_settles call Written h named input trial output o file is holds small t bytes has spells short begins = inl refl
run_settles call NoMemory h named input trial output o file is holds small t bytes has spells short begins = inr refl
run_settles call Usage h named input trial output o file is holds small t bytes has spells short begins = absurd (usage_named call command.Run named h)
run_settles call ReadFault h named input trial output o file is holds small t bytes has spells short begins = absurd (input h.rose)
run_settles call TrialReadFault h named input trial output o file is holds small t bytes has spells short begins = absurd (trial h.rose)
run_settles call TooLong h named input trial output o file is holds small t bytes has spells short begins = absurd (not_too_long call command.Run file named is small h)
run_settles call TrialTooLong h named input trial output o file is holds small t bytes has spells short begins =
    absurd (not_long text_limit call.trial_left call.trial_left' bytes has short h.long)
run_settles call WriteFault h named input trial output o file is holds small t bytes has spells short begins =
    absurd (output (answered_as call WriteFault command.Run file named refl is h).answered.cause)
run_settles call (Syntax line) h named input trial output o file is holds small t bytes has spells short begins =
    absurd (answered_as call (Syntax line) command.Run file named refl is h).answered
run_settles call (Limit which line) h named input trial output o file is holds small t bytes has spells short begins =
    absurd (answered_as call (Limit which line) command.Run file named refl is h).answered
run_settles call (Invalid rule line) h named input trial output o file is holds small t bytes has spells short begins =
    absurd (answered_as call (Invalid rule line) command.Run file named refl is h).answered
run_settles call (BadObject code byte) h named input trial output o file is holds small t bytes has spells short begins =
    absurd ((answered_as call (BadObject code byte) command.Run file named refl is h).answered.none o holds)
run_settles call (BadTrial line) h named input trial output o file is holds small t bytes has spells short begins =
    let a = answered_as call (BadTrial line) command.Run file named refl is h in
    absurd (a.answered.1.none t (subst (λ b. Spells b t) (sym (tried_as call bytes a.trial has a.tried)) spells))
run_settles call Misplaced h named input trial output o file is holds small t bytes has spells short begins =
    let a = answered_as call Misplaced command.Run file named refl is h in
    let m = a.answered in
    let tried : t ≡ m.tried = same_trial a.trial t m.tried (subst (λ b. Spells b t) (sym (tried_as call bytes a.trial has a.tried)) spells) m.spells in
    let object : o ≡ m.object = same_object file o m.object (omega (arith, small)) holds m.holds in
    absurd (m.misplaced (subst (λ p. Begins p m.tried) object (subst (Begins o) tried begins)))

-- ---- the text that is made from a number

no_input : (call : Call) (n : ℕ) (c : Command) → command_of call.words ≡ Some (command.Gen n) → command_of call.words ≡ Some c → ¬ (reads_input c ≡ true)
no_input call n c named other reads = no (ap reads_input (same_command call (command.Gen n) c named other) ∙ reads)
  where
    no : reads_input (command.Gen n) ≡ true → ⊥
    no e = cc

no_trial : (call : Call) (n : ℕ) (c : Command) → command_of call.words ≡ Some (command.Gen n) → command_of call.words ≡ Some c → ¬ (takes_trial c ≡ true)
no_trial call n c named other takes = no (takes_as call (command.Gen n) c named other takes)
  where
    no : takes_trial (command.Gen n) ≡ true → ⊥
    no e = cc

made_as : (call : Call) (ending : Ending) (n : ℕ) → command_of call.words ≡ Some (command.Gen n) → HasRead call ending
    → HasAnswered (IsSummary n) (EndsText (IsCause (generated n))) call ending
made_as call ending n named r =
    subst (λ d. HasAnswered (output_of d r.input r.trial) (cause_of d r.input r.trial) call ending) (same_command call r.command (command.Gen n) r.named named) r.answered

pub gen_settles : (call : Call) (ending : Ending) → HasEnded call ending → (n : ℕ) → command_of call.words ≡ Some (command.Gen n)
    → (Rose call.output_faults call.output_faults' → ⊥) → (ps : List Procedure) → IsTextOf (generated n) ps → IsValid ps
    → (status_of ending ≡ 0) ⊎ (status_of ending ≡ 9)
gen_settles call Written h n named output ps spelled valid = inl refl
gen_settles call NoMemory h n named output ps spelled valid = inr refl
gen_settles call Usage h n named output ps spelled valid = absurd (usage_named call (command.Gen n) named h)
gen_settles call ReadFault h n named output ps spelled valid = absurd (no_input call n h.command named h.named h.reads)
gen_settles call TrialReadFault h n named output ps spelled valid = absurd (no_trial call n h.command named h.named h.takes)
gen_settles call TooLong h n named output ps spelled valid = absurd (no_input call n h.command named h.named h.reads)
gen_settles call TrialTooLong h n named output ps spelled valid = absurd (no_trial call n h.command named h.named h.takes)
gen_settles call WriteFault h n named output ps spelled valid = absurd (output (made_as call WriteFault n named h).cause)
gen_settles call (Syntax line) h n named output ps spelled valid = absurd ((made_as call (Syntax line) n named h).none ps spelled)
gen_settles call (Limit which line) h n named output ps spelled valid = absurd ((made_as call (Limit which line) n named h).none ps spelled)
gen_settles call (Invalid rule line) h n named output ps spelled valid = absurd ((made_as call (Invalid rule line) n named h).none ps spelled valid)
gen_settles call (BadObject code byte) h n named output ps spelled valid = absurd (made_as call (BadObject code byte) n named h)
gen_settles call (BadTrial line) h n named output ps spelled valid = absurd (made_as call (BadTrial line) n named h)
gen_settles call Misplaced h n named output ps spelled valid = absurd (made_as call Misplaced n named h)
