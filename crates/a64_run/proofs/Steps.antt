-- One step of the machine at a word of the text that is the word of an instruction.
use Rattle.std.proofs.Common.{◌≡◌, ℕ, zero, suc, ◌+◌, ◌-◌, ◌*◌, ◌/◌, ◌%◌, Bool, true, false, List, [], Option, Some, None, refl, ap, subst, ◌∙◌, arith, nat_eq, eq-eqb}
use Rattle.std.specs.Prelude.{slice_get, nat_le, is_some, if◌then◌else◌}
use Rattle.std.proofs.lemmas.Bool.Decides.{nat_tests}
use Rattle.b3_base.specs.Memory.{byte_address, is_mapped}
use Rattle.b3_base.specs.Observed.{Memory}
use Rattle.a64_inst.specs.Step.{step_of}
use Rattle.a64_word.specs.Word.{word}
use Rattle.a64_inst.specs.declared.inst.Inst.{Inst}
use Rattle.a64_inst.specs.declared.state.Outcome.TheVariants.{Next}
use Rattle.a64_word.specs.Decode.{decode}
use Rattle.std.proofs.lemmas.Bool.{and_parts}
use Rattle.std.proofs.Math.Bool.{and-false}
use Rattle.a64_run.specs.Placement.{in_frame}
use Rattle.stackmap.specs.declared.site.Site.{Site}
use Rattle.stackmap.specs.declared.site.SiteKind.{SiteKind}
use Rattle.stackmap.specs.declared.site.SiteKind.TheVariants.{Call, Patchpoint, Exit}
use Rattle.exit_table.specs.declared.tables.SiteRow.{SiteRow}
use Rattle.a64_run.specs.Machine.{Entry, State, Runs, word_at, touched, touches_empty, touches_empty_at, execute, decoded, fetched, stepped, is_ret, machine_step, of_kind, same_kind, site_among, site_at}
use Rattle.a64_run.specs.Moments.{IsProperState, KeepsFrame, TouchesAbove, decoded_word, instruction_at, registers_next, site_here}

-- an address of the text is that of its word k
byte_of_word : (code k address : ℕ) → address ≡ code + 4 * k → (nat_le code address ≡ true) × (nat_eq ((address - code) % 4) 0 ≡ true)
    × ((address - code) / 4 ≡ k)
byte_of_word code k address e =
    let rest : address - code ≡ 4 * k = omega arith in
    (grind (arith, nat_tests), eq-eqb _ _ (omega arith), omega arith)

-- the word that stands there
pub word_at-word : (e : Entry) (k address : ℕ) (w : ℕ) → address ≡ e.start.code + 4 * k → slice_get e.object.text k ≡ Some w → word_at e address ≡ Some w
word_at-word e k address w at there =
    let b = byte_of_word e.start.code k address at in
    rw (b.0, b.1, b.2) there

-- where no site is listed there is none at an address
none_listed : (rows : List SiteRow) (pc : ℕ) (inside : Bool) (kind : SiteKind) → rows ≡ [] → of_kind kind (if inside then site_among pc rows else None) ≡ None
none_listed rows pc true kind none = rw none refl
none_listed rows pc false kind none = refl

pub no_site : (e : Entry) (address : ℕ) (kind : SiteKind) → e.object.tables.sites ≡ [] → of_kind kind (site_at e address) ≡ None
no_site e address kind none = none_listed e.object.tables.sites (address - e.start.code) (nat_le e.start.code address) kind none

-- a step executes the instruction whose word stands at pc
pub step_executes : (e : Entry) (s : State) (k : ℕ) (inst : Inst) → e.object.tables.sites ≡ [] → s.registers.pc ≡ e.start.code + 4 * k
    → slice_get e.object.text k ≡ Some (word inst) → decode (word inst) ≡ Some inst → machine_step e (Runs s) ≡ execute e s inst
step_executes e s k inst none at there decodes =
    ap (stepped e s) (no_site e s.registers.pc Patchpoint none)
    ∙ ap (fetched e s) (word_at-word e k s.registers.pc (word inst) at there) ∙ ap (decoded e s) decodes

-- and what is asked of a moment is asked of that instruction
instruction_is : (e : Entry) (s : State) (k : ℕ) (inst : Inst) → e.object.tables.sites ≡ [] → s.registers.pc ≡ e.start.code + 4 * k
    → slice_get e.object.text k ≡ Some (word inst) → decode (word inst) ≡ Some inst → instruction_at e s ≡ Some inst
instruction_is e s k inst none at there decodes =
    ap (λ (site : Option Site). if is_some site then None else decoded_word (word_at e s.registers.pc)) (no_site e s.registers.pc Patchpoint none)
    ∙ ap decoded_word (word_at-word e k s.registers.pc (word inst) at there) ∙ decodes

no_other : {X : Type 0} (o : Option X) (x : X) (Y : Type 0) → o ≡ None → o ≡ Some x → Y
no_other o x Y none some = absurd cc

pub is_proper : (e : Entry) (s : State) (k : ℕ) (inst : Inst) → e.object.tables.sites ≡ [] → s.registers.pc ≡ e.start.code + 4 * k
    → slice_get e.object.text k ≡ Some (word inst) → decode (word inst) ≡ Some inst
    → s.registers.sp % 16 ≡ 0 → TouchesAbove e s inst → (registers_next s inst).x 18 ≡ s.registers.x 18 → IsProperState e s
is_proper e s k inst none at there decodes aligned above platform =
    let is = instruction_is e s k inst none at there decodes in
    let same : (other : Inst) → instruction_at e s ≡ Some other → inst ≡ other = λ other found. cc in
    record {
      aligned = aligned;
      access = λ other found. subst (TouchesAbove e s) (same other found) above;
      platform = λ other found. subst (λ (i : Inst). (registers_next s i).x 18 ≡ s.registers.x 18) (same other found) platform;
      patchpoint = λ site found. no_other (site_here e s Patchpoint) site (KeepsFrame e s) (no_site e s.registers.pc Patchpoint none) found;
      exit = λ site found. no_other (site_here e s Exit) site (KeepsFrame e s) (no_site e s.registers.pc Exit none) found;
      call = λ site found. no_other (site_here e s Call) site (KeepsFrame e s) (no_site e s.registers.pc Call none) found;
    }

-- where it touches no empty byte of the frame, ends as the next instruction does, is no RET and
-- leads to a word of the text, the run goes on there
pub step_goes_on : (e : Entry) (s : State) (k next w : ℕ) (inst : Inst) → e.object.tables.sites ≡ [] → s.registers.pc ≡ e.start.code + 4 * k
    → slice_get e.object.text k ≡ Some (word inst) → decode (word inst) ≡ Some inst
    → touches_empty_at e s.memory (touched inst s.registers) ≡ false
    → (step_of inst s.registers s.memory).outcome ≡ Next → is_ret inst ≡ false
    → (step_of inst s.registers s.memory).registers.pc ≡ e.start.code + 4 * next → slice_get e.object.text next ≡ Some w
    → machine_step e (Runs s) ≡ Runs
    (record s { registers = (step_of inst s.registers s.memory).registers; memory = (step_of inst s.registers s.memory).memory })
step_goes_on e s k next w inst none at there decodes whole outcome no_ret leads stands =
    step_executes e s k inst none at there decodes
    ∙ rw (whole, outcome, no_ret, word_at-word e next (step_of inst s.registers s.memory).registers.pc w leads stands) refl

-- an access whose bytes all hold something touches no empty byte of the frame
pub touches_none : (e : Entry) (m : Memory) (address n : ℕ) → is_mapped m address n ≡ true → touches_empty e m address n ≡ false
unfolding is_mapped
touches_none e m address zero mapped = refl
touches_none e m address (suc n) mapped =
    let parts = and_parts (is_mapped m address n) (is_some (m (byte_address address n))) mapped in
    rw (touches_none e m address n parts.0, parts.1) (and-false (in_frame e.frame e.start (byte_address address n)))

-- ---- where sites stand
-- what is asked of a site of one kind is asked of no site of another
pub of_kind-other : (kind is : SiteKind) (site : Site) → site.kind ≡ is → same_kind kind is ≡ false → of_kind kind (Some site) ≡ None
of_kind-other kind is site same other =
    let differ : same_kind kind site.kind ≡ false = ap (same_kind kind) same ∙ other in
    rw differ refl

pub of_kind-itself : (kind : SiteKind) (site : Site) → site.kind ≡ kind → same_kind kind kind ≡ true → of_kind kind (Some site) ≡ Some site
of_kind-itself kind site same itself =
    let agree : same_kind kind site.kind ≡ true = ap (same_kind kind) same ∙ itself in
    rw agree refl

-- where no patchpoint stands at pc a step executes the instruction whose word stands there
pub word_executes : (e : Entry) (s : State) (k : ℕ) (inst : Inst) → site_here e s Patchpoint ≡ None → s.registers.pc ≡ e.start.code + 4 * k
    → slice_get e.object.text k ≡ Some (word inst) → decode (word inst) ≡ Some inst → machine_step e (Runs s) ≡ execute e s inst
word_executes e s k inst none at there decodes =
    ap (stepped e s) none ∙ ap (fetched e s) (word_at-word e k s.registers.pc (word inst) at there) ∙ ap (decoded e s) decodes

-- and what is asked of a moment is asked of that instruction, and of what stands there
pub word_is_proper : (e : Entry) (s : State) (k : ℕ) (inst : Inst) → site_here e s Patchpoint ≡ None → s.registers.pc ≡ e.start.code + 4 * k
    → slice_get e.object.text k ≡ Some (word inst) → decode (word inst) ≡ Some inst
    → s.registers.sp % 16 ≡ 0 → TouchesAbove e s inst → (registers_next s inst).x 18 ≡ s.registers.x 18
    → ((site : Site) → site_here e s Exit ≡ Some site → KeepsFrame e s)
    → ((site : Site) → site_here e s Call ≡ Some site → KeepsFrame e s) → IsProperState e s
word_is_proper e s k inst none at there decodes aligned above platform exit call =
    let is : instruction_at e s ≡ Some inst =
    ap (λ (site : Option Site). if is_some site then None else decoded_word (word_at e s.registers.pc)) none
    ∙ ap decoded_word (word_at-word e k s.registers.pc (word inst) at there) ∙ decodes in
    let same : (other : Inst) → instruction_at e s ≡ Some other → inst ≡ other = λ other found. cc in
    record {
      aligned = aligned;
      access = λ other found. subst (TouchesAbove e s) (same other found) above;
      platform = λ other found. subst (λ (i : Inst). (registers_next s i).x 18 ≡ s.registers.x 18) (same other found) platform;
      patchpoint = λ site found. no_other (site_here e s Patchpoint) site (KeepsFrame e s) none found;
      exit = exit;
      call = call;
    }

-- at a patchpoint no instruction is taken
pub patchpoint_is_proper : (e : Entry) (s : State) (site : Site) → site_at e s.registers.pc ≡ Some site → site.kind ≡ Patchpoint
    → s.registers.sp % 16 ≡ 0 → KeepsFrame e s → IsProperState e s
patchpoint_is_proper e s site at kind aligned kept =
    let here : site_here e s Patchpoint ≡ Some site = ap (of_kind Patchpoint) at ∙ of_kind-itself Patchpoint site kind refl in
    let no_exit : site_here e s Exit ≡ None = ap (of_kind Exit) at ∙ of_kind-other Exit Patchpoint site kind refl in
    let no_call : site_here e s Call ≡ None = ap (of_kind Call) at ∙ of_kind-other Call Patchpoint site kind refl in
    let none : instruction_at e s ≡ None = ap (λ (o : Option Site). if is_some o then None else decoded_word (word_at e s.registers.pc)) here in
    record {
      aligned = aligned;
      access = λ inst found. no_other (instruction_at e s) inst (TouchesAbove e s inst) none found;
      platform = λ inst found. no_other (instruction_at e s) inst ((registers_next s inst).x 18 ≡ s.registers.x 18) none found;
      patchpoint = λ other found. kept;
      exit = λ other found. no_other (site_here e s Exit) other (KeepsFrame e s) no_exit found;
      call = λ other found. no_other (site_here e s Call) other (KeepsFrame e s) no_call found;
    }
