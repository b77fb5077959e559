-- The machine at a word of a text in an object takes the step that the word's instruction takes among its text's words.
use Rattle.std.proofs.Common.{◌≡◌, ℕ, zero, suc, ◌+◌, ◌-◌, ◌*◌, ◌/◌, ◌%◌, ◌^◌, ◌<◌, ◌≤◌, Bool, true, false, ◌&&◌, not, if◌then◌else◌, Option, Some, None, List, length, refl, sym, ap, ◌∙◌, arith, nat_eq, nat_le, le-leb}
use Rattle.std.specs.Prelude.{is_some, slice_get}
use Rattle.std.proofs.lemmas.Bool.Decides.{nat_tests}
use Rattle.std.proofs.lemmas.Option.{slice_get_within}
use Rattle.b3_base.specs.Memory.{byte_address}
use Rattle.b3_base.specs.Observed.{Memory}
use Rattle.stackmap.specs.declared.site.Site.{Site}
use Rattle.stackmap.specs.declared.site.SiteKind.TheVariants.{Call, Patchpoint, Exit, Trap}
use Rattle.exit_table.specs.declared.tables.SiteRow.{SiteRow}
use Rattle.a64_inst.specs.Registers.{Registers, Stepped}
use Rattle.a64_inst.specs.Step.{step_of}
use Rattle.a64_inst.specs.StepBranch.{branch, branch_bit, branch_if, branch_zero}
use Rattle.a64_inst.specs.declared.inst.Inst.{Inst}
use Rattle.a64_inst.specs.declared.inst.Inst.TheVariants.{Branch, BranchIf, BranchZero, BranchBit}
use Rattle.a64_inst.specs.declared.state.Outcome.TheVariants.{Next}
use Rattle.a64_word.specs.Decode.{decode}
use Rattle.a64_word.specs.Word.{word}
use Rattle.a64_layout.specs.Machine as layout
use Rattle.a64_layout.specs.Machine.{Machine, machine_of, mark_at, outside_at, place_of}
use Rattle.a64_run.specs.Machine.{Entry, Runs, State, execute, has_returned, is_empty_byte, is_ret, is_text_word, machine_step, of_kind, site_among, site_at, touched, touches_empty, touches_empty_at}
use Rattle.a64_run.specs.Moments.{IsProperState, KeepsFrame, TouchesAbove}
use Rattle.a64_run.specs.Placement.{in_frame, in_text, is_within}
use Rattle.a64_run.proofs.Steps.{of_kind-other, word_at-word, word_executes, word_is_proper}
use Rattle.a64_emit.specs.Emitted.{Log}
use Rattle.a64_object.proofs.Lists.{no_some}
use Rattle.a64_object.proofs.TextWords.{is_jump}

-- ---- branches
either_next : (b : Bool) (x y : Stepped) → x.outcome ≡ Next → y.outcome ≡ Next → (if b then x else y).outcome ≡ Next
either_next true x y e f = e
either_next false x y e f = f

either_x : (b : Bool) (x y : Stepped) (r : ℕ → ℕ) → x.registers.x ≡ r → y.registers.x ≡ r → (if b then x else y).registers.x ≡ r
either_x true x y r e f = e
either_x false x y r e f = f

-- a branch goes on, changes no register but pc, and touches no memory
pub jump_next : (inst : Inst) (r : Registers) (memory : Memory) → is_jump inst ≡ true → (step_of inst r memory).outcome ≡ Next
unfolding step_of branch branch_if branch_zero branch_bit
jump_next (Branch offset) r memory is = refl
jump_next (BranchIf cond offset) r memory is = either_next _ _ _ refl refl
jump_next (BranchZero width nonzero reg offset) r memory is = either_next _ _ _ refl refl
jump_next (BranchBit nonzero reg at offset) r memory is = either_next _ _ _ refl refl
jump_next _ r memory is = cc

pub jump_x : (inst : Inst) (r : Registers) (memory : Memory) → is_jump inst ≡ true → (step_of inst r memory).registers.x ≡ r.x
unfolding step_of branch branch_if branch_zero branch_bit
jump_x (Branch offset) r memory is = refl
jump_x (BranchIf cond offset) r memory is = either_x _ _ _ _ refl refl
jump_x (BranchZero width nonzero reg offset) r memory is = either_x _ _ _ _ refl refl
jump_x (BranchBit nonzero reg at offset) r memory is = either_x _ _ _ _ refl refl
jump_x _ r memory is = cc

jump_touches : (inst : Inst) (r : Registers) → is_jump inst ≡ true → touched inst r ≡ None
jump_touches (Branch offset) r is = refl
jump_touches (BranchIf cond offset) r is = refl
jump_touches (BranchZero width nonzero reg offset) r is = refl
jump_touches (BranchBit nonzero reg at offset) r is = refl
jump_touches _ r is = cc

pub jump_above : (e : Entry) (s : State) (inst : Inst) → is_jump inst ≡ true → TouchesAbove e s inst
jump_above e s inst is address n i some lt inside = let none = jump_touches inst s.registers is in absurd cc

-- ---- bytes of the frame
-- each byte of the frame holds something
abbrev pub IsWhole : Entry → Memory → Type 0
IsWhole e memory = (address : ℕ) → in_frame e.frame e.start address ≡ true → (byte : ℕ) × (memory address ≡ Some byte)

full_byte : (inside : Bool) (o : Option ℕ) → (inside ≡ true → (byte : ℕ) × (o ≡ Some byte)) → (inside && not (is_some o)) ≡ false
full_byte true (Some byte) whole = refl
full_byte true None whole = let bad = (whole refl).1 in absurd cc
full_byte false o whole = refl

none_empty : (e : Entry) (memory : Memory) (address n : ℕ) → IsWhole e memory → touches_empty e memory address n ≡ false
none_empty e memory address zero whole = refl
none_empty e memory address (suc n) whole =
    let here : is_empty_byte e memory (byte_address address n) ≡ false =
    full_byte (in_frame e.frame e.start (byte_address address n)) (memory (byte_address address n)) (whole (byte_address address n)) in
    rw (none_empty e memory address n whole, here) refl

pub none_touched_empty : (e : Entry) (memory : Memory) (o : Option (ℕ × ℕ)) → IsWhole e memory → touches_empty_at e memory o ≡ false
none_touched_empty e memory None whole = refl
none_touched_empty e memory (Some bytes) whole = none_empty e memory bytes.0 bytes.1 whole

-- ---- sites
-- no site stands there but a trap
pub record IsQuiet (o : Option Site) : Type 0 where
  pub patchpoint : of_kind Patchpoint o ≡ None
  pub exit : of_kind Exit o ≡ None
  pub call : of_kind Call o ≡ None

pub none_quiet : (o : Option Site) → o ≡ None → IsQuiet o
none_quiet o none = record { patchpoint = ap (of_kind Patchpoint) none; exit = ap (of_kind Exit) none; call = ap (of_kind Call) none }

pub trap_quiet : (o : Option Site) (site : Site) → o ≡ Some site → site.kind ≡ Trap → IsQuiet o
trap_quiet o site is kind = record {
  patchpoint = ap (of_kind Patchpoint) is ∙ of_kind-other Patchpoint Trap site kind refl;
  exit = ap (of_kind Exit) is ∙ of_kind-other Exit Trap site kind refl;
  call = ap (of_kind Call) is ∙ of_kind-other Call Trap site kind refl;
}

-- ---- a step that stays in the text
not_outside : (code size x pc : ℕ) → code ≤ pc → pc < code + size → is_within code size x ≡ false → nat_eq pc x ≡ false
not_outside code size x pc above below outside = grind (arith, nat_tests)

no_return : (e : Entry) (r : Registers) (ret : Bool) → nat_eq r.pc (e.start.registers 30) ≡ false → (ret && has_returned e r) ≡ false
no_return e r true other = rw other refl
no_return e r false other = refl

-- the state of a machine, with the events so far and the answers that are left
abbrev pub state_of : Log → Machine → State
state_of log c = record { registers = c.registers; memory = c.memory; events = log.events; answers = log.answers }

-- the words of a text stand in an object from a word on, at the symbol, with its sites, and the caller is elsewhere
pub record HasText (e : Entry) (words : List ℕ) (rows : List SiteRow) : Type 0 where
  pub sites : (k : ℕ) → k < length words → site_among (e.symbol.offset + 4 * k) e.object.tables.sites ≡ site_among (4 * k) rows
  pub base : ℕ
  pub begins : e.symbol.offset ≡ 4 * base
  pub text : (k w : ℕ) → slice_get words k ≡ Some w → slice_get e.object.text (base + k) ≡ Some w
  pub within : base + length words ≤ length e.object.text
  pub ends : e.start.code + 4 * length e.object.text ≤ 2 ^ 64
  pub returns_outside : in_text e.object e.start (e.start.registers 30) ≡ false

-- the address of the first word
abbrev pub begin_of : Entry → ℕ
begin_of e = e.start.code + e.symbol.offset

-- the outside does nothing at any mark
pub nothing_there : (o : Option ℕ) (c : Machine) → outside_at (λ mark d. None) o c ≡ None
nothing_there None c = refl
nothing_there (Some mark) c = refl

module _ (e : Entry) (words : List ℕ) (rows : List SiteRow) (has : HasText e words rows) where
  at_word : (k address : ℕ) → address ≡ begin_of e + 4 * k → address ≡ e.start.code + 4 * (has.base + k)
  at_word k address at = omega (arith, has.begins)

  -- the site at a word of the text
  pub site_is : (k address w : ℕ) → address ≡ begin_of e + 4 * k → slice_get words k ≡ Some w → site_at e address ≡ site_among (4 * k) rows
  site_is k address w at there =
      let above : nat_le e.start.code address ≡ true = le-leb e.start.code address (omega arith) in
      let rest : address - e.start.code ≡ e.symbol.offset + 4 * k = omega arith in
      rw (above, rest) (has.sites k (slice_get_within words k w there))

  -- a word of the text stands at an address
  pub is_word : (k address w : ℕ) → address ≡ begin_of e + 4 * k → slice_get words k ≡ Some w → is_text_word e address ≡ true
  is_word k address w at there = ap is_some (word_at-word e (has.base + k) address w (at_word k address at) (has.text k w there))

  -- the machine executes the instruction whose word stands at pc, where no patchpoint does
  pub executes : (log : Log) (c : Machine) (here : ℕ) (inst : Inst) → c.registers.pc ≡ begin_of e + 4 * here
      → slice_get words here ≡ Some (word inst) → decode (word inst) ≡ Some inst → of_kind Patchpoint (site_among (4 * here) rows) ≡ None
      → machine_step e (Runs (state_of log c)) ≡ execute e (state_of log c) inst
  executes log c here inst at there decodes none =
      word_executes e (state_of log c) (has.base + here) inst (ap (of_kind Patchpoint) (site_is here c.registers.pc (word inst) at there) ∙ none)
      (at_word here c.registers.pc at) (has.text here (word inst) there) decodes

  pub word_step : (log : Log) (c : Machine) (here next w : ℕ) (inst : Inst) → c.registers.pc ≡ begin_of e + 4 * here
      → slice_get words here ≡ Some (word inst) → decode (word inst) ≡ Some inst → of_kind Patchpoint (site_among (4 * here) rows) ≡ None → IsWhole e c.memory
      → (step_of inst c.registers c.memory).outcome ≡ Next
      → (step_of inst c.registers c.memory).registers.pc ≡ begin_of e + 4 * next → slice_get words next ≡ Some w
      → machine_step e (Runs (state_of log c)) ≡ Runs (state_of log (machine_of (step_of inst c.registers c.memory)))
  word_step log c here next w inst at there decodes none whole outcome leads stands =
      let after = (step_of inst c.registers c.memory).registers in
      let there_next = has.text next w stands in
      let within = slice_get_within e.object.text (has.base + next) w there_next in
      let at_next = at_word next after.pc leads in
      let no_back : nat_eq after.pc (e.start.registers 30) ≡ false =
      not_outside e.start.code (4 * length e.object.text) (e.start.registers 30) after.pc (omega arith) (omega arith) has.returns_outside in
      let stays : (is_ret inst && has_returned e after) ≡ false = no_return e after (is_ret inst) no_back in
      executes log c here inst at there decodes none
      ∙ rw (none_touched_empty e c.memory (touched inst c.registers) whole, outcome, stays, word_at-word e (has.base + next) after.pc w at_next there_next) refl

  -- and the moment before it is proper, where what stands there is kept
  pub word_proper : (log : Log) (c : Machine) (here : ℕ) (inst : Inst) → c.registers.pc ≡ begin_of e + 4 * here
      → slice_get words here ≡ Some (word inst) → decode (word inst) ≡ Some inst → of_kind Patchpoint (site_among (4 * here) rows) ≡ None
      → c.registers.sp % 16 ≡ 0 → TouchesAbove e (state_of log c) inst
      → (step_of inst c.registers c.memory).registers.x 18 ≡ c.registers.x 18
      → ((site : Site) → of_kind Exit (site_among (4 * here) rows) ≡ Some site → KeepsFrame e (state_of log c))
      → ((site : Site) → of_kind Call (site_among (4 * here) rows) ≡ Some site → KeepsFrame e (state_of log c))
      → IsProperState e (state_of log c)
  word_proper log c here inst at there decodes none aligned above platform exit call =
      let is = site_is here c.registers.pc (word inst) at there in
      word_is_proper e (state_of log c) (has.base + here) inst (ap (of_kind Patchpoint) is ∙ none)
      (at_word here c.registers.pc at) (has.text here (word inst) there) decodes aligned above platform
      (λ site found. exit site (sym (ap (of_kind Exit) is) ∙ found)) (λ site found. call site (sym (ap (of_kind Call) is) ∙ found))

  pub quiet_proper : (log : Log) (c : Machine) (here : ℕ) (inst : Inst) → c.registers.pc ≡ begin_of e + 4 * here
      → slice_get words here ≡ Some (word inst) → decode (word inst) ≡ Some inst → IsQuiet (site_among (4 * here) rows)
      → c.registers.sp % 16 ≡ 0 → TouchesAbove e (state_of log c) inst
      → (step_of inst c.registers c.memory).registers.x 18 ≡ c.registers.x 18
      → IsProperState e (state_of log c)
  quiet_proper log c here inst at there decodes quiet aligned above platform =
      word_proper log c here inst at there decodes quiet.patchpoint aligned above platform
      (λ site found. no_some site (sym quiet.exit ∙ found)) (λ site found. no_some site (sym quiet.call ∙ found))

  -- where the words' own run takes the step
  layout_step : (marks : List ℕ) (here : ℕ) (c : Machine) (inst : Inst) → c.registers.pc ≡ begin_of e + 4 * here
      → slice_get words here ≡ Some (word inst) → decode (word inst) ≡ Some inst
      → layout.machine_step (begin_of e) words marks (λ mark d. None) c ≡ machine_of (step_of inst c.registers c.memory)
  layout_step marks here c inst at there decodes =
      let place : place_of (begin_of e) c.registers.pc ≡ Some here = place_at in
      let read : layout.decoded (slice_get words here) ≡ Some inst = ap layout.decoded there ∙ decodes in
      rw (place, read, nothing_there (mark_at marks here) c) refl
    where
      place_at : place_of (begin_of e) c.registers.pc ≡ Some here
      place_at =
          let above : nat_le (begin_of e) c.registers.pc ≡ true = le-leb (begin_of e) c.registers.pc (omega arith) in
          let whole : (c.registers.pc - begin_of e) % 4 ≡ 0 = omega arith in
          let index : (c.registers.pc - begin_of e) / 4 ≡ here = omega arith in
          rw (above, whole, index) refl

  -- so the machine of the object takes it too
  pub same_step : (log : Log) (marks : List ℕ) (c after : Machine) (here next w : ℕ) (inst : Inst) → c.registers.pc ≡ begin_of e + 4 * here
      → slice_get words here ≡ Some (word inst) → decode (word inst) ≡ Some inst → of_kind Patchpoint (site_among (4 * here) rows) ≡ None → IsWhole e c.memory
      → (step_of inst c.registers c.memory).outcome ≡ Next
      → layout.machine_step (begin_of e) words marks (λ mark d. None) c ≡ after
      → after.registers.pc ≡ begin_of e + 4 * next → slice_get words next ≡ Some w
      → machine_step e (Runs (state_of log c)) ≡ Runs (state_of log after)
  same_step log marks c after here next w inst at there decodes none whole outcome steps leads stands =
      let is : machine_of (step_of inst c.registers c.memory) ≡ after = sym (layout_step marks here c inst at there decodes) ∙ steps in
      word_step log c here next w inst at there decodes none whole outcome (ap (λ (d : Machine). d.registers.pc) is ∙ leads) stands
      ∙ ap (λ d. Runs (state_of log d)) is
