-- Where the code of a procedure stops, the machine of an object with its text stops: at the caller, by a fault, or at an exit.
use Rattle.std.proofs.Common.{◌≡◌, ℕ, zero, suc, ◌+◌, ◌-◌, ◌*◌, ◌≤◌, inl, inr, Bool, true, false, Option, Some, None, List, [], ◌∷◌, length, if◌then◌else◌, refl, sym, ap, ◌∙◌, subst, arith, nat_eq, eq-eqb}
use Rattle.std.specs.Prelude.{Contains, slice_get}
use Rattle.std.proofs.lemmas.Bool.{eqb-true}
use Rattle.std.proofs.lemmas.Option.{slice_get_within}
use Rattle.b3_base.specs.Memory.{read_word}
use Rattle.b3_base.specs.Observed.{Observation}
use Rattle.b3_base.specs.declared.observation.Status.TheVariants.{Exited, Returned, Trapped}
use Rattle.stackmap.specs.World.{words_in}
use Rattle.stackmap.specs.declared.site.Returns.{Returns as Returned_as}
use Rattle.stackmap.specs.declared.site.Returns.TheVariants.{Nothing, W32, W64}
use Rattle.stackmap.specs.declared.site.SavedRow.{SavedRow}
use Rattle.stackmap.specs.declared.site.Site.{Site}
use Rattle.stackmap.specs.declared.site.SiteKind.TheVariants.{Call, Patchpoint, Exit, Trap}
use Rattle.a64_inst.specs.Registers.{Registers}
use Rattle.a64_inst.specs.Step.{step_of}
use Rattle.a64_inst.specs.StepBranch.{branch_reg}
use Rattle.a64_inst.specs.declared.inst.BranchKind.TheVariants.{Ret}
use Rattle.a64_inst.specs.declared.inst.Inst.{Inst}
use Rattle.a64_inst.specs.declared.inst.Inst.TheVariants.{BranchReg, Break}
use Rattle.a64_inst.specs.declared.item.Item.TheVariants.{Plain}
use Rattle.a64_inst.specs.declared.state.Outcome.TheVariants.{Fault, Next}
use Rattle.a64_word.specs.Decode.{decode}
use Rattle.a64_word.specs.Word.{word}
use Rattle.a64_layout.specs.Branch.{size_in}
use Rattle.a64_layout.specs.Layout.{place}
use Rattle.a64_layout.specs.Machine.{Machine, moved_to}
use Rattle.a64_layout.proofs.Least.{place-next, place_mono}
use Rattle.a64_run.specs.Machine as machine
use Rattle.a64_run.specs.Machine.{Entry, Stops, execute, has_returned, is_word, keeps_at, keeps_first, keeps_registers, keeps_saved, machine_step, of_kind, returned_word, saved_at, seen_as, site_among, site_at, stops, touched, touches_empty_at}
use Rattle.a64_run.specs.Moments.{IsProper as IsMoment, KeepsFrame}
use Rattle.a64_run.specs.Placement.{frame_pointer_of}
use Rattle.a64_run.proofs.Steps.{of_kind-itself, of_kind-other}
use Rattle.a64_emit.specs.Setting.{Setting, address_of, site_before}
use Rattle.a64_emit.specs.Related.{HasFrame}
use Rattle.a64_emit.specs.Emitted.{HasExited, HasReturned, HasTrapped, IsProperAt, IsSafe, IsSafeItem, IsStopped, Log}
use Rattle.a64_object.proofs.Lists.{no_some}
use Rattle.a64_object.proofs.TextWords.{plain_at}
use Rattle.a64_object.proofs.Sited.{plain_row}
use Rattle.a64_object.proofs.Stepping.{IsQuiet, executes, none_touched_empty, quiet_proper, site_is, state_of, trap_quiet, word_proper}
use Rattle.a64_object.proofs.Subject.{Stands, Subject, as_many_words, at_item, entry, rows_in, setting}
use Rattle.a64_object.proofs.Items.{quiet_before}

-- ---- saved registers
-- where the frame saves a register
abbrev Saves : List SavedRow → ℕ → ℕ → Type 0
Saves rows r offset = (s : SavedRow) × Contains rows s × (s.reg.0 ≡ r) × (s.offset ≡ offset)

saved_row : (rows : List SavedRow) (r offset : ℕ) → saved_at rows r ≡ Some offset → Saves rows r offset
saved_row [] r offset is = absurd cc
saved_row (row ∷ rows) r offset is = by (λ found. saved_row rows r offset found) (nat_eq row.reg.0 r) refl is
  where
    by : (saved_at rows r ≡ Some offset → Saves rows r offset) → (b : Bool) → nat_eq row.reg.0 r ≡ b
        → (if b then Some row.offset else saved_at rows r) ≡ Some offset
        → Saves (row ∷ rows) r offset
    by again true same found = (row, (0, omega arith, refl), eqb-true row.reg.0 r same, cc)
    by again false differ found =
        let rest = again found in
        let at = rest.1 in (rest.0, (suc at.0, omega arith, at.2), rest.2, rest.3)

is_that_word : (o : Option ℕ) (w : ℕ) → o ≡ Some w → is_word o w ≡ true
is_that_word o w is = ap (λ p. is_word p w) is ∙ eq-eqb w w refl

-- within the procedure each of x19 to x28 is kept
module _ (x : Subject) (log : Log) (a : ℕ) (c : Machine) (frame : HasFrame (setting x) c) where
  kept_by : (r : ℕ) (o : Option ℕ) → 19 ≤ r → r ≤ 28 → saved_at x.frame.saved r ≡ o → keeps_at (entry x) (state_of log (moved_to a c)) r o ≡ true
  kept_by r (Some offset) low high is =
      let row = saved_row x.frame.saved r offset is in
      let there = frame.saved row.0 row.1 in
      is_that_word (read_word c.memory (x.start.sp - 16 - offset) 8) (x.start.registers r)
      (ap (λ n. read_word c.memory (x.start.sp - 16 - n) 8) (sym row.3) ∙ there ∙ ap (λ n. Some (x.start.registers n)) row.2)
  kept_by r None low high is = eq-eqb (c.registers.x r) (x.start.registers r) (frame.unsaved r low high is)

  kept_first : (n : ℕ) → n ≤ 10 → keeps_first (entry x) (state_of log (moved_to a c)) n ≡ true
  kept_first zero le = refl
  kept_first (suc n) le = rw (kept_first n (omega arith), kept_by (19 + n) (saved_at x.frame.saved (19 + n)) (omega arith) (omega arith) refl) refl

  kept_saved : keeps_saved (entry x) (state_of log (moved_to a c)) ≡ true
  kept_saved = kept_first 10 (omega arith)

  -- and so is the frame
  pub kept_frame : KeepsFrame (entry x) (state_of log (moved_to a c))
  kept_frame = record {
    sp = frame.sp;
    x29 = frame.x29;
    caller = let none : frame_pointer_of x.start - 0 ≡ frame_pointer_of x.start = omega arith in ap (λ at. read_word c.memory at 8) (sym none) ∙ frame.caller;
    link = frame.link;
    saved = kept_saved;
  }

-- ---- coming back to the caller
keeps_all : (e : Entry) (r : Registers) (n : ℕ) → n ≤ 11 → ((k : ℕ) → 19 ≤ k → k ≤ 29 → r.x k ≡ e.start.registers k) → keeps_registers e r n ≡ true
keeps_all e r zero le kept = refl
keeps_all e r (suc n) le kept =
    let here : nat_eq (r.x (19 + n)) (e.start.registers (19 + n)) ≡ true =
    eq-eqb (r.x (19 + n)) (e.start.registers (19 + n)) (kept (19 + n) (omega arith) (omega arith)) in
    rw (keeps_all e r n (omega arith) kept, here) refl

pc_aside : (returns : Returned_as) (r : Registers) (pc : ℕ) → returned_word returns (record r { pc = pc }) ≡ returned_word returns r
pc_aside Nothing r pc = refl
pc_aside W32 r pc = refl
pc_aside W64 r pc = refl

-- a RET with everything as at entry ends the run, with the word that is returned
returns_so : (e : Entry) (s : machine.State) → s.registers.x 30 ≡ e.start.registers 30 → s.registers.sp ≡ e.start.sp
    → ((k : ℕ) → 19 ≤ k → k ≤ 29 → s.registers.x k ≡ e.start.registers k)
    → execute e s (BranchReg Ret 30) ≡ Stops (seen_as e s (Returned (returned_word e.frame.returns s.registers)))
unfolding step_of branch_reg
returns_so e s link sp kept =
    let r : Registers = record s.registers { pc = s.registers.x 30 } in
    let at_link : nat_eq (s.registers.x 30) (e.start.registers 30) ≡ true = eq-eqb (s.registers.x 30) (e.start.registers 30) link in
    let at_sp : nat_eq s.registers.sp e.start.sp ≡ true = eq-eqb s.registers.sp e.start.sp sp in
    let back : has_returned e r ≡ true = rw (at_link, at_sp, keeps_all e r 11 (omega arith) kept) refl in
    rw back (ap (λ word. Stops (seen_as e s (Returned word))) (pc_aside e.frame.returns s.registers (s.registers.x 30)))

ret_next : (r : Registers) (c : Machine) → (step_of (BranchReg Ret 30) r c.memory).outcome ≡ Next
unfolding step_of branch_reg
ret_next r c = refl

-- ---- by a fault, and at an exit
traps_so : (e : Entry) (s : machine.State) (inst : Inst) (site : Site) (address : ℕ) → of_kind Trap (site_at e s.registers.pc) ≡ Some site
    → (step_of inst s.registers s.memory).outcome ≡ Fault address → touches_empty_at e s.memory (touched inst s.registers) ≡ false
    → execute e s inst ≡ stops e s (Trapped site.value address)
traps_so e s inst site address is faults whole = rw (whole, faults, is) refl

exits_so : (e : Entry) (s : machine.State) (site : Site) (words : List ℕ) → of_kind Exit (site_at e s.registers.pc) ≡ Some site
    → words_in s.registers.x s.memory site.reps ≡ Some words → keeps_saved e s ≡ true → execute e s (Break 1) ≡ stops e s (Exited site.value words)
unfolding step_of
exits_so e s site words is places kept = rw (is, places, kept) refl

-- ---- a run that stops
module _ (x : Subject) (stands : Stands x) where
  abbrev z : Setting
  z = setting x

  abbrev e : Entry
  e = entry x

  -- the word of an instruction and what stands at it
  pub record AtInst (k : ℕ) (inst : Inst) : Type 0 where
    pub there : slice_get x.text.words (place x.code x.long k) ≡ Some (word inst)
    pub decodes : decode (word inst) ≡ Some inst
    pub row : site_among (4 * place x.code x.long k) (rows_in x) ≡ site_before z k
    pub behind : place x.code x.long k + 1 ≤ length x.text.words

  pub at_inst : (k : ℕ) (inst : Inst) → slice_get x.code k ≡ Some (Plain inst) → AtInst k inst
  at_inst k inst plain =
      let t = stands.is_text in
      let there = plain_at x.code t.has_sites.good x.long t.enough x.text.words t.words_are k inst plain in
      let within = slice_get_within x.code k (Plain inst) plain in
      let next = place-next x.code x.long k in
      let one : size_in (x.long k) (slice_get x.code k) ≡ 1 = ap (size_in (x.long k)) plain in
      let up = place_mono x.code x.long (k + 1) (length x.code) (omega arith) in
      let all = as_many_words x stands in
      record {
        there = there.0;
        decodes = there.1;
        row = plain_row x.code x.sites t.has_sites x.long x.text.marks t.tells t.as_many k inst plain;
        behind = omega arith;
      }

  pub safe_inst : (k : ℕ) (c : Machine) (inst : Inst) → slice_get x.code k ≡ Some (Plain inst) → IsProperAt z k c → IsSafe z (moved_to (address_of z k) c) inst
  safe_inst k c inst plain proper = subst (IsSafeItem z (moved_to (address_of z k) c)) plain proper.safe

  -- one step, from a proper moment, and then what is seen
  pub record StopsHere (log : Log) (seen : Observation) (k : ℕ) (c : Machine) : Type 0 where
    pub step : machine_step e (at_item x log k c) ≡ Stops seen
    pub proper : IsMoment e (at_item x log k c)
    pub behind : place x.code x.long k + 1 ≤ length x.text.words

  module _ (log : Log) (seen : Observation) (k : ℕ) (c : Machine) (proper : IsProperAt z k c) where
    abbrev here : Machine
    here = moved_to (address_of z k) c

    returned_here : HasReturned z log seen k c → StopsHere log seen k c
    returned_here stopped =
        let i = at_inst k (BranchReg Ret 30) stopped.ret in
        let safe = safe_inst k c (BranchReg Ret 30) stopped.ret proper in
        let quiet = subst IsQuiet (sym i.row)
        (quiet_before z stands.is_text.has_sites k (BranchReg Ret 30) here.registers c stopped.ret (ret_next here.registers c)) in
        let s = state_of log here in
        record {
          step = executes e x.text.words (rows_in x) stands.has_text log here (place x.code x.long k) (BranchReg Ret 30) refl i.there i.decodes quiet.patchpoint
              ∙ returns_so e s (stopped.kept 30 (omega arith) (omega arith)) stopped.sp (λ r low high. stopped.kept r low (omega arith))
              ∙ ap (λ word. Stops (seen_as e s (Returned word))) (pc_aside x.air.returns c.registers (address_of z k) ∙ stopped.returned)
              ∙ ap Stops (sym stopped.shows);
          proper = quiet_proper e x.text.words (rows_in x) stands.has_text log here (place x.code x.long k)
              (BranchReg Ret 30) refl i.there i.decodes quiet proper.aligned safe.there safe.platform;
          behind = i.behind;
        }

    trapped_here : HasTrapped z log seen k c → StopsHere log seen k c
    trapped_here stopped =
        let i = at_inst k stopped.inst stopped.access in
        let safe = safe_inst k c stopped.inst stopped.access proper in
        let row : site_among (4 * place x.code x.long k) (rows_in x) ≡ Some stopped.site = i.row ∙ stopped.marked in
        let quiet = trap_quiet (site_among (4 * place x.code x.long k) (rows_in x)) stopped.site row stopped.kind in
        let s = state_of log here in
        let at : site_at e (address_of z k) ≡ Some stopped.site =
        site_is e x.text.words (rows_in x) stands.has_text (place x.code x.long k) (address_of z k) (word stopped.inst) refl i.there ∙ row in
        record {
          step = executes e x.text.words (rows_in x) stands.has_text log here (place x.code x.long k) stopped.inst refl i.there i.decodes quiet.patchpoint
              ∙ traps_so e s stopped.inst stopped.site stopped.address (ap (of_kind Trap) at ∙ of_kind-itself Trap stopped.site stopped.kind refl)
              stopped.faults
              (none_touched_empty e c.memory (touched stopped.inst here.registers) proper.whole)
              ∙ ap Stops (sym stopped.shows);
          proper = quiet_proper e x.text.words (rows_in x) stands.has_text log here (place x.code x.long k) stopped.inst refl i.there i.decodes quiet
              proper.aligned safe.there safe.platform;
          behind = i.behind;
        }

    exited_here : HasExited z log seen k c → StopsHere log seen k c
    exited_here stopped =
        let i = at_inst k (Break 1) stopped.break in
        let safe = safe_inst k c (Break 1) stopped.break proper in
        let row : site_among (4 * place x.code x.long k) (rows_in x) ≡ Some stopped.site = i.row ∙ stopped.marked in
        let s = state_of log here in
        let at : site_at e (address_of z k) ≡ Some stopped.site =
        site_is e x.text.words (rows_in x) stands.has_text (place x.code x.long k) (address_of z k) (word (Break 1)) refl i.there ∙ row in
        let kept = kept_frame x log (address_of z k) c stopped.frame in
        let no_patchpoint = ap (of_kind Patchpoint) row ∙ of_kind-other Patchpoint Exit stopped.site stopped.kind refl in
        let no_call = ap (of_kind Call) row ∙ of_kind-other Call Exit stopped.site stopped.kind refl in
        record {
          step = executes e x.text.words (rows_in x) stands.has_text log here (place x.code x.long k) (Break 1) refl i.there i.decodes no_patchpoint
              ∙ exits_so e s stopped.site stopped.words (ap (of_kind Exit) at ∙ of_kind-itself Exit stopped.site stopped.kind refl) stopped.places kept.saved
              ∙ ap Stops (sym stopped.shows);
          proper = word_proper e x.text.words (rows_in x) stands.has_text log here (place x.code x.long k)
              (Break 1) refl i.there i.decodes no_patchpoint proper.aligned safe.there safe.platform
              (λ site found. kept) (λ site found. no_some site (sym no_call ∙ found));
          behind = i.behind;
        }

    pub stops_here : IsStopped z log seen k c → StopsHere log seen k c
    stops_here (inl returned) = returned_here returned
    stops_here (inr (inl trapped)) = trapped_here trapped
    stops_here (inr (inr exited)) = exited_here exited
