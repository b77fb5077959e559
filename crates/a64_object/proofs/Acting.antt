-- Where the code of a procedure stands at a site at which the outside acts, the machine of an object with its text takes a step of
-- the world, from a proper moment.
use Rattle.std.proofs.Common.{◌≡◌, ℕ, ◌+◌, ◌*◌, ◌%◌, ◌^◌, ◌<◌, ◌≤◌, true, false, Some, List, [], ◌∷◌, ◌++◌, length, refl, sym, ap, ◌∙◌, arith, nat_eq, get_or}
use Rattle.std.specs.Prelude.{slice_get}
use Rattle.std.proofs.lemmas.Bool.Decides.{nat_tests}
use Rattle.std.proofs.lemmas.Option.{slice_get-get_or}
use Rattle.std.proofs.Math.Nat.{mod-eq_of_lt}
use Rattle.b3_base.specs.Observed.{Answer, Give, Leave, Memory}
use Rattle.b3_base.specs.declared.event.EventKind.{EventKind}
use Rattle.b3_base.specs.declared.event.EventKind.TheVariants as event
use Rattle.b3_base.specs.declared.observation.Status.TheVariants.{Left, Waiting}
use Rattle.stackmap.specs.World.{words_in}
use Rattle.stackmap.specs.declared.site.Site.{Site}
use Rattle.stackmap.specs.declared.site.SiteKind.{SiteKind}
use Rattle.stackmap.specs.declared.site.SiteKind.TheVariants.{Call, Patchpoint, Exit, Trap}
use Rattle.a64_inst.specs.Step.{step_of}
use Rattle.a64_inst.specs.StepBranch.{branch_reg}
use Rattle.a64_inst.specs.declared.inst.BranchKind.TheVariants.{Blr}
use Rattle.a64_inst.specs.declared.inst.Inst.TheVariants.{BranchReg, Break}
use Rattle.a64_word.specs.Word.{word}
use Rattle.a64_layout.specs.Layout.{place}
use Rattle.a64_layout.specs.Machine.{Machine, machine_of, moved_to}
use Rattle.a64_layout.specs.Text.{mark_position_of}
use Rattle.a64_run.specs.Machine as machine
use Rattle.a64_run.specs.Machine.{Config, Entry, Runs, Stops, answered, execute, is_text_byte, is_text_word, machine_step, of_kind, site_among, site_at, stepped, world, world_step}
use Rattle.a64_run.specs.Moments.{IsProper as IsMoment}
use Rattle.a64_run.proofs.Steps.{of_kind-itself, of_kind-other, patchpoint_is_proper}
use Rattle.a64_emit.specs.Setting.{Setting, address_of}
use Rattle.a64_emit.specs.Emitted.{ActsAt, Asks, IsProperAt, Log, after_event, event_of, seen_at}
use Rattle.a64_emit.specs.Sites.{SuitsItems}
use Rattle.a64_object.proofs.Lists.{no_some}
use Rattle.a64_object.proofs.Sited.{IsSized, before_is, site_places, some_size}
use Rattle.a64_object.proofs.Stepping.{executes, is_word, site_is, state_of, word_proper}
use Rattle.a64_object.proofs.Subject.{Stands, Subject, as_many_words, at_item, entry, rows_in, setting}
use Rattle.a64_object.proofs.Items.{fitting, same_inst, suits_here}
use Rattle.a64_object.proofs.Stopping.{at_inst, kept_frame, safe_inst}

-- a BLR at a call to an address that is no byte of the text
calls_so : (e : Entry) (s : machine.State) (rn : ℕ) (site : Site) → of_kind Call (site_at e s.registers.pc) ≡ Some site → rn ≤ 30
    → is_text_byte e (s.registers.x rn) ≡ false
    → execute e s (BranchReg Blr rn)
    ≡ world_step e site (event.Call (s.registers.x rn)) ((s.registers.pc + 4) % 2 ^ 64)
    (record s { registers = (step_of (BranchReg Blr rn) s.registers s.memory).registers; memory = (step_of (BranchReg Blr rn) s.registers s.memory).memory })
unfolding step_of branch_reg
calls_so e s rn site is low outside =
    let no_zero : nat_eq rn 31 ≡ false = grind (arith, nat_tests) in
    rw (is, no_zero, outside) refl

-- an event is added, and the next answer is taken
world_is : (e : Entry) (site : Site) (kind : EventKind) (pc : ℕ) (s : machine.State) (words : List ℕ) → words_in s.registers.x s.memory site.reps ≡ Some words
    → world_step e site kind pc s ≡ world e site kind pc s (Some words)
world_is e site kind pc s words places = ap (world e site kind pc s) places

module _ (x : Subject) (stands : Stands x) where
  abbrev z : Setting
  z = setting x

  abbrev e : Entry
  e = entry x

  module _ (log : Log) (k : ℕ) (c : Machine) (proper : IsProperAt z k c) (a : Asks z k c) where
    abbrev behind : ℕ
    behind = k + a.site.size

    pub asks_places : (1 ≤ a.site.size) × (place x.code x.long behind ≡ place x.code x.long k + a.site.size)
        × (place x.code x.long behind < length x.text.words)
    asks_places =
        let has = stands.is_text.has_sites in
        let suits = suits_here z has k a.site a.marked in
        let m = suits.1 in
        let at = before_is x.code x.sites has k m.0 m.2 in
        let places = site_places x.code x.sites has x.long m.0 a.site m.1 in
        let all = as_many_words x stands in
        let ahead = a.ahead in
        let first : place x.code x.long k ≡ place x.code x.long (mark_position m.0) = ap (place x.code x.long) (sym at.1) ∙ places.0 in
        let next = ap (λ n. place x.code x.long (n + a.site.size)) (sym at.1) ∙ places.1 in
        (some_size a.site.kind a.site.size (has.sized m.0 a.site m.1), omega arith, omega arith)
      where
        mark_position : ℕ → ℕ
        mark_position m = mark_position_of x.code m

    -- what the machine does at the site
    record Acts : Type 0 where
      address : ℕ
      step : machine_step e (at_item x log k c) ≡ world_step e a.site a.kind (address_of z behind) (state_of log (moved_to address a.found))
      moment : IsMoment e (at_item x log k c)

    address_behind : (address_of z k + 4 * a.site.size) % 2 ^ 64 ≡ address_of z behind
    address_behind =
        let places = asks_places in
        let fits = fitting x stands in
        let same : address_of z k + 4 * a.site.size ≡ address_of z behind = omega arith in
        let small : address_of z behind < 2 ^ 64 = omega arith in
        ap (λ n. n % 2 ^ 64) same ∙ mod-eq_of_lt small

    patch_acts : a.site.kind ≡ Patchpoint → ActsAt Patchpoint z k c a.site a.kind a.found → SuitsItems x.code Patchpoint a.site.size k → Acts
    patch_acts kind acts suits =
        let here : k + 0 ≡ k = omega arith in
        let some = asks_places.0 in
        let i = at_inst x stands k (Break 2) (sym (ap (slice_get x.code) here) ∙ suits 0 some) in
        let at : site_at e (address_of z k) ≡ Some a.site =
        site_is e x.text.words (rows_in x) stands.has_text (place x.code x.long k) (address_of z k) (word (Break 2)) refl i.there ∙ i.row ∙ a.marked in
        let patch : of_kind Patchpoint (site_at e (address_of z k)) ≡ Some a.site = ap (of_kind Patchpoint) at ∙ of_kind-itself Patchpoint a.site kind refl in
        let s = state_of log (moved_to (address_of z k) c) in
        record {
          address = address_of z k;
          step = ap (stepped e s) patch
              ∙ ap (λ pc. world_step e a.site (event.Patch a.site.value) pc s) address_behind
              ∙ ap (λ ek. world_step e a.site ek (address_of z behind) s) (sym acts.0)
              ∙ ap (λ f. world_step e a.site a.kind (address_of z behind) (state_of log (moved_to (address_of z k) f))) (sym acts.1);
          moment = patchpoint_is_proper e s a.site at kind proper.aligned (kept_frame x log (address_of z k) c a.frame);
        }

    call_acts : a.site.kind ≡ Call → ActsAt Call z k c a.site a.kind a.found → SuitsItems x.code Call a.site.size k → a.site.size ≡ 1 → Acts
    call_acts kind acts suits one =
        let rn = acts.0 in
        let i = at_inst x stands k (BranchReg Blr rn) acts.1 in
        let same_rn : rn ≡ suits.0 = same_link (same_inst (slice_get x.code k) (BranchReg Blr rn) (BranchReg Blr suits.0) acts.1 suits.2) in
        let row : site_among (4 * place x.code x.long k) (rows_in x) ≡ Some a.site = i.row ∙ a.marked in
        let at : site_at e (address_of z k) ≡ Some a.site =
        site_is e x.text.words (rows_in x) stands.has_text (place x.code x.long k) (address_of z k) (word (BranchReg Blr rn)) refl i.there ∙ row in
        let call : of_kind Call (site_at e (address_of z k)) ≡ Some a.site = ap (of_kind Call) at ∙ of_kind-itself Call a.site kind refl in
        let no_patchpoint = ap (of_kind Patchpoint) row ∙ of_kind-other Patchpoint Call a.site kind refl in
        let no_exit = ap (of_kind Exit) row ∙ of_kind-other Exit Call a.site kind refl in
        let here = moved_to (address_of z k) c in
        let s = state_of log here in
        let safe = safe_inst x stands k c (BranchReg Blr rn) acts.1 proper in
        let linked = machine_of (step_of (BranchReg Blr rn) here.registers c.memory) in
        let four : (address_of z k + 4) % 2 ^ 64 ≡ address_of z behind = ap (λ n. (address_of z k + 4 * n) % 2 ^ 64) (sym one) ∙ address_behind in
        record {
          address = a.found.registers.pc;
          step = executes e x.text.words (rows_in x) stands.has_text log here (place x.code x.long k) (BranchReg Blr rn) refl i.there i.decodes no_patchpoint
              ∙ calls_so e s rn a.site call (omega (arith, suits.1)) acts.2
              ∙ ap (λ pc. world_step e a.site (event.Call (c.registers.x rn)) pc (state_of log linked)) four
              ∙ ap (λ ek. world_step e a.site ek (address_of z behind) (state_of log linked)) (sym acts.3)
              ∙ ap (λ f. world_step e a.site a.kind (address_of z behind) (state_of log f)) (sym acts.4);
          moment = word_proper e x.text.words (rows_in x) stands.has_text log here (place x.code x.long k)
              (BranchReg Blr rn) refl i.there i.decodes no_patchpoint proper.aligned safe.there safe.platform
              (λ site found. no_some site (sym no_exit ∙ found)) (λ site found. kept_frame x log (address_of z k) c a.frame);
        }
      where
        same_link : {m n : ℕ} → BranchReg Blr m ≡ BranchReg Blr n → m ≡ n
        same_link e = cc

    acts_by : (kind : SiteKind) → a.site.kind ≡ kind → ActsAt kind z k c a.site a.kind a.found → SuitsItems x.code kind a.site.size k
        → IsSized kind a.site.size → Acts
    acts_by Patchpoint kind acts suits sized = patch_acts kind acts suits
    acts_by Call kind acts suits sized = call_acts kind acts suits sized
    acts_by Exit kind acts suits sized = absurd acts
    acts_by Trap kind acts suits sized = absurd acts

    acts : Acts
    acts =
        let has = stands.is_text.has_sites in
        let suits = suits_here z has k a.site a.marked in
        acts_by a.site.kind refl a.acts suits.0 (has.sized suits.1.0 a.site suits.1.1)

    pub acts_moment : IsMoment e (at_item x log k c)
    acts_moment = acts.moment

    -- the log with one event more
    abbrev pub logged : List Answer → Log
    logged rest = record { events = log.events ++ event_of z k c a ∷ []; answers = rest }

    asks_step : (answers : List Answer) → log.answers ≡ answers
        → machine_step e (at_item x log k c) ≡ answered e a.site (address_of z behind) (length log.events)
        (state_of (logged log.answers) (moved_to acts.address a.found)) answers
    asks_step answers are =
        let s = state_of log (moved_to acts.address a.found) in
        acts.step ∙ world_is e a.site a.kind (address_of z behind) s a.words a.places
        ∙ ap (answered e a.site (address_of z behind) (length log.events) (state_of (logged log.answers) (moved_to acts.address a.found))) are

    pub asks_waits : log.answers ≡ [] → machine_step e (at_item x log k c) ≡ Stops (seen_at z (logged []) a.found Waiting)
    asks_waits are = asks_step [] are

    pub asks_leaves : (rest : List Answer) → log.answers ≡ Leave ∷ rest → machine_step e (at_item x log k c) ≡ Stops (seen_at z (logged rest) a.found Left)
    asks_leaves rest are = asks_step (Leave ∷ rest) are

    pub asks_goes : (value : ℕ) (writes : Memory) (rest : List Answer) → log.answers ≡ Give value writes ∷ rest
        → machine_step e (at_item x log k c) ≡ at_item x (logged rest) behind (after_event z k c a (length log.events) value writes)
    asks_goes value writes rest are =
        let there = slice_get-get_or x.text.words (place x.code x.long behind) 0 asks_places.2 in
        let stands_there : is_text_word e (address_of z behind) ≡ true =
        is_word e x.text.words (rows_in x) stands.has_text (place x.code x.long behind) (address_of z behind)
        (get_or x.text.words (place x.code x.long behind) 0) refl there in
        asks_step (Give value writes ∷ rest) are ∙ rw stands_there refl
