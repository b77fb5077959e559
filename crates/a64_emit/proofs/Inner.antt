-- What an instruction that doesn't end its block leads to.
use Rattle.std.proofs.Common.{◌≡◌, ℕ, ◌+◌, ◌<◌, Bool, true, inl, inr, ⊎_elim, List, [], ◌∷◌, ◌++◌, Some, None, length, refl, sym, ap, ◌∙◌, subst, arith, length-append, append-nil}
use Rattle.std.specs.Prelude.{All, slice_get}
use Rattle.std.proofs.lemmas.Option.{slice_get_within}
use Rattle.b3_base.specs.Ranged.{IsRangedAnswer}
use Rattle.b3_base.specs.declared.observation.Status.{Status}
use Rattle.b3_base.specs.declared.observation.Status.TheVariants.{Trapped}
use Rattle.stackmap.specs.declared.site.Site.{Site}
use Rattle.a64_inst.specs.Step.{Stepped, step_of}
use Rattle.a64_inst.specs.declared.inst.Inst.{Inst}
use Rattle.a64_inst.specs.declared.item.Item.{Item}
use Rattle.a64_inst.specs.declared.item.Item.TheVariants.{Mark, Plain}
use Rattle.air_ir.specs.Blocks as air
use Rattle.air_ir.specs.Kinds.{Kind, Loads, Stores}
use Rattle.air_ir.specs.Meaning.{Over, meaning}
use Rattle.air_ir.specs.Steps.{Goes, State, Undefined, step}
use Rattle.air_ir.specs.declared.frame.Frame.{Frame}
use Rattle.air_ir.specs.declared.op.AirOp.{AirOp}
use Rattle.air_ir.specs.declared.op.AirOp.TheVariants as op
use Rattle.air_ir.specs.declared.operand.Operand.{Operand}
use Rattle.air_ir.specs.declared.procedure.AirInst.{AirInst}
use Rattle.air_frame.specs.Frames.{IsFrameOf}
use Rattle.a64_layout.specs.Layout.{place}
use Rattle.a64_layout.specs.Machine.{Machine, moved_to}
use Rattle.a64_run.specs.Placement.{visible}
use Rattle.a64_emit.specs.Code.{inner_items, inst_code, inst_items, load_code, load_items, marked_if, store_code, store_items, with_mark}
use Rattle.a64_emit.specs.Emitted.{HasTrapped, IsProperAt, IsSafe, IsSafeItem, log_of}
use Rattle.a64_emit.specs.Made.{sites_by, trap_site}
use Rattle.a64_code.specs.Places.{plains}
use Rattle.a64_emit.specs.Related.{IsRelated}
use Rattle.a64_emit.specs.Setting.{IsSet, Setting, address_of, row, site_before}
use Rattle.a64_emit.proofs.AccessesDone.{safe_there}
use Rattle.a64_emit.proofs.AccessesRun.{AccessRuns, Faulted}
use Rattle.a64_emit.proofs.Branching.{alike_related, words_there}
use Rattle.a64_emit.proofs.Computes.{Carried, InstRuns, does_more}
use Rattle.a64_emit.proofs.Endings.{stops_seen}
use Rattle.a64_emit.proofs.Instructions.{is_load, is_load_kind, is_store_kind, is_store_op, is_straight}
use Rattle.a64_emit.proofs.Keeping.{whole_of}
use Rattle.a64_emit.proofs.MarkedRuns.{IsPassed, front_insts, front_passed, insts_of, marked_runs, site_there, with_mark_insts, with_mark_passed}
use Rattle.a64_emit.proofs.Positions.{Among, among_first, among_rest}
use Rattle.a64_emit.proofs.Straight.{AreAlike, Does, Reaches, ReachesUnlessLost, Runs, alike_at, leads_on, reaches_here, whole_alike}
use Rattle.a64_emit.proofs.Trees.{Each}

-- ---- what it leads to

-- the run is over
pub record Stops (z : Setting) (i : AirInst) (s : State) (k : ℕ) (c : Machine) : Type 0 where
  pub junk : List ℕ
  pub state : State
  pub status : Status
  pub steps : (rest : List ℕ) → step (meaning z.start) i s (junk ++ rest) ≡ (Goes (Some (Over status)) state, rest)
  pub reaches : Reaches z (log_of s.world) (air.Stopped (air.seen_as state.world status)) k c

-- it goes on at an item, by some words of junk
pub record GoesOn (z : Setting) (i : AirInst) (s : State) (k : ℕ) (c : Machine) (to : ℕ) : Type 0 where
  pub junk : List ℕ
  pub next : State
  pub last : Machine
  pub steps : (rest : List ℕ) → step (meaning z.start) i s (junk ++ rest) ≡ (Goes None next, rest)
  pub related : IsRelated z next last
  pub ranged : All IsRangedAnswer next.world.answers
  pub leads : (config : air.Config) → ReachesUnlessLost z (log_of next.world) config to last → ReachesUnlessLost z (log_of s.world) config k c

pub data InstLeads (z : Setting) (i : AirInst) (s : State) (k : ℕ) (c : Machine) (to : ℕ) : Type 0 where
  IsLost : (lost : (junk : List ℕ) → step (meaning z.start) i s junk ≡ (Undefined, junk)) → InstLeads z i s k c to
  IsOver : (stops : Stops z i s k c) → InstLeads z i s k c to
  IsOn : (goes : GoesOn z i s k c to) → InstLeads z i s k c to

-- ---- items that are done one after the other

same_log : (s t : State) → t.world.events ≡ s.world.events → t.world.answers ≡ s.world.answers → log_of t.world ≡ log_of s.world
same_log s t events answers = rw (events, answers) refl

-- items lead on as they do from a later one
pub reaches_after : (z : Setting) (from to : State) (config : air.Config) (k n : ℕ) (c d : Machine) → log_of to.world ≡ log_of from.world
    → (runs : Runs z k c n d) → ReachesUnlessLost z (log_of to.world) config (k + n) runs.last → ReachesUnlessLost z (log_of from.world) config k c
reaches_after z from to air.Lost k n c d same runs rest = tt
reaches_after z from to (air.At b s) k n c d same runs rest =
    leads_on z (log_of from.world) (air.At b s) k n c d runs (subst (λ log. Reaches z log (air.At b s) (k + n) runs.last) same rest)
reaches_after z from to (air.Stopped seen) k n c d same runs rest =
    leads_on z (log_of from.world) (air.Stopped seen) k n c d runs (subst (λ log. Reaches z log (air.Stopped seen) (k + n) runs.last) same rest)

module _ (z : Setting) (set : IsSet z) (serves : IsFrameOf z.procedure z.frame) where
  -- items of an instruction that is carried out
  carried_leads : (i : AirInst) (s : State) (k : ℕ) (c : Machine) (items : List Item) → Each IsPassed items
      → insts_of items ≡ inst_code z.frame i.op i.operands → Among z.code k items
      → place z.code z.long (k + length items) < place z.code z.long (length z.code) → All IsRangedAnswer s.world.answers → IsRelated z s c
      → Carried z i s c → GoesOn z i s k c (k + length items)
  carried_leads i s k c items passed insts among room ranged rel done =
      let runs = marked_runs z set k c done.after items passed (subst (λ (xs : List Inst). Does z c xs done.after) (sym insts) done.does)
      (whole_of z set serves done.after done.related.frame) rel.frame.words.pc among room in
      record {
        junk = [];
        next = done.next;
        last = runs.last;
        steps = done.steps;
        related = alike_related z done.next done.after runs.last runs.alike (runs.small rel.frame.words.pc) done.related;
        ranged = subst (All IsRangedAnswer) (sym done.world.1) ranged;
        leads = λ config rest. reaches_after z s done.next config k (length items) c done.after (same_log s done.next done.world.0 done.world.1) runs rest;
      }

  pub runs_leads : (i : AirInst) (s : State) (k : ℕ) (c : Machine) (items : List Item) → Each IsPassed items
      → insts_of items ≡ inst_code z.frame i.op i.operands → Among z.code k items
      → place z.code z.long (k + length items) < place z.code z.long (length z.code) → All IsRangedAnswer s.world.answers → IsRelated z s c
      → InstRuns z i s c → InstLeads z i s k c (k + length items)
  runs_leads i s k c items passed insts among room ranged rel runs =
      ⊎_elim (λ (lost : (junk : List ℕ) → step (meaning z.start) i s junk ≡ (Undefined, junk)). IsLost lost)
      (λ (done : Carried z i s c). IsOn (carried_leads i s k c items passed insts among room ranged rel done)) runs

  -- ---- accesses

  -- the machine faults behind a mark
  has_trapped : (i : AirInst) (s : State) (c : Machine) (front : List Inst) (inst : Inst) (at : ℕ) (last : Machine) → (f : Faulted z i s c front inst)
      → AreAlike last f.before → site_before z at ≡ Some (trap_site i.value) → slice_get z.code at ≡ Some (Plain inst)
      → HasTrapped z (log_of s.world) (air.seen_as f.state.world (Trapped i.value f.address)) at last
  has_trapped i s c front inst at last f same marked there = record {
    site = trap_site i.value;
    inst = inst;
    address = f.address;
    marked = marked;
    kind = refl;
    access = there;
    faults = ap (λ (m : Machine). (step_of inst m.registers m.memory).outcome) (alike_at last f.before (address_of z at) same)
        ∙ ap (λ (t : Stepped). t.outcome) (f.fault (address_of z at));
    shows = ap (λ w. air.seen_as w (Trapped i.value f.address)) f.world
        ∙ stops_seen z s.world last (Trapped i.value f.address)
        (f.related.memory ∙ sym (ap (λ (m : Machine). visible (row z) z.entry m.memory) same));
  }

  fault_proper : (i : AirInst) (s : State) (c : Machine) (front : List Inst) (inst : Inst) (at : ℕ) (last : Machine) → (f : Faulted z i s c front inst)
      → AreAlike last f.before → slice_get z.code at ≡ Some (Plain inst) → IsProperAt z at last
  fault_proper i s c front inst at last f same there =
      let pc : ℕ = address_of z at in
      let whole = whole_alike z last f.before same (whole_of z set serves f.before f.related.frame) in
      record {
        aligned = whole.aligned;
        whole = whole.whole;
        safe = subst (IsSafeItem z (moved_to pc last)) (sym there)
            (subst (λ (m : Machine). IsSafe z m inst) (sym (alike_at last f.before pc same))
            (safe_there z f.before inst pc f.related.frame.sp (ap (λ (t : Stepped). t.registers.x 18) (f.fault pc))));
      }

  trapped_leads : (i : AirInst) (s : State) (k mark : ℕ) (c : Machine) (front back : List Inst) (inst : Inst)
      → Among z.code k (with_mark true mark front (inst ∷ back)) → slice_get z.sites mark ≡ Some (trap_site i.value) → IsRelated z s c
      → Faulted z i s c front inst → Stops z i s k c
  trapped_leads i s k mark c front back inst among site rel f =
      let before : List Item = plains front ++ marked_if true mark in
      let first : Among z.code k before = among_first z.code k before (plains (inst ∷ back)) among in
      let at : ℕ = k + length before in
      let rest : Among z.code at (plains (inst ∷ back)) = among_rest z.code k before (plains (inst ∷ back)) among in
      let there : slice_get z.code at ≡ Some (Plain inst) = ap (slice_get z.code) (omega arith) ∙ rest 0 (Plain inst) refl in
      let j : ℕ = k + length (plains front) in
      let mark_there : slice_get z.code j ≡ Some (Mark mark) =
      ap (slice_get z.code) (omega arith) ∙ among_rest z.code k (plains front) (Mark mark ∷ []) first 0 (Mark mark) refl in
      let count = length-append (plains front) (Mark mark ∷ []) in
      let next : j + 1 ≡ at = omega arith in
      let room = words_there z at (Plain inst) there (slice_get_within z.code at (Plain inst) there) (omega arith) in
      let runs : Runs z k c (length before) f.before =
      marked_runs z set k c f.before before (front_passed true mark front)
      (subst (λ (xs : List Inst). Does z c xs f.before) (sym (front_insts true mark front)) (does_more z c f.before front f.does))
      (whole_of z set serves f.before f.related.frame) rel.frame.words.pc first room in
      let config : air.Config = air.Stopped (air.seen_as f.state.world (Trapped i.value f.address)) in
      record {
        junk = f.junk;
        state = f.state;
        status = Trapped i.value f.address;
        steps = f.steps;
        reaches = leads_on z (log_of s.world) config k (length before) c f.before runs
            (reaches_here z (log_of s.world) config at runs.last (fault_proper i s c front inst at runs.last f runs.alike there)
            (inr (inl (has_trapped i s c front inst at runs.last f runs.alike
            (ap (site_before z) (sym next) ∙ site_there z j mark (trap_site i.value) mark_there site) there))));
      }

  pub access_leads : (i : AirInst) (s : State) (k mark : ℕ) (c : Machine) (front back : List Inst) (inst : Inst)
      → inst_code z.frame i.op i.operands ≡ front ++ inst ∷ back → Among z.code k (with_mark i.traps mark front (inst ∷ back))
      → place z.code z.long (k + length (with_mark i.traps mark front (inst ∷ back))) < place z.code z.long (length z.code)
      → (i.traps ≡ true → slice_get z.sites mark ≡ Some (trap_site i.value)) → All IsRangedAnswer s.world.answers → IsRelated z s c
      → AccessRuns z i s c front inst → InstLeads z i s k c (k + length (with_mark i.traps mark front (inst ∷ back)))
  access_leads i s k mark c front back inst code among room site ranged rel runs =
      ⊎_elim
      (λ (plain : InstRuns z i s c).
      runs_leads i s k c (with_mark i.traps mark front (inst ∷ back)) (with_mark_passed i.traps mark front (inst ∷ back))
      (with_mark_insts i.traps mark front (inst ∷ back) ∙ ap (λ (xs : List Inst). xs ++ inst ∷ back) (append-nil front) ∙ sym code)
      among room ranged rel plain)
      (λ (f : Faulted z i s c front inst).
      IsOver (trapped_leads i s k mark c front back inst
      (subst (λ t. Among z.code k (with_mark t mark front (inst ∷ back))) f.traps among) (site f.traps) rel f))
      runs

-- ---- which items an op has

module _ (f : Frame) (next label mark : ℕ) (targets : List ℕ) (traps : Bool) (os : List Operand) where
  pub straight_items : (o : AirOp) → is_straight o ≡ true → inst_items f next label mark targets traps o os ≡ plains (inst_code f o os)
  unfolding inst_items inner_items
  straight_items (op.BranchIf test) is = absurd cc
  straight_items op.Jump is = absurd cc
  straight_items (op.Switch cases) is = absurd cc
  straight_items op.Return is = absurd cc
  straight_items op.Oops is = absurd cc
  straight_items op.Load8Z is = absurd cc
  straight_items op.Load8S is = absurd cc
  straight_items op.Load16Z is = absurd cc
  straight_items op.Load16S is = absurd cc
  straight_items op.Load is = absurd cc
  straight_items op.Store8 is = absurd cc
  straight_items op.Store16 is = absurd cc
  straight_items op.Store is = absurd cc
  straight_items (op.Call typed) is = absurd cc
  straight_items (op.CheckIf test) is = absurd cc
  straight_items op.CheckAdd is = absurd cc
  straight_items op.CheckSub is = absurd cc
  straight_items op.CheckMul is = absurd cc
  straight_items (op.Patch size typed) is = absurd cc
  straight_items o is = refl

  pub items_of_load : (o : AirOp) → is_load o ≡ true → inst_items f next label mark targets traps o os ≡ load_items f mark traps o os
  unfolding inst_items inner_items
  items_of_load op.Load8Z is = refl
  items_of_load op.Load8S is = refl
  items_of_load op.Load16Z is = refl
  items_of_load op.Load16S is = refl
  items_of_load op.Load is = refl
  items_of_load o is = absurd cc

  pub items_of_store : (o : AirOp) → is_store_op o ≡ true → inst_items f next label mark targets traps o os ≡ store_items f mark traps o os
  unfolding inst_items inner_items
  items_of_store op.Store8 is = refl
  items_of_store op.Store16 is = refl
  items_of_store op.Store is = refl
  items_of_store o is = absurd cc

pub code_of_load : (f : Frame) (os : List Operand) (o : AirOp) → is_load o ≡ true → inst_code f o os ≡ load_code f o os
unfolding inst_code
code_of_load f os op.Load8Z is = refl
code_of_load f os op.Load8S is = refl
code_of_load f os op.Load16Z is = refl
code_of_load f os op.Load16S is = refl
code_of_load f os op.Load is = refl
code_of_load f os o is = absurd cc

pub code_of_store : (f : Frame) (os : List Operand) (o : AirOp) → is_store_op o ≡ true → inst_code f o os ≡ store_code f o os
unfolding inst_code
code_of_store f os op.Store8 is = refl
code_of_store f os op.Store16 is = refl
code_of_store f os op.Store is = refl
code_of_store f os o is = absurd cc

pub load_site : (f : Frame) (kind : Kind) (i : AirInst) → is_load_kind kind ≡ true → i.traps ≡ true → sites_by kind f i ≡ trap_site i.value ∷ []
load_site f (Loads extent extends) i is traps = rw traps refl
load_site f kind i is traps = absurd cc

pub store_site : (f : Frame) (kind : Kind) (i : AirInst) → is_store_kind kind ≡ true → i.traps ≡ true → sites_by kind f i ≡ trap_site i.value ∷ []
store_site f (Stores extent) i is traps = rw traps refl
store_site f kind i is traps = absurd cc

pub first_site : (sites : List Site) (mark : ℕ) (own : List Site) (site : Site) → Among sites mark own → own ≡ site ∷ [] → slice_get sites mark ≡ Some site
first_site sites mark own site among is =
    ap (slice_get sites) (omega arith) ∙ subst (Among sites mark) is among 0 site refl
