-- Calls and patchpoints lead to where the outside acts, and on from there.
use Rattle.a64_layout.specs.Branch.{size_in}
use Rattle.air_ir.specs.declared.operand.Home.{Home}
use Rattle.a64_emit.proofs.Words.{put_other}
use Rattle.a64_inst.proofs.Ranged.{step_of-LeavesWords}
use Rattle.a64_emit.proofs.BranchEnds.{word_home}
use Rattle.b3_base.specs.Memory.{AreBytes, read_word}
use Rattle.std.proofs.Common.{◌≡◌, ◌≢◌, ℕ, zero, suc, ◌+◌, ◌-◌, ◌%◌, ◌^◌, ◌<◌, ◌≤◌, Bool, true, false, inl, inr, ⊎_elim, List, [], ◌∷◌, ◌++◌, Option, Some, None, length, map, take, drop, get_or, nat_eq, refl, sym, ap, ◌∙◌, subst, arith, length-append, append_assoc, append-nil, eq-eqb}
use Rattle.std.specs.Prelude.{All, Contains, is_some, if◌then◌else◌, slice_get}
use Rattle.std.specs.List.{list_any}
use Rattle.std.proofs.lemmas.List.Elements.{All-cons, All-head, All-nil, All-tail}
use Rattle.std.proofs.lemmas.Option.{slice_get_within}
use Rattle.std.proofs.lemmas.Bool.{or_left, or_right}
use Rattle.b3_base.proofs.Lists.{All-front, All-behind, All-from_places, get_front, get_behind}
use Rattle.b3_base.specs.Observed.{Event, Memory}
use Rattle.b3_base.specs.Ranged.{IsRangedAnswer}
use Rattle.b3_base.specs.declared.event.EventKind.{EventKind}
use Rattle.b3_base.specs.declared.event.EventKind.TheVariants as event
use Rattle.b3_base.specs.declared.word.Width.{Width}
use Rattle.b3_base.specs.declared.word.Width.TheVariants.{W64}
use Rattle.b3_ir.specs.declared.value.Reg.{Reg as Register}
use Rattle.stackmap.specs.Registers.{has}
use Rattle.stackmap.specs.Rules.{IsAllocatable}
use Rattle.stackmap.specs.World.{widths_of, words_in}
use Rattle.stackmap.specs.declared.site.Site.{Site}
use Rattle.stackmap.specs.declared.site.SiteKind.{SiteKind}
use Rattle.stackmap.specs.declared.site.SiteKind.TheVariants as site_kind
use Rattle.a64_inst.specs.Registers.{AreWords, Registers}
use Rattle.a64_inst.specs.Step.{step_of}
use Rattle.a64_inst.specs.StepBranch.{branch_reg}
use Rattle.a64_inst.specs.declared.inst.BranchKind.TheVariants.{Blr}
use Rattle.a64_inst.specs.declared.inst.Inst.{Inst}
use Rattle.a64_inst.specs.declared.inst.Inst.TheVariants.{BranchReg, Break}
use Rattle.a64_inst.specs.declared.item.Item.{Item}
use Rattle.a64_inst.specs.declared.item.Item.TheVariants.{Mark, Plain}
use Rattle.air_ir.specs.Forms.{HasSite, IsChanged, IsPlacedResult, IsReported, NoImmediate, OfCall, OneIs, SiteOperands, arguments_from, call_clobbers, home, operand_in, spills_changed, AllFit}
use Rattle.air_ir.specs.Meaning as air
use Rattle.air_ir.specs.Meaning.{answered, meaning, operation}
use Rattle.air_ir.specs.Operands.{Read, Target, and_word, is_read, targets, word_of, words}
use Rattle.air_ir.specs.SitesInPlaces.{register_at}
use Rattle.air_ir.specs.Steps.{State}
use Rattle.air_ir.specs.WellFormed.{NamesOwn}
use Rattle.air_ir.specs.declared.frame.Frame.{Frame}
use Rattle.air_ir.specs.declared.op.AirOp.TheVariants as op
use Rattle.air_ir.specs.declared.operand.Arg.TheVariants.{At, Imm}
use Rattle.air_ir.specs.declared.operand.Home.TheVariants.{Reg}
use Rattle.air_ir.specs.declared.operand.Operand.{Operand}
use Rattle.air_ir.specs.declared.operand.Role.TheVariants.{Use, EarlyDef, Def, Clobber}
use Rattle.air_ir.specs.declared.procedure.AirInst.{AirInst}
use Rattle.air_ir.specs.declared.procedure.AirProc.{AirProc}
use Rattle.air_frame.specs.Needs.{arg_names, is_register, names}
use Rattle.a64_layout.specs.Layout.{place}
use Rattle.a64_layout.specs.Machine.{Machine, machine_of, moved_to}
use Rattle.a64_run.specs.Machine.{touched}
use Rattle.a64_run.specs.Placement.{frame_pointer_of, visible}
use Rattle.a64_layout.proofs.Least.{place_mono, place-next}
use Rattle.a64_emit.specs.Code.{arg_at, breaks, call_inst, fetch, marked_if, source_of, with_mark}
use Rattle.a64_code.specs.Computing.{reg_of}
use Rattle.a64_emit.specs.Emitted.{ActsAt, Asks, IsProperAt, IsSafeItem, RunsTo, event_of}
use Rattle.a64_emit.specs.Made.{outward_site, places_read, result_in, with_home, with_written, without_result}
use Rattle.a64_code.specs.Places.{plains, spill_offset}
use Rattle.a64_emit.specs.Related.{Carries, IsRelated}
use Rattle.a64_emit.specs.Setting.{Setting, address_of, row, site_before, IsSet}
use Rattle.a64_emit.proofs.AirSteps.{step_lost, step_without, targets_use, words_use, home_there}
use Rattle.a64_emit.proofs.Branching.{alike_related, words_there}
use Rattle.a64_emit.proofs.Fetching.{IsUsable, fetch_word, fetched_keeps}
use Rattle.a64_emit.proofs.AccessesReached.{IsBase, base_is}
use Rattle.a64_emit.proofs.Computes.{does_more, scratch_15, le_more}
use Rattle.a64_emit.proofs.Inner.{InstLeads, IsLost}
use Rattle.a64_emit.proofs.Keeping.{keeps_related, spill_stands, whole_of}
use Rattle.a64_emit.proofs.MarkedRuns.{front_insts, front_passed, marked_runs, site_there}
use Rattle.a64_emit.proofs.Opened.{all_at, any_at, usable_arg}
use Rattle.a64_code.proofs.Ops.{Gives}
use Rattle.a64_emit.proofs.Outside.{IsFound, asking_leads, reg_targets, result_targets}
use Rattle.a64_emit.proofs.Outward.{IsPut, Owns, changed_regs, has_changed, places_changed, places_front, places_put, places_told, reg_in, reported_told, targets_changed, targets_front, targets_put, words_changed, words_front, words_put}
use Rattle.a64_emit.proofs.Positions.{Among, among_first, among_rest}
use Rattle.a64_emit.proofs.Straight.{Does, Runs, runs_here, runs_on, runs_pass, does_none, IsWhole}
use Rattle.a64_emit.proofs.Told.{IsTold, arguments_told, widths_told, words_told}
use Rattle.air_frame.specs.Frames.{IsFrameOf}

-- ---- the operands in parts

-- the register and the width of a result, where there is one
abbrev pub result_of : List Operand → Option (Width × Register)
result_of [] = None
result_of (o ∷ os) = register_at o.width o.arg

-- the operands are some in front, those that are reported, those that are changed, and the result where there is one
pub record InParts (p : AirProc) (typed : Bool) (os front reported changed results : List Operand) : Type 0 where
  pub parts : os ≡ front ++ (reported ++ (changed ++ results))
  pub read_front : All (λ (o : Operand). is_read o.role ≡ true) front
  pub no_targets : (rest : List Operand) → targets (front ++ rest) ≡ targets rest
  pub told : All (IsTold p) reported
  pub changes : All IsChanged changed
  pub few : All (λ (o : Operand). (reg_in o.arg ≤ 30) × (reg_in o.arg ≢ 29)) changed
  pub result_is : is_some (result_of results) ≡ typed
  pub result_words : (s : State) → words s.homes results ≡ Some []
  pub result_targets_are : targets results ≡ result_targets (result_of results)
  pub result_places : (f : Frame) → places_read f results ≡ []
  pub result_may : (width : Width) (reg : Register) → result_of results ≡ Some (width, reg) → IsAllocatable reg
  pub result_there : result_in typed os ≡ result_of results
  pub without : without_result typed os ≡ front ++ (reported ++ changed)

-- a home that the operands write is written by the instruction
any_left : (r : ℕ) (regs : List ℕ) (rest : List Target) → Contains regs r → list_any (λ (t : Target). is_register r t.home) (reg_targets regs ++ rest) ≡ true
any_left r [] rest there = absurd (omega (arith, there.1))
any_left r (q ∷ regs) rest (zero, lt, is) = or_left (nat_eq q r) _ (eq-eqb q r is)
any_left r (q ∷ regs) rest (suc k, lt, is) = or_right (nat_eq q r) _ (any_left r regs rest (k, omega arith, is))

any_right : (r : ℕ) (regs : List ℕ) (rest : List Target) → list_any (λ (t : Target). is_register r t.home) rest ≡ true
    → list_any (λ (t : Target). is_register r t.home) (reg_targets regs ++ rest) ≡ true
any_right r [] rest there = there
any_right r (q ∷ regs) rest there = or_right (nat_eq q r) _ (any_right r regs rest there)

result_written : (result : Option (Width × Register)) (width : Width) (reg : Register) → result ≡ Some (width, reg)
    → list_any (λ (t : Target). is_register reg.0 t.home) (result_targets result) ≡ true
result_written None width reg e = absurd cc
result_written (Some (w, q)) width reg e =
    let same : q.0 ≡ reg.0 = let both : (w, q) ≡ (width, reg) = cc in ap (λ (x : Width × Register). x.1.0) both in
    rw (eq-eqb q.0 reg.0 same) refl

pub read_skipped : (set : ℕ) (xs rest : List Operand) → All (λ (o : Operand). is_read o.role ≡ true) xs → with_written set (xs ++ rest) ≡ with_written set rest
unfolding with_written
read_skipped set [] rest reads = refl
read_skipped set (o ∷ xs) rest reads =
    ap (λ b. with_written (if b then set else with_home set o.arg) (xs ++ rest)) (All-head (λ (o : Operand). is_read o.role ≡ true) o xs reads)
    ∙ read_skipped set xs rest (All-tail (λ (o : Operand). is_read o.role ≡ true) o xs reads)

pub told_read : (p : AirProc) (xs : List Operand) → All (IsTold p) xs → All (λ (o : Operand). is_read o.role ≡ true) xs
told_read p [] told = All-nil (λ (o : Operand). is_read o.role ≡ true)
told_read p (o ∷ xs) told =
    All-cons (λ (o : Operand). is_read o.role ≡ true) o xs (All-head (IsTold p) o xs told).reads (told_read p xs (All-tail (IsTold p) o xs told))

pub drop_all : {X : Type 0} (xs ys : List X) → drop (length xs) (xs ++ ys) ≡ ys
drop_all [] ys = refl
drop_all (x ∷ xs) ys = drop_all xs ys

few_at : (changed : List Operand) (r : ℕ) → All (λ (o : Operand). (reg_in o.arg ≤ 30) × (reg_in o.arg ≢ 29)) changed → Contains (changed_regs changed) r
    → r ≢ 29
few_at [] r few there = absurd (omega (arith, there.1))
few_at (o ∷ changed) r few (zero, lt, is) = λ e.
    (All-head (λ (o : Operand). (reg_in o.arg ≤ 30) × (reg_in o.arg ≢ 29)) o changed few).1 (is ∙ e)
few_at (o ∷ changed) r few (suc k, lt, is) =
    few_at changed r (All-tail (λ (o : Operand). (reg_in o.arg ≤ 30) × (reg_in o.arg ≢ 29)) o changed few) (k, omega arith, is)

-- the machine that the outside finds is related to the same state
found_related : (z : Setting) (s : State) (c d : Machine) → IsFound c d → IsRelated z s c → IsRelated z s d
found_related z s c d found rel = record {
  frame = record {
    sp = found.sp ∙ rel.frame.sp;
    x29 = found.x 29 (λ e. omega arith) ∙ rel.frame.x29;
    words = found.words;
    bytes = subst (λ m. AreBytes m) (sym found.memory) rel.frame.bytes;
    whole = λ address inside. ap (λ (m : Memory). is_some (m address)) found.memory ∙ rel.frame.whole address inside;
    mapped = λ address there. ap (λ (m : Memory). is_some (m address)) found.memory ∙ rel.frame.mapped address there;
    unmapped = λ address none out. ap (λ (m : Memory). m address) found.memory ∙ rel.frame.unmapped address none out;
    caller = ap (λ (m : Memory). read_word m (frame_pointer_of z.entry - 0) 8) found.memory ∙ rel.frame.caller;
    link = ap (λ (m : Memory). read_word m (frame_pointer_of z.entry + 8) 8) found.memory ∙ rel.frame.link;
    saved = λ s there. ap (λ (m : Memory). read_word m (frame_pointer_of z.entry - s.offset) 8) found.memory ∙ rel.frame.saved s there;
    unsaved = λ r least most none. found.x r (λ e. omega arith) ∙ rel.frame.unsaved r least most none;
  };
  registers = λ r may. subst (Carries (s.homes (Reg r))) (sym (found.x r.0 (not_link r may))) (rel.registers r may);
  spills = λ n offset named there.
      let word = rel.spills n offset named there in
      (word.0, ap (λ (m : Memory). read_word m (frame_pointer_of z.entry - offset) 8) found.memory ∙ word.1, word.2);
  memory = rel.memory ∙ ap (visible (row z) z.entry) (sym found.memory);
}
  where
    not_link : (q : Register) → IsAllocatable q → q.0 ≢ 30
    not_link q may e = ⊎_elim (λ (le : q.0 ≤ 14). absurd (omega arith)) (λ (h : (19 ≤ q.0) × (q.0 ≤ 28)). absurd (omega (arith, h.1))) may

-- what a site of operands in parts reports, and what it may change
pub reports_are : (p : AirProc) (f : Frame) (typed : Bool) (os front reported changed results : List Operand)
    → InParts p typed os front reported changed results → places_read f (drop (length front) os) ≡ places_read f reported
reports_are p f typed os front reported changed results q =
    let rest : List Operand = changed ++ results in
    ap (λ (xs : List Operand). places_read f (drop (length front) xs)) q.parts ∙ ap (places_read f) (drop_all front (reported ++ rest))
    ∙ places_front f reported rest (places_changed f changed results q.changes ∙ q.result_places f)

pub clobbers_are : (p : AirProc) (typed : Bool) (os front reported changed results : List Operand) → InParts p typed os front reported changed results
    → with_written 0 (without_result typed os) ≡ with_written 0 changed
clobbers_are p typed os front reported changed results q =
    ap (with_written 0) q.without ∙ read_skipped 0 front (reported ++ changed) q.read_front
    ∙ read_skipped 0 reported changed (told_read p reported q.told)

module _ (z : Setting) (set : IsSet z) (serves : IsFrameOf z.procedure z.frame) where
  -- what stands at the site of operands in parts
  outward_leads : (i : AirInst) (s : State) (k : ℕ) (c : Machine) (to at : ℕ) (last found : Machine) (skind : SiteKind) (size : ℕ) (typed : Bool) (kind : EventKind)
      (front reported changed results : List Operand) (ws rs : List Read) → (q : InParts z.procedure typed i.operands front reported changed results) → Owns z.procedure i → RunsTo z 0 k c at last
      → IsRelated z s last → IsFound last found → site_before z at ≡ Some (outward_site z.frame skind size typed (length front) i)
      → ActsAt skind z at last (outward_site z.frame skind size typed (length front) i) kind found → at + size ≡ to
      → place z.code z.long to < place z.code z.long (length z.code) → words s.homes i.operands ≡ Some ws → words s.homes reported ≡ Some rs
      → meaning z.start (operation i) ws s.world ≡ air.asks kind typed rs s.world → All IsRangedAnswer s.world.answers → InstLeads z i s k c to
  outward_leads i s k c to at last found skind size typed kind front reported changed results ws rs q owns runs rel is_found marked acts behind ahead reads reads_reported means ranged =
      let site : Site = outward_site z.frame skind size typed (length front) i in
      let rest : List Operand = changed ++ results in
      let reps : site.reps ≡ places_read z.frame reported = reports_are z.procedure z.frame typed i.operands front reported changed results q in
      let spilled : (n : ℕ) → names z.procedure n ≡ true → slice_get z.frame.spills n ≡ Some (spill_offset z.frame n) =
      λ n named. (spill_stands z set serves n named).0 in
      let are = places_told z.procedure z.frame spilled reported q.told in
      let rel_found = found_related z s last found is_found rel in
      let told = words_told z set serves s found rel_found reported (places_read z.frame reported) q.told are rs reads_reported in
      let widths = widths_told z set serves s found rel_found reported (places_read z.frame reported) q.told are rs reads_reported in
      let asks : Asks z at last = record {
        site = site;
        kind = kind;
        found = found;
        words = map (λ (r : Read). r.1) rs;
        marked = marked;
        acts = acts;
        frame = rel.frame;
        places = ap (words_in found.registers.x found.memory) reps ∙ told;
        ahead = subst (λ n. place z.code z.long n < place z.code z.long (length z.code)) (sym behind) ahead;
      } in
      let seen : s.world.memory ≡ visible (row z) z.entry found.memory = rel.memory ∙ ap (visible (row z) z.entry) (sym is_found.memory) in
      let shown : (record {
        kind = kind;
        arguments = map (λ (r : Read). r.1) rs;
        widths = map (λ (r : Read). r.0) rs;
        memory = s.world.memory;
      }) ≡ event_of z at last asks = ap (λ (ww : List Width). record {
        kind = kind;
        arguments = map (λ (r : Read). r.1) rs;
        widths = ww;
        memory = s.world.memory;
      }) (sym widths ∙ ap widths_of (sym reps)) ∙ ap (λ (m : Memory). record {
        kind = kind;
        arguments = map (λ (r : Read). r.1) rs;
        widths = widths_of site.reps;
        memory = m;
      }) seen in
      let writes_are : targets i.operands ≡ reg_targets (changed_regs changed) ++ result_targets (result_of results) =
      ap targets q.parts ∙ q.no_targets (reported ++ rest) ∙ targets_front z.procedure reported rest q.told
      ∙ targets_changed changed results q.changes ∙ ap (λ (ts : List Target). reg_targets (changed_regs changed) ++ ts) q.result_targets_are in
      let result_is : site.result ≡ (result_of results) = q.result_there in
      let set_is : site.clobbers ≡ with_written 0 changed = clobbers_are z.procedure typed i.operands front reported changed results q in
      asking_leads z set serves i s k c to (record {
        at = at;
        last = last;
        runs = runs;
        asks = asks;
        behind = behind;
        found = is_found;
        related = rel;
        regs = changed_regs changed;
        changes = record {
          clobbers = λ r there. has_changed changed r q.changes (subst (λ n. has n r ≡ true) set_is there);
          written = λ r there. (
            few_at changed r q.few there,
            owns.written r (ap (λ (ts : List Target). list_any (λ (t : Target). is_register r t.home) ts) writes_are
                ∙ any_left r (changed_regs changed) (result_targets (result_of results)) there),
          );
          result = λ width reg is. (
            q.result_may width reg (sym result_is ∙ is),
            owns.written reg.0 (ap (λ (ts : List Target). list_any (λ (t : Target). is_register reg.0 t.home) ts) writes_are
                ∙ any_right reg.0 (changed_regs changed) (result_targets (result_of results)) (result_written (result_of results) width reg (sym result_is ∙ is))),
          );
        };
        rs = ws;
        reads = reads;
        writes = writes_are ∙ ap (λ r. reg_targets (changed_regs changed) ++ result_targets r) (sym result_is);
        means = means
            ∙ ap (λ (e : Event). answered typed (record s.world { events = s.world.events ++ e ∷ [] }) s.world.answers) shown
            ∙ ap (λ b. answered b (record s.world { events = s.world.events ++ event_of z at last asks ∷ [] }) s.world.answers)
            (sym (ap is_some result_is ∙ q.result_is));
      }) ranged

-- ---- building the parts

-- a result in a register that values may stand in
pub record OneResult (o : Operand) : Type 0 where
  pub reg : Register
  pub is : IsPut o reg
  pub may : IsAllocatable reg

abbrev pub AreResults : Bool → List Operand → Type 0
AreResults true (o ∷ []) = OneResult o
AreResults false [] = Unit {0}
AreResults typed os = ⊥

pub last_operand : (xs : List Operand) (o d : Operand) → get_or (xs ++ o ∷ []) (length (xs ++ o ∷ []) - 1) d ≡ o
last_operand xs o d = let count = length-append xs (o ∷ []) in
    ap (λ n. get_or (xs ++ o ∷ []) n d) (omega arith) ∙ at_end xs
  where
    at_end : (xs : List Operand) → get_or (xs ++ o ∷ []) (length xs) d ≡ o
    at_end [] = refl
    at_end (x ∷ xs) = at_end xs

take_front : {X : Type 0} (xs ys : List X) → take (length xs) (xs ++ ys) ≡ xs
take_front [] [] = refl
take_front [] (y ∷ ys) = refl
take_front (x ∷ xs) ys = ap (λ zs. x ∷ zs) (take_front xs ys)

take_whole : {X : Type 0} (xs : List X) → take (length xs - 0) xs ≡ xs
take_whole xs = ap (λ n. take n xs) (omega arith) ∙ ap (take (length xs)) (sym (append-nil xs)) ∙ take_front xs []

-- a register that is changed is one of x0 to x30, but x29
changed_few : (p : AirProc) (changed : List Operand) → All IsChanged changed → All (λ (o : Operand). NamesOwn p o.role o.arg) changed
    → All (λ (o : Operand). (reg_in o.arg ≤ 30) × (reg_in o.arg ≢ 29)) changed
changed_few p [] changes own = All-nil (λ (o : Operand). (reg_in o.arg ≤ 30) × (reg_in o.arg ≢ 29))
changed_few p (o ∷ changed) changes own =
    All-cons (λ (o : Operand). (reg_in o.arg ≤ 30) × (reg_in o.arg ≢ 29)) o changed
    (one (All-head IsChanged o changed changes) (All-head (λ (o : Operand). NamesOwn p o.role o.arg) o changed own))
    (changed_few p changed (All-tail IsChanged o changed changes) (All-tail (λ (o : Operand). NamesOwn p o.role o.arg) o changed own))
  where
    one : IsChanged o → NamesOwn p o.role o.arg → (reg_in o.arg ≤ 30) × (reg_in o.arg ≢ 29)
    one is own =
        ⊎_elim
        (λ (e : o ≡ operand_in EarlyDef W64 is.0).
        subst (λ (x : Operand). (reg_in x.arg ≤ 30) × (reg_in x.arg ≢ 29)) (sym e) (subst (λ (x : Operand). NamesOwn p x.role x.arg) e own))
        (λ (e : o ≡ operand_in Clobber W64 is.0).
        subst (λ (x : Operand). (reg_in x.arg ≤ 30) × (reg_in x.arg ≢ 29)) (sym e) (subst (λ (x : Operand). NamesOwn p x.role x.arg) e own))
        is.1

in_parts : (p : AirProc) (typed : Bool) (os front reported changed results : List Operand) → os ≡ front ++ (reported ++ (changed ++ results))
    → All (λ (o : Operand). is_read o.role ≡ true) front → ((rest : List Operand) → targets (front ++ rest) ≡ targets rest)
    → All (IsTold p) reported → All IsChanged changed → All (λ (o : Operand). NamesOwn p o.role o.arg) os → AreResults typed results → InParts p typed os front reported changed results
unfolding words targets places_read
in_parts p true os front reported changed (o ∷ []) parts read_front no_targets told changes own one =
    let before : List Operand = front ++ (reported ++ changed) in
    let whole : os ≡ before ++ o ∷ [] =
    parts ∙ ap (λ (xs : List Operand). front ++ xs) (sym (append_assoc reported changed (o ∷ []))) ∙ sym (append_assoc front (reported ++ changed) (o ∷ [])) in
    let d : Operand = record { role = Use; width = W64; arg = Imm 0 } in
    let last : get_or os (length os - 1) d ≡ o = ap (λ (xs : List Operand). get_or xs (length xs - 1) d) whole ∙ last_operand before o d in
    let count = length-append before (o ∷ []) in
    let is_result : register_at o.width o.arg ≡ Some (o.width, one.reg) = ap (register_at o.width) one.is.arg in
    record {
      parts = parts;
      read_front = read_front;
      no_targets = no_targets;
      told = told;
      changes = changes;
      few = changed_few p changed changes
          (All-front (λ (o : Operand). NamesOwn p o.role o.arg) changed (o ∷ [])
          (All-behind (λ (o : Operand). NamesOwn p o.role o.arg) reported (changed ++ o ∷ [])
          (All-behind (λ (o : Operand). NamesOwn p o.role o.arg) front (reported ++ (changed ++ o ∷ []))
          (subst (All (λ (o : Operand). NamesOwn p o.role o.arg)) parts own))));
      result_is = ap is_some is_result;
      result_words = λ s. words_put s.homes o [] one.reg one.is;
      result_targets_are = targets_put o [] one.reg one.is ∙ ap result_targets (sym is_result);
      result_places = λ f. places_put f o [] one.reg one.is;
      result_may = λ width reg is.
          let both : (o.width, one.reg) ≡ (width, reg) = let e = sym is_result ∙ is in cc in subst IsAllocatable (ap (λ (x : Width × Register). x.1) both) one.may;
      result_there = ap (λ (x : Operand). register_at x.width x.arg) last;
      without = ap (λ (xs : List Operand). take (length xs - 1) xs) whole
          ∙ ap (λ n. take n (before ++ o ∷ [])) (let e : length (before ++ o ∷ []) - 1 ≡ length before = omega arith in e) ∙ take_front before (o ∷ []);
    }
in_parts p false os front reported changed [] parts read_front no_targets told changes own one = record {
  parts = parts;
  read_front = read_front;
  no_targets = no_targets;
  told = told;
  changes = changes;
  few = changed_few p changed changes
      (All-front (λ (o : Operand). NamesOwn p o.role o.arg) changed []
      (All-behind (λ (o : Operand). NamesOwn p o.role o.arg) reported (changed ++ [])
      (All-behind (λ (o : Operand). NamesOwn p o.role o.arg) front (reported ++ (changed ++ []))
      (subst (All (λ (o : Operand). NamesOwn p o.role o.arg)) parts own))));
  result_is = refl;
  result_words = λ s. refl;
  result_targets_are = refl;
  result_places = λ f. refl;
  result_may = λ width reg is. absurd cc;
  result_there = refl;
  without = take_whole os ∙ parts ∙ ap (λ (xs : List Operand). front ++ (reported ++ xs)) (append-nil changed);
}
in_parts p true os front reported changed [] parts read_front no_targets told changes own one = absurd one
in_parts p true os front reported changed (o ∷ x ∷ xs) parts read_front no_targets told changes own one = absurd one
in_parts p false os front reported changed (o ∷ xs) parts read_front no_targets told changes own one = absurd one

-- ---- a call's operands

pub clobbers_changed : (regs : List ℕ) → All IsChanged (map (operand_in Clobber W64) regs)
clobbers_changed [] = All-nil IsChanged
clobbers_changed (r ∷ regs) = All-cons IsChanged (operand_in Clobber W64 r) (map (operand_in Clobber W64) regs) (r, inr refl) (clobbers_changed regs)

no_spills : (widths : List Width) → length widths ≤ 8 → spills_changed 0 (drop 8 widths) ≡ []
no_spills widths few = ap (spills_changed 0) (none_left widths 8 few)
  where
    none_left : (xs : List Width) (k : ℕ) → length xs ≤ k → drop k xs ≡ []
    none_left [] zero le = refl
    none_left [] (suc k) le = refl
    none_left (a ∷ xs) zero le = absurd (omega arith)
    none_left (a ∷ xs) (suc k) le = none_left xs k (omega arith)

call_result : (typed : Bool) (width : Width) → AreResults typed (if typed then operand_in Def width 0 ∷ [] else [])
call_result true width = record { reg = record { 0 = 0 }; is = record { role = refl; arg = refl }; may = inl (omega arith) }
call_result false width = tt

-- the operands of a call
pub call_list : (typed : Bool) (os : List Operand) → (h : OfCall typed os)
    → os ≡ h.callee ∷ (arguments_from 0 h.widths ++ (map (operand_in Clobber W64) call_clobbers ++ (if typed then operand_in Def h.width 0 ∷ [] else [])))
call_list typed os h =
    let args : List Operand = arguments_from 0 h.widths in
    let clobs : List Operand = map (operand_in Clobber W64) call_clobbers in
    let res : List Operand = if typed then operand_in Def h.width 0 ∷ [] else [] in
    h.parts
    ∙ ap (λ (xs : List Operand). h.callee ∷ (((args ++ clobs) ++ xs) ++ res)) (no_spills h.widths h.few)
    ∙ ap (λ (xs : List Operand). h.callee ∷ (xs ++ res)) (append-nil (args ++ clobs))
    ∙ ap (λ (xs : List Operand). h.callee ∷ xs) (append_assoc args clobs res)

targets_one : (o : Operand) (rest : List Operand) → o.role ≡ Use → targets (o ∷ rest) ≡ targets rest
targets_one o rest role = targets_use o rest role

pub call_parts : (p : AirProc) (typed : Bool) (os : List Operand) → (h : OfCall typed os) → All (λ (o : Operand). NamesOwn p o.role o.arg) os
    → InParts p typed os (h.callee ∷ []) (arguments_from 0 h.widths) (map (operand_in Clobber W64) call_clobbers)
    (if typed then operand_in Def h.width 0 ∷ [] else [])
call_parts p typed os h own =
    in_parts p typed os (h.callee ∷ []) (arguments_from 0 h.widths) (map (operand_in Clobber W64) call_clobbers)
    (if typed then operand_in Def h.width 0 ∷ [] else []) (call_list typed os h)
    (All-cons (λ (o : Operand). is_read o.role ≡ true) h.callee [] (ap is_read h.fits.0) (All-nil (λ (o : Operand). is_read o.role ≡ true)))
    (λ rest. targets_use h.callee rest h.fits.0)
    (arguments_told p 0 h.widths (omega (arith, h.few))) (clobbers_changed call_clobbers) own (call_result typed h.width)

-- ---- a patchpoint's operands

pub no_inputs : (os : List Operand) → AllFit [] os → os ≡ []
unfolding AllFit
no_inputs [] fits = refl
no_inputs (o ∷ os) fits = absurd fits

placed_result : (typed : Bool) (width : Width) (results : List Operand) → OneIs typed (IsPlacedResult width) results → AreResults typed results
placed_result true width (o ∷ []) is = record {
  reg = record { 0 = is.0 };
  is = ⊎_elim
      (λ (e : o ≡ operand_in EarlyDef width is.0). record { role = ap (λ (x : Operand). is_read x.role) e; arg = ap (λ (x : Operand). x.arg) e })
      (λ (e : o ≡ operand_in Def width is.0). record { role = ap (λ (x : Operand). is_read x.role) e; arg = ap (λ (x : Operand). x.arg) e })
      is.2;
  may = is.1;
}
placed_result true width [] is = absurd is
placed_result true width (o ∷ x ∷ xs) is = absurd is
placed_result false width [] is = tt
placed_result false width (o ∷ xs) is = absurd is

-- each reported operand is told
pub all_told : (p : AirProc) (i : AirInst) (front reported rest : List Operand) → Owns p i → i.operands ≡ front ++ (reported ++ rest) → All IsReported reported
    → All (IsTold p) reported
all_told p i front reported rest owns parts reports =
    All-from_places (IsTold p) reported (λ k o there.
    let at : slice_get i.operands (length front + k) ≡ Some o =
    ap (λ (xs : List Operand). slice_get xs (length front + k)) parts ∙ get_behind front (reported ++ rest) k ∙ get_front reported rest k o there in
    reported_told p o (all_at IsReported reported k o there reports)
    (all_at (λ (o : Operand). NamesOwn p o.role o.arg) i.operands (length front + k) o at owns.names_own) owns.no_tmps
    (λ n named. owns.named n (any_at (λ (o : Operand). arg_names n o.arg) i.operands (length front + k) o at named)))

pub patch_parts : (p : AirProc) (i : AirInst) (size : ℕ) (typed : Bool) → (h : HasSite (op.Patch size typed) i.operands) → Owns p i
    → InParts p typed i.operands [] h.0.reported h.0.changed h.0.results
patch_parts p i size typed h owns =
    let parts : SiteOperands = h.0 in
    let none : parts.inputs ≡ [] = no_inputs parts.inputs h.2.fits in
    let whole : i.operands ≡ parts.reported ++ (parts.changed ++ parts.results) =
    h.1 ∙ ap (λ (xs : List Operand). ((xs ++ parts.reported) ++ parts.changed) ++ parts.results) none
    ∙ append_assoc parts.reported parts.changed parts.results in
    in_parts p typed i.operands [] parts.reported parts.changed parts.results whole (All-nil (λ (o : Operand). is_read o.role ≡ true)) (λ rest. refl)
    (all_told p i [] parts.reported (parts.changed ++ parts.results) owns whole h.2.reports) h.2.changes owns.names_own
    (placed_result typed h.2.width parts.results h.2.result)

-- ---- a call

call_safely : (rn : ℕ) (r : Registers) (m : Memory) → (step_of (BranchReg Blr rn) r m).registers.x 18 ≡ r.x 18
unfolding step_of branch_reg
call_safely rn r m = refl

call_found : (rn : ℕ) (c : Machine) (pc : ℕ) → rn ≤ 30 → pc < 2 ^ 64 → AreWords c.registers → AreBytes c.memory
    → IsFound c (machine_of (step_of (BranchReg Blr rn) (moved_to pc c).registers c.memory))
unfolding step_of branch_reg
call_found rn c pc most small words bytes =
    let left = step_of-LeavesWords (BranchReg Blr rn) (moved_to pc c).registers c.memory (le_more rn most)
    (record { x = words.x; sp = words.sp; pc = small }) bytes in
    record {
      sp = refl;
      memory = refl;
      x = λ r differ. put_other (moved_to pc c) 30 ((pc + 4) % 2 ^ 64) r differ;
      words = left.words;
    }

call_means : (z : Setting) (i : AirInst) (s : State) (typed : Bool) (width : Width) (v : ℕ) (rs : List Read) → i.op ≡ op.Call typed → z.start.is_code v ≡ false
    → meaning z.start (operation i) ((width, v) ∷ rs) s.world ≡ air.asks (event.Call v) typed rs s.world
unfolding meaning
call_means z i s typed width v rs is free = rw (is, free) refl

call_refused : (z : Setting) (i : AirInst) (s : State) (typed : Bool) (width : Width) (v : ℕ) (rs : List Read) → i.op ≡ op.Call typed → z.start.is_code v ≡ true
    → meaning z.start (operation i) ((width, v) ∷ rs) s.world ≡ None
unfolding meaning
call_refused z i s typed width v rs is code = rw (is, code) refl

patch_means : (z : Setting) (i : AirInst) (s : State) (size : ℕ) (typed : Bool) (rs : List Read) → i.op ≡ op.Patch size typed
    → meaning z.start (operation i) rs s.world ≡ air.asks (event.Patch i.value) typed rs s.world
unfolding meaning
patch_means z i s size typed rs is = rw is refl

breaks_first : (size : ℕ) → 0 < size → slice_get (plains (breaks size)) 0 ≡ Some (Plain (Break 2))
unfolding breaks
breaks_first zero some = absurd (omega arith)
breaks_first (suc n) some = refl

pub breaks_count : (n : ℕ) → length (plains (breaks n)) ≡ n
unfolding breaks
breaks_count zero = refl
breaks_count (suc n) = ap suc (breaks_count n)

break_safely : (r : Registers) (m : Memory) → (step_of (Break 2) r m).registers.x 18 ≡ r.x 18
unfolding step_of
break_safely r m = refl

module _ (z : Setting) (set : IsSet z) (serves : IsFrameOf z.procedure z.frame) where
  -- an instruction that touches nothing is safe
  pub plain_proper : (at : ℕ) (c : Machine) (inst : Inst) → slice_get z.code at ≡ Some (Plain inst) → ((r : Registers) → touched inst r ≡ None)
      → ((r : Registers) (m : Memory) → (step_of inst r m).registers.x 18 ≡ r.x 18) → IsWhole z c → IsProperAt z at c
  plain_proper at c inst there touches platform whole = record {
    aligned = whole.aligned;
    whole = whole.whole;
    safe = subst (IsSafeItem z (moved_to (address_of z at) c)) (sym there) (record {
      there = λ a n j some lt inside. let none = touches (moved_to (address_of z at) c).registers in absurd cc;
      platform = platform (moved_to (address_of z at) c).registers c.memory;
    });
  }

  -- the words that a call's instruction finds, where its function has this word
  call_asks : (i : AirInst) (s : State) (k mark : ℕ) (c : Machine) (typed : Bool) → i.op ≡ op.Call typed → (h : OfCall typed i.operands) → Owns z.procedure i
      → (reported changed results : List Operand) → (q : InParts z.procedure typed i.operands (h.callee ∷ []) reported changed results)
      → Among z.code k (with_mark true mark (fetch z.frame 15 h.callee.arg) (BranchReg Blr (reg_of (source_of 15 h.callee.arg)) ∷ []))
      → slice_get z.sites mark ≡ Some (outward_site z.frame site_kind.Call 1 typed 1 i)
      → place z.code z.long (k + length (with_mark true mark (fetch z.frame 15 h.callee.arg) (BranchReg Blr (reg_of (source_of 15 h.callee.arg)) ∷ [])))
      < place z.code z.long (length z.code)
      → All IsRangedAnswer s.world.answers → IsRelated z s c → (v : ℕ) → word_of s.homes W64 h.callee.arg ≡ Some v → z.start.is_code v ≡ false
      → (rs : List Read) → words s.homes reported ≡ Some rs → words s.homes i.operands ≡ Some ((h.callee.width, v) ∷ rs)
      → (home : Home) → h.callee.arg ≡ At home → IsUsable z (At home)
      → InstLeads z i s k c (k + length (with_mark true mark (fetch z.frame 15 h.callee.arg) (BranchReg Blr (reg_of (source_of 15 h.callee.arg)) ∷ [])))
  call_asks i s k mark c typed is h owns reported changed results q among site room ranged rel v reads free rs reads_args reads_all home arg usable =
      let rn : ℕ = reg_of (source_of 15 h.callee.arg) in
      let insts : List Inst = fetch z.frame 15 h.callee.arg in
      let inst : Inst = BranchReg Blr rn in
      let before : List Item = plains insts ++ marked_if true mark in
      let first : Among z.code k before = among_first z.code k before (plains (inst ∷ [])) among in
      let at : ℕ = k + length before in
      let rest : Among z.code at (plains (inst ∷ [])) = among_rest z.code k before (plains (inst ∷ [])) among in
      let there : slice_get z.code at ≡ Some (Plain inst) = ap (slice_get z.code) (omega arith) ∙ rest 0 (Plain inst) refl in
      let j : ℕ = k + length (plains insts) in
      let mark_there : slice_get z.code j ≡ Some (Mark mark) =
      ap (slice_get z.code) (omega arith) ∙ among_rest z.code k (plains insts) (Mark mark ∷ []) first 0 (Mark mark) refl in
      let count = length-append (plains insts) (Mark mark ∷ []) in
      let next : j + 1 ≡ at = omega arith in
      let room_at = words_there z at (Plain inst) there (slice_get_within z.code at (Plain inst) there) (omega arith) in
      let usable_arg : IsUsable z h.callee.arg = subst (IsUsable z) (sym arg) usable in
      let fetched = fetch_word z set serves s c 15 h.callee.arg W64 v rel usable_arg scratch_15 reads in
      let m : Machine = fetched.0.after in
      let rel_m = keeps_related z s c m (fetched_keeps z c insts 15 scratch_15 fetched.0) rel in
      let base : IsBase m rn v =
      subst (λ a. IsBase m (reg_of (source_of 15 a)) v) (sym arg)
      (base_is z m 15 home v (λ e. omega arith) usable fetched.0.words (subst (λ a. Gives m.registers (source_of 15 a) W64 v) arg fetched.1)) in
      let runs : Runs z k c (length before) m =
      marked_runs z set k c m before (front_passed true mark insts)
      (subst (λ (xs : List Inst). Does z c xs m) (sym (front_insts true mark insts)) (does_more z c m insts fetched.0.does))
      (whole_of z set serves m rel_m.frame) rel.frame.words.pc first room_at in
      let last : Machine = runs.last in
      let rel_last = alike_related z s m last runs.alike (runs.small rel.frame.words.pc) rel_m in
      let word : last.registers.x rn ≡ v = ap (λ (x : Machine). x.registers.x rn) runs.alike ∙ base.is in
      let proper = plain_proper at last inst there (λ r. refl) (call_safely rn) (whole_of z set serves last rel_last.frame) in
      let up = place_mono z.code z.long (at + 1) (length z.code) (let within = slice_get_within z.code at (Plain inst) there in omega arith) in
      let step = place-next z.code z.long at in
      let size : size_in (z.long at) (slice_get z.code at) ≡ 1 = ap (size_in (z.long at)) there in
      let ends = set.ends in
      let small : address_of z at < 2 ^ 64 = omega arith in
      let found = call_found rn last (address_of z at) base.most small rel_last.frame.words rel_last.frame.bytes in
      let total = length-append before (plains (inst ∷ [])) in
      outward_leads z set serves i s k c (k + length (with_mark true mark insts (inst ∷ []))) at last
      (machine_of (step_of inst (moved_to (address_of z at) last).registers last.memory)) site_kind.Call 1 typed (event.Call v) (h.callee ∷ []) reported changed results
      ((h.callee.width, v) ∷ rs) rs q owns
      (runs_on z 0 0 (length before) k at at c last last (omega arith) (runs_pass z k (length before) c m runs) (runs_here z at last proper))
      rel_last found
      (ap (site_before z) (sym next) ∙ site_there z j mark (outward_site z.frame site_kind.Call 1 typed 1 i) mark_there site)
      (rn, there, ap z.start.is_code word ∙ free, ap event.Call (sym word), refl) (omega arith) room reads_all reads_args
      (call_means z i s typed h.callee.width v rs is free) ranged

  pub call_leads : (i : AirInst) (s : State) (k mark : ℕ) (c : Machine) (typed : Bool) → i.op ≡ op.Call typed → OfCall typed i.operands → Owns z.procedure i
      → Among z.code k (with_mark true mark (fetch z.frame 15 (arg_at i.operands 0)) (call_inst i.operands ∷ []))
      → slice_get z.sites mark ≡ Some (outward_site z.frame site_kind.Call 1 typed 1 i)
      → place z.code z.long (k + length (with_mark true mark (fetch z.frame 15 (arg_at i.operands 0)) (call_inst i.operands ∷ [])))
      < place z.code z.long (length z.code)
      → All IsRangedAnswer s.world.answers → IsRelated z s c
      → InstLeads z i s k c (k + length (with_mark true mark (fetch z.frame 15 (arg_at i.operands 0)) (call_inst i.operands ∷ [])))
  call_leads i s k mark c typed is h owns among site room ranged rel =
      let q = call_parts z.procedure typed i.operands h owns.names_own in
      let args : List Operand = arguments_from 0 h.widths in
      let clobs : List Operand = map (operand_in Clobber W64) call_clobbers in
      let res : List Operand = if typed then operand_in Def h.width 0 ∷ [] else [] in
      let behind : List Operand = clobs ++ res in
      let list : i.operands ≡ h.callee ∷ (args ++ behind) = q.parts in
      let Code : List Operand → List Item = λ os. with_mark true mark (fetch z.frame 15 (arg_at os 0)) (call_inst os ∷ []) in
      let To : List Operand → Type 0 = λ os. InstLeads z i s k c (k + length (Code os)) in
      let home = home_there h.callee.arg (word_home W64 h.callee.arg h.fits.2) in
      let at : slice_get i.operands 0 ≡ Some h.callee = ap (λ (xs : List Operand). slice_get xs 0) list in
      let usable_arg : IsUsable z h.callee.arg =
      usable_arg z h.callee.arg owns.no_tmps
      (subst (λ r. NamesOwn z.procedure r h.callee.arg) h.fits.0 (all_at (λ (o : Operand). NamesOwn z.procedure o.role o.arg) i.operands 0 h.callee at owns.names_own))
      (λ n named. owns.named n (any_at (λ (o : Operand). arg_names n o.arg) i.operands 0 h.callee at named)) W64 NoImmediate h.fits.2 in
      let W : Option ℕ → Option (List Read) → Option (List Read) = λ o ws. and_word h.callee.width o ws in
      let reads : words s.homes i.operands ≡ W (word_of s.homes W64 h.callee.arg) (words s.homes args) =
      ap (words s.homes) list ∙ words_use s.homes h.callee (args ++ behind) h.fits.0
      ∙ ap (λ w. and_word h.callee.width (word_of s.homes w h.callee.arg) (words s.homes (args ++ behind))) h.fits.1
      ∙ ap (W (word_of s.homes W64 h.callee.arg)) (words_front s.homes args behind
      (words_changed s.homes clobs res q.changes ∙ q.result_words s)) in
      subst To (sym list)
      (elim (word_of s.homes W64 h.callee.arg) as (λ o. word_of s.homes W64 h.callee.arg ≡ o → To (h.callee ∷ (args ++ behind))) [
        | None ↦ λ e. IsLost (step_lost z.start i s (reads ∙ ap (λ o. W o (words s.homes args)) e))
        | Some v ↦ λ e.
            elim (words s.homes args) as (λ ws. words s.homes args ≡ ws → To (h.callee ∷ (args ++ behind))) [
              | None ↦ λ a. IsLost (step_lost z.start i s (reads ∙ ap (λ o. W o (words s.homes args)) e ∙ ap (W (Some v)) a))
              | Some rs ↦ λ a.
                  let read = reads ∙ ap (λ o. W o (words s.homes args)) e ∙ ap (W (Some v)) a in
                  elim (z.start.is_code v) as (λ b. z.start.is_code v ≡ b → To (h.callee ∷ (args ++ behind))) [
                    | true ↦ λ code. IsLost (step_without z.start i s ((h.callee.width, v) ∷ rs) read (call_refused z i s typed h.callee.width v rs is code))
                    | false ↦ λ free.
                        call_asks i s k mark c typed is h owns args clobs res q (subst (λ os. Among z.code k (Code os)) list among) site
                        (subst (λ os. place z.code z.long (k + length (Code os)) < place z.code z.long (length z.code)) list room) ranged rel v e free rs a read
                        home.0 home.1 (subst (IsUsable z) home.1 usable_arg)
                  ] refl
            ] refl
      ] refl)

  -- ---- a patchpoint

  patch_asks : (i : AirInst) (s : State) (k mark : ℕ) (c : Machine) (size : ℕ) (typed : Bool) → i.op ≡ op.Patch size typed
      → (reported changed results : List Operand) → InParts z.procedure typed i.operands [] reported changed results → Owns z.procedure i
      → Among z.code k (with_mark true mark [] (breaks size)) → 0 < size
      → slice_get z.sites mark ≡ Some (outward_site z.frame site_kind.Patchpoint size typed 0 i)
      → place z.code z.long (k + length (with_mark true mark [] (breaks size))) < place z.code z.long (length z.code)
      → All IsRangedAnswer s.world.answers → IsRelated z s c → (rs : List Read) → words s.homes reported ≡ Some rs → words s.homes i.operands ≡ Some rs
      → InstLeads z i s k c (k + length (with_mark true mark [] (breaks size)))
  patch_asks i s k mark c size typed is reported changed results q owns among some site room ranged rel rs reads_reported reads =
      let before : List Item = Mark mark ∷ [] in
      let first : Among z.code k before = among_first z.code k before (plains (breaks size)) among in
      let at : ℕ = k + 1 in
      let rest : Among z.code at (plains (breaks size)) = among_rest z.code k before (plains (breaks size)) among in
      let there : slice_get z.code at ≡ Some (Plain (Break 2)) = ap (slice_get z.code) (omega arith) ∙ rest 0 (Plain (Break 2)) (breaks_first size some) in
      let mark_there : slice_get z.code k ≡ Some (Mark mark) = ap (slice_get z.code) (omega arith) ∙ first 0 (Mark mark) refl in
      let room_at = words_there z at (Plain (Break 2)) there (slice_get_within z.code at (Plain (Break 2)) there) (omega arith) in
      let runs : Runs z k c 1 c = marked_runs z set k c c before (tt, tt) (does_none z c) (whole_of z set serves c rel.frame) rel.frame.words.pc first room_at in
      let last : Machine = runs.last in
      let rel_last = alike_related z s c last runs.alike (runs.small rel.frame.words.pc) rel in
      let proper = plain_proper at last (Break 2) there (λ r. refl) break_safely (whole_of z set serves last rel_last.frame) in
      let count = breaks_count size in
      outward_leads z set serves i s k c (k + length (with_mark true mark [] (breaks size))) at last last site_kind.Patchpoint size typed (event.Patch i.value) [] reported
      changed results rs rs q owns
      (runs_on z 0 0 1 k at at c last last (omega arith) (runs_pass z k 1 c c runs) (runs_here z at last proper))
      rel_last (record { sp = refl; memory = refl; x = λ r differ. refl; words = rel_last.frame.words })
      (site_there z k mark (outward_site z.frame site_kind.Patchpoint size typed 0 i) mark_there site)
      (refl, refl) (omega arith) room reads reads_reported (patch_means z i s size typed rs is) ranged

  pub patch_leads : (i : AirInst) (s : State) (k mark : ℕ) (c : Machine) (size : ℕ) (typed : Bool) → i.op ≡ op.Patch size typed
      → HasSite (op.Patch size typed) i.operands → Owns z.procedure i → Among z.code k (with_mark true mark [] (breaks size)) → 0 < size
      → slice_get z.sites mark ≡ Some (outward_site z.frame site_kind.Patchpoint size typed 0 i)
      → place z.code z.long (k + length (with_mark true mark [] (breaks size))) < place z.code z.long (length z.code)
      → All IsRangedAnswer s.world.answers → IsRelated z s c
      → InstLeads z i s k c (k + length (with_mark true mark [] (breaks size)))
  patch_leads i s k mark c size typed is h owns among some site room ranged rel =
      let q = patch_parts z.procedure i size typed h owns in
      let reads : words s.homes i.operands ≡ words s.homes h.0.reported =
      ap (words s.homes) q.parts
      ∙ words_front s.homes h.0.reported (h.0.changed ++ h.0.results) (words_changed s.homes h.0.changed h.0.results q.changes ∙ q.result_words s) in
      elim (words s.homes h.0.reported) as (λ ws. words s.homes h.0.reported ≡ ws → InstLeads z i s k c (k + length (with_mark true mark [] (breaks size)))) [
        | None ↦ λ e. IsLost (step_lost z.start i s (reads ∙ e))
        | Some rs ↦ λ e. patch_asks i s k mark c size typed is h.0.reported h.0.changed h.0.results q owns among some site room ranged rel rs e (reads ∙ e)
      ] refl
