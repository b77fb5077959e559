-- Checks lead out of the procedure, at the break of their exit, or on behind their branch.
use Rattle.a64_emit.proofs.Exits.{ExitAt}
use Rattle.std.proofs.Common.{◌≡◌, ◌≢◌, ℕ, zero, suc, ◌+◌, ◌-◌, ◌^◌, ◌<◌, ◌≤◌, ◌⊎◌, Bool, true, false, inl, inr, ⊎_elim, List, [], ◌∷◌, ◌++◌, Option, Some, None, length, map, drop, nat_eq, not, refl, sym, ap, ◌∙◌, subst, arith, length-append, append-nil}
use Rattle.std.specs.Prelude.{All, if◌then◌else◌, slice_get}
use Rattle.std.proofs.lemmas.Option.{slice_get_within}
use Rattle.b3_base.specs.Observed.{Memory}
use Rattle.b3_base.specs.Ranged.{IsRangedAnswer}
use Rattle.b3_base.specs.declared.observation.Status.{Status}
use Rattle.b3_base.specs.declared.observation.Status.TheVariants.{Exited}
use Rattle.b3_base.specs.declared.word.Width.{Width}
use Rattle.b3_ir.specs.declared.value.Reg.{Reg as Register}
use Rattle.stackmap.specs.World.{words_in}
use Rattle.stackmap.specs.declared.site.Place.{Place}
use Rattle.stackmap.specs.declared.site.Site.{Site}
use Rattle.a64_inst.specs.Registers.{Registers}
use Rattle.a64_inst.specs.Step.{step_of}
use Rattle.a64_inst.specs.declared.inst.Inst.{Inst}
use Rattle.a64_inst.specs.declared.inst.Inst.TheVariants.{Break}
use Rattle.a64_inst.specs.declared.item.Item.{Item}
use Rattle.a64_inst.specs.declared.item.Item.TheVariants.{Label, Mark, Plain}
use Rattle.air_ir.specs.Blocks as air
use Rattle.air_ir.specs.Meaning.{Over, World, ends, gives, meaning, operation}
use Rattle.air_ir.specs.Operands.{Holds, Read, Target, put_all, targets, words}
use Rattle.air_ir.specs.Steps.{Goes, State, step}
use Rattle.air_ir.specs.declared.op.Test.{Test}
use Rattle.air_ir.specs.declared.operand.Home.{Home}
use Rattle.air_ir.specs.declared.operand.Home.TheVariants.{Reg}
use Rattle.air_ir.specs.declared.operand.Operand.{Operand}
use Rattle.air_ir.specs.declared.procedure.AirInst.{AirInst}
use Rattle.air_frame.specs.Frames.{IsFrameOf}
use Rattle.air_frame.specs.Needs.{names}
use Rattle.a64_layout.specs.Layout.{place, position_of}
use Rattle.a64_layout.specs.Machine.{Machine, moved_to}
use Rattle.a64_layout.specs.Run.{At, item_step}
use Rattle.a64_run.specs.Machine.{touched}
use Rattle.a64_emit.specs.Code.{branch_item, guarded}
use Rattle.a64_emit.specs.Emitted.{HasExited, IsProperAt, log_of}
use Rattle.a64_emit.specs.Made.{exit_site, places_read}
use Rattle.a64_code.specs.Places.{plains, spill_offset}
use Rattle.a64_emit.specs.Related.{Carries, IsRelated}
use Rattle.a64_emit.specs.Setting.{IsSet, Setting, address_of, meaning_of, site_before}
use Rattle.a64_emit.proofs.BranchEnds.{branch_size}
use Rattle.a64_emit.proofs.Branching.{Goes as TestGoes, alike_goes, alike_related, branch_goes, branch_safe, item_proper, label_runs, one_runs, words_there}
use Rattle.a64_emit.proofs.CheckParts.{CheckParts, check_reports, check_writes}
use Rattle.a64_emit.proofs.Endings.{among_plains, stops_seen}
use Rattle.a64_emit.proofs.Inner.{GoesOn, InstLeads, IsOn, IsOver, Stops}
use Rattle.a64_emit.proofs.Keeping.{spill_stands, whole_of}
use Rattle.a64_emit.proofs.MarkedRuns.{mark_step, site_there}
use Rattle.a64_emit.proofs.Outside.{junk_carries, junk_spills, none_of, put_both, reg_targets, regs_count, step_with, zeros_count}
use Rattle.a64_emit.proofs.Outward.{changed_regs, places_told}
use Rattle.a64_emit.proofs.OutwardLeads.{plain_proper}
use Rattle.a64_emit.proofs.Positions.{Among, among_first, among_rest, length_plains}
use Rattle.a64_emit.proofs.Straight.{AreAlike, Does, Reaches, ReachesUnlessLost, Runs, does_alike, leads_on, leads_over, reaches_here, straight_runs}
use Rattle.a64_emit.proofs.Told.{words_told}

-- ---- junk in registers that are changed

-- the state in which registers that are changed have the machine's own words
abbrev pub between : Machine → List ℕ → State → State
between c regs s = record { homes = put_all (reg_targets regs) (map c.registers.x regs) s.homes; world = s.world }

pub between_related : (z : Setting) (s : State) (c : Machine) (regs : List ℕ) → IsRelated z s c → IsRelated z (between c regs s) c
between_related z s c regs rel = record {
  frame = rel.frame;
  registers = λ r may. junk_carries c.registers.x regs s.homes r (inr (rel.registers r may));
  spills = λ n offset named there.
      let held = rel.spills n offset named there in
      (held.0, held.1, subst (λ h. Carries h held.0) (sym (junk_spills (map c.registers.x regs) regs s.homes n)) held.2);
  memory = rel.memory;
}

break_safely : (r : Registers) (m : Memory) → (step_of (Break 1) r m).registers.x 18 ≡ r.x 18
unfolding step_of
break_safely r m = refl

module _ (z : Setting) (set : IsSet z) (serves : IsFrameOf z.procedure z.frame) (placed : (k label : ℕ) → slice_get z.code k ≡ Some (Label label)
    → position_of z.code label ≡ k) (i : AirInst) (s : State) (k : ℕ) (c : Machine) where
  -- a check before whose branch instructions lead to a machine by which that goes
  pub record Guard (from : ℕ) (before : List Inst) (t : Test) (width : Width) (reg label : ℕ) (behind : List Inst) (m : Machine) (passes : Bool)
      : Type 0 where
    pub among : Among z.code k (guarded before t width reg label behind)
    pub exit : ExitAt z (k + length (guarded before t width reg label behind)) label (exit_site z.frame from i)
    pub begins : IsRelated z s c
    pub does : Does z c before m
    pub related : IsRelated z s m
    pub goes : TestGoes m t width reg passes

  module _ (from : ℕ) (before : List Inst) (t : Test) (width : Width) (reg label : ℕ) (behind : List Inst) (m : Machine) (passes : Bool)
      (g : Guard from before t width reg label behind m passes) where
    at : ℕ
    at = k + length before

    out : ℕ
    out = g.exit.at

    items : Among z.code at (branch_item t true width reg label ∷ plains behind)
    unfolding at
    items =
        let count = length_plains before in
        subst (λ n. Among z.code (k + n) (branch_item t true width reg label ∷ plains behind)) count
        (among_rest z.code k (plains before) (branch_item t true width reg label ∷ plains behind) g.among)

    ahead : at < out
    unfolding at out
    ahead =
        let both = length-append (plains before) (branch_item t true width reg label ∷ plains behind) in
        let count = length_plains before in
        let le = g.exit.behind in
        omega arith

    branch_there : slice_get z.code at ≡ Some (branch_item t true width reg label)
    branch_there = ap (slice_get z.code) (omega arith) ∙ items 0 (branch_item t true width reg label) refl

    comes : Runs z k c (length before) m
    unfolding at
    comes =
        straight_runs z set k c m before g.does (among_plains z.code k before (among_first z.code k (plains before)
        (branch_item t true width reg label ∷ plains behind) g.among))
        (words_there z at (branch_item t true width reg label) branch_there (slice_get_within z.code at (branch_item t true width reg label) branch_there)
        (branch_size (z.long at) t true width reg label))

    here : Machine
    here = comes.last

    related_here : IsRelated z s here
    unfolding here
    related_here = alike_related z s m comes.last comes.alike (comes.small g.begins.frame.words.pc) g.related

    goes_here : TestGoes here t width reg passes
    unfolding here
    goes_here = alike_goes m comes.last t width reg passes comes.alike g.goes

    branch_proper : IsProperAt z at here
    branch_proper =
        item_proper z set serves s at here (branch_item t true width reg label) branch_there
        (branch_safe z (moved_to (address_of z at) here) t true width reg label) related_here

    -- the branch is taken: the break of the exit is reached
    module _ (inputs reported changed results : List Operand) (q : CheckParts z.procedure i.operands inputs reported changed results)
        (count : length inputs ≡ from) (rs : List Read) (reads : words s.homes reported ≡ Some rs) where
      exited : (last : Machine) → IsRelated z s last
          → HasExited z (log_of s.world) (air.seen_as s.world (Exited i.value (map (λ (r : Read). r.1) rs))) (out + 1 + 1) last
      unfolding out
      exited last rel =
          let spilled : (n : ℕ) → names z.procedure n ≡ true → slice_get z.frame.spills n ≡ Some (spill_offset z.frame n) =
          λ n named. (spill_stands z set serves n named).0 in
          let are = places_told z.procedure z.frame spilled reported q.told in
          let reps : places_read z.frame (drop from i.operands) ≡ places_read z.frame reported =
          ap (λ n. places_read z.frame (drop n i.operands)) (sym count)
          ∙ check_reports z.procedure i.operands inputs reported changed results q z.frame in
          record {
            site = exit_site z.frame from i;
            words = map (λ (r : Read). r.1) rs;
            marked = site_there z (g.exit.at + 1) g.exit.mark (exit_site z.frame from i) g.exit.marked g.exit.is_site;
            kind = refl;
            break = g.exit.breaks;
            frame = rel.frame;
            places = ap (words_in last.registers.x last.memory) reps
                ∙ words_told z set serves s last rel reported (places_read z.frame reported) q.told are rs reads;
            shows = stops_seen z s.world last (Exited i.value (map (λ (r : Read). r.1) rs)) rel.memory;
          }

      exit_reaches : passes ≡ true → Reaches z (log_of s.world) (air.Stopped (air.seen_as s.world (Exited i.value (map (λ (r : Read). r.1) rs)))) k c
      unfolding at out here
      exit_reaches passed_it =
          let log = log_of s.world in
          let next : air.Config = air.Stopped (air.seen_as s.world (Exited i.value (map (λ (r : Read). r.1) rs))) in
          let e : ExitAt z (k + length (guarded before t width reg label behind)) label (exit_site z.frame from i) = g.exit in
          let taken = goes_here true ∙ passed_it in
          let step = branch_goes z set serves t true width reg at label here true taken branch_there ∙ ap (λ j. At j here) (placed e.at label e.labelled) in
          let entered : Runs z e.at here 1 here = label_runs z set serves s e.at label here e.labelled related_here in
          let rel_one = alike_related z s here entered.last entered.alike (entered.small related_here.frame.words.pc) related_here in
          let passed : Runs z (e.at + 1) entered.last 1 entered.last =
          one_runs z set serves s (e.at + 1) entered.last (Mark e.mark) e.marked tt (mark_step z (e.at + 1) e.mark entered.last e.marked) rel_one in
          let rel_two = alike_related z s entered.last passed.last passed.alike (passed.small rel_one.frame.words.pc) rel_one in
          let proper = plain_proper z set serves (e.at + 1 + 1) passed.last (Break 1) e.breaks (λ r. refl) break_safely
          (whole_of z set serves passed.last rel_two.frame) in
          leads_on z log next k (length before) c m comes
          (leads_over z log next at e.at here ahead branch_proper step
          (leads_on z log next e.at 1 here here entered
          (leads_on z log next (e.at + 1) 1 entered.last entered.last passed
          (reaches_here z log next (e.at + 1 + 1) passed.last proper (inr (inr (exited passed.last rel_two)))))))

      pub exit_stops : passes ≡ true → (ws : List Read) → words s.homes i.operands ≡ Some ws
          → meaning z.start (operation i) ws s.world ≡ ends s.world (Exited i.value (map (λ (r : Read). r.1) rs)) → Stops z i s k c
      exit_stops passed_it ws all means =
          let ts : List Target = targets i.operands in
          let status : Status = Exited i.value (map (λ (r : Read). r.1) rs) in
          record {
            junk = none_of ts;
            state = record { homes = put_all ts (none_of ts ++ []) s.homes; world = s.world };
            status = status;
            steps = step_with z.start i s ws ts (none_of ts) [] s.world (Some (Over status)) all refl means (zeros_count ts);
            reaches = exit_reaches passed_it;
          }

    -- the branch isn't taken: the items behind it follow
    pub record IsPast : Type 0 where
      pub last : Machine
      pub alike : AreAlike last m
      pub related : IsRelated z s last
      pub leads : (config : air.Config) → ReachesUnlessLost z (log_of s.world) config (k + length before + 1) last
          → ReachesUnlessLost z (log_of s.world) config k c

    pub goes_past : passes ≡ false → IsPast
    unfolding at here
    goes_past failed =
        let falls = goes_here true ∙ failed in
        let branch : Runs z at here 1 here =
        one_runs z set serves s at here (branch_item t true width reg label) branch_there
        (branch_safe z (moved_to (address_of z at) here) t true width reg label)
        (branch_goes z set serves t true width reg at label here false falls branch_there) related_here in
        record {
          last = branch.last;
          alike = branch.alike ∙ comes.alike;
          related = alike_related z s here branch.last branch.alike (branch.small related_here.frame.words.pc) related_here;
          leads = λ config rest. on_by config branch rest;
        }
      where
        on : (config : air.Config) → (branch : Runs z (k + length before) comes.last 1 comes.last)
            → Reaches z (log_of s.world) config (k + length before + 1) branch.last → Reaches z (log_of s.world) config k c
        on config branch rest =
            leads_on z (log_of s.world) config k (length before) c m comes
            (leads_on z (log_of s.world) config (k + length before) 1 comes.last comes.last branch rest)

        on_by : (config : air.Config) → (branch : Runs z (k + length before) comes.last 1 comes.last)
            → ReachesUnlessLost z (log_of s.world) config (k + length before + 1) branch.last → ReachesUnlessLost z (log_of s.world) config k c
        on_by air.Lost branch rest = tt
        on_by (air.At b t) branch rest = on (air.At b t) branch rest
        on_by (air.Stopped seen) branch rest = on (air.Stopped seen) branch rest
