-- What a check leads to: it leaves the procedure, or goes on, with the result where one is checked.
use Rattle.a64_emit.proofs.SitesMade.{check_op}
use Rattle.air_ir.specs.declared.operand.Arg.{Arg}
use Rattle.a64_code.specs.Fitting.{IsSummed}
use Rattle.std.proofs.Common.{◌≡◌, ◌≢◌, ℕ, ℤ, ◌+◌, ◌-◌, ◌<◌, ◌≤◌, ◌⊎◌, Bool, true, false, ⊎_elim, List, [], ◌∷◌, ◌++◌, Some, None, length, map, not, refl, sym, ap, ◌∙◌, subst, arith, length-append, append-nil, append_assoc, ◌%◌}
use Rattle.std.specs.Prelude.{All, if◌then◌else◌, nat_eq, slice_get}
use Rattle.std.specs.Int.{bit_at}
use Rattle.b3_base.proofs.Lists.{get_behind}
use Rattle.b3_base.specs.Arithmetic.{low}
use Rattle.b3_base.specs.Ranged.{IsRangedAnswer}
use Rattle.b3_base.specs.Signed.{is_signed, signed, unsigned}
use Rattle.b3_base.specs.Word.{bits}
use Rattle.b3_base.specs.declared.observation.Status.TheVariants.{Exited}
use Rattle.b3_base.specs.declared.word.Width.{Width}
use Rattle.b3_base.specs.declared.word.Width.TheVariants.{W32, W64}
use Rattle.b3_meaning.specs.Run.{checked_result}
use Rattle.b3_meaning.specs.declared.role.Checked.{Checked}
use Rattle.b3_meaning.specs.declared.role.Checked.TheVariants.{Sum, Difference, Product}
use Rattle.a64_inst.specs.Registers.{Registers, put}
use Rattle.a64_inst.specs.declared.inst.Inst.{Inst}
use Rattle.a64_inst.specs.declared.item.Item.{Item}
use Rattle.a64_checked.specs.Checks.{comparing, making, passing}
use Rattle.a64_checked.specs.Exact.{RunTo, StepsTo, exact}
use Rattle.a64_checked.proofs.Exact.{checks_exact}
use Rattle.air_ir.specs.Blocks as air
use Rattle.air_ir.specs.Forms.{AllFit, AtSite, BitOf, Fits, NoImmediate, OfSum, OneIs, Result, SiteOperands, Word, home, listed, test_takes, two_homes, HasSite}
use Rattle.air_ir.specs.Meaning.{checks, checks_result, ends, gives, meaning, operation, width_of}
use Rattle.air_ir.specs.Operands.{Holds, Homes, Read, Target, put_all, targets, word_of, words}
use Rattle.air_ir.specs.Steps.{Goes, State}
use Rattle.air_ir.specs.Words.{test}
use Rattle.air_ir.specs.declared.op.AirOp.TheVariants as op
use Rattle.air_ir.specs.declared.op.Test.{Test}
use Rattle.air_ir.specs.declared.op.Test.TheVariants.{Compare, NonZero, Bit}
use Rattle.air_ir.specs.declared.operand.Arg.TheVariants.{At, Imm}
use Rattle.air_ir.specs.declared.operand.Home.{Home}
use Rattle.air_ir.specs.declared.operand.Operand.{Operand}
use Rattle.air_ir.specs.declared.operand.Role.TheVariants.{Use}
use Rattle.air_ir.specs.declared.procedure.AirInst.{AirInst}
use Rattle.a64_layout.specs.Layout.{place, position_of}
use Rattle.a64_layout.specs.Machine.{Machine, moved_to}
use Rattle.a64_run.specs.Machine.{touched}
use Rattle.a64_code.specs.declared.source.Source.{Source}
use Rattle.a64_code.specs.declared.source.Source.TheVariants.{InReg, Constant}
use Rattle.a64_emit.specs.Code.{branch_item, check_items, checked_items, compared, fetch, fetch_tested, guarded, put_result, result_at, result_reg, source_at, source_of, test_count, width_at}
use Rattle.a64_code.specs.Computing.{reg_of}
use Rattle.a64_emit.specs.Emitted.{log_of}
use Rattle.a64_emit.specs.Made.{exit_site}
use Rattle.a64_code.specs.Places.{plains}
use Rattle.a64_emit.specs.Related.{IsRelated}
use Rattle.a64_emit.specs.Setting.{Setting, IsSet}
use Rattle.a64_emit.proofs.AirSteps.{IsWritten, step_lost, targets_result, words_use, written_home}
use Rattle.a64_emit.proofs.BranchEnds.{Readied, bit_goes, compare_goes, compare_readied, home_register, one_readied, one_there, two_there as compare_there, word_home, word_summed, zero_goes}
use Rattle.a64_emit.proofs.Branching.{Goes as TestGoes, alike_related}
use Rattle.a64_emit.proofs.CheckParts.{CheckParts, check_reads, check_writes, result_parts, test_parts}
use Rattle.a64_emit.proofs.Exits.{ExitAt}
use Rattle.a64_emit.proofs.ChecksLead.{Guard, between, between_related, exit_stops, goes_past}
use Rattle.a64_emit.proofs.Computes.{ends_by, fetch_two, scratch_17}
use Rattle.a64_emit.proofs.Endings.{among_plains}
use Rattle.a64_emit.proofs.Fetching.{IsPlaceFor, IsUsable, result_most, source_differs}
use Rattle.a64_emit.proofs.Fits.{one_result, two_there}
use Rattle.a64_emit.proofs.Inner.{InstLeads, IsLost, IsOn, IsOver}
use Rattle.a64_emit.proofs.Instructions.{AreOpen, home_word}
use Rattle.a64_emit.proofs.Keeping.{keeps_related, whole_of, IsKept}
use Rattle.a64_code.proofs.Ops.{Gives, IsRegister}
use Rattle.a64_emit.proofs.Outside.{put_both, reg_targets, regs_count, step_with}
use Rattle.a64_emit.proofs.Outward.{Owns, changed_regs}
use Rattle.a64_emit.proofs.OutwardLeads.{last_operand}
use Rattle.a64_emit.proofs.Positions.{Among, among_rest, length_plains}
use Rattle.a64_emit.proofs.Storing.{with_home}
use Rattle.a64_emit.proofs.Straight.{Does, IsWhole, ReachesUnlessLost, Runs, does_alike, does_both, leads_on, straight_runs}
use Rattle.a64_emit.proofs.Told.{and_some}
use Rattle.a64_emit.proofs.Words.{does_safely, touches_nothing}
use Rattle.a64_emit.proofs.Light.{test_length}
use Rattle.a64_emit.proofs.Weights.{fit_count}
use Rattle.a64_inst.specs.declared.item.Item.TheVariants.{Label}
use Rattle.air_frame.specs.Frames.{IsFrameOf}

-- ---- words that are read

none_read : (homes : Homes) → words homes [] ≡ Some []
unfolding words
none_read homes = refl

none_written : targets [] ≡ []
unfolding targets
none_written = refl

read_one : (homes : Homes) (a : Operand) (xs : List Read) → a.role ≡ Use → words homes (a ∷ []) ≡ Some xs
    → (x : ℕ) × (word_of homes a.width a.arg ≡ Some x) × ((a.width, x) ∷ [] ≡ xs)
read_one homes a xs role reads =
    let parts = and_some a.width (word_of homes a.width a.arg) (words homes []) xs (sym (words_use homes a [] role) ∙ reads) in
    let none : [] ≡ parts.1 = let e : Some [] ≡ Some parts.1 = sym (none_read homes) ∙ parts.3 in cc in
    (parts.0, parts.2, ap (λ (vs : List Read). (a.width, parts.0) ∷ vs) none ∙ parts.4)

read_two : (homes : Homes) (a b : Operand) (xs : List Read) → a.role ≡ Use → b.role ≡ Use → words homes (a ∷ b ∷ []) ≡ Some xs
    → (x : ℕ) × (y : ℕ) × (word_of homes a.width a.arg ≡ Some x) × (word_of homes b.width b.arg ≡ Some y) × ((a.width, x) ∷ (b.width, y) ∷ [] ≡ xs)
read_two homes a b xs role other reads =
    let parts = and_some a.width (word_of homes a.width a.arg) (words homes (b ∷ [])) xs (sym (words_use homes a (b ∷ []) role) ∙ reads) in
    let rest = read_one homes b parts.1 other parts.3 in
    (parts.0, rest.0, parts.2, rest.1, ap (λ (vs : List Read). (a.width, parts.0) ∷ vs) rest.2 ∙ parts.4)

test_means : (z : Setting) (i : AirInst) (s : State) (t : Test) (ws : List Read) → i.op ≡ op.CheckIf t
    → meaning z.start (operation i) ws s.world ≡ checks i.value (test t (width_of ws) (map (λ (r : Read). r.1) ws)) s.world
unfolding meaning
test_means z i s t ws is = rw is refl

-- the length of the items of a check
guarded_length : (before : List Inst) (t : Test) (width : Width) (reg label : ℕ) (behind : List Inst)
    → length (guarded before t width reg label behind) ≡ length before + 1 + length behind
guarded_length before t width reg label behind =
    let both = length-append (plains before) (branch_item t true width reg label ∷ plains behind) in
    let first = length_plains before in
    let rest = length_plains behind in
    omega arith

module _ (z : Setting) (set : IsSet z) (serves : IsFrameOf z.procedure z.frame) (placed : (k label : ℕ) → slice_get z.code k ≡ Some (Label label)
    → position_of z.code label ≡ k) (i : AirInst) (s : State) (k : ℕ) (c : Machine) where
  -- the words of a test, and the machine by which its branch goes
  record TestRun (t : Test) (os : List Operand) (xs rs : List Read) : Type 0 where
    passes : Bool
    tests : test t (width_of (xs ++ rs)) (map (λ (r : Read). r.1) (xs ++ rs)) ≡ Some (passes, map (λ (r : Read). r.1) rs)
    readied : Readied z s c (fetch_tested z.frame t os ++ compared t os) t (width_at os 0) (reg_of (source_at os 0 15)) passes

  test_run : (t : Test) (width : Width) (os inputs rest : List Operand) → os ≡ inputs ++ rest → AllFit (test_takes t width) inputs → AreOpen z os
      → IsRelated z s c → (xs rs : List Read) → words s.homes inputs ≡ Some xs → TestRun t os xs rs
  test_run (Compare cond) width os inputs rest parts fits opened rel xs rs reads =
      let them = compare_there cond width inputs fits in
      let a : Operand = them.0 in
      let b : Operand = them.1 in
      let list : os ≡ a ∷ b ∷ rest = parts ∙ ap (λ (ys : List Operand). ys ++ rest) them.2 in
      let found = read_two s.homes a b xs them.3.0 them.4.0 (ap (words s.homes) (sym them.2) ∙ reads) in
      let usable_a : IsUsable z a.arg = (opened 0 a (ap (λ (ys : List Operand). slice_get ys 0) list)).reads them.3.0 width NoImmediate them.3.2 in
      let usable_b : IsUsable z b.arg = (opened 1 b (ap (λ (ys : List Operand). slice_get ys 1) list)).reads them.4.0 width OfSum them.4.2 in
      let same : b.width ≡ a.width = them.4.1 ∙ sym them.3.1 in
      let ready = compare_readied z set serves s c cond a b found.0 found.1 rel usable_a usable_b
      (home_register z a.arg 15 usable_a (word_home width a.arg them.3.2))
      (subst (λ w. IsSummed w (source_of 16 b.arg)) (sym them.3.1) (word_summed z width b.arg 16 usable_b them.4.2)) found.2
      (subst (λ w. word_of s.homes w b.arg ≡ Some found.1) same found.3) in
      subst (λ (ys : List Operand). TestRun (Compare cond) ys xs rs) (sym list)
      (subst (λ (vs : List Read). TestRun (Compare cond) (a ∷ b ∷ rest) vs rs) found.4 (record { passes = _; tests = refl; readied = ready }))
  test_run NonZero width os inputs rest parts fits opened rel xs rs reads =
      let them = one_there (Word width NoImmediate) inputs fits in
      let a : Operand = them.0 in
      let list : os ≡ a ∷ rest = parts ∙ ap (λ (ys : List Operand). ys ++ rest) them.1 in
      let found = read_one s.homes a xs them.2.0 (ap (words s.homes) (sym them.1) ∙ reads) in
      let usable_a : IsUsable z a.arg = (opened 0 a (ap (λ (ys : List Operand). slice_get ys 0) list)).reads them.2.0 width NoImmediate them.2.2 in
      let is_a = home_register z a.arg 15 usable_a (word_home width a.arg them.2.2) in
      let ready = one_readied z set serves s c NonZero a found.0 (not (nat_eq found.0 0)) rel usable_a found.1
      (λ m gives. zero_goes m a.width (source_of 15 a.arg) found.0 is_a gives) in
      subst (λ (ys : List Operand). TestRun NonZero ys xs rs) (sym list)
      (subst (λ (vs : List Read). TestRun NonZero (a ∷ rest) vs rs) found.2 (record { passes = not (nat_eq found.0 0); tests = refl; readied = ready }))
  test_run (Bit n) width os inputs rest parts fits opened rel xs rs reads =
      let them = one_there (BitOf width n) inputs fits in
      let a : Operand = them.0 in
      let list : os ≡ a ∷ rest = parts ∙ ap (λ (ys : List Operand). ys ++ rest) them.1 in
      let found = read_one s.homes a xs them.2.0 (ap (words s.homes) (sym them.1) ∙ reads) in
      let usable_a : IsUsable z a.arg =
      (opened 0 a (ap (λ (ys : List Operand). slice_get ys 0) list)).reads them.2.0 width NoImmediate (home_word width a.arg them.2.2) in
      let is_a = home_register z a.arg 15 usable_a them.2.2 in
      let within : n < bits a.width = subst (λ w. n < bits w) (sym them.2.1) them.2.3 in
      let ready = one_readied z set serves s c (Bit n) a found.0 (nat_eq (bit_at found.0 n) 1) rel usable_a found.1
      (λ m gives. bit_goes m a.width (source_of 15 a.arg) n found.0 within is_a gives) in
      subst (λ (ys : List Operand). TestRun (Bit n) ys xs rs) (sym list)
      (subst (λ (vs : List Read). TestRun (Bit n) (a ∷ rest) vs rs) found.2
      (record { passes = nat_eq (bit_at found.0 n) 1; tests = refl; readied = ready }))

  -- ---- a test

  module _ (t : Test) (is : i.op ≡ op.CheckIf t) (h : HasSite (op.CheckIf t) i.operands) (owns : Owns z.procedure i) (opened : AreOpen z i.operands)
      (label : ℕ) (among : Among z.code k (check_items z.frame label t i.operands))
      (exit : ExitAt z (k + length (check_items z.frame label t i.operands)) label (exit_site z.frame (test_count t) i)) (ranged : All IsRangedAnswer s.world.answers) (rel : IsRelated z s c) where
    abbrev To : Type 0
    To = InstLeads z i s k c (k + length (check_items z.frame label t i.operands))

    q : CheckParts z.procedure i.operands h.0.inputs h.0.reported h.0.changed h.0.results
    q = test_parts z.procedure i owns t h

    before : List Inst
    before = fetch_tested z.frame t i.operands ++ compared t i.operands

    no_results : (os : List Operand) → OneIs false (λ (o : Operand). ⊥) os → os ≡ []
    no_results [] none = refl
    no_results (o ∷ os) none = absurd none

    regs : List ℕ
    regs = changed_regs h.0.changed

    writes : targets i.operands ≡ reg_targets regs
    unfolding regs
    writes =
        check_writes z.procedure i.operands h.0.inputs h.0.reported h.0.changed h.0.results q
        ∙ ap (λ (os : List Operand). reg_targets (changed_regs h.0.changed) ++ targets os) (no_results h.0.results h.2.result)
        ∙ ap (λ (ts : List Target). reg_targets (changed_regs h.0.changed) ++ ts) none_written ∙ append-nil (reg_targets (changed_regs h.0.changed))

    goes_on_past : (ws : List Read) → words s.homes i.operands ≡ Some ws → meaning z.start (operation i) ws s.world ≡ gives s.world [] → (m : Machine)
        → (g : Guard z set serves placed i s k c (test_count t) (fetch_tested z.frame t i.operands ++ compared t i.operands) t (width_at i.operands 0)
        (reg_of (source_at i.operands 0 15)) label [] m false)
        → To
    goes_on_past ws reads means m g =
        let insts : List Inst = fetch_tested z.frame t i.operands ++ compared t i.operands in
        let past = goes_past z set serves placed i s k c (test_count t) insts t (width_at i.operands 0) (reg_of (source_at i.operands 0 15)) label [] m
        false g refl in
        let junk : List ℕ = map past.last.registers.x regs in
        let total = guarded_length insts t (width_at i.operands 0) (reg_of (source_at i.operands 0 15)) label [] in
        let to : k + length (check_items z.frame label t i.operands) ≡ k + length insts + 1 = omega arith in
        let count = regs_count past.last.registers.x regs in
        IsOn (record {
          junk = junk;
          next = between past.last regs s;
          last = past.last;
          steps = λ rest. step_with z.start i s ws (reg_targets regs) junk [] s.world None reads writes means (omega arith) rest
              ∙ ap (λ (js : List ℕ). (Goes None (record { homes = put_all (reg_targets regs) js s.homes; world = s.world }), rest)) (append-nil junk);
          related = between_related z s past.last regs past.related;
          ranged = ranged;
          leads = λ config rest. past.leads config (subst (λ n. ReachesUnlessLost z (log_of s.world) config n past.last) to rest);
        })

    of_words : (ws : List Read) → words s.homes i.operands ≡ Some ws → To
    of_words ws reads =
        let split = check_reads z.procedure i.operands h.0.inputs h.0.reported h.0.changed h.0.results q s.homes ws reads in
        let run : TestRun t i.operands split.0 split.1 =
        test_run t h.2.width i.operands h.0.inputs (h.0.reported ++ (h.0.changed ++ h.0.results)) q.parts h.2.fits opened rel split.0 split.1 split.2 in
        let shown : List ℕ = map (λ (r : Read). r.1) split.1 in
        let means : meaning z.start (operation i) ws s.world ≡ (if run.passes then ends s.world (Exited i.value shown) else gives s.world []) =
        test_means z i s t ws is
        ∙ ap (λ (vs : List Read). checks i.value (test t (width_of vs) (map (λ (r : Read). r.1) vs)) s.world) (sym split.4)
        ∙ ap (λ o. checks i.value o s.world) run.tests in
        let guard = λ (p : Bool) (e : run.passes ≡ p). guard_of p (subst (λ b. Readied z s c (fetch_tested z.frame t i.operands ++ compared t i.operands) t
        (width_at i.operands 0) (reg_of (source_at i.operands 0 15)) b) e run.readied) in
        elim run.passes as (λ b. run.passes ≡ b → To) [
          | true ↦ λ e.
              let g = guard true e in
              IsOver (exit_stops z set serves placed i s k c (test_count t) (fetch_tested z.frame t i.operands ++ compared t i.operands) t
              (width_at i.operands 0) (reg_of (source_at i.operands 0 15)) label [] g.0 true g.1 h.0.inputs h.0.reported h.0.changed h.0.results q
              (fit_count (test_takes t h.2.width) h.0.inputs h.2.fits ∙ test_length t h.2.width) split.1 split.3 refl ws reads
              (means ∙ ap (λ b. if b then ends s.world (Exited i.value shown) else gives s.world []) e))
          | false ↦ λ e.
              let g = guard false e in
              goes_on_past ws reads (means ∙ ap (λ b. if b then ends s.world (Exited i.value shown) else gives s.world []) e) g.0 g.1
        ] refl
      where
        guard_of : (p : Bool) → Readied z s c (fetch_tested z.frame t i.operands ++ compared t i.operands) t (width_at i.operands 0)
            (reg_of (source_at i.operands 0 15)) p
            → (m : Machine) × Guard z set serves placed i s k c (test_count t) (fetch_tested z.frame t i.operands ++ compared t i.operands) t
            (width_at i.operands 0) (reg_of (source_at i.operands 0 15)) label [] m p
        guard_of p r = (r.after, record { among = among; exit = exit; begins = rel; does = r.does; related = r.related; goes = r.goes })

    pub check_leads : To
    check_leads =
        elim (words s.homes i.operands) as (λ o. words s.homes i.operands ≡ o → To) [
          | None ↦ λ e. IsLost (step_lost z.start i s e)
          | Some ws ↦ λ e. of_words ws e
        ] refl

-- ---- results

reg_there : (src : Source) → IsRegister src → (r : ℕ) × (src ≡ InReg r) × (reg_of src ≡ r)
reg_there (InReg r) is = (r, refl, refl)
reg_there (Constant n) is = absurd is

gives_reg : (r : Registers) (src : Source) (width : Width) (w : ℕ) → IsRegister src → Gives r src width w
    → (reg_of src ≤ 30) × (low width (r.x (reg_of src)) ≡ w)
gives_reg r (InReg q) width w is gives = gives
gives_reg r (Constant n) width w is gives = absurd is

not_17 : (z : Setting) (scratch : ℕ) (arg : Arg) → scratch ≢ 17 → IsUsable z arg → IsRegister (source_of scratch arg) → reg_of (source_of scratch arg) ≢ 17
not_17 z scratch arg differ usable is e =
    let reg = reg_there (source_of scratch arg) is in
    source_differs z scratch 17 arg scratch_17 differ usable reg.0 reg.1 (sym reg.2 ∙ e)

-- what makes a result is one instruction
record OneMakes (kind : Checked) (width : Width) (rd a b : ℕ) : Type 0 where
  inst : Inst
  is : making kind width rd a b ≡ inst ∷ []
  touches : (r : Registers) → touched inst r ≡ None

one_makes : (kind : Checked) (width : Width) (rd a b : ℕ) → OneMakes kind width rd a b
unfolding making
one_makes Sum width rd a b = record { inst = _; is = refl; touches = λ r. refl }
one_makes Difference width rd a b = record { inst = _; is = refl; touches = λ r. refl }
one_makes Product width rd a b = record { inst = _; is = refl; touches = λ r. refl }

AreQuiet : List Inst → Type 0
AreQuiet [] = Unit {0}
AreQuiet (inst ∷ insts) = ((r : Registers) → touched inst r ≡ None) × AreQuiet insts

comparing_quiet : (kind : Checked) (width : Width) (a b : ℕ) → AreQuiet (comparing kind width a b)
unfolding comparing AreQuiet
comparing_quiet Sum width a b = (λ r. refl, tt)
comparing_quiet Difference width a b = (λ r. refl, tt)
comparing_quiet Product W32 a b = (λ r. refl, (λ r. refl, (λ r. refl, tt)))
comparing_quiet Product W64 a b = (λ r. refl, (λ r. refl, (λ r. refl, tt)))

runs_do : (z : Setting) (insts : List Inst) (m : Machine) (t : Registers) → AreQuiet insts → IsWhole z m → RunTo insts m.registers t
    → Does z m insts (record { registers = t; memory = m.memory })
unfolding RunTo Does AreQuiet
runs_do z [] m t quiet whole runs = ap (λ (r : Registers). moved_to 0 (record { registers = r; memory = m.memory })) runs
runs_do z (inst ∷ insts) m t quiet whole runs =
    let d : Machine = record { registers = runs.0; memory = m.memory } in (
      d,
      does_safely z m d inst whole (touches_nothing m inst (λ pc. quiet.0 (moved_to pc m).registers)) runs.1.platform (λ pc. runs.1.does pc m.memory),
      runs_do z insts d t quiet.1 (record { aligned = ap (λ n. n % 16) runs.1.sp ∙ whole.aligned; whole = whole.whole }) runs.2,
    )

one_run : (inst : Inst) (s t : Registers) → RunTo (inst ∷ []) s t → StepsTo inst s t
unfolding RunTo
one_run inst s t runs = subst (StepsTo inst s) runs.2 runs.1

result_means : (z : Setting) (i : AirInst) (s : State) (checked : Checked) (ws : List Read) → i.op ≡ check_op checked
    → meaning z.start (operation i) ws s.world ≡ checks_result i.value checked (width_of ws) (map (λ (r : Read). r.1) ws) s.world
unfolding meaning
result_means z i s Sum ws is = rw is refl
result_means z i s Difference ws is = rw is refl
result_means z i s Product ws is = rw is refl

module _ (z : Setting) (set : IsSet z) (serves : IsFrameOf z.procedure z.frame) (placed : (k label : ℕ) → slice_get z.code k ≡ Some (Label label)
    → position_of z.code label ≡ k) (i : AirInst) (s : State) (k : ℕ) (c : Machine) (kind : Checked) (is : i.op ≡ check_op kind)
    (h : (s : SiteOperands) × (i.operands ≡ listed s) × AtSite two_homes true (λ width. Fits (Result width)) s) (owns : Owns z.procedure i)
    (opened : AreOpen z i.operands) (label : ℕ) (among : Among z.code k (checked_items z.frame label kind i.operands))
    (exit : ExitAt z (k + length (checked_items z.frame label kind i.operands)) label (exit_site z.frame 2 i))
    (room : place z.code z.long (k + length (checked_items z.frame label kind i.operands)) < place z.code z.long (length z.code))
    (ranged : All IsRangedAnswer s.world.answers) (rel : IsRelated z s c) where
  abbrev Leads : Type 0
  Leads = InstLeads z i s k c (k + length (checked_items z.frame label kind i.operands))

  parts_are : CheckParts z.procedure i.operands h.0.inputs h.0.reported h.0.changed h.0.results
  parts_are = result_parts z.procedure i owns h.0 h.1 h.2

  inputs_are : (a : Operand) × (b : Operand) × (h.0.inputs ≡ a ∷ b ∷ []) × Fits (home h.2.width) a × Fits (home h.2.width) b
  inputs_are = two_there h.0.inputs h.2.width h.2.fits

  result_is : (o : Operand) × (h.0.results ≡ o ∷ []) × Fits (Result h.2.width) o
  result_is = one_result h.0.results h.2.width h.2.result

  -- the operands, and what is so of them
  record Form : Type 0 where
    width : Width
    a : Operand
    b : Operand
    o : Operand
    to : Home
    more : List Operand
    list : i.operands ≡ a ∷ b ∷ (more ++ o ∷ [])
    inputs : h.0.inputs ≡ a ∷ b ∷ []
    results : h.0.results ≡ o ∷ []
    fits_a : Fits (home width) a
    fits_b : Fits (home width) b
    fits_o : Fits (Result width) o
    written : IsWritten o to
    usable_a : IsUsable z a.arg
    usable_b : IsUsable z b.arg
    place_to : IsPlaceFor z to

  form : Form
  form =
      let a : Operand = inputs_are.0 in
      let b : Operand = inputs_are.1 in
      let o : Operand = result_is.0 in
      let more : List Operand = h.0.reported ++ h.0.changed in
      let list : i.operands ≡ a ∷ b ∷ (more ++ o ∷ []) =
      parts_are.parts ∙ ap (λ (xs : List Operand). xs ++ (h.0.reported ++ (h.0.changed ++ h.0.results))) inputs_are.2
      ∙ ap (λ (xs : List Operand). a ∷ b ∷ (h.0.reported ++ (h.0.changed ++ xs))) result_is.1
      ∙ ap (λ (xs : List Operand). a ∷ b ∷ xs) (sym (append_assoc h.0.reported h.0.changed (o ∷ []))) in
      let to = written_home h.2.width o result_is.2 in
      let at_o : slice_get i.operands (length (a ∷ b ∷ more) + 0) ≡ Some o =
      ap (λ (xs : List Operand). slice_get xs (length (a ∷ b ∷ more) + 0)) list ∙ get_behind (a ∷ b ∷ more) (o ∷ []) 0 in
      record {
        width = h.2.width;
        a = a;
        b = b;
        o = o;
        to = to.0;
        more = more;
        list = list;
        inputs = inputs_are.2;
        results = result_is.1;
        fits_a = inputs_are.3;
        fits_b = inputs_are.4;
        fits_o = result_is.2;
        written = to.1;
        usable_a = (opened 0 a (ap (λ (xs : List Operand). slice_get xs 0) list)).reads inputs_are.3.0 h.2.width NoImmediate inputs_are.3.2;
        usable_b = (opened 1 b (ap (λ (xs : List Operand). slice_get xs 1) list)).reads inputs_are.4.0 h.2.width NoImmediate inputs_are.4.2;
        place_to = (opened (length (a ∷ b ∷ more) + 0) o at_o).writes to.0 to.1;
      }

  -- the code, by the operands
  abbrev first_code : Form → List Inst
  first_code f =
      fetch z.frame 15 f.a.arg
      ++ (fetch z.frame 16 f.b.arg ++ comparing kind f.width (reg_of (source_of 15 f.a.arg)) (reg_of (source_of 16 f.b.arg)))

  abbrev last_code : Form → List Inst
  last_code f =
      making kind f.width (result_reg (At f.to)) (reg_of (source_of 15 f.a.arg)) (reg_of (source_of 16 f.b.arg))
      ++ put_result z.frame (result_reg (At f.to)) (At f.to)

  abbrev code_of : Form → List Item
  code_of f = guarded (first_code f) (Compare (passing kind)) f.width 0 label (last_code f)

  code_is : (f : Form) → checked_items z.frame label kind i.operands ≡ code_of f
  code_is f =
      let d : Operand = record { role = Use; width = W64; arg = Imm 0 } in
      let os : List Operand = f.a ∷ f.b ∷ (f.more ++ f.o ∷ []) in
      let last : result_at os ≡ At f.to = ap (λ (x : Operand). x.arg) (last_operand (f.a ∷ f.b ∷ f.more) f.o d) ∙ f.written.arg in
      let ra : ℕ = reg_of (source_of 15 f.a.arg) in
      let rb : ℕ = reg_of (source_of 16 f.b.arg) in
      let Code : Width → Arg → List Item = λ w to. guarded (fetch z.frame 15 f.a.arg ++ (fetch z.frame 16 f.b.arg ++ comparing kind w ra rb))
      (Compare (passing kind)) w 0 label (making kind w (result_reg to) ra rb ++ put_result z.frame (result_reg to) to) in
      ap (checked_items z.frame label kind) f.list ∙ ap (Code f.a.width) last ∙ ap (λ w. Code w (At f.to)) f.fits_a.1

  -- the machine once the words are compared
  record Compared (f : Form) (x y : ℕ) : Type 0 where
    after : Machine
    does : Does z c (first_code f) after
    related : IsRelated z s after
    goes : TestGoes after (Compare (passing kind)) f.width 0 (not (is_signed f.width (checked_result kind (signed f.width x) (signed f.width y))))
    makes : is_signed f.width (checked_result kind (signed f.width x) (signed f.width y)) ≡ true → (rd : ℕ) → rd ≤ 30 → rd ≢ 18
        → RunTo (making kind f.width rd (reg_of (source_of 15 f.a.arg)) (reg_of (source_of 16 f.b.arg))) after.registers
        (put after.registers rd (unsigned f.width (checked_result kind (signed f.width x) (signed f.width y))))

  kept_differs : (r : ℕ) → IsKept r → (r ≢ 16) × (r ≢ 17)
  kept_differs r is = (
    λ e. ⊎_elim (λ (le : r ≤ 14). absurd (omega arith)) (λ (ge : 18 ≤ r). absurd (omega arith)) is,
    λ e. ⊎_elim (λ (le : r ≤ 14). absurd (omega arith)) (λ (ge : 18 ≤ r). absurd (omega arith)) is,
  )

  compares : (f : Form) (x y : ℕ) → word_of s.homes f.width f.a.arg ≡ Some x → word_of s.homes f.width f.b.arg ≡ Some y → Compared f x y
  compares f x y reads_a reads_b =
      let two = fetch_two z set serves s c f.a.arg f.b.arg f.width f.width x y rel f.usable_a f.usable_b reads_a reads_b in
      let m : Machine = two.after in
      let ra : ℕ = reg_of (source_of 15 f.a.arg) in
      let rb : ℕ = reg_of (source_of 16 f.b.arg) in
      let is_a = home_register z f.a.arg 15 f.usable_a (word_home f.width f.a.arg f.fits_a.2) in
      let is_b = home_register z f.b.arg 16 f.usable_b (word_home f.width f.b.arg f.fits_b.2) in
      let gives_a = gives_reg m.registers (source_of 15 f.a.arg) f.width x is_a two.gives_a in
      let gives_b = gives_reg m.registers (source_of 16 f.b.arg) f.width y is_b two.gives_b in
      let ex = checks_exact kind f.width ra rb m.registers gives_a.0 gives_b.0 (not_17 z 15 f.a.arg (λ e. omega arith) f.usable_a is_a)
      (not_17 z 16 f.b.arg (λ e. omega arith) f.usable_b is_b) two.related.frame.words in
      let t : Registers = ex.0 in
      let d : Machine = record { registers = t; memory = m.memory } in
      let same : exact kind f.width ra rb m.registers ≡ checked_result kind (signed f.width x) (signed f.width y) =
      ap (λ n. checked_result kind (signed f.width n) (signed f.width (low f.width (m.registers.x rb)))) gives_a.1
      ∙ ap (λ n. checked_result kind (signed f.width x) (signed f.width n)) gives_b.1 in
      record {
        after = d;
        does = does_both z c two.between d (fetch z.frame 15 f.a.arg) (fetch z.frame 16 f.b.arg ++ comparing kind f.width ra rb) two.first
            (does_both z two.between m d (fetch z.frame 16 f.b.arg) (comparing kind f.width ra rb) two.second
            (runs_do z (comparing kind f.width ra rb) m t (comparing_quiet kind f.width ra rb) (whole_of z set serves m two.related.frame) ex.1.compares));
        related = keeps_related z s m d (record {
          sp = ex.1.sp;
          memory = refl;
          x = λ r kept. let other = kept_differs r kept in ex.1.x r other.0 other.1;
          words = ex.1.words;
        }) two.related;
        goes = subst (TestGoes d (Compare (passing kind)) f.width 0)
            (ex.1.says ∙ ap (λ v. not (is_signed f.width v)) same)
            (compare_goes d (passing kind) f.width 0 t.flags refl);
        makes = λ fits_it rd le differ.
            subst (λ v. RunTo (making kind f.width rd ra rb) t (put t rd (unsigned f.width v))) same
            (ex.1.makes rd le differ (ap (is_signed f.width) same ∙ fits_it));
      }

  -- it goes past the exit, and makes the result
  goes_on_made : (f : Form) (x y : ℕ) (m : Compared f x y) → is_signed f.width (checked_result kind (signed f.width x) (signed f.width y)) ≡ true
      → (ws : List Read) → words s.homes i.operands ≡ Some ws
      → meaning z.start (operation i) ws s.world ≡ gives s.world (unsigned f.width (checked_result kind (signed f.width x) (signed f.width y)) ∷ [])
      → Guard z set serves placed i s k c 2 (first_code f) (Compare (passing kind)) f.width 0 label (last_code f) m.after false → Leads
  unfolding put_all
  goes_on_made f x y m fits_it ws reads means g =
      let w : ℕ = unsigned f.width (checked_result kind (signed f.width x) (signed f.width y)) in
      let insts : List Inst = first_code f in
      let rd : ℕ = result_reg (At f.to) in
      let ra : ℕ = reg_of (source_of 15 f.a.arg) in
      let rb : ℕ = reg_of (source_of 16 f.b.arg) in
      let most = result_most z set serves f.to f.place_to in
      let one = one_makes kind f.width rd ra rb in
      let past = goes_past z set serves placed i s k c 2 insts (Compare (passing kind)) f.width 0 label (last_code f) m.after false g refl in
      let regs : List ℕ = changed_regs h.0.changed in
      let d : Machine = m.after in
      let mid : State = between d regs s in
      let rel_mid = between_related z s d regs m.related in
      let steps = one_run one.inst d.registers (put d.registers rd w)
      (subst (λ (xs : List Inst). RunTo xs d.registers (put d.registers rd w)) one.is (m.makes fits_it rd most.0 most.1)) in
      let fin = ends_by z set serves mid d one.inst f.to f.width w rel_mid f.place_to (record { fields = steps.fields; touches = one.touches })
      (λ pc. steps.does pc d.memory) in
      let back : List Inst = last_code f in
      let code : last_code f ≡ one.inst ∷ put_result z.frame rd (At f.to) = ap (λ (xs : List Inst). xs ++ put_result z.frame rd (At f.to)) one.is in
      let does : Does z past.last back fin.after =
      does_alike z past.last d fin.after back past.alike (subst (λ (xs : List Inst). Does z d xs fin.after) (sym code) fin.does) in
      let total = guarded_length insts (Compare (passing kind)) f.width 0 label back in
      let same : length (checked_items z.frame label kind i.operands) ≡ length (code_of f) = ap (λ (xs : List Item). length xs) (code_is f) in
      let at : ℕ = k + length insts + 1 in
      let front : List Item = plains insts ++ branch_item (Compare (passing kind)) true f.width 0 label ∷ [] in
      let front_count = length-append (plains insts) (branch_item (Compare (passing kind)) true f.width 0 label ∷ []) in
      let insts_count = length_plains insts in
      let split : code_of f ≡ front ++ plains back =
      sym (append_assoc (plains insts) (branch_item (Compare (passing kind)) true f.width 0 label ∷ [])
      (plains back)) in
      let tail : Among z.code (k + length front) (plains back) = among_rest z.code k front (plains back) (subst (Among z.code k) split g.among) in
      let tail_at : Among z.code at (plains back) = subst (λ n. Among z.code n (plains back)) (omega arith) tail in
      let end : k + length (checked_items z.frame label kind i.operands) ≡ at + length back = omega arith in
      let runs : Runs z at past.last (length back) fin.after =
      straight_runs z set at past.last fin.after back does (among_plains z.code at back tail_at)
      (subst (λ n. place z.code z.long n < place z.code z.long (length z.code)) end room) in
      let junk : List ℕ = map d.registers.x regs in
      let result : Target = record { home = f.to; width = f.o.width } in
      let next : State = with_home mid f.to (Holds f.width w) in
      let writes : targets i.operands ≡ reg_targets regs ++ result ∷ [] =
      check_writes z.procedure i.operands h.0.inputs h.0.reported h.0.changed h.0.results parts_are
      ∙ ap (λ (os : List Operand). reg_targets regs ++ targets os) f.results ∙ ap (λ (ts : List Target). reg_targets regs ++ ts) (targets_result f.o f.to f.written) in
      let regs_are = regs_count d.registers.x regs in
      let all_count = length-append (reg_targets regs) (result ∷ []) in
      IsOn (record {
        junk = junk;
        next = next;
        last = runs.last;
        steps = λ rest. step_with z.start i s ws (reg_targets regs ++ result ∷ []) junk (w ∷ []) s.world None reads writes means (omega arith) rest
            ∙ ap (λ homes. (Goes None (record { homes = homes; world = s.world }), rest)) (put_last d regs f w f.fits_o.1);
        related = alike_related z next fin.after runs.last runs.alike (runs.small past.related.frame.words.pc) fin.related;
        ranged = ranged;
        leads = λ config rest. past.leads config (made_leads config at back past.last fin.after runs
            (subst (λ n. ReachesUnlessLost z (log_of s.world) config n runs.last) end rest));
      })
    where
      put_last : (d : Machine) (regs : List ℕ) (f : Form) (w : ℕ) → f.o.width ≡ f.width
          → put_all (reg_targets regs ++ record { home = f.to; width = f.o.width } ∷ []) (map d.registers.x regs ++ w ∷ []) s.homes
          ≡ (with_home (between d regs s) f.to (Holds f.width w)).homes
      put_last d regs f w wide =
          put_both d.registers.x regs (record { home = f.to; width = f.o.width } ∷ []) (w ∷ []) s.homes
          ∙ ap (λ v. (with_home (between d regs s) f.to (Holds v w)).homes) wide

      made_leads : (config : air.Config) (at : ℕ) (back : List Inst) (m n : Machine) → (runs : Runs z at m (length back) n)
          → ReachesUnlessLost z (log_of s.world) config (at + length back) runs.last → ReachesUnlessLost z (log_of s.world) config at m
      made_leads air.Lost at back m n runs rest = tt
      made_leads (air.At b t) at back m n runs rest = leads_on z (log_of s.world) (air.At b t) at (length back) m n runs rest
      made_leads (air.Stopped seen) at back m n runs rest = leads_on z (log_of s.world) (air.Stopped seen) at (length back) m n runs rest

  by_words : (f : Form) (ws : List Read) → words s.homes i.operands ≡ Some ws → Leads
  by_words f ws reads =
      let split = check_reads z.procedure i.operands h.0.inputs h.0.reported h.0.changed h.0.results parts_are s.homes ws reads in
      let them = read_two s.homes f.a f.b split.0 f.fits_a.0 f.fits_b.0 (ap (words s.homes) (sym f.inputs) ∙ split.2) in
      let x : ℕ = them.0 in
      let y : ℕ = them.1 in
      let shown : List ℕ = map (λ (r : Read). r.1) split.1 in
      let number : ℤ = checked_result kind (signed f.width x) (signed f.width y) in
      let m = compares f x y (subst (λ w. word_of s.homes w f.a.arg ≡ Some x) f.fits_a.1 them.2) (subst (λ w. word_of s.homes w f.b.arg ≡ Some y) f.fits_b.1 them.3) in
      let all : (f.a.width, x) ∷ (f.b.width, y) ∷ split.1 ≡ ws = ap (λ (vs : List Read). vs ++ split.1) them.4 ∙ split.4 in
      let means : meaning z.start (operation i) ws s.world
      ≡ (if is_signed f.width number then gives s.world (unsigned f.width number ∷ []) else ends s.world (Exited i.value shown)) =
      result_means z i s kind ws is
      ∙ ap (λ (vs : List Read). checks_result i.value kind (width_of vs) (map (λ (r : Read). r.1) vs) s.world) (sym all)
      ∙ ap (λ v. checks_result i.value kind v (x ∷ y ∷ shown) s.world) f.fits_a.1 in
      let guard = λ (p : Bool) (e : not (is_signed f.width number) ≡ p). guard_of f x y m p e in
      elim (is_signed f.width number) as (λ b. is_signed f.width number ≡ b → Leads) [
        | true ↦ λ e.
            goes_on_made f x y m e ws reads
            (means ∙ ap (λ b. if b then gives s.world (unsigned f.width number ∷ []) else ends s.world (Exited i.value shown)) e) (guard false (ap not e))
        | false ↦ λ e.
            IsOver (exit_stops z set serves placed i s k c 2 (first_code f) (Compare (passing kind)) f.width 0 label (last_code f) m.after true
            (guard true (ap not e)) h.0.inputs h.0.reported h.0.changed h.0.results parts_are
            (ap (λ (xs : List Operand). length xs) f.inputs) split.1 split.3 refl ws reads
            (means ∙ ap (λ b. if b then gives s.world (unsigned f.width number ∷ []) else ends s.world (Exited i.value shown)) e))
      ] refl
    where
      guard_of : (f : Form) (x y : ℕ) (m : Compared f x y) (p : Bool)
          → not (is_signed f.width (checked_result kind (signed f.width x) (signed f.width y))) ≡ p
          → Guard z set serves placed i s k c 2 (first_code f) (Compare (passing kind)) f.width 0 label (last_code f) m.after p
      guard_of f x y m p e = record {
        among = subst (Among z.code k) (code_is f) among;
        exit = subst (λ (xs : List Item). ExitAt z (k + length xs) label (exit_site z.frame 2 i)) (code_is f) exit;
        begins = rel;
        does = m.does;
        related = m.related;
        goes = subst (TestGoes m.after (Compare (passing kind)) f.width 0) e m.goes;
      }

  pub checked_leads : Leads
  checked_leads =
      elim (words s.homes i.operands) as (λ o. words s.homes i.operands ≡ o → Leads) [
        | None ↦ λ e. IsLost (step_lost z.start i s e)
        | Some ws ↦ λ e. by_words form ws e
      ] refl
