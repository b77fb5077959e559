-- The items of what ends a block do what it does.
use Rattle.std.proofs.Common.{◌≡◌, ℕ, pos, zero, suc, ◌+◌, ◌%◌, ◌^◌, ◌<◌, ◌⊎◌, true, false, inl, inr, ⊎_elim, List, [], ◌∷◌, ◌++◌, Option, Some, None, length, get_or, refl, sym, ap, ◌∙◌, subst, arith, append_assoc}
use Rattle.std.specs.Prelude.{slice_get}
use Rattle.std.proofs.lemmas.Option.{slice_get-get_or, slice_get_within}
use Rattle.b3_base.specs.Arithmetic.{low}
use Rattle.b3_base.specs.Observed.{Memory, Start}
use Rattle.b3_base.specs.declared.observation.Status.{Status}
use Rattle.b3_base.specs.declared.observation.Status.TheVariants.{Returned}
use Rattle.b3_base.specs.declared.word.Width.{Width}
use Rattle.b3_base.specs.declared.word.Width.TheVariants.{W32, W64}
use Rattle.stackmap.specs.declared.site.Returns.{Returns as Returned_type}
use Rattle.stackmap.specs.declared.site.Returns.TheVariants as returns
use Rattle.a64_inst.specs.Step.{Registers, step_of, branch_reg}
use Rattle.a64_inst.specs.declared.inst.BranchKind.TheVariants.{Ret}
use Rattle.a64_inst.specs.declared.inst.Inst.{Inst}
use Rattle.a64_inst.specs.declared.inst.Inst.TheVariants.{AddSubImm, BranchReg, PairSp}
use Rattle.a64_inst.specs.declared.item.Item.{Item}
use Rattle.a64_inst.specs.declared.item.Item.TheVariants.{Plain}
use Rattle.air_ir.specs.Blocks as air
use Rattle.air_ir.specs.Forms.{operand_in, returned}
use Rattle.air_ir.specs.Kinds.{Returns, kind_of}
use Rattle.air_ir.specs.Meaning.{Exit, Over, To, World, meaning, operation}
use Rattle.air_ir.specs.Operands.{Read, targets, word_of, words, put_all}
use Rattle.air_ir.specs.Steps.{Goes, State, junk_words, step}
use Rattle.air_ir.specs.declared.op.AirOp.TheVariants as op
use Rattle.air_ir.specs.declared.operand.Arg.TheVariants.{At}
use Rattle.air_ir.specs.declared.operand.Home.TheVariants.{Reg}
use Rattle.air_ir.specs.declared.operand.Operand.{Operand}
use Rattle.air_ir.specs.declared.operand.Role.TheVariants.{Use}
use Rattle.air_ir.specs.declared.procedure.AirInst.{AirInst}
use Rattle.air_frame.specs.Frames.{IsFrameOf}
use Rattle.a64_layout.specs.Machine.{Machine, moved_to}
use Rattle.a64_run.specs.Machine.{returned_word}
use Rattle.a64_run.specs.Placement.{visible}
use Rattle.a64_emit.specs.Switched.{jump_to}
use Rattle.a64_emit.specs.Emitted.{HasReturned, IsProperAt, IsSafeItem, log_of, seen_at}
use Rattle.a64_code.specs.Places.{epilogue, plains, restores}
use Rattle.a64_emit.specs.Related.{Carries, IsRelated}
use Rattle.a64_emit.specs.Setting.{IsSet, Setting, address_of, row}
use Rattle.a64_emit.proofs.AirSteps.{step_lost, step_without}
use Rattle.a64_emit.proofs.Branching.{NextAt, jump_reaches, words_there}
use Rattle.a64_emit.proofs.Keeping.{reads_carried}
use Rattle.a64_emit.proofs.Leaving.{Leaves, leaving}
use Rattle.a64_emit.proofs.Positions.{Among, among_first, among_rest, length_plains}
use Rattle.a64_emit.proofs.Straight.{AreAlike, IsWhole, Reaches, ReachesUnlessLost, Runs, leads_on, reaches_here, straight_runs, whole_alike}

-- the items from one on lead where what ends a block with these targets does
pub record Ends (z : Setting) (targets : List ℕ) (i : AirInst) (s : State) (k : ℕ) (c : Machine) : Type 0 where
  pub next : air.Config
  pub is : (junk : List ℕ) → air.left targets (step (meaning z.start) i s junk) ≡ (next, junk)
  pub reaches : ReachesUnlessLost z (log_of s.world) next k c

-- plain items among others
pub among_plains : (code : List Item) (k : ℕ) (insts : List Inst) → Among code k (plains insts)
    → (j : ℕ) (inst : Inst) → slice_get insts j ≡ Some inst → slice_get code (k + j) ≡ Some (Plain inst)
among_plains code k insts among j inst there = among j (Plain inst) (plain_at insts j there)
  where
    plain_at : (insts : List Inst) (j : ℕ) → slice_get insts j ≡ Some inst → slice_get (plains insts) j ≡ Some (Plain inst)
    plain_at [] j there = cc
    plain_at (first ∷ insts) zero there = let same : first ≡ inst = cc in ap (λ i. Some (Plain i)) same
    plain_at (first ∷ insts) (suc j) there = plain_at insts j there

pub plains_append : (xs ys : List Inst) → plains (xs ++ ys) ≡ plains xs ++ plains ys
plains_append [] ys = refl
plains_append (x ∷ xs) ys = ap (λ (items : List Item). Plain x ∷ items) (plains_append xs ys)

-- what is seen of a world is what is seen of a machine whose bytes are its memory
pub stops_seen : (z : Setting) (w : World) (c : Machine) (status : Status) → w.memory ≡ visible (row z) z.entry c.memory
    → air.seen_as w status ≡ seen_at z (log_of w) c status
stops_seen z w c status e = ap (λ (m : Memory). record { status = status; events = w.events; memory = m }) e

-- ---- steps

module _ (start : Start) (i : AirInst) (s : State) where
  -- an instruction that leaves the block
  pub step_leaves : (rs : List Read) (exit : Exit) → words s.homes i.operands ≡ Some rs → targets i.operands ≡ []
      → meaning start (operation i) rs s.world ≡ Some (record { results = []; world = s.world; exit = Some exit })
      → (junk : List ℕ) → step (meaning start) i s junk ≡ (Goes (Some exit) s, junk)
  unfolding step junk_words put_all
  step_leaves rs exit reads writes leaves junk = rw (reads, leaves, writes) refl

-- ---- Return

-- the word that is returned, where x0 has this word
pub record ReturnsWord (start : Start) (r : Returned_type) (i : AirInst) (s : State) (x0 : ℕ) : Type 0 where
  pub rs : List Read
  pub reads : words s.homes i.operands ≡ Some rs
  pub writes : targets i.operands ≡ []
  pub word : Option ℕ
  pub leaves : meaning start (operation i) rs s.world ≡ Some (record { results = []; world = s.world; exit = Some (Over (Returned word)) })
  pub is : (registers : Registers) → registers.x 0 ≡ x0 → returned_word r registers ≡ word

module _ (start : Start) (i : AirInst) (s : State) (kind : kind_of i.op ≡ Returns) (x0 : ℕ) (small : x0 < 2 ^ 64)
    (carries : Carries (s.homes (Reg (record { 0 = 0 }))) x0) where
  reads_word : (width : Width) (o : Option ℕ) → word_of s.homes width (At (Reg (record { 0 = 0 }))) ≡ o → i.operands ≡ operand_in Use width 0 ∷ []
      → (words s.homes i.operands ≡ None) ⊎ ((w : ℕ) × (words s.homes i.operands ≡ Some ((width, w) ∷ [])) × (low width x0 ≡ w))
  unfolding words word_of
  reads_word width None is os = inl (ap (words s.homes) os ∙ rw is refl)
  reads_word width (Some w) is os = inr (w, ap (words s.homes) os ∙ rw is refl, reads_carried width (s.homes (Reg (record { 0 = 0 }))) x0 w carries is)

  leaves_word : (width : Width) (w : ℕ) → meaning start (operation i) ((width, w) ∷ []) s.world ≡ Some (record {
    results = [];
    world = s.world;
    exit =
        Some (Over (Returned (Some w)));
  })
  unfolding meaning
  leaves_word width w = rw kind refl

  leaves_none : meaning start (operation i) [] s.world ≡ Some (record { results = []; world = s.world; exit = Some (Over (Returned None)) })
  unfolding meaning
  leaves_none = rw kind refl

  writes_none : (os : List Operand) → i.operands ≡ os → targets os ≡ [] → targets i.operands ≡ []
  writes_none os same none = ap targets same ∙ none

  pub returns_word : (r : Returned_type) → i.operands ≡ returned r → (words s.homes i.operands ≡ None) ⊎ ReturnsWord start r i s x0
  unfolding words targets
  returns_word returns.Nothing os = inr (record {
    rs = [];
    reads = ap (words s.homes) os;
    writes = writes_none [] os refl;
    word = None;
    leaves = leaves_none;
    is = λ registers same. refl;
  })
  returns_word returns.W32 os =
      ⊎_elim
      (λ lost. inl lost)
      (λ (found : (w : ℕ) × (words s.homes i.operands ≡ Some ((W32, w) ∷ [])) × (low W32 x0 ≡ w)). inr (record {
        rs = (W32, found.0) ∷ [];
        reads = found.1;
        writes = writes_none (operand_in Use W32 0 ∷ []) os refl;
        word = Some found.0;
        leaves = leaves_word W32 found.0;
        is = λ registers same. ap (λ n. Some (n % 2 ^ 32)) same ∙ ap Some found.2;
      }))
      (reads_word W32 (word_of s.homes W32 (At (Reg (record { 0 = 0 })))) refl os)
  returns_word returns.W64 os =
      ⊎_elim
      (λ lost. inl lost)
      (λ (found : (w : ℕ) × (words s.homes i.operands ≡ Some ((W64, w) ∷ [])) × (low W64 x0 ≡ w)). inr (record {
        rs = (W64, found.0) ∷ [];
        reads = found.1;
        writes = writes_none (operand_in Use W64 0 ∷ []) os refl;
        word = Some found.0;
        leaves = leaves_word W64 found.0;
        is = λ registers same. let whole : x0 % 2 ^ 64 ≡ x0 = omega arith in ap (λ n. Some n) (same ∙ sym whole ∙ found.2);
      }))
      (reads_word W64 (word_of s.homes W64 (At (Reg (record { 0 = 0 })))) refl os)

returns_safely : (r : Registers) (m : ℕ → Option ℕ) → (step_of (BranchReg Ret 30) r m).registers.x 18 ≡ r.x 18
unfolding step_of branch_reg
returns_safely r m = refl

module _ (z : Setting) (set : IsSet z) (serves : IsFrameOf z.procedure z.frame) where
  -- what stands before the RET
  before_ret : List Inst
  before_ret = restores z.frame z.frame.saved ++ AddSubImm W64 false false 31 29 0 false ∷ PairSp true 29 30 (pos 2) ∷ []

  epilogue_is : epilogue z.frame ≡ before_ret ++ BranchReg Ret 30 ∷ []
  unfolding epilogue before_ret
  epilogue_is = sym (append_assoc (restores z.frame z.frame.saved) (AddSubImm W64 false false 31 29 0 false ∷ PairSp true 29 30 (pos 2) ∷ [])
      (BranchReg Ret 30 ∷ []))

  stands_before : (k : ℕ) → Among z.code k (plains (epilogue z.frame)) → Among z.code k (plains before_ret)
  stands_before k among = among_first z.code k (plains before_ret) (plains (BranchReg Ret 30 ∷ []))
      (subst (Among z.code k) (ap plains epilogue_is ∙ plains_append before_ret (BranchReg Ret 30 ∷ [])) among)

  stands_ret : (k : ℕ) → Among z.code k (plains (epilogue z.frame)) → slice_get z.code (k + length before_ret) ≡ Some (Plain (BranchReg Ret 30))
  stands_ret k among =
      let rest = among_rest z.code k (plains before_ret) (plains (BranchReg Ret 30 ∷ []))
      (subst (Among z.code k) (ap plains epilogue_is ∙ plains_append before_ret (BranchReg Ret 30 ∷ [])) among) in
      let count = length_plains before_ret in
      ap (slice_get z.code) (omega arith) ∙ rest 0 (Plain (BranchReg Ret 30)) refl

  has_returned : (w : World) (word : Option ℕ) (k : ℕ) (c d last : Machine) → (l : Leaves z c) → AreAlike last l.after → last.registers.pc < 2 ^ 64
      → slice_get z.code k ≡ Some (Plain (BranchReg Ret 30)) → w.memory ≡ visible (row z) z.entry c.memory
      → ((registers : Registers) → registers.x 0 ≡ c.registers.x 0 → returned_word z.procedure.returns registers ≡ word)
      → HasReturned z (log_of w) (air.seen_as w (Returned word)) k last
  has_returned w word k c d last l same small there memory is = record {
    word = word;
    shows = stops_seen z w last (Returned word)
        (memory ∙ sym (ap (λ (m : Machine). visible (row z) z.entry m.memory) same ∙ ap (visible (row z) z.entry) l.memory));
    ret = there;
    words = record {
      x = λ r. subst (λ n. n < 2 ^ 64) (sym (ap (λ (m : Machine). m.registers.x r) same)) (l.words.x r);
      sp = subst (λ n. n < 2 ^ 64) (sym (ap (λ (m : Machine). m.registers.sp) same)) l.words.sp;
      pc = small;
    };
    sp = ap (λ (m : Machine). m.registers.sp) same ∙ l.sp;
    kept = λ r least most. ap (λ (m : Machine). m.registers.x r) same ∙ l.kept r least most;
    returned = is last.registers (ap (λ (m : Machine). m.registers.x 0) same ∙ l.x0);
  }

  ret_proper : (k : ℕ) (c : Machine) → slice_get z.code k ≡ Some (Plain (BranchReg Ret 30)) → IsWhole z c → IsProperAt z k c
  ret_proper k c there whole = record {
    aligned = whole.aligned;
    whole = whole.whole;
    safe = subst (IsSafeItem z (moved_to (address_of z k) c)) (sym there) (record {
      there = λ at n j some lt inside. absurd cc;
      platform = returns_safely (moved_to (address_of z k) c).registers c.memory;
    });
  }

  return_reaches : (s : State) (k : ℕ) (c : Machine) (word : Option ℕ) → IsRelated z s c → Among z.code k (plains (epilogue z.frame))
      → ((registers : Registers) → registers.x 0 ≡ c.registers.x 0 → returned_word z.procedure.returns registers ≡ word)
      → Reaches z (log_of s.world) (air.Stopped (air.seen_as s.world (Returned word))) k c
  unfolding before_ret
  return_reaches s k c word rel among is =
      let l = leaving z set serves c rel.frame in
      let ret = stands_ret k among in
      let room = words_there z (k + length before_ret) (Plain (BranchReg Ret 30)) ret
      (slice_get_within z.code (k + length before_ret) (Plain (BranchReg Ret 30)) ret) (omega arith) in
      let runs : Runs z k c (length before_ret) l.after =
      straight_runs z set k c l.after before_ret l.does (among_plains z.code k before_ret (stands_before k among)) room in
      leads_on z (log_of s.world) (air.Stopped (air.seen_as s.world (Returned word))) k (length before_ret) c l.after runs
      (reaches_here z (log_of s.world) (air.Stopped (air.seen_as s.world (Returned word))) (k + length before_ret) runs.last
      (ret_proper (k + length before_ret) runs.last ret (whole_alike z runs.last l.after runs.alike l.whole))
      (inl (has_returned s.world word (k + length before_ret) c l.after runs.last l runs.alike
      (runs.small rel.frame.words.pc) ret rel.memory is)))

  pub return_ends : (i : AirInst) (s : State) (targets : List ℕ) (k : ℕ) (c : Machine) → i.op ≡ op.Return → i.operands ≡ returned z.procedure.returns
      → Among z.code k (plains (epilogue z.frame)) → IsRelated z s c → Ends z targets i s k c
  return_ends i s targets k c is os among rel =
      ⊎_elim
      (λ lost. record { next = air.Lost; is = λ junk. ap (air.left targets) (step_lost z.start i s lost junk); reaches = tt })
      (λ (r : ReturnsWord z.start z.procedure.returns i s (c.registers.x 0)). record {
        next = air.Stopped (air.seen_as s.world (Returned r.word));
        is = λ junk. ap (air.left targets) (step_leaves z.start i s r.rs (Over (Returned r.word)) r.reads r.writes r.leaves junk);
        reaches = return_reaches s k c r.word rel among r.is;
      })
      (returns_word z.start i s (ap kind_of is) (c.registers.x 0) (rel.frame.words.x 0) (rel.registers (record { 0 = 0 }) (inl (omega arith)))
      z.procedure.returns os)

  -- ---- Jump and Oops

  pub leaves_to : (i : AirInst) (s : State) (targets_of : List ℕ) (rs : List Read) (n target : ℕ) → words s.homes i.operands ≡ Some rs → targets i.operands ≡ []
      → meaning z.start (operation i) rs s.world ≡ Some (record { results = []; world = s.world; exit = Some (To n) })
      → slice_get targets_of n ≡ Some target → (junk : List ℕ) → air.left targets_of (step (meaning z.start) i s junk) ≡ (air.At target s, junk)
  leaves_to i s targets_of rs n target reads writes leaves there junk =
      ap (air.left targets_of) (step_leaves z.start i s rs (To n) reads writes leaves junk) ∙ ap (λ o. (air.entered o s, junk)) there

  jumps_to : (i : AirInst) (s : State) → i.op ≡ op.Jump
      → meaning z.start (operation i) [] s.world ≡ Some (record { results = []; world = s.world; exit = Some (To 0) })
  unfolding meaning
  jumps_to i s is = rw is refl

  fails : (i : AirInst) (s : State) → i.op ≡ op.Oops → meaning z.start (operation i) [] s.world ≡ None
  unfolding meaning
  fails i s is = rw is refl

  reads_none : (i : AirInst) (s : State) → i.operands ≡ [] → words s.homes i.operands ≡ Some []
  unfolding words
  reads_none i s os = ap (words s.homes) os

  writes_nothing : (i : AirInst) → i.operands ≡ [] → targets i.operands ≡ []
  unfolding targets
  writes_nothing i os = ap targets os

  pub oops_ends : (i : AirInst) (s : State) (targets_of : List ℕ) (k : ℕ) (c : Machine) → i.op ≡ op.Oops → i.operands ≡ [] → Ends z targets_of i s k c
  oops_ends i s targets_of k c is os = record {
    next = air.Lost;
    is = λ junk. ap (air.left targets_of) (step_without z.start i s [] (reads_none i s os) (fails i s is) junk);
    reaches = tt;
  }

  pub jump_ends : (i : AirInst) (s : State) (targets_of : List ℕ) (next k : ℕ) (c : Machine) → i.op ≡ op.Jump → i.operands ≡ [] → 0 < length targets_of
      → get_or targets_of 0 0 < length z.procedure.blocks → Among z.code k (jump_to next (get_or targets_of 0 0))
      → NextAt z next (k + length (jump_to next (get_or targets_of 0 0))) → IsRelated z s c → Ends z targets_of i s k c
  jump_ends i s targets_of next k c is os some within among at rel = record {
    next = air.At (get_or targets_of 0 0) s;
    is = leaves_to i s targets_of [] 0 (get_or targets_of 0 0) (reads_none i s os) (writes_nothing i os) (jumps_to i s is)
        (slice_get-get_or targets_of 0 0 some);
    reaches = jump_reaches z set serves (log_of s.world) s k next (get_or targets_of 0 0) c within among at refl rel;
  }
