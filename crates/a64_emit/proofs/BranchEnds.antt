-- A BranchIf leads to the target that its test chooses.
use Rattle.std.proofs.Common.{◌≡◌, ℕ, ◌+◌, ◌*◌, ◌/◌, ◌%◌, ◌^◌, ◌<◌, ◌≤◌, ◌⊎◌, Bool, true, false, not, ◌&&◌, inl, inr, ⊎_elim, List, [], ◌∷◌, ◌++◌, Option, Some, None, map, length, get_or, refl, sym, ap, ◌∙◌, subst, arith, length-append}
use Rattle.std.specs.Prelude.{nat_eq, slice_get, if◌then◌else◌}
use Rattle.std.specs.Int.{bit_at}
use Rattle.std.proofs.lemmas.Bool.Decides.{nat_tests}
use Rattle.std.proofs.lemmas.Nat.Bits.{bit_at-lt, bit_at_cat_low}
use Rattle.std.proofs.lemmas.Option.{slice_get-get_or, slice_get_within}
use Rattle.b3_base.specs.Observed.{Start}
use Rattle.b3_base.specs.Word.{bits}
use Rattle.b3_base.specs.declared.word.Width.{Width}
use Rattle.b3_base.specs.declared.word.Width.TheVariants.{W32, W64}
use Rattle.a64_inst.specs.Registers.{read}
use Rattle.a64_inst.specs.StepBranch.{is_taken}
use Rattle.a64_inst.specs.Values.{holds}
use Rattle.a64_inst.specs.declared.inst.Cond.{Cond}
use Rattle.a64_inst.specs.declared.inst.Cond.TheVariants.{Eq, Ne, Hs, Lo, Mi, Pl, Vs, Vc, Hi, Ls, Ge, Lt, Gt, Le}
use Rattle.a64_inst.specs.declared.inst.Inst.{Inst}
use Rattle.a64_inst.specs.declared.item.Item.{Item}
use Rattle.a64_inst.specs.declared.state.Flags.{Flags}
use Rattle.air_ir.specs.Blocks as air
use Rattle.air_ir.specs.Forms.{AllFit, Fits, IsHome, IsWord, NoImmediate, OfSum, Takes, Word, BitOf, test_takes}
use Rattle.air_ir.specs.Words.{test}
use Rattle.air_ir.specs.Meaning.{To, meaning, operation, width_of}
use Rattle.air_ir.specs.Operands.{Homes, Read, and_word, targets, word_of, words}
use Rattle.air_ir.specs.Steps.{State}
use Rattle.air_ir.specs.declared.op.AirOp.TheVariants as op
use Rattle.air_ir.specs.declared.op.Test.{Test}
use Rattle.air_ir.specs.declared.op.Test.TheVariants.{Compare, NonZero, Bit}
use Rattle.air_ir.specs.declared.operand.Arg.{Arg}
use Rattle.air_ir.specs.declared.operand.Arg.TheVariants.{At, Imm, Addr, Index, FrameSlot}
use Rattle.air_ir.specs.declared.operand.Home.TheVariants.{Reg, Spill, Tmp}
use Rattle.air_ir.specs.declared.operand.Operand.{Operand}
use Rattle.air_ir.specs.declared.operand.Role.TheVariants.{Use}
use Rattle.air_ir.specs.declared.procedure.AirInst.{AirInst}
use Rattle.air_frame.specs.Frames.{IsFrameOf}
use Rattle.a64_layout.specs.Branch.{opposite_cond, size_in}
use Rattle.a64_layout.specs.Layout.{place}
use Rattle.a64_layout.specs.Machine.{Machine, moved_to}
use Rattle.a64_emit.specs.Switched.{jump_to}
use Rattle.a64_emit.specs.Code.{branch_code, branch_item, branches, compared, fetch, fetch_tested, source_at, source_of, width_at}
use Rattle.a64_code.specs.Computing.{reg_of, testing}
use Rattle.a64_code.specs.Fitting.{IsSummed}
use Rattle.a64_emit.specs.Emitted.{log_of}
use Rattle.a64_code.specs.Places.{plains}
use Rattle.a64_emit.specs.Related.{IsRelated}
use Rattle.a64_emit.specs.Setting.{IsSet, Setting}
use Rattle.a64_code.specs.declared.source.Source.{Source}
use Rattle.a64_emit.proofs.AirSteps.{step_lost, targets_use, words_use}
use Rattle.a64_emit.proofs.Branching.{Goes, NextAt, alike_goes, alike_related, branches_reach, words_there}
use Rattle.a64_emit.proofs.Computes.{does_more, scratch_15, scratch_16, source_most}
use Rattle.a64_emit.proofs.Endings.{Ends, among_plains, leaves_to}
use Rattle.a64_emit.proofs.Fetching.{IsUsable, fetch_word, fetched_keeps, gives_same, source_differs}
use Rattle.a64_emit.proofs.Keeping.{keeps_related, whole_of}
use Rattle.a64_code.proofs.Ops.{Gives, IsRegister, low_is}
use Rattle.a64_emit.proofs.Positions.{Among, among_first, among_rest, length_plains}
use Rattle.a64_emit.proofs.Shapes.{testing_plain}
use Rattle.a64_emit.proofs.Straight.{Does, DoesOne, Runs, does_both, does_one, leads_on, straight_runs}
use Rattle.a64_code.proofs.Tests.{passes, test_flags, testing_is, with_flags}
use Rattle.a64_emit.proofs.Words.{does_safely, touches_nothing}

-- ---- where branches go

not_not : (b : Bool) → b ≡ not (not b)
not_not true = refl
not_not false = refl

opposite_holds : (cond : Cond) (f : Flags) → holds (opposite_cond cond) f ≡ not (holds cond f)
opposite_holds Eq f = refl
opposite_holds Ne f = not_not f.z
opposite_holds Hs f = refl
opposite_holds Lo f = not_not f.c
opposite_holds Mi f = refl
opposite_holds Pl f = not_not f.n
opposite_holds Vs f = refl
opposite_holds Vc f = not_not f.v
opposite_holds Hi f = refl
opposite_holds Ls f = not_not (f.c && not f.z)
opposite_holds Ge f = refl
opposite_holds Lt f = not_not _
opposite_holds Gt f = refl
opposite_holds Le f = not_not _

pub compare_goes : (c : Machine) (cond : Cond) (width : Width) (reg : ℕ) (flags : Flags) → c.registers.flags ≡ flags
    → Goes c (Compare cond) width reg (holds cond flags)
compare_goes c cond width reg flags same true = ap (holds cond) same
compare_goes c cond width reg flags same false = ap (holds (opposite_cond cond)) same ∙ opposite_holds cond flags

pub zero_goes : (c : Machine) (width : Width) (a : Source) (x : ℕ) → IsRegister a → Gives c.registers a width x
    → Goes c NonZero width (reg_of a) (not (nat_eq x 0))
zero_goes c width a x is gives true = ap (is_taken true) (low_is c.registers a width x is gives)
zero_goes c width a x is gives false = ap (is_taken false) (low_is c.registers a width x is gives) ∙ not_not (nat_eq x 0)

low_bit : (width : Width) (v k : ℕ) → k < bits width → bit_at (v % 2 ^ bits width) k ≡ bit_at v k
low_bit W32 v k lt = let e : v / 2 ^ 32 * 2 ^ 32 + v % 2 ^ 32 ≡ v = omega arith in sym (bit_at_cat_low (v / 2 ^ 32) 32 (v % 2 ^ 32) k lt)
    ∙ ap (λ n. bit_at n k) e
low_bit W64 v k lt = let e : v / 2 ^ 64 * 2 ^ 64 + v % 2 ^ 64 ≡ v = omega arith in sym (bit_at_cat_low (v / 2 ^ 64) 64 (v % 2 ^ 64) k lt)
    ∙ ap (λ n. bit_at n k) e

bit_taken : (b : ℕ) → b < 2 → is_taken true b ≡ nat_eq b 1
bit_taken b lt = grind (arith, nat_tests)

bit_not_taken : (b : ℕ) → b < 2 → is_taken false b ≡ not (nat_eq b 1)
bit_not_taken b lt = grind (arith, nat_tests)

pub bit_goes : (c : Machine) (width : Width) (a : Source) (k x : ℕ) → k < bits width → IsRegister a → Gives c.registers a width x
    → Goes c (Bit k) width (reg_of a) (nat_eq (bit_at x k) 1)
bit_goes c width a k x lt is gives taken =
    let same : bit_at (read c.registers (reg_of a)) k ≡ bit_at x k =
    sym (low_bit width (read c.registers (reg_of a)) k lt) ∙ ap (λ n. bit_at n k) (low_is c.registers a width x is gives) in
    ap (is_taken taken) same ∙ either taken
  where
    either : (t : Bool) → is_taken t (bit_at x k) ≡ (if t then nat_eq (bit_at x k) 1 else not (nat_eq (bit_at x k) 1))
    either true = bit_taken (bit_at x k) (bit_at-lt x k)
    either false = bit_not_taken (bit_at x k) (bit_at-lt x k)

-- ---- what is done before the branches

-- instructions lead to a machine by which the branches of a test go
pub record Readied (z : Setting) (s : State) (c : Machine) (insts : List Inst) (test : Test) (width : Width) (reg : ℕ) (passes : Bool) : Type 0 where
  pub after : Machine
  pub does : Does z c insts after
  pub related : IsRelated z s after
  pub goes : Goes after test width reg passes

-- the words of a test and where it leads
pub record Asked (z : Setting) (i : AirInst) (s : State) (c : Machine) (test : Test) : Type 0 where
  pub rs : List Read
  pub reads : words s.homes i.operands ≡ Some rs
  pub writes : targets i.operands ≡ []
  pub passes : Bool
  pub leaves : meaning z.start (operation i) rs s.world ≡ Some (record { results = []; world = s.world; exit = Some (To (if passes then 0 else 1)) })
  pub readied : Readied z s c (fetch_tested z.frame test i.operands ++ compared test i.operands) test (width_at i.operands 0)
      (reg_of (source_at i.operands 0 15)) passes

-- a home is a register once it is fetched
pub home_register : (z : Setting) (arg : Arg) (scratch : ℕ) → IsUsable z arg → IsHome arg → IsRegister (source_of scratch arg)
home_register z (At (Reg r)) scratch usable is = tt
home_register z (At (Spill n)) scratch usable is = tt
home_register z (At (Tmp n)) scratch usable is = absurd usable
home_register z (Imm word) scratch usable is = absurd is
home_register z (Addr base offset) scratch usable is = absurd usable
home_register z (Index base index shift) scratch usable is = absurd usable
home_register z (FrameSlot n) scratch usable is = absurd usable

pub word_home : (width : Width) (arg : Arg) → IsWord NoImmediate width arg → IsHome arg
word_home width (At home) is = tt
word_home width (Imm word) is = absurd is.1
word_home width (Addr base offset) is = is
word_home width (Index base index shift) is = is
word_home width (FrameSlot n) is = is

pub word_summed : (z : Setting) (width : Width) (arg : Arg) (scratch : ℕ) → IsUsable z arg → IsWord OfSum width arg → IsSummed width (source_of scratch arg)
word_summed z width (At (Reg r)) scratch usable is = tt
word_summed z width (At (Spill n)) scratch usable is = tt
word_summed z width (At (Tmp n)) scratch usable is = absurd usable
word_summed z width (Imm word) scratch usable is = is
word_summed z width (Addr base offset) scratch usable is = absurd usable
word_summed z width (Index base index shift) scratch usable is = absurd usable
word_summed z width (FrameSlot n) scratch usable is = absurd usable

-- the operands of tests
pub two_there : (cond : Cond) (width : Width) (os : List Operand) → AllFit (test_takes (Compare cond) width) os
    → (a : Operand) × (b : Operand) × (os ≡ a ∷ b ∷ []) × Fits (Word width NoImmediate) a × Fits (Word width OfSum) b
unfolding AllFit
two_there cond width [] fits = absurd fits
two_there cond width (a ∷ []) fits = absurd fits.1
two_there cond width (a ∷ b ∷ []) fits = (a, b, refl, fits.0, fits.1.0)
two_there cond width (a ∷ b ∷ o ∷ os) fits = absurd fits.1.1

pub one_there : (t : Takes) (os : List Operand) → AllFit (t ∷ []) os → (a : Operand) × (os ≡ a ∷ []) × Fits t a
unfolding AllFit
one_there t [] fits = absurd fits
one_there t (a ∷ []) fits = (a, refl, fits.0)
one_there t (a ∷ b ∷ os) fits = absurd fits.1

-- a word that is read in front of others
pub read_first : (homes : Homes) (i : AirInst) (a : Operand) (os : List Operand) → i.operands ≡ a ∷ os → a.role ≡ Use
    → words homes i.operands ≡ and_word a.width (word_of homes a.width a.arg) (words homes os)
read_first homes i a os operands role = ap (words homes) operands ∙ words_use homes a os role

none_read : (homes : Homes) → words homes [] ≡ Some []
unfolding words
none_read homes = refl

none_written : targets [] ≡ []
unfolding targets
none_written = refl

pub one_read : (homes : Homes) (i : AirInst) (a : Operand) → i.operands ≡ a ∷ [] → a.role ≡ Use
    → (words homes i.operands ≡ None) ⊎ ((x : ℕ) × (word_of homes a.width a.arg ≡ Some x) × (words homes i.operands ≡ Some ((a.width, x) ∷ [])))
one_read homes i a operands role = of_word (word_of homes a.width a.arg) refl
  where
    of_word : (o : Option ℕ) → word_of homes a.width a.arg ≡ o
        → (words homes i.operands ≡ None) ⊎ ((x : ℕ) × (word_of homes a.width a.arg ≡ Some x) × (words homes i.operands ≡ Some ((a.width, x) ∷ [])))
    of_word None is = inl (read_first homes i a [] operands role ∙ ap (λ o. and_word a.width o (words homes [])) is)
    of_word (Some x) is = inr (
      x,
      is,
      read_first homes i a [] operands role ∙ ap (λ o. and_word a.width o (words homes [])) is
          ∙ ap (and_word a.width (Some x)) (none_read homes),
    )

pub one_writes : (i : AirInst) (a : Operand) → i.operands ≡ a ∷ [] → a.role ≡ Use → targets i.operands ≡ []
one_writes i a operands role = ap targets operands ∙ targets_use a [] role ∙ none_written

two_read : (homes : Homes) (i : AirInst) (a b : Operand) → i.operands ≡ a ∷ b ∷ [] → a.role ≡ Use → b.role ≡ Use
    → (words homes i.operands ≡ None)
    ⊎ ((x : ℕ) × (y : ℕ) × (word_of homes a.width a.arg ≡ Some x) × (word_of homes b.width b.arg ≡ Some y)
    × (words homes i.operands ≡ Some ((a.width, x) ∷ (b.width, y) ∷ [])))
two_read homes i a b operands role_a role_b = of_words (word_of homes a.width a.arg) (word_of homes b.width b.arg) refl refl
  where
    reads : words homes i.operands ≡ and_word a.width (word_of homes a.width a.arg) (and_word b.width (word_of homes b.width b.arg) (Some []))
    reads = read_first homes i a (b ∷ []) operands role_a ∙ ap (and_word a.width (word_of homes a.width a.arg)) (words_use homes b [] role_b
        ∙ ap (and_word b.width (word_of homes b.width b.arg)) (none_read homes))

    of_words : (o p : Option ℕ) → word_of homes a.width a.arg ≡ o → word_of homes b.width b.arg ≡ p
        → (words homes i.operands ≡ None)
        ⊎ ((x : ℕ) × (y : ℕ) × (word_of homes a.width a.arg ≡ Some x) × (word_of homes b.width b.arg ≡ Some y)
        × (words homes i.operands ≡ Some ((a.width, x) ∷ (b.width, y) ∷ [])))
    of_words None p is_a is_b = inl (reads ∙ ap (λ o. and_word a.width o (and_word b.width (word_of homes b.width b.arg) (Some []))) is_a)
    of_words (Some x) None is_a is_b = inl (reads ∙ ap (λ o. and_word a.width (word_of homes a.width a.arg) (and_word b.width o (Some []))) is_b
        ∙ ap (λ o. and_word a.width o None) is_a)
    of_words (Some x) (Some y) is_a is_b = inr (
      x,
      y,
      is_a,
      is_b,
      reads
          ∙ ap (λ o. and_word a.width o (and_word b.width (word_of homes b.width b.arg) (Some []))) is_a
          ∙ ap (λ o. and_word a.width (Some x) (and_word b.width o (Some []))) is_b,
    )

-- each operand may be fetched
abbrev pub AllUsable : Setting → List Operand → Type 0
AllUsable z os = (j : ℕ) (o : Operand) → slice_get os j ≡ Some o → IsUsable z o.arg

branches_to : (start : Start) (i : AirInst) (s : State) (t : Test) (rs : List Read) (p : Bool) (rest : List ℕ) → i.op ≡ op.BranchIf t
    → test t (width_of rs) (map (λ (r : Read). r.1) rs) ≡ Some (p, rest)
    → meaning start (operation i) rs s.world ≡ Some (record { results = []; world = s.world; exit = Some (To (if p then 0 else 1)) })
unfolding meaning
branches_to start i s t rs p rest is e = rw (is, e) refl

module _ (z : Setting) (set : IsSet z) (serves : IsFrameOf z.procedure z.frame) where
  pub compare_readied : (s : State) (c : Machine) (cond : Cond) (a b : Operand) (x y : ℕ) → IsRelated z s c → IsUsable z a.arg → IsUsable z b.arg
      → IsRegister (source_of 15 a.arg) → IsSummed a.width (source_of 16 b.arg) → word_of s.homes a.width a.arg ≡ Some x
      → word_of s.homes a.width b.arg ≡ Some y
      → Readied z s c (fetch_tested z.frame (Compare cond) (a ∷ b ∷ []) ++ compared (Compare cond) (a ∷ b ∷ [])) (Compare cond) a.width
      (reg_of (source_of 15 a.arg))
      (passes (Compare cond) a.width x y)
  compare_readied s c cond a b x y rel usable_a usable_b is_a fits reads_a reads_b =
      let first = fetch_word z set serves s c 15 a.arg a.width x rel usable_a scratch_15 reads_a in
      let m : Machine = first.0.after in
      let rel_m = keeps_related z s c m (fetched_keeps z c (fetch z.frame 15 a.arg) 15 scratch_15 first.0) rel in
      let second = fetch_word z set serves s m 16 b.arg a.width y rel_m usable_b scratch_16 reads_b in
      let n : Machine = second.0.after in
      let rel_n = keeps_related z s m n (fetched_keeps z m (fetch z.frame 16 b.arg) 16 scratch_16 second.0) rel_m in
      let inst : Inst = testing (Compare cond) a.width (source_of 15 a.arg) (source_of 16 b.arg) in
      let d : Machine = record { registers = with_flags n.registers (test_flags (Compare cond) a.width x y); memory = n.memory } in
      let plain = testing_plain (Compare cond) a.width (source_of 15 a.arg) (source_of 16 b.arg) (source_most z 15 a.arg (omega arith) usable_a)
      (source_most z 16 b.arg (omega arith) usable_b) fits in
      let gives_a : Gives n.registers (source_of 15 a.arg) a.width x =
      gives_same m.registers n.registers (source_of 15 a.arg) a.width x
      (λ r is. second.0.others r (source_differs z 15 16 a.arg scratch_16 (λ e. omega arith) usable_a r is)) first.1 in
      let one : DoesOne z n inst d = does_safely z n d inst (whole_of z set serves n rel_n.frame)
      (touches_nothing n inst (λ pc. plain.touches (moved_to pc n).registers)) refl
      (λ pc. testing_is (moved_to pc n).registers n.memory (Compare cond) a.width (source_of 15 a.arg) (source_of 16 b.arg) x y is_a
      (gives_same n.registers (moved_to pc n).registers (source_of 15 a.arg) a.width x (λ r is. refl) gives_a)
      (gives_same n.registers (moved_to pc n).registers (source_of 16 b.arg) a.width y (λ r is. refl) second.1) fits) in
      record {
        after = d;
        does = does_both z c n d (fetch z.frame 15 a.arg ++ fetch z.frame 16 b.arg) (inst ∷ [])
            (does_both z c m n (fetch z.frame 15 a.arg) (fetch z.frame 16 b.arg) first.0.does second.0.does) (does_one z n d inst one);
        related = keeps_related z s n d (record {
          sp = refl;
          memory = refl;
          x = λ r kept. refl;
          words = record { x = rel_n.frame.words.x; sp = rel_n.frame.words.sp; pc = rel_n.frame.words.pc };
        }) rel_n;
        goes = compare_goes d cond a.width (reg_of (source_of 15 a.arg)) (test_flags (Compare cond) a.width x y) refl;
      }

  -- a word that is fetched alone
  pub one_readied : (s : State) (c : Machine) (t : Test) (a : Operand) (x : ℕ) (p : Bool) → IsRelated z s c → IsUsable z a.arg
      → word_of s.homes a.width a.arg ≡ Some x
      → ((m : Machine) → Gives m.registers (source_of 15 a.arg) a.width x → Goes m t a.width (reg_of (source_of 15 a.arg)) p)
      → Readied z s c ((fetch z.frame 15 a.arg ++ []) ++ []) t a.width (reg_of (source_of 15 a.arg)) p
  one_readied s c t a x p rel usable reads goes =
      let first = fetch_word z set serves s c 15 a.arg a.width x rel usable scratch_15 reads in
      let m : Machine = first.0.after in
      record {
        after = m;
        does = does_more z c m (fetch z.frame 15 a.arg ++ []) (does_more z c m (fetch z.frame 15 a.arg) first.0.does);
        related = keeps_related z s c m (fetched_keeps z c (fetch z.frame 15 a.arg) 15 scratch_15 first.0) rel;
        goes = goes m first.1;
      }

  -- the code of operands that are these
  abbrev Ready : State → Machine → Test → List Operand → Bool → Type 0
  Ready s c t os p = Readied z s c (fetch_tested z.frame t os ++ compared t os) t (width_at os 0) (reg_of (source_at os 0 15)) p

  pub asked : (i : AirInst) (s : State) (c : Machine) (t : Test) (width : Width) → i.op ≡ op.BranchIf t → AllFit (test_takes t width) i.operands
      → AllUsable z i.operands
      → IsRelated z s c → (words s.homes i.operands ≡ None) ⊎ Asked z i s c t
  asked i s c (Compare cond) width is fits usable rel =
      let os = two_there cond width i.operands fits in
      let a : Operand = os.0 in
      let b : Operand = os.1 in
      let usable_a : IsUsable z a.arg = usable 0 a (ap (λ (xs : List Operand). slice_get xs 0) os.2) in
      let usable_b : IsUsable z b.arg = usable 1 b (ap (λ (xs : List Operand). slice_get xs 1) os.2) in
      let same : b.width ≡ a.width = os.4.1 ∙ sym os.3.1 in
      let is_a = home_register z a.arg 15 usable_a (word_home width a.arg os.3.2) in
      let summed : IsSummed a.width (source_of 16 b.arg) =
      subst (λ w. IsSummed w (source_of 16 b.arg)) (sym os.3.1) (word_summed z width b.arg 16 usable_b os.4.2) in
      ⊎_elim
      (λ lost. inl lost)
      (λ (found : (x : ℕ) × (y : ℕ) × (word_of s.homes a.width a.arg ≡ Some x) × (word_of s.homes b.width b.arg ≡ Some y)
      × (words s.homes i.operands ≡ Some ((a.width, x) ∷ (b.width, y) ∷ []))).
      inr (record {
        rs = (a.width, found.0) ∷ (b.width, found.1) ∷ [];
        reads = found.4;
        writes = ap targets os.2 ∙ targets_use a (b ∷ []) os.3.0 ∙ targets_use b [] os.4.0 ∙ none_written;
        passes = passes (Compare cond) a.width found.0 found.1;
        leaves = branches_to z.start i s (Compare cond) ((a.width, found.0) ∷ (b.width, found.1) ∷ []) (passes (Compare cond) a.width found.0 found.1)
            [] is refl;
        readied = subst (λ xs. Ready s c (Compare cond) xs (passes (Compare cond) a.width found.0 found.1)) (sym os.2)
            (compare_readied s c cond a b found.0 found.1 rel usable_a usable_b is_a summed found.2
            (subst (λ w. word_of s.homes w b.arg ≡ Some found.1) same found.3));
      }))
      (two_read s.homes i a b os.2 os.3.0 os.4.0)
  asked i s c NonZero width is fits usable rel =
      let os = one_there (Word width NoImmediate) i.operands fits in
      let a : Operand = os.0 in
      let usable_a : IsUsable z a.arg = usable 0 a (ap (λ (xs : List Operand). slice_get xs 0) os.1) in
      let is_a = home_register z a.arg 15 usable_a (word_home width a.arg os.2.2) in
      ⊎_elim
      (λ lost. inl lost)
      (λ (found : (x : ℕ) × (word_of s.homes a.width a.arg ≡ Some x) × (words s.homes i.operands ≡ Some ((a.width, x) ∷ []))). inr (record {
        rs = (a.width, found.0) ∷ [];
        reads = found.2;
        writes = one_writes i a os.1 os.2.0;
        passes = not (nat_eq found.0 0);
        leaves = branches_to z.start i s NonZero ((a.width, found.0) ∷ []) (not (nat_eq found.0 0)) [] is refl;
        readied = subst (λ xs. Ready s c NonZero xs (not (nat_eq found.0 0))) (sym os.1)
            (one_readied s c NonZero a found.0 (not (nat_eq found.0 0)) rel usable_a found.1
            (λ m gives. zero_goes m a.width (source_of 15 a.arg) found.0 is_a gives));
      }))
      (one_read s.homes i a os.1 os.2.0)
  asked i s c (Bit k) width is fits usable rel =
      let os = one_there (BitOf width k) i.operands fits in
      let a : Operand = os.0 in
      let usable_a : IsUsable z a.arg = usable 0 a (ap (λ (xs : List Operand). slice_get xs 0) os.1) in
      let is_a = home_register z a.arg 15 usable_a os.2.2 in
      let within : k < bits a.width = subst (λ w. k < bits w) (sym os.2.1) os.2.3 in
      ⊎_elim
      (λ lost. inl lost)
      (λ (found : (x : ℕ) × (word_of s.homes a.width a.arg ≡ Some x) × (words s.homes i.operands ≡ Some ((a.width, x) ∷ []))). inr (record {
        rs = (a.width, found.0) ∷ [];
        reads = found.2;
        writes = one_writes i a os.1 os.2.0;
        passes = nat_eq (bit_at found.0 k) 1;
        leaves = branches_to z.start i s (Bit k) ((a.width, found.0) ∷ []) (nat_eq (bit_at found.0 k) 1) [] is refl;
        readied = subst (λ xs. Ready s c (Bit k) xs (nat_eq (bit_at found.0 k) 1)) (sym os.1)
            (one_readied s c (Bit k) a found.0 (nat_eq (bit_at found.0 k) 1) rel usable_a found.1
            (λ m gives. bit_goes m a.width (source_of 15 a.arg) k found.0 within is_a gives));
      }))
      (one_read s.homes i a os.1 os.2.0)

-- ---- the block's end

pub branch_size : (long : Bool) (test : Test) (passes : Bool) (width : Width) (reg label : ℕ) → 1 ≤ size_in long (Some (branch_item test passes width reg label))
branch_size true (Compare cond) passes width reg label = omega arith
branch_size false (Compare cond) passes width reg label = omega arith
branch_size true NonZero passes width reg label = omega arith
branch_size false NonZero passes width reg label = omega arith
branch_size true (Bit bit) passes width reg label = omega arith
branch_size false (Bit bit) passes width reg label = omega arith

-- words stand where branches do
branches_words : (z : Setting) (t : Test) (width : Width) (reg k next then_label else_label : ℕ)
    → Among z.code k (branches t width reg next then_label else_label)
    → place z.code z.long k < place z.code z.long (length z.code)
branches_words z t width reg k next then_label else_label among =
    elim (nat_eq then_label next) as (λ b. Among z.code k
    (if b then branch_item t false width reg else_label ∷ [] else branch_item t true width reg then_label ∷ jump_to next else_label)
    → place z.code z.long k < place z.code z.long (length z.code)) [
      | true ↦ λ items. of_item (branch_item t false width reg else_label) (items 0 (branch_item t false width reg else_label) refl)
          (branch_size (z.long k) t false width reg else_label)
      | false ↦ λ items. of_item (branch_item t true width reg then_label) (items 0 (branch_item t true width reg then_label) refl)
          (branch_size (z.long k) t true width reg then_label)
    ] among
  where
    of_item : (item : Item) → slice_get z.code (k + 0) ≡ Some item → 1 ≤ size_in (z.long k) (Some item)
        → place z.code z.long k < place z.code z.long (length z.code)
    of_item item there size =
        let here : slice_get z.code k ≡ Some item = ap (slice_get z.code) (omega arith) ∙ there in
        words_there z k item here (slice_get_within z.code k item here) size

chosen_target : (targets_of : List ℕ) (p : Bool) → length targets_of ≡ 2
    → slice_get targets_of (if p then 0 else 1) ≡ Some (if p then get_or targets_of 0 0 else get_or targets_of 1 0)
chosen_target targets_of true two = slice_get-get_or targets_of 0 0 (omega arith)
chosen_target targets_of false two = slice_get-get_or targets_of 1 0 (omega arith)

module _ (z : Setting) (set : IsSet z) (serves : IsFrameOf z.procedure z.frame) where
  pub branch_ends : (i : AirInst) (s : State) (targets_of : List ℕ) (next k : ℕ) (c : Machine) (t : Test) (width : Width) → i.op ≡ op.BranchIf t
      → AllFit (test_takes t width) i.operands → AllUsable z i.operands → length targets_of ≡ 2
      → get_or targets_of 0 0 < length z.procedure.blocks → get_or targets_of 1 0 < length z.procedure.blocks
      → Among z.code k (branch_code z.frame next targets_of t i.operands) → NextAt z next (k + length (branch_code z.frame next targets_of t i.operands))
      → IsRelated z s c → Ends z targets_of i s k c
  branch_ends i s targets_of next k c t width is fits usable two within_then within_else among at rel =
      let insts : List Inst = fetch_tested z.frame t i.operands ++ compared t i.operands in
      let reg : ℕ = reg_of (source_at i.operands 0 15) in
      let first : ℕ = get_or targets_of 0 0 in
      let second : ℕ = get_or targets_of 1 0 in
      let items : List Item = branches t (width_at i.operands 0) reg next first second in
      let count = length_plains insts in
      let total = length-append (plains insts) items in
      let behind : Among z.code (k + length insts) items =
      subst (λ n. Among z.code (k + n) items) count (among_rest z.code k (plains insts) items among) in
      let e : k + length (plains insts ++ items) ≡ k + length insts + length items = omega arith in
      let next_at : NextAt z next (k + length insts + length items) = subst (λ n. NextAt z next n) e at in
      ⊎_elim
      (λ lost. record { next = air.Lost; is = λ junk. ap (air.left targets_of) (step_lost z.start i s lost junk); reaches = tt })
      (λ (q : Asked z i s c t).
      let runs : Runs z k c (length insts) q.readied.after = straight_runs z set k c q.readied.after insts q.readied.does
      (among_plains z.code k insts (among_first z.code k (plains insts) items among))
      (branches_words z t (width_at i.operands 0) reg (k + length insts) next first second behind) in
      let small = runs.small rel.frame.words.pc in
      record {
        next = air.At (if q.passes then first else second) s;
        is = leaves_to z set serves i s targets_of q.rs (if q.passes then 0 else 1) (if q.passes then first else second) q.reads q.writes
            q.leaves (chosen_target targets_of q.passes two);
        reaches = leads_on z (log_of s.world) (air.At (if q.passes then first else second) s) k (length insts) c q.readied.after runs
            (branches_reach z set serves (log_of s.world) s t (width_at i.operands 0) reg (k + length insts) next first second runs.last q.passes within_then
            within_else behind next_at
            (alike_goes q.readied.after runs.last t (width_at i.operands 0) reg q.passes runs.alike q.readied.goes) refl
            (alike_related z s q.readied.after runs.last runs.alike small q.readied.related));
      })
      (asked z set serves i s c t width is fits usable rel)
