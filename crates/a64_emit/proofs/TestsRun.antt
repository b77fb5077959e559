-- SetIf and SelectIf.
use Rattle.std.proofs.Common.{◌≡◌, ℕ, ◌+◌, ◌≤◌, Bool, true, false, List, [], ◌∷◌, ◌++◌, Some, None, refl, sym, ap, ◌∙◌, subst, arith}
use Rattle.std.specs.Prelude.{not, if◌then◌else◌, ◌&&◌}
use Rattle.std.specs.Bool.{beq}
use Rattle.b3_base.specs.declared.word.Width.{Width}
use Rattle.b3_base.specs.declared.word.Width.TheVariants.{W32}
use Rattle.b3_meaning.specs.Opcodes.{truth}
use Rattle.a64_inst.specs.Step.{Bytes, Registers, step_of, goes_on, low_bits, put, read, select}
use Rattle.a64_inst.specs.StepData.{read_low}
use Rattle.a64_inst.specs.Values.{holds}
use Rattle.a64_inst.specs.declared.inst.Cond.{Cond}
use Rattle.a64_inst.specs.declared.inst.Cond.TheVariants.{Eq, Ne, Hs, Lo, Mi, Pl, Vs, Vc, Hi, Ls, Ge, Lt, Gt, Le}
use Rattle.a64_inst.specs.declared.inst.Inst.{Inst}
use Rattle.a64_inst.specs.declared.inst.Inst.TheVariants.{Select}
use Rattle.a64_inst.specs.declared.state.Flags.{Flags}
use Rattle.a64_layout.specs.Branch.{opposite_cond}
use Rattle.a64_layout.specs.Machine.{Machine, moved_to}
use Rattle.air_ir.specs.Meaning.{meaning}
use Rattle.air_ir.specs.Operands.{Holds, word_of}
use Rattle.air_ir.specs.Steps.{Goes, State, step}
use Rattle.air_ir.specs.declared.op.Test.{Test}
use Rattle.air_ir.specs.declared.op.Test.TheVariants.{Compare, NonZero, Bit}
use Rattle.air_ir.specs.declared.operand.Arg.{Arg}
use Rattle.air_ir.specs.declared.operand.Arg.TheVariants.{At}
use Rattle.air_ir.specs.declared.operand.Home.{Home}
use Rattle.air_ir.specs.declared.operand.Operand.{Operand}
use Rattle.air_ir.specs.declared.procedure.AirInst.{AirInst}
use Rattle.air_frame.specs.Frames.{IsFrameOf}
use Rattle.a64_emit.specs.Code.{fetch, inst_code, put_result, result_reg, source_of}
use Rattle.a64_code.specs.Computing.{condition, reg_of, testing}
use Rattle.a64_code.specs.Fitting.{IsTested}
use Rattle.a64_emit.specs.Related.{IsRelated}
use Rattle.a64_emit.specs.Setting.{IsSet, Setting}
use Rattle.a64_code.specs.declared.source.Source.{Source}
use Rattle.a64_emit.proofs.AirSteps.{IsWritten}
use Rattle.a64_emit.proofs.Computes.{Carried, does_more, ends_by, fetch_two, le_more, scratch_15, source_most}
use Rattle.a64_emit.proofs.Fetching.{IsPlaceFor, IsUsable, fetch_word, fetched_keeps, result_most}
use Rattle.a64_emit.proofs.Keeping.{keeps_related, whole_of}
use Rattle.a64_code.proofs.Ops.{Gives, IsRegister, gives-small, low_is, puts_of}
use Rattle.a64_emit.proofs.Shapes.{testing_plain}
use Rattle.a64_emit.proofs.Storing.{with_home}
use Rattle.a64_emit.proofs.Straight.{Does, DoesOne, does_both, does_first}
use Rattle.a64_code.proofs.Tests.{GivesSecond, condition_holds, passes, test_flags, testing_is, with_flags}
use Rattle.a64_emit.proofs.Words.{does_safely, touches_nothing}

-- ---- conditions

not_not : (b : Bool) → b ≡ not (not b)
not_not true = refl
not_not false = refl

pub opposite_holds : (c : Cond) (f : Flags) → holds (opposite_cond c) f ≡ not (holds c f)
opposite_holds Eq f = refl
opposite_holds Ne f = not_not f.z
opposite_holds Hs f = refl
opposite_holds Lo f = not_not f.c
opposite_holds Mi f = refl
opposite_holds Pl f = not_not f.n
opposite_holds Vs f = refl
opposite_holds Vc f = not_not f.v
opposite_holds Hi f = refl
opposite_holds Ls f = not_not (f.c && not f.z)
opposite_holds Ge f = refl
opposite_holds Lt f = not_not (beq f.n f.v)
opposite_holds Gt f = refl
opposite_holds Le f = not_not (not f.z && beq f.n f.v)

-- ---- CSEL and CSINC

module _ (s : Registers) (m : Bytes) (rd : ℕ) (le : rd ≤ 30) where
  select_is : (width : Width) (a b : Source) (u v : ℕ) (c : Cond) (p : Bool) → IsRegister a → IsRegister b → Gives s a width u → Gives s b width v
      → holds c s.flags ≡ p
      → step_of (Select width false rd (reg_of a) (reg_of b) c) s m ≡ goes_on (put s rd (if p then u else v)) m
  unfolding step_of select
  select_is width a b u v c p is_a is_b gives_a gives_b e =
      let none : read s (reg_of b) + 0 ≡ read s (reg_of b) = omega arith in
      puts_of s m rd _ (if p then u else v) le
      (ap (λ q. if q then read_low width s (reg_of a) else low_bits width (read s (reg_of b) + 0)) e
      ∙ ap (λ w. if p then w else low_bits width (read s (reg_of b) + 0)) (low_is s a width u is_a gives_a)
      ∙ ap (λ w. if p then u else low_bits width w) none
      ∙ ap (λ w. if p then u else w) (low_is s b width v is_b gives_b))

  set_value : (p : Bool) → (if not p then 0 else 1) ≡ truth p
  set_value true = refl
  set_value false = refl

  set_is : (c : Cond) (p : Bool) → holds c s.flags ≡ p
      → step_of (Select W32 true rd 31 31 (opposite_cond c)) s m ≡ goes_on (put s rd (truth p)) m
  unfolding step_of select
  set_is c p e =
      puts_of s m rd _ (truth p) le
      (ap (λ q. if q then 0 else 1) (opposite_holds c s.flags ∙ ap not e) ∙ set_value p)

-- a machine with other flags
abbrev pub flagged : Machine → Flags → Machine
flagged m flags = record { registers = with_flags m.registers flags; memory = m.memory }

second_at : (m : Machine) (pc : ℕ) (t : Test) (b : Source) (width : Width) (y : ℕ) → GivesSecond t m.registers b width y
    → GivesSecond t (moved_to pc m).registers b width y
second_at m pc (Compare cond) b width y gives = gives
second_at m pc NonZero b width y gives = tt
second_at m pc (Bit k) b width y gives = tt

module _ (z : Setting) (set : IsSet z) (serves : IsFrameOf z.procedure z.frame) where
  -- the words of a test are fetched
  pub record Ready (s : State) (c : Machine) (insts : List Inst) (t : Test) (a b : Source) (width : Width) (x y : ℕ) : Type 0 where
    pub after : Machine
    pub does : Does z c insts after
    pub related : IsRelated z s after
    pub gives_a : Gives after.registers a width x
    pub gives_b : GivesSecond t after.registers b width y

  pub ready_two : (s : State) (c : Machine) (cond : Cond) (a b : Arg) (width : Width) (x y : ℕ) → IsRelated z s c → IsUsable z a → IsUsable z b
      → word_of s.homes width a ≡ Some x → word_of s.homes width b ≡ Some y
      → Ready s c (fetch z.frame 15 a ++ fetch z.frame 16 b) (Compare cond) (source_of 15 a) (source_of 16 b) width x y
  ready_two s c cond a b width x y rel usable_a usable_b reads_a reads_b =
      let two = fetch_two z set serves s c a b width width x y rel usable_a usable_b reads_a reads_b in
      record {
        after = two.after;
        does = does_both z c two.between two.after (fetch z.frame 15 a) (fetch z.frame 16 b) two.first two.second;
        related = two.related;
        gives_a = two.gives_a;
        gives_b = two.gives_b;
      }

  pub ready_one : (s : State) (c : Machine) (t : Test) (a : Arg) (b : Source) (width : Width) (x : ℕ) → IsRelated z s c → IsUsable z a
      → ((r : Registers) → GivesSecond t r b width 0) → word_of s.homes width a ≡ Some x
      → Ready s c (fetch z.frame 15 a ++ []) t (source_of 15 a) b width x 0
  ready_one s c t a b width x rel usable second reads =
      let first = fetch_word z set serves s c 15 a width x rel usable scratch_15 reads in
      record {
        after = first.0.after;
        does = does_more z c first.0.after (fetch z.frame 15 a) first.0.does;
        related = keeps_related z s c first.0.after (fetched_keeps z c (fetch z.frame 15 a) 15 scratch_15 first.0) rel;
        gives_a = first.1;
        gives_b = second first.0.after.registers;
      }

  flagged_related : (s : State) (m : Machine) (flags : Flags) → IsRelated z s m → IsRelated z s (flagged m flags)
  flagged_related s m flags rel =
      keeps_related z s m (flagged m flags) (record {
        sp = refl;
        memory = refl;
        x = λ r kept. refl;
        words =
            record { x = rel.frame.words.x; sp = rel.frame.words.sp; pc = rel.frame.words.pc };
      }) rel

  -- the test sets its flags
  pub tests_one : (s : State) (m : Machine) (t : Test) (a b : Source) (width : Width) (x y : ℕ) → IsRelated z s m → IsRegister a → Gives m.registers a width x
      → GivesSecond t m.registers b width y → IsTested t width b → reg_of a ≤ 31 → reg_of b ≤ 31
      → DoesOne z m (testing t width a b) (flagged m (test_flags t width x y))
  tests_one s m t a b width x y rel is_a gives_a gives_b fits le_a le_b =
      let plain = testing_plain t width a b le_a le_b fits in
      does_safely z m (flagged m (test_flags t width x y)) (testing t width a b) (whole_of z set serves m rel.frame)
      (touches_nothing m (testing t width a b) (λ pc. plain.touches (moved_to pc m).registers)) refl
      (λ pc. testing_is (moved_to pc m).registers m.memory t width a b x y is_a gives_a (second_at m pc t b width y gives_b) fits)

  -- ---- SetIf

  pub set_end : (i : AirInst) (s : State) (c : Machine) (t : Test) (insts : List Inst) (a b : Source) (width : Width) (x y : ℕ) (d : Operand) (home : Home)
      → (ready : Ready s c insts t a b width x y) → IsWritten d home → IsPlaceFor z home → IsRegister a → IsTested t width b → reg_of a ≤ 31 → reg_of b ≤ 31
      → inst_code z.frame i.op i.operands
      ≡ insts ++ testing t width a b ∷ Select W32 true (result_reg d.arg) 31 31 (opposite_cond (condition t)) ∷ put_result z.frame (result_reg d.arg) d.arg
      → ((junk : List ℕ) → step (meaning z.start) i s junk ≡ (Goes None (with_home s home (Holds d.width (truth (passes t width x y)))), junk))
      → Carried z i s c
  set_end i s c t insts a b width x y d home ready is may is_a fits le_a le_b code steps =
      let m : Machine = ready.after in
      let f : Machine = flagged m (test_flags t width x y) in
      let rd : ℕ = result_reg (At home) in
      let one = tests_one s m t a b width x y ready.related is_a ready.gives_a ready.gives_b fits le_a le_b in
      let says = condition_holds t width b x y (gives-small m.registers a width x ready.gives_a) fits in
      let inst : Inst = Select W32 true rd 31 31 (opposite_cond (condition t)) in
      let last = ends_by z set serves s f inst home d.width (truth (passes t width x y)) (flagged_related s m (test_flags t width x y) ready.related) may
      (record { fields = (le_more rd (result_most z set serves home may).0, omega arith, omega arith); touches = λ r. refl })
      (λ pc. set_is (moved_to pc f).registers f.memory rd (result_most z set serves home may).0 (condition t) (passes t width x y) says) in
      record {
        next = with_home s home (Holds d.width (truth (passes t width x y)));
        after = last.after;
        steps = steps;
        does = subst (λ insts. Does z c insts last.after) (sym code)
            (subst (λ arg. Does z c (insts ++ testing t width a b ∷ Select W32 true (result_reg arg) 31 31
            (opposite_cond (condition t)) ∷ put_result z.frame (result_reg arg) arg) last.after) (sym is.arg)
            (does_both z c m last.after insts _ ready.does (does_first z m f last.after (testing t width a b) _ one last.does)));
        related = last.related;
        world = (refl, refl);
      }

  -- ---- SelectIf

  pub select_end : (i : AirInst) (s : State) (c : Machine) (t : Test) (insts : List Inst) (a b : Source) (width : Width) (x y : ℕ) (p q : Arg)
      (other : Width) (u v : ℕ) (d : Operand) (home : Home)
      → (ready : Ready s c insts t a b width x y) → IsWritten d home → IsPlaceFor z home → IsRegister a → IsTested t width b → reg_of a ≤ 31 → reg_of b ≤ 31
      → IsUsable z p → IsUsable z q → IsRegister (source_of 15 p) → IsRegister (source_of 16 q) → word_of s.homes other p ≡ Some u
      → word_of s.homes other q ≡ Some v
      → inst_code z.frame i.op i.operands
      ≡ insts ++ testing t width a b ∷ fetch z.frame 15 p ++ fetch z.frame 16 q
      ++ Select other false (result_reg d.arg) (reg_of (source_of 15 p)) (reg_of (source_of 16 q)) (condition t) ∷ put_result z.frame (result_reg d.arg) d.arg
      → ((junk : List ℕ) → step (meaning z.start) i s junk ≡ (Goes None (with_home s home (Holds d.width (if passes t width x y then u else v))), junk))
      → Carried z i s c
  select_end i s c t insts a b width x y p q other u v d home ready is may is_a fits le_a le_b usable_p usable_q is_p is_q reads_p reads_q code steps =
      let m : Machine = ready.after in
      let f : Machine = flagged m (test_flags t width x y) in
      let rd : ℕ = result_reg (At home) in
      let one = tests_one s m t a b width x y ready.related is_a ready.gives_a ready.gives_b fits le_a le_b in
      let two = fetch_two z set serves s f p q other other u v (flagged_related s m (test_flags t width x y) ready.related) usable_p usable_q reads_p reads_q in
      let says : holds (condition t) two.after.registers.flags ≡ passes t width x y =
      ap (holds (condition t)) two.flags ∙ condition_holds t width b x y (gives-small m.registers a width x ready.gives_a) fits in
      let result : ℕ = if passes t width x y then u else v in
      let inst : Inst = Select other false rd (reg_of (source_of 15 p)) (reg_of (source_of 16 q)) (condition t) in
      let last = ends_by z set serves s two.after inst home d.width result two.related may
      (record {
        fields = (
          le_more rd (result_most z set serves home may).0,
          source_most z 15 p (omega arith) usable_p,
          source_most z 16 q
              (omega arith) usable_q,
        );
        touches = λ r. refl;
      })
      (λ pc. select_is (moved_to pc two.after).registers two.after.memory rd (result_most z set serves home may).0 other (source_of 15 p)
      (source_of 16 q) u v (condition t) (passes t width x y)
      is_p is_q two.gives_a two.gives_b says) in
      let Code : Arg → List Inst = λ arg. insts ++ testing t width a b ∷ fetch z.frame 15 p ++ fetch z.frame 16 q
      ++ Select other false (result_reg arg) (reg_of (source_of 15 p)) (reg_of (source_of 16 q)) (condition t) ∷ put_result z.frame (result_reg arg) arg in
      record {
        next = with_home s home (Holds d.width result);
        after = last.after;
        steps = steps;
        does = subst (λ insts. Does z c insts last.after) (sym code)
            (subst (λ arg. Does z c (Code arg) last.after) (sym is.arg)
            (does_both z c two.after last.after ((insts ++ testing t width a b ∷ fetch z.frame 15 p) ++ fetch z.frame 16 q) _
            (does_both z c two.between two.after (insts ++ testing t width a b ∷ fetch z.frame 15 p) (fetch z.frame 16 q)
            (does_both z c m two.between insts _ ready.does (does_first z m f two.between (testing t width a b) (fetch z.frame 15 p) one two.first)) two.second)
            last.does));
        related = last.related;
        world = (refl, refl);
      }
