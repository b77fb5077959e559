-- Instructions that compute a word by one instruction.
use Rattle.std.proofs.Common.{◌≡◌, ℕ, ◌^◌, ◌<◌, ◌≤◌, ◌⊎◌, false, inl, inr, ⊎_elim, List, [], ◌∷◌, ◌++◌, Option, Some, None, refl, sym, ap, ◌∙◌, subst, arith}
use Rattle.b3_base.specs.declared.word.Width.{Width}
use Rattle.a64_inst.specs.Step.{Stepped, step_of, goes_on, put}
use Rattle.a64_inst.specs.declared.inst.Inst.{Inst}
use Rattle.a64_inst.proofs.Ranged.{step_of-LeavesWords}
use Rattle.air_ir.specs.Kinds.{Computes, kind_of}
use Rattle.air_ir.specs.Meaning.{meaning}
use Rattle.air_ir.specs.Operands.{Holds, Read, and_word, targets, word_of, words}
use Rattle.air_ir.specs.Steps.{Goes, State, Undefined, step}
use Rattle.air_ir.specs.Words.{computed}
use Rattle.air_ir.specs.declared.operand.Arg.{Arg}
use Rattle.air_ir.specs.declared.operand.Arg.TheVariants.{At, Imm}
use Rattle.air_ir.specs.declared.operand.Home.{Home}
use Rattle.air_ir.specs.declared.operand.Home.TheVariants.{Reg, Spill, Tmp}
use Rattle.air_ir.specs.declared.operand.Operand.{Operand}
use Rattle.air_ir.specs.declared.operand.Role.TheVariants.{Use}
use Rattle.air_ir.specs.declared.procedure.AirInst.{AirInst}
use Rattle.air_frame.specs.Frames.{IsFrameOf}
use Rattle.a64_layout.specs.Machine.{Machine, moved_to}
use Rattle.a64_emit.specs.Code.{compute_code, fetch, inst_code, put_result, result_reg, source_of}
use Rattle.a64_code.specs.Computing.{computing, reg_of}
use Rattle.a64_code.specs.Fitting.{IsComputed}
use Rattle.a64_emit.specs.Related.{HasFrame, IsRelated}
use Rattle.a64_emit.specs.Setting.{IsSet, Setting}
use Rattle.a64_code.specs.declared.source.Source.{Source}
use Rattle.a64_code.specs.declared.source.Source.TheVariants.{Constant}
use Rattle.a64_emit.proofs.AirSteps.{IsWritten, computes_none, computes_word, step_gives, step_lost, step_without, targets_result, targets_use, words_result, words_use}
use Rattle.a64_emit.proofs.Fetching.{Finished, IsPlaceFor, IsScratch, IsUsable, fetch_word, fetched_keeps, finish, gives_same, result_most, source_differs}
use Rattle.a64_emit.proofs.Keeping.{keeps_related, whole_of}
use Rattle.a64_code.proofs.Ops.{Gives, IsRegister, IsWidthOf, one_computed, second_width, takes_constant, three_computed, two_computed}
use Rattle.a64_emit.proofs.Shapes.{IsPlain, computing_plain}
use Rattle.a64_emit.proofs.Storing.{with_home}
use Rattle.a64_emit.proofs.Straight.{Does, does_both, does_none}
use Rattle.a64_emit.proofs.Words.{puts_one, put_same}

-- an instruction of Air does what its code does
pub record Carried (z : Setting) (i : AirInst) (s : State) (c : Machine) : Type 0 where
  pub next : State
  pub after : Machine
  pub steps : (junk : List ℕ) → step (meaning z.start) i s junk ≡ (Goes None next, junk)
  pub does : Does z c (inst_code z.frame i.op i.operands) after
  pub related : IsRelated z next after
  pub world : (next.world.events ≡ s.world.events) × (next.world.answers ≡ s.world.answers)

-- or it is undefined
abbrev pub InstRuns : Setting → AirInst → State → Machine → Type 0
InstRuns z i s c = ((junk : List ℕ) → step (meaning z.start) i s junk ≡ (Undefined, junk)) ⊎ Carried z i s c

pub scratch_15 : IsScratch 15
scratch_15 = (omega arith, omega arith)

pub scratch_16 : IsScratch 16
scratch_16 = (omega arith, omega arith)

pub scratch_17 : IsScratch 17
scratch_17 = (omega arith, omega arith)

-- the registers of sources
pub source_most : (z : Setting) (scratch : ℕ) (arg : Arg) → scratch ≤ 17 → IsUsable z arg → reg_of (source_of scratch arg) ≤ 31
source_most z scratch (At (Reg r)) le usable = ⊎_elim (λ (h : r.0 ≤ 14). omega arith) (λ (h : (19 ≤ r.0) × (r.0 ≤ 28)). omega (arith, h.1)) usable
source_most z scratch (At (Spill n)) le usable = omega arith
source_most z scratch (At (Tmp n)) le usable = absurd usable
source_most z scratch (Imm word) le usable = omega arith
source_most z scratch arg le usable = absurd usable

pub place_usable : (z : Setting) (home : Home) → IsPlaceFor z home → IsUsable z (At home)
place_usable z (Reg r) may = may.0
place_usable z (Spill n) may = may
place_usable z (Tmp n) may = absurd may

-- a step from words leaves words
pub result_small : (z : Setting) (m : Machine) (inst : Inst) (reg w : ℕ) → HasFrame z m → IsPlain inst
    → ((pc : ℕ) → step_of inst (moved_to pc m).registers m.memory ≡ goes_on (put (moved_to pc m).registers reg w) m.memory) → w < 2 ^ 64
result_small z m inst reg w f plain does =
    let pc : ℕ = m.registers.pc in
    let left = step_of-LeavesWords inst (moved_to pc m).registers m.memory plain.fields f.words f.bytes in
    let there : (step_of inst (moved_to pc m).registers m.memory).registers.x reg ≡ w = ap (λ (t : Stepped). t.registers.x reg) (does pc)
    ∙ put_same (moved_to pc m) reg w in
    subst (λ v. v < 2 ^ 64) there (left.words.x reg)

-- no instructions more
pub does_more : (z : Setting) (c d : Machine) (insts : List Inst) → Does z c insts d → Does z c (insts ++ []) d
does_more z c d insts does = does_both z c d d insts [] does (does_none z d)

pub le_more : (n : ℕ) → n ≤ 30 → n ≤ 31
le_more n le = omega arith

module _ (z : Setting) (set : IsSet z) (serves : IsFrameOf z.procedure z.frame) where
  -- one instruction that makes a result, and what puts it in its place
  pub ends_by : (s : State) (m : Machine) (inst : Inst) (home : Home) (width : Width) (result : ℕ) → IsRelated z s m → IsPlaceFor z home → IsPlain inst
      → ((pc : ℕ) → step_of inst (moved_to pc m).registers m.memory ≡ goes_on (put (moved_to pc m).registers (result_reg (At home)) result) m.memory)
      → Finished z set serves s m (inst ∷ put_result z.frame (result_reg (At home)) (At home)) home (Holds width result)
  ends_by s m inst home width result rel may plain does =
      finish z set serves s m inst home width result rel may
      (puts_one z m inst (result_reg (At home)) result (whole_of z set serves m rel.frame) (result_most z set serves home may).1
      (λ pc. plain.touches (moved_to pc m).registers) does)
      (result_small z m inst (result_reg (At home)) result rel.frame plain does)

  -- ---- one source

  one_end : (i : AirInst) (s : State) (c : Machine) (a d : Operand) (home : Home) (x w : ℕ) → i.operands ≡ a ∷ d ∷ []
      → inst_code z.frame i.op (a ∷ d ∷ []) ≡ compute_code z.frame i.op (a ∷ d ∷ [])
      → IsWritten d home → IsRelated z s c → IsUsable z a.arg → IsPlaceFor z home → IsWidthOf i.op a.width → IsRegister (source_of 15 a.arg)
      → IsComputed i.op a.width (source_of 16 d.arg)
      → word_of s.homes a.width a.arg ≡ Some x → computed i.op a.width (x ∷ []) ≡ Some w
      → ((junk : List ℕ) → step (meaning z.start) i s junk ≡ (Goes None (with_home s home (Holds d.width w)), junk)) → Carried z i s c
  one_end i s c a d home x w operands code is rel usable may at is_a fits reads gives steps =
      let first = fetch_word z set serves s c 15 a.arg a.width x rel usable scratch_15 reads in
      let m : Machine = first.0.after in
      let rel_m = keeps_related z s c m (fetched_keeps z c (fetch z.frame 15 a.arg) 15 scratch_15 first.0) rel in
      let Code : Arg → List Inst = λ arg. fetch z.frame 15 a.arg ++ [] ++ [] ++ computing i.op a.width (result_reg arg) (source_of 15 a.arg)
      (source_of 16 arg) (Constant 0) ∷ put_result z.frame (result_reg arg) arg in
      let fits_home : IsComputed i.op a.width (source_of 16 (At home)) = subst (λ arg. IsComputed i.op a.width (source_of 16 arg)) is.arg fits in
      let rd : ℕ = result_reg (At home) in
      let last = ends_by s m (computing i.op a.width rd (source_of 15 a.arg) (source_of 16 (At home)) (Constant 0)) home d.width w rel_m may
      (computing_plain i.op a.width rd (source_of 15 a.arg) (source_of 16 (At home)) (Constant 0) (le_more rd (result_most z set serves home may).0)
      (source_most z 15 a.arg (omega arith) usable)
      (source_most z 16 (At home) (omega arith) (place_usable z home may)) (omega arith) fits_home)
      (λ pc. one_computed (moved_to pc m).registers m.memory rd (result_most z set serves home may).0 rel_m.frame.words.x i.op a.width
      (source_of 15 a.arg) (source_of 16 (At home)) (Constant 0) x w at is_a first.1 gives) in
      record {
        next = with_home s home (Holds d.width w);
        after = last.after;
        steps = steps;
        does = subst (λ os. Does z c (inst_code z.frame i.op os) last.after) (sym operands)
            (subst (λ insts. Does z c insts last.after) (sym code)
            (subst (λ arg. Does z c (Code arg) last.after) (sym is.arg)
            (does_both z c m last.after ((fetch z.frame 15 a.arg ++ []) ++ []) _
            (does_more z c m ((fetch z.frame 15 a.arg ++ [])) (does_more z c m (fetch z.frame 15 a.arg) first.0.does)) last.does)));
        related = last.related;
        world = (refl, refl);
      }

  pub one_runs : (i : AirInst) (s : State) (c : Machine) (a d : Operand) (home : Home) → i.operands ≡ a ∷ d ∷ []
      → inst_code z.frame i.op (a ∷ d ∷ []) ≡ compute_code z.frame i.op (a ∷ d ∷ [])
      → kind_of i.op ≡ Computes → a.role ≡ Use
      → IsWritten d home → IsRelated z s c → IsUsable z a.arg → IsPlaceFor z home → IsWidthOf i.op a.width → IsRegister (source_of 15 a.arg)
      → IsComputed i.op a.width (source_of 16 d.arg) → InstRuns z i s c
  one_runs i s c a d home operands code kind role is rel usable may at is_a fits =
      let reads : words s.homes i.operands ≡ and_word a.width (word_of s.homes a.width a.arg) (Some []) =
      ap (words s.homes) operands ∙ words_use s.homes a (d ∷ []) role
      ∙ ap (and_word a.width (word_of s.homes a.width a.arg)) (words_result s.homes d home is) in
      let writes = ap targets operands ∙ targets_use a (d ∷ []) role ∙ targets_result d home is in
      elim (word_of s.homes a.width a.arg) as (λ o. word_of s.homes a.width a.arg ≡ o → InstRuns z i s c) [
        | None ↦ λ e. inl (step_lost z.start i s (reads ∙ ap (λ o. and_word a.width o (Some [])) e))
        | Some x ↦ λ e.
            let read = reads ∙ ap (λ o. and_word a.width o (Some [])) e in
            elim (computed i.op a.width (x ∷ [])) as (λ o. computed i.op a.width (x ∷ []) ≡ o → InstRuns z i s c) [
              | None ↦ λ n. inl (step_without z.start i s ((a.width, x) ∷ []) read (computes_none z.start i s ((a.width, x) ∷ []) kind n))
              | Some w ↦ λ g. inr (one_end i s c a d home x w operands code is rel usable may at is_a fits e g
                  (step_gives z.start i s ((a.width, x) ∷ []) home d.width w read writes (computes_word z.start i s ((a.width, x) ∷ []) w kind g)))
            ] refl
      ] refl

  -- ---- two sources

  -- two words that are fetched one after the other
  pub record Two (s : State) (c : Machine) (insts more : List Inst) (a b : Source) (width_a width_b : Width) (x y : ℕ) : Type 0 where
    pub between : Machine
    pub after : Machine
    pub first : Does z c insts between
    pub second : Does z between more after
    pub related : IsRelated z s after
    pub flags : after.registers.flags ≡ c.registers.flags
    pub gives_a : Gives after.registers a width_a x
    pub gives_b : Gives after.registers b width_b y

  pub fetch_two : (s : State) (c : Machine) (a b : Arg) (width_a width_b : Width) (x y : ℕ) → IsRelated z s c → IsUsable z a → IsUsable z b
      → word_of s.homes width_a a ≡ Some x → word_of s.homes width_b b ≡ Some y
      → Two s c (fetch z.frame 15 a) (fetch z.frame 16 b) (source_of 15 a) (source_of 16 b) width_a width_b x y
  fetch_two s c a b width_a width_b x y rel usable_a usable_b reads_a reads_b =
      let first = fetch_word z set serves s c 15 a width_a x rel usable_a scratch_15 reads_a in
      let rel_m = keeps_related z s c first.0.after (fetched_keeps z c (fetch z.frame 15 a) 15 scratch_15 first.0) rel in
      let second = fetch_word z set serves s first.0.after 16 b width_b y rel_m usable_b scratch_16 reads_b in
      record {
        between = first.0.after;
        after = second.0.after;
        first = first.0.does;
        second = second.0.does;
        related = keeps_related z s first.0.after second.0.after (fetched_keeps z first.0.after (fetch z.frame 16 b) 16 scratch_16 second.0) rel_m;
        flags = second.0.flags ∙ first.0.flags;
        gives_a = gives_same first.0.after.registers second.0.after.registers (source_of 15 a) width_a x
            (λ r e. second.0.others r (source_differs z 15 16 a scratch_16 (λ f. absurd (omega arith)) usable_a r e)) first.1;
        gives_b = second.1;
      }

  two_end : (i : AirInst) (s : State) (c : Machine) (a b d : Operand) (home : Home) (x y w : ℕ) → i.operands ≡ a ∷ b ∷ d ∷ []
      → inst_code z.frame i.op (a ∷ b ∷ d ∷ []) ≡ compute_code z.frame i.op (a ∷ b ∷ d ∷ [])
      → IsWritten d home → IsRelated z s c → IsUsable z a.arg → IsUsable z b.arg → IsPlaceFor z home → IsWidthOf i.op a.width
      → b.width ≡ second_width i.op a.width
      → IsRegister (source_of 15 a.arg) → (takes_constant i.op ≡ false → IsRegister (source_of 16 b.arg)) → IsComputed i.op a.width (source_of 16 b.arg)
      → word_of s.homes a.width a.arg ≡ Some x → word_of s.homes b.width b.arg ≡ Some y → computed i.op a.width (x ∷ y ∷ []) ≡ Some w
      → ((junk : List ℕ) → step (meaning z.start) i s junk ≡ (Goes None (with_home s home (Holds d.width w)), junk)) → Carried z i s c
  two_end i s c a b d home x y w operands code is rel usable_a usable_b may at width_b is_a is_b fits reads_a reads_b gives steps =
      let two = fetch_two s c a.arg b.arg a.width b.width x y rel usable_a usable_b reads_a reads_b in
      let m : Machine = two.after in
      let Code : Arg → List Inst = λ arg. fetch z.frame 15 a.arg ++ fetch z.frame 16 b.arg ++ [] ++
      computing i.op a.width (result_reg arg) (source_of 15 a.arg) (source_of 16 b.arg) (source_of 17 arg) ∷ put_result z.frame (result_reg arg) arg in
      let rd : ℕ = result_reg (At home) in
      let last = ends_by s m (computing i.op a.width rd (source_of 15 a.arg) (source_of 16 b.arg) (source_of 17 (At home))) home d.width w two.related may
      (computing_plain i.op a.width rd (source_of 15 a.arg) (source_of 16 b.arg) (source_of 17 (At home))
      (le_more rd (result_most z set serves home may).0) (source_most z 15 a.arg (omega arith) usable_a)
      (source_most z 16 b.arg (omega arith) usable_b) (source_most z 17 (At home) (omega arith) (place_usable z home may)) fits)
      (λ pc. two_computed (moved_to pc m).registers m.memory rd (result_most z set serves home may).0 two.related.frame.words.x i.op a.width
      (source_of 15 a.arg) (source_of 16 b.arg) (source_of 17 (At home))
      x y w at is_a is_b fits two.gives_a (subst (λ v. Gives m.registers (source_of 16 b.arg) v y) width_b two.gives_b) gives) in
      record {
        next = with_home s home (Holds d.width w);
        after = last.after;
        steps = steps;
        does = subst (λ os. Does z c (inst_code z.frame i.op os) last.after) (sym operands)
            (subst (λ insts. Does z c insts last.after) (sym code)
            (subst (λ arg. Does z c (Code arg) last.after) (sym is.arg)
            (does_both z c m last.after ((fetch z.frame 15 a.arg ++ fetch z.frame 16 b.arg) ++ []) _
            (does_more z c m (fetch z.frame 15 a.arg ++ fetch z.frame 16 b.arg)
            (does_both z c two.between m (fetch z.frame 15 a.arg) (fetch z.frame 16 b.arg) two.first two.second))
            last.does)));
        related = last.related;
        world = (refl, refl);
      }

  pub two_runs : (i : AirInst) (s : State) (c : Machine) (a b d : Operand) (home : Home) → i.operands ≡ a ∷ b ∷ d ∷ []
      → inst_code z.frame i.op (a ∷ b ∷ d ∷ []) ≡ compute_code z.frame i.op (a ∷ b ∷ d ∷ [])
      → kind_of i.op ≡ Computes → a.role ≡ Use → b.role ≡ Use
      → IsWritten d home → IsRelated z s c → IsUsable z a.arg → IsUsable z b.arg → IsPlaceFor z home → IsWidthOf i.op a.width
      → b.width ≡ second_width i.op a.width
      → IsRegister (source_of 15 a.arg) → (takes_constant i.op ≡ false → IsRegister (source_of 16 b.arg)) → IsComputed i.op a.width (source_of 16 b.arg)
      → InstRuns z i s c
  two_runs i s c a b d home operands code kind role_a role_b is rel usable_a usable_b may at width_b is_a is_b fits =
      let A : Option ℕ = word_of s.homes a.width a.arg in
      let B : Option ℕ = word_of s.homes b.width b.arg in
      let reads : words s.homes i.operands ≡ and_word a.width A (and_word b.width B (Some [])) =
      ap (words s.homes) operands ∙ words_use s.homes a (b ∷ d ∷ []) role_a
      ∙ ap (and_word a.width A) (words_use s.homes b (d ∷ []) role_b ∙ ap (and_word b.width B) (words_result s.homes d home is)) in
      let writes = ap targets operands ∙ targets_use a (b ∷ d ∷ []) role_a ∙ targets_use b (d ∷ []) role_b ∙ targets_result d home is in
      elim (word_of s.homes a.width a.arg) as (λ o. word_of s.homes a.width a.arg ≡ o → InstRuns z i s c) [
        | None ↦ λ e. inl (step_lost z.start i s (reads ∙ ap (λ o. and_word a.width o (and_word b.width B (Some []))) e))
        | Some x ↦ λ e.
            elim (word_of s.homes b.width b.arg) as (λ o. word_of s.homes b.width b.arg ≡ o → InstRuns z i s c) [
              | None ↦ λ f. inl (step_lost z.start i s (reads ∙ ap (λ o. and_word a.width o (and_word b.width B (Some []))) e
                  ∙ ap (λ o. and_word a.width (Some x) (and_word b.width o (Some []))) f))
              | Some y ↦ λ f.
                  let read = reads ∙ ap (λ o. and_word a.width o (and_word b.width B (Some []))) e
                  ∙ ap (λ o. and_word a.width (Some x) (and_word b.width o (Some []))) f in
                  elim (computed i.op a.width (x ∷ y ∷ [])) as (λ o. computed i.op a.width (x ∷ y ∷ []) ≡ o → InstRuns z i s c) [
                    | None ↦ λ n. inl (step_without z.start i s ((a.width, x) ∷ (b.width, y) ∷ []) read
                        (computes_none z.start i s ((a.width, x) ∷ (b.width, y) ∷ []) kind n))
                    | Some w ↦ λ g. inr (two_end i s c a b d home x y w operands code is rel usable_a usable_b may at width_b is_a is_b fits e f g
                        (step_gives z.start i s ((a.width, x) ∷ (b.width, y) ∷ []) home d.width w read writes
                        (computes_word z.start i s ((a.width, x) ∷ (b.width, y) ∷ []) w kind g)))
                  ] refl
            ] refl
      ] refl

  -- ---- three sources

  three_end : (i : AirInst) (s : State) (c : Machine) (a b e d : Operand) (home : Home) (x y v w : ℕ) → i.operands ≡ a ∷ b ∷ e ∷ d ∷ []
      → inst_code z.frame i.op (a ∷ b ∷ e ∷ d ∷ []) ≡ compute_code z.frame i.op (a ∷ b ∷ e ∷ d ∷ [])
      → IsWritten d home → IsRelated z s c → IsUsable z a.arg → IsUsable z b.arg → IsUsable z e.arg → IsPlaceFor z home → IsWidthOf i.op a.width
      → b.width ≡ a.width → e.width ≡ a.width
      → IsRegister (source_of 15 a.arg) → IsRegister (source_of 16 b.arg) → IsRegister (source_of 17 e.arg) → IsComputed i.op a.width (source_of 16 b.arg)
      → word_of s.homes a.width a.arg ≡ Some x → word_of s.homes b.width b.arg ≡ Some y → word_of s.homes e.width e.arg ≡ Some v
      → computed i.op a.width (x ∷ y ∷ v ∷ []) ≡ Some w
      → ((junk : List ℕ) → step (meaning z.start) i s junk ≡ (Goes None (with_home s home (Holds d.width w)), junk)) → Carried z i s c
  three_end i s c a b e d home x y v w operands code is rel usable_a usable_b usable_e may at width_b width_e is_a is_b is_e fits reads_a reads_b
      reads_e gives steps =
      let two = fetch_two s c a.arg b.arg a.width b.width x y rel usable_a usable_b reads_a reads_b in
      let third = fetch_word z set serves s two.after 17 e.arg e.width v two.related usable_e scratch_17 reads_e in
      let m : Machine = third.0.after in
      let rel_m = keeps_related z s two.after m (fetched_keeps z two.after (fetch z.frame 17 e.arg) 17 scratch_17 third.0) two.related in
      let gives_a = gives_same two.after.registers m.registers (source_of 15 a.arg) a.width x
      (λ r q. third.0.others r (source_differs z 15 17 a.arg scratch_17 (λ f. absurd (omega arith)) usable_a r q)) two.gives_a in
      let gives_b = gives_same two.after.registers m.registers (source_of 16 b.arg) b.width y
      (λ r q. third.0.others r (source_differs z 16 17 b.arg scratch_17 (λ f. absurd (omega arith)) usable_b r q)) two.gives_b in
      let Code : Arg → List Inst = λ arg. fetch z.frame 15 a.arg ++ fetch z.frame 16 b.arg ++ fetch z.frame 17 e.arg ++
      computing i.op a.width (result_reg arg) (source_of 15 a.arg) (source_of 16 b.arg) (source_of 17 e.arg) ∷ put_result z.frame (result_reg arg) arg in
      let rd : ℕ = result_reg (At home) in
      let last = ends_by s m (computing i.op a.width rd (source_of 15 a.arg) (source_of 16 b.arg) (source_of 17 e.arg)) home d.width w rel_m may
      (computing_plain i.op a.width rd (source_of 15 a.arg) (source_of 16 b.arg) (source_of 17 e.arg) (le_more rd (result_most z set serves home may).0)
      (source_most z 15 a.arg (omega arith) usable_a)
      (source_most z 16 b.arg (omega arith) usable_b) (source_most z 17 e.arg (omega arith) usable_e) fits)
      (λ pc. three_computed (moved_to pc m).registers m.memory rd (result_most z set serves home may).0 rel_m.frame.words.x i.op a.width
      (source_of 15 a.arg) (source_of 16 b.arg) (source_of 17 e.arg)
      x y v w at is_a is_b is_e gives_a (subst (λ u. Gives m.registers (source_of 16 b.arg) u y) width_b gives_b)
      (subst (λ u. Gives m.registers (source_of 17 e.arg) u v) width_e third.1) gives) in
      record {
        next = with_home s home (Holds d.width w);
        after = last.after;
        steps = steps;
        does = subst (λ os. Does z c (inst_code z.frame i.op os) last.after) (sym operands)
            (subst (λ insts. Does z c insts last.after) (sym code)
            (subst (λ arg. Does z c (Code arg) last.after) (sym is.arg)
            (does_both z c m last.after ((fetch z.frame 15 a.arg ++ fetch z.frame 16 b.arg) ++ fetch z.frame 17 e.arg) _
            (does_both z c two.after m (fetch z.frame 15 a.arg ++ fetch z.frame 16 b.arg) (fetch z.frame 17 e.arg)
            (does_both z c two.between two.after (fetch z.frame 15 a.arg) (fetch z.frame 16 b.arg) two.first two.second) third.0.does)
            last.does)));
        related = last.related;
        world = (refl, refl);
      }

  pub three_runs : (i : AirInst) (s : State) (c : Machine) (a b e d : Operand) (home : Home) → i.operands ≡ a ∷ b ∷ e ∷ d ∷ []
      → inst_code z.frame i.op (a ∷ b ∷ e ∷ d ∷ []) ≡ compute_code z.frame i.op (a ∷ b ∷ e ∷ d ∷ [])
      → kind_of i.op ≡ Computes → a.role ≡ Use → b.role ≡ Use → e.role ≡ Use
      → IsWritten d home → IsRelated z s c → IsUsable z a.arg → IsUsable z b.arg → IsUsable z e.arg → IsPlaceFor z home → IsWidthOf i.op a.width
      → b.width ≡ a.width → e.width ≡ a.width
      → IsRegister (source_of 15 a.arg) → IsRegister (source_of 16 b.arg) → IsRegister (source_of 17 e.arg)
      → IsComputed i.op a.width (source_of 16 b.arg) → InstRuns z i s c
  three_runs i s c a b e d home operands code kind role_a role_b role_e is rel usable_a usable_b usable_e may at width_b width_e is_a is_b is_e fits =
      let All : Option ℕ → Option ℕ → Option ℕ → Option (List Read) = λ A B E. and_word a.width A (and_word b.width B (and_word e.width E (Some []))) in
      let A : Option ℕ = word_of s.homes a.width a.arg in
      let B : Option ℕ = word_of s.homes b.width b.arg in
      let E : Option ℕ = word_of s.homes e.width e.arg in
      let reads : words s.homes i.operands ≡ All A B E =
      ap (words s.homes) operands ∙ words_use s.homes a (b ∷ e ∷ d ∷ []) role_a
      ∙ ap (and_word a.width A) (words_use s.homes b (e ∷ d ∷ []) role_b
      ∙ ap (and_word b.width B) (words_use s.homes e (d ∷ []) role_e ∙ ap (and_word e.width E) (words_result s.homes d home is))) in
      let writes = ap targets operands ∙ targets_use a (b ∷ e ∷ d ∷ []) role_a ∙ targets_use b (e ∷ d ∷ []) role_b ∙ targets_use e (d ∷ []) role_e
      ∙ targets_result d home is in
      elim (word_of s.homes a.width a.arg) as (λ o. word_of s.homes a.width a.arg ≡ o → InstRuns z i s c) [
        | None ↦ λ p. inl (step_lost z.start i s (reads ∙ ap (λ o. All o B E) p))
        | Some x ↦ λ p.
            elim (word_of s.homes b.width b.arg) as (λ o. word_of s.homes b.width b.arg ≡ o → InstRuns z i s c) [
              | None ↦ λ q. inl (step_lost z.start i s (reads ∙ ap (λ o. All o B E) p ∙ ap (λ o. All (Some x) o E) q))
              | Some y ↦ λ q.
                  elim (word_of s.homes e.width e.arg) as (λ o. word_of s.homes e.width e.arg ≡ o → InstRuns z i s c) [
                    | None ↦ λ r. inl (step_lost z.start i s (reads ∙ ap (λ o. All o B E) p ∙ ap (λ o. All (Some x) o E) q
                        ∙ ap (λ o. All (Some x) (Some y) o) r))
                    | Some v ↦ λ r.
                        let read = reads ∙ ap (λ o. All o B E) p ∙ ap (λ o. All (Some x) o E) q ∙ ap (λ o. All (Some x) (Some y) o) r in
                        let rs : List Read = (a.width, x) ∷ (b.width, y) ∷ (e.width, v) ∷ [] in
                        elim (computed i.op a.width (x ∷ y ∷ v ∷ [])) as (λ o. computed i.op a.width (x ∷ y ∷ v ∷ []) ≡ o → InstRuns z i s c) [
                          | None ↦ λ n. inl (step_without z.start i s rs read (computes_none z.start i s rs kind n))
                          | Some w ↦ λ g. inr (three_end i s c a b e d home x y v w operands code is rel usable_a usable_b usable_e may at width_b
                              width_e is_a is_b is_e fits p q r g
                              (step_gives z.start i s rs home d.width w read writes (computes_word z.start i s rs w kind g)))
                        ] refl
                  ] refl
            ] refl
      ] refl
