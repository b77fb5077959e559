-- Copies of words.
use Rattle.std.proofs.Common.{◌≡◌, ◌≢◌, ℕ, ◌^◌, ◌<◌, ◌≤◌, ◌⊎◌, true, false, inl, inr, ⊎_elim, List, [], ◌∷◌, ◌++◌, Some, None, refl, sym, ap, ◌∙◌, subst, arith, nat_eq, eq-eqb, eqb-true}
use Rattle.std.proofs.lemmas.Option.{same_Some}
use Rattle.std.specs.Prelude.{if◌then◌else◌}
use Rattle.b3_base.specs.Arithmetic.{low}
use Rattle.b3_base.specs.Word.{bits}
use Rattle.b3_base.specs.declared.word.Width.{Width}
use Rattle.b3_base.specs.declared.word.Width.TheVariants.{W32, W64}
use Rattle.b3_ir.specs.declared.value.Reg.{Reg as Register}
use Rattle.stackmap.specs.Rules.{IsAllocatable}
use Rattle.a64_inst.specs.declared.inst.Inst.{Inst}
use Rattle.a64_layout.specs.Machine.{Machine, moved_to}
use Rattle.air_ir.specs.Kinds.{Copies, kind_of}
use Rattle.air_ir.specs.Operands.{Held, Holds, and_word, read, targets, word_of, words}
use Rattle.air_ir.specs.Steps.{State}
use Rattle.air_ir.specs.declared.operand.Arg.{Arg}
use Rattle.air_ir.specs.declared.operand.Arg.TheVariants.{At, Imm, Addr, Index, FrameSlot}
use Rattle.air_ir.specs.declared.operand.Home.{Home}
use Rattle.air_ir.specs.declared.operand.Home.TheVariants.{Reg, Spill, Tmp}
use Rattle.air_ir.specs.declared.operand.Operand.{Operand}
use Rattle.air_ir.specs.declared.operand.Role.TheVariants.{Use}
use Rattle.air_ir.specs.declared.procedure.AirInst.{AirInst}
use Rattle.a64_emit.specs.Code.{bring, copy_code, inst_code, kept_register, put_result}
use Rattle.a64_code.specs.Computing.{move_reg}
use Rattle.a64_code.specs.Places.{above_sp, spill_offset, store_at}
use Rattle.a64_emit.specs.Related.{Carries, HasFrame, IsRelated}
use Rattle.a64_emit.specs.Setting.{Setting, IsSet}
use Rattle.a64_code.specs.declared.source.Source.TheVariants.{InReg}
use Rattle.a64_emit.proofs.AirSteps.{IsWritten, copies_word, step_gives, step_lost, targets_result, targets_use, words_result, words_use}
use Rattle.a64_emit.proofs.Computes.{InstRuns, le_more, result_small, scratch_16, scratch_17}
use Rattle.a64_emit.proofs.Fetching.{IsPlaceFor, IsUsable, allocatable_most, allocatable_other, kept_differs, result_most, spill_loads, spill_stored}
use Rattle.a64_emit.proofs.Keeping.{KeepsAll, reads_carried, whole_of}
use Rattle.a64_emit.proofs.Moves.{constant_puts}
use Rattle.a64_code.proofs.Ops.{move_is}
use Rattle.a64_emit.proofs.Shapes.{move_plain}
use Rattle.a64_emit.proofs.Storing.{reg_related, with_home}
use Rattle.a64_emit.proofs.Straight.{Does, does_both, does_none}
use Rattle.a64_emit.proofs.Words.{Puts, puts_by_one, puts_one}
use Rattle.air_frame.specs.Frames.{IsFrameOf}

-- a constant is a word of its width
abbrev pub IsConstantOf : Width → Arg → Type 0
IsConstantOf width (Imm word) = word < 2 ^ bits width
IsConstantOf width _ = Unit {0}

-- what stands in x17, where the run of Air has it there
abbrev pub IsKeptWord : State → Machine → Arg → Type 0
IsKeptWord s c from = (from ≡ At (Reg kept_register)) × Carries (s.homes (Reg kept_register)) (c.registers.x 17)

-- what a copy may take
abbrev pub CanTake : Setting → State → Machine → Arg → Type 0
CanTake z s c from = IsUsable z from ⊎ IsKeptWord s c from

usable_other : (z : Setting) (s : State) (c : Machine) (from : Arg) → CanTake z s c from → from ≢ At (Reg kept_register) → IsUsable z from
usable_other z s c from take other = ⊎_elim (λ (usable : IsUsable z from). usable) (λ (kept : IsKeptWord s c from). absurd (other kept.0)) take

low_again : (width : Width) (v : ℕ) → low width v ≡ low width (low width v)
low_again W32 v = omega arith
low_again W64 v = omega arith

same_low : (width : Width) (v x : ℕ) → low width v ≡ x → low width v ≡ low width x
same_low width v x e = low_again width v ∙ ap (low width) e

module _ (z : Setting) (set : IsSet z) (serves : IsFrameOf z.procedure z.frame) where
  -- code brings a word to a register
  pub record Brings (c : Machine) (insts : List Inst) (reg : ℕ) (width : Width) (x : ℕ) : Type 0 where
    pub word : ℕ
    pub puts : Puts z c insts reg word
    pub is : low width word ≡ x

  -- a register's word
  brings_reg : (c : Machine) (width : Width) (reg : ℕ) (q : Register) (x : ℕ) → HasFrame z c → q.0 ≤ 30 → reg ≤ 30 → reg ≢ 18
      → low width (c.registers.x q.0) ≡ x → Brings c (bring z.frame width reg (At (Reg q))) reg width x
  unfolding bring
  brings_reg c width reg q x frame most le other is =
      elim (nat_eq reg q.0) as (λ b. nat_eq reg q.0 ≡ b → Brings c (if b then [] else move_reg width reg q.0 ∷ []) reg width x) [
        | true ↦ λ same. record {
          word = c.registers.x q.0;
          puts = record {
            after = c;
            does = does_none z c;
            sp = refl;
            memory = refl;
            flags = refl;
            put = ap c.registers.x (eqb-true reg q.0 same);
            others = λ r differ. refl;
            words = frame.words;
          };
          is = is;
        }
        | false ↦ λ differ.
            let plain = move_plain width reg q.0 (le_more reg le) (le_more q.0 most) in
            let does = λ (pc : ℕ). move_is (moved_to pc c).registers c.memory reg le width (InReg q.0) x tt (most, is) in
            record {
              word = x;
              puts = puts_by_one z c (move_reg width reg q.0) reg x
                  (puts_one z c (move_reg width reg q.0) reg x (whole_of z set serves c frame) other (λ pc. plain.touches (moved_to pc c).registers) does)
                  frame.words (result_small z c (move_reg width reg q.0) reg x frame plain does);
              is = sym (low_again width (c.registers.x q.0) ∙ ap (low width) is) ∙ is;
            }
      ] refl

  -- a register in which the word of an argument stands
  pub record StandsIn (c : Machine) (width : Width) (q : Register) (x : ℕ) : Type 0 where
    pub most : q.0 ≤ 30
    pub other : q.0 ≢ 15
    pub is : low width (c.registers.x q.0) ≡ x

  stands_kept : (s : State) (c : Machine) (width : Width) (q : Register) (x : ℕ) → At (Reg q) ≡ At (Reg kept_register)
      → Carries (s.homes (Reg kept_register)) (c.registers.x 17) → read width (s.homes (Reg q)) ≡ Some x → StandsIn c width q x
  stands_kept s c width q x same carries e =
      let is : q ≡ kept_register = cc in
      subst (λ (r : Register). read width (s.homes (Reg r)) ≡ Some x → StandsIn c width r x) (sym is)
      (λ there. record {
        most = omega arith;
        other = λ f. absurd (omega arith);
        is = reads_carried width (s.homes (Reg kept_register)) (c.registers.x 17) x carries there;
      }) e

  stands_in : (s : State) (c : Machine) (width : Width) (q : Register) (x : ℕ) → IsRelated z s c → CanTake z s c (At (Reg q))
      → read width (s.homes (Reg q)) ≡ Some x → StandsIn c width q x
  stands_in s c width q x rel take e = ⊎_elim
      (λ (usable : IsAllocatable q). record {
        most = allocatable_most q usable;
        other = allocatable_other q 15 usable (omega arith, omega arith);
        is = reads_carried width (s.homes (Reg q)) (c.registers.x q.0) x (rel.registers q usable) e;
      })
      (λ (kept : IsKeptWord s c (At (Reg q))). stands_kept s c width q x kept.0 kept.1 e) take

  brings : (s : State) (c : Machine) (width : Width) (reg : ℕ) (from : Arg) (x : ℕ) → IsRelated z s c → CanTake z s c from → IsConstantOf width from
      → reg ≤ 30 → reg ≢ 18
      → word_of s.homes width from ≡ Some x → Brings c (bring z.frame width reg from) reg width x
  unfolding bring word_of
  brings s c width reg (At (Reg q)) x rel take fits le other e =
      let there = stands_in s c width q x rel take e in
      brings_reg c width reg q x rel.frame there.most le other there.is
  brings s c width reg (At (Spill n)) x rel take fits le other e =
      let load = spill_loads z set serves s c reg n x width rel (usable_other z s c (At (Spill n)) take (λ f. absurd cc)) le other e in
      record { word = load.0; puts = load.1; is = load.2 }
  brings s c width reg (At (Tmp n)) x rel take fits le other e = absurd (usable_other z s c (At (Tmp n)) take (λ f. absurd cc))
  brings s c width reg (Imm word) x rel take fits le other e = record {
    word = word;
    puts = constant_puts z c width reg word (whole_of z set serves c rel.frame) rel.frame.words le other fits;
    is = same_Some (low width word) x e;
  }
  brings s c width reg (Addr base offset) x rel take fits le other e = absurd (usable_other z s c (Addr base offset) take (λ f. absurd cc))
  brings s c width reg (Index base index shift) x rel take fits le other e = absurd (usable_other z s c (Index base index shift) take (λ f. absurd cc))
  brings s c width reg (FrameSlot n) x rel take fits le other e = absurd (usable_other z s c (FrameSlot n) take (λ f. absurd cc))

  -- a word is copied to a home, and x17 is as it was
  pub record Copied (s : State) (c : Machine) (insts : List Inst) (home : Home) (held : Held) : Type 0 where
    pub after : Machine
    pub does : Does z c insts after
    pub related : IsRelated z (with_home s home held) after
    pub keeps : after.registers.x 17 ≡ c.registers.x 17

  -- into a register
  to_reg : (s : State) (c : Machine) (width : Width) (from : Arg) (r : Register) (x : ℕ) → IsRelated z s c → IsPlaceFor z (Reg r)
      → Brings c (bring z.frame width r.0 from) r.0 width x → Copied s c (bring z.frame width r.0 from ++ []) (Reg r) (Holds width x)
  to_reg s c width from r x rel may b = record {
    after = b.puts.after;
    does = does_both z c b.puts.after b.puts.after (bring z.frame width r.0 from) [] b.puts.does (does_none z b.puts.after);
    related = reg_related z set serves s c b.puts.after r b.word x width may.0 may.1
        (record {
          sp = b.puts.sp;
          memory = b.puts.memory;
          put = b.puts.put;
          others = λ q kept differ. b.puts.others q differ;
          words = b.puts.words;
        }) (same_low width b.word x b.is) rel;
    keeps = b.puts.others 17 (λ e. allocatable_other r 17 may.0 scratch_17 (sym e));
  }

  -- into a spill place, through x16
  to_spill : (s : State) (c : Machine) (width : Width) (from : Arg) (n x : ℕ) → IsRelated z s c → IsPlaceFor z (Spill n)
      → Brings c (bring z.frame width 16 from) 16 width x
      → Copied s c (bring z.frame width 16 from ++ store_at 16 (above_sp z.frame (spill_offset z.frame n))) (Spill n) (Holds width x)
  to_spill s c width from n x rel may b =
      let m : Machine = b.puts.after in
      let f = spill_stored z set serves s c m 16 n b.word x width rel
      (record { sp = b.puts.sp; memory = b.puts.memory; x = λ r kept. b.puts.others r (kept_differs 16 r scratch_16 kept); words = b.puts.words })
      may (omega arith) (λ f. absurd (omega arith)) b.puts.put (same_low width b.word x b.is) in
      record {
        after = f.finished.after;
        does = does_both z c m f.finished.after (bring z.frame width 16 from) (store_at 16 (above_sp z.frame (spill_offset z.frame n))) b.puts.does
            f.finished.does;
        related = f.finished.related;
        keeps = f.others 17 (λ e. absurd (omega arith)) ∙ b.puts.others 17 (λ e. absurd (omega arith));
      }

  -- a register into a spill place
  reg_to_spill : (s : State) (c : Machine) (width : Width) (q : Register) (n x : ℕ) → IsRelated z s c → IsPlaceFor z (Spill n) → StandsIn c width q x
      → Copied s c (bring z.frame width q.0 (At (Reg q)) ++ store_at q.0 (above_sp z.frame (spill_offset z.frame n))) (Spill n) (Holds width x)
  unfolding bring
  reg_to_spill s c width q n x rel may there =
      let f = spill_stored z set serves s c c q.0 n (c.registers.x q.0) x width rel
      (record { sp = refl; memory = refl; x = λ r kept. refl; words = rel.frame.words }) may there.most there.other refl
      (same_low width (c.registers.x q.0) x there.is) in
      record {
        after = f.finished.after;
        does = rw (eq-eqb q.0 q.0 refl)
            (does_both z c c f.finished.after [] (store_at q.0 (above_sp z.frame (spill_offset z.frame n))) (does_none z c) f.finished.does);
        related = f.finished.related;
        keeps = f.others 17 (λ e. absurd (omega arith));
      }

  to_place : (s : State) (c : Machine) (width : Width) (from : Arg) (r : Register) (x : ℕ) → IsRelated z s c → CanTake z s c from → IsConstantOf width from
      → IsPlaceFor z (Reg r) → word_of s.homes width from ≡ Some x → Copied s c (bring z.frame width r.0 from ++ []) (Reg r) (Holds width x)
  to_place s c width from r x rel take fits may e =
      let most = result_most z set serves (Reg r) may in
      to_reg s c width from r x rel may (brings s c width r.0 from x rel take fits most.0 most.1 e)

  through : (s : State) (c : Machine) (width : Width) (from : Arg) (n x : ℕ) → IsRelated z s c → CanTake z s c from → IsConstantOf width from
      → IsPlaceFor z (Spill n) → word_of s.homes width from ≡ Some x
      → Copied s c (bring z.frame width 16 from ++ store_at 16 (above_sp z.frame (spill_offset z.frame n))) (Spill n) (Holds width x)
  through s c width from n x rel take fits may e =
      to_spill s c width from n x rel may (brings s c width 16 from x rel take fits (omega arith) (λ f. absurd (omega arith)) e)

  pub copied : (s : State) (c : Machine) (width : Width) (from : Arg) (home : Home) (x : ℕ) → IsRelated z s c → CanTake z s c from
      → IsConstantOf width from → IsPlaceFor z home
      → word_of s.homes width from ≡ Some x → Copied s c (copy_code z.frame width from (At home)) home (Holds width x)
  unfolding put_result word_of
  copied s c width from (Tmp n) x rel take fits may e = absurd may
  copied s c width (At (Reg q)) (Reg r) x rel take fits may e = to_place s c width (At (Reg q)) r x rel take fits may e
  copied s c width (At (Spill m)) (Reg r) x rel take fits may e = to_place s c width (At (Spill m)) r x rel take fits may e
  copied s c width (At (Tmp m)) (Reg r) x rel take fits may e = to_place s c width (At (Tmp m)) r x rel take fits may e
  copied s c width (Imm word) (Reg r) x rel take fits may e = to_place s c width (Imm word) r x rel take fits may e
  copied s c width (Addr base offset) (Reg r) x rel take fits may e = to_place s c width (Addr base offset) r x rel take fits may e
  copied s c width (Index base index shift) (Reg r) x rel take fits may e = to_place s c width (Index base index shift) r x rel take fits may e
  copied s c width (FrameSlot n) (Reg r) x rel take fits may e = to_place s c width (FrameSlot n) r x rel take fits may e
  copied s c width (At (Reg q)) (Spill n) x rel take fits may e = reg_to_spill s c width q n x rel may (stands_in s c width q x rel take e)
  copied s c width (At (Spill m)) (Spill n) x rel take fits may e = through s c width (At (Spill m)) n x rel take fits may e
  copied s c width (At (Tmp m)) (Spill n) x rel take fits may e = through s c width (At (Tmp m)) n x rel take fits may e
  copied s c width (Imm word) (Spill n) x rel take fits may e = through s c width (Imm word) n x rel take fits may e
  copied s c width (Addr base offset) (Spill n) x rel take fits may e = through s c width (Addr base offset) n x rel take fits may e
  copied s c width (Index base index shift) (Spill n) x rel take fits may e = through s c width (Index base index shift) n x rel take fits may e
  copied s c width (FrameSlot m) (Spill n) x rel take fits may e = through s c width (FrameSlot m) n x rel take fits may e

  -- a word is brought to x17
  pub record Kept (c : Machine) (insts : List Inst) (width : Width) (x : ℕ) : Type 0 where
    pub after : Machine
    pub does : Does z c insts after
    pub keeps : KeepsAll c after
    pub is : low width (after.registers.x 17) ≡ low width x

  pub kept : (s : State) (c : Machine) (width : Width) (from : Arg) (x : ℕ) → IsRelated z s c → CanTake z s c from → IsConstantOf width from
      → word_of s.homes width from ≡ Some x → Kept c (copy_code z.frame width from (At (Reg kept_register))) width x
  unfolding put_result
  kept s c width from x rel take fits e =
      let b = brings s c width 17 from x rel take fits (omega arith) (λ f. absurd (omega arith)) e in
      record {
        after = b.puts.after;
        does = kept_code s c width from b.puts.after
            (does_both z c b.puts.after b.puts.after (bring z.frame width 17 from) [] b.puts.does (does_none z b.puts.after));
        keeps = record {
          sp = b.puts.sp;
          memory = b.puts.memory;
          x = λ r kept. b.puts.others r (kept_differs 17 r scratch_17 kept);
          words = b.puts.words;
        };
        is = ap (low width) b.puts.put ∙ same_low width b.word x b.is;
      }
    where
      kept_code : (s : State) (c : Machine) (width : Width) (from : Arg) (d : Machine) → Does z c (bring z.frame width 17 from ++ []) d
          → Does z c (copy_code z.frame width from (At (Reg kept_register))) d
      kept_code s c width (At (Reg q)) d does = does
      kept_code s c width from d does = does

  pub copy_runs : (i : AirInst) (s : State) (c : Machine) (a d : Operand) (home : Home) → i.operands ≡ a ∷ d ∷ []
      → inst_code z.frame i.op (a ∷ d ∷ []) ≡ copy_code z.frame a.width a.arg d.arg → kind_of i.op ≡ Copies → a.role ≡ Use → d.width ≡ a.width
      → IsWritten d home → IsRelated z s c → IsUsable z a.arg → IsConstantOf a.width a.arg → IsPlaceFor z home → InstRuns z i s c
  copy_runs i s c a d home operands code kind role width is rel usable fits may =
      let reads : words s.homes i.operands ≡ and_word a.width (word_of s.homes a.width a.arg) (Some []) =
      ap (words s.homes) operands ∙ words_use s.homes a (d ∷ []) role
      ∙ ap (and_word a.width (word_of s.homes a.width a.arg)) (words_result s.homes d home is) in
      let writes = ap targets operands ∙ targets_use a (d ∷ []) role ∙ targets_result d home is in
      elim (word_of s.homes a.width a.arg) as (λ o. word_of s.homes a.width a.arg ≡ o → InstRuns z i s c) [
        | None ↦ λ e. inl (step_lost z.start i s (reads ∙ ap (λ o. and_word a.width o (Some [])) e))
        | Some x ↦ λ e.
            let f = copied s c a.width a.arg home x rel (inl usable) fits may e in
            inr (record {
              next = with_home s home (Holds d.width x);
              after = f.after;
              steps = step_gives z.start i s ((a.width, x) ∷ []) home d.width x (reads ∙ ap (λ o. and_word a.width o (Some [])) e) writes
                  (copies_word z.start i s (a.width, x) kind);
              does = subst (λ os. Does z c (inst_code z.frame i.op os) f.after) (sym operands)
                  (subst (λ insts. Does z c insts f.after) (sym code)
                  (subst (λ arg. Does z c (copy_code z.frame a.width a.arg arg) f.after) (sym is.arg) f.does));
              related = subst (λ w. IsRelated z (with_home s home (Holds w x)) f.after) (sym width) f.related;
              world = (refl, refl);
            })
      ] refl
