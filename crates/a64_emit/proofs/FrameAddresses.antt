-- Addresses in the frame: of slots, and the frame pointer.
use Rattle.std.proofs.Common.{◌≡◌, ◌≢◌, ℕ, zero, suc, ◌+◌, ◌-◌, ◌*◌, ◌%◌, ◌^◌, ◌<◌, ◌≤◌, inr, Bool, true, false, List, [], ◌∷◌, ◌++◌, length, get_or, map, Some, None, refl, sym, ap, ◌∙◌, subst, arith, nat_eq}
use Rattle.std.specs.Prelude.{nat_le, if◌then◌else◌, All, slice_get}
use Rattle.std.proofs.lemmas.Bool.{ne_eqb}
use Rattle.std.proofs.lemmas.Bool.Decides.{nat_tests}
use Rattle.std.proofs.lemmas.List.Elements.{All-head, All-tail}
use Rattle.b3_base.specs.Arithmetic.{low}
use Rattle.b3_base.specs.Observed.{Memory, MachineStart, Start}
use Rattle.b3_base.specs.declared.word.Width.{Width}
use Rattle.b3_base.specs.declared.word.Width.TheVariants.{W64}
use Rattle.exit_table.specs.Good.{IsGoodSlot}
use Rattle.a64_inst.specs.Step.{AreWords, Registers, add_sub_imm, goes_on, put, step_of}
use Rattle.a64_inst.specs.declared.inst.Inst.{Inst}
use Rattle.a64_inst.specs.declared.inst.Inst.TheVariants.{AddSubImm}
use Rattle.air_ir.specs.Kinds.{FramePointers, SlotAddresses, kind_of}
use Rattle.air_ir.specs.Meaning.{meaning, operation}
use Rattle.air_ir.specs.Operands.{Holds, and_word, targets, word_of, words}
use Rattle.air_ir.specs.Steps.{Goes, State, step}
use Rattle.air_ir.specs.declared.operand.Arg.{Arg}
use Rattle.air_ir.specs.declared.operand.Arg.TheVariants.{At, FrameSlot}
use Rattle.air_ir.specs.declared.operand.Home.{Home}
use Rattle.air_ir.specs.declared.operand.Home.TheVariants.{Reg, Spill, Tmp}
use Rattle.air_ir.specs.declared.operand.Operand.{Operand}
use Rattle.air_ir.specs.declared.operand.Role.TheVariants.{Use}
use Rattle.air_ir.specs.declared.procedure.AirInst.{AirInst}
use Rattle.air_frame.specs.Frames.{IsFrameOf, slot_rows}
use Rattle.a64_layout.specs.Machine.{Machine, moved_to}
use Rattle.a64_run.specs.Placement as placement
use Rattle.a64_run.specs.Placement.{frame_pointer_of}
use Rattle.a64_code.specs.Accesses.{below_x29, upper}
use Rattle.a64_emit.specs.Code.{frame_address, inst_code, put_result, result_reg, slot_offset}
use Rattle.a64_code.specs.Places.{above_sp, spill_offset, store_at, unless_zero}
use Rattle.a64_emit.specs.Related.{IsRelated}
use Rattle.a64_emit.specs.Setting.{IsSet, Setting}
use Rattle.a64_emit.proofs.AirSteps.{IsWritten, step_gives, targets_result, targets_use, words_result, words_use}
use Rattle.a64_emit.proofs.Computes.{Carried, InstRuns, scratch_17}
use Rattle.a64_emit.proofs.Fetching.{Finished, IsPlaceFor, kept_differs, result_most, spill_stores}
use Rattle.a64_emit.proofs.Keeping.{whole_of}
use Rattle.a64_emit.proofs.Storing.{reg_related, with_home}
use Rattle.a64_emit.proofs.Straight.{Does, DoesOne, IsWhole, does_both, does_first, does_none, does_one}
use Rattle.a64_emit.proofs.Words.{Puts, puts_by_one, puts_one, put_other, put_same, put_words, whole_same, with_reg}

-- ---- a number of bytes below x29

less : (a b : ℕ) → a < 2 ^ 64 → b ≤ a → (a % 2 ^ 64 + (2 ^ 64 - 1 - b) + 1) % 2 ^ 64 ≡ a - b
less a b small le = omega arith

subtracts : (reg rn part n base : ℕ) (high : Bool) (r : Registers) (m : Memory) → reg ≤ 30 → rn ≤ 30 → (if high then part * 4096 else part) ≡ n
    → r.x rn ≡ base → base < 2 ^ 64 → n ≤ base
    → step_of (AddSubImm W64 true false reg rn part high) r m ≡ goes_on (put r reg (base - n)) m
unfolding step_of add_sub_imm
subtracts reg rn part n base high r m le_reg le_rn is at small le =
    rw (is, ne_eqb rn 31 (λ e. omega arith), ne_eqb reg 31 (λ e. omega arith), at) (ap (λ (a : ℕ). goes_on (put r reg a) m) (less base n small le))

less_small : (a n : ℕ) → a < 2 ^ 64 → a - n < 2 ^ 64
less_small a n small = omega arith

upper_all : (bytes : ℕ) → bytes < 2 ^ 24 → upper bytes * 4096 + bytes % 4096 ≡ bytes
upper_all bytes small = omega arith

two_less : (a high low bytes : ℕ) → high + low ≡ bytes → a - high - low ≡ a - bytes
two_less a high low bytes e = omega arith

-- one difference, with a word of a register
less_one : (z : Setting) (c : Machine) (reg rn part n base : ℕ) (high : Bool) → IsWhole z c → reg ≤ 30 → reg ≢ 18 → rn ≤ 30
    → (if high then part * 4096 else part) ≡ n → c.registers.x rn ≡ base → base < 2 ^ 64 → n ≤ base
    → DoesOne z c (AddSubImm W64 true false reg rn part high) (with_reg c reg (base - n))
less_one z c reg rn part n base high whole le other le_rn is at small most =
    puts_one z c (AddSubImm W64 true false reg rn part high) reg (base - n) whole other (λ pc. refl)
    (λ pc. subtracts reg rn part n base high (moved_to pc c).registers c.memory le le_rn is at small most)

pub below_puts : (z : Setting) (c : Machine) (reg bytes base : ℕ) → IsWhole z c → AreWords c.registers → reg ≤ 30 → reg ≢ 18 → c.registers.x 29 ≡ base
    → bytes < 2 ^ 24 → bytes ≤ base → Puts z c (below_x29 reg bytes) reg (base - bytes)
unfolding below_x29
below_puts z c reg bytes base whole words le other at few most =
    let base_small : base < 2 ^ 64 = subst (λ n. n < 2 ^ 64) at (words.x 29) in
    elim (nat_le bytes 4095) as (λ b. Puts z c (if b then AddSubImm W64 true false reg 29 bytes false ∷ [] else
    AddSubImm W64 true false reg 29 (upper bytes) true ∷ unless_zero (bytes % 4096) (AddSubImm W64 true false reg reg (bytes % 4096) false ∷ [])) reg
    (base - bytes)) [
      | true ↦ puts_by_one z c (AddSubImm W64 true false reg 29 bytes false) reg (base - bytes)
          (less_one z c reg 29 bytes bytes base false whole le other (omega arith) refl at base_small most) words (less_small base bytes base_small)
      | false ↦
          let high : ℕ = upper bytes * 4096 in
          let parts = upper_all bytes few in
          let first = less_one z c reg 29 (upper bytes) high base true whole le other (omega arith) refl at base_small (omega arith) in
          let d : Machine = with_reg c reg (base - high) in
          let words_d = put_words c reg (base - high) words (less_small base high base_small) in
          elim (nat_eq (bytes % 4096) 0) as (λ b. nat_eq (bytes % 4096) 0 ≡ b → Puts z c (AddSubImm W64 true false reg 29 (upper bytes) true
          ∷ (if b then [] else AddSubImm W64 true false reg reg (bytes % 4096) false ∷ [])) reg (base - bytes)) [
            | true ↦ λ none.
                let zero_is : bytes % 4096 ≡ 0 = grind (arith, nat_tests) in
                let same : high ≡ bytes = omega arith in
                subst (λ n. Puts z c (AddSubImm W64 true false reg 29 (upper bytes) true ∷ []) reg (base - n)) same
                (puts_by_one z c (AddSubImm W64 true false reg 29 (upper bytes) true) reg (base - high) first words (less_small base high base_small))
            | false ↦ λ some.
                let last : ℕ = base - high - bytes % 4096 in
                let whole_d = whole_same z c d refl refl whole in
                let small_d = less_small base high base_small in
                let second = less_one z d reg reg (bytes % 4096) (bytes % 4096) (base - high) false whole_d le other le refl
                (put_same c reg (base - high)) small_d (omega arith) in
                subst (λ n. Puts z c (AddSubImm W64 true false reg 29 (upper bytes) true ∷ AddSubImm W64 true false reg reg (bytes % 4096) false ∷ []) reg n)
                (two_less base high (bytes % 4096) bytes parts)
                (record {
                  after = with_reg d reg last;
                  does = does_first z c d (with_reg d reg last) (AddSubImm W64 true false reg 29 (upper bytes) true)
                      (AddSubImm W64 true false reg reg (bytes % 4096) false ∷ []) first
                      (does_one z d (with_reg d reg last) (AddSubImm W64 true false reg reg (bytes % 4096) false) second);
                  sp = refl;
                  memory = refl;
                  flags = refl;
                  put = put_same d reg last;
                  others = λ r differ. put_other d reg last r differ ∙ put_other c reg (base - high) r differ;
                  words = put_words d reg last words_d (less_small (base - high) (bytes % 4096) small_d);
                })
          ] refl
    ]

-- ---- where a slot stands

pub slot_there : (m : MachineStart) (bytes : ℕ) (offsets sizes : List ℕ) (n : ℕ) → length offsets ≡ length sizes → n < length sizes
    → All (IsGoodSlot bytes) (slot_rows offsets sizes)
    → (slice_get (map (placement.slot_address m) (slot_rows offsets sizes)) n ≡ Some (frame_pointer_of m - get_or offsets n 0))
    × (get_or offsets n 0 + 16 ≤ bytes)
slot_there m bytes [] [] n same lt goods = absurd (omega arith)
slot_there m bytes [] (size ∷ sizes) n same lt goods = absurd (omega arith)
slot_there m bytes (offset ∷ offsets) [] n same lt goods = absurd (omega arith)
slot_there m bytes (offset ∷ offsets) (size ∷ sizes) zero same lt goods =
    (refl, (All-head (IsGoodSlot bytes) (record { offset = offset; size = size }) (slot_rows offsets sizes) goods).begins)
slot_there m bytes (offset ∷ offsets) (size ∷ sizes) (suc n) same lt goods =
    slot_there m bytes offsets sizes n (omega arith) (omega arith)
    (All-tail (IsGoodSlot bytes) (record { offset = offset; size = size }) (slot_rows offsets sizes) goods)

-- ---- steps of the run of Air

module _ (start : Start) (i : AirInst) (s : State) where
  slot_means : (width : Width) (n at : ℕ) → kind_of i.op ≡ SlotAddresses → slice_get start.slots n ≡ Some at
      → meaning start (operation i) ((width, n) ∷ []) s.world ≡ Some (record { results = at ∷ []; world = s.world; exit = None })
  unfolding meaning
  slot_means width n at kind there = rw (kind, there) refl

  pointer_means : kind_of i.op ≡ FramePointers
      → meaning start (operation i) [] s.world ≡ Some (record { results = start.frame_pointer ∷ []; world = s.world; exit = None })
  unfolding meaning
  pointer_means kind = rw kind refl

-- a slot of the procedure
abbrev pub IsOwnSlot : Setting → Arg → Type 0
IsOwnSlot z (FrameSlot n) = n < length z.procedure.slots
IsOwnSlot z _ = ⊥

module _ (z : Setting) (set : IsSet z) (serves : IsFrameOf z.procedure z.frame) where
  -- a word that was put in the register of a result is put in its place
  finish_puts : (s : State) (c : Machine) (insts : List Inst) (home : Home) (word : ℕ) (width : Width) → IsRelated z s c → IsPlaceFor z home
      → Puts z c insts (result_reg (At home)) word
      → Finished z set serves s c (insts ++ put_result z.frame (result_reg (At home)) (At home)) home (Holds width word)
  unfolding put_result
  finish_puts s c insts (Reg r) word width rel may puts = record {
    after = puts.after;
    does = does_both z c puts.after puts.after insts [] puts.does (does_none z puts.after);
    related = reg_related z set serves s c puts.after r word word width may.0 may.1
        (record {
          sp = puts.sp;
          memory = puts.memory;
          put = puts.put;
          others = λ q kept differ. puts.others q differ;
          words = puts.words;
        }) refl rel;
  }
  finish_puts s c insts (Spill n) word width rel may puts =
      let m : Machine = puts.after in
      let f = spill_stores z set serves s c m 17 n word word width rel
      (record { sp = puts.sp; memory = puts.memory; x = λ r kept. puts.others r (kept_differs 17 r scratch_17 kept); words = puts.words })
      may (omega arith) (λ f. absurd (omega arith)) puts.put (subst (λ v. v < 2 ^ 64) puts.put (puts.words.x 17)) refl in
      record {
        after = f.after;
        does = does_both z c m f.after insts (store_at 17 (above_sp z.frame (spill_offset z.frame n))) puts.does f.does;
        related = f.related;
      }
  finish_puts s c insts (Tmp n) word width rel may puts = absurd may

  address_ends : (i : AirInst) (s : State) (c : Machine) (d : Operand) (home : Home) (bytes w : ℕ) → IsWritten d home → IsRelated z s c → IsPlaceFor z home
      → bytes < 2 ^ 24 → bytes ≤ frame_pointer_of z.entry → frame_pointer_of z.entry - bytes ≡ w
      → inst_code z.frame i.op i.operands ≡ frame_address z.frame bytes d.arg
      → ((junk : List ℕ) → step (meaning z.start) i s junk ≡ (Goes None (with_home s home (Holds d.width w)), junk)) → Carried z i s c
  address_ends i s c d home bytes w is rel may few most at code steps =
      let reg = result_most z set serves home may in
      let puts = below_puts z c (result_reg (At home)) bytes (frame_pointer_of z.entry) (whole_of z set serves c rel.frame) rel.frame.words reg.0 reg.1
      rel.frame.x29 few most in
      let last = finish_puts s c (below_x29 (result_reg (At home)) bytes) home (frame_pointer_of z.entry - bytes) d.width rel may puts in
      record {
        next = with_home s home (Holds d.width w);
        after = last.after;
        steps = steps;
        does = subst (λ insts. Does z c insts last.after) (sym code)
            (subst (λ to. Does z c (frame_address z.frame bytes to) last.after) (sym is.arg) last.does);
        related = subst (λ n. IsRelated z (with_home s home (Holds d.width n)) last.after) at last.related;
        world = (refl, refl);
      }

  pub slot_runs : (i : AirInst) (s : State) (c : Machine) (a d : Operand) (home : Home) (n : ℕ) → i.operands ≡ a ∷ d ∷ [] → a.arg ≡ FrameSlot n
      → inst_code z.frame i.op (a ∷ d ∷ []) ≡ frame_address z.frame (slot_offset z.frame a.arg) d.arg
      → kind_of i.op ≡ SlotAddresses → a.role ≡ Use → n < length z.procedure.slots
      → IsWritten d home → IsRelated z s c → IsPlaceFor z home → InstRuns z i s c
  unfolding word_of
  slot_runs i s c a d home n operands slot code kind role lt is rel may =
      let there = slot_there z.entry z.frame.bytes z.frame.slots z.procedure.slots n serves.slots lt serves.good.slots in
      let offset : ℕ = get_or z.frame.slots n 0 in
      let limit = serves.good.limit in
      let room = set.room in
      let begins = there.1 in
      let reads : words s.homes i.operands ≡ Some ((a.width, n) ∷ []) =
      ap (words s.homes) operands ∙ words_use s.homes a (d ∷ []) role
      ∙ ap (and_word a.width (word_of s.homes a.width a.arg)) (words_result s.homes d home is)
      ∙ ap (λ arg. and_word a.width (word_of s.homes a.width arg) (Some [])) slot in
      let writes = ap targets operands ∙ targets_use a (d ∷ []) role ∙ targets_result d home is in
      inr (address_ends i s c d home offset (frame_pointer_of z.entry - offset) is rel may (omega arith) (omega arith) refl
      (ap (inst_code z.frame i.op) operands ∙ code ∙ ap (λ arg. frame_address z.frame (slot_offset z.frame arg) d.arg) slot)
      (step_gives z.start i s ((a.width, n) ∷ []) home d.width (frame_pointer_of z.entry - offset) reads writes
      (slot_means z.start i s a.width n (frame_pointer_of z.entry - offset) kind
      (ap (λ slots. slice_get slots n) set.slots ∙ there.0))))

  pub pointer_runs : (i : AirInst) (s : State) (c : Machine) (d : Operand) (home : Home) → i.operands ≡ d ∷ []
      → inst_code z.frame i.op (d ∷ []) ≡ frame_address z.frame 0 d.arg → kind_of i.op ≡ FramePointers
      → IsWritten d home → IsRelated z s c → IsPlaceFor z home → InstRuns z i s c
  pointer_runs i s c d home operands code kind is rel may =
      let reads = ap (words s.homes) operands ∙ words_result s.homes d home is in
      let writes = ap targets operands ∙ targets_result d home is in
      let here : frame_pointer_of z.entry - 0 ≡ frame_pointer_of z.entry = omega arith in
      inr (address_ends i s c d home 0 z.start.frame_pointer is rel may (omega arith) (omega arith) (here ∙ sym set.frame_pointer)
      (ap (inst_code z.frame i.op) operands ∙ code)
      (step_gives z.start i s [] home d.width z.start.frame_pointer reads writes (pointer_means z.start i s kind)))
