-- The epilogue: registers are restored, the frame is left, and the machine stands before its RET.
use Rattle.std.proofs.Common.{◌≡◌, ◌≢◌, ℕ, pos, suc, ◌+◌, ◌-◌, ◌%◌, ◌^◌, ◌<◌, ◌≤◌, ◌⊎◌, true, false, inl, inr, ⊎_elim, List, [], ◌∷◌, ◌++◌, Some, None, refl, sym, ap, ◌∙◌, subst, arith, eq-eqb}
use Rattle.std.specs.Prelude.{All, Contains, nat_eq}
use Rattle.std.proofs.lemmas.Bool.{cases_lt}
use Rattle.std.proofs.lemmas.Bool.Decides.{nat_tests}
use Rattle.std.proofs.lemmas.List.Elements.{All-head, All-tail}
use Rattle.std.proofs.lemmas.Option.{same_Some}
use Rattle.b3_base.specs.Memory.{byte_address, read_word}
use Rattle.b3_base.specs.Observed.{Memory}
use Rattle.b3_base.specs.declared.word.Width.TheVariants.{W64}
use Rattle.exit_table.specs.Good.{IsGoodSaved}
use Rattle.stackmap.specs.declared.site.SavedRow.{SavedRow}
use Rattle.a64_inst.specs.Step.{AreWords, Registers, step_of, goes_on, put, add_sub_imm, load_pair}
use Rattle.a64_inst.specs.declared.inst.Inst.TheVariants.{AddSubImm, PairSp}
use Rattle.a64_layout.specs.Machine.{Machine, moved_to}
use Rattle.a64_run.specs.Machine.{saved_at}
use Rattle.a64_run.specs.Placement.{frame_pointer_of}
use Rattle.a64_code.specs.Places.{above_sp, load_at, restores}
use Rattle.a64_emit.specs.Related.{word_below, HasFrame}
use Rattle.a64_emit.specs.Setting.{Setting, IsSet}
use Rattle.a64_emit.proofs.Entering.{low_byte, with_sp}
use Rattle.a64_emit.proofs.Keeping.{whole_of}
use Rattle.a64_emit.proofs.Straight.{Does, DoesOne, IsWhole, does_both, does_first, does_none, does_one}
use Rattle.a64_emit.proofs.Words.{IsPlaced, TouchesWell, does_safely, load_puts, put_other, put_same, put_words, touches_nothing, whole_same, with_reg}
use Rattle.air_frame.specs.Frames.{IsFrameOf}

-- ---- registers are restored

-- the word of each row is that of its register at entry
abbrev pub HaveWords : Setting → Machine → List SavedRow → Type 0
HaveWords z c [] = Unit {0}
HaveWords z c (s ∷ rows) = (word_below z c s.offset ≡ Some (z.entry.registers s.reg.0)) × HaveWords z c rows

pub have_words : (z : Setting) (c : Machine) (all rows : List SavedRow) → ((s : SavedRow) → Contains rows s → Contains all s)
    → ((s : SavedRow) → Contains all s → word_below z c s.offset ≡ Some (z.entry.registers s.reg.0)) → HaveWords z c rows
have_words z c all [] within each = tt
have_words z c all (s ∷ rows) within each = (
  each s (within s (0, omega arith, refl)),
  have_words z c all rows (λ other there. within other (suc there.0, (let lt = there.1 in omega arith), there.2)) each,
)

same_words : (z : Setting) (c d : Machine) (rows : List SavedRow) → d.memory ≡ c.memory → HaveWords z c rows → HaveWords z d rows
same_words z c d [] same have = tt
same_words z c d (s ∷ rows) same have =
    (ap (λ (m : Memory). read_word m (frame_pointer_of z.entry - s.offset) 8) same ∙ have.0, same_words z c d rows same have.1)

-- a register that has its word, or isn't one of these rows
abbrev pub IsBack : Setting → Machine → List SavedRow → ℕ → Type 0
IsBack z c rows r = saved_at rows r ≡ None → c.registers.x r ≡ z.entry.registers r

pub record Restores (z : Setting) (c : Machine) (rows : List SavedRow) : Type 0 where
  pub after : Machine
  pub does : Does z c (restores z.frame rows) after
  pub sp : after.registers.sp ≡ c.registers.sp
  pub memory : after.memory ≡ c.memory
  pub words : AreWords after.registers
  pub others : (r : ℕ) → (r < 19) ⊎ (28 < r) → after.registers.x r ≡ c.registers.x r
  pub back : (r : ℕ) → IsBack z c rows r → after.registers.x r ≡ z.entry.registers r

-- a register that is loaded is back, and the others are as they were
back_after : (z : Setting) (c d : Machine) (s : SavedRow) (rows : List SavedRow) (r : ℕ) → d.registers.x s.reg.0 ≡ z.entry.registers s.reg.0
    → ((q : ℕ) → q ≢ s.reg.0 → d.registers.x q ≡ c.registers.x q) → IsBack z c (s ∷ rows) r → IsBack z d rows r
back_after z c d s rows r loaded others back none =
    elim (nat_eq s.reg.0 r) as (λ b. nat_eq s.reg.0 r ≡ b → d.registers.x r ≡ z.entry.registers r) [
      | true ↦ λ e. let same : s.reg.0 ≡ r = grind (arith, nat_tests) in subst (λ q. d.registers.x q ≡ z.entry.registers q) same loaded
      | false ↦ λ e. others r (λ is. let yes = eq-eqb s.reg.0 r (sym is) in cc) ∙ back (rw e none)
    ] refl

module _ (z : Setting) (set : IsSet z) (serves : IsFrameOf z.procedure z.frame) where
  pub restores_does : (c : Machine) (rows : List SavedRow) → IsWhole z c → AreWords c.registers → c.registers.sp ≡ z.entry.sp - z.frame.bytes
      → ((r : ℕ) → z.entry.registers r < 2 ^ 64) → All (IsGoodSaved z.frame.bytes) rows → HaveWords z c rows → Restores z c rows
  unfolding restores
  restores_does c [] whole words sp small goods have = record {
    after = c;
    does = does_none z c;
    sp = refl;
    memory = refl;
    words = words;
    others = λ r out. refl;
    back = λ r back. back refl;
  }
  restores_does c (s ∷ rows) whole words sp small goods have =
      let is_good = All-head (IsGoodSaved z.frame.bytes) s rows goods in
      let least = is_good.low in
      let most = is_good.high in
      let even = serves.good.aligned in
      let place : IsPlaced z c s.offset =
      record { sp = sp; small = set.ranged.sp; room = set.room; limit = serves.good.limit; place = is_good.place; aligned = omega arith } in
      let first = load_puts z c s.reg.0 s.offset (z.entry.registers s.reg.0) whole words (omega arith) (λ e. omega arith) place (small s.reg.0) have.0 in
      let more = restores_does first.after rows (whole_same z c first.after first.sp first.memory whole) first.words (first.sp ∙ sp) small
      (All-tail (IsGoodSaved z.frame.bytes) s rows goods) (same_words z c first.after rows first.memory have.1) in
      record {
        after = more.after;
        does = does_both z c first.after more.after (load_at s.reg.0 (above_sp z.frame s.offset)) (restores z.frame rows) first.does more.does;
        sp = more.sp ∙ first.sp;
        memory = more.memory ∙ first.memory;
        words = more.words;
        others = λ r out. more.others r out ∙ first.others r (λ e. ⊎_elim (λ (lt : r < 19). omega arith) (λ (lt : 28 < r). omega arith) out);
        back = λ r back. more.back r (back_after z c first.after s rows r first.put first.others back);
      }

-- ---- the frame is left

sp_from_fp : (r : Registers) (m : Memory) (sp : ℕ) → (r.x 29 % 2 ^ 64 + 0 + 0) % 2 ^ 64 ≡ sp
    → step_of (AddSubImm W64 false false 31 29 0 false) r m ≡ goes_on (record r { sp = sp }) m
unfolding step_of add_sub_imm
sp_from_fp r m sp at = rw at refl

pops : (fp lr sp : ℕ) (r : Registers) (m : Memory) → read_word m r.sp 8 ≡ Some fp → read_word m (byte_address r.sp 8) 8 ≡ Some lr → (r.sp + 16) % 2 ^ 64 ≡ sp
    → step_of (PairSp true 29 30 (pos 2)) r m ≡ goes_on (record (put (put r 29 fp) 30 lr) { sp = sp }) m
unfolding step_of load_pair
pops fp lr sp r m first second at = rw (first, second, ← at) refl

-- what the epilogue leaves before its RET
pub record Leaves (z : Setting) (c : Machine) : Type 0 where
  pub after : Machine
  pub does : Does z c (restores z.frame z.frame.saved ++ AddSubImm W64 false false 31 29 0 false ∷ PairSp true 29 30 (pos 2) ∷ []) after
  pub sp : after.registers.sp ≡ z.entry.sp
  pub memory : after.memory ≡ c.memory
  pub words : AreWords after.registers
  pub kept : (r : ℕ) → 19 ≤ r → r ≤ 30 → after.registers.x r ≡ z.entry.registers r
  pub x0 : after.registers.x 0 ≡ c.registers.x 0
  pub whole : IsWhole z after

module _ (z : Setting) (set : IsSet z) (serves : IsFrameOf z.procedure z.frame) (c : Machine) (frame : HasFrame z c) where
  some_room : 16 ≤ z.entry.sp
  some_room = let least = serves.good.least in let room = set.room in omega arith

  first : Restores z c z.frame.saved
  first =
      restores_does z set serves c z.frame.saved (whole_of z set serves c frame) frame.words frame.sp set.ranged.registers serves.good.saved
      (have_words z c z.frame.saved z.frame.saved (λ s there. there) frame.saved)

  second : Machine
  second = with_sp first.after (frame_pointer_of z.entry)

  x29_is : first.after.registers.x 29 ≡ frame_pointer_of z.entry
  x29_is = first.others 29 (inr (omega arith)) ∙ frame.x29

  first_whole : IsWhole z first.after
  first_whole = whole_same z c first.after first.sp first.memory (whole_of z set serves c frame)

  second_one : DoesOne z first.after (AddSubImm W64 false false 31 29 0 false) second
  unfolding second
  second_one =
      let back : (first.after.registers.x 29 % 2 ^ 64 + 0 + 0) % 2 ^ 64 ≡ frame_pointer_of z.entry = let at = x29_is in let small = set.ranged.sp in
      omega arith in
      does_safely z first.after second (AddSubImm W64 false false 31 29 0 false) first_whole
      (touches_nothing first.after (AddSubImm W64 false false 31 29 0 false) (λ pc. refl)) refl
      (λ pc. sp_from_fp (moved_to pc first.after).registers first.after.memory (frame_pointer_of z.entry) back)

  second_whole : IsWhole z second
  unfolding second
  second_whole = let room = some_room in let top = set.aligned in record { aligned = omega arith; whole = first_whole.whole }

  third : Machine
  third = with_sp (with_reg (with_reg second 29 (z.entry.registers 29)) 30 (z.entry.registers 30)) z.entry.sp

  pops_safely : TouchesWell second (PairSp true 29 30 (pos 2))
  unfolding second
  pops_safely pc at n i some lt =
      let both : (frame_pointer_of z.entry, 16) ≡ (at, n) = same_Some (frame_pointer_of z.entry, 16) (at, n) some in
      let at_is : frame_pointer_of z.entry ≡ at = ap (λ (p : ℕ × ℕ). p.0) both in
      let count : 16 ≡ n = ap (λ (p : ℕ × ℕ). p.1) both in
      subst (λ (a : ℕ). frame_pointer_of z.entry ≤ byte_address a i) at_is (low_byte z.entry.sp i some_room set.ranged.sp (omega (arith, count)))

  third_one : DoesOne z second (PairSp true 29 30 (pos 2)) third
  unfolding second third
  third_one =
      let room = some_room in
      let small = set.ranged.sp in
      let same : frame_pointer_of z.entry - 0 ≡ frame_pointer_of z.entry = omega arith in
      let caller : read_word first.after.memory (frame_pointer_of z.entry) 8 ≡ Some (z.entry.registers 29) =
      ap (λ (m : Memory). read_word m (frame_pointer_of z.entry) 8) first.memory ∙ ap (λ a. read_word c.memory a 8) (sym same) ∙ frame.caller in
      let above : byte_address (frame_pointer_of z.entry) 8 ≡ frame_pointer_of z.entry + 8 = omega arith in
      let link : read_word first.after.memory (byte_address (frame_pointer_of z.entry) 8) 8 ≡ Some (z.entry.registers 30) =
      ap (λ a. read_word first.after.memory a 8) above ∙ ap (λ (m : Memory). read_word m (frame_pointer_of z.entry + 8) 8) first.memory ∙ frame.link in
      let up : (frame_pointer_of z.entry + 16) % 2 ^ 64 ≡ z.entry.sp = omega arith in
      does_safely z second third (PairSp true 29 30 (pos 2)) second_whole pops_safely refl
      (λ pc. pops (z.entry.registers 29) (z.entry.registers 30) z.entry.sp (moved_to pc second).registers second.memory caller link up)

  third_kept : (r : ℕ) → 19 ≤ r → r ≤ 30 → third.registers.x r ≡ z.entry.registers r
  unfolding second third
  third_kept r least most =
      ⊎_elim
      (λ below.
      let no_30 : r ≢ 30 = λ e. omega arith in
      let no_29 : r ≢ 29 = λ e. omega arith in
      put_other (with_reg second 29 (z.entry.registers 29)) 30 (z.entry.registers 30) r no_30 ∙ put_other second 29 (z.entry.registers 29) r no_29
      ∙ first.back r (frame.unsaved r least (omega arith)))
      (λ above. ⊎_elim
      (λ lt.
      let is : r ≡ 29 = omega arith in
      subst (λ q. third.registers.x q ≡ z.entry.registers q) (sym is)
      (put_other (with_reg second 29 (z.entry.registers 29)) 30 (z.entry.registers 30) 29 (λ e. omega arith) ∙ put_same second 29 (z.entry.registers 29)))
      (λ ge.
      let is : r ≡ 30 = omega arith in
      subst (λ q. third.registers.x q ≡ z.entry.registers q) (sym is) (put_same (with_reg second 29 (z.entry.registers 29)) 30 (z.entry.registers 30)))
      (cases_lt r 30))
      (cases_lt r 29)

  pub leaving : Leaves z c
  unfolding second third
  leaving = record {
    after = third;
    does = does_both z c first.after third (restores z.frame z.frame.saved) (AddSubImm W64 false false 31 29 0 false ∷ PairSp true 29 30 (pos 2) ∷ [])
        first.does
        (does_first z first.after second third (AddSubImm W64 false false 31 29 0 false) (PairSp true 29 30 (pos 2) ∷ []) second_one
        (does_one z second third (PairSp true 29 30 (pos 2)) third_one));
    sp = refl;
    memory = first.memory;
    words =
        let small = set.ranged.sp in
        let second_words : AreWords second.registers = record { x = first.words.x; sp = omega arith; pc = first.words.pc } in
        let words = put_words (with_reg second 29 (z.entry.registers 29)) 30 (z.entry.registers 30)
        (put_words second 29 (z.entry.registers 29) second_words (set.ranged.registers 29)) (set.ranged.registers 30) in
        record { x = words.x; sp = small; pc = words.pc };
    kept = third_kept;
    x0 = put_other (with_reg second 29 (z.entry.registers 29)) 30 (z.entry.registers 30) 0 (λ e. omega arith)
        ∙ put_other second 29 (z.entry.registers 29) 0 (λ e. omega arith)
        ∙ first.others 0 (inl (omega arith));
    whole = record { aligned = set.aligned; whole = first_whole.whole };
  }
