-- Operands are fetched, and a result is put in its place.
use Rattle.std.proofs.Common.{◌≡◌, ◌≢◌, ℕ, ◌^◌, ◌<◌, ◌≤◌, true, ⊎_elim, List, [], ◌∷◌, Some, refl, ap, ◌∙◌, arith}
use Rattle.std.proofs.lemmas.Option.{same_Some}
use Rattle.b3_base.specs.Arithmetic.{low}
use Rattle.b3_base.specs.declared.word.Width.{Width}
use Rattle.b3_ir.specs.declared.value.Reg.{Reg as Register}
use Rattle.stackmap.specs.Rules.{IsAllocatable}
use Rattle.a64_inst.specs.Step.{AreWords, Registers}
use Rattle.a64_inst.specs.declared.inst.Inst.{Inst}
use Rattle.air_ir.specs.Operands.{Held, Holds, read, word_of}
use Rattle.air_ir.specs.Steps.{State}
use Rattle.air_ir.specs.declared.operand.Arg.{Arg}
use Rattle.air_ir.specs.declared.operand.Arg.TheVariants.{At, Imm, Addr, Index, FrameSlot}
use Rattle.air_ir.specs.declared.operand.Home.{Home}
use Rattle.air_ir.specs.declared.operand.Home.TheVariants.{Reg, Spill, Tmp}
use Rattle.air_frame.specs.Needs.{names, writes}
use Rattle.a64_layout.specs.Machine.{Machine}
use Rattle.a64_emit.specs.Code.{fetch, put_result, result_reg, source_of}
use Rattle.a64_code.specs.Places.{above_sp, load_at, spill_offset, store_at}
use Rattle.a64_emit.specs.Related.{IsRelated}
use Rattle.a64_emit.specs.Setting.{Setting, IsSet}
use Rattle.a64_code.specs.declared.source.Source.{Source}
use Rattle.a64_code.specs.declared.source.Source.TheVariants.{InReg, Constant}
use Rattle.a64_emit.proofs.FrameWords.{word_mapped}
use Rattle.a64_emit.proofs.Keeping.{IsKept, KeepsAll, keeps_related, placed, reads_carried, spill_stands, whole_of, word-small}
use Rattle.a64_code.proofs.Ops.{Gives}
use Rattle.a64_emit.proofs.Storing.{reg_related, spill_related, with_home}
use Rattle.a64_emit.proofs.Straight.{Does, DoesOne, does_first, does_none, does_one}
use Rattle.a64_emit.proofs.Words.{Puts, load_puts, put_other, put_same, put_words, store_puts, with_reg}
use Rattle.air_frame.specs.Frames.{IsFrameOf}

-- an argument that may be fetched: a register that values may stand in, a spill place that is named, or a constant
abbrev pub IsUsable : Setting → Arg → Type 0
IsUsable z (At (Reg r)) = IsAllocatable r
IsUsable z (At (Spill n)) = names z.procedure n ≡ true
IsUsable z (At (Tmp n)) = ⊥
IsUsable z (Imm word) = Unit {0}
IsUsable z (Addr base offset) = ⊥
IsUsable z (Index base index shift) = ⊥
IsUsable z (FrameSlot n) = ⊥

-- a home in which a result may be put: it is one that the procedure writes
abbrev pub IsPlaceFor : Setting → Home → Type 0
IsPlaceFor z (Reg r) = IsAllocatable r × (writes z.procedure r.0 ≡ true)
IsPlaceFor z (Spill n) = names z.procedure n ≡ true
IsPlaceFor z (Tmp n) = ⊥

-- a scratch register
abbrev pub IsScratch : ℕ → Type 0
IsScratch r = (15 ≤ r) × (r ≤ 17)

-- what code does that changes a register alone
pub record Fetched (z : Setting) (c : Machine) (insts : List Inst) (reg : ℕ) : Type 0 where
  pub after : Machine
  pub does : Does z c insts after
  pub sp : after.registers.sp ≡ c.registers.sp
  pub memory : after.memory ≡ c.memory
  pub flags : after.registers.flags ≡ c.registers.flags
  pub others : (r : ℕ) → r ≢ reg → after.registers.x r ≡ c.registers.x r
  pub words : AreWords after.registers

pub kept_differs : (scratch r : ℕ) → IsScratch scratch → IsKept r → r ≢ scratch
kept_differs scratch r is kept e = ⊎_elim (λ (le : r ≤ 14). absurd (omega (arith, is.0))) (λ (le : 18 ≤ r). absurd (omega (arith, is.1))) kept

pub fetched_keeps : (z : Setting) (c : Machine) (insts : List Inst) (scratch : ℕ) → IsScratch scratch → (f : Fetched z c insts scratch) → KeepsAll c f.after
fetched_keeps z c insts scratch is f = record {
  sp = f.sp;
  memory = f.memory;
  x = λ r kept. f.others r (kept_differs scratch r is kept);
  words = f.words;
}

pub allocatable_most : (r : Register) → IsAllocatable r → r.0 ≤ 30
allocatable_most r h = ⊎_elim (λ (le : r.0 ≤ 14). omega arith) (λ (h : (19 ≤ r.0) × (r.0 ≤ 28)). omega (arith, h.1)) h

pub allocatable_other : (r : Register) (scratch : ℕ) → IsAllocatable r → IsScratch scratch → r.0 ≢ scratch
allocatable_other r scratch h is e =
    ⊎_elim (λ (le : r.0 ≤ 14). absurd (omega (arith, is.0))) (λ (h : (19 ≤ r.0) × (r.0 ≤ 28)). absurd (omega (arith, h.0, is.1))) h

-- the word of a source stays where its register does
pub gives_same : (s t : Registers) (a : Source) (width : Width) (w : ℕ) → ((r : ℕ) → a ≡ InReg r → t.x r ≡ s.x r) → Gives s a width w → Gives t a width w
gives_same s t (InReg r) width w same gives = (gives.0, ap (low width) (same r refl) ∙ gives.1)
gives_same s t (Constant k) width w same gives = gives

-- the register of a source that is fetched with another scratch register stays
pub source_differs : (z : Setting) (scratch other : ℕ) (arg : Arg) → IsScratch other → scratch ≢ other → IsUsable z arg → (r : ℕ)
    → source_of scratch arg ≡ InReg r → r ≢ other
source_differs z scratch other (At (Reg q)) is differ usable r e = let same : q.0 ≡ r = cc in λ f. allocatable_other q other usable is (same ∙ f)
source_differs z scratch other (At (Spill n)) is differ usable r e = let same : scratch ≡ r = cc in λ f. differ (same ∙ f)
source_differs z scratch other (At (Tmp n)) is differ usable r e = absurd usable
source_differs z scratch other (Imm word) is differ usable r e = absurd cc
source_differs z scratch other (Addr base offset) is differ usable r e = absurd usable
source_differs z scratch other (Index base index shift) is differ usable r e = absurd usable
source_differs z scratch other (FrameSlot n) is differ usable r e = absurd usable

module _ (z : Setting) (set : IsSet z) (serves : IsFrameOf z.procedure z.frame) where
  -- code that puts nothing
  none_fetched : (c : Machine) (scratch : ℕ) → AreWords c.registers → Fetched z c [] scratch
  none_fetched c scratch words = record {
    after = c;
    does = does_none z c;
    sp = refl;
    memory = refl;
    flags = refl;
    others = λ r differ. refl;
    words = words;
  }

  -- the word of a spill place is loaded
  pub spill_loads : (s : State) (c : Machine) (reg n w : ℕ) (width : Width) → IsRelated z s c → names z.procedure n ≡ true → reg ≤ 30 → reg ≢ 18
      → read width (s.homes (Spill n)) ≡ Some w
      → (v : ℕ) × Puts z c (load_at reg (above_sp z.frame (spill_offset z.frame n))) reg v × (low width v ≡ w)
  spill_loads s c reg n w width rel named le other e =
      let stands = spill_stands z set serves n named in
      let word = rel.spills n (spill_offset z.frame n) named stands.0 in (
        word.0,
        load_puts z c reg (spill_offset z.frame n) word.0 (whole_of z set serves c rel.frame) rel.frame.words le other
            (placed z set serves c (spill_offset z.frame n) rel.frame stands.1.0) (word-small z c (spill_offset z.frame n) word.0 rel.frame word.1) word.1,
        reads_carried width (s.homes (Spill n)) word.0 w word.2 e,
      )

  -- an argument is fetched
  pub fetch_word : (s : State) (c : Machine) (scratch : ℕ) (arg : Arg) (width : Width) (w : ℕ) → IsRelated z s c → IsUsable z arg → IsScratch scratch
      → word_of s.homes width arg ≡ Some w
      → (f : Fetched z c (fetch z.frame scratch arg) scratch) × Gives f.after.registers (source_of scratch arg) width w
  unfolding fetch word_of none_fetched
  fetch_word s c scratch (At (Reg r)) width w rel usable is e = (
    none_fetched c scratch rel.frame.words,
    (
      allocatable_most r usable,
      reads_carried width (s.homes (Reg r)) (c.registers.x r.0) w
          (rel.registers r usable) e,
    ),
  )
  fetch_word s c scratch (At (Spill n)) width w rel usable is e =
      let load = spill_loads s c scratch n w width rel usable (omega (arith, is.1)) (λ f. omega (arith, is.1)) e in (
        record {
          after = load.1.after;
          does = load.1.does;
          sp = load.1.sp;
          memory = load.1.memory;
          flags = load.1.flags;
          others = load.1.others;
          words = load.1.words;
        },
        (omega (arith, is.1), ap (low width) load.1.put ∙ load.2),
      )
  fetch_word s c scratch (At (Tmp n)) width w rel usable is e = absurd usable
  fetch_word s c scratch (Imm word) width w rel usable is e = (none_fetched c scratch rel.frame.words, same_Some _ w e)
  fetch_word s c scratch (Addr base offset) width w rel usable is e = absurd usable
  fetch_word s c scratch (Index base index shift) width w rel usable is e = absurd usable
  fetch_word s c scratch (FrameSlot n) width w rel usable is e = absurd usable

  -- ---- results

  -- a result is made in its register, and is put in its place
  pub record Finished (s : State) (c : Machine) (insts : List Inst) (home : Home) (held : Held) : Type 0 where
    pub after : Machine
    pub does : Does z c insts after
    pub related : IsRelated z (with_home s home held) after

  pub result_most : (home : Home) → IsPlaceFor z home → (result_reg (At home) ≤ 30) × (result_reg (At home) ≢ 18)
  result_most (Reg r) may = (
    allocatable_most r may.0,
    λ e. ⊎_elim (λ (le : r.0 ≤ 14). absurd (omega arith))
        (λ (h : (19 ≤ r.0) × (r.0 ≤ 28)). absurd (omega (arith, h.0))) may.0,
  )
  result_most (Spill n) may = (omega arith, λ e. absurd (omega arith))
  result_most (Tmp n) may = absurd may

  -- a word is stored in its spill place, by way of x15 alone
  pub record Stored (s : State) (c : Machine) (insts : List Inst) (home : Home) (held : Held) : Type 0 where
    pub finished : Finished s c insts home held
    pub others : (r : ℕ) → r ≢ 15 → finished.after.registers.x r ≡ c.registers.x r

  pub spill_stored : (s : State) (c m : Machine) (reg n word result : ℕ) (width : Width) → IsRelated z s c → KeepsAll c m → names z.procedure n ≡ true
      → reg ≤ 30 → reg ≢ 15
      → m.registers.x reg ≡ word → low width word ≡ low width result
      → Stored s m (store_at reg (above_sp z.frame (spill_offset z.frame n))) (Spill n) (Holds width result)
  spill_stored s c m reg n word result width rel keeps named le other is same =
      let stands = spill_stands z set serves n named in
      let mine = keeps_related z s c m keeps rel in
      let f = store_puts z m reg (spill_offset z.frame n) (whole_of z set serves m mine.frame) mine.frame.words le other
      (placed z set serves m (spill_offset z.frame n) mine.frame stands.1.0)
      (word_mapped z set serves.good m (spill_offset z.frame n) stands.1.0 mine.frame.whole) in
      record {
        finished = record {
          after = f.after;
          does = f.does;
          related = spill_related z set serves s m f.after n (m.registers.x reg) result width named
              (record {
                sp = f.sp;
                memory = f.memory;
                small = mine.frame.words.x reg;
                others = λ r kept. f.others r (kept_differs 15 r (omega arith, omega arith) kept);
                words = f.words;
              })
              (ap (low width) is ∙ same) mine;
        };
        others = f.others;
      }

  pub spill_stores : (s : State) (c m : Machine) (reg n word result : ℕ) (width : Width) → IsRelated z s c → KeepsAll c m → names z.procedure n ≡ true
      → reg ≤ 30 → reg ≢ 15
      → m.registers.x reg ≡ word → word < 2 ^ 64 → low width word ≡ low width result
      → Finished s m (store_at reg (above_sp z.frame (spill_offset z.frame n))) (Spill n) (Holds width result)
  spill_stores s c m reg n word result width rel keeps named le other is small same =
      (spill_stored s c m reg n word result width rel keeps named le other is same).finished

  pub finish : (s : State) (c : Machine) (inst : Inst) (home : Home) (width : Width) (result : ℕ) → IsRelated z s c → IsPlaceFor z home
      → DoesOne z c inst (with_reg c (result_reg (At home)) result) → result < 2 ^ 64
      → Finished s c (inst ∷ put_result z.frame (result_reg (At home)) (At home)) home (Holds width result)
  unfolding put_result
  finish s c inst (Reg r) width result rel may one small = record {
    after = with_reg c r.0 result;
    does = does_one z c (with_reg c r.0 result) inst one;
    related = reg_related z set serves s c (with_reg c r.0 result) r result result width may.0 may.1
        (record {
          sp = refl;
          memory = refl;
          put = put_same c r.0 result;
          others = λ q kept differ. put_other c r.0 result q differ;
          words = put_words c r.0 result rel.frame.words small;
        }) refl rel;
  }
  finish s c inst (Spill n) width result rel may one small =
      let m : Machine = with_reg c 17 result in
      let f = spill_stores s c m 17 n result result width rel
      (record {
        sp = refl;
        memory = refl;
        x = λ r kept. put_other c 17 result r (kept_differs 17 r (omega arith, omega arith) kept);
        words = put_words c 17 result rel.frame.words small;
      }) may (omega arith) (λ e. absurd (omega arith)) (put_same c 17 result) small refl in
      record {
        after = f.after;
        does = does_first z c m f.after inst (store_at 17 (above_sp z.frame (spill_offset z.frame n))) one f.does;
        related = f.related;
      }
  finish s c inst (Tmp n) width result rel may one small = absurd may
