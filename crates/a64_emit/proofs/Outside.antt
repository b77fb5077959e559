-- Where the outside acts: what it leaves is related to what the run of Air goes on with.
use mathlib.Core.Path.{fun_ext}
use Rattle.std.proofs.Common.{◌≡◌, ◌≢◌, ℕ, zero, suc, ◌+◌, ◌-◌, ◌*◌, ◌%◌, ◌^◌, ◌<◌, ◌≤◌, ◌⊎◌, Bool, true, false, inl, inr, ⊎_elim, List, [], ◌∷◌, ◌++◌, Option, Some, None, length, map, drop, nat_eq, refl, sym, ap, ◌∙◌, subst, arith, length-append}
use Rattle.std.specs.Prelude.{All, Contains, IfSome, is_some, if◌then◌else◌, nat_lt, ◌&&◌, ◌||◌}
use Rattle.std.specs.Option.{option_or}
use Rattle.std.proofs.lemmas.Bool.{ne_eqb}
use Rattle.std.proofs.lemmas.Bool.Decides.{nat_tests}
use Rattle.std.proofs.lemmas.List.Elements.{All-head, All-tail}
use Rattle.b3_base.specs.Arithmetic.{low}
use Rattle.b3_base.specs.Memory.{AreBytes, byte_address, read_word}
use Rattle.b3_base.specs.Observed.{Answer, Event, Give, Leave, Memory, Start}
use Rattle.b3_base.specs.Ranged.{IsRangedAnswer}
use Rattle.b3_base.specs.declared.observation.Status.{Status}
use Rattle.b3_base.specs.declared.observation.Status.TheVariants.{Left as HasLeft, Waiting}
use Rattle.b3_base.specs.declared.word.Width.{Width}
use Rattle.b3_base.specs.declared.word.Width.TheVariants.{W32, W64}
use Rattle.b3_base.proofs.WordLaws.{read_word_same}
use Rattle.b3_ir.specs.declared.value.Reg.{Reg as Register}
use Rattle.b3_meaning.specs.Run.{with_writes}
use Rattle.stackmap.specs.Registers.{has}
use Rattle.stackmap.specs.Rules.{IsAllocatable}
use Rattle.stackmap.specs.World.{clobbered, junk_at, memory_after, registers_after, result_word, with_result}
use Rattle.stackmap.specs.declared.site.Site.{Site}
use Rattle.a64_inst.specs.Registers.{AreWords}
use Rattle.air_ir.specs.Blocks as air
use Rattle.air_ir.specs.Meaning.{Exit, Over, World, answered, meaning, operation}
use Rattle.air_ir.specs.Operands.{Held, Holds, Homes, Read, Target, first, others, put, put_all, targets, words}
use Rattle.air_ir.specs.Steps.{Goes, State, junk_words, step}
use Rattle.air_ir.specs.declared.operand.Home.TheVariants.{Reg, Spill}
use Rattle.air_ir.specs.declared.procedure.AirInst.{AirInst}
use Rattle.air_ir.proofs.HomeLaws.{cases_home, put-other, put-same}
use Rattle.air_frame.specs.Frames.{IsFrameOf}
use Rattle.air_frame.specs.Needs.{writes}
use Rattle.a64_layout.specs.Machine.{Machine}
use Rattle.a64_run.specs.Machine.{flags_from, saved_at}
use Rattle.a64_run.specs.Placement.{frame_pointer_of, in_frame, in_slot, is_within, visible}
use Rattle.a64_emit.specs.Emitted.{Asks, LeadsBy, RunsTo, Takes, after_event, event_of, log_of, seen_at}
use Rattle.a64_emit.specs.Related.{Carries, HasFrame, IsRelated}
use Rattle.a64_emit.specs.Setting.{IsSet, Setting, row}
use Rattle.a64_emit.proofs.AccessesDone.{caller_hidden, link_hidden, saved_hidden, spill_hidden, unseen}
use Rattle.a64_emit.proofs.AccessesSeen.{is_seen}
use Rattle.a64_emit.proofs.FrameWords.{IsHiddenWord}
use Rattle.a64_emit.proofs.Inner.{GoesOn, InstLeads, IsOn, IsOver, Stops}
use Rattle.a64_emit.proofs.Keeping.{none_still}
use Rattle.a64_emit.proofs.Storing.{reg_differs, same_number, written_saved}
use Rattle.a64_emit.proofs.Straight.{Reaches, ReachesUnlessLost}

-- ---- registers that take words of junk

-- registers as homes that are written, each with a whole word
abbrev pub reg_targets : List ℕ → List Target
reg_targets regs = map (λ r. record { home = Reg (record { 0 = r }); width = W64 }) regs

-- the home of a result
abbrev pub result_targets : Option (Width × Register) → List Target
result_targets None = []
result_targets (Some (width, reg)) = record { home = Reg reg; width = width } ∷ []

contains_later : (q : ℕ) (regs : List ℕ) (r : ℕ) → Contains (q ∷ regs) r → q ≢ r → Contains regs r
contains_later q regs r (zero, lt, is) differ = absurd (differ is)
contains_later q regs r (suc k, lt, is) differ = (k, omega arith, is)

-- after junk was put in registers each carries its word, where the words are those of the registers
pub junk_carries : (x : ℕ → ℕ) (regs : List ℕ) (homes : Homes) (r : Register) → Contains regs r.0 ⊎ Carries (homes (Reg r)) (x r.0)
    → Carries (put_all (reg_targets regs) (map x regs) homes (Reg r)) (x r.0)
unfolding put_all
junk_carries x [] homes r had = ⊎_elim (λ (in_none : Contains [] r.0). absurd (omega (arith, in_none.1))) (λ carries. carries) had
junk_carries x (q ∷ regs) homes r had =
    let reg : Register = record { 0 = q } in
    let held : Held = Holds W64 (x q) in
    junk_carries x regs (put homes (Reg reg) held) r
    (⊎_elim
    (λ (same : Reg r ≡ Reg reg).
    let number : r.0 ≡ q = same_number r reg same in
    inr (subst (λ h. Carries h (x r.0)) (sym (put-same homes (Reg reg) (Reg r) held same)) (ap (λ n. x n % 2 ^ 64) number)))
    (λ (differ : Reg r ≢ Reg reg).
    ⊎_elim
    (λ (there : Contains (q ∷ regs) r.0). inl (contains_later q regs r.0 there (λ e. reg_differs r reg differ (sym e))))
    (λ (carries : Carries (homes (Reg r)) (x r.0)).
    inr (subst (λ h. Carries h (x r.0)) (sym (put-other homes (Reg reg) (Reg r) held differ)) carries))
    had)
    (cases_home (Reg r) (Reg reg)))

pub junk_spills : (ws regs : List ℕ) (homes : Homes) (n : ℕ) → put_all (reg_targets regs) ws homes (Spill n) ≡ homes (Spill n)
unfolding put_all
junk_spills ws [] homes n = refl
junk_spills ws (q ∷ regs) homes n =
    junk_spills (others ws) regs (put homes (Reg (record { 0 = q })) (Holds W64 (first ws))) n
    ∙ put-other homes (Reg (record { 0 = q })) (Spill n) (Holds W64 (first ws)) (λ e. cc)

pub put_both : (x : ℕ → ℕ) (regs : List ℕ) (us : List Target) (vs : List ℕ) (homes : Homes)
    → put_all (reg_targets regs ++ us) (map x regs ++ vs) homes ≡ put_all us vs (put_all (reg_targets regs) (map x regs) homes)
unfolding put_all
put_both x [] us vs homes = refl
put_both x (q ∷ regs) us vs homes = put_both x regs us vs (put homes (Reg (record { 0 = q })) (Holds W64 (x q)))

-- the words of a result
abbrev pub result_words : Option (Width × Register) → ℕ → List ℕ
result_words None value = []
result_words (Some result) value = value ∷ []

low_result : (width : Width) (value above : ℕ) → low width (result_word width value above) ≡ low width value
low_result W32 value above = omega arith
low_result W64 value above = refl

result_small : (width : Width) (value above : ℕ) → value < 2 ^ 64 → above < 2 ^ 64 → result_word width value above < 2 ^ 64
result_small W32 value above small_v small_a = omega arith
result_small W64 value above small_v small_a = small_v

-- what a result leaves in homes and registers
result_carries : (result : Option (Width × Register)) (words x : ℕ → ℕ) (value : ℕ) (homes : Homes)
    → ((r : Register) → IsAllocatable r → Carries (homes (Reg r)) (x r.0)) → (r : Register) → IsAllocatable r
    → Carries (put_all (result_targets result) (result_words result value) homes (Reg r)) (with_result result words value x r.0)
unfolding put_all
result_carries None words x value homes carries r may = carries r may
result_carries (Some (width, reg)) words x value homes carries r may =
    ⊎_elim
    (λ (same : Reg r ≡ Reg reg).
    let number : r.0 ≡ reg.0 = same_number r reg same in
    subst (λ h. Carries h (if nat_eq r.0 reg.0 then result_word width value (words r.0) else x r.0))
    (sym (put-same homes (Reg reg) (Reg r) (Holds width value) same))
    (rw (same_test r.0 reg.0 number) (low_result width value (words r.0))))
    (λ (differ : Reg r ≢ Reg reg).
    subst (λ h. Carries h (if nat_eq r.0 reg.0 then result_word width value (words r.0) else x r.0))
    (sym (put-other homes (Reg reg) (Reg r) (Holds width value) differ))
    (rw (ne_eqb r.0 reg.0 (reg_differs r reg differ)) (carries r may)))
    (cases_home (Reg r) (Reg reg))
  where
    same_test : (a b : ℕ) → a ≡ b → nat_eq a b ≡ true
    same_test a b e = grind (arith, nat_tests)

result_spills : (result : Option (Width × Register)) (value : ℕ) (homes : Homes) (n : ℕ)
    → put_all (result_targets result) (result_words result value) homes (Spill n) ≡ homes (Spill n)
unfolding put_all
result_spills None value homes n = refl
result_spills (Some (width, reg)) value homes n = put-other homes (Reg reg) (Spill n) (Holds width value) (λ e. cc)

-- ---- the machine after an event

-- the outside finds the machine's registers but the link, and its bytes
pub record IsFound (c d : Machine) : Type 0 where
  pub sp : d.registers.sp ≡ c.registers.sp
  pub memory : d.memory ≡ c.memory
  pub x : (r : ℕ) → r ≢ 30 → d.registers.x r ≡ c.registers.x r
  pub words : AreWords d.registers

-- the registers that a site changes: each is written by the procedure and isn't x29, and its result is in one that values may
-- stand in
pub record Changes (z : Setting) (site : Site) (regs : List ℕ) : Type 0 where
  pub clobbers : (r : ℕ) → has site.clobbers r ≡ true → Contains regs r
  pub written : (r : ℕ) → Contains regs r → (r ≢ 29) × (writes z.procedure r ≡ true)
  pub result : (width : Width) (reg : Register) → site.result ≡ Some (width, reg) → IsAllocatable reg × (writes z.procedure reg.0 ≡ true)

byte_of_option : (writes byte : Option ℕ) (q : ℕ) → IfSome writes (λ b. (q < 2 ^ 64) × (b < 256)) → IfSome byte (λ b. (q < 2 ^ 64) × (b < 256))
    → IfSome (option_or writes byte) (λ b. (q < 2 ^ 64) × (b < 256))
byte_of_option None byte q first second = second
byte_of_option (Some b) byte q first second = first

some_or : (writes byte : Option ℕ) → is_some byte ≡ true → is_some (option_or writes byte) ≡ true
some_or None byte there = there
some_or (Some b) byte there = refl

not_below : (bottom bytes q : ℕ) → (is_within bottom bytes q && nat_lt q bottom) ≡ false
not_below bottom bytes q = grind (arith, nat_tests)

and_some : (seen : Bool) (o w : Option ℕ) → is_some (if seen && is_some o then option_or w o else o) ≡ is_some o
and_some true None w = refl
and_some true (Some b) None = refl
and_some true (Some b) (Some v) = refl
and_some false o w = refl

module _ (z : Setting) (set : IsSet z) (serves : IsFrameOf z.procedure z.frame) (c d : Machine) (found : IsFound c d) (frame : HasFrame z c) (site : Site)
    (regs : List ℕ) (changes : Changes z site regs) (j value : ℕ) (writes_of : Memory) (small : value < 2 ^ 64) (bytes_of : AreBytes writes_of) where
  Seen : ℕ → Bool
  Seen q = is_some (z.entry.memory q) || in_slot (row z) z.entry q

  left_memory : Memory
  left_memory = memory_after (λ q. is_some (z.entry.memory q) || in_slot (row z) z.entry q) (in_frame (row z) z.entry) d.registers.sp writes_of d.memory

  pub after : Machine
  after = record {
    registers = record {
      x = registers_after site z.entry.junk j value d.registers.x;
      sp = d.registers.sp;
      pc = d.registers.pc;
      flags = flags_from (junk_at z.entry.junk j 31);
    };
    memory = memory_after (λ q. is_some (z.entry.memory q) || in_slot (row z) z.entry q) (in_frame (row z) z.entry) d.registers.sp writes_of d.memory;
  }

  -- with SP at the frame's bottom nothing is lost
  left_is : (q : ℕ) → left_memory q ≡ (if is_seen (row z) z.entry q && is_some (c.memory q) then option_or (writes_of q) (c.memory q) else c.memory q)
  unfolding left_memory
  left_is q =
      let sp : d.registers.sp ≡ z.entry.sp - z.frame.bytes = found.sp ∙ frame.sp in
      let none : (in_frame (row z) z.entry q && nat_lt q d.registers.sp) ≡ false =
      ap (λ n. in_frame (row z) z.entry q && nat_lt q n) sp ∙ not_below (z.entry.sp - z.frame.bytes) z.frame.bytes q in
      ap (λ b. if b then None else (if is_seen (row z) z.entry q && is_some (d.memory q) then option_or (writes_of q) (d.memory q) else d.memory q)) none
      ∙ ap (λ (m : Memory). if is_seen (row z) z.entry q && is_some (m q) then option_or (writes_of q) (m q) else m q) found.memory

  left_shape : (q : ℕ) → is_some (left_memory q) ≡ is_some (c.memory q)
  left_shape q = ap is_some (left_is q) ∙ and_some (is_seen (row z) z.entry q) (c.memory q) (writes_of q)

  left_bytes : AreBytes left_memory
  left_bytes q =
      subst (λ o. IfSome o (λ b. (q < 2 ^ 64) × (b < 256))) (sym (left_is q))
      (elim (is_seen (row z) z.entry q && is_some (c.memory q)) as
      (λ b. IfSome (if b then option_or (writes_of q) (c.memory q) else c.memory q) (λ b. (q < 2 ^ 64) × (b < 256))) [
        | true ↦ byte_of_option (writes_of q) (c.memory q) q (bytes_of q) (frame.bytes q)
        | false ↦ frame.bytes q
      ])

  left_unseen : (q : ℕ) → is_seen (row z) z.entry q ≡ false → left_memory q ≡ c.memory q
  left_unseen q none = left_is q ∙ ap (λ b. if b && is_some (c.memory q) then option_or (writes_of q) (c.memory q) else c.memory q) none

  left_word : (other : ℕ) → IsHiddenWord z other → read_word left_memory other 8 ≡ read_word c.memory other 8
  left_word other hidden =
      read_word_same left_memory c.memory other 8 (λ i lt. left_unseen (byte_address other i) (unseen z set serves other hidden i lt))

  left_x : (r : ℕ) → r ≢ 30 → has site.clobbers r ≡ false → ((width : Width) (reg : Register) → site.result ≡ Some (width, reg) → r ≢ reg.0)
      → registers_after site z.entry.junk j value d.registers.x r ≡ c.registers.x r
  left_x r not_link none other =
      of_result site.result refl ∙ ap (λ b. if b then junk_at z.entry.junk j r else d.registers.x r) none ∙ found.x r not_link
    where
      of_result : (result : Option (Width × Register)) → site.result ≡ result
          → with_result site.result (junk_at z.entry.junk j) value (clobbered site (junk_at z.entry.junk j) d.registers.x) r
          ≡ clobbered site (junk_at z.entry.junk j) d.registers.x r
      of_result None is = rw is refl
      of_result (Some (width, reg)) is = rw (is, ne_eqb r reg.0 (other width reg is)) refl

  no_clobber : (r : ℕ) → (Contains regs r → ⊥) → has site.clobbers r ≡ false
  no_clobber r none =
      elim (has site.clobbers r) as (λ b. has site.clobbers r ≡ b → b ≡ false) [ true ↦ λ e. absurd (none (changes.clobbers r e)) | false ↦ λ e. refl ] refl

  clobbered_small : (r : ℕ) → clobbered site (junk_at z.entry.junk j) d.registers.x r < 2 ^ 64
  clobbered_small r =
      elim (has site.clobbers r) as (λ b. (if b then junk_at z.entry.junk j r else d.registers.x r) < 2 ^ 64) [
        | true ↦ set.ranged.junk (32 * j + r)
        | false ↦ found.words.x r
      ]

  left_words : (r : ℕ) → registers_after site z.entry.junk j value d.registers.x r < 2 ^ 64
  left_words r =
      elim site.result as (λ o. with_result o (junk_at z.entry.junk j) value (clobbered site (junk_at z.entry.junk j) d.registers.x) r < 2 ^ 64) [
        | None ↦ clobbered_small r
        | Some result ↦
            elim (nat_eq r result.1.0) as (λ b. (if b then result_word result.0 value (junk_at z.entry.junk j r) else
            clobbered site (junk_at z.entry.junk j) d.registers.x r) < 2 ^ 64) [
              | true ↦ result_small result.0 value (junk_at z.entry.junk j r) small (set.ranged.junk (32 * j + r))
              | false ↦ clobbered_small r
            ]
      ]

  not_allocatable : (reg : Register) → IsAllocatable reg → 29 ≢ reg.0
  not_allocatable reg may e = ⊎_elim (λ (le : reg.0 ≤ 14). absurd (omega arith)) (λ (h : (19 ≤ reg.0) × (reg.0 ≤ 28)). absurd (omega (arith, h.1))) may

  pub frame_after : HasFrame z after
  unfolding after left_memory
  frame_after = record {
    sp = found.sp ∙ frame.sp;
    x29 = left_x 29 (λ e. omega arith) (no_clobber 29 (λ there. (changes.written 29 there).0 refl))
        (λ width reg is. not_allocatable reg (changes.result width reg is).0) ∙ frame.x29;
    words = record { x = left_words; sp = found.words.sp; pc = found.words.pc };
    bytes = left_bytes;
    whole = λ address inside. left_shape address ∙ frame.whole address inside;
    mapped = λ address there. left_shape address ∙ frame.mapped address there;
    unmapped = λ address none out. none_still (c.memory address) (left_memory address) (left_shape address) (frame.unmapped address none out);
    caller = left_word (frame_pointer_of z.entry - 0) (caller_hidden z set serves) ∙ frame.caller;
    link = left_word (frame_pointer_of z.entry + 8) (link_hidden z set serves) ∙ frame.link;
    saved = λ s there. left_word (frame_pointer_of z.entry - s.offset) (saved_hidden z set serves s there) ∙ frame.saved s there;
    unsaved = λ r least most none.
        left_x r (λ e. omega arith)
        (no_clobber r (λ there. written_saved z serves r (changes.written r there).1 least most none))
        (λ width reg is e. written_saved z serves reg.0 (changes.result width reg is).1 (subst (λ n. 19 ≤ n) e least) (subst (λ n. n ≤ 28) e most)
        (subst (λ n. saved_at z.frame.saved n ≡ None) e none))
        ∙ frame.unsaved r least most none;
  }

  left_seen : visible (row z) z.entry left_memory ≡ with_writes (visible (row z) z.entry c.memory) writes_of
  left_seen = fun_ext (λ q.
      elim (is_seen (row z) z.entry q) as (λ b. is_seen (row z) z.entry q ≡ b
      → (if b then left_memory q else None)
      ≡ (if is_some (if b then c.memory q else None) then option_or (writes_of q) (if b then c.memory q else None) else None)) [
        | true ↦ λ seen. left_is q
            ∙ ap (λ b. if b && is_some (c.memory q) then option_or (writes_of q) (c.memory q) else c.memory q) seen ∙ of_byte (c.memory q) (writes_of q)
        | false ↦ λ seen. refl
      ] refl)
    where
      of_byte : (o w : Option ℕ) → (if is_some o then option_or w o else o) ≡ (if is_some o then option_or w o else None)
      of_byte None w = refl
      of_byte (Some b) w = refl

  -- the state in which the run of Air goes on
  pub related_after : (s : State) (w : World) → IsRelated z s c → w.memory ≡ with_writes s.world.memory writes_of
      → IsRelated z (record {
        homes = put_all (reg_targets regs ++ result_targets site.result)
            (map (clobbered site (junk_at z.entry.junk j) d.registers.x) regs ++ result_words site.result value) s.homes;
        world = w;
      }) after
  unfolding after left_memory
  related_after s w rel memory =
      let x : ℕ → ℕ = clobbered site (junk_at z.entry.junk j) d.registers.x in
      let middle : Homes = put_all (reg_targets regs) (map x regs) s.homes in
      let same = put_both x regs (result_targets site.result) (result_words site.result value) s.homes in
      record {
        frame = frame_after;
        registers = λ r may.
            subst (λ (h : Homes). Carries (h (Reg r)) (registers_after site z.entry.junk j value d.registers.x r.0)) (sym same)
            (result_carries site.result (junk_at z.entry.junk j) x value middle (λ q may_q. junk_carries x regs s.homes q (kept q may_q)) r may);
        spills = λ n offset named there.
            let held = rel.spills n offset named there in (
              held.0,
              left_word (frame_pointer_of z.entry - offset) (spill_hidden z set serves n offset named there) ∙ held.1,
              subst (λ (h : Homes). Carries (h (Spill n)) held.0) (sym same)
                  (subst (λ h. Carries h held.0) (sym (result_spills site.result value middle n ∙ junk_spills (map x regs) regs s.homes n)) held.2),
            );
        memory = memory ∙ ap (λ (m : Memory). with_writes m writes_of) rel.memory ∙ sym left_seen;
      }
    where
      not_link : (q : Register) → IsAllocatable q → q.0 ≢ 30
      not_link q may e = ⊎_elim (λ (le : q.0 ≤ 14). absurd (omega arith)) (λ (h : (19 ≤ q.0) × (q.0 ≤ 28)). absurd (omega (arith, h.1))) may

      kept : (q : Register) → IsAllocatable q
          → Contains regs q.0 ⊎ Carries (s.homes (Reg q)) (clobbered site (junk_at z.entry.junk j) d.registers.x q.0)
      kept q may =
          elim (has site.clobbers q.0) as (λ b. has site.clobbers q.0 ≡ b
          → Contains regs q.0 ⊎ Carries (s.homes (Reg q)) (if b then junk_at z.entry.junk j q.0 else d.registers.x q.0)) [
            | true ↦ λ e. inl (changes.clobbers q.0 e)
            | false ↦ λ e. inr (subst (Carries (s.homes (Reg q))) (sym (found.x q.0 (not_link q may))) (rel.registers q may))
          ] refl

-- ---- the step of the run of Air

junk_front : (ws rest : List ℕ) → junk_words (length ws) (ws ++ rest) ≡ ws
unfolding junk_words
junk_front [] rest = refl
junk_front (w ∷ ws) rest = ap (λ (xs : List ℕ). w ∷ xs) (junk_front ws rest)

drop_front : (ws rest : List ℕ) → drop (length ws) (ws ++ rest) ≡ rest
drop_front [] rest = refl
drop_front (w ∷ ws) rest = drop_front ws rest

-- an instruction that takes these words of junk
pub step_with : (start : Start) (i : AirInst) (s : State) (rs : List Read) (ts : List Target) (ws values : List ℕ) (w : World) (exit : Option Exit)
    → words s.homes i.operands ≡ Some rs → targets i.operands ≡ ts
    → meaning start (operation i) rs s.world ≡ Some (record { results = values; world = w; exit = exit }) → length ts ≡ length ws + length values
    → (rest : List ℕ) → step (meaning start) i s (ws ++ rest)
    ≡ (Goes exit (record { homes = put_all ts (ws ++ values) s.homes; world = w }), rest)
unfolding step
step_with start i s rs ts ws values w exit reads writes means count rest =
    let n : length ts - length values ≡ length ws = omega arith in
    rw (reads, writes, means)
    (ap (λ k. (Goes exit (record { homes = put_all ts (junk_words k (ws ++ rest) ++ values) s.homes; world = w }), drop k (ws ++ rest))) n
    ∙ ap (λ (js : List ℕ). (Goes exit (record { homes = put_all ts (js ++ values) s.homes; world = w }), drop (length ws) (ws ++ rest))) (junk_front ws rest)
    ∙ ap (λ (left : List ℕ). (Goes exit (record { homes = put_all ts (ws ++ values) s.homes; world = w }), left)) (drop_front ws rest))

-- ---- what is asked

-- a word for each
abbrev pub none_of : List Target → List ℕ
none_of ts = map (λ t. 0) ts

pub zeros_count : (ts : List Target) → length ts ≡ length (none_of ts) + 0
zeros_count [] = refl
zeros_count (t ∷ ts) = let more = zeros_count ts in omega arith

pub regs_count : (x : ℕ → ℕ) (regs : List ℕ) → length (reg_targets regs) ≡ length (map x regs)
regs_count x [] = refl
regs_count x (r ∷ regs) = ap suc (regs_count x regs)

-- the run of Air and the machine ask the outside at the same place
pub record IsAsking (z : Setting) (i : AirInst) (s : State) (k : ℕ) (c : Machine) (to : ℕ) : Type 0 where
  pub at : ℕ
  pub last : Machine
  pub runs : RunsTo z 0 k c at last
  pub asks : Asks z at last
  pub behind : at + asks.site.size ≡ to
  pub found : IsFound last asks.found
  pub related : IsRelated z s last
  pub regs : List ℕ
  pub changes : Changes z asks.site regs
  pub rs : List Read
  pub reads : words s.homes i.operands ≡ Some rs
  pub writes : targets i.operands ≡ reg_targets regs ++ result_targets asks.site.result
  pub means : meaning z.start (operation i) rs s.world
      ≡ answered (is_some asks.site.result) (record s.world { events = s.world.events ++ event_of z at last asks ∷ [] }) s.world.answers

module _ (z : Setting) (set : IsSet z) (serves : IsFrameOf z.procedure z.frame) (i : AirInst) (s : State) (k : ℕ) (c : Machine) (to : ℕ)
    (q : IsAsking z i s k c to) where
  asked : World → World
  asked w = record w { events = w.events ++ event_of z q.at q.last q.asks ∷ [] }

  Ts : List Target
  Ts = reg_targets q.regs ++ result_targets q.asks.site.result

  zeros : List ℕ
  zeros = none_of (reg_targets q.regs ++ result_targets q.asks.site.result)

  seen_found : s.world.memory ≡ visible (row z) z.entry q.asks.found.memory
  seen_found = q.related.memory ∙ ap (visible (row z) z.entry) (sym q.found.memory)

  -- the run waits or has left
  stops : (status : Status) (rest : List Answer)
      → meaning z.start (operation i) q.rs s.world ≡ Some (record {
        results = [];
        world = record (record s.world { events = s.world.events ++ event_of z q.at q.last q.asks ∷ [] }) { answers = rest };
        exit = Some (Over status);
      })
      → ((next : air.Config)
      → next ≡ air.Stopped (seen_at z (record { events = s.world.events ++ event_of z q.at q.last q.asks ∷ []; answers = rest }) q.asks.found status)
      → Takes (λ log k c. LeadsBy 0 z 0 log next k c) z s.world.events s.world.answers next q.at q.last q.asks)
      → Stops z i s k c
  unfolding zeros LeadsBy
  stops status rest means takes =
      let ts : List Target = reg_targets q.regs ++ result_targets q.asks.site.result in
      let w : World = record (record s.world { events = s.world.events ++ event_of z q.at q.last q.asks ∷ [] }) { answers = rest } in
      let count : length ts ≡ length zeros + 0 = zeros_count ts in
      record {
        junk = zeros;
        state = record { homes = put_all ts (zeros ++ []) s.homes; world = w };
        status = status;
        steps = step_with z.start i s q.rs ts zeros [] w (Some (Over status)) q.reads q.writes means count;
        reaches = (
          1,
          inr (record {
            at = q.at;
            last = q.last;
            runs = q.runs;
            asks = q.asks;
            takes = takes (air.Stopped (air.seen_as w status))
                (ap (λ (m : Memory). air.Stopped (record {
                  status = status;
                  events = s.world.events ++ event_of z q.at q.last q.asks ∷ [];
                  memory = m;
                })) seen_found);
          }),
        );
      }

  results_are : (result : Option (Width × Register)) (value : ℕ) → (if is_some result then value ∷ [] else []) ≡ result_words result value
  results_are None value = refl
  results_are (Some r) value = refl

  counts_are : (result : Option (Width × Register)) (value : ℕ) → length (result_targets result) ≡ length (result_words result value)
  counts_are None value = refl
  counts_are (Some r) value = refl

  goes : (value : ℕ) (writes_of : Memory) (rest : List Answer) → s.world.answers ≡ Give value writes_of ∷ rest → value < 2 ^ 64 → AreBytes writes_of
      → All IsRangedAnswer rest → GoesOn z i s k c to
  unfolding after LeadsBy
  goes value writes_of rest is small bytes ranged =
      let site : Site = q.asks.site in
      let j : ℕ = length s.world.events in
      let d : Machine = q.asks.found in
      let ts : List Target = reg_targets q.regs ++ result_targets site.result in
      let events : List Event = s.world.events ++ event_of z q.at q.last q.asks ∷ [] in
      let x : ℕ → ℕ = clobbered site (junk_at z.entry.junk j) d.registers.x in
      let ws : List ℕ = map x q.regs in
      let values : List ℕ = result_words site.result value in
      let w : World = record { memory = with_writes s.world.memory writes_of; events = events; answers = rest } in
      let answers_are : meaning z.start (operation i) q.rs s.world ≡ Some (record { results = values; world = w; exit = None }) =
      q.means ∙ ap (answered (is_some site.result) (record s.world { events = events })) is
      ∙ ap (λ (vs : List ℕ). Some (record { results = vs; world = w; exit = None })) (results_are site.result value) in
      let count : length ts ≡ length ws + length values =
      let a = length-append (reg_targets q.regs) (result_targets site.result) in
      let b = regs_count x q.regs in
      let e = counts_are site.result value in
      omega arith in
      let next : State = record { homes = put_all ts (ws ++ values) s.homes; world = w } in
      let last : Machine = after_event z q.at q.last q.asks j value writes_of in
      record {
        junk = ws;
        next = next;
        last = last;
        steps = step_with z.start i s q.rs ts ws values w None q.reads q.writes answers_are count;
        related = related_after z set serves q.last d q.found q.related.frame site q.regs q.changes j value writes_of small bytes s w q.related refl;
        ranged = ranged;
        leads = λ config there. leads_of config (subst (λ n. ReachesUnlessLost z (record { events = events; answers = rest }) config n last) (sym q.behind) there);
      }
    where
      on_by : (config : air.Config)
          → Reaches z (record { events = s.world.events ++ event_of z q.at q.last q.asks ∷ []; answers = rest }) config (q.at + q.asks.site.size)
          (after_event z q.at q.last q.asks (length s.world.events) value writes_of)
          → Reaches z (log_of s.world) config k c
      on_by config there = (
        suc there.0,
        inr (record {
          at = q.at;
          last = q.last;
          runs = q.runs;
          asks = q.asks;
          takes = subst (λ answers. Takes (λ log k c. LeadsBy there.0 z 0 log config k c) z s.world.events answers config q.at q.last q.asks) (sym is) there.1;
        }),
      )

      leads_of : (config : air.Config)
          → ReachesUnlessLost z (record { events = s.world.events ++ event_of z q.at q.last q.asks ∷ []; answers = rest }) config (q.at + q.asks.site.size)
          (after_event z q.at q.last q.asks (length s.world.events) value writes_of)
          → ReachesUnlessLost z (log_of s.world) config k c
      leads_of air.Lost there = tt
      leads_of (air.At b t) there = on_by (air.At b t) there
      leads_of (air.Stopped seen) there = on_by (air.Stopped seen) there

  by_answers : (answers : List Answer) → s.world.answers ≡ answers → All IsRangedAnswer answers → InstLeads z i s k c to
  by_answers [] is ranged =
      IsOver (stops Waiting [] (q.means ∙ ap (answered (is_some q.asks.site.result) (record s.world { events = s.world.events ++ event_of z q.at q.last q.asks ∷ [] })) is
      ∙ ap (λ (rest : List Answer). Some (record {
        results = [];
        world = record { memory = s.world.memory; events = s.world.events ++ event_of z q.at q.last q.asks ∷ []; answers = rest };
        exit = Some (Over Waiting);
      })) is)
      (λ next e. subst (λ answers. Takes (λ log k c. LeadsBy 0 z 0 log next k c) z s.world.events answers next q.at q.last q.asks) (sym is) e))
  by_answers (Leave ∷ rest) is ranged =
      IsOver (stops HasLeft rest (q.means ∙ ap (answered (is_some q.asks.site.result) (record s.world { events = s.world.events ++ event_of z q.at q.last q.asks ∷ [] })) is)
      (λ next e. subst (λ answers. Takes (λ log k c. LeadsBy 0 z 0 log next k c) z s.world.events answers next q.at q.last q.asks) (sym is) e))
  by_answers (Give value writes_of ∷ rest) is ranged =
      let mine = All-head IsRangedAnswer (Give value writes_of) rest ranged in
      IsOn (goes value writes_of rest is mine.0 mine.1 (All-tail IsRangedAnswer (Give value writes_of) rest ranged))

  pub asking_leads : All IsRangedAnswer s.world.answers → InstLeads z i s k c to
  asking_leads ranged = by_answers s.world.answers refl ranged
