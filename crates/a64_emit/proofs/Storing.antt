-- The relation after a result is put in its place.
use Rattle.std.proofs.Common.{◌≡◌, ◌≢◌, ℕ, ◌+◌, ◌-◌, ◌*◌, ◌%◌, ◌^◌, ◌<◌, ◌≤◌, Bool, true, false, inl, inr, ⊎_elim, List, [], ◌∷◌, ◌++◌, map, Some, None, refl, sym, ap, ◌∙◌, subst, arith, nat_eq, eqb-true}
use Rattle.std.specs.Prelude.{◌||◌, is_some, if◌then◌else◌, All, Contains, slice_get, cond}
use Rattle.std.specs.List.{filter, list_any}
use Rattle.std.proofs.lemmas.Bool.{cases_lt}
use Rattle.std.proofs.lemmas.Bool.Decides.{nat_tests}
use Rattle.std.proofs.lemmas.List.Elements.{All-contains, All-cons, All-head, All-nil, All-tail}
use Rattle.std.proofs.lemmas.Option.{same_Some}
use Rattle.b3_base.specs.Arithmetic.{low}
use Rattle.b3_base.specs.Memory.{AreApart, AreBytes, read_word, write_word}
use Rattle.b3_base.specs.Observed.{Memory}
use Rattle.b3_base.specs.declared.word.Width.{Width}
use Rattle.b3_base.specs.declared.word.Width.TheVariants.{W64}
use Rattle.b3_base.proofs.MemoryLaws.{write_word-AreBytes, write_word_keeps}
use Rattle.b3_base.proofs.WordLaws.{read-write_apart, read-write_same, write_word_mapped}
use Rattle.b3_ir.specs.declared.value.Reg.{Reg as Register}
use Rattle.stackmap.specs.Rules.{IsAllocatable}
use Rattle.stackmap.specs.declared.site.Rep.TheVariants.{Slot}
use Rattle.stackmap.specs.declared.site.SavedRow.{SavedRow}
use Rattle.exit_table.specs.Good.{AreDisjoint, IsGoodRep, IsGoodSaved, IsWordOffset, Span, saved_span, slot_span, word_span}
use Rattle.a64_inst.specs.Step.{AreWords}
use Rattle.air_ir.specs.Operands.{Held, Holds, put}
use Rattle.air_ir.specs.Steps.{State}
use Rattle.air_ir.specs.declared.operand.Home.{Home}
use Rattle.air_ir.specs.declared.operand.Home.TheVariants.{Reg, Spill}
use Rattle.air_ir.proofs.HomeLaws.{cases_home, put-other, put-same}
use Rattle.air_frame.specs.Frames.{IsFrameOf}
use Rattle.air_frame.specs.Needs.{callee_saved, names, writes}
use Rattle.a64_layout.specs.Machine.{Machine}
use Rattle.a64_run.specs.Machine.{saved_at}
use Rattle.a64_run.specs.Placement.{frame_pointer_of, visible}
use Rattle.a64_code.specs.Places.{spill_offset}
use Rattle.a64_emit.specs.Related.{Carries, HasFrame, IsRelated}
use Rattle.a64_emit.specs.Setting.{Setting, row, IsSet}
use Rattle.a64_emit.proofs.FrameWords.{all_front, hidden_store, hidden_word, word_mapped, words_apart}
use Rattle.a64_emit.proofs.Keeping.{IsKept, allocatable_kept, none_still, spill_stands}

-- a state with something else in a home
abbrev pub with_home : State → Home → Held → State
with_home s home held = record { homes = put s.homes home held; world = s.world }

-- ---- saved registers

-- a register among some
abbrev is_among : ℕ → List ℕ → Bool
is_among r rs = list_any (λ q. nat_eq q r) rs

not_saved : (rows : List SavedRow) (r : ℕ) → saved_at rows r ≡ None → is_among r (map (λ (s : SavedRow). s.reg.0) rows) ≡ false
not_saved [] r none = refl
not_saved (row ∷ rows) r none =
    elim (nat_eq row.reg.0 r) as (λ b. (if b then Some row.offset else saved_at rows r) ≡ None → (b || is_among r (map (λ (s : SavedRow). s.reg.0) rows)) ≡ false) [
      | true ↦ λ some. absurd cc
      | false ↦ λ rest. not_saved rows r rest
    ] none

among_filtered : (p : ℕ → Bool) (r : ℕ) (rs : List ℕ) → p r ≡ true → is_among r rs ≡ true → is_among r (filter p rs) ≡ true
among_filtered p r [] passes there = absurd cc
among_filtered p r (q ∷ rs) passes there =
    elim (nat_eq q r) as (λ b. nat_eq q r ≡ b → (b || is_among r rs) ≡ true → is_among r (filter p (q ∷ rs)) ≡ true) [
      | true ↦ λ same _. let here : p q ≡ true = ap p (eqb-true q r same) ∙ passes in rw here (rw same refl)
      | false ↦ λ other rest.
          let more : is_among r (filter p rs) ≡ true = among_filtered p r rs passes rest in
          elim (p q) as (λ b. is_among r (cond b (q ∷ filter p rs) (filter p rs)) ≡ true) [ true ↦ rw other more | false ↦ more ]
    ] refl there

among_saved : (r : ℕ) → 19 ≤ r → r ≤ 28 → is_among r callee_saved ≡ true
unfolding callee_saved
among_saved r least most = grind (arith, nat_tests)

-- a register that is written and that callees save has its place
pub written_saved : (z : Setting) → IsFrameOf z.procedure z.frame → (r : ℕ) → writes z.procedure r ≡ true → 19 ≤ r → r ≤ 28 → saved_at z.frame.saved r ≡ None → ⊥
written_saved z serves r written least most none =
    let no = not_saved z.frame.saved r none in
    let yes : is_among r (map (λ (s : SavedRow). s.reg.0) z.frame.saved) ≡ true =
    ap (is_among r) serves.saved ∙ among_filtered (writes z.procedure) r callee_saved written (among_saved r least most) in
    cc

-- ---- words apart

caller_apart : (sp bytes offset : ℕ) → sp < 2 ^ 64 → bytes ≤ sp → 8 ≤ offset → offset + 16 ≤ bytes → AreApart (sp - 16 - 0) 8 (sp - 16 - offset) 8
caller_apart sp bytes offset small room ends begins i j lt_i lt_j e = omega arith

link_apart : (sp bytes offset : ℕ) → sp < 2 ^ 64 → bytes ≤ sp → 8 ≤ offset → offset + 16 ≤ bytes → AreApart (sp - 16 + 8) 8 (sp - 16 - offset) 8
link_apart sp bytes offset small room ends begins i j lt_i lt_j e = omega arith

all_back : (P : Span → Type 0) (xs ys : List Span) → All P (xs ++ ys) → All P ys
all_back P [] ys h = h
all_back P (x ∷ xs) ys h = all_back P xs ys (All-tail P x (xs ++ ys) h)

all_mapped : (P : Span → Type 0) (rows : List SavedRow) → All P (map saved_span rows) → All (λ s. P (saved_span s)) rows
all_mapped P [] h = All-nil (λ s. P (saved_span s))
all_mapped P (s ∷ rows) h =
    All-cons (λ s. P (saved_span s)) s rows (All-head P (saved_span s) (map saved_span rows) h) (all_mapped P rows (All-tail P (saved_span s) (map saved_span rows) h))

swapped : (a b : Span) → AreDisjoint a b → AreDisjoint b a
swapped a b apart = ⊎_elim (λ le. inr le) (λ le. inl le) apart

-- ---- a result in a register

pub reg_differs : (r q : Register) → Reg r ≢ Reg q → r.0 ≢ q.0
reg_differs r q differ e = differ (ap (λ (n : ℕ). Reg (record { 0 = n })) e)

pub same_number : (r q : Register) → Reg r ≡ Reg q → r.0 ≡ q.0
same_number r q e = let same : r ≡ q = cc in ap (λ (x : Register). x.0) same

spill_differs : (m n : ℕ) → Spill m ≢ Spill n → m ≢ n
spill_differs m n differ e = differ (ap Spill e)

-- all but scratch registers and this one is as it was, and it has this word
pub record PutsReg (c d : Machine) (reg word : ℕ) : Type 0 where
  pub sp : d.registers.sp ≡ c.registers.sp
  pub memory : d.memory ≡ c.memory
  pub put : d.registers.x reg ≡ word
  pub others : (r : ℕ) → IsKept r → r ≢ reg → d.registers.x r ≡ c.registers.x r
  pub words : AreWords d.registers

-- all but scratch registers and a word of the frame is as it was
pub record PutsWord (z : Setting) (c d : Machine) (offset word : ℕ) : Type 0 where
  pub sp : d.registers.sp ≡ c.registers.sp
  pub memory : d.memory ≡ write_word c.memory (frame_pointer_of z.entry - offset) 8 word
  pub small : word < 2 ^ 64
  pub others : (r : ℕ) → IsKept r → d.registers.x r ≡ c.registers.x r
  pub words : AreWords d.registers

module _ (z : Setting) (set : IsSet z) (serves : IsFrameOf z.procedure z.frame) where
  reg_frame : (c d : Machine) (reg : Register) (word : ℕ) → IsAllocatable reg → writes z.procedure reg.0 ≡ true → PutsReg c d reg.0 word → HasFrame z c → HasFrame z d
  reg_frame c d reg word may written p f = record {
    sp = p.sp ∙ f.sp;
    x29 = p.others 29 (inr (omega arith)) (λ e. ⊎_elim (λ (le : reg.0 ≤ 14). absurd (omega arith)) (λ (h : (19 ≤ reg.0) × (reg.0 ≤ 28)). absurd (omega (arith, h.1))) may) ∙ f.x29;
    words = p.words;
    bytes = subst AreBytes (sym p.memory) f.bytes;
    whole = λ address inside. ap (λ (m : Memory). is_some (m address)) p.memory ∙ f.whole address inside;
    mapped = λ address there. ap (λ (m : Memory). is_some (m address)) p.memory ∙ f.mapped address there;
    unmapped = λ address none out. ap (λ (m : Memory). m address) p.memory ∙ f.unmapped address none out;
    caller = ap (λ (m : Memory). read_word m (frame_pointer_of z.entry - 0) 8) p.memory ∙ f.caller;
    link = ap (λ (m : Memory). read_word m (frame_pointer_of z.entry + 8) 8) p.memory ∙ f.link;
    saved = λ s there. ap (λ (m : Memory). read_word m (frame_pointer_of z.entry - s.offset) 8) p.memory ∙ f.saved s there;
    unsaved = λ r least most none.
        p.others r (inr (omega arith)) (λ e. written_saved z serves reg.0 written (subst (λ n. 19 ≤ n) e least) (subst (λ n. n ≤ 28) e most)
        (subst (λ n. saved_at z.frame.saved n ≡ None) e none)) ∙ f.unsaved r least most none;
  }

  pub reg_related : (s : State) (c d : Machine) (reg : Register) (word result : ℕ) (width : Width) → IsAllocatable reg → writes z.procedure reg.0 ≡ true
      → PutsReg c d reg.0 word → low width word ≡ low width result → IsRelated z s c → IsRelated z (with_home s (Reg reg) (Holds width result)) d
  reg_related s c d reg word result width may written p is rel = record {
    frame = reg_frame c d reg word may written p rel.frame;
    registers = λ r may_r. ⊎_elim
        (λ (same : Reg r ≡ Reg reg).
        let number : r.0 ≡ reg.0 = same_number r reg same in
        subst (λ h. Carries h (d.registers.x r.0)) (sym (put-same s.homes (Reg reg) (Reg r) (Holds width result) same))
        (ap (λ n. low width (d.registers.x n)) number ∙ ap (low width) p.put ∙ is))
        (λ (differ : Reg r ≢ Reg reg).
        subst (λ h. Carries h (d.registers.x r.0)) (sym (put-other s.homes (Reg reg) (Reg r) (Holds width result) differ))
        (subst (Carries (s.homes (Reg r))) (sym (p.others r.0 (allocatable_kept r may_r) (reg_differs r reg differ))) (rel.registers r may_r)))
        (cases_home (Reg r) (Reg reg));
    spills = λ n offset named there.
        let word_n = rel.spills n offset named there in (
          word_n.0,
          ap (λ (m : Memory). read_word m (frame_pointer_of z.entry - offset) 8) p.memory ∙ word_n.1,
          subst (λ h. Carries h word_n.0) (sym (put-other s.homes (Reg reg) (Spill n) (Holds width result) (λ e. absurd cc))) word_n.2,
        );
    memory = rel.memory ∙ ap (visible (row z) z.entry) (sym p.memory);
  }

  -- ---- a result in a spill place

  saved_apart : (offset : ℕ) (s : SavedRow) → IsGoodRep (row z) W64 (Slot offset) → Contains z.frame.saved s
      → AreApart (frame_pointer_of z.entry - s.offset) 8 (frame_pointer_of z.entry - offset) 8
  saved_apart offset s place there =
      let P : Span → Type 0 = AreDisjoint (word_span W64 offset) in
      let mine : AreDisjoint (word_span W64 offset) (saved_span s) =
      All-contains (λ (t : SavedRow). P (saved_span t)) z.frame.saved s (all_mapped P z.frame.saved (all_back P (map slot_span (row z).slots) (map saved_span z.frame.saved) place.1)) there in
      let its = All-contains (IsGoodSaved z.frame.bytes) z.frame.saved s serves.good.saved there in
      words_apart z set serves.good s.offset offset its.place place.0 (swapped (word_span W64 offset) (saved_span s) mine)

  store_frame : (c d : Machine) (offset word : ℕ) → IsGoodRep (row z) W64 (Slot offset) → PutsWord z c d offset word → HasFrame z c → HasFrame z d
  store_frame c d offset word place p f = record {
    sp = p.sp ∙ f.sp;
    x29 = p.others 29 (inr (omega arith)) ∙ f.x29;
    words = p.words;
    bytes = subst AreBytes (sym p.memory) (write_word-AreBytes c.memory (frame_pointer_of z.entry - offset) 8 word f.bytes);
    whole = λ address inside. ap (λ (m : Memory). is_some (m address)) p.memory
        ∙ write_word_keeps c.memory (frame_pointer_of z.entry - offset) 8 word address (f.whole address inside);
    mapped = λ address there. ap (λ (m : Memory). is_some (m address)) p.memory
        ∙ write_word_keeps c.memory (frame_pointer_of z.entry - offset) 8 word address (f.mapped address there);
    unmapped = λ address none out. ap (λ (m : Memory). m address) p.memory
        ∙ none_still (c.memory address) (write_word c.memory (frame_pointer_of z.entry - offset) 8 word address)
        (write_word_mapped c.memory (frame_pointer_of z.entry - offset) 8 word address
        (word_mapped z set serves.good c offset place.0 f.whole)) (f.unmapped address none out);
    caller = ap (λ (m : Memory). read_word m (frame_pointer_of z.entry - 0) 8) p.memory
        ∙ read-write_apart c.memory (frame_pointer_of z.entry - 0) 8 (frame_pointer_of z.entry - offset) 8 word
        (caller_apart z.entry.sp z.frame.bytes offset set.ranged.sp set.room place.0.ends place.0.begins) ∙ f.caller;
    link = ap (λ (m : Memory). read_word m (frame_pointer_of z.entry + 8) 8) p.memory
        ∙ read-write_apart c.memory (frame_pointer_of z.entry + 8) 8 (frame_pointer_of z.entry - offset) 8 word
        (link_apart z.entry.sp z.frame.bytes offset set.ranged.sp set.room place.0.ends place.0.begins) ∙ f.link;
    saved = λ s there. ap (λ (m : Memory). read_word m (frame_pointer_of z.entry - s.offset) 8) p.memory
        ∙ read-write_apart c.memory (frame_pointer_of z.entry - s.offset) 8 (frame_pointer_of z.entry - offset) 8 word
        (saved_apart offset s place there) ∙ f.saved s there;
    unsaved = λ r least most none. p.others r (inr (omega arith)) ∙ f.unsaved r least most none;
  }

  store_memory : (m : Memory) (offset word : ℕ) → IsGoodRep (row z) W64 (Slot offset)
      → visible (row z) z.entry (write_word m (frame_pointer_of z.entry - offset) 8 word) ≡ visible (row z) z.entry m
  store_memory m offset word place =
      hidden_store z set m (frame_pointer_of z.entry - offset) word
      (hidden_word z set serves.good offset place.0 (all_front (AreDisjoint (word_span W64 offset)) (map slot_span (row z).slots) (map saved_span z.frame.saved) place.1))

  -- another spill place is apart
  others_apart : (m n a b : ℕ) → m ≢ n → names z.procedure m ≡ true → names z.procedure n ≡ true → slice_get z.frame.spills m ≡ Some a → slice_get z.frame.spills n ≡ Some b
      → IsWordOffset z.frame.bytes a → IsWordOffset z.frame.bytes b → AreApart (frame_pointer_of z.entry - a) 8 (frame_pointer_of z.entry - b) 8
  others_apart m n a b differ named_m named_n there_m there_n place_a place_b =
      ⊎_elim (λ (lt : m < n). words_apart z set serves.good a b place_a place_b (serves.apart m n a b named_m named_n lt there_m there_n))
      (λ (le : n ≤ m). words_apart z set serves.good a b place_a place_b
      (swapped (word_span W64 b) (word_span W64 a) (serves.apart n m b a named_n named_m (omega arith) there_n there_m)))
      (cases_lt m n)

  small_word : (w : ℕ) → w < 2 ^ 64 → w % 2 ^ (8 * 8) ≡ w
  small_word w small = omega arith

  pub spill_related : (s : State) (c d : Machine) (n word result : ℕ) (width : Width) → names z.procedure n ≡ true
      → PutsWord z c d (spill_offset z.frame n) word → low width word ≡ low width result → IsRelated z s c → IsRelated z (with_home s (Spill n) (Holds width result)) d
  spill_related s c d n word result width named p is rel =
      let stands = spill_stands z set serves n named in
      let at : ℕ = frame_pointer_of z.entry - spill_offset z.frame n in
      record {
        frame = store_frame c d (spill_offset z.frame n) word stands.1 p rel.frame;
        registers = λ r may.
            subst (λ h. Carries h (d.registers.x r.0)) (sym (put-other s.homes (Spill n) (Reg r) (Holds width result) (λ e. absurd cc)))
            (subst (Carries (s.homes (Reg r))) (sym (p.others r.0 (allocatable_kept r may))) (rel.registers r may));
        spills = λ m offset named_m there.
            ⊎_elim
            (λ (same : Spill m ≡ Spill n).
            let number : m ≡ n = cc in
            let place : offset ≡ spill_offset z.frame n = same_Some offset (spill_offset z.frame n) (sym there ∙ ap (slice_get z.frame.spills) number ∙ stands.0) in (
              word,
              ap (λ (m : Memory). read_word m (frame_pointer_of z.entry - offset) 8) p.memory ∙ ap (λ (o : ℕ). read_word (write_word c.memory at 8 word) (frame_pointer_of z.entry - o) 8) place
                  ∙ read-write_same c.memory at 8 word (omega arith) ∙ ap Some (small_word word p.small),
              subst (λ h. Carries h word) (sym (put-same s.homes (Spill n) (Spill m) (Holds width result) same)) is,
            ))
            (λ (differ : Spill m ≢ Spill n).
            let word_m = rel.spills m offset named_m there in
            let stands_m = spill_stands z set serves m named_m in
            let place : spill_offset z.frame m ≡ offset = same_Some (spill_offset z.frame m) offset (sym stands_m.0 ∙ there) in (
              word_m.0,
              ap (λ (m : Memory). read_word m (frame_pointer_of z.entry - offset) 8) p.memory
                  ∙ read-write_apart c.memory (frame_pointer_of z.entry - offset) 8 at 8 word
                  (others_apart m n offset (spill_offset z.frame n) (spill_differs m n differ) named_m named there stands.0 (subst (IsWordOffset z.frame.bytes) place stands_m.1.0) stands.1.0)
                  ∙ word_m.1,
              subst (λ h. Carries h word_m.0) (sym (put-other s.homes (Spill n) (Spill m) (Holds width result) differ)) word_m.2,
            ))
            (cases_home (Spill m) (Spill n));
        memory = rel.memory ∙ sym (ap (visible (row z) z.entry) p.memory ∙ store_memory c.memory (spill_offset z.frame n) word stands.1);
      }
