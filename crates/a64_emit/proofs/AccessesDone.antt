-- A load and a store of the machine do what those of the run of Air do.
use Rattle.std.proofs.Common.{◌≡◌, ℕ, zero, suc, ◌+◌, ◌-◌, ◌^◌, ◌<◌, ◌≤◌, min, Bool, true, false, not, ◌&&◌, ◌||◌, ⊎_elim, List, [], ◌∷◌, Some, None, length, get_or, refl, sym, ap, ◌∙◌, subst, arith}
use Rattle.std.specs.Prelude.{is_some, if◌then◌else◌, Contains, map, slice_get}
use Rattle.std.proofs.lemmas.Bool.{cases_lt, or_from}
use Rattle.std.proofs.lemmas.Bool.Decides.{nat_tests}
use Rattle.std.proofs.lemmas.List.{length-map}
use Rattle.std.proofs.lemmas.Option.{same_Some}
use Rattle.b3_base.specs.Memory.{byte_address, is_mapped, read_word, write_word}
use Rattle.b3_base.specs.Observed.{Memory, Start}
use Rattle.b3_base.specs.declared.word.Width.TheVariants.{W64}
use Rattle.b3_base.proofs.MemoryLaws.{is_mapped_all, is_mapped_at, write_word-AreBytes, write_word_keeps}
use Rattle.b3_base.proofs.WordLaws.{read-write_apart, write_word_mapped}
use Rattle.b3_meaning.specs.Access.{Accessed, Done, Refused, Trap, access, is_private, touches_private}
use Rattle.b3_meaning.specs.Opcodes.{Undefined, PrivateByte, UnmappedByte}
use Rattle.stackmap.specs.declared.site.SavedRow.{SavedRow}
use Rattle.exit_table.specs.Good.{AreDisjoint, saved_span, slot_span, word_span}
use Rattle.a64_inst.specs.Step.{Stepped, goes_on, step_of}
use Rattle.a64_inst.specs.declared.inst.Inst.{Inst}
use Rattle.air_ir.specs.Steps.{State}
use Rattle.air_frame.specs.Needs.{names}
use Rattle.a64_layout.specs.Machine.{Machine, moved_to}
use Rattle.a64_run.specs.Placement.{frame_pointer_of, in_frame, in_slot, is_within, visible}
use Rattle.a64_emit.specs.Emitted.{IsSafe}
use Rattle.a64_code.specs.Places.{spill_offset}
use Rattle.a64_emit.specs.Related.{HasFrame, IsRelated}
use Rattle.a64_emit.specs.Setting.{Setting, row, IsSet}
use Rattle.a64_emit.proofs.AccessesSeen.{bytes_seen, hidden_apart, is_seen, mapped_seen, write_seen}
use Rattle.a64_emit.proofs.Entering.{good_row}
use Rattle.a64_emit.proofs.FrameWords.{IsHiddenWord, all_front, apart_from_slots, hidden_word, not_in_slot, not_some}
use Rattle.a64_emit.proofs.Keeping.{none_still, spill_stands}
use Rattle.a64_emit.proofs.Straight.{DoesOne, IsWhole}
use Rattle.a64_emit.proofs.Words.{with_memory}
use Rattle.air_frame.specs.Frames.{IsFrameOf}

-- ---- the access of a start

-- an access is done, and its bytes are mapped; or it is undefined; or it traps, and none of its bytes is private but one isn't
-- mapped
pub data Comes (start : Start) (memory : Memory) (address n : ℕ) (traps : Bool) : Type 0 where
  Touches : (done : access start memory address n traps ≡ Done) (mapped : is_mapped memory address n ≡ true) → Comes start memory address n traps
  Fails : (undefined : Undefined) (refused : access start memory address n traps ≡ Refused undefined) → Comes start memory address n traps
  Traps : (trap : access start memory address n traps ≡ Trap address) (may : traps ≡ true) (free : touches_private start address n ≡ false)
      (gap : is_mapped memory address n ≡ false) → Comes start memory address n traps

pub comes_to : (start : Start) (memory : Memory) (address n : ℕ) (traps : Bool) → Comes start memory address n traps
comes_to start memory address n traps =
    let A : Bool → Bool → Bool → Accessed = λ refuses mapped traps. if refuses then Refused PrivateByte else if mapped then Done else
    if traps then Trap address else Refused UnmappedByte in
    let M : Bool = is_mapped memory address n in
    elim (touches_private start address n) as (λ p. touches_private start address n ≡ p → Comes start memory address n traps) [
      | true ↦ λ p. Fails PrivateByte (ap (λ b. A b M traps) p)
      | false ↦ λ p.
          elim (is_mapped memory address n) as (λ b. is_mapped memory address n ≡ b → Comes start memory address n traps) [
            | true ↦ λ m. Touches (ap (λ b. A b M traps) p ∙ ap (λ b. A false b traps) m) m
            | false ↦ λ m.
                elim traps as (λ t. traps ≡ t → Comes start memory address n traps) [
                  | true ↦ λ t. Traps (ap (λ b. A b M traps) p ∙ ap (λ b. A false b traps) m ∙ ap (A false false) t) t p m
                  | false ↦ λ t. Fails UnmappedByte (ap (λ b. A b M traps) p ∙ ap (λ b. A false b traps) m ∙ ap (A false false) t)
                ] refl
          ] refl
    ] refl

or_none_left : (a b : Bool) → (a || b) ≡ false → a ≡ false
or_none_left true b e = cc
or_none_left false b e = refl

or_none_right : (a b : Bool) → (a || b) ≡ false → b ≡ false
or_none_right true b e = cc
or_none_right false b e = e

not_left : (a b : Bool) → (a && not b) ≡ false → b ≡ false → a ≡ false
not_left false b e none = refl
not_left true false e none = cc
not_left true true e none = cc

-- no byte of an access that touches no private byte is hidden
not_hidden : (start : Start) (address n i : ℕ) → touches_private start address n ≡ false → i < n → start.is_hidden (byte_address address i) ≡ false
not_hidden start address zero i none lt = absurd (omega arith)
not_hidden start address (suc n) i none lt =
    ⊎_elim
    (λ (less : i < n). not_hidden start address n i (or_none_left (touches_private start address n) (is_private start (byte_address address n)) none) less)
    (λ (le : n ≤ i).
    let same : n ≡ i = omega arith in
    let last = or_none_right (touches_private start address n) (is_private start (byte_address address n)) none in
    subst (λ j. start.is_hidden (byte_address address j) ≡ false) same
    (or_none_left (start.is_hidden (byte_address address n)) (start.is_code (byte_address address n)) last))
    (cases_lt i n)

-- ---- safety

within_above : (first n q : ℕ) → is_within first n q ≡ true → first ≤ q
within_above first n q inside = grind (arith, nat_tests)

below_min : (a b q : ℕ) → a ≤ q → min a b ≤ q
below_min a b q le = omega arith

-- with SP at the frame's bottom each byte of the frame is at SP or above
pub safe_there : (z : Setting) (c : Machine) (inst : Inst) (pc : ℕ) → c.registers.sp ≡ z.entry.sp - z.frame.bytes
    → (step_of inst (moved_to pc c).registers c.memory).registers.x 18 ≡ c.registers.x 18 → IsSafe z (moved_to pc c) inst
safe_there z c inst pc sp platform = record {
  there = λ at n i some lt inside.
      below_min c.registers.sp (step_of inst (moved_to pc c).registers c.memory).registers.sp (byte_address at i)
      (subst (λ s. s ≤ byte_address at i) (sym sp) (within_above (z.entry.sp - z.frame.bytes) z.frame.bytes (byte_address at i) inside));
  platform = platform;
}

pub does_there : (z : Setting) (c d : Machine) (inst : Inst) → IsWhole z c → c.registers.sp ≡ z.entry.sp - z.frame.bytes
    → d.registers.x 18 ≡ c.registers.x 18
    → ((pc : ℕ) → step_of inst (moved_to pc c).registers c.memory ≡ goes_on (moved_to pc d).registers d.memory) → DoesOne z c inst d
does_there z c d inst whole sp platform does = record {
  does = does;
  safe = λ pc. safe_there z c inst pc sp (ap (λ (t : Stepped). t.registers.x 18) (does pc) ∙ platform);
  whole = whole;
}

-- ---- a store

link_within : (sp bytes i : ℕ) → sp < 2 ^ 64 → bytes ≤ sp → 16 ≤ bytes → i < 8 → is_within (sp - bytes) bytes (byte_address (sp - 16 + 8) i) ≡ true
link_within sp bytes i small room least lt = grind (arith, nat_tests)

caller_within : (sp bytes i : ℕ) → sp < 2 ^ 64 → bytes ≤ sp → 16 ≤ bytes → i < 8 → is_within (sp - bytes) bytes (byte_address (sp - 16 - 0) i) ≡ true
caller_within sp bytes i small room least lt = grind (arith, nat_tests)

link_above : (sp i : ℕ) → sp < 2 ^ 64 → 16 ≤ sp → i < 8 → sp - 16 ≤ byte_address (sp - 16 + 8) i
link_above sp i small room lt = omega arith

caller_above : (sp i : ℕ) → sp < 2 ^ 64 → 16 ≤ sp → i < 8 → sp - 16 ≤ byte_address (sp - 16 - 0) i
caller_above sp i small room lt = omega arith

among_mapped : (rows : List SavedRow) (k : ℕ) (s : SavedRow) → k < length rows → get_or rows k s ≡ s
    → get_or (map saved_span rows) k (saved_span s) ≡ saved_span s
among_mapped [] k s lt e = absurd (omega arith)
among_mapped (first ∷ rows) zero s lt e = ap saved_span e
among_mapped (first ∷ rows) (suc k) s lt e = among_mapped rows k s (omega arith) e

saved_among : (rows : List SavedRow) (s : SavedRow) → Contains rows s → Contains (map saved_span rows) (saved_span s)
saved_among rows s there =
    let count = length-map rows saved_span in
    (there.0, omega (arith, there.1), among_mapped rows there.0 s there.1 there.2)

module _ (z : Setting) (set : IsSet z) (serves : IsFrameOf z.procedure z.frame) where
  pub unseen : (at : ℕ) → IsHiddenWord z at → (i : ℕ) → i < 8 → is_seen (row z) z.entry (byte_address at i) ≡ false
  unseen at hidden i lt =
      or_from (is_some (z.entry.memory (byte_address at i))) (in_slot (row z) z.entry (byte_address at i))
      (not_some z set (byte_address at i) (hidden i lt).0) (hidden i lt).1

  pub link_hidden : IsHiddenWord z (frame_pointer_of z.entry + 8)
  link_hidden i lt =
      let least = serves.good.least in
      let room = set.room in (
        link_within z.entry.sp z.frame.bytes i set.ranged.sp set.room least lt,
        not_in_slot z set serves.good (byte_address (frame_pointer_of z.entry + 8) i) (link_above z.entry.sp i set.ranged.sp (omega arith) lt),
      )

  pub caller_hidden : IsHiddenWord z (frame_pointer_of z.entry - 0)
  caller_hidden i lt =
      let least = serves.good.least in
      let room = set.room in (
        caller_within z.entry.sp z.frame.bytes i set.ranged.sp set.room least lt,
        not_in_slot z set serves.good (byte_address (frame_pointer_of z.entry - 0) i) (caller_above z.entry.sp i set.ranged.sp (omega arith) lt),
      )

  pub saved_hidden : (s : SavedRow) → Contains z.frame.saved s → IsHiddenWord z (frame_pointer_of z.entry - s.offset)
  saved_hidden s there =
      hidden_word z set serves.good s.offset (good_row z.frame.bytes z.frame.saved serves.good.saved s there).place
      (apart_from_slots (row z).slots (map saved_span z.frame.saved) (saved_span s) serves.good.disjoint (saved_among z.frame.saved s there))

  pub spill_hidden : (n offset : ℕ) → names z.procedure n ≡ true → slice_get z.frame.spills n ≡ Some offset → IsHiddenWord z (frame_pointer_of z.entry - offset)
  spill_hidden n offset named there =
      let stands = spill_stands z set serves n named in
      let same : spill_offset z.frame n ≡ offset = same_Some (spill_offset z.frame n) offset (sym stands.0 ∙ there) in
      subst (λ o. IsHiddenWord z (frame_pointer_of z.entry - o)) same
      (hidden_word z set serves.good (spill_offset z.frame n) stands.1.0
      (all_front (AreDisjoint (word_span W64 (spill_offset z.frame n))) (map slot_span (row z).slots) (map saved_span z.frame.saved) stands.1.1))

  module _ (s : State) (c : Machine) (rel : IsRelated z s c) (at n word : ℕ) (mapped : is_mapped s.world.memory at n ≡ true) where
    its_mapped : is_mapped (visible (row z) z.entry c.memory) at n ≡ true
    its_mapped = ap (λ (m : Memory). is_mapped m at n) (sym rel.memory) ∙ mapped

    -- words that aren't seen stand as they were
    still : (other : ℕ) → IsHiddenWord z other → read_word (write_word c.memory at n word) other 8 ≡ read_word c.memory other 8
    still other hidden =
        read-write_apart c.memory other 8 at n word (hidden_apart (row z) z.entry c.memory at n its_mapped other 8 (unseen other hidden))

    stored_frame : HasFrame z (with_memory c (write_word c.memory at n word))
    stored_frame = record {
      sp = rel.frame.sp;
      x29 = rel.frame.x29;
      words = rel.frame.words;
      bytes = write_word-AreBytes c.memory at n word rel.frame.bytes;
      whole = λ address inside. write_word_keeps c.memory at n word address (rel.frame.whole address inside);
      mapped = λ address there. write_word_keeps c.memory at n word address (rel.frame.mapped address there);
      unmapped = λ address none out. none_still (c.memory address) (write_word c.memory at n word address)
          (write_word_mapped c.memory at n word address (mapped_seen (row z) z.entry c.memory at n its_mapped))
          (rel.frame.unmapped address none out);
      caller = still (frame_pointer_of z.entry - 0) caller_hidden ∙ rel.frame.caller;
      link = still (frame_pointer_of z.entry + 8) link_hidden ∙ rel.frame.link;
      saved = λ s there. still (frame_pointer_of z.entry - s.offset) (saved_hidden s there) ∙ rel.frame.saved s there;
      unsaved = rel.frame.unsaved;
    }

    -- the store is done in the run of Air and in the machine
    pub stored_related : IsRelated z (record { homes = s.homes; world = record s.world { memory = write_word s.world.memory at n word } })
        (with_memory c (write_word c.memory at n word))
    stored_related = record {
      frame = stored_frame;
      registers = rel.registers;
      spills = λ k offset named there.
          let held = rel.spills k offset named there in
          (held.0, still (frame_pointer_of z.entry - offset) (spill_hidden k offset named there) ∙ held.1, held.2);
      memory = ap (λ (m : Memory). write_word m at n word) rel.memory
          ∙ sym (write_seen (row z) z.entry c.memory at n word (bytes_seen (row z) z.entry c.memory at n its_mapped));
    }

    pub stored_mapped : is_mapped c.memory at n ≡ true
    stored_mapped = mapped_seen (row z) z.entry c.memory at n its_mapped

  -- ---- a trap

  -- a byte that is there and isn't hidden is seen
  there_seen : (c : Machine) (q : ℕ) → HasFrame z c → is_some (c.memory q) ≡ true → z.start.is_hidden q ≡ false
      → is_some (visible (row z) z.entry c.memory q) ≡ true
  there_seen c q f there free =
      elim (is_seen (row z) z.entry q) as (λ b. is_seen (row z) z.entry q ≡ b → is_some (if b then c.memory q else None) ≡ true) [
        | true ↦ λ seen. there
        | false ↦ λ unseen.
            let apart = or_none_right (is_some (z.entry.memory q)) (in_slot (row z) z.entry q) unseen in
            let out : in_frame (row z) z.entry q ≡ false =
            not_left (in_frame (row z) z.entry q) (in_slot (row z) z.entry q) (ap (λ (h : ℕ → Bool). h q) (sym set.hidden) ∙ free) apart in
            let none = f.unmapped q (or_none_left (is_some (z.entry.memory q)) (in_slot (row z) z.entry q) unseen) out in
            cc
      ] refl

  -- where the run of Air lacks a byte so does the machine
  pub gap_there : (s : State) (c : Machine) → IsRelated z s c → (at n : ℕ) → touches_private z.start at n ≡ false → is_mapped s.world.memory at n ≡ false
      → is_mapped c.memory at n ≡ false
  gap_there s c rel at n free gap =
      elim (is_mapped c.memory at n) as (λ b. is_mapped c.memory at n ≡ b → b ≡ false) [
        | true ↦ λ mapped.
            let seen : is_mapped (visible (row z) z.entry c.memory) at n ≡ true =
            is_mapped_all (visible (row z) z.entry c.memory) at n
            (λ i lt. there_seen c (byte_address at i) rel.frame (is_mapped_at c.memory at n i mapped lt) (not_hidden z.start at n i free lt)) in
            let no = ap (λ (m : Memory). is_mapped m at n) (sym rel.memory) ∙ gap in
            cc
        | false ↦ λ e. refl
      ] refl
