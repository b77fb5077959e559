-- The words of a frame: where their bytes stand, and that a store to one of them isn't seen.
use mathlib.Core.Path.{fun_ext}
use Rattle.std.proofs.Common.{◌≡◌, ◌≢◌, ℕ, suc, ◌+◌, ◌-◌, ◌^◌, ◌<◌, ◌≤◌, ◌⊎◌, inl, inr, ⊎_elim, true, false, List, [], ◌∷◌, ◌++◌, None, refl, ap, ◌∙◌, subst, arith}
use Rattle.std.specs.Prelude.{All, AllPairs, Contains, is_some, map, ◌||◌, if◌then◌else◌}
use Rattle.std.specs.List.{list_any}
use Rattle.std.proofs.lemmas.Bool.Decides.{nat_tests}
use Rattle.std.proofs.lemmas.List.Kept.{AllPairs-cons}
use Rattle.std.proofs.lemmas.List.Elements.{All-cons, All-head, All-nil, All-tail, Contains-append_right}
use Rattle.std.proofs.lemmas.Bool.{or_from}
use Rattle.b3_base.specs.Memory.{AreApart, byte_address, is_mapped, write_word}
use Rattle.b3_base.specs.Observed.{Memory, MachineStart}
use Rattle.b3_base.specs.declared.word.Width.TheVariants.{W64}
use Rattle.b3_base.proofs.MemoryLaws.{is_mapped_all}
use Rattle.b3_base.proofs.WordLaws.{write_word_other}
use Rattle.exit_table.specs.Good.{AreDisjoint, IsGoodSlot, IsWordOffset, Span, slot_span, word_span, IsGoodFrame}
use Rattle.exit_table.specs.declared.tables.FrameRow.{FrameRow}
use Rattle.stackmap.specs.declared.site.SlotRow.{SlotRow}
use Rattle.a64_layout.specs.Machine.{Machine}
use Rattle.a64_run.specs.Placement.{frame_pointer_of, in_frame, in_slot, is_within, slot_address, visible}
use Rattle.a64_emit.specs.Setting.{IsSet, Setting, row}

-- ---- numbers

byte_within : (sp bytes offset i : ℕ) → sp < 2 ^ 64 → bytes ≤ sp → 8 ≤ offset → offset + 16 ≤ bytes → i < 8
    → is_within (sp - bytes) bytes (byte_address (sp - 16 - offset) i) ≡ true
byte_within sp bytes offset i small room ends begins lt = grind (arith, nat_tests)

bytes_apart : (sp bytes a b i j : ℕ) → sp < 2 ^ 64 → bytes ≤ sp → 8 ≤ a → a + 16 ≤ bytes → 8 ≤ b → b + 16 ≤ bytes → (b + 8 ≤ a) ⊎ (a + 8 ≤ b) → i < 8 → j < 8
    → byte_address (sp - 16 - a) i ≢ byte_address (sp - 16 - b) j
bytes_apart sp bytes a b i j small room ends_a begins_a ends_b begins_b apart lt_i lt_j e =
    elim apart as (λ s. ⊥) [ inl le ↦ omega arith | inr le ↦ omega arith ]

byte_in_no_slot : (sp bytes offset size a i : ℕ) → sp < 2 ^ 64 → bytes ≤ sp → size ≤ offset → offset + 16 ≤ bytes → 8 ≤ a → a + 16 ≤ bytes
    → (offset + 8 ≤ a) ⊎ (a + size ≤ offset) → i < 8
    → is_within (sp - 16 - offset) size (byte_address (sp - 16 - a) i) ≡ false
byte_in_no_slot sp bytes offset size a i small room ends begins ends_a begins_a apart lt =
    ⊎_elim (λ (le : offset + 8 ≤ a). grind (arith, nat_tests)) (λ (le : a + size ≤ offset). grind (arith, nat_tests)) apart

byte_above : (sp offset size q : ℕ) → size ≤ offset → offset + 16 ≤ sp → sp - 16 ≤ q → is_within (sp - 16 - offset) size q ≡ false
byte_above sp offset size q ends room above = grind (arith, nat_tests)

-- ---- what is not seen

pub not_some : (z : Setting) → IsSet z → (q : ℕ) → in_frame (row z) z.entry q ≡ true → is_some (z.entry.memory q) ≡ false
not_some z set q inside =
    elim (is_some (z.entry.memory q)) as (λ b. is_some (z.entry.memory q) ≡ b → b ≡ false) [
      | true ↦ λ some. let no = set.apart q some in cc
      | false ↦ λ none. refl
    ] refl

-- a byte that is seen is none of these
seen_other : (row : FrameRow) (m : MachineStart) (memory : Memory) (at w q : ℕ)
    → ((i : ℕ) → i < 8 → (is_some (m.memory (byte_address at i)) || in_slot row m (byte_address at i)) ≡ false)
    → (is_some (m.memory q) || in_slot row m q) ≡ true → write_word memory at 8 w q ≡ memory q
seen_other row m memory at w q hidden seen =
    write_word_other memory at 8 w q (λ i lt same.
    let no = hidden i lt in
    let also : (is_some (m.memory q) || in_slot row m q) ≡ false = ap (λ (n : ℕ). is_some (m.memory n) || in_slot row m n) same ∙ no in
    cc)

-- a store to bytes that aren't seen isn't seen
hidden_at : (row : FrameRow) (m : MachineStart) (memory : Memory) (at w : ℕ)
    → ((i : ℕ) → i < 8 → (is_some (m.memory (byte_address at i)) || in_slot row m (byte_address at i)) ≡ false)
    → (q : ℕ) → visible row m (write_word memory at 8 w) q ≡ visible row m memory q
hidden_at row m memory at w hidden q =
    elim (is_some (m.memory q) || in_slot row m q) as (λ b. (is_some (m.memory q) || in_slot row m q) ≡ b
    → (if b then write_word memory at 8 w q else None) ≡ (if b then memory q else None)) [
      | true ↦ λ seen. seen_other row m memory at w q hidden seen
      | false ↦ λ none. refl
    ] refl

-- bytes of the frame that are in no slot
abbrev pub IsHiddenWord : Setting → ℕ → Type 0
IsHiddenWord z at = (i : ℕ) → i < 8 → (in_frame (row z) z.entry (byte_address at i) ≡ true) × (in_slot (row z) z.entry (byte_address at i) ≡ false)

pub hidden_store : (z : Setting) → IsSet z → (memory : Memory) (at w : ℕ) → IsHiddenWord z at
    → visible (row z) z.entry (write_word memory at 8 w) ≡ visible (row z) z.entry memory
hidden_store z set memory at w hidden =
    fun_ext (hidden_at (row z) z.entry memory at w (λ i lt.
    or_from (is_some (z.entry.memory (byte_address at i))) (in_slot (row z) z.entry (byte_address at i))
    (not_some z set (byte_address at i) (hidden i lt).0) (hidden i lt).1))

-- ---- words that are apart

swap_disjoint : (a b : Span) → AreDisjoint a b → AreDisjoint b a
swap_disjoint a b apart = ⊎_elim (λ le. inr le) (λ le. inl le) apart

pub pairs_head : (x : Span) (xs : List Span) → AllPairs AreDisjoint (x ∷ xs) → All (AreDisjoint x) xs
pairs_head x xs h = λ k d lt. h 0 (suc k) d (omega arith) (omega arith)

pairs_tail : (x : Span) (xs : List Span) → AllPairs AreDisjoint (x ∷ xs) → AllPairs AreDisjoint xs
pairs_tail x xs h = λ i j d lt within. h (suc i) (suc j) d (omega arith) (omega arith)

all_without : (P : Span → Type 0) (xs : List Span) (y : Span) (ys : List Span) → All P (xs ++ y ∷ ys) → All P (xs ++ ys)
all_without P [] y ys h = All-tail P y ys h
all_without P (x ∷ xs) y ys h = All-cons P x (xs ++ ys) (All-head P x (xs ++ y ∷ ys) h) (all_without P xs y ys (All-tail P x (xs ++ y ∷ ys) h))

-- the spans behind some slots are apart from each other, and each from the slots
pub pairs_behind : (slots : List SlotRow) (spans : List Span) → AllPairs AreDisjoint (map slot_span slots ++ spans) → AllPairs AreDisjoint spans
pairs_behind [] spans h = h
pairs_behind (slot ∷ slots) spans h = pairs_behind slots spans (pairs_tail (slot_span slot) (map slot_span slots ++ spans) h)

pub apart_from_slots : (slots : List SlotRow) (spans : List Span) (span : Span) → AllPairs AreDisjoint (map slot_span slots ++ spans)
    → Contains spans span → All (AreDisjoint span) (map slot_span slots)
apart_from_slots [] spans span h there = All-nil (AreDisjoint span)
apart_from_slots (slot ∷ slots) spans span h there =
    let rest : List Span = map slot_span slots ++ spans in
    let at : Contains rest span = Contains-append_right (map slot_span slots) spans span there in
    let one : AreDisjoint (slot_span slot) span = subst (AreDisjoint (slot_span slot)) at.2 (pairs_head (slot_span slot) rest h at.0 span at.1) in
    All-cons (AreDisjoint span) (slot_span slot) (map slot_span slots) (swap_disjoint (slot_span slot) span one)
    (apart_from_slots slots spans span (pairs_tail (slot_span slot) rest h) there)

-- a span behind the slots left out
pub pairs_without : (slots : List SlotRow) (span : Span) (spans : List Span) → AllPairs AreDisjoint (map slot_span slots ++ span ∷ spans)
    → AllPairs AreDisjoint (map slot_span slots ++ spans)
pairs_without [] span spans h = pairs_tail span spans h
pairs_without (slot ∷ slots) span spans h =
    AllPairs-cons AreDisjoint (slot_span slot) (map slot_span slots ++ spans)
    (all_without (AreDisjoint (slot_span slot)) (map slot_span slots) span spans (pairs_head (slot_span slot) (map slot_span slots ++ span ∷ spans) h))
    (pairs_without slots span spans (pairs_tail (slot_span slot) (map slot_span slots ++ span ∷ spans) h))

pub all_front : (P : Span → Type 0) (xs ys : List Span) → All P (xs ++ ys) → All P xs
all_front P [] ys h = All-nil P
all_front P (x ∷ xs) ys h = All-cons P x xs (All-head P x (xs ++ ys) h) (all_front P xs ys (All-tail P x (xs ++ ys) h))

module _ (z : Setting) (set : IsSet z) (good : IsGoodFrame (row z)) where
  pub word_in_frame : (offset i : ℕ) → IsWordOffset z.frame.bytes offset → i < 8
      → in_frame (row z) z.entry (byte_address (frame_pointer_of z.entry - offset) i) ≡ true
  word_in_frame offset i word lt = byte_within z.entry.sp z.frame.bytes offset i set.ranged.sp set.room word.ends word.begins lt

  -- the words at two offsets share no byte
  pub words_apart : (a b : ℕ) → IsWordOffset z.frame.bytes a → IsWordOffset z.frame.bytes b → AreDisjoint (word_span W64 a) (word_span W64 b)
      → AreApart (frame_pointer_of z.entry - a) 8 (frame_pointer_of z.entry - b) 8
  words_apart a b word_a word_b apart i j lt_i lt_j =
      bytes_apart z.entry.sp z.frame.bytes a b i j set.ranged.sp set.room word_a.ends word_a.begins word_b.ends word_b.begins apart lt_i lt_j

  in_no_slot : (slots : List SlotRow) (offset i : ℕ) → All (IsGoodSlot z.frame.bytes) slots → All (AreDisjoint (word_span W64 offset)) (map slot_span slots)
      → IsWordOffset z.frame.bytes offset → i < 8
      → list_any (λ slot. is_within (slot_address z.entry slot) slot.size (byte_address (frame_pointer_of z.entry - offset) i)) slots ≡ false
  in_no_slot [] offset i goods aparts word lt = refl
  in_no_slot (slot ∷ slots) offset i goods aparts word lt =
      let is_good = All-head (IsGoodSlot z.frame.bytes) slot slots goods in
      let apart = All-head (AreDisjoint (word_span W64 offset)) (slot_span slot) (map slot_span slots) aparts in
      or_from (is_within (slot_address z.entry slot) slot.size (byte_address (frame_pointer_of z.entry - offset) i))
      (list_any (λ slot. is_within (slot_address z.entry slot) slot.size (byte_address (frame_pointer_of z.entry - offset) i)) slots)
      (byte_in_no_slot z.entry.sp z.frame.bytes slot.offset slot.size offset i set.ranged.sp set.room is_good.ends is_good.begins word.ends word.begins
      apart lt)
      (in_no_slot slots offset i (All-tail (IsGoodSlot z.frame.bytes) slot slots goods)
      (All-tail (AreDisjoint (word_span W64 offset)) (slot_span slot) (map slot_span slots) aparts) word lt)

  above_slots : (slots : List SlotRow) (q : ℕ) → All (IsGoodSlot z.frame.bytes) slots → frame_pointer_of z.entry ≤ q
      → list_any (λ slot. is_within (slot_address z.entry slot) slot.size q) slots ≡ false
  above_slots [] q goods above = refl
  above_slots (slot ∷ slots) q goods above =
      let is_good = All-head (IsGoodSlot z.frame.bytes) slot slots goods in
      let room = set.room in
      let begins = is_good.begins in
      or_from (is_within (slot_address z.entry slot) slot.size q) (list_any (λ slot. is_within (slot_address z.entry slot) slot.size q) slots)
      (byte_above z.entry.sp slot.offset slot.size q is_good.ends (omega arith) above)
      (above_slots slots q (All-tail (IsGoodSlot z.frame.bytes) slot slots goods) above)

  -- what stands from x29 on is in no slot
  pub not_in_slot : (q : ℕ) → frame_pointer_of z.entry ≤ q → in_slot (row z) z.entry q ≡ false
  not_in_slot q above = above_slots (row z).slots q good.slots above

  -- the word at an offset that is apart from the slots isn't seen
  pub hidden_word : (offset : ℕ) → IsWordOffset z.frame.bytes offset → All (AreDisjoint (word_span W64 offset)) (map slot_span (row z).slots)
      → IsHiddenWord z (frame_pointer_of z.entry - offset)
  hidden_word offset word apart i lt = (word_in_frame offset i word lt, in_no_slot (row z).slots offset i good.slots apart word lt)

  -- the bytes of a word of the frame are there where the frame is
  pub word_mapped : (c : Machine) (offset : ℕ) → IsWordOffset z.frame.bytes offset
      → ((address : ℕ) → in_frame (row z) z.entry address ≡ true → is_some (c.memory address) ≡ true)
      → is_mapped c.memory (frame_pointer_of z.entry - offset) 8 ≡ true
  word_mapped c offset word whole =
      is_mapped_all c.memory (frame_pointer_of z.entry - offset) 8
      (λ i lt. whole (byte_address (frame_pointer_of z.entry - offset) i) (word_in_frame offset i word lt))
