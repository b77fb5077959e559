-- Frames whose rows are good one after the other are good frames, and the other way.
use Rattle.std.proofs.Common.{◌≡◌, ℕ, zero, suc, ◌+◌, ◌<◌, ◌≤◌, inl, inr, Bool, true, false, List, [], ◌∷◌, ◌++◌, length, get_or, map, refl, sym, subst, append_assoc, arith, length-append}
use Rattle.std.specs.Prelude.{All, AllPairs, ◌||◌, ⊤}
use Rattle.std.specs.List.{AllByRecursion}
use Rattle.std.specs.List.Sorted.{IsStrictlyIncreasing}
use Rattle.std.proofs.lemmas.Bool.{eqb-true, eq-eqb, leb-true, le-leb, ltb-true, lt-ltb, and_parts, and_from}
use Rattle.std.proofs.lemmas.List.{append-nil, get_or_append_left}
use Rattle.std.proofs.Math.Seq.{get_or-append_seam}
use Rattle.std.proofs.lemmas.List.Elements.{All-from_recursion, recursion_from_All}
use Rattle.std.proofs.lemmas.List.Quantifiers.{all_pairs_push}
use Rattle.stackmap.specs.declared.site.SlotRow.{SlotRow}
use Rattle.stackmap.specs.declared.site.SavedRow.{SavedRow}
use Rattle.exit_table.specs.declared.tables.FrameRow.{FrameRow}
use Rattle.exit_table.specs.Good.{Span, AreDisjoint, slot_span, saved_span, IsWordOffset, IsGoodSlot, IsGoodSaved, IsGoodFrame}
use Rattle.exit_table.specs.FrameReading.{Saving, are_apart, is_clear, is_word_at, after_slot, after_saved, after_frame}
use Rattle.exit_table.proofs.TakenLaws.{apart_true, without_push}
use Rattle.exit_table.proofs.Rows.{AllAfter}
use Rattle.exit_table.proofs.FrameLaws.{IsSlotAfter, IsSavedAfter, IsFrame, IsAnyFrame}

-- ---- disjoint spans

swap : (a b : Span) → AreDisjoint a b → AreDisjoint b a
swap a b (inl h) = inr h
swap a b (inr h) = inl h

true_or : (x y : Bool) → x ≡ true → (x || y) ≡ true
true_or true y e = refl
true_or false y e = absurd cc

or_true : (x y : Bool) → y ≡ true → (x || y) ≡ true
or_true true y e = refl
or_true false y e = e

apart_again : (a b : Span) → AreDisjoint a b → are_apart a b ≡ true
apart_again a b (inl h) = true_or _ _ (le-leb _ _ h)
apart_again a b (inr h) = or_true _ _ (le-leb _ _ h)

clear_each : (taken : List Span) (span : Span) → is_clear taken span ≡ true → AllByRecursion (AreDisjoint span) taken
unfolding is_clear
clear_each [] span e = tt
clear_each (other ∷ taken) span e = let p = and_parts _ _ e in (apart_true _ _ p.0, clear_each taken span p.1)

each_clear : (taken : List Span) (span : Span) → AllByRecursion (AreDisjoint span) taken → is_clear taken span ≡ true
unfolding is_clear
each_clear [] span h = refl
each_clear (other ∷ taken) span h = and_from _ _ (apart_again _ _ h.0) (each_clear taken span h.1)

pub clear_true : (taken : List Span) (span : Span) → is_clear taken span ≡ true → All (AreDisjoint span) taken
clear_true taken span e = All-from_recursion _ _ (clear_each taken span e)

pub clear_again : (taken : List Span) (span : Span) → All (AreDisjoint span) taken → is_clear taken span ≡ true
clear_again taken span h = each_clear taken span (recursion_from_All _ _ h)

-- bytes that may hold a word
pub word_true : (bytes : ℕ) (taken : List Span) (span : Span) → is_word_at bytes (is_clear taken) span ≡ true → IsWordOffset bytes span.offset × All (AreDisjoint span) taken
word_true bytes taken span e =
    let clear = and_parts _ _ e in
    let within = and_parts _ _ clear.0 in
    let offset = and_parts _ _ within.0 in
    (record { aligned = eqb-true _ _ offset.0; ends = leb-true _ _ offset.1; begins = leb-true _ _ within.1 }, clear_true taken span clear.1)

pub word_again : (bytes : ℕ) (taken : List Span) (span : Span) → IsWordOffset bytes span.offset → All (AreDisjoint span) taken → is_word_at bytes (is_clear taken) span ≡ true
word_again bytes taken span word apart = and_from _ _ (and_from _ _ (and_from _ _ (eq-eqb _ _ word.aligned) (le-leb _ _ word.ends)) (le-leb _ _ word.begins)) (clear_again taken span apart)

-- each span is disjoint from what was taken before it
abbrev pub Placed : List Span → List Span → Type 0
Placed taken [] = ⊤
Placed taken (span ∷ spans) = All (AreDisjoint span) taken × Placed (taken ++ span ∷ []) spans

placed_pairs : (taken spans : List Span) → AllPairs AreDisjoint taken → Placed taken spans → AllPairs AreDisjoint (taken ++ spans)
placed_pairs taken [] pairs placed = subst (AllPairs AreDisjoint) (sym (append-nil taken)) pairs
placed_pairs taken (span ∷ spans) pairs placed =
    subst (AllPairs AreDisjoint) (append_assoc taken (span ∷ []) spans) (placed_pairs (taken ++ span ∷ []) spans (all_pairs_push AreDisjoint taken span pairs (λ k d lt. swap _ _ (placed.0 k d lt))) placed.1)

pairs_placed : (taken spans : List Span) → AllPairs AreDisjoint (taken ++ spans) → Placed taken spans
pairs_placed taken [] pairs = tt
pairs_placed taken (span ∷ spans) pairs =
    let before : All (AreDisjoint span) taken = λ k d lt.
    let whole : List Span = taken ++ span ∷ spans in
    let both : AreDisjoint (get_or whole k d) (get_or whole (length taken) d) = pairs k (length taken) d lt (omega (arith, length-append taken (span ∷ spans))) in
    swap _ _ (subst (λ x. AreDisjoint (get_or taken k d) x) (get_or-append_seam taken span spans d) (subst (λ x. AreDisjoint x (get_or whole (length taken) d)) (get_or_append_left taken (span ∷ spans) d k lt) both)) in
    (before, pairs_placed (taken ++ span ∷ []) spans (subst (AllPairs AreDisjoint) (sym (append_assoc taken (span ∷ []) spans)) pairs))

placed_front : (taken spans more : List Span) → Placed taken (spans ++ more) → Placed taken spans
placed_front taken [] more placed = tt
placed_front taken (span ∷ spans) more placed = (placed.0, placed_front (taken ++ span ∷ []) spans more placed.1)

-- ---- slots

slots_good : (bytes : ℕ) (taken : List Span) (slots : List SlotRow) → AllAfter (IsSlotAfter bytes) after_slot (is_clear taken) slots → AllByRecursion (IsGoodSlot bytes) slots × Placed taken (map slot_span slots)
slots_good bytes taken [] good = (tt, tt)
slots_good bytes taken (slot ∷ slots) good =
    let offset = and_parts _ _ good.0.offset in
    let size = and_parts _ _ good.0.size in
    let ends = and_parts _ _ size.0 in
    let more = slots_good bytes (taken ++ slot_span slot ∷ []) slots (subst (λ (clear : Span → Bool). AllAfter (IsSlotAfter bytes) after_slot clear slots) (sym (without_push taken (slot_span slot))) good.1) in (
      (record { holds = leb-true _ _ ends.0; aligned = eqb-true _ _ offset.0; ends = leb-true _ _ ends.1; begins = leb-true _ _ offset.1 }, more.0),
      (clear_true taken (slot_span slot) size.1, more.1),
    )

slots_after : (bytes : ℕ) (taken : List Span) (slots : List SlotRow) → AllByRecursion (IsGoodSlot bytes) slots → Placed taken (map slot_span slots) → AllAfter (IsSlotAfter bytes) after_slot (is_clear taken) slots
slots_after bytes taken [] good placed = tt
slots_after bytes taken (slot ∷ slots) good placed = (
  record {
    offset = and_from _ _ (eq-eqb _ _ good.0.aligned) (le-leb _ _ good.0.begins);
    size = and_from _ _ (and_from _ _ (le-leb _ _ good.0.holds) (le-leb _ _ good.0.ends)) (clear_again taken (slot_span slot) placed.0);
  },
  subst (λ (clear : Span → Bool). AllAfter (IsSlotAfter bytes) after_slot clear slots) (without_push taken (slot_span slot)) (slots_after bytes (taken ++ slot_span slot ∷ []) slots good.1 placed.1),
)

-- ---- saved registers

-- numbers that rise, the first of them n or above
abbrev Rises : ℕ → List ℕ → Type 0
Rises n [] = ⊤
Rises n (x ∷ xs) = (n ≤ x) × Rises (x + 1) xs

rising_from : (n : ℕ) (xs : List ℕ) → Rises n xs → IsStrictlyIncreasing xs
rising_from n [] h k lt = absurd (omega (arith, lt))
rising_from n (x ∷ []) h k lt = absurd (omega (arith, lt))
rising_from n (x ∷ y ∷ xs) h zero lt = let next : x + 1 ≤ y = h.1.0 in omega arith
rising_from n (x ∷ y ∷ xs) h (suc k) lt = let step : suc k + 1 ≡ suc (k + 1) = omega arith in rw step (rising_from (x + 1) (y ∷ xs) h.1 k (omega (arith, lt)))

rises_from : (n x : ℕ) (xs : List ℕ) → n ≤ x → IsStrictlyIncreasing (x ∷ xs) → Rises n (x ∷ xs)
rises_from n x [] le h = (le, tt)
rises_from n x (y ∷ xs) le h =
    let next : x < y = h 0 (omega arith) in (
      le,
      rises_from (x + 1) y xs (omega arith) (λ k lt.
          let step : suc k + 1 ≡ suc (k + 1) = omega arith in
          let later : get_or (y ∷ xs) k 0 < get_or (x ∷ y ∷ xs) (suc k + 1) 0 = h (suc k) (omega (arith, lt)) in
          rw step at later),
    )

abbrev number_of : SavedRow → ℕ
number_of saved = saved.reg.0

abbrev saving : List Span → ℕ → Saving
saving taken least = record { clear = is_clear taken; least = least }

saved_good : (bytes : ℕ) (taken : List Span) (least : ℕ) (saved : List SavedRow) → AllAfter (IsSavedAfter bytes) after_saved (saving taken least) saved → AllByRecursion (IsGoodSaved bytes) saved × Placed taken (map saved_span saved) × Rises least (map number_of saved)
saved_good bytes taken least [] good = (tt, tt, tt)
saved_good bytes taken least (row ∷ saved) good =
    let number = and_parts _ _ good.0.number in
    let word = word_true bytes taken (saved_span row) good.0.offset in
    let next : Saving → Type 0 = λ known. AllAfter (IsSavedAfter bytes) after_saved known saved in
    let clear : Saving → Span → Bool = λ known. known.clear in
    let more = saved_good bytes (taken ++ saved_span row ∷ []) (row.reg.0 + 1) saved (subst (λ (clear : Span → Bool). next (record { clear = clear; least = row.reg.0 + 1 })) (sym (without_push taken (saved_span row))) good.1) in (
      (record { low = leb-true _ _ number.0; high = leb-true _ _ number.1; place = word.0 }, more.0),
      (word.1, more.1),
      (leb-true _ _ good.0.rises, more.2),
    )

saved_after : (bytes : ℕ) (taken : List Span) (least : ℕ) (saved : List SavedRow) → AllByRecursion (IsGoodSaved bytes) saved → Placed taken (map saved_span saved) → Rises least (map number_of saved) → AllAfter (IsSavedAfter bytes) after_saved (saving taken least) saved
saved_after bytes taken least [] good placed rises = tt
saved_after bytes taken least (row ∷ saved) good placed rises = (
  record {
    number = and_from _ _ (le-leb _ _ good.0.low) (le-leb _ _ good.0.high);
    rises = le-leb _ _ rises.0;
    offset = word_again bytes taken (saved_span row) good.0.place placed.0;
  },
  subst (λ (clear : Span → Bool). AllAfter (IsSavedAfter bytes) after_saved (record { clear = clear; least = row.reg.0 + 1 }) saved) (without_push taken (saved_span row)) (saved_after bytes (taken ++ saved_span row ∷ []) (row.reg.0 + 1) saved good.1 placed.1 rises.1),
)

rises_any : (saved : List SavedRow) → IsStrictlyIncreasing (map number_of saved) → Rises 0 (map number_of saved)
rises_any [] h = tt
rises_any (row ∷ saved) h = rises_from 0 row.reg.0 (map number_of saved) (omega arith) h

-- ---- frames

frame_good : (frame : FrameRow) → IsFrame frame → IsGoodFrame frame
frame_good frame good =
    let size = and_parts _ _ good.size in
    let low = and_parts _ _ size.0 in
    let slots = slots_good frame.bytes [] frame.slots good.slots in
    let saved = saved_good frame.bytes (map slot_span frame.slots) 0 frame.saved good.saved in
    let none : AllPairs AreDisjoint [] = λ i j d before within. absurd (omega (arith, within)) in
    record {
      aligned = eqb-true _ _ low.0;
      least = leb-true _ _ low.1;
      limit = ltb-true _ _ size.1;
      slots = All-from_recursion _ _ slots.0;
      saved = All-from_recursion _ _ saved.0;
      rising = rising_from 0 (map number_of frame.saved) saved.2;
      disjoint = placed_pairs (map slot_span frame.slots) (map saved_span frame.saved) (placed_pairs [] (map slot_span frame.slots) none slots.1) saved.1;
    }

frame_after : (frame : FrameRow) → IsGoodFrame frame → IsFrame frame
frame_after frame good =
    let slots : List Span = map slot_span frame.slots in
    let saved : List Span = map saved_span frame.saved in
    record {
      size = and_from _ _ (and_from _ _ (eq-eqb _ _ good.aligned) (le-leb _ _ good.least)) (lt-ltb _ _ good.limit);
      slots = slots_after frame.bytes [] frame.slots (recursion_from_All _ _ good.slots) (placed_front [] slots saved (pairs_placed [] (slots ++ saved) good.disjoint));
      saved = saved_after frame.bytes slots 0 frame.saved (recursion_from_All _ _ good.saved) (pairs_placed slots saved good.disjoint) (rises_any frame.saved good.rising);
    }

frames_each : (frames : List FrameRow) → AllAfter IsAnyFrame after_frame tt frames → AllByRecursion IsGoodFrame frames
frames_each [] good = tt
frames_each (frame ∷ frames) good = (frame_good frame good.0, frames_each frames good.1)

each_frames : (frames : List FrameRow) → AllByRecursion IsGoodFrame frames → AllAfter IsAnyFrame after_frame tt frames
each_frames [] good = tt
each_frames (frame ∷ frames) good = (frame_after frame good.0, each_frames frames good.1)

pub frames_good : (frames : List FrameRow) → AllAfter IsAnyFrame after_frame tt frames → All IsGoodFrame frames
frames_good frames good = All-from_recursion _ _ (frames_each frames good)

pub frames_after : (frames : List FrameRow) → All IsGoodFrame frames → AllAfter IsAnyFrame after_frame tt frames
frames_after frames good = each_frames frames (recursion_from_All _ _ good)
