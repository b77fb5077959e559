-- A frame that is laid out from x29 down serves its procedure.
use Rattle.std.proofs.Common.{◌≡◌, ℕ, zero, suc, ◌+◌, ◌*◌, ◌%◌, ◌<◌, ◌≤◌, Bool, true, false, cond, Option, Some, inl, inr, List, [], ◌∷◌, ◌++◌, length, get_or, slice_get, map, refl, sym, subst, ap, ◌∙◌, arith}
use Rattle.std.specs.Prelude.{All, IsSomeAnd}
use Rattle.std.specs.List.{count_by, filter, range_with_len}
use Rattle.std.specs.List.Sorted.{IsStrictlyIncreasing}
use Rattle.std.proofs.lemmas.Bool.{cond_both}
use Rattle.std.proofs.lemmas.List.FromFn.{get_or-range_with_len}
use Rattle.std.proofs.lemmas.List.Elements.{All-append, All-cons, All-filter, All-nil}
use Rattle.std.proofs.lemmas.List.Kept.{IsStrictlyIncreasing-filter}
use Rattle.std.proofs.lemmas.List.Sums.{sum_by-cons}
use Rattle.b3_base.specs.declared.word.Width.TheVariants.{W64}
use Rattle.stackmap.specs.declared.site.Rep.TheVariants.{Slot}
use Rattle.stackmap.specs.declared.site.SavedRow.{SavedRow}
use Rattle.exit_table.specs.Good.{AreDisjoint, IsGoodRep, IsGoodSaved, IsGoodSlot, Span, saved_span, slot_span, word_span}
use Rattle.air_ir.specs.declared.frame.Frame.{Frame}
use Rattle.air_ir.specs.declared.procedure.AirProc.{AirProc}
use Rattle.air_frame.specs.Needs.{callee_saved, named_count, names, spill_count, writes}
use Rattle.air_frame.specs.Frames.{HaveRoom, IsFrameOf, rounded, row_of, slot_bytes, slot_rows}
use Rattle.air_frame.specs.Marks.{Marks}
use Rattle.air_frame.specs.Placing.{flag_bytes, saved_rows, slot_offsets, spill_offsets, word_bytes}
use Rattle.air_frame.proofs.Snoc.{length-saved_rows}
use Rattle.air_frame.proofs.Stacked.{AreBetween, each_within, parts_disjoint}

-- ---- saved registers

saved_between : (low high : ℕ) (rs : List ℕ) → low + 8 * length rs ≤ high
    → AreBetween low (map saved_span (saved_rows low rs)) high
saved_between low high [] e = omega (arith, e)
saved_between low high (r ∷ rs) e = (omega arith, saved_between (low + 8) high rs (omega (arith, e)))

abbrev IsKept : ℕ → Type 0
IsKept r = (19 ≤ r) × (r ≤ 28)

saved_good : (bytes low : ℕ) (rs : List ℕ) → All IsKept rs → low % 8 ≡ 0 → low + 8 * length rs + 16 ≤ bytes
    → All (IsGoodSaved bytes) (saved_rows low rs)
saved_good bytes low [] kept even fits = All-nil (IsGoodSaved bytes)
saved_good bytes low (r ∷ rs) kept even fits =
    let first : IsKept r = kept 0 r (omega arith) in
    All-cons (IsGoodSaved bytes) _ (saved_rows (low + 8) rs)
    (record { low = first.0; high = first.1; place = record { aligned = omega (arith, even); ends = omega arith; begins = omega (arith, fits) } })
    (saved_good bytes (low + 8) rs (λ k d lt. kept (suc k) d (omega arith)) (omega (arith, even)) (omega (arith, fits)))

saved_registers : (low : ℕ) (rs : List ℕ) → map (λ (s : SavedRow). s.reg.0) (saved_rows low rs) ≡ rs
saved_registers low [] = refl
saved_registers low (r ∷ rs) = ap (λ xs. r ∷ xs) (saved_registers (low + 8) rs)

kept_at : (k d : ℕ) → k < 10 → get_or callee_saved k d ≡ 19 + k
unfolding callee_saved
kept_at k d lt = get_or-range_with_len 19 10 k d lt

all_kept : All IsKept callee_saved
unfolding callee_saved
all_kept k d lt = let e = kept_at k d lt in (omega (arith, e), omega (arith, e))

rising : IsStrictlyIncreasing callee_saved
unfolding callee_saved
rising k lt = let e = kept_at k 0 (omega arith) in let f = kept_at (k + 1) 0 lt in omega (arith, e, f)

-- ---- spill places

-- a word between two offsets stands at a place of a list
record HasWord (low high : ℕ) (offsets : List ℕ) (k : ℕ) : Type 0 where
  word : ℕ
  there : slice_get offsets k ≡ Some word
  aligned : word % 8 ≡ 0
  above : low + 8 ≤ word
  below : word ≤ high

has_word : (low : ℕ) (flags : List Bool) (k : ℕ) → low % 8 ≡ 0 → get_or flags k false ≡ true
    → HasWord low (low + word_bytes flags) (spill_offsets low flags) k
has_word low [] k even set = absurd (cc)
has_word low (true ∷ flags) zero even set = record {
  word = low + 8;
  there = refl;
  aligned = omega (arith, even);
  above = omega arith;
  below = omega (arith, sum_by-cons flag_bytes true flags);
}
has_word low (false ∷ flags) zero even set = absurd (cc)
has_word low (true ∷ flags) (suc k) even set =
    let w = has_word (low + 8) flags k (omega (arith, even)) set in
    record {
      word = w.word;
      there = w.there;
      aligned = w.aligned;
      above = omega (arith, w.above);
      below = omega (arith, w.below, sum_by-cons flag_bytes true flags);
    }
has_word low (false ∷ flags) (suc k) even set =
    let w = has_word (low + 0) flags k (omega (arith, even)) set in
    record {
      word = w.word;
      there = w.there;
      aligned = w.aligned;
      above = omega (arith, w.above);
      below = omega (arith, w.below, sum_by-cons flag_bytes false flags);
    }

some_same : (a b : ℕ) → Some a ≡ Some b → a ≡ b
some_same a b e = cc

words_apart : (low : ℕ) (flags : List Bool) (m n a b : ℕ) → low % 8 ≡ 0 → m < n
    → get_or flags m false ≡ true → get_or flags n false ≡ true
    → slice_get (spill_offsets low flags) m ≡ Some a → slice_get (spill_offsets low flags) n ≡ Some b → a + 8 ≤ b
words_apart low [] m n a b even lt first second at_m at_n = absurd (cc)
words_apart low (flag ∷ flags) m zero a b even lt first second at_m at_n = absurd (omega arith)
words_apart low (false ∷ flags) zero (suc n) a b even lt first second at_m at_n = absurd (cc)
words_apart low (true ∷ flags) zero (suc n) a b even lt first second at_m at_n =
    let w = has_word (low + 8) flags n (omega (arith, even)) second in
    let e : low + 8 ≡ a = some_same _ _ at_m in
    let f : w.word ≡ b = some_same _ _ (sym w.there ∙ at_n) in
    omega (arith, w.above, e, f)
words_apart low (false ∷ flags) (suc m) (suc n) a b even lt first second at_m at_n =
    words_apart (low + 0) flags m n a b (omega (arith, even)) (omega arith) first second at_m at_n
words_apart low (true ∷ flags) (suc m) (suc n) a b even lt first second at_m at_n =
    words_apart (low + 8) flags m n a b (omega (arith, even)) (omega arith) first second at_m at_n

length-spill_offsets : (low : ℕ) (flags : List Bool) → length (spill_offsets low flags) ≡ length flags
length-spill_offsets low [] = refl
length-spill_offsets low (flag ∷ flags) = ap suc (length-spill_offsets (low + flag_bytes flag) flags)

one_flag : (f q : Bool) → f ≡ q → flag_bytes f ≡ 8 * cond q 1 0
one_flag true true e = refl
one_flag false false e = refl
one_flag true false e = absurd (cc)
one_flag false true e = absurd (cc)

-- the flags are those of numbers from a on that pass a test
flags_counted : (a : ℕ) (flags : List Bool) (q : ℕ → Bool) → ((k : ℕ) → k < length flags → get_or flags k false ≡ q (a + k))
    → word_bytes flags ≡ 8 * count_by q (range_with_len a (length flags))
flags_counted a [] q same = refl
flags_counted a (flag ∷ flags) q same =
    let first : flag ≡ q a = subst (λ (n : ℕ). flag ≡ q n) (omega arith) (same 0 (omega arith)) in
    let rest = flags_counted (a + 1) flags q
    (λ k lt. subst (λ (n : ℕ). get_or flags k false ≡ q n) (omega arith) (same (suc k) (omega arith))) in
    omega (
      arith,
      one_flag flag (q a) first,
      rest,
      sum_by-cons flag_bytes flag flags,
      sum_by-cons (λ (n : ℕ). cond (q n) 1 0) a (range_with_len (a + 1) (length flags)),
    )

words_most : (flags : List Bool) → word_bytes flags ≤ 8 * length flags
words_most [] = omega arith
words_most (true ∷ flags) = omega (arith, words_most flags, sum_by-cons flag_bytes true flags)
words_most (false ∷ flags) = omega (arith, words_most flags, sum_by-cons flag_bytes false flags)

-- ---- slots

abbrev slot_spans : ℕ → List ℕ → List Span
slot_spans low sizes = map slot_span (slot_rows (slot_offsets low sizes) sizes)

slots_between : (low high : ℕ) (sizes : List ℕ) → high ≡ low + slot_bytes sizes → AreBetween low (slot_spans low sizes) high
slots_between low high [] e = omega (arith, e)
slots_between low high (size ∷ sizes) e =
    (omega arith, slots_between (low + rounded size) high sizes (omega (arith, e, sum_by-cons rounded size sizes)))

slots_good : (bytes low : ℕ) (sizes : List ℕ) → All (λ size. 1 ≤ size) sizes → low % 16 ≡ 0 → low + slot_bytes sizes + 16 ≤ bytes
    → All (IsGoodSlot bytes) (slot_rows (slot_offsets low sizes) sizes)
slots_good bytes low [] some even fits = All-nil (IsGoodSlot bytes)
slots_good bytes low (size ∷ sizes) some even fits =
    let sum = sum_by-cons rounded size sizes in
    let first : 1 ≤ size = some 0 size (omega arith) in
    All-cons (IsGoodSlot bytes) _ (slot_rows (slot_offsets (low + rounded size) sizes) sizes)
    (record { holds = first; aligned = omega (arith, even); ends = omega arith; begins = omega (arith, fits, sum) })
    (slots_good bytes (low + rounded size) sizes (λ k d lt. some (suc k) d (omega arith)) (omega (arith, even)) (omega (arith, fits, sum)))

slots_aligned : (sizes : List ℕ) → slot_bytes sizes % 16 ≡ 0
slots_aligned [] = refl
slots_aligned (size ∷ sizes) = omega (arith, sum_by-cons rounded size sizes, slots_aligned sizes)

whole_parts : (a b : ℕ) → a % 16 ≡ 0 → b % 16 ≡ 0 → (16 + a + b) % 16 ≡ 0
whole_parts a b e f = omega (arith, e, f)

length-slot_offsets : (low : ℕ) (sizes : List ℕ) → length (slot_offsets low sizes) ≡ length sizes
length-slot_offsets low [] = refl
length-slot_offsets low (size ∷ sizes) = ap suc (length-slot_offsets (low + rounded size) sizes)

-- ---- frames

few_kept : (p : ℕ → Bool) (rs : List ℕ) → length (filter p rs) ≤ length rs
few_kept p [] = omega arith
few_kept p (r ∷ rs) =
    let fewer = few_kept p rs in
    cond_both (p r) (r ∷ filter p rs) (filter p rs) (λ l. length l ≤ suc (length rs)) (λ _. omega (arith, fewer)) (λ _. omega (arith, fewer))

ten : (p : ℕ → Bool) → length (filter p callee_saved) ≤ 10
unfolding callee_saved
ten p = few_kept p callee_saved

-- the end of the words of a frame
abbrev words_end : List ℕ → List Bool → ℕ
words_end rs flags = rounded (8 * length rs + word_bytes flags)

-- registers are saved nearest to x29, then come spill places, then slots
abbrev frame_of : List ℕ → List Bool → List ℕ → Frame
frame_of rs flags sizes = record {
  bytes = 16 + words_end rs flags + slot_bytes sizes;
  slots = slot_offsets (words_end rs flags) sizes;
  spills = spill_offsets (8 * length rs) flags;
  saved = saved_rows 0 rs;
}

-- a word between the saved registers and the slots shares no byte with them
word_clear : (rs : List ℕ) (low end high : ℕ) (sizes : List ℕ) (word : ℕ) → low ≡ 8 * length rs → high ≡ end + slot_bytes sizes
    → low + 8 ≤ word → word ≤ end → All (AreDisjoint (word_span W64 word)) (slot_spans end sizes ++ map saved_span (saved_rows 0 rs))
word_clear rs low end high sizes word e f above below =
    let slots = each_within end end high (slot_spans end sizes) (omega arith) (slots_between end high sizes f) in
    let saved = each_within 0 0 low (map saved_span (saved_rows 0 rs)) (omega arith) (saved_between 0 low rs (omega (arith, e))) in
    All-append (AreDisjoint (word_span W64 word)) (slot_spans end sizes) (map saved_span (saved_rows 0 rs))
    (λ k d lt. let s = slots k d lt in inr (omega (arith, s.0, below)))
    (λ k d lt. let s = saved k d lt in inl (omega (arith, s.1, above)))

serves : (p : AirProc) (rs : List ℕ) (flags : List Bool) → rs ≡ filter (writes p) callee_saved → length flags ≡ spill_count p
    → ((k : ℕ) → get_or flags k false ≡ names p k) → All (λ size. 1 ≤ size) p.slots
    → HaveRoom p.slots (spill_count p) → IsFrameOf p (frame_of rs flags p.slots)
serves p rs flags are long each some room =
    let low = 8 * length rs in
    let end = words_end rs flags in
    let bytes = 16 + end + slot_bytes p.slots in
    let few : length rs ≤ 10 = subst (λ (l : List ℕ). length l ≤ 10) (sym are) (ten (writes p)) in
    let kept : All IsKept rs = subst (All IsKept) (sym are) (All-filter (writes p) IsKept callee_saved all_kept) in
    let registers = saved_registers 0 rs in
    let rise : IsStrictlyIncreasing rs = subst IsStrictlyIncreasing (sym are) (IsStrictlyIncreasing-filter (writes p) callee_saved rising) in
    let most = words_most flags in
    let count : word_bytes flags ≡ 8 * named_count p = subst (λ (n : ℕ). word_bytes flags ≡ 8 * count_by (names p) (range_with_len 0 n)) long
    (flags_counted 0 flags (names p) (λ k lt. subst (λ (n : ℕ). get_or flags k false ≡ names p n) (omega arith) (each k))) in
    record {
      good = record {
        aligned = whole_parts end (slot_bytes p.slots) (omega arith) (slots_aligned p.slots);
        least = omega arith;
        limit = omega (arith, few, room, most, long);
        slots = slots_good bytes end p.slots some (omega arith) (omega arith);
        saved = saved_good bytes 0 rs kept refl (omega arith);
        rising = subst IsStrictlyIncreasing (sym registers) rise;
        disjoint = parts_disjoint 0 end (end + slot_bytes p.slots) (map saved_span (saved_rows 0 rs)) (slot_spans end p.slots)
            (saved_between 0 end rs (omega arith)) (slots_between end (end + slot_bytes p.slots) p.slots refl);
      };
      slots = length-slot_offsets end p.slots;
      spills = length-spill_offsets low flags ∙ long;
      spilled = λ n named.
          let w = has_word low flags n (omega arith) (each n ∙ named) in
          subst (λ (o : Option ℕ). IsSomeAnd o (λ offset. IsGoodRep (row_of (frame_of rs flags p.slots) p.slots p.returns) W64 (Slot offset))) (sym w.there) (
            record { aligned = w.aligned; ends = omega (arith, w.above); begins = omega (arith, w.below) },
            word_clear rs low end (end + slot_bytes p.slots) p.slots w.word refl refl w.above (omega (arith, w.below)),
          );
      apart = λ m n a b first second lt at_m at_n.
          inr (let far = words_apart low flags m n a b (omega arith) lt (each m ∙ first) (each n ∙ second) at_m at_n in omega (arith, far));
      saved = registers ∙ are;
      size = let saved = length-saved_rows 0 rs in omega (arith, few, saved, count);
    }

filter_same : (f g : ℕ → Bool) (rs : List ℕ) → All IsKept rs → ((r : ℕ) → r < 32 → f r ≡ g r) → filter f rs ≡ filter g rs
filter_same f g [] kept same = refl
filter_same f g (r ∷ rs) kept same =
    let first : IsKept r = kept 0 r (omega arith) in
    rw (same r (omega (arith, first.1))) (ap (λ l. cond (g r) (r ∷ l) l) (filter_same f g rs (λ k d lt. kept (suc k) d (omega arith)) same))

-- the registers of a set that has what a procedure writes
same_registers : (p : AirProc) (f : ℕ → Bool) → ((r : ℕ) → r < 32 → f r ≡ writes p r)
    → filter f callee_saved ≡ filter (writes p) callee_saved
same_registers p f same = filter_same f (writes p) callee_saved all_kept same

-- ---- what the code lays out

same_frame : (f g : Frame) → f.bytes ≡ g.bytes → f.slots ≡ g.slots → f.spills ≡ g.spills → f.saved ≡ g.saved → f ≡ g
same_frame f g bytes slots spills saved =
    let e : record { bytes = f.bytes; slots = f.slots; spills = f.spills; saved = f.saved }
    ≡ record { bytes = g.bytes; slots = g.slots; spills = g.spills; saved = g.saved } = cc in
    e

pub layout_serves : (p : AirProc) (f : Frame) (has : ℕ → Bool) (flags : List Bool) → All (λ size. 1 ≤ size) p.slots
    → HaveRoom p.slots (spill_count p) → ((r : ℕ) → r < 32 → has r ≡ writes p r) → Marks [] flags (spill_count p) (names p)
    → f.saved ≡ saved_rows 0 (filter has callee_saved)
    → f.spills ≡ spill_offsets (8 * length f.saved) flags
    → f.slots ≡ slot_offsets (rounded (8 * length f.saved + word_bytes flags)) p.slots
    → f.bytes ≡ 16 + rounded (8 * length f.saved + word_bytes flags) + slot_bytes p.slots
    → IsFrameOf p f
layout_serves p f has flags some room same marks saved spills slots bytes =
    let rs = filter (writes p) callee_saved in
    let rows : f.saved ≡ saved_rows 0 rs = subst (λ (l : List ℕ). f.saved ≡ saved_rows 0 l) (same_registers p has same) saved in
    let count : length f.saved ≡ length rs = ap length rows ∙ length-saved_rows 0 rs in
    let are : f ≡ frame_of rs flags p.slots = same_frame f (frame_of rs flags p.slots)
    (subst (λ (k : ℕ). f.bytes ≡ 16 + rounded (8 * k + word_bytes flags) + slot_bytes p.slots) count bytes)
    (subst (λ (k : ℕ). f.slots ≡ slot_offsets (rounded (8 * k + word_bytes flags)) p.slots) count slots)
    (subst (λ (k : ℕ). f.spills ≡ spill_offsets (8 * k) flags) count spills)
    rows in
    subst (IsFrameOf p) (sym are) (serves p rs flags refl (omega (arith, marks.long)) marks.each some room)
