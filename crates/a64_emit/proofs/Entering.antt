-- The prologue leads from the start to the label of the entry, with the frame there.
use Rattle.std.proofs.Common.{◌≡◌, ◌≢◌, ℕ, negsuc, zero, suc, ◌+◌, ◌-◌, ◌*◌, ◌/◌, ◌%◌, ◌^◌, ◌<◌, ◌≤◌, min, Bool, true, false, ⊎_elim, List, [], ◌∷◌, ◌++◌, Some, None, length, get_or, refl, sym, ap, ◌∙◌, subst, arith}
use Rattle.std.specs.Prelude.{All, AllPairs, Contains, IfSome, IsSomeAnd, is_some, map, nat_eq, nat_le, nat_lt, ◌&&◌, if◌then◌else◌}
use Rattle.std.proofs.lemmas.Bool.Decides.{nat_tests}
use Rattle.std.proofs.lemmas.Int.{ints}
use Rattle.std.proofs.lemmas.List.Elements.{All-head, All-tail}
use Rattle.std.proofs.lemmas.Option.{same_Some}
use Rattle.b3_base.specs.Memory.{AreApart, AreBytes, byte_address, is_mapped, read_word, write_word}
use Rattle.b3_base.specs.Arithmetic.{low}
use Rattle.b3_base.specs.Observed.{Answer, Memory}
use Rattle.b3_ir.specs.declared.value.Reg.{Reg as Register}
use Rattle.stackmap.specs.Rules.{IsAllocatable}
use Rattle.stackmap.specs.declared.site.Rep.TheVariants.{Slot}
use Rattle.air_ir.specs.Operands.{Empty, Holds}
use Rattle.air_frame.specs.Frames.{IsFrameOf}
use Rattle.b3_base.specs.declared.word.Width.TheVariants.{W64}
use Rattle.b3_base.proofs.MemoryLaws.{is_mapped_all, is_some-read_word, write_word-AreBytes}
use Rattle.b3_base.proofs.WordLaws.{is_mapped_after_write, read-write_apart, read-write_same, write_word_mapped}
use Rattle.b3_base.proofs.Widths.{whole_word}
use Rattle.b3_base.proofs.Options.{some_of, none_of}
use Rattle.exit_table.specs.Good.{AreDisjoint, IsGoodRep, IsGoodSaved, IsWordOffset, saved_span, slot_span, IsGoodFrame}
use Rattle.stackmap.specs.declared.site.SavedRow.{SavedRow}
use Rattle.a64_inst.specs.Step.{AreWords, Registers, Stepped, step_of, goes_on, put, moved_sp, add_sub_imm, store_pair}
use Rattle.a64_inst.specs.declared.inst.Inst.TheVariants.{AddSubImm, PairSp}
use Rattle.a64_layout.specs.Machine.{Machine, moved_to}
use Rattle.a64_run.specs.Placement.{argument_words, entry_memory, frame_pointer_of, in_frame, visible}
use Rattle.a64_code.specs.Places.{above_sp, lower_sp, prologue, saves, store_at, unless_zero}
use Rattle.a64_emit.specs.Related.{Carries, HasFrame, IsRelated, word_below}
use Rattle.a64_emit.specs.Setting.{IsSet, Setting, row}
use Rattle.a64_emit.specs.Emitted.{first_state, Begins}
use Rattle.a64_emit.proofs.FrameWords.{IsHiddenWord, apart_from_slots, hidden_store, hidden_word, not_in_slot, pairs_behind, pairs_head, pairs_without, word_mapped, words_apart}
use Rattle.a64_emit.proofs.Straight.{Does, DoesOne, IsWhole, does_both, does_first, does_none, does_one}
use Rattle.a64_emit.proofs.Words.{IsPlaced, does_safely, put_other, put_same, put_words, puts_one, store_puts, touches_nothing, whole_same, with_memory, with_reg}

-- ---- SP falls

abbrev pub with_sp : Machine → ℕ → Machine
with_sp c sp = record { registers = record c.registers { sp = sp }; memory = c.memory }

difference : (a b : ℕ) → a < 2 ^ 64 → b ≤ a → (a % 2 ^ 64 + (2 ^ 64 - 1 - b) + 1) % 2 ^ 64 ≡ a - b
difference a b small le = omega arith

lowers : (r : Registers) (m : Memory) (part n : ℕ) (high : Bool) → (if high then part * 4096 else part) ≡ n → r.sp < 2 ^ 64 → n ≤ r.sp
    → step_of (AddSubImm W64 true false 31 31 part high) r m ≡ goes_on (record r { sp = r.sp - n }) m
unfolding step_of add_sub_imm
lowers r m part n high is small le = rw is (ap (λ (a : ℕ). goes_on (record r { sp = a }) m) (difference r.sp n small le))

lower_one : (z : Setting) (c : Machine) (part n : ℕ) (high : Bool) → IsWhole z c → (if high then part * 4096 else part) ≡ n → c.registers.sp < 2 ^ 64
    → n ≤ c.registers.sp
    → DoesOne z c (AddSubImm W64 true false 31 31 part high) (with_sp c (c.registers.sp - n))
lower_one z c part n high whole is small le =
    does_safely z c (with_sp c (c.registers.sp - n)) (AddSubImm W64 true false 31 31 part high) whole
    (touches_nothing c (AddSubImm W64 true false 31 31 part high) (λ pc. refl)) refl
    (λ pc. lowers (moved_to pc c).registers c.memory part n high is small le)

lower_part : (z : Setting) (c : Machine) (part n : ℕ) (high : Bool) → IsWhole z c → (if high then part * 4096 else part) ≡ n → c.registers.sp < 2 ^ 64
    → n ≤ c.registers.sp
    → (part ≡ 0 → n ≡ 0) → Does z c (unless_zero part (AddSubImm W64 true false 31 31 part high ∷ [])) (with_sp c (c.registers.sp - n))
lower_part z c part n high whole is small le none =
    elim (nat_eq part 0) as (λ b. nat_eq part 0 ≡ b
    → Does z c (if b then [] else AddSubImm W64 true false 31 31 part high ∷ []) (with_sp c (c.registers.sp - n))) [
      | true ↦ λ e.
          let zero_is : part ≡ 0 = grind (arith, nat_tests) in
          let nothing = none zero_is in
          let same : c.registers.sp - n ≡ c.registers.sp = omega arith in
          subst (λ sp. Does z c [] (with_sp c sp)) (sym same) (does_none z c)
      | false ↦ λ e. does_one z c (with_sp c (c.registers.sp - n)) (AddSubImm W64 true false 31 31 part high) (lower_one z c part n high whole is small le)
    ] refl

with_sp_whole : (z : Setting) (c : Machine) (sp : ℕ) → sp % 16 ≡ 0 → IsWhole z c → IsWhole z (with_sp c sp)
with_sp_whole z c sp aligned whole = record { aligned = aligned; whole = whole.whole }

-- SP falls by a multiple of 16
pub lower_sp_does : (z : Setting) (c : Machine) (bytes : ℕ) → IsWhole z c → c.registers.sp < 2 ^ 64 → bytes ≤ c.registers.sp → bytes % 16 ≡ 0
    → Does z c (lower_sp bytes) (with_sp c (c.registers.sp - bytes))
unfolding lower_sp
lower_sp_does z c bytes whole small le even =
    let aligned = whole.aligned in
    let high : ℕ = bytes / 4096 * 4096 in
    let d : Machine = with_sp c (c.registers.sp - high) in
    let first = lower_part z c (bytes / 4096) high true whole refl small (omega arith) (λ e. omega arith) in
    let second = lower_part z d (bytes % 4096) (bytes % 4096) false (with_sp_whole z c (c.registers.sp - high) (omega arith) whole) refl (omega arith)
    (omega arith) (λ e. e) in
    let same : c.registers.sp - high - bytes % 4096 ≡ c.registers.sp - bytes = omega arith in
    does_both z c d (with_sp c (c.registers.sp - bytes)) (unless_zero (bytes / 4096) (AddSubImm W64 true false 31 31 (bytes / 4096) true ∷ []))
    (unless_zero (bytes % 4096) (AddSubImm W64 true false 31 31 (bytes % 4096) false ∷ [])) first
    (subst (λ sp. Does z d (unless_zero (bytes % 4096) (AddSubImm W64 true false 31 31 (bytes % 4096) false ∷ [])) (with_sp c sp)) same second)

-- ---- registers are saved

-- the words at these rows are apart from 8 bytes at an address
abbrev pub OtherThan : Setting → ℕ → List SavedRow → Type 0
OtherThan z at [] = Unit {0}
OtherThan z at (s ∷ rows) = AreApart at 8 (frame_pointer_of z.entry - s.offset) 8 × OtherThan z at rows

-- each row's word is that of its register
abbrev pub AreSaved : Setting → Machine → (ℕ → ℕ) → List SavedRow → Type 0
AreSaved z c x [] = Unit {0}
AreSaved z c x (s ∷ rows) = (word_below z c s.offset ≡ Some (x s.reg.0)) × AreSaved z c x rows

-- rows that may be saved one after the other
abbrev pub AreRows : Setting → List SavedRow → Type 0
AreRows z [] = Unit {0}
AreRows z (s ∷ rows) =
    IsGoodSaved z.frame.bytes s × IsHiddenWord z (frame_pointer_of z.entry - s.offset) × OtherThan z (frame_pointer_of z.entry - s.offset) rows × AreRows z rows

pub record Saves (z : Setting) (c : Machine) (rows : List SavedRow) : Type 0 where
  pub after : Machine
  pub does : Does z c (saves z.frame rows) after
  pub sp : after.registers.sp ≡ c.registers.sp
  pub others : (r : ℕ) → r ≢ 15 → after.registers.x r ≡ c.registers.x r
  pub words : AreWords after.registers
  pub bytes : AreBytes after.memory
  pub keeps : (q : ℕ) → is_some (after.memory q) ≡ is_some (c.memory q)
  pub seen : visible (row z) z.entry after.memory ≡ visible (row z) z.entry c.memory
  pub other : (at : ℕ) → OtherThan z at rows → read_word after.memory at 8 ≡ read_word c.memory at 8
  pub saved : AreSaved z after c.registers.x rows

same_saved : (z : Setting) (c : Machine) (x y : ℕ → ℕ) (rows : List SavedRow) → ((r : ℕ) → 19 ≤ r → x r ≡ y r) → AreRows z rows → AreSaved z c x rows
    → AreSaved z c y rows
same_saved z c x y [] same are saved = tt
same_saved z c x y (s ∷ rows) same are saved = (saved.0 ∙ ap Some (same s.reg.0 are.0.low), same_saved z c x y rows same are.3 saved.1)

module _ (z : Setting) (set : IsSet z) (good : IsGoodFrame (row z)) where
  -- SP is at the bottom of the frame, which is whole
  pub record IsLow (c : Machine) : Type 0 where
    pub sp : c.registers.sp ≡ z.entry.sp - z.frame.bytes
    pub words : AreWords c.registers
    pub bytes : AreBytes c.memory
    pub whole : (address : ℕ) → in_frame (row z) z.entry address ≡ true → is_some (c.memory address) ≡ true

  some_byte : (memory : Memory) (q : ℕ) → is_some (memory q) ≡ true → (byte : ℕ) × (memory q ≡ Some byte)
  some_byte memory q there = elim (memory q) as (λ o. is_some o ≡ true → (byte : ℕ) × (o ≡ Some byte)) [ Some byte ↦ λ e. (byte, refl) | None ↦ λ e. cc ] there

  pub low_whole : (c : Machine) → IsLow c → IsWhole z c
  low_whole c low =
      let aligned = good.aligned in
      let top = set.aligned in
      let room = set.room in
      record {
        aligned = ap (λ n. n % 16) low.sp ∙ omega arith;
        whole = λ address inside. some_byte c.memory address (low.whole address inside);
      }

  pub low_placed : (c : Machine) (offset : ℕ) → IsLow c → IsWordOffset z.frame.bytes offset → IsPlaced z c offset
  low_placed c offset low place =
      let aligned = good.aligned in
      record { sp = low.sp; small = set.ranged.sp; room = set.room; limit = good.limit; place = place; aligned = omega arith }

  pub saves_does : (c : Machine) (rows : List SavedRow) → IsLow c → AreRows z rows → Saves z c rows
  unfolding saves
  saves_does c [] low are = record {
    after = c;
    does = does_none z c;
    sp = refl;
    others = λ r differ. refl;
    words = low.words;
    bytes = low.bytes;
    keeps = λ q. refl;
    seen = refl;
    other = λ at differ. refl;
    saved = tt;
  }
  saves_does c (s ∷ rows) low are =
      let at : ℕ = frame_pointer_of z.entry - s.offset in
      let from : IsGoodSaved z.frame.bytes s = are.0 in
      let least = from.low in
      let most = from.high in
      let first = store_puts z c s.reg.0 s.offset (low_whole c low) low.words (omega arith) (λ e. omega arith) (low_placed c s.offset low from.place)
      (word_mapped z set good c s.offset from.place low.whole) in
      let keeps : (q : ℕ) → is_some (first.after.memory q) ≡ is_some (c.memory q) =
      λ q. ap (λ (m : Memory). is_some (m q)) first.memory
      ∙ write_word_mapped c.memory at 8 (c.registers.x s.reg.0) q (word_mapped z set good c s.offset from.place low.whole) in
      let next : IsLow first.after = record {
        sp = first.sp ∙ low.sp;
        words = first.words;
        bytes = subst AreBytes (sym first.memory) (write_word-AreBytes c.memory at 8 (c.registers.x s.reg.0) low.bytes);
        whole = λ address inside. keeps address ∙ low.whole address inside;
      } in
      let more = saves_does first.after rows next are.3 in
      record {
        after = more.after;
        does = does_both z c first.after more.after (store_at s.reg.0 (above_sp z.frame s.offset)) (saves z.frame rows) first.does more.does;
        sp = more.sp ∙ first.sp;
        others = λ r differ. more.others r differ ∙ first.others r differ;
        words = more.words;
        bytes = more.bytes;
        keeps = λ q. more.keeps q ∙ keeps q;
        seen = more.seen ∙ ap (visible (row z) z.entry) first.memory ∙ hidden_store z set c.memory at (c.registers.x s.reg.0) are.1;
        other = λ other differ. more.other other differ.1 ∙ ap (λ (m : Memory). read_word m other 8) first.memory
            ∙ read-write_apart c.memory other 8 at 8 (c.registers.x s.reg.0) differ.0;
        saved = (
          more.other at are.2 ∙ ap (λ (m : Memory). read_word m at 8) first.memory
              ∙ read-write_same c.memory at 8 (c.registers.x s.reg.0) (omega arith) ∙ ap Some (whole_word (c.registers.x s.reg.0) (low.words.x s.reg.0)),
          same_saved z more.after first.after.registers.x c.registers.x rows (λ r ge. first.others r (λ e. omega arith)) are.3 more.saved,
        );
      }

-- ---- the two words above the frame

moved_down : (sp : ℕ) → 16 ≤ sp → sp < 2 ^ 64 → moved_sp sp (negsuc 1) ≡ sp - 16
moved_down sp room small = omega (arith, ints)

pushes : (r : Registers) (m : Memory) (low top : ℕ) → moved_sp r.sp (negsuc 1) ≡ low → byte_address low 8 ≡ top → is_mapped m low 16 ≡ true
    → step_of (PairSp false 29 30 (negsuc 1)) r m ≡ goes_on (record r { sp = low }) (write_word (write_word m low 8 (r.x 29)) top 8 (r.x 30))
unfolding step_of store_pair
pushes r m low top at above mapped = rw (at, above, mapped) refl

copies : (r : Registers) (m : Memory) → r.sp < 2 ^ 64 → step_of (AddSubImm W64 false false 29 31 0 false) r m ≡ goes_on (put r 29 r.sp) m
unfolding step_of add_sub_imm
copies r m small = let e : (r.sp % 2 ^ 64 + 0 + 0) % 2 ^ 64 ≡ r.sp = omega arith in ap (λ (a : ℕ). goes_on (put r 29 a) m) e

pair_bytes : (sp bytes i : ℕ) → sp < 2 ^ 64 → 16 ≤ bytes → bytes ≤ sp → i < 16
    → (nat_le (sp - bytes) (byte_address (sp - 16) i) && nat_lt (byte_address (sp - 16) i) (sp - bytes + bytes)) ≡ true
pair_bytes sp bytes i small some room lt = grind (arith, nat_tests)

top_bytes : (sp bytes i : ℕ) → sp < 2 ^ 64 → 16 ≤ bytes → bytes ≤ sp → i < 8
    → (nat_le (sp - bytes) (byte_address (sp - 16 + 8) i) && nat_lt (byte_address (sp - 16 + 8) i) (sp - bytes + bytes)) ≡ true
top_bytes sp bytes i small some room lt = grind (arith, nat_tests)

pub low_byte : (sp i : ℕ) → 16 ≤ sp → sp < 2 ^ 64 → i < 16 → sp - 16 ≤ byte_address (sp - 16) i
low_byte sp i le small lt = omega arith

top_byte : (sp i : ℕ) → 16 ≤ sp → sp < 2 ^ 64 → i < 8 → sp - 16 ≤ byte_address (sp - 16 + 8) i
top_byte sp i le small lt = omega arith

min_right : (a b q : ℕ) → b ≤ q → min a b ≤ q
min_right a b q le = omega arith

caller_apart : (sp bytes offset i j : ℕ) → sp < 2 ^ 64 → bytes ≤ sp → 8 ≤ offset → offset + 16 ≤ bytes → i < 8 → j < 8
    → byte_address (sp - 16 - 0) i ≢ byte_address (sp - 16 - offset) j
caller_apart sp bytes offset i j small room ends begins lt_i lt_j e = omega arith

link_apart : (sp bytes offset i j : ℕ) → sp < 2 ^ 64 → bytes ≤ sp → 8 ≤ offset → offset + 16 ≤ bytes → i < 8 → j < 8
    → byte_address (sp - 16 + 8) i ≢ byte_address (sp - 16 - offset) j
link_apart sp bytes offset i j small room ends begins lt_i lt_j e = omega arith

two_apart : (sp : ℕ) → 16 ≤ sp → sp < 2 ^ 64 → AreApart (sp - 16) 8 (sp - 16 + 8) 8
two_apart sp room small i j lt_i lt_j e = omega arith

-- the memory with x29 and x30 stored
abbrev pushed : Setting → Memory → Memory
pushed z memory = write_word (write_word memory (frame_pointer_of z.entry) 8 (z.entry.registers 29)) (frame_pointer_of z.entry + 8) 8 (z.entry.registers 30)

-- the rows of a good frame may be saved
module _ (z : Setting) (set : IsSet z) (good : IsGoodFrame (row z)) where
  other_rows : (s : SavedRow) (rows : List SavedRow) → IsWordOffset z.frame.bytes s.offset → All (IsGoodSaved z.frame.bytes) rows
      → All (AreDisjoint (saved_span s)) (map saved_span rows) → OtherThan z (frame_pointer_of z.entry - s.offset) rows
  other_rows s [] place goods apart = tt
  other_rows s (r ∷ rows) place goods apart = (
    words_apart z set good s.offset r.offset place (All-head (IsGoodSaved z.frame.bytes) r rows goods).place
        (All-head (AreDisjoint (saved_span s)) (saved_span r) (map saved_span rows) apart),
    other_rows s rows place (All-tail (IsGoodSaved z.frame.bytes) r rows goods)
        (All-tail (AreDisjoint (saved_span s)) (saved_span r) (map saved_span rows) apart),
  )

  rows_are : (rows : List SavedRow) → All (IsGoodSaved z.frame.bytes) rows → AllPairs AreDisjoint (map slot_span (row z).slots ++ map saved_span rows)
      → AreRows z rows
  rows_are [] goods apart = tt
  rows_are (s ∷ rows) goods apart =
      let is_good = All-head (IsGoodSaved z.frame.bytes) s rows goods in
      let goods_rest = All-tail (IsGoodSaved z.frame.bytes) s rows goods in
      let among : Contains (map saved_span (s ∷ rows)) (saved_span s) = (0, omega arith, refl) in
      let behind = pairs_behind (row z).slots (map saved_span (s ∷ rows)) apart in (
        is_good,
        hidden_word z set good s.offset is_good.place (apart_from_slots (row z).slots (map saved_span (s ∷ rows)) (saved_span s) apart among),
        other_rows s rows is_good.place goods_rest (pairs_head (saved_span s) (map saved_span rows) behind),
        rows_are rows goods_rest (pairs_without (row z).slots (saved_span s) (map saved_span rows) apart),
      )

  caller_other : (rows : List SavedRow) → All (IsGoodSaved z.frame.bytes) rows → OtherThan z (frame_pointer_of z.entry - 0) rows
  caller_other [] goods = tt
  caller_other (s ∷ rows) goods =
      let place = (All-head (IsGoodSaved z.frame.bytes) s rows goods).place in (
        λ i j lt_i lt_j. caller_apart z.entry.sp z.frame.bytes s.offset i j set.ranged.sp set.room place.ends place.begins lt_i lt_j,
        caller_other rows (All-tail (IsGoodSaved z.frame.bytes) s rows goods),
      )

  link_other : (rows : List SavedRow) → All (IsGoodSaved z.frame.bytes) rows → OtherThan z (frame_pointer_of z.entry + 8) rows
  link_other [] goods = tt
  link_other (s ∷ rows) goods =
      let place = (All-head (IsGoodSaved z.frame.bytes) s rows goods).place in (
        λ i j lt_i lt_j. link_apart z.entry.sp z.frame.bytes s.offset i j set.ranged.sp set.room place.ends place.begins lt_i lt_j,
        link_other rows (All-tail (IsGoodSaved z.frame.bytes) s rows goods),
      )

-- the word of a row among those that are saved
saved_place : (z : Setting) (c : Machine) (x : ℕ → ℕ) (rows : List SavedRow) (k : ℕ) (s : SavedRow) → AreSaved z c x rows → k < length rows
    → get_or rows k s ≡ s
    → word_below z c s.offset ≡ Some (x s.reg.0)
saved_place z c x [] k s saved lt e = absurd (omega arith)
saved_place z c x (first ∷ rows) zero s saved lt e = subst (λ (r : SavedRow). word_below z c r.offset ≡ Some (x r.reg.0)) e saved.0
saved_place z c x (first ∷ rows) (suc k) s saved lt e = saved_place z c x rows k s saved.1 (omega arith) e

pub saved_word : (z : Setting) (c : Machine) (x : ℕ → ℕ) (rows : List SavedRow) → AreSaved z c x rows → (s : SavedRow) → Contains rows s
    → word_below z c s.offset ≡ Some (x s.reg.0)
saved_word z c x rows saved s there = saved_place z c x rows there.0 s saved there.1 there.2

pub good_row : (bytes : ℕ) (rows : List SavedRow) → All (IsGoodSaved bytes) rows → (s : SavedRow) → Contains rows s → IsGoodSaved bytes s
good_row bytes rows goods s there = subst (IsGoodSaved bytes) there.2 (goods there.0 s there.1)

inside_below : (sp bytes q : ℕ) → sp < 2 ^ 64 → bytes ≤ sp → (nat_le (sp - bytes) q && nat_lt q (sp - bytes + bytes)) ≡ true → q < 2 ^ 64
inside_below sp bytes q small room is = grind (arith, nat_tests)

entry_bytes : (z : Setting) → IsSet z → AreBytes (entry_memory (row z) z.entry)
entry_bytes z set q =
    elim (in_frame (row z) z.entry q) as (λ b. in_frame (row z) z.entry q ≡ b
    → IfSome (if b then Some (z.entry.stack q) else z.entry.memory q) (λ byte. (q < 2 ^ 64) × (byte < 256))) [
      | true ↦ λ is. (inside_below z.entry.sp z.frame.bytes q set.ranged.sp set.room is, set.ranged.stack q)
      | false ↦ λ is. set.ranged.memory q
    ] refl

-- what the prologue leaves
pub record Entered (z : Setting) (c : Machine) : Type 0 where
  pub after : Machine
  pub does : Does z c (prologue z.frame) after
  pub frame : HasFrame z after
  pub others : (r : ℕ) → r ≢ 15 → r ≢ 29 → after.registers.x r ≡ z.entry.registers r
  pub seen : visible (row z) z.entry after.memory ≡ visible (row z) z.entry (entry_memory (row z) z.entry)

module _ (z : Setting) (set : IsSet z) (good : IsGoodFrame (row z)) (c : Machine) (begins : Begins z c) where
  some_room : 16 ≤ z.entry.sp
  some_room = let least = good.least in let room = set.room in omega arith

  inside : (q : ℕ) → in_frame (row z) z.entry q ≡ true → is_some (entry_memory (row z) z.entry q) ≡ true
  inside q is = rw is refl

  mapped_too : (q : ℕ) → is_some (z.entry.memory q) ≡ true → is_some (entry_memory (row z) z.entry q) ≡ true
  mapped_too q some = let out = set.apart q some in rw out some

  start_inside : (q : ℕ) → in_frame (row z) z.entry q ≡ true → is_some (c.memory q) ≡ true
  start_inside q is = rw begins.memory (inside q is)

  start_whole : IsWhole z c
  start_whole = record {
    aligned = ap (λ n. n % 16) begins.sp ∙ set.aligned;
    whole = λ address is. some_byte z set good c.memory address (start_inside address is);
  }

  pair_inside : (i : ℕ) → i < 16 → in_frame (row z) z.entry (byte_address (frame_pointer_of z.entry) i) ≡ true
  pair_inside i lt = pair_bytes z.entry.sp z.frame.bytes i set.ranged.sp good.least set.room lt

  top_inside : (i : ℕ) → i < 8 → in_frame (row z) z.entry (byte_address (frame_pointer_of z.entry + 8) i) ≡ true
  top_inside i lt = top_bytes z.entry.sp z.frame.bytes i set.ranged.sp good.least set.room lt

  caller_hidden : IsHiddenWord z (frame_pointer_of z.entry)
  caller_hidden i lt = (
    pair_inside i (omega arith),
    not_in_slot z set good (byte_address (frame_pointer_of z.entry) i) (low_byte z.entry.sp i some_room set.ranged.sp (omega arith)),
  )

  link_hidden : IsHiddenWord z (frame_pointer_of z.entry + 8)
  link_hidden i lt = (
    top_inside i lt,
    not_in_slot z set good (byte_address (frame_pointer_of z.entry + 8) i) (top_byte z.entry.sp i some_room set.ranged.sp lt),
  )

  -- ---- stp x29, x30, [sp, #-16]!

  -- the machine after it
  first : Machine
  first = with_memory (with_sp c (frame_pointer_of z.entry)) (pushed z c.memory)

  down : moved_sp c.registers.sp (negsuc 1) ≡ frame_pointer_of z.entry
  down = rw begins.sp (moved_down z.entry.sp some_room set.ranged.sp)

  does_first_one : (pc : ℕ) → step_of (PairSp false 29 30 (negsuc 1)) (moved_to pc c).registers c.memory ≡ goes_on (moved_to pc first).registers first.memory
  unfolding first
  does_first_one pc =
      let above : byte_address (frame_pointer_of z.entry) 8 ≡ frame_pointer_of z.entry + 8 = let room = some_room in let small = set.ranged.sp in omega arith in
      let mapped : is_mapped c.memory (frame_pointer_of z.entry) 16 ≡ true =
      is_mapped_all c.memory (frame_pointer_of z.entry) 16 (λ i lt. start_inside (byte_address (frame_pointer_of z.entry) i) (pair_inside i lt)) in
      pushes (moved_to pc c).registers c.memory (frame_pointer_of z.entry) (frame_pointer_of z.entry + 8) down above mapped
      ∙ ap (λ (x : ℕ → ℕ). goes_on (moved_to pc (with_sp c (frame_pointer_of z.entry))).registers
      (write_word (write_word c.memory (frame_pointer_of z.entry) 8 (x 29)) (frame_pointer_of z.entry + 8) 8 (x 30))) begins.x

  first_one : DoesOne z c (PairSp false 29 30 (negsuc 1)) first
  unfolding first
  first_one = record {
    does = does_first_one;
    safe = λ pc. record {
      there = λ at n i some lt is.
          let both : (frame_pointer_of z.entry, 16) ≡ (at, n) = same_Some (frame_pointer_of z.entry, 16) (at, n) (ap (λ a. Some (a, 16)) (sym down) ∙ some) in
          let at_is : frame_pointer_of z.entry ≡ at = ap (λ (p : ℕ × ℕ). p.0) both in
          let count : 16 ≡ n = ap (λ (p : ℕ × ℕ). p.1) both in
          let above : frame_pointer_of z.entry ≤ byte_address at i =
          subst (λ (a : ℕ). frame_pointer_of z.entry ≤ byte_address a i) at_is (low_byte z.entry.sp i some_room set.ranged.sp (omega (arith, count))) in
          let sp_is : (step_of (PairSp false 29 30 (negsuc 1)) (moved_to pc c).registers c.memory).registers.sp ≡ frame_pointer_of z.entry =
          ap (λ (t : Stepped). t.registers.sp) (does_first_one pc) in
          min_right c.registers.sp (step_of (PairSp false 29 30 (negsuc 1)) (moved_to pc c).registers c.memory).registers.sp (byte_address at i)
          (subst (λ (a : ℕ). a ≤ byte_address at i) (sym sp_is) above);
      platform = ap (λ (t : Stepped). t.registers.x 18) (does_first_one pc);
    };
    whole = start_whole;
  }

  caller_mapped : is_mapped c.memory (frame_pointer_of z.entry) 8 ≡ true
  caller_mapped = is_mapped_all c.memory (frame_pointer_of z.entry) 8
      (λ i lt. start_inside (byte_address (frame_pointer_of z.entry) i) (pair_inside i (omega arith)))

  link_mapped : is_mapped c.memory (frame_pointer_of z.entry + 8) 8 ≡ true
  link_mapped = is_mapped_all c.memory (frame_pointer_of z.entry + 8) 8
      (λ i lt. start_inside (byte_address (frame_pointer_of z.entry + 8) i) (top_inside i lt))

  first_keeps : (q : ℕ) → is_some (pushed z c.memory q) ≡ is_some (c.memory q)
  first_keeps q =
      write_word_mapped (write_word c.memory (frame_pointer_of z.entry) 8 (z.entry.registers 29)) (frame_pointer_of z.entry + 8) 8 (z.entry.registers 30) q
      (is_mapped_after_write c.memory (frame_pointer_of z.entry) 8 (z.entry.registers 29) (frame_pointer_of z.entry + 8) 8 caller_mapped ∙ link_mapped)
      ∙ write_word_mapped c.memory (frame_pointer_of z.entry) 8 (z.entry.registers 29) q caller_mapped

  first_aligned : frame_pointer_of z.entry % 16 ≡ 0
  first_aligned = let room = some_room in let top = set.aligned in omega arith

  first_whole : IsWhole z first
  unfolding first
  first_whole = record {
    aligned = first_aligned;
    whole = λ address is. some_byte z set good (pushed z c.memory) address (first_keeps address ∙ start_inside address is);
  }

  first_words : AreWords first.registers
  unfolding first
  first_words = let small = set.ranged.sp in record { x = begins.words.x; sp = omega arith; pc = begins.words.pc }

  first_bytes : AreBytes c.memory → AreBytes (pushed z c.memory)
  first_bytes bytes =
      write_word-AreBytes (write_word c.memory (frame_pointer_of z.entry) 8 (z.entry.registers 29)) (frame_pointer_of z.entry + 8) 8 (z.entry.registers 30)
      (write_word-AreBytes c.memory (frame_pointer_of z.entry) 8 (z.entry.registers 29) bytes)

  first_seen : visible (row z) z.entry (pushed z c.memory) ≡ visible (row z) z.entry c.memory
  first_seen =
      hidden_store z set (write_word c.memory (frame_pointer_of z.entry) 8 (z.entry.registers 29)) (frame_pointer_of z.entry + 8)
      (z.entry.registers 30) link_hidden
      ∙ hidden_store z set c.memory (frame_pointer_of z.entry) (z.entry.registers 29) caller_hidden

  first_caller : read_word (pushed z c.memory) (frame_pointer_of z.entry - 0) 8 ≡ Some (z.entry.registers 29)
  first_caller =
      let same : frame_pointer_of z.entry - 0 ≡ frame_pointer_of z.entry = omega arith in
      ap (λ a. read_word (pushed z c.memory) a 8) same
      ∙ read-write_apart (write_word c.memory (frame_pointer_of z.entry) 8 (z.entry.registers 29)) (frame_pointer_of z.entry) 8 (frame_pointer_of z.entry + 8) 8
      (z.entry.registers 30) (two_apart z.entry.sp some_room set.ranged.sp)
      ∙ read-write_same c.memory (frame_pointer_of z.entry) 8 (z.entry.registers 29) (omega arith)
      ∙ ap Some (whole_word (z.entry.registers 29) (set.ranged.registers 29))

  first_link : read_word (pushed z c.memory) (frame_pointer_of z.entry + 8) 8 ≡ Some (z.entry.registers 30)
  first_link =
      read-write_same (write_word c.memory (frame_pointer_of z.entry) 8 (z.entry.registers 29)) (frame_pointer_of z.entry + 8) 8 (z.entry.registers 30)
      (omega arith)
      ∙ ap Some (whole_word (z.entry.registers 30) (set.ranged.registers 30))

  -- ---- mov x29, sp, and SP falls

  second : Machine
  second = with_reg first 29 (frame_pointer_of z.entry)

  second_one : DoesOne z first (AddSubImm W64 false false 29 31 0 false) second
  unfolding first second
  second_one =
      puts_one z first (AddSubImm W64 false false 29 31 0 false) 29 (frame_pointer_of z.entry) first_whole (λ e. omega arith) (λ pc. refl)
      (λ pc. copies (moved_to pc first).registers first.memory first_words.sp)

  third : Machine
  third = with_sp second (frame_pointer_of z.entry - (z.frame.bytes - 16))

  third_does : Does z second (lower_sp (z.frame.bytes - 16)) third
  unfolding first second third
  third_does =
      let even = good.aligned in
      let least = good.least in
      let room = set.room in
      lower_sp_does z second (z.frame.bytes - 16) (whole_same z first second refl refl first_whole) first_words.sp (omega arith) (omega arith)

  third_low : AreBytes c.memory → IsLow z set good third
  unfolding first second third
  third_low bytes = let least = good.least in let room = set.room in let small = set.ranged.sp in record {
    sp = omega arith;
    words = let words = put_words first 29 (frame_pointer_of z.entry) first_words first_words.sp in record { x = words.x; sp = omega arith; pc = words.pc };
    bytes = first_bytes bytes;
    whole = λ address is. first_keeps address ∙ start_inside address is;
  }

  third_others : (r : ℕ) → r ≢ 29 → third.registers.x r ≡ z.entry.registers r
  unfolding first second third
  third_others r differ = put_other first 29 (frame_pointer_of z.entry) r differ ∙ ap (λ (x : ℕ → ℕ). x r) begins.x

  pub entering : Entered z c
  unfolding prologue first second third
  entering =
      let bytes : AreBytes c.memory = subst AreBytes (sym begins.memory) (entry_bytes z set) in
      let low = third_low bytes in
      let rows = rows_are z set good z.frame.saved good.saved good.disjoint in
      let last = saves_does z set good third z.frame.saved low rows in
      record {
        after = last.after;
        does = does_first z c first last.after (PairSp false 29 30 (negsuc 1))
            (AddSubImm W64 false false 29 31 0 false ∷ (lower_sp (z.frame.bytes - 16) ++ saves z.frame z.frame.saved)) first_one
            (does_first z first second last.after (AddSubImm W64 false false 29 31 0 false)
            (lower_sp (z.frame.bytes - 16) ++ saves z.frame z.frame.saved) second_one
            (does_both z second third last.after (lower_sp (z.frame.bytes - 16)) (saves z.frame z.frame.saved) third_does last.does));
        frame = record {
          sp = last.sp ∙ low.sp;
          x29 = last.others 29 (λ e. omega arith) ∙ put_same first 29 (frame_pointer_of z.entry);
          words = last.words;
          bytes = last.bytes;
          whole = λ address is. last.keeps address ∙ low.whole address is;
          mapped = λ address is. last.keeps address ∙ first_keeps address ∙ rw begins.memory (mapped_too address is);
          unmapped = λ address none out. none_of (last.after.memory address)
              (last.keeps address ∙ first_keeps address ∙ rw begins.memory (rw out none));
          caller = last.other (frame_pointer_of z.entry - 0) (caller_other z set good z.frame.saved good.saved) ∙ first_caller;
          link = last.other (frame_pointer_of z.entry + 8) (link_other z set good z.frame.saved good.saved) ∙ first_link;
          saved = λ s there. saved_word z last.after third.registers.x z.frame.saved last.saved s there
              ∙ ap Some (third_others s.reg.0 (λ e. let row = good_row z.frame.bytes z.frame.saved good.saved s there in let high = row.high in omega arith));
          unsaved = λ r ge le none. last.others r (λ e. omega arith) ∙ third_others r (λ e. omega arith);
        };
        others = λ r differ other. last.others r differ ∙ third_others r other;
        seen = last.seen ∙ first_seen ∙ ap (visible (row z) z.entry) begins.memory;
      }

-- ---- the state in which the run of Air begins

carries_argument : (z : Setting) (arguments : ℕ → ℕ) (r word : ℕ) → arguments ≡ argument_words z.entry.registers → word ≡ z.entry.registers r
    → Carries (if nat_lt r 8 then Holds W64 (arguments r) else Empty) word
carries_argument z arguments r word same is =
    elim (nat_lt r 8) as (λ b. nat_lt r 8 ≡ b → Carries (if b then Holds W64 (arguments r) else Empty) word) [
      | true ↦ λ few.
          let here : arguments r ≡ z.entry.registers r = ap (λ (f : ℕ → ℕ). f r) same ∙ rw few refl in
          ap (low W64) (is ∙ sym here)
      | false ↦ λ many. tt
    ] refl

no_scratch : (r : Register) → IsAllocatable r → (r.0 ≢ 15) × (r.0 ≢ 29)
no_scratch r is = ⊎_elim (λ (le : r.0 ≤ 14). (λ e. omega arith, λ e. omega arith)) (λ (between : (19 ≤ r.0) × (r.0 ≤ 28)). let lo = between.0 in
    let hi = between.1 in (λ e. omega arith, λ e. omega arith)) is

pub entered_related : (z : Setting) (set : IsSet z) (serves : IsFrameOf z.procedure z.frame) (answers : List Answer) (c : Machine) → (entered : Entered z c)
    → IsRelated z (first_state z answers) entered.after
entered_related z set serves answers c entered = record {
  frame = entered.frame;
  registers = λ r is.
      let other = no_scratch r is in
      carries_argument z z.start.arguments r.0 (entered.after.registers.x r.0) set.arguments (entered.others r.0 other.0 other.1);
  spills = λ n offset named there.
      let placed = serves.spilled n named in
      let is_word : IsWordOffset z.frame.bytes offset = (subst (λ o. IsSomeAnd o (λ offset. IsGoodRep (row z) W64 (Slot offset))) there placed).0 in
      let some : is_some (word_below z entered.after offset) ≡ true =
      is_some-read_word entered.after.memory (frame_pointer_of z.entry - offset) 8
      ∙ word_mapped z set serves.good entered.after offset is_word entered.frame.whole in
      let word = some_of (word_below z entered.after offset) some in
      (word.0, word.1, tt);
  memory = set.memory ∙ sym entered.seen;
}
