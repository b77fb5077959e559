-- A frame that is read is spelled so, and one that is spelled so is read.
use Rattle.std.proofs.Common.{◌≡◌, ℕ, ◌≤◌, Bool, true, eqb, List, [], ◌∷◌, ◌++◌, length, map, Ok, refl, sym, ap, subst, ◌∙◌, append_assoc}
use Rattle.std.specs.Prelude.{⊤, nat_le, nat_lt, codes, ◌&&◌, ◌%◌, ◌^◌, ◌+◌, ◌==◌}
use Rattle.std.specs.List.{flat_map}
use Rattle.std.specs.Int.{w32, from_le_bytes}
use Rattle.std.proofs.lemmas.Bool.{eqb-true, eq-eqb, leb-true, and_parts}
use Rattle.std.proofs.lemmas.List.{append-nil}
use Rattle.stackmap.specs.declared.site.SlotRow.{SlotRow}
use Rattle.stackmap.specs.declared.site.SavedRow.{SavedRow}
use Rattle.exit_table.specs.declared.fault.Cause.TheVariants.{Extent, Rule, Order}
use Rattle.stackmap.specs.declared.site.Returns.{Returns}
use Rattle.stackmap.specs.declared.site.Returns.TheVariants as returns
use Rattle.exit_table.specs.declared.tables.FrameRow.{FrameRow}
use Rattle.exit_table.specs.declared.frame_reader.Header.{Header}
use Rattle.exit_table.specs.Spelling.{returns_number}
use Rattle.exit_table.specs.Good.{Span, slot_span, saved_span}
use Rattle.exit_table.specs.Reading.{Reader, give, ◌>>=◌, one, any, is_zero, mark_at, rows}
use Rattle.exit_table.specs.FrameReading.{Saving, is_clear, frame_bytes, returns_of, header_at, frame_at, each_frame, after_frame, is_count, frames_at, is_word_at, slot_offset, slot_of, slot_at, after_slot, saved_number, saved_of, saved_at, after_saved}
use Rattle.exit_table.proofs.Rows.{and_then_ok, ok_is, check_ok, if_ok, one_takes, AllAfter, AreSmall, any_is, listed, unlisted, IsRow, small_left, rows_take, rows_again, mark_takes, mark_again, zero_takes}

-- ---- a slot

abbrev pub slot_fields : SlotRow → List ℕ
slot_fields slot = slot.offset ∷ slot.size ∷ []

-- a slot where these bytes are not taken
pub record IsSlotAfter (bytes : ℕ) (clear : Span → Bool) (slot : SlotRow) : Type 0 where
  pub offset : ((slot.offset % 16 == 0) && nat_le (slot.offset + 16) bytes) ≡ true
  pub size : (nat_le 1 slot.size && nat_le slot.size slot.offset && clear (slot_span slot)) ≡ true

pub slot_takes : (bytes : ℕ) (clear : Span → Bool) (section : List ℕ) (x : SlotRow × List ℕ) → slot_at bytes clear section ≡ Ok x → IsRow (slot_at bytes) after_slot slot_fields (IsSlotAfter bytes) clear section x.0 x.1
unfolding slot_at
slot_takes bytes clear section x e =
    let a = and_then_ok (one (slot_offset bytes) section) (λ offset. (one (slot_of clear offset.0) >>= give) offset.1) x e in
    let b = and_then_ok (one (slot_of clear a.0.0) a.0.1) (λ slot. Ok slot) x a.2 in
    let o = one_takes (slot_offset bytes) section a.0 a.1 in
    let s = one_takes (slot_of clear a.0.0) a.0.1 b.0 b.1 in
    let p = check_ok _ Rule o.number a.0.0 o.says in
    let q = check_ok _ Rule (record { offset = a.0.0; size = s.number }) b.0.0 s.says in
    let same : (a.0.0 ≡ b.0.0.offset) × (s.number ≡ b.0.0.size) = (ap (λ (r : SlotRow). r.offset) q.1, ap (λ (r : SlotRow). r.size) q.1) in
    subst (λ (z : SlotRow × List ℕ). IsRow (slot_at bytes) after_slot slot_fields (IsSlotAfter bytes) clear section z.0 z.1) (ok_is b.0 x b.2)
    (record {
      spelled = o.is ∙ ap (λ (t : List ℕ). o.number ∷ t) s.is ∙ ap (λ (n : ℕ). n ∷ s.number ∷ b.0.1) (p.1 ∙ same.0) ∙ ap (λ (n : ℕ). b.0.0.offset ∷ n ∷ b.0.1) same.1;
      good = record {
        offset = subst (λ (n : ℕ). ((n % 16 == 0) && nat_le (n + 16) bytes) ≡ true) (p.1 ∙ same.0) p.0;
        size = subst (λ (r : SlotRow). (nat_le 1 r.size && nat_le r.size r.offset && clear (slot_span r)) ≡ true) q.1 q.0;
      };
    })

pub slot_again : (bytes : ℕ) (clear : Span → Bool) (slot : SlotRow) (rest : List ℕ) → IsSlotAfter bytes clear slot → slot_at bytes clear (slot_fields slot ++ rest) ≡ Ok (slot, rest)
unfolding slot_at
slot_again bytes clear slot rest good = rw (good.offset, good.size) refl

-- a slot that was read may be taken
pub slot_room : (bytes : ℕ) (clear : Span → Bool) (section : List ℕ) (x : SlotRow × List ℕ) → slot_at bytes clear section ≡ Ok x → (1 ≤ x.0.size) × (x.0.size ≤ x.0.offset) × (clear (slot_span x.0) ≡ true)
slot_room bytes clear section x e =
    let read = slot_takes bytes clear section x e in
    let size = and_parts _ _ read.good.size in
    let ends = and_parts _ _ size.0 in
    (leb-true _ _ ends.0, leb-true _ _ ends.1, size.1)

-- ---- a saved register

abbrev pub saved_fields : SavedRow → List ℕ
saved_fields saved = saved.reg.0 ∷ saved.offset ∷ []

pub record IsSavedAfter (bytes : ℕ) (known : Saving) (saved : SavedRow) : Type 0 where
  pub number : (nat_le 19 saved.reg.0 && nat_le saved.reg.0 28) ≡ true
  pub rises : nat_le known.least saved.reg.0 ≡ true
  pub offset : is_word_at bytes known.clear (saved_span saved) ≡ true

pub saved_takes : (bytes : ℕ) (known : Saving) (section : List ℕ) (x : SavedRow × List ℕ) → saved_at bytes known section ≡ Ok x → IsRow (saved_at bytes) after_saved saved_fields (IsSavedAfter bytes) known section x.0 x.1
unfolding saved_at
saved_takes bytes known section x e =
    let a = and_then_ok (one (saved_number known.least) section) (λ number. (one (saved_of bytes known.clear number.0) >>= give) number.1) x e in
    let b = and_then_ok (one (saved_of bytes known.clear a.0.0) a.0.1) (λ saved. Ok saved) x a.2 in
    let o = one_takes (saved_number known.least) section a.0 a.1 in
    let s = one_takes (saved_of bytes known.clear a.0.0) a.0.1 b.0 b.1 in
    let i = if_ok _ _ Rule a.0.0 o.says in
    let p = check_ok _ Order o.number a.0.0 i.1 in
    let q = check_ok _ Rule (record { reg = record { 0 = a.0.0 }; offset = s.number }) b.0.0 s.says in
    let same : (a.0.0 ≡ b.0.0.reg.0) × (s.number ≡ b.0.0.offset) = (ap (λ (r : SavedRow). r.reg.0) q.1, ap (λ (r : SavedRow). r.offset) q.1) in
    subst (λ (z : SavedRow × List ℕ). IsRow (saved_at bytes) after_saved saved_fields (IsSavedAfter bytes) known section z.0 z.1) (ok_is b.0 x b.2)
    (record {
      spelled = o.is ∙ ap (λ (t : List ℕ). o.number ∷ t) s.is ∙ ap (λ (n : ℕ). n ∷ s.number ∷ b.0.1) (p.1 ∙ same.0) ∙ ap (λ (n : ℕ). b.0.0.reg.0 ∷ n ∷ b.0.1) same.1;
      good = record {
        number = subst (λ (n : ℕ). (nat_le 19 n && nat_le n 28) ≡ true) (p.1 ∙ same.0) i.0;
        rises = subst (λ (n : ℕ). nat_le known.least n ≡ true) (p.1 ∙ same.0) p.0;
        offset = subst (λ (r : SavedRow). is_word_at bytes known.clear (saved_span r) ≡ true) q.1 q.0;
      };
    })

pub saved_again : (bytes : ℕ) (known : Saving) (saved : SavedRow) (rest : List ℕ) → IsSavedAfter bytes known saved → saved_at bytes known (saved_fields saved ++ rest) ≡ Ok (saved, rest)
unfolding saved_at
saved_again bytes known saved rest good = rw (good.number, good.rises, good.offset) refl

-- the word of a saved register that was read may be taken
pub saved_room : (bytes : ℕ) (known : Saving) (section : List ℕ) (x : SavedRow × List ℕ) → saved_at bytes known section ≡ Ok x → (8 ≤ x.0.offset) × (known.clear (saved_span x.0) ≡ true)
saved_room bytes known section x e =
    let read = saved_takes bytes known section x e in
    let clear = and_parts _ _ read.good.offset in
    let within = and_parts _ _ clear.0 in
    let offset = and_parts _ _ within.0 in
    (leb-true _ _ offset.1, clear.1)

-- ---- a frame

abbrev pub frame_fields : FrameRow → List ℕ
frame_fields frame = frame.bytes ∷ length frame.slots ∷ length frame.saved ∷ returns_number frame.returns ∷ (flat_map slot_fields frame.slots ++ flat_map saved_fields frame.saved)

pub record IsFrame (frame : FrameRow) : Type 0 where
  pub size : ((frame.bytes % 16 == 0) && nat_le 16 frame.bytes && nat_lt frame.bytes (2 ^ 21)) ≡ true
  pub slots : AllAfter (IsSlotAfter frame.bytes) after_slot (is_clear []) frame.slots
  pub saved : AllAfter (IsSavedAfter frame.bytes) after_saved (record { clear = is_clear (map slot_span frame.slots); least = 0 }) frame.saved

-- a frame, whatever is known before it
abbrev pub IsAnyFrame : ⊤ → FrameRow → Type 0
IsAnyFrame known frame = IsFrame frame

returns_takes : (n : ℕ) (r : Returns) → returns_of n ≡ Ok r → n ≡ returns_number r
returns_takes n r e =
    listed (eqb n 0) returns.Nothing _ r e (λ is same. eqb-true _ _ is ∙ ap returns_number same)
    (λ e. listed (eqb n 32) returns.W32 _ r e (λ is same. eqb-true _ _ is ∙ ap returns_number same)
    (λ e. listed (eqb n 64) returns.W64 _ r e (λ is same. eqb-true _ _ is ∙ ap returns_number same) (unlisted r)))

returns_again : (r : Returns) → returns_of (returns_number r) ≡ Ok r
returns_again returns.Nothing = refl
returns_again returns.W32 = refl
returns_again returns.W64 = refl

record IsHeader (section : List ℕ) (header : Header) (rest : List ℕ) : Type 0 where
  pub spelled : section ≡ header.bytes ∷ header.slots ∷ header.saved ∷ returns_number header.returns ∷ rest
  pub size : ((header.bytes % 16 == 0) && nat_le 16 header.bytes && nat_lt header.bytes (2 ^ 21)) ≡ true

header_takes : (section : List ℕ) (x : Header × List ℕ) → header_at section ≡ Ok x → IsHeader section x.0 x.1
unfolding header_at
header_takes section x e =
    let last : ℕ → ℕ → ℕ → Returns → Reader Header = λ bytes slots saved returns. give (record { bytes = bytes; slots = slots; saved = saved; returns = returns }) in
    let fourth : ℕ → ℕ → ℕ → Reader Header = λ bytes slots saved. one returns_of >>= last bytes slots saved in
    let third : ℕ → ℕ → Reader Header = λ bytes slots. one any >>= fourth bytes slots in
    let second : ℕ → Reader Header = λ bytes. one any >>= third bytes in
    let a = and_then_ok (one frame_bytes section) (λ x. second x.0 x.1) x e in
    let b = and_then_ok (one any a.0.1) (λ x. third a.0.0 x.0 x.1) x a.2 in
    let c = and_then_ok (one any b.0.1) (λ x. fourth a.0.0 b.0.0 x.0 x.1) x b.2 in
    let d = and_then_ok (one returns_of c.0.1) (λ x. last a.0.0 b.0.0 c.0.0 x.0 x.1) x c.2 in
    let bytes = one_takes frame_bytes section a.0 a.1 in
    let slots = one_takes any a.0.1 b.0 b.1 in
    let saved = one_takes any b.0.1 c.0 c.1 in
    let returns = one_takes returns_of c.0.1 d.0 d.1 in
    let size = check_ok _ Rule bytes.number a.0.0 bytes.says in
    subst (λ (z : Header × List ℕ). IsHeader section z.0 z.1) (ok_is (record { bytes = a.0.0; slots = b.0.0; saved = c.0.0; returns = d.0.0 }, d.0.1) x d.2)
    (record {
      spelled = bytes.is
          ∙ ap (λ (t : List ℕ). bytes.number ∷ t) (slots.is ∙ ap (λ (t : List ℕ). slots.number ∷ t) (saved.is ∙ ap (λ (t : List ℕ). saved.number ∷ t) returns.is))
          ∙ rw (size.1, any_is slots.number b.0.0 slots.says, any_is saved.number c.0.0 saved.says, returns_takes returns.number d.0.0 returns.says) refl;
      size = subst (λ (n : ℕ). ((n % 16 == 0) && nat_le 16 n && nat_lt n (2 ^ 21)) ≡ true) size.1 size.0;
    })

header_again : (header : Header) (rest : List ℕ) → ((header.bytes % 16 == 0) && nat_le 16 header.bytes && nat_lt header.bytes (2 ^ 21)) ≡ true → header_at (header.bytes ∷ header.slots ∷ header.saved ∷ returns_number header.returns ∷ rest) ≡ Ok (header, rest)
unfolding header_at
header_again header rest size = rw (size, returns_again header.returns) refl

abbrev frame_of : Header → List SlotRow → List SavedRow → FrameRow
frame_of header slots saved = record { bytes = header.bytes; returns = header.returns; slots = slots; saved = saved }

abbrev saving : List SlotRow → Saving
saving slots = record { clear = is_clear (map slot_span slots); least = 0 }

frame_takes : (known : ⊤) (section : List ℕ) (x : FrameRow × List ℕ) → AreSmall section → each_frame known section ≡ Ok x → IsRow each_frame after_frame frame_fields IsAnyFrame known section x.0 x.1
unfolding frame_at
frame_takes known section x small e =
    let last : Header → List SlotRow → List SavedRow → Reader FrameRow = λ header slots saved. give (frame_of header slots saved) in
    let third : Header → List SlotRow → Reader FrameRow = λ header slots. rows (saved_at header.bytes) after_saved (saving slots) header.saved >>= last header slots in
    let second : Header → Reader FrameRow = λ header. rows (slot_at header.bytes) after_slot (is_clear []) header.slots >>= third header in
    let a = and_then_ok (header_at section) (λ x. second x.0 x.1) x e in
    let h : Header = a.0.0 in
    let b = and_then_ok (rows (slot_at h.bytes) after_slot (is_clear []) h.slots a.0.1) (λ x. third h x.0 x.1) x a.2 in
    let c = and_then_ok (rows (saved_at h.bytes) after_saved (saving b.0.0) h.saved b.0.1) (λ x. last h b.0.0 x.0 x.1) x b.2 in
    let head = header_takes section a.0 a.1 in
    let first : List ℕ = h.bytes ∷ h.slots ∷ h.saved ∷ returns_number h.returns ∷ [] in
    let behind : AreSmall a.0.1 = small_left section first a.0.1 small head.spelled in
    let slots = rows_take (slot_at h.bytes) after_slot slot_fields (IsSlotAfter h.bytes) (λ clear fs y s e. slot_takes h.bytes clear fs y e) h.slots (is_clear []) a.0.1 b.0 behind b.1 in
    let saved = rows_take (saved_at h.bytes) after_saved saved_fields (IsSavedAfter h.bytes) (λ saving fs y s e. saved_takes h.bytes saving fs y e) h.saved (saving b.0.0) b.0.1 c.0 (small_left a.0.1 (flat_map slot_fields b.0.0) b.0.1 behind slots.spelled) c.1 in
    let s : List ℕ = flat_map slot_fields b.0.0 in
    let v : List ℕ = flat_map saved_fields c.0.0 in
    let n : ℕ = returns_number h.returns in
    let text : section ≡ frame_fields (frame_of h b.0.0 c.0.0) ++ c.0.1 =
    head.spelled ∙ ap (λ (t : List ℕ). h.bytes ∷ h.slots ∷ h.saved ∷ n ∷ t) (slots.spelled ∙ ap (λ (t : List ℕ). s ++ t) saved.spelled ∙ sym (append_assoc s v c.0.1))
    ∙ ap (λ (k : ℕ). h.bytes ∷ k ∷ h.saved ∷ n ∷ ((s ++ v) ++ c.0.1)) (sym slots.count)
    ∙ ap (λ (k : ℕ). h.bytes ∷ length b.0.0 ∷ k ∷ n ∷ ((s ++ v) ++ c.0.1)) (sym saved.count) in
    subst (λ (z : FrameRow × List ℕ). IsRow each_frame after_frame frame_fields IsAnyFrame known section z.0 z.1) (ok_is (frame_of h b.0.0 c.0.0, c.0.1) x c.2)
    (record { spelled = text; good = record { size = head.size; slots = slots.good; saved = saved.good } })

frame_again : (known : ⊤) (frame : FrameRow) (rest : List ℕ) → IsFrame frame → each_frame known (frame_fields frame ++ rest) ≡ Ok (frame, rest)
unfolding frame_at
frame_again known frame rest good =
    let s : List ℕ = flat_map slot_fields frame.slots in
    let v : List ℕ = flat_map saved_fields frame.saved in
    let header : Header = record { bytes = frame.bytes; slots = length frame.slots; saved = length frame.saved; returns = frame.returns } in
    let regrouped : frame_fields frame ++ rest ≡ frame.bytes ∷ length frame.slots ∷ length frame.saved ∷ returns_number frame.returns ∷ (s ++ (v ++ rest)) = ap (λ (t : List ℕ). frame.bytes ∷ length frame.slots ∷ length frame.saved ∷ returns_number frame.returns ∷ t) (append_assoc s v rest) in
    ap (λ (t : List ℕ). frame_at t) regrouped
    ∙ rw (
      header_again header (s ++ (v ++ rest)) good.size,
      rows_again (slot_at frame.bytes) after_slot slot_fields (IsSlotAfter frame.bytes) (slot_again frame.bytes) (is_clear []) frame.slots (v ++ rest) good.slots,
      rows_again (saved_at frame.bytes) after_saved saved_fields (IsSavedAfter frame.bytes) (saved_again frame.bytes) (saving frame.slots) frame.saved rest good.saved,
    ) refl

-- ---- the section

abbrev pub frames_mark : ℕ
frames_mark = from_le_bytes w32 (codes "B3FR")

abbrev pub frame_section_fields : List FrameRow → List ℕ
frame_section_fields frames = frames_mark ∷ 1 ∷ length frames ∷ 0 ∷ flat_map frame_fields frames

pub record AreFrames (procedures : ℕ) (section : List ℕ) (frames : List FrameRow) (rest : List ℕ) : Type 0 where
  pub spelled : section ≡ frame_section_fields frames ++ rest
  pub count : length frames ≡ procedures
  pub good : AllAfter IsAnyFrame after_frame tt frames

pub frames_take : (procedures : ℕ) (section : List ℕ) (x : List FrameRow × List ℕ) → AreSmall section → frames_at procedures section ≡ Ok x → AreFrames procedures section x.0 x.1
unfolding frames_at
frames_take procedures section x small e =
    let last : Reader (List FrameRow) = rows each_frame after_frame tt procedures >>= give in
    let third : Reader (List FrameRow) = one is_zero >>= λ unused. last in
    let second : Reader (List FrameRow) = one (is_count procedures) >>= λ count. third in
    let a = and_then_ok (mark_at frames_mark section) (λ x. second x.1) x e in
    let b = and_then_ok (one (is_count procedures) a.0.1) (λ x. third x.1) x a.2 in
    let c = and_then_ok (one is_zero b.0.1) (λ x. last x.1) x b.2 in
    let d = and_then_ok (rows each_frame after_frame tt procedures c.0.1) (λ x. Ok x) x c.2 in
    let mark = mark_takes frames_mark section a.0 a.1 in
    let count = one_takes (is_count procedures) a.0.1 b.0 b.1 in
    let is_procedures = check_ok (eqb count.number procedures) Extent count.number b.0.0 count.says in
    let unused = zero_takes b.0.1 c.0 c.1 in
    let head : section ≡ frames_mark ∷ 1 ∷ procedures ∷ 0 ∷ c.0.1 =
    mark ∙ ap (λ (t : List ℕ). frames_mark ∷ 1 ∷ t) (count.is ∙ ap (λ (n : ℕ). n ∷ b.0.1) (eqb-true _ _ is_procedures.0) ∙ ap (λ (t : List ℕ). procedures ∷ t) unused) in
    let all = rows_take each_frame after_frame frame_fields IsAnyFrame frame_takes procedures tt c.0.1 d.0 (small_left section (frames_mark ∷ 1 ∷ procedures ∷ 0 ∷ []) c.0.1 small head) d.1 in
    subst (λ (z : List FrameRow × List ℕ). AreFrames procedures section z.0 z.1) (ok_is d.0 x d.2)
    (record {
      spelled = head ∙ ap (λ (t : List ℕ). frames_mark ∷ 1 ∷ procedures ∷ 0 ∷ t) all.spelled ∙ ap (λ (n : ℕ). frames_mark ∷ 1 ∷ n ∷ 0 ∷ (flat_map frame_fields d.0.0 ++ d.0.1)) (sym all.count);
      count = all.count;
      good = all.good;
    })

pub frames_again : (frames : List FrameRow) → AllAfter IsAnyFrame after_frame tt frames → frames_at (length frames) (frame_section_fields frames) ≡ Ok (frames, [])
unfolding frames_at
frames_again frames good =
    let all : rows each_frame after_frame tt (length frames) (flat_map frame_fields frames) ≡ Ok (frames, []) =
    ap (λ (t : List ℕ). rows each_frame after_frame tt (length frames) t) (sym (append-nil (flat_map frame_fields frames))) ∙ rows_again each_frame after_frame frame_fields IsAnyFrame frame_again tt frames [] good in
    rw (mark_again frames_mark (length frames ∷ 0 ∷ flat_map frame_fields frames), eq-eqb (length frames) (length frames) refl, all) refl
