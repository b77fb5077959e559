-- How the relation of a run of Air and the machine is kept.
use Rattle.std.proofs.Common.{◌≡◌, ℕ, ◌+◌, ◌-◌, ◌*◌, ◌%◌, ◌^◌, ◌<◌, ◌≤◌, ◌⊎◌, true, inl, inr, ⊎_elim, Option, Some, None, refl, sym, ap, ◌∙◌, subst, arith}
use Rattle.std.specs.Prelude.{is_some, IfSome, IsSomeAnd, slice_get}
use Rattle.std.proofs.lemmas.Option.{get_or_from_slice_get, same_Some}
use Rattle.b3_base.specs.Arithmetic.{low}
use Rattle.b3_base.specs.Memory.{AreBytes, read_word}
use Rattle.b3_base.specs.Observed.{Memory}
use Rattle.b3_base.specs.declared.word.Width.{Width}
use Rattle.b3_base.specs.declared.word.Width.TheVariants.{W32, W64}
use Rattle.b3_base.proofs.WordLaws.{read_word-lt}
use Rattle.b3_base.proofs.Options.{none_of, some_of}
use Rattle.b3_ir.specs.declared.value.Reg.{Reg as Register}
use Rattle.stackmap.specs.Rules.{IsAllocatable}
use Rattle.stackmap.specs.declared.site.Rep.TheVariants.{Slot}
use Rattle.exit_table.specs.Good.{IsGoodRep, IsWordOffset}
use Rattle.a64_inst.specs.Step.{AreWords}
use Rattle.air_ir.specs.Operands.{Held, Empty, Holds, read}
use Rattle.air_ir.specs.Steps.{State}
use Rattle.air_ir.specs.declared.operand.Home.TheVariants.{Reg}
use Rattle.air_frame.specs.Needs.{names}
use Rattle.a64_layout.specs.Machine.{Machine}
use Rattle.a64_run.specs.Placement.{frame_pointer_of, visible}
use Rattle.a64_code.specs.Places.{spill_offset}
use Rattle.a64_emit.specs.Related.{Carries, HasFrame, IsRelated, word_below}
use Rattle.a64_emit.specs.Setting.{Setting, row, IsSet}
use Rattle.a64_emit.proofs.Straight.{IsWhole}
use Rattle.a64_emit.proofs.Words.{IsPlaced}
use Rattle.air_frame.specs.Frames.{IsFrameOf}

-- ---- what homes carry

low_low : (x y w : ℕ) → x % 2 ^ 64 ≡ y % 2 ^ 64 → y % 2 ^ 32 ≡ w → x % 2 ^ 32 ≡ w
low_low x y w e f = omega arith

-- a word that carries what stands in a home has the word that is read there
pub reads_carried : (width : Width) (held : Held) (word w : ℕ) → Carries held word → read width held ≡ Some w → low width word ≡ w
unfolding read
reads_carried W32 Empty word w carries e = absurd cc
reads_carried W64 Empty word w carries e = absurd cc
reads_carried W32 (Holds W32 held) word w carries e = carries ∙ same_Some _ w e
reads_carried W32 (Holds W64 held) word w carries e = low_low word held w carries (same_Some _ w e)
reads_carried W64 (Holds W32 held) word w carries e = absurd cc
reads_carried W64 (Holds W64 held) word w carries e = carries ∙ same_Some _ w e

-- ---- registers that may change

-- a register that isn't one of the scratch registers
abbrev pub IsKept : ℕ → Type 0
IsKept r = (r ≤ 14) ⊎ (18 ≤ r)

pub allocatable_kept : (r : Register) → IsAllocatable r → IsKept r.0
allocatable_kept r h = ⊎_elim (λ low. inl low) (λ high. inr (omega (arith, high.0))) h

-- scratch registers have changed alone
pub record KeepsAll (c d : Machine) : Type 0 where
  pub sp : d.registers.sp ≡ c.registers.sp
  pub memory : d.memory ≡ c.memory
  pub x : (r : ℕ) → IsKept r → d.registers.x r ≡ c.registers.x r
  pub words : AreWords d.registers

keeps_frame : (z : Setting) (c d : Machine) → KeepsAll c d → HasFrame z c → HasFrame z d
keeps_frame z c d k f = record {
  sp = k.sp ∙ f.sp;
  x29 = k.x 29 (inr (omega arith)) ∙ f.x29;
  words = k.words;
  bytes = subst AreBytes (sym k.memory) f.bytes;
  whole = λ address inside. ap (λ (m : Memory). is_some (m address)) k.memory ∙ f.whole address inside;
  mapped = λ address there. ap (λ (m : Memory). is_some (m address)) k.memory ∙ f.mapped address there;
  unmapped = λ address none out. ap (λ (m : Memory). m address) k.memory ∙ f.unmapped address none out;
  caller = ap (λ (m : Memory). read_word m (frame_pointer_of z.entry - 0) 8) k.memory ∙ f.caller;
  link = ap (λ (m : Memory). read_word m (frame_pointer_of z.entry + 8) 8) k.memory ∙ f.link;
  saved = λ s there. ap (λ (m : Memory). read_word m (frame_pointer_of z.entry - s.offset) 8) k.memory ∙ f.saved s there;
  unsaved = λ r least most none. k.x r (inr (omega arith)) ∙ f.unsaved r least most none;
}

pub keeps_related : (z : Setting) (s : State) (c d : Machine) → KeepsAll c d → IsRelated z s c → IsRelated z s d
keeps_related z s c d k rel = record {
  frame = keeps_frame z c d k rel.frame;
  registers = λ r may. subst (Carries (s.homes (Reg r))) (sym (k.x r.0 (allocatable_kept r may))) (rel.registers r may);
  spills = λ n offset named there.
      let word = rel.spills n offset named there in
      (word.0, ap (λ (m : Memory). read_word m (frame_pointer_of z.entry - offset) 8) k.memory ∙ word.1, word.2);
  memory = rel.memory ∙ ap (visible (row z) z.entry) (sym k.memory);
}

-- nor is it where the same bytes are there
pub none_still : (o p : Option ℕ) → is_some p ≡ is_some o → o ≡ None → p ≡ None
none_still o p same none = none_of p (same ∙ ap is_some none)

-- a word of the machine is one of 64 bits
pub word-small : (z : Setting) (c : Machine) (offset w : ℕ) → HasFrame z c → word_below z c offset ≡ Some w → w < 2 ^ 64
word-small z c offset w f there = subst (λ o. IfSome o (λ v. v < 2 ^ (8 * 8))) there (read_word-lt c.memory (frame_pointer_of z.entry - offset) 8 f.bytes)

still_aligned : (sp bytes : ℕ) → sp % 16 ≡ 0 → bytes % 16 ≡ 0 → bytes ≤ sp → (sp - bytes) % 16 ≡ 0
still_aligned sp bytes a b le = omega arith

eighth : (n : ℕ) → n % 16 ≡ 0 → n % 8 ≡ 0
eighth n e = omega arith

module _ (z : Setting) (set : IsSet z) (serves : IsFrameOf z.procedure z.frame) where
  pub whole_of : (c : Machine) → HasFrame z c → IsWhole z c
  whole_of c f = record {
    aligned = rw f.sp (still_aligned z.entry.sp z.frame.bytes set.aligned serves.good.aligned set.room);
    whole = λ address inside. some_of (c.memory address) (f.whole address inside);
  }

  pub placed : (c : Machine) (offset : ℕ) → HasFrame z c → IsWordOffset z.frame.bytes offset → IsPlaced z c offset
  placed c offset f place = record {
    sp = f.sp;
    small = set.ranged.sp;
    room = set.room;
    limit = serves.good.limit;
    place = place;
    aligned = eighth z.frame.bytes serves.good.aligned;
  }

  -- where a spill place that is named stands
  there_is : (o : Option ℕ) → IsSomeAnd o (λ offset. IsGoodRep (row z) W64 (Slot offset))
      → (offset : ℕ) × (o ≡ Some offset) × IsGoodRep (row z) W64 (Slot offset)
  there_is None h = absurd h
  there_is (Some offset) h = (offset, refl, h)

  pub spill_stands : (n : ℕ) → names z.procedure n ≡ true
      → (slice_get z.frame.spills n ≡ Some (spill_offset z.frame n)) × IsGoodRep (row z) W64 (Slot (spill_offset z.frame n))
  spill_stands n named =
      let place = there_is (slice_get z.frame.spills n) (serves.spilled n named) in
      let same : spill_offset z.frame n ≡ place.0 = get_or_from_slice_get z.frame.spills n place.0 0 place.1 in
      (place.1 ∙ ap Some (sym same), subst (λ offset. IsGoodRep (row z) W64 (Slot offset)) (sym same) place.2)
