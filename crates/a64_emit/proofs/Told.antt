-- What a site reports: the words in its places are those that its operands read.
use Rattle.std.proofs.Common.{◌≡◌, ℕ, suc, ◌+◌, ◌-◌, ◌*◌, ◌/◌, ◌%◌, ◌^◌, ◌<◌, ◌≤◌, true, inl, List, [], ◌∷◌, length, map, Option, Some, None, refl, sym, ap, ◌∙◌, subst, arith}
use Rattle.std.specs.Prelude.{All, IfSome, if◌then◌else◌, nat_lt}
use Rattle.std.proofs.lemmas.Bool.Decides.{nat_tests}
use Rattle.std.proofs.lemmas.List.Elements.{All-cons, All-head, All-nil, All-tail}
use Rattle.std.proofs.lemmas.Option.{same_Some}
use Rattle.b3_base.specs.Arithmetic.{low}
use Rattle.b3_base.specs.Memory.{AreBytes, byte_address, read_word, with_byte_above}
use Rattle.b3_base.specs.Word.{bits}
use Rattle.b3_base.specs.declared.word.Width.{Width}
use Rattle.b3_base.specs.declared.word.Width.TheVariants.{W32, W64}
use Rattle.b3_base.proofs.WordLaws.{read_word-lt}
use Rattle.b3_base.proofs.Widths.{low-same}
use Rattle.exit_table.specs.Good.{IsWordOffset}
use Rattle.stackmap.specs.Rules.{IsAllocatable}
use Rattle.stackmap.specs.World.{below_frame_pointer, widths_of, word_in, words_in}
use Rattle.stackmap.specs.declared.site.Place.{Place}
use Rattle.stackmap.specs.declared.site.Rep.{Rep}
use Rattle.stackmap.specs.declared.site.Rep.TheVariants as rep
use Rattle.air_ir.specs.Forms.{argument_home, arguments_from}
use Rattle.air_ir.specs.Operands.{Read, and_word, is_given, is_read, word_of, words}
use Rattle.air_ir.specs.declared.frame.Frame.{Frame}
use Rattle.air_ir.specs.declared.operand.Arg.{Arg}
use Rattle.air_ir.specs.declared.operand.Arg.TheVariants.{At, Imm, Addr, Index, FrameSlot}
use Rattle.air_ir.specs.declared.operand.Home.TheVariants.{Reg, Spill, Tmp}
use Rattle.air_ir.specs.declared.operand.Operand.{Operand}
use Rattle.air_ir.specs.declared.operand.Role.TheVariants.{Use}
use Rattle.air_ir.specs.declared.procedure.AirProc.{AirProc}
use Rattle.air_frame.specs.Needs.{names}
use Rattle.a64_layout.specs.Machine.{Machine}
use Rattle.a64_run.specs.Placement.{frame_pointer_of}
use Rattle.a64_code.specs.Places.{spill_offset}
use Rattle.a64_emit.specs.Related.{HasFrame, word_below, IsRelated}
use Rattle.a64_emit.specs.Sites.{ArePlacesOf, IsRepIn, argument_places}
use Rattle.a64_emit.proofs.Keeping.{reads_carried, spill_stands, word-small}
use Rattle.air_ir.specs.Steps.{State}
use Rattle.air_frame.specs.Frames.{IsFrameOf}
use Rattle.a64_emit.specs.Setting.{IsSet, Setting}

-- ---- the low half of a word

-- the word of the bytes below one
below_byte : (n : ℕ) (low byte : Option ℕ) (w : ℕ) → with_byte_above n low byte ≡ Some w
    → (l : ℕ) × (b : ℕ) × (low ≡ Some l) × (l + b * 2 ^ (8 * n) ≡ w)
below_byte n None byte w is = absurd cc
below_byte n (Some l) None w is = absurd cc
below_byte n (Some l) (Some b) w is = (l, b, refl, same_Some (l + b * 2 ^ (8 * n)) w is)

half_of : (l4 l5 l6 l7 w b4 b5 b6 b7 : ℕ) → l4 + b4 * 2 ^ (8 * 4) ≡ l5 → l5 + b5 * 2 ^ (8 * 5) ≡ l6 → l6 + b6 * 2 ^ (8 * 6) ≡ l7 → l7 + b7 * 2 ^ (8 * 7) ≡ w
    → l4 < 2 ^ (8 * 4) → l4 ≡ w % 2 ^ 32
half_of l4 l5 l6 l7 w b4 b5 b6 b7 e5 e6 e7 e8 small = omega arith

-- four of the eight bytes of a word make its low half
pub half_word : (m : ℕ → Option ℕ) (address w : ℕ) → AreBytes m → read_word m address 8 ≡ Some w → read_word m address 4 ≡ Some (w % 2 ^ 32)
unfolding read_word
half_word m address w bytes there =
    let seven = below_byte 7 (read_word m address 7) (m (byte_address address 7)) w there in
    let six = below_byte 6 (read_word m address 6) (m (byte_address address 6)) seven.0 seven.2 in
    let five = below_byte 5 (read_word m address 5) (m (byte_address address 5)) six.0 six.2 in
    let four = below_byte 4 (read_word m address 4) (m (byte_address address 4)) five.0 five.2 in
    let small : four.0 < 2 ^ (8 * 4) = subst (λ o. IfSome o (λ v. v < 2 ^ (8 * 4))) four.2 (read_word-lt m address 4 bytes) in
    four.2 ∙ ap Some (half_of four.0 five.0 six.0 seven.0 w four.1 five.1 six.1 seven.1 four.3 five.3 six.3 seven.3 small)

-- ---- one operand

-- an argument whose word is told: a register that values may stand in, a spill place of the procedure, or a word of its width
abbrev pub IsToldArg : AirProc → Width → Arg → Type 0
IsToldArg p width (At (Reg r)) = IsAllocatable r
IsToldArg p width (At (Spill n)) = names p n ≡ true
IsToldArg p width (Imm word) = word < 2 ^ bits width
IsToldArg p width _ = ⊥

pub record IsTold (p : AirProc) (o : Operand) : Type 0 where
  pub reads : is_read o.role ≡ true
  pub arg : IsToldArg p o.width o.arg

below_is : (sp bytes offset : ℕ) → sp < 2 ^ 64 → bytes ≤ sp → offset + 16 ≤ bytes → (sp - 16 + 2 ^ 64 - offset) % 2 ^ 64 ≡ sp - 16 - offset
below_is sp bytes offset small room begins = omega arith

whole_word : (word w : ℕ) → word < 2 ^ 64 → word % 2 ^ 64 ≡ w → word ≡ w
whole_word word w small e = omega arith

-- some words read, the first of them apart
pub and_some : (width : Width) (o : Option ℕ) (ws : Option (List Read)) (rs : List Read) → and_word width o ws ≡ Some rs
    → (w : ℕ) × (vs : List Read) × (o ≡ Some w) × (ws ≡ Some vs) × ((width, w) ∷ vs ≡ rs)
and_some width None ws rs is = absurd cc
and_some width (Some w) None rs is = absurd cc
and_some width (Some w) (Some vs) rs is = (w, vs, refl, refl, cc)

module _ (z : Setting) (set : IsSet z) (serves : IsFrameOf z.procedure z.frame) where
  below_there : (c : Machine) (offset : ℕ) → HasFrame z c → IsWordOffset z.frame.bytes offset
      → below_frame_pointer c.registers.x offset ≡ frame_pointer_of z.entry - offset
  below_there c offset f place =
      ap (λ n. (n + 2 ^ 64 - offset) % 2 ^ 64) f.x29 ∙ below_is z.entry.sp z.frame.bytes offset set.ranged.sp set.room place.begins

  -- the word in a place of the frame
  in_frame_word : (c : Machine) (width : Width) (offset word w : ℕ) → HasFrame z c → word_below z c offset ≡ Some word → low width word ≡ w
      → read_word c.memory (frame_pointer_of z.entry - offset) (bits width / 8) ≡ Some w
  in_frame_word c W32 offset word w f there is =
      half_word c.memory (frame_pointer_of z.entry - offset) word f.bytes there ∙ ap Some is
  in_frame_word c W64 offset word w f there is =
      there ∙ ap Some (whole_word word w (word-small z c offset word f there) is)

  module _ (s : State) (c : Machine) (rel : IsRelated z s c) where
    word_told : (width : Width) (arg : Arg) (where_ : Rep) (w : ℕ) → IsToldArg z.procedure width arg → IsRepIn z.frame arg where_
        → word_of s.homes width arg ≡ Some w → word_in c.registers.x c.memory width where_ ≡ Some w
    unfolding word_of
    word_told width (At (Reg r)) where_ w told is reads =
        ap (word_in c.registers.x c.memory width) is ∙ ap Some (reads_carried width (s.homes (Reg r)) (c.registers.x r.0) w (rel.registers r told) reads)
    word_told width (At (Spill n)) where_ w told is reads =
        let held = rel.spills n is.0 told is.1 in
        let stands = spill_stands z set serves n told in
        let same : spill_offset z.frame n ≡ is.0 = same_Some (spill_offset z.frame n) is.0 (sym stands.0 ∙ is.1) in
        ap (word_in c.registers.x c.memory width) is.2
        ∙ ap (λ a. read_word c.memory a (bits width / 8)) (below_there c is.0 rel.frame (subst (IsWordOffset z.frame.bytes) same stands.1.0))
        ∙ in_frame_word c width is.0 held.0 w rel.frame held.1 (reads_carried width (s.homes (Spill n)) held.0 w held.2 reads)
    word_told width (At (Tmp n)) where_ w told is reads = absurd told
    word_told width (Imm word) where_ w told is reads =
        ap (word_in c.registers.x c.memory width) is ∙ ap Some (sym (low-same width word told)) ∙ reads
    word_told width (Addr base offset) where_ w told is reads = absurd told
    word_told width (Index base index shift) where_ w told is reads = absurd told
    word_told width (FrameSlot n) where_ w told is reads = absurd told

    -- the words in the places of some operands are those that they read
    pub words_told : (os : List Operand) (places : List Place) → All (IsTold z.procedure) os → ArePlacesOf z.frame os places → (rs : List Read)
        → words s.homes os ≡ Some rs → words_in c.registers.x c.memory places ≡ Some (map (λ (r : Read). r.1) rs)
    unfolding words ArePlacesOf
    words_told [] [] told are rs reads = let none : [] ≡ rs = cc in ap (λ (xs : List Read). Some (map (λ (r : Read). r.1) xs)) none
    words_told [] (place ∷ places) told are rs reads = absurd are
    words_told (o ∷ os) [] told are rs reads = absurd are
    words_told (o ∷ os) (place ∷ places) told are rs reads =
        let here = All-head (IsTold z.procedure) o os told in
        let first : and_word o.width (word_of s.homes o.width o.arg) (words s.homes os) ≡ Some rs =
        ap (λ b. if is_given b o.arg then and_word o.width (word_of s.homes o.width o.arg) (words s.homes os) else words s.homes os) (sym here.reads) ∙ reads in
        let parts = and_some o.width (word_of s.homes o.width o.arg) (words s.homes os) rs first in
        let one = word_told o.width o.arg place.rep parts.0 here.arg are.1 parts.2 in
        let rest = words_told os places (All-tail (IsTold z.procedure) o os told) are.2 parts.1 parts.3 in
        let width : place.width ≡ o.width = are.0 in
        rw (width, one, rest) (ap (λ (xs : List Read). Some (map (λ (r : Read). r.1) xs)) parts.4)

    pub widths_told : (os : List Operand) (places : List Place) → All (IsTold z.procedure) os → ArePlacesOf z.frame os places → (rs : List Read)
        → words s.homes os ≡ Some rs → widths_of places ≡ map (λ (r : Read). r.0) rs
    unfolding words ArePlacesOf
    widths_told [] [] told are rs reads = let none : [] ≡ rs = cc in ap (λ (xs : List Read). map (λ (r : Read). r.0) xs) none
    widths_told [] (place ∷ places) told are rs reads = absurd are
    widths_told (o ∷ os) [] told are rs reads = absurd are
    widths_told (o ∷ os) (place ∷ places) told are rs reads =
        let here = All-head (IsTold z.procedure) o os told in
        let first : and_word o.width (word_of s.homes o.width o.arg) (words s.homes os) ≡ Some rs =
        ap (λ b. if is_given b o.arg then and_word o.width (word_of s.homes o.width o.arg) (words s.homes os) else words s.homes os) (sym here.reads) ∙ reads in
        let parts = and_some o.width (word_of s.homes o.width o.arg) (words s.homes os) rs first in
        let rest = widths_told os places (All-tail (IsTold z.procedure) o os told) are.2 parts.1 parts.3 in
        let width : place.width ≡ o.width = are.0 in
        rw (width, rest) (ap (λ (xs : List Read). map (λ (r : Read). r.0) xs) parts.4)

-- ---- the arguments of a call

in_eight : (i n : ℕ) → i + suc n ≤ 8 → nat_lt i 8 ≡ true
in_eight i n le = grind (arith, nat_tests)

pub arguments_told : (p : AirProc) (i : ℕ) (widths : List Width) → i + length widths ≤ 8 → All (IsTold p) (arguments_from i widths)
arguments_told p i [] few = All-nil (IsTold p)
arguments_told p i (width ∷ widths) few =
    let within = in_eight i (length widths) few in
    let home : argument_home i ≡ Reg (record { 0 = i }) = rw within refl in
    All-cons (IsTold p) (record { role = Use; width = width; arg = At (argument_home i) }) (arguments_from (i + 1) widths)
    (record { reads = refl; arg = subst (λ h. IsToldArg p width (At h)) (sym home) (inl (omega arith)) })
    (arguments_told p (i + 1) widths (omega arith))

-- the registers of the arguments are their places
pub arguments_placed : (f : Frame) (i : ℕ) (widths : List Width) → i + length widths ≤ 8
    → ArePlacesOf f (arguments_from i widths) (argument_places i widths)
unfolding ArePlacesOf
arguments_placed f i [] few = tt
arguments_placed f i (width ∷ widths) few =
    let within = in_eight i (length widths) few in
    let home : argument_home i ≡ Reg (record { 0 = i }) = rw within refl in
    (refl, subst (λ h. IsRepIn f (At h) (rep.Register (record { 0 = i }))) (sym home) refl, arguments_placed f (i + 1) widths (omega arith))
