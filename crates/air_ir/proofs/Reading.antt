-- What an instruction reads by renamed operands.
use Rattle.std.proofs.Common.{ℕ, ℤ, inl, inr, Bool, true, false, if◌then◌else◌, Option, Some, None, List, [], ◌∷◌, map, refl, ap}
use Rattle.b3_base.specs.declared.word.Width.{Width}
use Rattle.b3_base.specs.declared.word.Width.TheVariants.{W64}
use Rattle.air_ir.specs.Operands.{Homes, Read, and_word, indexed, is_given, is_read, moved, read, word_of, words}
use Rattle.air_ir.specs.Related.{Gives, IsOneOf, IsUsed, Refines, homes_of, read_homes}
use Rattle.air_ir.specs.Renaming.{rename, rename_arg}
use Rattle.air_ir.specs.declared.operand.Home.{Home}
use Rattle.air_ir.specs.declared.operand.Arg.{Arg}
use Rattle.air_ir.specs.declared.operand.Arg.TheVariants.{At, Imm, Addr, Index, FrameSlot}
use Rattle.air_ir.specs.declared.operand.Operand.{Operand}

gives-moved : (offset : ℤ) (a b : Option ℕ) → Gives a b → Gives (moved offset a) (moved offset b)
unfolding Gives
gives-moved offset None b g = tt
gives-moved offset (Some x) b g = ap (moved offset) g

gives-indexed : (shift : ℕ) (a b c d : Option ℕ) → Gives a b → Gives c d → Gives (indexed shift a c) (indexed shift b d)
unfolding Gives
gives-indexed shift (Some x) b (Some y) d g h = rw (g, h) refl
gives-indexed shift None b c d g h = tt
gives-indexed shift (Some x) b None d g h = tt

gives-and_word : (width : Width) (a b : Option ℕ) (c d : Option (List Read)) → Gives a b → Gives c d → Gives (and_word width a c) (and_word width b d)
unfolding Gives
gives-and_word width (Some x) b (Some y) d g h = rw (g, h) refl
gives-and_word width None b c d g h = tt
gives-and_word width (Some x) b None d g h = tt

module _ (loc : Home → Home) (s t : Homes) where
  pub gives-word : (width : Width) (arg : Arg) → ((h : Home) → IsOneOf h (homes_of arg) → Refines (s h) (t (loc h)))
      → Gives (word_of s width arg) (word_of t width (rename_arg loc arg))
  unfolding Gives word_of IsOneOf
  gives-word width (At home) r = r home (inl refl) width
  gives-word width (Imm word) r = refl
  gives-word width (Addr base offset) r = gives-moved offset (read W64 (s base)) (read W64 (t (loc base))) (r base (inl refl) W64)
  gives-word width (Index base index shift) r =
      gives-indexed shift (read W64 (s base)) (read W64 (t (loc base))) (read W64 (s index)) (read W64 (t (loc index))) (r base (inl refl) W64) (r index (inr (inl refl)) W64)
  gives-word width (FrameSlot number) r = refl

  gives-both : (width : Width) (arg : Arg) (c d : Option (List Read)) → Gives c d → ((h : Home) → IsOneOf h (homes_of arg) → Refines (s h) (t (loc h)))
      → Gives (and_word width (word_of s width arg) c) (and_word width (word_of t width (rename_arg loc arg)) d)
  gives-both width arg c d g r = gives-and_word width (word_of s width arg) (word_of t width (rename_arg loc arg)) c d (gives-word width arg r) g

  gives-operand : (reads : Bool) (width : Width) (arg : Arg) (c d : Option (List Read)) → Gives c d
      → ((h : Home) → IsOneOf h (read_homes reads arg) → Refines (s h) (t (loc h)))
      → Gives (if is_given reads arg then and_word width (word_of s width arg) c else c)
      (if is_given reads (rename_arg loc arg) then and_word width (word_of t width (rename_arg loc arg)) d else d)
  gives-operand false width (At home) c d g r = g
  gives-operand true width (At home) c d g r = gives-both width (At home) c d g r
  gives-operand false width (Imm word) c d g r = gives-both width (Imm word) c d g r
  gives-operand true width (Imm word) c d g r = gives-both width (Imm word) c d g r
  gives-operand false width (Addr base offset) c d g r = gives-both width (Addr base offset) c d g r
  gives-operand true width (Addr base offset) c d g r = gives-both width (Addr base offset) c d g r
  gives-operand false width (Index base index shift) c d g r = gives-both width (Index base index shift) c d g r
  gives-operand true width (Index base index shift) c d g r = gives-both width (Index base index shift) c d g r
  gives-operand false width (FrameSlot number) c d g r = gives-both width (FrameSlot number) c d g r
  gives-operand true width (FrameSlot number) c d g r = gives-both width (FrameSlot number) c d g r

  pub gives-words : (os : List Operand) → ((h : Home) → IsUsed h os → Refines (s h) (t (loc h))) → Gives (words s os) (words t (map (rename loc) os))
  unfolding Gives words IsUsed
  gives-words [] r = refl
  gives-words (o ∷ os) r =
      gives-operand (is_read o.role) o.width o.arg (words s os) (words t (map (rename loc) os)) (gives-words os (λ h u. r h (inr u))) (λ h u. r h (inl u))
