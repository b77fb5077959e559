-- Children by their places.
use Rattle.std.proofs.Common.{Bool, true, false, ◌&&◌, ◌^◌, nat_lt, ◌≡◌, ℕ, List, [], ◌∷◌, length, slice_index_or, arith}
use Rattle.b3_ir.specs.declared.opcode.Opcode.{Opcode}
use Rattle.b3_ir.specs.declared.opcode.Ty.{Ty}
use Rattle.b3_ir.specs.declared.opcode.Ty.TheVariants.{Void}
use Rattle.std.proofs.lemmas.Bool.{and_parts, ltb-true}
use Rattle.b3_base.specs.Word.{bits}
use Rattle.b3_ir.proofs.Typing.{allowed}
use Rattle.b3_ir.specs.Types.{allows_types, width_of}
use Rattle.b3_meaning.specs.Foldable.{IsFoldable}
use Rattle.b3_meaning.specs.Opcodes.{AreWordsOf}
use Rattle.b3_meaning.specs.Roles.{role_of}
use Rattle.b3_meaning.specs.declared.role.Role.TheVariants.{Pure}

-- two children are the first and the second
pub two_children : (opcode : Opcode) (ty : Ty) (xs : List ℕ) (ts : List Ty) → length xs ≡ 2 → IsFoldable opcode ty xs ts →
    IsFoldable opcode ty (slice_index_or xs 0 0 ∷ slice_index_or xs 1 0 ∷ []) (slice_index_or ts 0 Void ∷ slice_index_or ts 1 Void ∷ [])
two_children opcode ty [] ts len h = absurd (omega arith)
two_children opcode ty (x ∷ []) ts len h = absurd (omega arith)
two_children opcode ty (x ∷ y ∷ z ∷ zs) ts len h = absurd (omega arith)
two_children opcode ty (x ∷ y ∷ []) [] len h = absurd h.words
two_children opcode ty (x ∷ y ∷ []) (t ∷ []) len h = absurd h.words.1
two_children opcode ty (x ∷ y ∷ []) (t ∷ u ∷ []) len h = h
two_children opcode ty (x ∷ y ∷ []) (t ∷ u ∷ v ∷ ts) len h = absurd h.words.1.1

-- ---- what `fold` asks, as a test

abbrev pub are_words : List Ty → List ℕ → Bool
are_words [] [] = true
are_words (ty ∷ types) (word ∷ words) = nat_lt word (2 ^ bits (width_of ty)) && are_words types words
are_words _ _ = false

words_are : (types : List Ty) (words : List ℕ) → are_words types words ≡ true → AreWordsOf types words
words_are [] [] e = tt
words_are [] (word ∷ words) e = absurd (cc)
words_are (ty ∷ types) [] e = absurd (cc)
words_are (ty ∷ types) (word ∷ words) e =
    let parts = and_parts (nat_lt word (2 ^ bits (width_of ty))) (are_words types words) e in
    (ltb-true word (2 ^ bits (width_of ty)) parts.0, words_are types words parts.1)

pub foldable : (opcode : Opcode) (ty : Ty) (words : List ℕ) (types : List Ty) → role_of opcode ≡ Pure → allows_types opcode ty types ≡ true →
    are_words types words ≡ true → IsFoldable opcode ty words types
foldable opcode ty words types pure allows fit = record { pure = pure; types = allowed opcode ty types allows; words = words_are types words fit }
