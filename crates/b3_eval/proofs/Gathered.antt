-- The words of children, gathered one after the other.
use Rattle.std.proofs.Common.{◌≡◌, ℕ, true, false, ◌<◌, ◌^◌, List, [], ◌∷◌, ◌++◌, ◌+◌, length, take, slice_index_or, add-one, Option, Some, None, map, refl, sym, ap, subst, nat_eq, nat_lt, if◌then◌else◌}
use Rattle.std.proofs.Math.Seq.{take-suc}
use Rattle.std.proofs.lemmas.Bool.{ltb-true}
use Rattle.std.proofs.lemmas.List.{append_assoc, map-append}
use Rattle.b3_base.specs.Arithmetic.{low}
use Rattle.b3_base.specs.Word.{bits}
use Rattle.b3_base.specs.declared.word.Width.{Width}
use Rattle.b3_ir.specs.Types.{width_of}
use Rattle.b3_ir.specs.declared.opcode.Ty.{Ty}
use Rattle.b3_meaning.specs.Opcodes.{AreWordsOf}
use Rattle.b3_meaning.specs.Run.{and_word, word_in, words_of, chosen}

-- some words before those that are there
abbrev pub joined : List ℕ → Option (List ℕ) → Option (List ℕ)
joined found (Some words) = Some (found ++ words)
joined found None = None

pub joined-more : (found : List ℕ) (word : ℕ) (words : Option (List ℕ)) → joined found (and_word (Some word) words) ≡ joined (found ++ word ∷ []) words
joined-more found word (Some words) = ap Some (sym (append_assoc found (word ∷ []) words))
joined-more found word None = refl

-- one more child
pub words-more : (types : ℕ → Ty) (words : ℕ → Option ℕ) (found : List ℕ) (ids rest : List ℕ) (id word : ℕ) → ids ≡ id ∷ rest →
    word_in (width_of (types id)) (words id) ≡ Some word → joined found (words_of types words ids) ≡ joined (found ++ word ∷ []) (words_of types words rest)
words-more types words found ids rest id word e given = rw (e, given) (joined-more found word (words_of types words rest))

pub words-none : (types : ℕ → Ty) (words : ℕ → Option ℕ) (found : List ℕ) (ids rest : List ℕ) (id : ℕ) → ids ≡ id ∷ rest →
    word_in (width_of (types id)) (words id) ≡ None → joined found (words_of types words ids) ≡ None
words-none types words found ids rest id e none = rw (e, none) refl

-- the types of one more child
pub map_one_more : (f : ℕ → Ty) (xs : List ℕ) (i : ℕ) → i < length xs → map f (take (i + 1) xs) ≡ map f (take i xs) ++ f (slice_index_or xs i 0) ∷ []
map_one_more f xs i lt = rw (add-one, take-suc xs i 0 lt) (map-append f (take i xs) (slice_index_or xs i 0 ∷ []))

-- ---- the cases of a switch

pub chosen_next : (width : Width) (word : ℕ) (cases targets ks ts : List ℕ) (k t : ℕ) → cases ≡ k ∷ ks → targets ≡ t ∷ ts →
    nat_eq (low width k) word ≡ false → chosen width word cases targets ≡ chosen width word ks ts
chosen_next width word cases targets ks ts k t e f not = rw (e, f, not) refl

-- ---- words are of their types

word_fits : (width : Width) (found : Option ℕ) (word : ℕ) → word_in width found ≡ Some word → word < 2 ^ bits width
word_fits width None word e = absurd (cc)
word_fits width (Some w) word e = elim (nat_lt w (2 ^ bits width)) as (λ b. nat_lt w (2 ^ bits width) ≡ b → (if b then Some w else None) ≡ Some word →
    word < 2 ^ bits width) [
      | true ↦ λ below same. let is : w ≡ word = cc in subst (λ (x : ℕ). x < 2 ^ bits width) is (ltb-true w (2 ^ bits width) below)
      | false ↦ λ below same. absurd (cc)
    ] refl e

both_there : (word : Option ℕ) (words : Option (List ℕ)) (xs : List ℕ) → and_word word words ≡ Some xs →
    (x : ℕ) × (ys : List ℕ) × (word ≡ Some x) × (words ≡ Some ys) × (xs ≡ x ∷ ys)
both_there (Some x) (Some ys) xs e = (x, ys, refl, refl, cc)
both_there (Some x) None xs e = absurd (cc)
both_there None words xs e = absurd (cc)

typed : (types : ℕ → Ty) (words : ℕ → Option ℕ) (ids xs : List ℕ) → words_of types words ids ≡ Some xs → AreWordsOf (map types ids) xs
typed types words [] [] e = tt
typed types words [] (x ∷ xs) e = absurd (cc)
typed types words (id ∷ ids) xs e =
    let parts = both_there (word_in (width_of (types id)) (words id)) (words_of types words ids) xs e in
    subst (AreWordsOf (map types (id ∷ ids))) (sym parts.4) (
      word_fits (width_of (types id)) (words id) parts.0 parts.2,
      typed types words ids parts.1
          parts.3,
    )

pub words_typed : (types : ℕ → Ty) (words : ℕ → Option ℕ) (ids : List ℕ) (ts : List Ty) (xs : List ℕ) → ts ≡ map types ids →
    Some xs ≡ words_of types words ids → AreWordsOf ts xs
words_typed types words ids ts xs is found = subst (λ (us : List Ty). AreWordsOf us xs) (sym is) (typed types words ids xs (sym found))
