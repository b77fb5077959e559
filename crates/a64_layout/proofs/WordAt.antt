-- Which word stands at which place of the text.
use Rattle.std.proofs.Common.{◌≡◌, ℕ, zero, suc, ◌+◌, ◌<◌, ◌≤◌, ⊎_elim, Some, None, List, [], ◌∷◌, ◌++◌, length, refl, sym, ap, ◌∙◌, arith}
use Rattle.std.specs.Prelude.{slice_get}
use Rattle.std.proofs.lemmas.Bool.{cases_lt}
use Rattle.std.proofs.lemmas.Option.{slice_get_past, slice_get_within}
use Rattle.a64_layout.specs.Layout.{Set, place, label_place}
use Rattle.a64_layout.specs.Text.{words_of, words_in, words_before}
use Rattle.a64_inst.specs.declared.item.Item.{Item}
use Rattle.a64_layout.proofs.Least.{place_mono, place-next}
use Rattle.a64_layout.proofs.Words.{words-suc, words-next, words_length, size_in_words}

get_append_left : (xs ys : List ℕ) (i : ℕ) → i < length xs → slice_get (xs ++ ys) i ≡ slice_get xs i
get_append_left [] ys i lt = absurd (omega arith)
get_append_left (x ∷ xs) ys zero lt = refl
get_append_left (x ∷ xs) ys (suc i) lt = get_append_left xs ys i (omega arith)

get_append_right : (xs ys : List ℕ) (i : ℕ) → slice_get (xs ++ ys) (length xs + i) ≡ slice_get ys i
get_append_right [] ys i = let e : 0 + i ≡ i = omega arith in ap (slice_get ys) e
get_append_right (x ∷ xs) ys i = let e : length (x ∷ xs) + i ≡ suc (length xs + i) = omega arith in ap (slice_get (x ∷ (xs ++ ys))) e ∙ get_append_right xs ys i

module _ (items : List Item) (long : Set) where
  -- later items leave the words of the first ones
  words_stay : (k n i : ℕ) → k ≤ n → i < place items long k → slice_get (words_before items long n) i ≡ slice_get (words_before items long k) i
  words_stay k zero i le lt = let e : k ≡ zero = omega arith in ap (λ j. slice_get (words_before items long j) i) (sym e)
  words_stay k (suc n) i le lt =
      ⊎_elim
      (λ before.
      let up = place_mono items long k n (omega arith) in
      let count = words_length items long n in
      ap (λ ws. slice_get ws i) (words-suc items long n)
      ∙ (get_append_left (words_before items long n) (words_in (long n) (place items long n) (label_place items long) (slice_get items n)) i
      (omega arith) ∙ words_stay k n i (omega arith) lt))
      (λ after. let e : k ≡ suc n = omega arith in ap (λ j. slice_get (words_before items long j) i) (sym e))
      (cases_lt k (suc n))

  -- word j of an item stands j words after the item's place
  pub word_at : (k j : ℕ) (item : Item) (w : ℕ) → slice_get items k ≡ Some item
      → slice_get (words_of (long k) (place items long k) (label_place items long) item) j ≡ Some w
      → slice_get (words_before items long (length items)) (place items long k + j) ≡ Some w
  word_at k j item w there is =
      let ws = words_in (long k) (place items long k) (label_place items long) (slice_get items k) in
      let own : ws ≡ words_of (long k) (place items long k) (label_place items long) item = ap
      (words_in (long k) (place items long k) (label_place items long)) there in
      let get : slice_get ws j ≡ Some w = ap (λ l. slice_get l j) own ∙ is in
      let within = slice_get_within items k item there in
      let size = size_in_words (long k) (place items long k) (label_place items long) (slice_get items k) in
      let next = place-next items long k in
      let inside = slice_get_within ws j w get in
      let count = words_length items long k in
      words_stay (k + 1) (length items) (place items long k + j) (omega arith) (omega arith)
      ∙ (ap (λ l. slice_get l (place items long k + j)) (words-next items long k)
      ∙ (ap (λ p. slice_get (words_before items long k ++ ws) (p + j)) (sym count)
      ∙ (get_append_right (words_before items long k) ws j ∙ get)))

  -- past the last item there is no word
  pub no_word : (k : ℕ) → length items ≤ k → slice_get (words_before items long (length items)) (place items long k) ≡ None
  no_word k le =
      let up = place_mono items long (length items) k le in
      let count = words_length items long (length items) in
      slice_get_past (words_before items long (length items)) (place items long k) (omega arith)
