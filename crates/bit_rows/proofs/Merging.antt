-- A run of words that is changed by another, block by block.
use Rattle.std.proofs.Common.{◌≡◌, ◌≢◌, ℕ, zero, suc, add-zero, ◌+◌, ◌-◌, ◌<◌, ◌≤◌, inl, inr, length, slice_index, List, [], ◌∷◌, bit_or, arith, sym, ◌∙◌, ap, set, get_or-set_other, ◌↔◌}
use Rattle.std.proofs.lemmas.Bool.{cases_lt}
use Rattle.std.proofs.lemmas.Nat.{le_or_l, le_or_r}
use Rattle.std.proofs.lemmas.Grind.{get_or-set_at}
use Rattle.std.proofs.lemmas.Simd.{get_or-put_chunk_at, get_or-put_chunk_below, get_or-put_chunk_above, get_or-zip2, length-zip2, get_or-chunk, length-chunk}
use lib.Lanes.{zip2, put_chunk, chunk, fold_l}
use Rattle.bit_rows.specs.Words.{Merges, Apart, Nothing}
use Rattle.bit_rows.proofs.Sets.{ap2}

-- one lane of f at two runs
pub lane : (f : ℕ → ℕ → ℕ) (words : List ℕ) (a b m j : ℕ) → a + m ≤ length words → b + m ≤ length words → j < m
    → slice_index (zip2 f (chunk a m words) (chunk b m words)) j ≡ f (slice_index words (a + j)) (slice_index words (b + j))
lane f words a b m j to from h =
    let la : j < length (chunk a m words) = omega (arith, length-chunk a m words to) in
    let lb : j < length (chunk b m words) = omega (arith, length-chunk b m words from) in
    get_or-zip2 f (chunk a m words) (chunk b m words) j 0 0 0 la lb ∙ ap2 f (get_or-chunk a m words j 0 h) (get_or-chunk b m words j 0 h)

pub length-lanes : (f : ℕ → ℕ → ℕ) (words : List ℕ) (a b m : ℕ) → a + m ≤ length words → b + m ≤ length words → length (zip2 f (chunk a m words) (chunk b m words)) ≡ m
length-lanes f words a b m to from =
    length-zip2 f (chunk a m words) (chunk b m words) (length-chunk a m words to ∙ sym (length-chunk b m words from)) ∙ length-chunk a m words to

-- a block that is stored, each lane of which is f of the two runs
pub merged_block : (f : ℕ → ℕ → ℕ) (words ys : List ℕ) (a b m : ℕ) → a + m ≤ length words → length ys ≡ m
    → ((j : ℕ) → j < m → slice_index ys j ≡ f (slice_index words (a + j)) (slice_index words (b + j)))
    → Merges f words (put_chunk a words ys) a b m
merged_block f words ys a b m to long lanes =
    record {
      inside = λ j h. get_or-put_chunk_at a words ys j 0 (omega arith) (omega arith) ∙ lanes j h;
      below = λ i h. get_or-put_chunk_below a words ys i 0 h;
      above = λ i h. get_or-put_chunk_above a words ys i 0 (omega arith);
    }

-- one word that is changed
pub merged_word : (f : ℕ → ℕ → ℕ) (words : List ℕ) (a b : ℕ) → a < length words
    → Merges f words (set words a (f (slice_index words a) (slice_index words b))) a b 1
merged_word f words a b to =
    record {
      inside = λ j h.
          let e : a + j ≡ a = omega arith in
          let e' : b + j ≡ b = omega arith in
          get_or-set_at words a (a + j) (f (slice_index words a) (slice_index words b)) 0 e to ∙ ap2 f (ap (λ x. slice_index words x) (sym e)) (ap (λ x. slice_index words x) (sym e'));
      below = λ i h. let ne : i ≢ a = omega arith in get_or-set_other words a i (f (slice_index words a) (slice_index words b)) 0 ne;
      above = λ i h. let ne : i ≢ a = omega arith in get_or-set_other words a i (f (slice_index words a) (slice_index words b)) 0 ne;
    }

-- the words from b + k on are still the old ones once k words from a on have changed
pub from_kept : (f : ℕ → ℕ → ℕ) (old mid : List ℕ) (a b k n j : ℕ) → Apart a b n → Merges f old mid a b k → k ≤ j → j < n → k ≤ n
    → slice_index mid (b + j) ≡ slice_index old (b + j)
from_kept f old mid a b k n j apart m h1 h2 h3 =
    elim apart.runs [
      | inl e ↦ m.above (b + j) (omega arith)
      | inr away ↦ elim away [ inl e ↦ m.above (b + j) (omega arith) | inr e ↦ m.below (b + j) (omega arith) ]
    ]

pub Merges-join : (f : ℕ → ℕ → ℕ) (old mid new : List ℕ) (a b k m t n : ℕ) → Apart a b n → Merges f old mid a b k → Merges f mid new (a + k) (b + k) m → k + m ≡ t → t ≤ n
    → Merges f old new a b t
Merges-join f old mid new a b k m t n apart first next e le =
    record {
      inside = λ j h. elim (cases_lt j k) [
        | inl lt ↦ next.below (a + j) (omega arith) ∙ first.inside j lt
        | inr ge ↦
            let d : ℕ = j - k in
            let at : (a + k) + d ≡ a + j = omega arith in
            let bt : (b + k) + d ≡ b + j = omega arith in
            ap (λ x. slice_index new x) (sym at) ∙ next.inside d (omega arith)
            ∙ ap2 f (ap (λ x. slice_index mid x) at ∙ first.above (a + j) (omega arith)) (ap (λ x. slice_index mid x) bt ∙ from_kept f old mid a b k n j apart first ge (omega arith) (omega arith))
      ];
      below = λ i h. next.below i (omega arith) ∙ first.below i h;
      above = λ i h. next.above i (omega arith) ∙ first.above i (omega arith);
    }

-- one lane of f at a run and at what g makes of the same run and another
pub lane_of_both : (f g : ℕ → ℕ → ℕ) (words : List ℕ) (a b m j : ℕ) → a + m ≤ length words → b + m ≤ length words → j < m
    → slice_index (zip2 f (chunk a m words) (zip2 g (chunk a m words) (chunk b m words))) j ≡ f (slice_index words (a + j)) (g (slice_index words (a + j)) (slice_index words (b + j)))
lane_of_both f g words a b m j to from h =
    let la : j < length (chunk a m words) = omega (arith, length-chunk a m words to) in
    let lg : j < length (zip2 g (chunk a m words) (chunk b m words)) = omega (arith, length-lanes g words a b m to from) in
    get_or-zip2 f (chunk a m words) (zip2 g (chunk a m words) (chunk b m words)) j 0 0 0 la lg
    ∙ ap2 f (get_or-chunk a m words j 0 h) (lane g words a b m j to from h)

pub length-lanes_of_both : (f g : ℕ → ℕ → ℕ) (words : List ℕ) (a b m : ℕ) → a + m ≤ length words → b + m ≤ length words
    → length (zip2 f (chunk a m words) (zip2 g (chunk a m words) (chunk b m words))) ≡ m
length-lanes_of_both f g words a b m to from =
    length-zip2 f (chunk a m words) (zip2 g (chunk a m words) (chunk b m words)) (length-chunk a m words to ∙ sym (length-lanes g words a b m to from)) ∙ length-chunk a m words to

-- an or is 0 exactly where both sides are
pub or_zero : (x y : ℕ) → (bit_or x y ≡ 0) ↔ ((x ≡ 0) × (y ≡ 0))
or_zero x y = (λ e. (omega (arith, le_or_l x y), omega (arith, le_or_r x y)), λ p. ap2 bit_or p.0 p.1)

-- nothing on k + m words is nothing on the first k and nothing on the m after them
pub Nothing-front : (f : ℕ → ℕ → ℕ) (words : List ℕ) (a b k t : ℕ) → k ≤ t → Nothing f words a b t → Nothing f words a b k
Nothing-front f words a b k t le none j h = none j (omega arith)

pub Nothing-back : (f : ℕ → ℕ → ℕ) (old mid : List ℕ) (a b k m t n : ℕ) → (g : ℕ → ℕ → ℕ) → Apart a b n → Merges g old mid a b k → k + m ≡ t → t ≤ n
    → Nothing f old a b t → (j : ℕ) → j < m → f (slice_index mid ((a + k) + j)) (slice_index mid ((b + k) + j)) ≡ 0
Nothing-back f old mid a b k m t n g apart done e le none j h =
    let at : (a + k) + j ≡ a + (k + j) = omega arith in
    let bt : (b + k) + j ≡ b + (k + j) = omega arith in
    ap2 f (ap (λ x. slice_index mid x) at ∙ done.above (a + (k + j)) (omega arith)) (ap (λ x. slice_index mid x) bt ∙ from_kept g old mid a b k n (k + j) apart done (omega arith) (omega arith) (omega arith))
    ∙ none (k + j) (omega arith)

pub Nothing-join : (f : ℕ → ℕ → ℕ) (old mid : List ℕ) (a b k m t n : ℕ) → (g : ℕ → ℕ → ℕ) → Apart a b n → Merges g old mid a b k → k + m ≡ t → t ≤ n
    → Nothing f old a b k → ((j : ℕ) → j < m → f (slice_index mid ((a + k) + j)) (slice_index mid ((b + k) + j)) ≡ 0) → Nothing f old a b t
Nothing-join f old mid a b k m t n g apart done e le first next j h =
    elim (cases_lt j k) [
      | inl lt ↦ first j lt
      | inr ge ↦
          let d : ℕ = j - k in
          let at : (a + k) + d ≡ a + j = omega arith in
          let bt : (b + k) + d ≡ b + j = omega arith in
          sym (ap2 f (ap (λ x. slice_index mid x) at ∙ done.above (a + j) (omega arith)) (ap (λ x. slice_index mid x) bt ∙ from_kept g old mid a b k n j apart done ge (omega arith) (omega arith)))
          ∙ next d (omega arith)
    ]

-- the or of all lanes is 0 exactly where each lane is
pub fold-or : (a : ℕ) (xs : List ℕ) → (fold_l bit_or a xs ≡ 0) ↔ ((a ≡ 0) × ((j : ℕ) → j < length xs → slice_index xs j ≡ 0))
fold-or a [] = (λ e. (e, λ j h. absurd (omega arith)), λ p. p.0)
fold-or a (x ∷ xs) = (
  λ e. let p = (fold-or (bit_or a x) xs).0 e in
      let q = (or_zero a x).0 p.0 in
      (q.0, λ j. elim j as (λ j. j < length (x ∷ xs) → slice_index (x ∷ xs) j ≡ 0) [ zero ↦ λ h. q.1 | suc k ↦ λ h. p.1 k (omega arith) ]),
  λ p. (fold-or (bit_or a x) xs).1 ((or_zero a x).1 (p.0, p.1 0 (omega arith)), λ j h. p.1 (suc j) (omega arith)),
)

-- the or of two vectors is 0 in each lane exactly where both are
pub zero_lanes : (xs ys : List ℕ) (m : ℕ) → length xs ≡ m → length ys ≡ m
    → ((j : ℕ) → j < m → slice_index (zip2 bit_or xs ys) j ≡ 0) ↔ (((j : ℕ) → j < m → slice_index xs j ≡ 0) × ((j : ℕ) → j < m → slice_index ys j ≡ 0))
zero_lanes xs ys m lx ly =
    let at : (j : ℕ) → j < m → slice_index (zip2 bit_or xs ys) j ≡ bit_or (slice_index xs j) (slice_index ys j) =
    λ j h. get_or-zip2 bit_or xs ys j 0 0 0 (omega arith) (omega arith) in (
      λ z. (
        λ j h. ((or_zero (slice_index xs j) (slice_index ys j)).0 (sym (at j h) ∙ z j h)).0,
        λ j h. ((or_zero (slice_index xs j) (slice_index ys j)).0 (sym (at j h) ∙ z j h)).1,
      ),
      λ p j h. at j h ∙ (or_zero (slice_index xs j) (slice_index ys j)).1 (p.0 j h, p.1 j h),
    )

-- a fact of one place, as of a run of one
pub one_place : (f : ℕ → ℕ → ℕ) (words : List ℕ) (a b : ℕ)
    → ((j : ℕ) → j < 1 → f (slice_index words (a + j)) (slice_index words (b + j)) ≡ 0) ↔ (f (slice_index words a) (slice_index words b) ≡ 0)
one_place f words a b = (
  λ all. ap2 f (ap (λ x. slice_index words x) (sym (add-zero a))) (ap (λ x. slice_index words x) (sym (add-zero b))) ∙ all 0 (omega arith),
  λ e j h. let ea : a + j ≡ a = omega arith in let eb : b + j ≡ b = omega arith in ap2 f (ap (λ x. slice_index words x) ea) (ap (λ x. slice_index words x) eb) ∙ e,
)

-- nothing on k words, and nothing on the m after them
pub Nothing-two : (f : ℕ → ℕ → ℕ) (words : List ℕ) (a b k m t : ℕ) → k + m ≡ t → Nothing f words a b k
    → ((j : ℕ) → j < m → f (slice_index words ((a + k) + j)) (slice_index words ((b + k) + j)) ≡ 0) → Nothing f words a b t
Nothing-two f words a b k m t e first next j h =
    elim (cases_lt j k) [
      | inl lt ↦ first j lt
      | inr ge ↦
          let d : ℕ = j - k in
          let at : (a + k) + d ≡ a + j = omega arith in
          let bt : (b + k) + d ≡ b + j = omega arith in
          sym (ap2 f (ap (λ x. slice_index words x) at) (ap (λ x. slice_index words x) bt)) ∙ next d (omega arith)
    ]

pub Nothing-after : (f : ℕ → ℕ → ℕ) (words : List ℕ) (a b k m t : ℕ) → k + m ≡ t → Nothing f words a b t
    → (j : ℕ) → j < m → f (slice_index words ((a + k) + j)) (slice_index words ((b + k) + j)) ≡ 0
Nothing-after f words a b k m t e none j h =
    let at : (a + k) + j ≡ a + (k + j) = omega arith in
    let bt : (b + k) + j ≡ b + (k + j) = omega arith in
    ap2 f (ap (λ x. slice_index words x) at) (ap (λ x. slice_index words x) bt) ∙ none (k + j) (omega arith)
