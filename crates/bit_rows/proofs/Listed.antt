-- Lists of the numbers that pass a test, bit by bit.
use Rattle.std.proofs.Common.{◌≡◌, ℕ, ◌+◌, ◌-◌, ◌*◌, ◌%◌, ◌^◌, ◌<◌, ◌≤◌, inl, inr, ◌↔◌, Bool, true, false, ◌&&◌, arith, sym, ◌∙◌, ap, refl, subst, nat_eq, List, [], ◌∷◌, ◌++◌, length, get_or, slice_index, bit_and, w64, length-append}
use Rattle.std.specs.Prelude.{Contains}
use Rattle.std.specs.List.Sorted.{IsStrictlyIncreasing}
use Rattle.std.specs.Int.{bit_at, bit_not, trailing_zeros}
use Rattle.std.proofs.lemmas.Bool.{cases_lt, cases_eq, false≢true, lt-ltb, le-ltb}
use Rattle.std.proofs.lemmas.List.{get_or_append_left}
use Rattle.std.proofs.Math.Seq.{get_or-append_seam}
use Rattle.std.proofs.lemmas.List.Elements.{Contains-append_left, Contains-push, Contains-push_cases, Contains-get_or}
use Rattle.std.proofs.lemmas.Nat.{and_le_l}
use Rattle.std.proofs.lemmas.Nat.Bits.{bit_at-zero, bit_at-trailing_zeros, bit_at_clear_same, bit_at_clear_other}
use Rattle.std.specs.FinSet as set
use Rattle.bit_rows.specs.Words.{Lists, is_one, kept}
use Rattle.bit_rows.proofs.RowSets.{one_at, contains-kept}

-- a number above all those of a rising list goes to its end
rising_push : (xs : List ℕ) (y : ℕ) → IsStrictlyIncreasing xs → ((x : ℕ) → Contains xs x → x < y) → IsStrictlyIncreasing (xs ++ y ∷ [])
rising_push xs y rise above k lt =
    let len : length (xs ++ y ∷ []) ≡ length xs + 1 = length-append xs (y ∷ []) in
    let here : get_or (xs ++ y ∷ []) k 0 ≡ get_or xs k 0 = get_or_append_left xs (y ∷ []) 0 k (omega (arith, len, lt)) in
    elim (cases_lt (k + 1) (length xs)) [
      | inl less ↦
          let next : get_or (xs ++ y ∷ []) (k + 1) 0 ≡ get_or xs (k + 1) 0 = get_or_append_left xs (y ∷ []) 0 (k + 1) less in
          let up = rise k less in
          omega (arith, here, next, up)
      | inr more ↦
          let end : length xs ≡ k + 1 = omega (arith, len, lt, more) in
          let last : get_or (xs ++ y ∷ []) (k + 1) 0 ≡ y = ap (λ (i : ℕ). get_or (xs ++ y ∷ []) i 0) (sym end) ∙ get_or-append_seam xs y [] 0 in
          let up = above (get_or xs k 0) (Contains-get_or xs k 0 (omega (arith, end))) in
          omega (arith, here, last, up)
    ]

-- no number lists the numbers below 0
pub Lists-none : (p : ℕ → Bool) → Lists p 0 []
Lists-none p =
    record {
      below = λ q i. absurd (omega (arith, i.1));
      is = λ q lt. absurd (omega (arith, lt));
      rising = λ k lt. absurd (omega (arith, lt));
    }

-- numbers that fail are not listed
pub Lists-skip : (p : ℕ → Bool) (m n : ℕ) (list : List ℕ) → m ≤ n → ((q : ℕ) → m ≤ q → q < n → p q ≡ false) → Lists p m list → Lists p n list
Lists-skip p m n list le fails l =
    record {
      below = λ q i. let lt = l.below q i in omega (arith, lt, le);
      is = λ q lt. elim (cases_lt q m) [
        | inl less ↦ l.is q less
        | inr more ↦ (
          λ i. let low = l.below q i in absurd (omega (arith, low, more)),
          λ t. absurd (false≢true (sym (fails q more lt) ∙ t)),
        )
      ];
      rising = l.rising;
    }

-- a number that passes goes to the end of the list of those below it
pub Lists-push : (p : ℕ → Bool) (n : ℕ) (list : List ℕ) → p n ≡ true → Lists p n list → Lists p (n + 1) (list ++ n ∷ [])
Lists-push p n list passes l =
    record {
      below = λ q i. elim (Contains-push_cases list n q i) [
        | inl j ↦ let lt = l.below q j in omega (arith, lt)
        | inr e ↦ omega (arith, e)
      ];
      is = λ q lt. (
        λ i. elim (Contains-push_cases list n q i) [
          | inl j ↦ (l.is q (l.below q j)).0 j
          | inr e ↦ subst (λ (x : ℕ). p x ≡ true) e passes
        ],
        λ t. elim (cases_lt q n) [
          | inl less ↦ Contains-append_left list (n ∷ []) q ((l.is q less).1 t)
          | inr more ↦ let e : n ≡ q = omega (arith, lt, more) in subst (λ (x : ℕ). Contains (list ++ n ∷ []) x) e (Contains-push list n)
        ],
      );
      rising = rising_push list n l.rising l.below;
    }

pub Lists-same : (p : ℕ → Bool) (m n : ℕ) (list : List ℕ) → m ≡ n → Lists p m list → Lists p n list
Lists-same p m n list e l = subst (λ (k : ℕ). Lists p k list) e l

-- a word's bits below `done` are listed, and those from there on are left
pub record IsLeft (words : List ℕ) (at j left : ℕ) (list : List ℕ) : Type 0 where
  pub done : ℕ
  pub within : done ≤ 64
  pub listed : Lists (is_one words at) (64 * j + done) list
  pub rest : (i : ℕ) → done ≤ i → i < 64 → bit_at left i ≡ bit_at (slice_index words (at + j)) i
  pub gone : (i : ℕ) → i < done → bit_at left i ≡ 0

no_one : (d : ℕ) → d ≡ 0 → nat_eq d 1 ≡ false
no_one d e = ap (λ (x : ℕ). nat_eq x 1) e

-- bits of the word that are 0 are not in the set
fails_at : (words : List ℕ) (at j q : ℕ) → 64 * j ≤ q → q < 64 * j + 64 → bit_at (slice_index words (at + j)) (q - 64 * j) ≡ 0 → is_one words at q ≡ false
fails_at words at j q low high z =
    let e : q ≡ 64 * j + (q - 64 * j) = omega (arith, low) in
    ap (is_one words at) e ∙ one_at words at j (q - 64 * j) (omega (arith, low, high)) ∙ no_one (bit_at (slice_index words (at + j)) (q - 64 * j)) z

pub left_first : (words : List ℕ) (at j : ℕ) (list : List ℕ) → Lists (is_one words at) (64 * j) list → IsLeft words at j (slice_index words (at + j)) list
left_first words at j list l =
    record {
      done = 0;
      within = omega arith;
      listed = Lists-same (is_one words at) (64 * j) (64 * j + 0) list (omega arith) l;
      rest = λ i low lt. refl;
      gone = λ i lt. absurd (omega (arith, lt));
    }

pub left_last : (words : List ℕ) (at j left : ℕ) (list : List ℕ) → left ≡ 0 → IsLeft words at j left list → Lists (is_one words at) (64 * (j + 1)) list
left_last words at j left list e l =
    let zero_at : (i : ℕ) → bit_at left i ≡ 0 = λ i. ap (λ (w : ℕ). bit_at w i) e ∙ bit_at-zero i in
    let within = l.within in
    Lists-skip (is_one words at) (64 * j + l.done) (64 * (j + 1)) list (omega (arith, within))
    (λ q low lt. fails_at words at j q (omega (arith, low)) (omega (arith, lt))
    (sym (l.rest (q - 64 * j) (omega (arith, low)) (omega (arith, lt, low))) ∙ zero_at (q - 64 * j)))
    l.listed

-- the word without its lowest bit
abbrev pub without_lowest : ℕ → ℕ
without_lowest left = bit_and left (bit_not w64 (1 * 2 ^ trailing_zeros w64 left % 2 ^ 64))

pub less_left : (left : ℕ) → 0 < left → left < 2 ^ 64 → without_lowest left < left
less_left left some fits =
    let low = bit_at-trailing_zeros w64 left some fits in
    let bit : ℕ = trailing_zeros w64 left in
    let gone : bit_at (without_lowest left) bit ≡ 0 = bit_at_clear_same w64 left bit low.0 in
    elim (cases_eq (without_lowest left) left) [
      | inl same ↦ absurd (let both : bit_at (without_lowest left) bit ≡ bit_at left bit = ap (λ (w : ℕ). bit_at w bit) same in
          let one = low.1 in omega (arith, gone, both, one))
      | inr other ↦
          let le = and_le_l left (bit_not w64 (1 * 2 ^ trailing_zeros w64 left % 2 ^ 64)) in
          elim (cases_lt (without_lowest left) left) [ inl less ↦ less | inr more ↦ absurd (other (omega (arith, le, more))) ]
    ]

pub left_step : (words : List ℕ) (at j left : ℕ) (list : List ℕ) → 0 < left → left < 2 ^ 64 → IsLeft words at j left list
    → IsLeft words at j (without_lowest left) (list ++ (64 * j + trailing_zeros w64 left) ∷ [])
left_step words at j left list some fits l =
    let bit : ℕ = trailing_zeros w64 left in
    let low = bit_at-trailing_zeros w64 left some fits in
    let lt : bit < 64 = low.0 in
    let one : bit_at left bit ≡ 1 = low.1 in
    let behind : l.done ≤ bit = elim (cases_lt bit l.done) [
      | inl less ↦ absurd (let z = l.gone bit less in omega (arith, z, one))
      | inr more ↦ more
    ] in
    let same : (i : ℕ) → i < 64 → (i ≡ bit → ⊥) → bit_at (without_lowest left) i ≡ bit_at left i =
    λ i h ne. bit_at_clear_other w64 left bit lt i h ne in
    record {
      done = bit + 1;
      within = omega (arith, lt);
      listed = Lists-same (is_one words at) (64 * j + bit + 1) (64 * j + (bit + 1)) (list ++ (64 * j + bit) ∷ []) (omega arith)
          (Lists-push (is_one words at) (64 * j + bit) list
          (one_at words at j bit lt ∙ ap (λ (d : ℕ). nat_eq d 1) (sym (l.rest bit behind lt) ∙ one))
          (Lists-skip (is_one words at) (64 * j + l.done) (64 * j + bit) list (omega (arith, behind))
          (λ q from h. fails_at words at j q (omega (arith, from)) (omega (arith, h, lt))
          (sym (l.rest (q - 64 * j) (omega (arith, from)) (omega (arith, h, from, lt))) ∙ low.2 (q - 64 * j) (omega (arith, h, from))))
          l.listed));
      rest = λ i from h. same i h (λ e. omega (arith, from, e)) ∙ l.rest i (omega (arith, from, behind)) h;
      gone = λ i h. elim (cases_eq i bit) [
        | inl e ↦ ap (bit_at (without_lowest left)) e ∙ bit_at_clear_same w64 left bit lt
        | inr ne ↦ same i (omega (arith, h, lt)) ne ∙ low.2 i (elim (cases_lt i bit) [ inl less ↦ less | inr more ↦ absurd (ne (omega (arith, h, more))) ])
      ];
    }

-- the list of a run's bits has the members of its set
pub listed-members : (words : List ℕ) (at n : ℕ) (list : List ℕ) → Lists (is_one words at) (64 * n) list
    → (q : ℕ) → Contains list q ↔ (set.contains (kept words at n) q ≡ true)
listed-members words at n list l q =
    elim (cases_lt q (64 * n)) [
      | inl lt ↦
          let same : set.contains (kept words at n) q ≡ is_one words at q = contains-kept words at n q ∙ ap (λ t. t && is_one words at q) (lt-ltb q (64 * n) lt) in
          (λ i. same ∙ (l.is q lt).0 i, λ t. (l.is q lt).1 (sym same ∙ t))
      | inr ge ↦
          let none : set.contains (kept words at n) q ≡ false = contains-kept words at n q ∙ ap (λ t. t && is_one words at q) (le-ltb q (64 * n) ge) in
          (λ i. let low = l.below q i in absurd (omega (arith, low, ge)), λ t. absurd (false≢true (sym none ∙ t)))
    ]
