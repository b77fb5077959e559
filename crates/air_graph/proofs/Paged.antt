-- Bits in pages as a set.
use Rattle.std.proofs.Common.{◌≡◌, ℕ, zero, suc, ◌+◌, ◌*◌, ◌/◌, ◌%◌, ◌<◌, inl, inr, Bool, true, false, ◌&&◌, ◌||◌, eqb, ltb, List, [], ◌∷◌, ◌++◌, replicate, slice_index, slice_index_or, nat_eq, arith, refl, sym, ap, ◌∙◌, subst}
use Rattle.std.proofs.lemmas.Bool.{cases_eq, eq-eqb, lt-ltb, ne_eqb}
use Rattle.std.proofs.lemmas.Nat.Bits.{bit_at-zero}
use Rattle.std.specs.FinSet as set
use Rattle.std.specs.Cmp.{nat_cmp_total}
use Rattle.std.specs.Ordering.{nat_cmp}
use Rattle.std.specs.Int.{bit_at}
use Rattle.bit_rows.specs.BitRows.{BitSet}
use Rattle.bit_rows.specs.Words.{is_one, passing}
use Rattle.bit_rows.proofs.Sets.{contains-insert_nat, contains-passing, passing-same}
use Rattle.air_graph.specs.Pages.{is_in_pages, members_in}

-- a word without a bit at the end changes nothing
pushed_zero : (words : List ℕ) (k : ℕ) → slice_index (words ++ 0 ∷ []) k ≡ slice_index words k
pushed_zero [] zero = refl
pushed_zero [] (suc k) = refl
pushed_zero (w ∷ words) zero = refl
pushed_zero (w ∷ words) (suc k) = pushed_zero words k

pub widened : (words new : List ℕ) (q : ℕ) → new ≡ words ++ 0 ∷ [] → is_one new 0 q ≡ is_one words 0 q
widened words new q e =
    ap (λ (l : List ℕ). is_one l 0 q) e ∙ ap (λ (w : ℕ). nat_eq (bit_at w (q % 64)) 1) (pushed_zero words (0 + q / 64))

pub none_there : (bit : ℕ) → is_one [] 0 bit ≡ false
none_there bit = ap (λ (b : ℕ). nat_eq b 1) (bit_at-zero (bit % 64))

empty_page : (n k : ℕ) → slice_index_or (replicate n (let none : List ℕ = [] in none)) k [] ≡ []
empty_page zero zero = refl
empty_page zero (suc k) = refl
empty_page (suc n) zero = refl
empty_page (suc n) (suc k) = empty_page n k

and_none : (b : Bool) → (b && false) ≡ false
and_none true = refl
and_none false = refl

contains_all : (pages : List (List ℕ)) (bits q : ℕ) → set.contains (members_in pages bits) q ≡ (ltb q bits && is_in_pages pages q)
unfolding members_in
contains_all pages bits q = contains-passing (is_in_pages pages) bits q

pub none_in : (pages : List (List ℕ)) (n bits : ℕ) → pages ≡ replicate n [] → members_in pages bits ≡ set.empty
none_in pages n bits e = set.same_set nat_cmp_total set.nat_cmp-IsAntisymmetric (members_in pages bits) set.empty (λ q.
    let page : slice_index_or pages (q / 4096) [] ≡ [] = ap (λ (l : List (List ℕ)). slice_index_or l (q / 4096) []) e ∙ empty_page n (q / 4096) in
    let off : is_in_pages pages q ≡ false = ap (λ (l : List ℕ). is_one l 0 (q % 4096)) page ∙ none_there (q % 4096) in
    contains_all pages bits q ∙ ap (λ (b : Bool). ltb q bits && b) off ∙ and_none (ltb q bits) ∙ sym (set.contains-empty nat_cmp q))

pub contains_in : (pages : List (List ℕ)) (bits q : ℕ) → q < bits → set.contains (members_in pages bits) q ≡ is_in_pages pages q
contains_in pages bits q lt = contains_all pages bits q ∙ ap (λ (b : Bool). b && is_in_pages pages q) (lt-ltb q bits lt)

module _ (old new : List (List ℕ)) (bits bit : ℕ) (lt : bit < bits)
    (others : (a : ℕ) → (a ≡ bit / 4096 → ⊥) → slice_index_or new a [] ≡ slice_index_or old a []) where
  at_other : (q : ℕ) → (q / 4096 ≡ bit / 4096 → ⊥) → is_in_pages new q ≡ is_in_pages old q
  at_other q ne = ap (λ (l : List ℕ). is_one l 0 (q % 4096)) (others (q / 4096) ne)

  pub none_set : ((q : ℕ) → is_one (slice_index_or new (bit / 4096) []) 0 q ≡ is_one (slice_index_or old (bit / 4096) []) 0 q)
      → members_in new bits ≡ members_in old bits
  unfolding members_in
  none_set same = passing-same (is_in_pages new) (is_in_pages old) bits (λ q _. elim (cases_eq (q / 4096) (bit / 4096)) [
    | inl e ↦ subst (λ (a : ℕ). is_one (slice_index_or new a []) 0 (q % 4096) ≡ is_one (slice_index_or old a []) 0 (q % 4096)) (sym e) (same (q % 4096))
    | inr ne ↦ at_other q ne
  ])

  module _ (ok : (q : ℕ) → is_one (slice_index_or new (bit / 4096) []) 0 q
      ≡ (eqb q (bit % 4096) || is_one (slice_index_or old (bit / 4096) []) 0 q)) where
    both_parts : (q : ℕ) → q / 4096 ≡ bit / 4096 → eqb (q % 4096) (bit % 4096) ≡ eqb q bit
    both_parts q e = elim (cases_eq q bit) [
      | inl s ↦ ap (λ (x : ℕ). eqb (x % 4096) (bit % 4096)) s ∙ eq-eqb (bit % 4096) (bit % 4096) refl ∙ sym (eq-eqb q bit s)
      | inr ne ↦ ne_eqb (q % 4096) (bit % 4096) (λ f. ne (omega (arith, e, f))) ∙ sym (ne_eqb q bit ne)
    ]

    set_there : (q : ℕ) → is_in_pages new q ≡ (eqb q bit || is_in_pages old q)
    set_there q = elim (cases_eq (q / 4096) (bit / 4096)) [
      | inl e ↦
          subst (λ (a : ℕ). is_one (slice_index_or new a []) 0 (q % 4096) ≡ (eqb (q % 4096) (bit % 4096) || is_one (slice_index_or old a []) 0 (q % 4096)))
          (sym e) (ok (q % 4096))
          ∙ ap (λ (b : Bool). b || is_in_pages old q) (both_parts q e)
      | inr ne ↦ at_other q ne ∙ sym (ap (λ (b : Bool). b || is_in_pages old q) (ne_eqb q bit (λ s. ne (ap (λ (x : ℕ). x / 4096) s))))
    ]

    turned : (q : ℕ) (o : Bool) → (ltb q bits && (eqb q bit || o)) ≡ (eqb q bit || (ltb q bits && o))
    turned q o = elim (cases_eq q bit) [
      | inl e ↦ rw (eq-eqb q bit e, lt-ltb q bits (omega (arith, e, lt))) refl
      | inr ne ↦ rw (ne_eqb q bit ne) refl
    ]

    pub set_in : members_in new bits ≡ set.insert (members_in old bits) bit
    set_in = set.same_set nat_cmp_total set.nat_cmp-IsAntisymmetric (members_in new bits) (set.insert (members_in old bits) bit) (λ q.
        contains_all new bits q ∙ ap (λ (b : Bool). ltb q bits && b) (set_there q) ∙ turned q (is_in_pages old q)
        ∙ sym (contains-insert_nat (members_in old bits) bit q ∙ ap (λ (b : Bool). eqb q bit || b) (contains_all old bits q)))
