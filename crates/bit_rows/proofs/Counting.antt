-- The ones of a run of words.
use Rattle.std.proofs.Common.{◌≡◌, ℕ, zero, suc, ◌+◌, ◌*◌, ◌<◌, ◌≤◌, length, slice_index, get_or, List, [], ◌∷◌, ◌++◌, map, take, drop, count_ones, arith, ◌∙◌, ap, refl, Fits, w64}
use Rattle.std.proofs.lemmas.List.{map-append, get_or-drop}
use Rattle.std.proofs.Common.{length-drop}
use Rattle.std.proofs.lemmas.Nat.{ones-le}
use Rattle.std.proofs.Math.Seq.{take-suc}
use lib.Lanes.{sum_l, chunk}
use Rattle.bit_rows.specs.Words.{ones_from}

pub ones_from-join : (words : List ℕ) (at k m t : ℕ) → k + m ≡ t → ones_from words at t ≡ ones_from words at k + ones_from words (at + k) m
unfolding ones_from
ones_from-join words at k zero t e = let same : t ≡ k = omega arith in ap (ones_from words at) same ∙ omega arith
ones_from-join words at k (suc m) zero e = absurd (omega arith)
ones_from-join words at k (suc m) (suc t) e =
    let same : at + t ≡ (at + k) + m = omega arith in
    let ih = ones_from-join words at k m t (omega arith) in
    let last : count_ones (slice_index words (at + t)) ≡ count_ones (slice_index words ((at + k) + m)) = ap (λ i. count_ones (slice_index words i)) same in
    omega (arith, ih, last)

pub ones_from-none : (words : List ℕ) (at : ℕ) → ones_from words at 0 ≡ 0
unfolding ones_from
ones_from-none words at = refl

pub ones_from-one : (words : List ℕ) (at : ℕ) → ones_from words at 1 ≡ count_ones (slice_index words at)
unfolding ones_from
ones_from-one words at = let same : at + 0 ≡ at = omega arith in ap (λ i. 0 + count_ones (slice_index words i)) same ∙ omega arith

pub ones_from-le : (words : List ℕ) (at n : ℕ) → ((i : ℕ) → Fits w64 (get_or words i 0)) → ones_from words at n ≤ 64 * n
unfolding ones_from
ones_from-le words at zero fits = omega arith
ones_from-le words at (suc n) fits = omega (arith, ones_from-le words at n fits, ones-le 64 (slice_index words (at + n)) ((fits (at + n)).fits))

sum_l-push : (xs : List ℕ) (x : ℕ) → sum_l (xs ++ x ∷ []) ≡ sum_l xs + x
sum_l-push [] x = omega arith
sum_l-push (y ∷ xs) x = omega (arith, sum_l-push xs x)

pub sum-ones : (words : List ℕ) (at n : ℕ) → at + n ≤ length words → sum_l (map count_ones (chunk at n words)) ≡ ones_from words at n
unfolding ones_from
sum-ones words at zero h = refl
sum-ones words at (suc n) h =
    let lt : n < length (drop at words) = omega (arith, length-drop at words) in
    ap (λ xs. sum_l (map count_ones xs)) (take-suc (drop at words) n 0 lt)
    ∙ ap sum_l (map-append count_ones (take n (drop at words)) (get_or (drop at words) n 0 ∷ []))
    ∙ sum_l-push (map count_ones (take n (drop at words))) (count_ones (get_or (drop at words) n 0))
    ∙ ap (λ x. sum_l (map count_ones (chunk at n words)) + count_ones x) (get_or-drop at words n 0)
    ∙ ap (λ x. x + count_ones (slice_index words (at + n))) (sum-ones words at n (omega arith))
