-- A set is the union of its members.
use Rattle.std.proofs.Common.{◌≡◌, ◌≢◌, ℕ, zero, suc, ◌+◌, ◌<◌, ◌≤◌, ◌^◌, Bool, true, false, cond, ⊎_elim, List, [], ◌∷◌, refl, sym, ◌∙◌, arith}
use Rattle.std.specs.Prelude.{◌==◌}
use Rattle.std.specs.Int.{bit_at}
use Rattle.std.specs.List.{AllByRecursion}
use Rattle.std.specs.Int.Bits.{bit_or}
use Rattle.std.proofs.lemmas.Bool.{cases_lt}
use Rattle.std.proofs.lemmas.Bool.Decides.{nat_tests}
use Rattle.std.proofs.lemmas.Nat.Bits.{bit_at-lt, bit_at-pow_other, bit_at-pow_same, bit_at-zero, bit_at_above, bit_at_or, same_from_bits}
use Rattle.b3_items.specs.Items.{reg, with_reg}
use Rattle.b3_rows.specs.Written.{members_from}

-- registers put into a set one after the other
abbrev pub union : ℕ → List ℕ → ℕ
union set [] = set
union set (n ∷ ns) = union (with_reg set (reg n)) ns

-- the part of a set below r
record IsPart (set r part : ℕ) : Type 0 where
  low : (i : ℕ) → i < r → bit_at part i ≡ bit_at set i
  high : (i : ℕ) → r ≤ i → bit_at part i ≡ 0

low_with : (set r part i : ℕ) → IsPart set r part → bit_at set r ≡ 1 → i < suc r → bit_at (bit_or part (2 ^ r)) i ≡ bit_at set i
low_with set r part i p h lt =
    ⊎_elim (λ less. let other : bit_at (2 ^ r) i ≡ 0 = bit_at-pow_other r i (λ e. omega arith) in
    omega (arith, bit_at_or part (2 ^ r) i, other, p.low i less))
    (λ more. let same : i ≡ r = omega arith in rw same (omega (arith, bit_at_or part (2 ^ r) r, bit_at-pow_same r, p.high r (omega arith), h)))
    (cases_lt i r)

high_with : (set r part i : ℕ) → IsPart set r part → suc r ≤ i → bit_at (bit_or part (2 ^ r)) i ≡ 0
high_with set r part i p le =
    let other : bit_at (2 ^ r) i ≡ 0 = bit_at-pow_other r i (λ e. omega arith) in
    omega (arith, bit_at_or part (2 ^ r) i, other, p.high i (omega arith))

part_with : (set r part : ℕ) → IsPart set r part → bit_at set r ≡ 1 → IsPart set (suc r) (bit_or part (2 ^ r))
part_with set r part p h = record { low = λ i lt. low_with set r part i p h lt; high = λ i le. high_with set r part i p le }

low_without : (set r part i : ℕ) → IsPart set r part → bit_at set r ≡ 0 → i < suc r → bit_at part i ≡ bit_at set i
low_without set r part i p h lt =
    ⊎_elim (λ less. p.low i less) (λ more. let same : i ≡ r = omega arith in rw same (p.high r (omega arith) ∙ sym h)) (cases_lt i r)

part_without : (set r part : ℕ) → IsPart set r part → bit_at set r ≡ 0 → IsPart set (suc r) part
part_without set r part p h = record { low = λ i lt. low_without set r part i p h lt; high = λ i le. p.high i (omega arith) }

part_step : (set r part left : ℕ) (x : Bool) → (bit_at set r == 1) ≡ x → IsPart set r part
    → ((more : ℕ) → IsPart set (suc r) more → IsPart set (suc r + left) (union more (members_from set (r + 1) left)))
    → IsPart set (suc r + left) (union part (cond x (r ∷ members_from set (r + 1) left) (members_from set (r + 1) left)))
part_step set r part left true t p next = let bit : bit_at set r ≡ 1 = grind (arith, nat_tests) in next (bit_or part (2 ^ r)) (part_with set r part p bit)
part_step set r part left false t p next =
    let off : bit_at set r ≢ 1 = grind (arith, nat_tests) in
    let bit : bit_at set r ≡ 0 = omega (arith, bit_at-lt set r) in
    next part (part_without set r part p bit)

part_of : (set r left part : ℕ) → IsPart set r part → IsPart set (r + left) (union part (members_from set r left))
unfolding members_from
part_of set r zero part p = let e : r + 0 ≡ r = omega arith in rw e p
part_of set r (suc left) part p =
    let e : r + suc left ≡ suc r + left = omega arith in
    let one : r + 1 ≡ suc r = omega arith in
    rw e (part_step set r part left (bit_at set r == 1) refl p (λ more q. rw one (part_of set (suc r) left more q)))

none_part : (set : ℕ) → IsPart set 0 0
none_part set = record { low = λ i lt. absurd (omega arith); high = λ i le. bit_at-zero i }

-- the members of a set of x0 to x30 make it up
pub union_again : (set : ℕ) → set < 2 ^ 31 → union 0 (members_from set 0 31) ≡ set
union_again set h =
    let part = part_of set 0 31 0 (none_part set) in
    same_from_bits (union 0 (members_from set 0 31)) set
    (λ i. ⊎_elim (λ less. part.low i less) (λ more. part.high i more ∙ sym (bit_at_above set 31 i h more)) (cases_lt i 31))

-- members are below where the search ends
abbrev AreBelow : ℕ → List ℕ → Type 0
AreBelow bound ns = AllByRecursion (λ n. n < bound) ns

below_on : (bound r : ℕ) (x : Bool) (rest : List ℕ) → r < bound → AreBelow bound rest → AreBelow bound (cond x (r ∷ rest) rest)
below_on bound r true rest h k = (h, k)
below_on bound r false rest h k = k

below_from : (bound set r left : ℕ) → r + left ≤ bound → AreBelow bound (members_from set r left)
unfolding members_from
below_from bound set r zero h = tt
below_from bound set r (suc left) h =
    below_on bound r (bit_at set r == 1) (members_from set (r + 1) left) (omega arith) (below_from bound set (r + 1) left (omega arith))

pub members_below : (set : ℕ) → AllByRecursion (λ n. n < 31) (members_from set 0 31)
members_below set = below_from 31 set 0 31 (omega arith)
