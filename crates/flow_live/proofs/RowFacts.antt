-- Rows name by name, after each change.
use Rattle.std.proofs.Common.{◌≡◌, ℕ, zero, suc, get_or, ◌<◌, false, not, ◌&&◌, ◌||◌, eqb, length, ◌∙◌, ap, refl, get_or-set_same, get_or-set_other, length-set}
use Rattle.std.specs.Ordering.{nat_cmp}
use Rattle.std.specs.Cmp.{nat_cmp_total, unsigned_tied}
use Rattle.std.specs.FinSet as set
use Rattle.std.specs.Prelude.{replicate}
use Rattle.bit_rows.specs.BitRows.{BitSet, BitRows, row_of, with_row}
use Rattle.flow_live.specs.Solving.{has, HasRoom}
use Rattle.flow_live.specs.Graph.{Graph}

abbrev empty_set : BitSet
empty_set = set.empty

pub row-same : (m : BitRows) (row : ℕ) (s : BitSet) → row < length m.sets → row_of (with_row m row s) row ≡ s
row-same m row s h = get_or-set_same m.sets row s set.empty h

pub row-other : (m : BitRows) (row other : ℕ) (s : BitSet) → (other ≡ row → ⊥) → row_of (with_row m row s) other ≡ row_of m other
row-other m row other s ne = get_or-set_other m.sets row other s set.empty ne

pub HasRoom-with : (g : Graph) (m : BitRows) (row : ℕ) (s : BitSet) → HasRoom g m → HasRoom g (with_row m row s)
HasRoom-with g m row s h = record { bits = h.bits; all = length-set m.sets row s ∙ h.all; few = h.few }

pub has-insert : (m : BitRows) (row bit q : ℕ) → row < length m.sets → has (with_row m row (set.insert (row_of m row) bit)) row q ≡ (eqb q bit || has m row q)
has-insert m row bit q h =
    ap (λ s. set.contains s q) (row-same m row (set.insert (row_of m row) bit) h)
    ∙ set.contains-insert nat_cmp_total (row_of m row) bit q ∙ ap (λ b. b || has m row q) (unsigned_tied q bit)

pub has-union : (m : BitRows) (into from q : ℕ) → into < length m.sets → has (with_row m into (set.union (row_of m into) (row_of m from))) into q ≡ (has m into q || has m from q)
has-union m into from q h =
    ap (λ s. set.contains s q) (row-same m into (set.union (row_of m into) (row_of m from)) h)
    ∙ set.contains-union nat_cmp_total (row_of m into) (row_of m from) q

pub has-difference : (m : BitRows) (from what q : ℕ) → from < length m.sets → has (with_row m from (set.difference (row_of m from) (row_of m what))) from q ≡ (has m from q && not (has m what q))
has-difference m from what q h =
    ap (λ s. set.contains s q) (row-same m from (set.difference (row_of m from) (row_of m what)) h)
    ∙ set.contains-difference nat_cmp_total (row_of m from) (row_of m what) q

pub same-row : (m n : BitRows) (row q : ℕ) → row_of n row ≡ row_of m row → has n row q ≡ has m row q
same-row m n row q e = ap (λ s. set.contains s q) e

pub length-with : (m n : BitRows) (row : ℕ) (s : BitSet) → n ≡ with_row m row s → length n.sets ≡ length m.sets
length-with m n row s e = ap (λ r. length r.sets) e ∙ length-set m.sets row s

empties : (n row : ℕ) → get_or (replicate n empty_set) row empty_set ≡ empty_set
empties zero row = refl
empties (suc n) zero = refl
empties (suc n) (suc row) = empties n row

-- rows that are made anew have no names
pub has-none : (m : BitRows) (bits n row name : ℕ) → m ≡ (record { bits = bits; sets = replicate n set.empty }) → has m row name ≡ false
has-none m bits n row name e = ap (λ r. has r row name) e ∙ ap (λ s. set.contains s name) (empties n row) ∙ set.contains-empty nat_cmp name
