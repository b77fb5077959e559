-- The laws of places, and of the sets of long items that are enough.
use Rattle.std.proofs.Common.{◌≡◌, ℕ, zero, suc, ◌+◌, ◌<◌, ◌≤◌, ◌⊎◌, inl, inr, ⊎_elim, Bool, true, false, not, ◌&&◌, ◌==◌, if◌then◌else◌, Option, Some, None, List, length, refl, sym, ap, ◌∙◌, subst, arith}
use Rattle.std.specs.Prelude.{slice_get}
use Rattle.std.proofs.lemmas.Bool.{cases_lt}
use Rattle.std.proofs.lemmas.Bool.Decides.{nat_tests}
use Rattle.std.proofs.lemmas.Option.{slice_get_past}
use Rattle.a64_inst.specs.declared.item.Item.{Item}
use Rattle.a64_inst.specs.declared.item.Item.TheVariants.{Plain, Jump, If, IfZero, IfBit, Label, Mark}
use Rattle.a64_layout.specs.Branch.{branch_in, reach, size_of, size_in}
use Rattle.a64_layout.specs.Layout.{Set, place, position_of, label_place, Fits, IsIf, FitsIn, IsEnough, IsWithin, IsLeast, without, IsShort}
use Rattle.a64_layout.specs.Passes.{NamesBelow}
use Rattle.a64_layout.specs.declared.branch.Test.{Test}
use Rattle.a64_layout.specs.declared.branch.Test.TheVariants.{Holds, Zero, Bit}

-- ---- branches
-- each goes three words back at least
pub some_reach : (test : Test) → 2 < reach test
some_reach (Holds cond) = omega arith
some_reach (Zero width nonzero reg) = omega arith
some_reach (Bit nonzero reg at) = omega arith

abbrev pub one_or_two : Bool → ℕ
one_or_two long = if long then 2 else 1

-- the words of a conditional item
pub size_if : (long : Bool) (o : Option Item) (b : Test × ℕ) → branch_in o ≡ Some b → size_in long o ≡ one_or_two long
size_if long None b e = cc
size_if long (Some (Plain inst)) b e = cc
size_if long (Some (Jump label)) b e = cc
size_if long (Some (If cond label)) b e = refl
size_if long (Some (IfZero width nonzero reg label)) b e = refl
size_if long (Some (IfBit nonzero reg at label)) b e = refl
size_if long (Some (Label label)) b e = cc
size_if long (Some (Mark mark)) b e = cc

abbrev the_branch : Option (Test × ℕ) → Test × ℕ → Test × ℕ
the_branch (Some b) other = b
the_branch None other = other

-- one conditional item stands at a position
pub one_branch : (o : Option (Test × ℕ)) (a b : Test × ℕ) → o ≡ Some a → o ≡ Some b → a ≡ b
one_branch o a b is_a is_b = ap (λ p. the_branch p a) (sym is_a ∙ is_b)

branch_or_none : (o : Option (Test × ℕ)) → ((b : Test × ℕ) × (o ≡ Some b)) ⊎ (o ≡ None)
branch_or_none None = inr refl
branch_or_none (Some b) = inl (b, refl)

pub no_some : (b : Test × ℕ) → branch_in None ≡ Some b → ⊥
no_some b is = cc

-- past the last item there is no branch
pub no_branch : (items : List Item) (k : ℕ) (test : Test) (label : ℕ) → length items ≤ k → IsIf items k test label → ⊥
no_branch items k test label le is = no_some (test, label) (ap branch_in (sym (slice_get_past items k le)) ∙ is)

-- ---- places
pub place-zero : (items : List Item) (long : Set) → place items long 0 ≡ 0
unfolding place
place-zero items long = refl

pub place-suc : (items : List Item) (long : Set) (k : ℕ) → place items long (suc k) ≡ place items long k + size_in (long k) (slice_get items k)
unfolding place
place-suc items long k = refl

pub place-next : (items : List Item) (long : Set) (k : ℕ) → place items long (k + 1) ≡ place items long k + size_in (long k) (slice_get items k)
place-next items long k = let e : k + 1 ≡ suc k = omega arith in ap (place items long) e ∙ place-suc items long k

-- what is asked of the branch at a position, by what the items keep
pub names_below : (n : ℕ) (o : Option (Test × ℕ)) → ((test : Test) (label : ℕ) → o ≡ Some (test, label) → label < n) → NamesBelow n o
names_below n None named = tt
names_below n (Some (test, label)) named = named test label refl

-- a short conditional item is one word
pub place-short : (items : List Item) (long : Set) (k : ℕ) (b : Test × ℕ) → branch_in (slice_get items k) ≡ Some b → long k ≡ false
    → place items long (k + 1) ≡ place items long k + 1
place-short items long k b is short =
    let size = size_if (long k) (slice_get items k) b is in
    let one : one_or_two (long k) ≡ 1 = ap one_or_two short in
    let next = place-next items long k in
    omega arith

-- an item is no longer where it is short
if_more : (a b : Bool) → (a ≡ true → b ≡ true) → (if a then 2 else 1) ≤ (if b then 2 else 1)
if_more false true h = omega arith
if_more false false h = omega arith
if_more true true h = omega arith
if_more true false h = let e : false ≡ true = h refl in cc

size_of_more : (item : Item) (a b : Bool) → (a ≡ true → b ≡ true) → size_of a item ≤ size_of b item
size_of_more (Plain inst) a b h = omega arith
size_of_more (Jump label) a b h = omega arith
size_of_more (If cond label) a b h = if_more a b h
size_of_more (IfZero width nonzero reg label) a b h = if_more a b h
size_of_more (IfBit nonzero reg at label) a b h = if_more a b h
size_of_more (Label label) a b h = omega arith
size_of_more (Mark mark) a b h = omega arith

size_in_more : (o : Option Item) (a b : Bool) → (a ≡ true → b ≡ true) → size_in a o ≤ size_in b o
size_in_more None a b h = omega arith
size_in_more (Some item) a b h = size_of_more item a b h

-- places go up with positions
pub place_mono : (items : List Item) (long : Set) (i j : ℕ) → i ≤ j → place items long i ≤ place items long j
place_mono items long i zero le = let e : i ≡ zero = omega arith in let same = ap (place items long) e in omega arith
place_mono items long i (suc j) le =
    ⊎_elim
    (λ lt. let more = place-suc items long j in let rest = place_mono items long i j (omega arith) in omega arith)
    (λ ge. let e : i ≡ suc j = omega arith in let same = ap (place items long) e in omega arith)
    (cases_lt i (suc j))

-- between two positions there are no fewer words where more of the items there are long
stretches_where : (items : List Item) (few more : Set) (i j : ℕ) → ((k : ℕ) → i ≤ k → k < j → few k ≡ true → more k ≡ true) → i ≤ j
    → place items few j + place items more i ≤ place items more j + place items few i
stretches_where items few more i zero within le =
    let e : i ≡ zero = omega arith in
    let same_few = ap (place items few) e in
    let same_more = ap (place items more) e in
    omega arith
stretches_where items few more i (suc j) within le =
    ⊎_elim
    (λ lt.
    let next_few = place-suc items few j in
    let next_more = place-suc items more j in
    let size = size_in_more (slice_get items j) (few j) (more j) (within j (omega arith) (omega arith)) in
    let rest = stretches_where items few more i j (λ k le lt. within k le (omega arith)) (omega arith) in
    omega arith)
    (λ ge.
    let e : i ≡ suc j = omega arith in
    let same_few = ap (place items few) e in
    let same_more = ap (place items more) e in
    omega arith)
    (cases_lt i (suc j))

-- between two positions there are as many words where the same items are long
pub same_stretch : (items : List Item) (a b : Set) (i j : ℕ) → ((k : ℕ) → i ≤ k → k < j → a k ≡ b k) → i ≤ j
    → place items a j + place items b i ≡ place items b j + place items a i
same_stretch items a b i j same le =
    let up = stretches_where items a b i j (λ k ge lt is. sym (same k ge lt) ∙ is) le in
    let down = stretches_where items b a i j (λ k ge lt is. same k ge lt ∙ is) le in
    omega arith

-- so a place is the same where the items before it are as long
pub same_place : (items : List Item) (a b : Set) (j : ℕ) → ((k : ℕ) → k < j → a k ≡ b k) → place items a j ≡ place items b j
same_place items a b j same =
    let all = same_stretch items a b 0 j (λ k ge lt. same k lt) (omega arith) in
    let first_a = place-zero items a in
    let first_b = place-zero items b in
    omega arith

module _ (items : List Item) (few more : Set) (within : IsWithin few more) where
  pub stretches : (i j : ℕ) → i ≤ j → place items few j + place items more i ≤ place items more j + place items few i
  stretches i j le = stretches_where items few more i j (λ k ge lt. within k) le

  -- a distance that fits where more items are long fits
  pub fits_within : (test : Test) (i j : ℕ) → Fits (reach test) (place items more i) (place items more j)
      → Fits (reach test) (place items few i) (place items few j)
  fits_within test i j fits =
      let some = some_reach test in
      let h0 = fits.0 in
      let h1 = fits.1 in
      ⊎_elim
      (λ lt. let far = stretches i j (omega arith) in let up = place_mono items few i j (omega arith) in (omega arith, omega arith))
      (λ ge. let far = stretches j i ge in let up = place_mono items few j i ge in (omega arith, omega arith))
      (cases_lt i j)

-- ---- sets
and_false : (a b : Bool) → (a && b) ≡ false → (a ≡ false) ⊎ (b ≡ false)
and_false true b e = inr e
and_false false b e = inl refl

and_left : (a b : Bool) → (a && b) ≡ true → a ≡ true
and_left true b e = refl
and_left false b e = e

pub and_right : (a b : Bool) → (a && b) ≡ true → b ≡ true
and_right true b e = e
and_right false b e = let no : false ≡ true = e in cc

without_within : (long : Set) (at : ℕ) → IsWithin (without long at) long
without_within long at k e = and_left (long k) (not (k == at)) e

same_at : (k at : ℕ) → not (k == at) ≡ false → k ≡ at
same_at k at e = grind (arith, nat_tests)

never_at : (k : ℕ) → not (k == k) ≡ true → ⊥
never_at k e = grind (arith, nat_tests)

module _ (items : List Item) where
  -- a set that is enough stays so without an item that fits, or that isn't conditional
  without_enough : (long : Set) (at : ℕ) → IsEnough items long
      → ((test : Test) (label : ℕ) → IsIf items at test label → FitsIn items (without long at) at test label) → IsEnough items (without long at)
  without_enough long at enough fits k test label there out =
      ⊎_elim
      (λ no. fits_within items (without long at) long (without_within long at) test k (position_of items label) (enough k test label there no))
      (λ no. let same : k ≡ at = same_at k at no in subst (λ j. FitsIn items (without long at) j test label) (sym same)
      (fits test label (subst (λ j. IsIf items j test label) same there)))
      (and_false (long k) (not (k == at)) out)

  -- so the least set has no such item
  least_without : (long : Set) (at : ℕ) → IsLeast items long → long at ≡ true
      → ((test : Test) (label : ℕ) → IsIf items at test label → FitsIn items (without long at) at test label) → ⊥
  least_without long at least there fits =
      never_at at (and_right (long at) (not (at == at)) (least.least (without long at) (without_enough long at least.enough fits) at there))

  alone_does_not : (long : Set) (k : ℕ) (test : Test) (label : ℕ) → IsLeast items long → IsIf items k test label → long k ≡ true
      → FitsIn items (without long k) k test label → ⊥
  alone_does_not long k test label least there chosen fits =
      least_without long k least chosen
      (λ t l e.
      let same : (test, label) ≡ (t, l) = one_branch (branch_in (slice_get items k)) (test, label) (t, l) there e in
      subst (λ (b : Test × ℕ). FitsIn items (without long k) k b.0 b.1) same fits)

  -- with the least set each item is as short as it can be
  pub least_is_short : (long : Set) → IsLeast items long → IsShort items long
  least_is_short long least = record {
    short_fits = least.enough;
    long_does_not = λ k test label there chosen fits. alone_does_not long k test label least there chosen
        (fits_within items (without long k) long (without_within long k) test k (position_of items label) fits);
    nor_alone = λ k test label there chosen fits. alone_does_not long k test label least there chosen fits;
    conditional = λ k chosen.
        ⊎_elim
        (λ found. (found.0.0, found.0.1, found.1))
        (λ none. absurd (least_without long k least chosen (λ test label there. let no : None ≡ Some (test, label) = sym none ∙ there in cc)))
        (branch_or_none (branch_in (slice_get items k)));
  }

  -- where each short item reaches its label, before it or after it, all fit
  pub reach_enough : (long : Set)
      → ((k : ℕ) (test : Test) (label : ℕ) → IsIf items k test label → position_of items label < k → long k ≡ false
      → place items long k ≤ label_place items long label + reach test)
      → ((k : ℕ) (test : Test) (label : ℕ) → IsIf items k test label → k < position_of items label → long k ≡ false
      → label_place items long label < place items long k + reach test) → IsEnough items long
  reach_enough long back forward k test label there short =
      let some = some_reach test in
      ⊎_elim
      (λ lt. let near = back k test label there lt short in let up = place_mono items long (position_of items label) k (omega arith) in
      (omega arith, omega arith))
      (λ ge.
      let up = place_mono items long k (position_of items label) ge in
      ⊎_elim
      (λ gt. let near = forward k test label there gt short in (omega arith, omega arith))
      (λ le. let e : k ≡ position_of items label = omega arith in let same : place items long k ≡ label_place items long label = ap (place items long)
      e in (omega arith, omega arith))
      (cases_lt k (position_of items label)))
      (cases_lt (position_of items label) k)
