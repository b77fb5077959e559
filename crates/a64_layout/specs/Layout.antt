-- Where the items of labelled code begin, and which conditional items have to be long.
use Rattle.std.specs.Prelude.{◌≡◌, ℕ, zero, suc, ◌+◌, ◌<◌, ◌≤◌, Bool, true, false, not, ◌&&◌, ◌==◌, List, length, slice_get, Some}
use Rattle.std.specs.List.{position_or_len}
use Rattle.a64_inst.specs.declared.item.Item.{Item}
use Rattle.a64_inst.specs.declared.item.Item.TheVariants.{Label}
use Rattle.a64_layout.specs.Branch.{branch_in, reach, size_in}
use Rattle.a64_layout.specs.declared.branch.Test.{Test}

-- a set of items, by their positions in the list
abbrev pub Set : Type 0
Set = ℕ → Bool

-- the place at which an item begins where the items of a set are long: the words before it
unfoldable pub place : List Item → Set → ℕ → ℕ
place items long zero = 0
place items long (suc k) = place items long k + size_in (long k) (slice_get items k)

-- the words of the items where all are long
abbrev pub most_words : List Item → ℕ
most_words items = place items (λ k. true) (length items)

-- the position of a label among the items
abbrev pub is_label : ℕ → Item → Bool
is_label label (Label number) = number == label
is_label label _ = false

unfoldable pub position_of : List Item → ℕ → ℕ
position_of items label = position_or_len (is_label label) items

-- the place of a label
abbrev pub label_place : List Item → Set → ℕ → ℕ
label_place items long label = place items long (position_of items label)

-- the distance between two places is in reach
abbrev pub Fits : ℕ → ℕ → ℕ → Type 0
Fits reach from to = (to < from + reach) × (from ≤ to + reach)

-- a conditional item stands at this position
abbrev pub IsIf : List Item → ℕ → Test → ℕ → Type 0
IsIf items k test label = branch_in (slice_get items k) ≡ Some (test, label)

-- the distance of the item at k, counted from its first word, fits its short form
abbrev pub FitsIn : List Item → Set → ℕ → Test → ℕ → Type 0
FitsIn items long k test label = Fits (reach test) (place items long k) (label_place items long label)

-- where these items are long, each other conditional item fits
abbrev pub IsEnough : List Item → Set → Type 0
IsEnough items long =
    (k : ℕ) (test : Test) (label : ℕ) → IsIf items k test label → long k ≡ false → FitsIn items long k test label

-- each item of one set is in the other
abbrev pub IsWithin : Set → Set → Type 0
IsWithin few more = (k : ℕ) → few k ≡ true → more k ≡ true

-- the least set that is enough: it is within each other
pub record IsLeast (items : List Item) (long : Set) : Type 0 where
  pub enough : IsEnough items long
  pub least : (other : Set) → IsEnough items other → IsWithin long other

-- a set but for one item
abbrev pub without : Set → ℕ → Set
without long at = λ k. long k && not (k == at)

-- each conditional item is as short as it can be
pub record IsShort (items : List Item) (long : Set) : Type 0 where
  -- a short item fits
  pub short_fits :
      (k : ℕ) (test : Test) (label : ℕ) → IsIf items k test label → long k ≡ false → FitsIn items long k test label
  -- a long one doesn't, and it wouldn't if it alone were short
  pub long_does_not :
      (k : ℕ) (test : Test) (label : ℕ) → IsIf items k test label → long k ≡ true → FitsIn items long k test label → ⊥
  pub nor_alone :
      (k : ℕ) (test : Test) (label : ℕ) → IsIf items k test label → long k ≡ true
      → FitsIn items (without long k) k test label → ⊥
  -- only conditional items are long
  pub conditional : (k : ℕ) → long k ≡ true → (test : Test) × (label : ℕ) × IsIf items k test label
