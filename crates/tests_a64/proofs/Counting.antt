-- How many of the first items are of a kind.
use Rattle.std.proofs.Common.{◌≡◌, ℕ, ◌+◌, Bool, true, false, Some, List, get_or, ap, sym, ◌∙◌}
use Rattle.std.specs.Prelude.{slice_get}
use Rattle.std.specs.List.{count_by}
use Rattle.std.proofs.Math.ListN.{take}
use Rattle.std.proofs.lemmas.List.Sums.{count_by_more_yes, count_by_more_no}
use Rattle.std.proofs.lemmas.Option.{slice_get_within, get_or_from_slice_get}
use Rattle.a64_inst.specs.declared.item.Item.{Item}

module _ (p : Item → Bool) (items : List Item) (at count : ℕ) (item : Item) (there : slice_get items at ≡ Some item)
    (before : count ≡ count_by p (take at items)) where
  own : (flag : Bool) → p item ≡ flag → p (get_or items at item) ≡ flag
  own flag is = ap p (get_or_from_slice_get items at item item there) ∙ is

  pub one_counted : p item ≡ true → count + 1 ≡ count_by p (take (at + 1) items)
  one_counted is = ap (λ n. n + 1) before ∙ sym (count_by_more_yes p items at item (slice_get_within items at item there) (own true is))

  pub none_counted : p item ≡ false → count ≡ count_by p (take (at + 1) items)
  none_counted is = before ∙ sym (count_by_more_no p items at item (slice_get_within items at item there) (own false is))
