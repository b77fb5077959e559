-- The pass that makes items long which don't reach a label before them.
use Rattle.std.proofs.Common.{◌≡◌, ℕ, ◌+◌, ◌<◌, ◌≤◌, inl, inr, ⊎_elim, Bool, true, false, Option, Some, None, List, length, set, refl, sym, ap, ◌∙◌, subst, arith}
use Rattle.std.specs.Prelude.{slice_get, slice_index, sum_by}
use Rattle.std.proofs.lemmas.Bool.{cases_lt}
use Rattle.std.proofs.lemmas.List.{length-set}
use Rattle.std.proofs.lemmas.Option.{slice_get_within}
use Rattle.a64_inst.specs.Fields.{bit}
use Rattle.a64_inst.specs.declared.item.Item.{Item}
use Rattle.a64_layout.specs.Branch.{branch_in, branch_of, reach, size_of, size_in}
use Rattle.a64_layout.specs.Layout.{Set, place, position_of, label_place, IsIf, IsEnough, IsWithin}
use Rattle.a64_layout.specs.Passes.{IsNearBack, TellsPositions, with_label}
use Rattle.a64_layout.specs.Text.{chosen, label_count, IsWellLabelled}
use Rattle.a64_layout.specs.declared.branch.Test.{Test}
use Rattle.a64_layout.proofs.Flags.{true_or_false, no_both, at_or_not, chosen_at, chosen_set_same, chosen_set_other, one_more}
use Rattle.a64_layout.proofs.Least.{no_branch, place-zero, place-next, same_place, fits_within}
use Rattle.a64_layout.proofs.Putting.{ArePut, label_at, labels_numbered, put_again, all_put, label_put}

-- the first items are looked at: those that didn't reach a label before them are long now
pub record IsPassBack (items : List Item) (old now : List Bool) (at here : ℕ) (places : List ℕ) : Type 0 where
  pub here_is : here ≡ place items (chosen now) at
  pub flags : length now ≡ length old
  pub put : ArePut items label_at (label_count items) (place items (chosen now)) (λ k. k < at) places
  pub least : (other : Set) → IsEnough items other → IsWithin (chosen old) other → IsWithin (chosen now) other
  pub more : sum_by bit old ≤ sum_by bit now
  pub near : (k : ℕ) (test : Test) (label : ℕ) → k < at → IsIf items k test label → position_of items label < k → chosen now k ≡ false
      → place items (chosen now) k ≤ label_place items (chosen now) label + reach test

pub back_first : (items : List Item) (old : List Bool) (places : List ℕ) → length places ≡ label_count items → IsPassBack items old old 0 0 places
back_first items old places count = record {
  here_is = sym (place-zero items (chosen old));
  flags = refl;
  put = record { count_is = count; told = λ k number lt. absurd (omega arith) };
  least = λ other enough within. within;
  more = omega arith;
  near = λ k test label lt. absurd (omega arith);
}

-- a branch that doesn't reach
far_back : (flag : Bool) (at here : ℕ) (positions places : List ℕ) (o : Option (Test × ℕ)) → (IsNearBack flag at here positions places o → ⊥)
    → (test : Test) × (label : ℕ) × (o ≡ Some (test, label)) × (flag ≡ false) × (slice_index positions label < at) ×
    (slice_index places label + reach test < here)
far_back flag at here positions places None far = absurd (far tt)
far_back true at here positions places (Some b) far = absurd (far (λ e. absurd (no_both true refl e)))
far_back false at here positions places (Some (test, label)) far =
    ⊎_elim
    (λ before.
    ⊎_elim
    (λ beyond. (test, label, refl, refl, before, beyond))
    (λ near. absurd (far (λ e b. near)))
    (cases_lt (slice_index places label + reach test) here))
    (λ after. absurd (far (λ e b. absurd (omega arith))))
    (cases_lt (slice_index positions label) at)

module _ (items : List Item) (good : IsWellLabelled items) (positions : List ℕ) (known : length positions ≡ label_count items)
    (tells : TellsPositions items positions) (old now : List Bool) (at here : ℕ) (places : List ℕ) (done : IsPassBack items old now at here places)
    (item : Item) (there : slice_get items at ≡ Some item) where
  -- where a label stands, and what is told of it
  position_is : (test : Test) (label : ℕ) → IsIf items at test label → slice_index positions label ≡ position_of items label
  position_is test label is = let named = good.ifs at test label is in tells label (omega arith)

  told_is : (test : Test) (label : ℕ) → IsIf items at test label → position_of items label < at
      → slice_index places label ≡ label_place items (chosen now) label
  told_is test label is before =
      all_put items label_at (label_count items) (position_of items) (labels_numbered items good) (place items (chosen now)) (λ k. k < at) places
      done.put label (good.ifs at test label is) before

  -- what is asked of the item itself
  abbrev IsNear : List Bool → Type 0
  IsNear flags = (test : Test) (label : ℕ) → IsIf items at test label → position_of items label < at → chosen flags at ≡ false
      → place items (chosen flags) at ≤ label_place items (chosen flags) label + reach test

  is_near : (flag : Bool) → slice_get now at ≡ Some flag → IsNearBack flag at here positions places (branch_of item) → IsNear now
  is_near flag flag_is near test label is before short =
      let own : branch_of item ≡ Some (test, label) = ap branch_in (sym there) ∙ is in
      let told = told_is test label is before in
      let position = position_is test label is in
      let here_is = done.here_is in
      let reached : here ≤ slice_index places label + reach test = subst (IsNearBack flag at here positions places) own near
      (sym (chosen_at now at flag flag_is) ∙ short) (omega arith) in
      omega arith

  -- one that doesn't reach is long in each set that is enough
  far_within : (test : Test) (label : ℕ) → IsIf items at test label → position_of items label < at → slice_index places label + reach test < here
      → (other : Set) → IsEnough items other → IsWithin (chosen now) other → other at ≡ true
  far_within test label is before far other enough within =
      ⊎_elim
      (λ in_it. in_it)
      (λ out.
      let fits = fits_within items (chosen now) other within test at (position_of items label) (enough at test label is out) in
      let near = fits.1 in
      let told = told_is test label is before in
      let here_is = done.here_is in
      absurd (omega arith))
      (true_or_false (other at))

  module _ (room : at < length now) where
    same_flags : (k : ℕ) → k < at → chosen now k ≡ chosen (set now at true) k
    same_flags k lt = sym (chosen_set_other now at k (λ e. omega arith))

    same_places : (k : ℕ) → k ≤ at → place items (chosen now) k ≡ place items (chosen (set now at true)) k
    same_places k le = same_place items (chosen now) (chosen (set now at true)) k (λ j lt. same_flags j (omega arith))

    lengthened : (test : Test) (label : ℕ) → IsIf items at test label → position_of items label < at → chosen now at ≡ false
        → slice_index places label + reach test < here → IsPassBack items old (set now at true) at here places
    lengthened test label is before short far = record {
      here_is = done.here_is ∙ same_places at (omega arith);
      flags = length-set now at true ∙ done.flags;
      put = put_again items label_at (label_count items) (place items (chosen now)) (place items (chosen (set now at true))) (λ k. k < at) places
          (λ k lt. same_places k (omega arith)) done.put;
      least = λ other enough within k is_long.
          ⊎_elim
          (λ same. subst (λ n. other n ≡ true) (sym same) (far_within test label is before far other enough (done.least other enough within)))
          (λ differ. done.least other enough within k (sym (chosen_set_other now at k differ) ∙ is_long))
          (at_or_not k at);
      more = let one = one_more now at room short in let more = done.more in omega arith;
      near = λ k t l lt is_if first is_short.
          let reached = done.near k t l lt is_if first (same_flags k lt ∙ is_short) in
          let own = same_places k (omega arith) in
          let to = same_places (position_of items l) (omega arith) in
          omega arith;
    }

  -- the pass goes on past the item
  advanced : IsNear now → (size : ℕ) (flag : Bool) (after : List ℕ) → slice_get now at ≡ Some flag → size ≡ size_of flag item
      → after ≡ with_label item here places → IsPassBack items old now (at + 1) (here + size) after
  advanced own size flag after flag_is size_is after_is =
      let next = place-next items (chosen now) at in
      let words : size_in (chosen now at) (slice_get items at) ≡ size_of flag item = ap (λ b. size_in b (slice_get items at))
      (chosen_at now at flag flag_is) ∙ ap (size_in flag) there in
      let here_is = done.here_is in
      record {
        here_is = omega arith;
        flags = done.flags;
        put =
            subst (ArePut items label_at (label_count items) (place items (chosen now)) (λ k. k < at + 1)) (sym after_is)
            (label_put items good (place items (chosen now)) (λ k. k < at) (λ k. k < at + 1) at here
            (λ k lt. ⊎_elim (λ less. inl less) (λ ge. inr (omega arith)) (cases_lt k at)) (λ lt. omega arith) here_is places item there done.put);
        least = done.least;
        more = done.more;
        near = λ k test label lt is before short.
            ⊎_elim
            (λ less. done.near k test label less is before short)
            (λ ge.
            let same : k ≡ at = omega arith in
            subst (λ n. place items (chosen now) n ≤ label_place items (chosen now) label + reach test) (sym same)
            (own test label (subst (λ n. IsIf items n test label) same is) (subst (λ n. position_of items label < n) same before)
            (subst (λ n. chosen now n ≡ false) same short)))
            (cases_lt k at);
      }

-- an item that is long or reaches its label stays as it is
pub back_kept : (items : List Item) → IsWellLabelled items → (positions : List ℕ) → length positions ≡ label_count items
    → TellsPositions items positions → (old now : List Bool) (at here : ℕ) (places : List ℕ) → IsPassBack items old now at here places → (item : Item)
    → slice_get items at ≡ Some item
    → (was : Bool) → slice_get now at ≡ Some was → IsNearBack was at here positions places (branch_of item)
    → (size : ℕ) (flag : Bool) (after : List ℕ) (new : List Bool) → new ≡ now → slice_get new at ≡ Some flag → size ≡ size_of flag item
    → after ≡ with_label item here places
    → IsPassBack items old new (at + 1) (here + size) after
back_kept items good positions known tells old now at here places done item there was was_is near size flag after new new_is flag_is size_is after_is =
    subst (λ n. IsPassBack items old n (at + 1) (here + size) after) (sym new_is)
    (advanced items good positions known tells old now at here places done item there
    (is_near items good positions known tells old now at here places done item there was was_is near) size flag after
    (ap (λ n. slice_get n at) (sym new_is) ∙ flag_is) size_is after_is)

-- any other one becomes long
pub back_lengthened : (items : List Item) → IsWellLabelled items → (positions : List ℕ) → length positions ≡ label_count items
    → TellsPositions items positions → (old now : List Bool) (at here : ℕ) (places : List ℕ) → IsPassBack items old now at here places → (item : Item)
    → slice_get items at ≡ Some item
    → (was : Bool) → slice_get now at ≡ Some was → (IsNearBack was at here positions places (branch_of item) → ⊥)
    → (size : ℕ) (flag : Bool) (after : List ℕ) (new : List Bool) → new ≡ set now at true → slice_get new at ≡ Some flag
    → size ≡ size_of flag item → after ≡ with_label item here places
    → IsPassBack items old new (at + 1) (here + size) after
back_lengthened items good positions known tells old now at here places done item there was was_is far size flag after new new_is flag_is size_is after_is =
    let found = far_back was at here positions places (branch_of item) far in
    let is : IsIf items at found.0 found.1 = ap branch_in there ∙ found.2 in
    let room = slice_get_within now at was was_is in
    let before = found.4 in
    let position = position_is items good positions known tells old now at here places done item there found.0 found.1 is in
    let longer = lengthened items good positions known tells old now at here places done item there room found.0 found.1 is (omega arith)
    (chosen_at now at was was_is ∙ found.3) found.5 in
    subst (λ n. IsPassBack items old n (at + 1) (here + size) after) (sym new_is)
    (advanced items good positions known tells old (set now at true) at here places longer item there
    (λ test label e b short. absurd (no_both (chosen (set now at true) at) (chosen_set_same now at room) short)) size flag after
    (ap (λ n. slice_get n at) (sym new_is) ∙ flag_is) size_is after_is)

-- where all items are looked at, each reaches
pub back_whole : (items : List Item) (at : ℕ) (old now : List Bool) (here : ℕ) (places : List ℕ) → length items ≤ at → IsPassBack items old now at here places
    → (k : ℕ) (test : Test) (label : ℕ) → IsIf items k test label → position_of items label < k → chosen now k ≡ false
    → place items (chosen now) k ≤ label_place items (chosen now) label + reach test
back_whole items at old now here places whole done k test label is before short =
    ⊎_elim
    (λ lt. done.near k test label (omega arith) is before short)
    (λ past. absurd (no_branch items k test label past is))
    (cases_lt k (length items))
