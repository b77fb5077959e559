-- The pass from the last item back that makes items long which don't reach a label after them.
use Rattle.std.proofs.Common.{◌≡◌, ℕ, ◌+◌, ◌-◌, ◌^◌, ◌<◌, ◌≤◌, inl, inr, ⊎_elim, Bool, true, false, Option, Some, None, List, length, set, refl, sym, ap, ◌∙◌, subst, arith}
use Rattle.std.specs.Prelude.{slice_get, slice_index, sum_by}
use Rattle.std.proofs.lemmas.Bool.{cases_lt}
use Rattle.std.proofs.lemmas.List.{length-set}
use Rattle.std.proofs.lemmas.Option.{slice_get_within}
use Rattle.a64_inst.specs.Fields.{bit}
use Rattle.a64_inst.specs.declared.item.Item.{Item}
use Rattle.a64_inst.specs.declared.item.Item.TheVariants.{Label}
use Rattle.a64_layout.specs.Branch.{branch_in, branch_of, reach, size_of, size_in}
use Rattle.a64_layout.specs.Layout.{Set, place, position_of, label_place, IsIf, IsEnough, IsWithin}
use Rattle.a64_layout.specs.Passes.{IsNearForward, TellsPositions, with_label}
use Rattle.a64_layout.specs.Text.{chosen, label_count, IsWellLabelled}
use Rattle.a64_layout.specs.declared.branch.Test.{Test}
use Rattle.a64_layout.proofs.Flags.{true_or_false, no_both, at_or_not, chosen_at, chosen_set_same, chosen_set_other, one_more}
use Rattle.a64_layout.proofs.Labels.{label_stands, place_short}
use Rattle.a64_layout.proofs.Least.{no_branch, place-next, place-short, place_mono, same_stretch, fits_within}
use Rattle.a64_layout.proofs.Putting.{ArePut, label_at, labels_numbered, all_put, put_again, label_put}

-- the words after an item
abbrev pub words_after : List Item → Set → ℕ → ℕ
words_after items long k = place items long (length items) - place items long (k + 1)

-- the items from `next` on are looked at: those that didn't reach a label after them are long now
pub record IsPassForward (items : List Item) (old now : List Bool) (next rest : ℕ) (places : List ℕ) (changed : Bool) : Type 0 where
  pub rest_is : rest + place items (chosen now) next ≡ place items (chosen now) (length items)
  pub flags : length now ≡ length old
  pub put : ArePut items label_at (label_count items) (words_after items (chosen now)) (λ k. next ≤ k) places
  pub least : (other : Set) → IsEnough items other → IsWithin (chosen old) other → IsWithin (chosen now) other
  pub more : changed ≡ true → sum_by bit old < sum_by bit now
  pub same : changed ≡ false → now ≡ old
  pub near : (k : ℕ) (test : Test) (label : ℕ) → next ≤ k → IsIf items k test label → k < position_of items label → chosen now k ≡ false
      → label_place items (chosen now) label < place items (chosen now) k + reach test

pub forward_first : (items : List Item) (old : List Bool) (places : List ℕ) (next : ℕ) → next ≡ length items → length places ≡ label_count items
    → IsPassForward items old old next 0 places false
forward_first items old places next whole count = record {
  rest_is = let same = ap (place items (chosen old)) whole in omega arith;
  flags = refl;
  put = record { count_is = count; told = λ k number le is. let lt = slice_get_within items k (Label number) is in absurd (omega arith) };
  least = λ other enough within. within;
  more = λ e. absurd (no_both false e refl);
  same = λ e. refl;
  near = λ k test label le is past.
      absurd (no_branch items k test label (omega arith) is);
}

-- a branch that doesn't reach
far_forward : (flag : Bool) (at rest : ℕ) (positions places : List ℕ) (o : Option (Test × ℕ)) → (IsNearForward flag at rest positions places o → ⊥)
    → (test : Test) × (label : ℕ) × (o ≡ Some (test, label)) × (flag ≡ false) × (at < slice_index positions label) ×
    (slice_index places label + reach test ≤ rest + 1)
far_forward flag at rest positions places None far = absurd (far tt)
far_forward true at rest positions places (Some b) far = absurd (far (λ e. absurd (no_both true refl e)))
far_forward false at rest positions places (Some (test, label)) far =
    ⊎_elim
    (λ past.
    ⊎_elim
    (λ near. absurd (far (λ e p. near)))
    (λ beyond. (test, label, refl, refl, past, beyond))
    (cases_lt (rest + 1) (slice_index places label + reach test)))
    (λ before. absurd (far (λ e p. absurd (omega arith))))
    (cases_lt at (slice_index positions label))

module _ (items : List Item) (good : IsWellLabelled items) (positions : List ℕ) (known : length positions ≡ label_count items)
    (tells : TellsPositions items positions) (old now : List Bool) (at rest : ℕ) (places : List ℕ) (changed : Bool)
    (done : IsPassForward items old now (at + 1) rest places changed)
    (item : Item) (there : slice_get items at ≡ Some item) where
  position_is : (test : Test) (label : ℕ) → IsIf items at test label → slice_index positions label ≡ position_of items label
  position_is test label is = let named = good.ifs at test label is in tells label (omega arith)

  -- the words after a label are those after its place
  told_is : (test : Test) (label : ℕ) → IsIf items at test label → at < position_of items label
      → (slice_index places label + label_place items (chosen now) label ≡ place items (chosen now) (length items))
  told_is test label is past =
      let named = good.ifs at test label is in
      let told = all_put items label_at (label_count items) (position_of items) (labels_numbered items good) (words_after items (chosen now))
      (λ k. at + 1 ≤ k) places done.put label named (omega arith) in
      let stands = label_stands items label (good.label_there label named) in
      let next = place-next items (chosen now) (position_of items label) in
      let none : size_in (chosen now (position_of items label)) (slice_get items (position_of items label)) ≡ 0 = ap
      (size_in (chosen now (position_of items label))) stands in
      let within = good.label_there label named in
      let up = place_mono items (chosen now) (position_of items label + 1) (length items) (omega arith) in
      omega arith

  abbrev IsNear : List Bool → Type 0
  IsNear flags = (test : Test) (label : ℕ) → IsIf items at test label → at < position_of items label → chosen flags at ≡ false
      → label_place items (chosen flags) label < place items (chosen flags) at + reach test

  is_near : (flag : Bool) → slice_get now at ≡ Some flag → IsNearForward flag at rest positions places (branch_of item) → IsNear now
  is_near flag flag_is near test label is past short =
      let own : branch_of item ≡ Some (test, label) = ap branch_in (sym there) ∙ is in
      let told = told_is test label is past in
      let position = position_is test label is in
      let rest_is = done.rest_is in
      let one = place-short items (chosen now) at (test, label) is short in
      let reached : rest + 1 < slice_index places label + reach test = subst (IsNearForward flag at rest positions places) own near
      (sym (chosen_at now at flag flag_is) ∙ short) (omega arith) in
      omega arith

  far_within : (test : Test) (label : ℕ) → IsIf items at test label → at < position_of items label → chosen now at ≡ false
      → slice_index places label + reach test ≤ rest + 1 → (other : Set) → IsEnough items other → IsWithin (chosen now) other → other at ≡ true
  far_within test label is past short far other enough within =
      ⊎_elim
      (λ in_it. in_it)
      (λ out.
      let fits = fits_within items (chosen now) other within test at (position_of items label) (enough at test label is out) in
      let near = fits.0 in
      let told = told_is test label is past in
      let rest_is = done.rest_is in
      let one = place-short items (chosen now) at (test, label) is short in
      absurd (omega arith))
      (true_or_false (other at))

  module _ (room : at < length now) where
    same_flags : (k : ℕ) → at + 1 ≤ k → chosen now k ≡ chosen (set now at true) k
    same_flags k le = sym (chosen_set_other now at k (λ e. omega arith))

    same_words : (i j : ℕ) → at + 1 ≤ i → i ≤ j
        → place items (chosen now) j + place items (chosen (set now at true)) i ≡ place items (chosen (set now at true)) j + place items (chosen now) i
    same_words i j ge le = same_stretch items (chosen now) (chosen (set now at true)) i j (λ k from to. same_flags k (omega arith)) le

    same_after : (k : ℕ) → at + 1 ≤ k → words_after items (chosen now) k ≡ words_after items (chosen (set now at true)) k
    same_after k le =
        ⊎_elim
        (λ lt.
        let same = same_words (k + 1) (length items) (omega arith) (omega arith) in
        let up = place_mono items (chosen now) (k + 1) (length items) (omega arith) in
        let up_too = place_mono items (chosen (set now at true)) (k + 1) (length items) (omega arith) in
        omega arith)
        (λ ge.
        let down = place_mono items (chosen now) (length items) (k + 1) (omega arith) in
        let down_too = place_mono items (chosen (set now at true)) (length items) (k + 1) (omega arith) in
        omega arith)
        (cases_lt k (length items))

    more_or_same : sum_by bit old ≤ sum_by bit now
    more_or_same =
        ⊎_elim
        (λ is. let lt = done.more is in omega arith)
        (λ is. let e = ap (sum_by bit) (done.same is) in omega arith)
        (true_or_false changed)

    lengthened : (test : Test) (label : ℕ) → IsIf items at test label → at < position_of items label → chosen now at ≡ false
        → slice_index places label + reach test ≤ rest + 1 → IsPassForward items old (set now at true) (at + 1) rest places true
    lengthened test label is past short far = record {
      rest_is =
          let rest_is = done.rest_is in
          let within = slice_get_within items at item there in
          let same = same_words (at + 1) (length items) (omega arith) (omega arith) in
          omega arith;
      flags = length-set now at true ∙ done.flags;
      put = put_again items label_at (label_count items) (words_after items (chosen now)) (words_after items (chosen (set now at true)))
          (λ k. at + 1 ≤ k) places (λ k le. same_after k le) done.put;
      least = λ other enough within k is_long.
          ⊎_elim
          (λ same. subst (λ n. other n ≡ true) (sym same) (far_within test label is past short far other enough (done.least other enough within)))
          (λ differ. done.least other enough within k (sym (chosen_set_other now at k differ) ∙ is_long))
          (at_or_not k at);
      more = λ e. let one = one_more now at room short in let more = more_or_same in omega arith;
      same = λ e. absurd (no_both true refl e);
      near = λ k t l le is_if after is_short.
          let reached = done.near k t l le is_if after (same_flags k le ∙ is_short) in
          let same = same_words k (position_of items l) le (omega arith) in
          omega arith;
    }

  -- the pass goes on before the item
  advanced : IsNear now → (size : ℕ) (flag : Bool) (after : List ℕ) → slice_get now at ≡ Some flag → size ≡ size_of flag item
      → after ≡ with_label item rest places → IsPassForward items old now at (rest + size) after changed
  advanced own size flag after flag_is size_is after_is =
      let next = place-next items (chosen now) at in
      let words : size_in (chosen now at) (slice_get items at) ≡ size_of flag item = ap (λ b. size_in b (slice_get items at))
      (chosen_at now at flag flag_is) ∙ ap (size_in flag) there in
      let rest_is = done.rest_is in
      record {
        rest_is = omega arith;
        flags = done.flags;
        put =
            subst (ArePut items label_at (label_count items) (words_after items (chosen now)) (λ k. at ≤ k)) (sym after_is)
            (label_put items good (words_after items (chosen now)) (λ k. at + 1 ≤ k) (λ k. at ≤ k) at rest
            (λ k le. ⊎_elim (λ more. inl (omega arith)) (λ less. inr (omega arith)) (cases_lt at k)) (λ lt. omega arith) (omega arith) places item
            there done.put);
        least = done.least;
        more = done.more;
        same = done.same;
        near = λ k test label le is past short.
            ⊎_elim
            (λ more. done.near k test label (omega arith) is past short)
            (λ less.
            let same : k ≡ at = omega arith in
            subst (λ n. label_place items (chosen now) label < place items (chosen now) n + reach test) (sym same)
            (own test label (subst (λ n. IsIf items n test label) same is) (subst (λ n. n < position_of items label) same past)
            (subst (λ n. chosen now n ≡ false) same short)))
            (cases_lt at k);
      }

-- an item that is long or reaches its label stays as it is
pub forward_kept : (items : List Item) → IsWellLabelled items → (positions : List ℕ) → length positions ≡ label_count items
    → TellsPositions items positions → (old now : List Bool) (at next rest : ℕ) (places : List ℕ) (changed : Bool) → next ≡ at + 1
    → IsPassForward items old now next rest places changed
    → (item : Item) → slice_get items at ≡ Some item → (was : Bool) → slice_get now at ≡ Some was
    → IsNearForward was at rest positions places (branch_of item) → (size : ℕ) (flag : Bool) (after : List ℕ) (new : List Bool) (then : Bool)
    → new ≡ now → then ≡ changed
    → slice_get new at ≡ Some flag → size ≡ size_of flag item → after ≡ with_label item rest places → IsPassForward items old new at (rest + size) after then
forward_kept items good positions known tells old now at next rest places changed next_is before item there was was_is near size flag after new then
    new_is then_is flag_is size_is after_is =
    let done = subst (λ n. IsPassForward items old now n rest places changed) next_is before in
    subst (λ c. IsPassForward items old new at (rest + size) after c) (sym then_is)
    (subst (λ n. IsPassForward items old n at (rest + size) after changed) (sym new_is)
    (advanced items good positions known tells old now at rest places changed done item there
    (is_near items good positions known tells old now at rest places changed done item there was was_is near) size flag after
    (ap (λ n. slice_get n at) (sym new_is) ∙ flag_is) size_is after_is))

-- any other one becomes long
pub forward_lengthened : (items : List Item) → IsWellLabelled items → (positions : List ℕ) → length positions ≡ label_count items
    → TellsPositions items positions → (old now : List Bool) (at next rest : ℕ) (places : List ℕ) (changed : Bool) → next ≡ at + 1
    → IsPassForward items old now next rest places changed
    → (item : Item) → slice_get items at ≡ Some item → (was : Bool) → slice_get now at ≡ Some was
    → (IsNearForward was at rest positions places (branch_of item) → ⊥)
    → (size : ℕ) (flag : Bool) (after : List ℕ) (new : List Bool) (then : Bool) → new ≡ set now at true → then ≡ true
    → slice_get new at ≡ Some flag → size ≡ size_of flag item → after ≡ with_label item rest places → IsPassForward items old new at (rest + size) after then
forward_lengthened items good positions known tells old now at next rest places changed next_is before item there was was_is far size flag after new
    then new_is then_is flag_is size_is after_is =
    let done = subst (λ n. IsPassForward items old now n rest places changed) next_is before in
    let found = far_forward was at rest positions places (branch_of item) far in
    let is : IsIf items at found.0 found.1 = ap branch_in there ∙ found.2 in
    let room = slice_get_within now at was was_is in
    let past = found.4 in
    let position = position_is items good positions known tells old now at rest places changed done item there found.0 found.1 is in
    let longer = lengthened items good positions known tells old now at rest places changed done item there room found.0 found.1 is (omega arith)
    (chosen_at now at was was_is ∙ found.3) found.5 in
    subst (λ c. IsPassForward items old new at (rest + size) after c) (sym then_is)
    (subst (λ n. IsPassForward items old n at (rest + size) after true) (sym new_is)
    (advanced items good positions known tells old (set now at true) at rest places true longer item there
    (λ test label e p short. absurd (no_both (chosen (set now at true) at) (chosen_set_same now at room) short)) size flag after
    (ap (λ n. slice_get n at) (sym new_is) ∙ flag_is) size_is after_is))

-- where all items are looked at, each reaches
pub forward_whole : (items : List Item) (next : ℕ) (old now : List Bool) (rest : ℕ) (places : List ℕ) (changed : Bool) → next ≡ 0
    → IsPassForward items old now next rest places changed
    → (k : ℕ) (test : Test) (label : ℕ) → IsIf items k test label → k < position_of items label → chosen now k ≡ false
    → label_place items (chosen now) label < place items (chosen now) k + reach test
forward_whole items next old now rest places changed whole done k test label is past short = done.near k test label (omega arith) is past short

-- the words that are left, and two more, are few
pub rest_short : (items : List Item) → IsWellLabelled items → (next : ℕ) (old now : List Bool) (rest : ℕ) (places : List ℕ) (changed : Bool)
    → IsPassForward items old now next rest places changed → rest < 2 ^ 24
rest_short items good next old now rest places changed done =
    let rest_is = done.rest_is in
    let short = place_short items good (chosen now) (length items) (omega arith) in
    omega arith
