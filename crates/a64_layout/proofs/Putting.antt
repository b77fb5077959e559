-- Numbers that a pass over the items puts at its labels, or at its marks.
use Rattle.std.proofs.Common.{◌≡◌, ◌≢◌, ℕ, ◌<◌, ◌⊎◌, ⊎_elim, Some, List, length, set, sym, ap, ◌∙◌, subst, get_or-set_same, get_or-set_other}
use Rattle.std.specs.Prelude.{slice_get, slice_index}
use Rattle.std.proofs.lemmas.List.{length-set}
use Rattle.a64_inst.specs.declared.item.Item.{Item}
use Rattle.a64_inst.specs.declared.item.Item.TheVariants.{Plain, Jump, If, IfZero, IfBit, Label, Mark}
use Rattle.a64_layout.specs.Layout.{position_of}
use Rattle.a64_layout.specs.Passes.{with_label, with_mark}
use Rattle.a64_layout.specs.Text.{label_count, mark_count, mark_position_of, IsWellLabelled}
use Rattle.a64_layout.proofs.Labels.{label_stands, mark_stands}

-- items of one kind have the numbers below a count, each once, and stand at these positions
pub record AreNumbered (items : List Item) (kind : ℕ → Item) (count : ℕ) (position : ℕ → ℕ) : Type 0 where
  pub one_kind : (a b : ℕ) → kind a ≡ kind b → a ≡ b
  pub below : (k number : ℕ) → slice_get items k ≡ Some (kind number) → number < count
  pub once : (i j number : ℕ) → slice_get items i ≡ Some (kind number) → slice_get items j ≡ Some (kind number) → i ≡ j
  pub there : (number : ℕ) → number < count → position number < length items
  pub stands : (number : ℕ) → number < count → slice_get items (position number) ≡ Some (kind number)

abbrev pub label_at : ℕ → Item
label_at label = Label label

abbrev pub mark_at : ℕ → Item
mark_at mark = Mark mark

pub labels_numbered : (items : List Item) → IsWellLabelled items → AreNumbered items label_at (label_count items) (position_of items)
labels_numbered items good = record {
  one_kind = λ a b e. cc;
  below = good.labels;
  once = good.label_once;
  there = good.label_there;
  stands = λ label below. label_stands items label (good.label_there label below);
}

pub marks_numbered : (items : List Item) → IsWellLabelled items → AreNumbered items mark_at (mark_count items) (mark_position_of items)
marks_numbered items good = record {
  one_kind = λ a b e. cc;
  below = good.marks;
  once = good.mark_once;
  there = good.mark_there;
  stands = λ mark below. mark_stands items mark (good.mark_there mark below);
}

-- the items of this kind at the positions that were met have their value
pub record ArePut (items : List Item) (kind : ℕ → Item) (count : ℕ) (value : ℕ → ℕ) (Met : ℕ → Type 0) (put : List ℕ) : Type 0 where
  pub count_is : length put ≡ count
  pub told : (k number : ℕ) → Met k → slice_get items k ≡ Some (kind number) → slice_index put number ≡ value k

-- where the values of what was met stay
pub put_again : (items : List Item) (kind : ℕ → Item) (count : ℕ) (value other : ℕ → ℕ) (Met : ℕ → Type 0) (put : List ℕ)
    → ((k : ℕ) → Met k → value k ≡ other k) → ArePut items kind count value Met put → ArePut items kind count other Met put
put_again items kind count value other Met put same done = record
    { count_is = done.count_is; told = λ k number met there. done.told k number met there ∙ same k met }

module _ (items : List Item) (kind : ℕ → Item) (count : ℕ) (position : ℕ → ℕ) (all : AreNumbered items kind count position) (value : ℕ → ℕ) where
  pub all_put : (Met : ℕ → Type 0) (put : List ℕ) → ArePut items kind count value Met put → (number : ℕ) → number < count → Met (position number)
      → slice_index put number ≡ value (position number)
  all_put Met put done number below met = done.told (position number) number met (all.stands number below)

  -- one position more
  module _ (Met Now : ℕ → Type 0) (at here : ℕ) (split : (k : ℕ) → Now k → Met k ⊎ (k ≡ at)) (new : Met at → ⊥) (here_is : here ≡ value at)
      (put : List ℕ) (done : ArePut items kind count value Met put) where
    pub put_one : (number : ℕ) → slice_get items at ≡ Some (kind number) → ArePut items kind count value Now (set put number here)
    put_one number there =
        let below : number < length put = subst (λ n. number < n) (sym done.count_is) (all.below at number there) in
        record {
          count_is = length-set put number here ∙ done.count_is;
          told = λ k n now is.
              ⊎_elim
              (λ met.
              let other : n ≢ number = λ same.
              let one : k ≡ at = all.once k at number (subst (λ m. slice_get items k ≡ Some (kind m)) same is) there in
              new (subst Met one met) in
              get_or-set_other put number n here 0 other ∙ done.told k n met is)
              (λ k_is.
              let both : slice_get items at ≡ Some (kind n) = subst (λ m. slice_get items m ≡ Some (kind n)) k_is is in
              let kinds : kind n ≡ kind number = cc in
              let n_is : n ≡ number = all.one_kind n number kinds in
              ap (slice_index (set put number here)) n_is ∙ (get_or-set_same put number here 0 below ∙ (here_is ∙ ap value (sym k_is))))
              (split k now);
        }

    pub put_other : ((number : ℕ) → slice_get items at ≡ Some (kind number) → ⊥) → ArePut items kind count value Now put
    put_other other = record {
      count_is = done.count_is;
      told = λ k n now is.
          ⊎_elim
          (λ met. done.told k n met is)
          (λ k_is. absurd (other n (subst (λ m. slice_get items m ≡ Some (kind n)) k_is is)))
          (split k now);
    }

module _ (items : List Item) (good : IsWellLabelled items) (value : ℕ → ℕ) (Met Now : ℕ → Type 0) (at here : ℕ)
    (split : (k : ℕ) → Now k → Met k ⊎ (k ≡ at)) (new : Met at → ⊥) (here_is : here ≡ value at) (put : List ℕ) where
  -- a label's number is put, and nothing at another item
  pub label_put : (item : Item) → slice_get items at ≡ Some item → ArePut items label_at (label_count items) value Met put
      → ArePut items label_at (label_count items) value Now (with_label item here put)
  label_put (Label label) there done = put_one items label_at (label_count items) (position_of items) (labels_numbered items good) value Met Now at
      here split new here_is put done label there
  label_put (Plain inst) there done = put_other items label_at (label_count items) (position_of items) (labels_numbered items good) value Met Now at
      here split new here_is put done (λ n is. cc)
  label_put (Jump label) there done = put_other items label_at (label_count items) (position_of items) (labels_numbered items good) value Met Now at
      here split new here_is put done (λ n is. cc)
  label_put (If cond label) there done = put_other items label_at (label_count items) (position_of items) (labels_numbered items good) value Met Now
      at here split new here_is put done (λ n is. cc)
  label_put (IfZero width nonzero reg label) there done = put_other items label_at (label_count items) (position_of items)
      (labels_numbered items good) value Met Now at here split new here_is put done (λ n is. cc)
  label_put (IfBit nonzero reg bit label) there done = put_other items label_at (label_count items) (position_of items) (labels_numbered items good)
      value Met Now at here split new here_is put done (λ n is. cc)
  label_put (Mark mark) there done = put_other items label_at (label_count items) (position_of items) (labels_numbered items good) value Met Now at
      here split new here_is put done (λ n is. cc)

  pub mark_put : (item : Item) → slice_get items at ≡ Some item → ArePut items mark_at (mark_count items) value Met put
      → ArePut items mark_at (mark_count items) value Now (with_mark item here put)
  mark_put (Mark mark) there done = put_one items mark_at (mark_count items) (mark_position_of items) (marks_numbered items good) value Met Now at
      here split new here_is put done mark there
  mark_put (Plain inst) there done = put_other items mark_at (mark_count items) (mark_position_of items) (marks_numbered items good) value Met Now at
      here split new here_is put done (λ n is. cc)
  mark_put (Jump label) there done = put_other items mark_at (mark_count items) (mark_position_of items) (marks_numbered items good) value Met Now at
      here split new here_is put done (λ n is. cc)
  mark_put (If cond label) there done = put_other items mark_at (mark_count items) (mark_position_of items) (marks_numbered items good) value Met Now
      at here split new here_is put done (λ n is. cc)
  mark_put (IfZero width nonzero reg label) there done = put_other items mark_at (mark_count items) (mark_position_of items)
      (marks_numbered items good) value Met Now at here split new here_is put done (λ n is. cc)
  mark_put (IfBit nonzero reg bit label) there done = put_other items mark_at (mark_count items) (mark_position_of items) (marks_numbered items good)
      value Met Now at here split new here_is put done (λ n is. cc)
  mark_put (Label label) there done = put_other items mark_at (mark_count items) (mark_position_of items) (marks_numbered items good) value Met Now at
      here split new here_is put done (λ n is. cc)
