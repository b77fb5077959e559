-- What a contract sees of a `Chains`: lists of items, each item under the id of its node.
use Rattle.std.specs.Prelude.{◌≡◌, ℕ, ◌==◌, List, [], ◌∷◌, length, sum_by, slice_index_or, Option, Some, None, IsSome, if◌then◌else◌, refl}
use Rattle.std.specs.Coded.{Coded, code_by, coded×, coded_ℕ, coded_list}

-- the chains in the order in which they were added, each with the id and the item of each of its
-- nodes from the first to the last; and how many more items fit without memory
pub record Chains (T : Type 0) : Type 0 where
  pub lists : List (List (ℕ × T))
  pub spare : ℕ

-- it is stored as the pair of its fields
abbrev pub chains_code : {T : Type 0} → Coded T → Coded (Chains T)
chains_code {T} code =
    code_by
    (List (List (ℕ × T)) × ℕ)
    (coded× (coded_list (coded_list (coded× coded_ℕ code))) coded_ℕ)
    (λ s. (s.lists, s.spare))
    (λ p. record { lists = p.0; spare = p.1 })
    (λ _. refl)

module _ {T : Type 0} where
  -- the chain of this number, which is empty past the last
  abbrev pub list_at : List (List (ℕ × T)) → ℕ → List (ℕ × T)
  list_at lists chain = slice_index_or lists chain []

  -- the item of this id in one list
  abbrev pub item_in : List (ℕ × T) → ℕ → Option T
  item_in [] id = None
  item_in (e ∷ es) id = if e.0 == id then Some e.1 else item_in es id

  -- a node of this id is in the list
  abbrev pub Has : List (ℕ × T) → ℕ → Type 0
  Has es id = IsSome (item_in es id)

  -- the id is in use: a node of this id is in some list
  abbrev pub IsInUse : List (List (ℕ × T)) → ℕ → Type 0
  IsInUse lists id = (k : ℕ) × Has (list_at lists k) id

  -- in each list that has a node of this id, it holds the item
  abbrev pub IsItemOf : List (List (ℕ × T)) → ℕ → T → Type 0
  IsItemOf lists id item =
      (k : ℕ) → Has (list_at lists k) id → item_in (list_at lists k) id ≡ Some item

  -- how many nodes are in use
  abbrev pub in_use : List (List (ℕ × T)) → ℕ
  in_use lists = sum_by length lists

  -- the list with one more entry, after the one of the id `after`, or first where that is nothing
  abbrev pub inserted : List (ℕ × T) → Option ℕ → ℕ × T → List (ℕ × T)
  inserted es None entry = entry ∷ es
  inserted [] (Some after) entry = entry ∷ []
  inserted (e ∷ es) (Some after) entry =
      if e.0 == after then e ∷ entry ∷ es else e ∷ inserted es (Some after) entry

  -- the list without the entry of this id
  abbrev pub without : ℕ → List (ℕ × T) → List (ℕ × T)
  without id [] = []
  without id (e ∷ es) = if e.0 == id then without id es else e ∷ without id es

  -- the list with this item in the entry of this id
  abbrev pub with_item : ℕ → T → List (ℕ × T) → List (ℕ × T)
  with_item id item [] = []
  with_item id item (e ∷ es) =
      if e.0 == id then (id, item) ∷ with_item id item es else e ∷ with_item id item es

  -- the id of the first entry
  abbrev pub first_id : List (ℕ × T) → Option ℕ
  first_id [] = None
  first_id (e ∷ es) = Some e.0

  -- the id of the last entry, or `before` where there is none
  abbrev pub last_id : Option ℕ → List (ℕ × T) → Option ℕ
  last_id before [] = before
  last_id before (e ∷ es) = last_id (Some e.0) es

  -- the id of the entry after the one of this id
  abbrev pub next_in : List (ℕ × T) → ℕ → Option ℕ
  next_in [] id = None
  next_in (e ∷ es) id = if e.0 == id then first_id es else next_in es id

  -- the id of the entry before the one of this id, where `before` stands before the list
  abbrev pub before_in : Option ℕ → List (ℕ × T) → ℕ → Option ℕ
  before_in before [] id = None
  before_in before (e ∷ es) id = if e.0 == id then before else before_in (Some e.0) es id

  -- no two entries of the list have one id
  abbrev pub Differ : List (ℕ × T) → Type 0
  Differ [] = Unit {0}
  Differ (e ∷ es) = (item_in es e.0 ≡ None) × Differ es

  -- no id is in use twice: not in two chains, and not twice in one
  pub record IdsDiffer (lists : List (List (ℕ × T))) : Type 0 where
    pub across : (j k id : ℕ) → Has (list_at lists j) id → Has (list_at lists k) id → j ≡ k
    pub within : (k : ℕ) → Differ (list_at lists k)

  -- every other id has in each chain the item that it had there
  abbrev pub KeepsOthers : List (List (ℕ × T)) → List (List (ℕ × T)) → ℕ → Type 0
  KeepsOthers old new id =
      (k other : ℕ) → (other ≡ id → ⊥) → item_in (list_at new k) other ≡ item_in (list_at old k) other
