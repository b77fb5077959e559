-- Search trees and the lists that they stand for.
use Rattle.std.proofs.Common.{◌≡◌, ℕ, zero, suc, ◌+◌, ◌-◌, ◌/◌, ◌<◌, ◌≤◌, true, false, List, [], ◌∷◌, ◌++◌, length, get_or, take, drop, refl, sym, ap, ◌∙◌, arith, length-append, append-nil}
use Rattle.std.specs.Prelude.{All, nat_le, if◌then◌else◌}
use Rattle.std.proofs.lemmas.Bool.Decides.{nat_tests}
use Rattle.std.proofs.lemmas.List.Elements.{All-cons}
use Rattle.std.proofs.lemmas.List.{drop_more, length-drop, length-take-le, take-append-drop, take_all}
use Rattle.a64_emit.specs.Trees.{Leaf, Node, Tree, node_at, node_count, tree, tree_of}

-- ---- what holds of each item of a list

abbrev pub Each : {X : Type 0} → (X → Type 0) → List X → Type 0
Each P [] = Unit {0}
Each P (x ∷ xs) = P x × Each P xs

pub each_append : {X : Type 0} (P : X → Type 0) (xs ys : List X) → Each P xs → Each P ys → Each P (xs ++ ys)
each_append P [] ys first rest = rest
each_append P (x ∷ xs) ys first rest = (first.0, each_append P xs ys first.1 rest)

pub each_left : {X : Type 0} (P : X → Type 0) (xs ys : List X) → Each P (xs ++ ys) → Each P xs
each_left P [] ys both = tt
each_left P (x ∷ xs) ys both = (both.0, each_left P xs ys both.1)

pub each_right : {X : Type 0} (P : X → Type 0) (xs ys : List X) → Each P (xs ++ ys) → Each P ys
each_right P [] ys both = both
each_right P (x ∷ xs) ys both = each_right P xs ys both.1

pub each_weaker : {X : Type 0} (P Q : X → Type 0) → ((x : X) → P x → Q x) → (xs : List X) → Each P xs → Each Q xs
each_weaker P Q weaker [] each = tt
each_weaker P Q weaker (x ∷ xs) each = (weaker x each.0, each_weaker P Q weaker xs each.1)

pub each_all : {X : Type 0} (P : X → Type 0) (xs : List X) → All P xs → Each P xs
each_all P [] all = tt
each_all P (x ∷ xs) all = (all 0 x (omega arith), each_all P xs (λ k d lt. all (suc k) d (omega arith)))

pub all_each : {X : Type 0} (P : X → Type 0) (xs : List X) → Each P xs → All P xs
all_each P [] each = λ k d lt. absurd (omega arith)
all_each P (x ∷ xs) each = All-cons P x xs each.0 (all_each P xs each.1)

-- ---- the items of a tree

unfoldable pub in_order : {X : Type 0} → Tree X → List X
in_order (Leaf items) = items
in_order (Node before item behind) = in_order before ++ item ∷ in_order behind

module _ {X : Type 0} where
  node_order : (grow : List X → Tree X) → ((xs : List X) → in_order (grow xs) ≡ xs) → (before behind : List X)
      → in_order (node_at grow before behind) ≡ before ++ behind
  unfolding in_order
  node_order grow same before [] = sym (append-nil before)
  node_order grow same before (item ∷ behind) = rw (same before, same behind) refl

  order_of : (n : ℕ) (xs : List X) → in_order (tree_of n xs) ≡ xs
  unfolding tree_of in_order
  order_of zero xs = refl
  order_of (suc n) xs =
      let half : ℕ = length xs / 2 in
      elim (nat_le (length xs) 3) as (λ b. in_order (if b then Leaf xs else node_at (tree_of n) (take half xs) (drop half xs)) ≡ xs) [
        | true ↦ refl
        | false ↦ node_order (tree_of n) (order_of n) (take half xs) (drop half xs) ∙ take-append-drop half xs
      ]

  -- a tree has the items of its list, in order
  pub tree_order : (xs : List X) → in_order (tree xs) ≡ xs
  tree_order xs = order_of (length xs) xs

  -- ---- how a tree grows

  node_same : (grow other : List X → Tree X) (before behind : List X) → grow before ≡ other before
      → ((item : X) (rest : List X) → behind ≡ item ∷ rest → grow rest ≡ other rest) → node_at grow before behind ≡ node_at other before behind
  node_same grow other before [] first rest = refl
  node_same grow other before (item ∷ behind) first rest = rw (first, rest item behind refl) refl

  more_than : (xs : List X) (n : ℕ) → nat_le (length xs) n ≡ false → n < length xs
  more_than xs n e = grind (arith, nat_tests)

  rest_length : (xs : List X) (half : ℕ) (item : X) (rest : List X) → drop half xs ≡ item ∷ rest → suc (length rest) ≡ length xs - half
  rest_length xs half item rest parts = sym (ap (λ (ys : List X). length ys) parts) ∙ length-drop half xs

  -- how deep a tree may be is no matter where it is deep enough
  tree_same : (m n : ℕ) (xs : List X) → length xs ≤ m → length xs ≤ n → tree_of m xs ≡ tree_of n xs
  unfolding tree_of
  tree_same zero zero xs le_m le_n = refl
  tree_same zero (suc n) [] le_m le_n = refl
  tree_same zero (suc n) (x ∷ xs) le_m le_n = absurd (omega arith)
  tree_same (suc m) zero [] le_m le_n = refl
  tree_same (suc m) zero (x ∷ xs) le_m le_n = absurd (omega arith)
  tree_same (suc m) (suc n) xs le_m le_n =
      let half : ℕ = length xs / 2 in
      elim (nat_le (length xs) 3) as (λ b. nat_le (length xs) 3 ≡ b → (if b then Leaf xs else node_at (tree_of m) (take half xs) (drop half xs))
      ≡ (if b then Leaf xs else node_at (tree_of n) (take half xs) (drop half xs))) [
        | true ↦ λ e. refl
        | false ↦ λ e.
            let more = more_than xs 3 e in
            let few = length-take-le half xs (omega arith) in
            node_same (tree_of m) (tree_of n) (take half xs) (drop half xs)
            (tree_same m n (take half xs) (omega arith) (omega arith))
            (λ item rest parts. let count = rest_length xs half item rest parts in tree_same m n rest (omega arith) (omega arith))
      ] refl

  few_are : (xs : List X) (n : ℕ) → length xs ≤ n → nat_le (length xs) n ≡ true
  few_are xs n le = grind (arith, nat_tests)

  more_are : (xs : List X) (n : ℕ) → n < length xs → nat_le (length xs) n ≡ false
  more_are xs n lt = grind (arith, nat_tests)

  leaf_of : (n : ℕ) (xs : List X) → length xs ≤ 3 → tree_of n xs ≡ Leaf xs
  unfolding tree_of
  leaf_of zero xs le = refl
  leaf_of (suc n) xs le = rw (few_are xs 3 le) refl

  -- a few items are a leaf
  pub tree_few : (xs : List X) → length xs ≤ 3 → tree xs ≡ Leaf xs
  tree_few xs le = leaf_of (length xs) xs le

  node_of : (n : ℕ) (xs : List X) (item : X) (behind : List X) → 3 < length xs → length xs ≤ suc n → drop (length xs / 2) xs ≡ item ∷ behind
      → tree_of (suc n) xs ≡ Node (tree (take (length xs / 2) xs)) item (tree behind)
  unfolding tree_of
  node_of n xs item behind more le parts =
      let half : ℕ = length xs / 2 in
      let few = length-take-le half xs (omega arith) in
      let count = rest_length xs half item behind parts in
      rw (more_are xs 3 more, parts)
      (ap (λ (t : Tree X). Node t item (tree_of n behind)) (tree_same n (length (take half xs)) (take half xs) (omega arith) (omega arith))
      ∙ ap (λ (t : Tree X). Node (tree (take half xs)) item t) (tree_same n (length behind) behind (omega arith) (omega arith)))

  one_less : (xs : List X) → 3 < length xs → suc (length xs - 1) ≡ length xs
  one_less xs lt = omega arith

  -- and more are a node
  pub tree_more : (xs : List X) (item : X) (behind : List X) → 3 < length xs → drop (length xs / 2) xs ≡ item ∷ behind
      → tree xs ≡ Node (tree (take (length xs / 2) xs)) item (tree behind)
  tree_more xs item behind more parts =
      ap (λ n. tree_of n xs) (sym (one_less xs more)) ∙ node_of (length xs - 1) xs item behind more (omega arith) parts

  -- a list from its middle on
  pub from_half : (xs : List X) (d : X) → 3 < length xs → drop (length xs / 2) xs ≡ get_or xs (length xs / 2) d ∷ drop (length xs / 2 + 1) xs
  from_half xs d more = drop_more xs (length xs / 2) d (omega arith)

  -- the part of a list that stands behind its middle
  pub rest_is : (xs : List X) → take (length xs - (length xs / 2 + 1)) (drop (length xs / 2 + 1) xs) ≡ drop (length xs / 2 + 1) xs
  rest_is xs =
      let count = length-drop (length xs / 2 + 1) xs in
      take_all (length xs - (length xs / 2 + 1)) (drop (length xs / 2 + 1) xs) (omega arith)

  -- ---- how many nodes a tree has

  pub count_few : (xs : List X) → length xs ≤ 3 → node_count (tree xs) ≡ 0
  unfolding node_count
  count_few xs le = ap (λ (t : Tree X). node_count t) (tree_few xs le)

  pub count_more : (xs : List X) (d : X) → 3 < length xs
      → node_count (tree xs) ≡ node_count (tree (take (length xs / 2) xs)) + 1 + node_count (tree (drop (length xs / 2 + 1) xs))
  unfolding node_count
  count_more xs d more =
      ap (λ (t : Tree X). node_count t) (tree_more xs (get_or xs (length xs / 2) d) (drop (length xs / 2 + 1) xs) more (from_half xs d more))

  pub nodes_few : (t : Tree X) → node_count t ≤ length (in_order t)
  unfolding node_count in_order
  nodes_few (Leaf items) = omega arith
  nodes_few (Node before item behind) =
      let first = nodes_few before in
      let rest = nodes_few behind in
      let both = length-append (in_order before) (item ∷ in_order behind) in
      omega arith

-- as many as that of another list of the length
module _ {X Y : Type 0} where
  counts_at : (grow : List X → Tree X) (other : List Y → Tree Y) (before behind : List X) (first rest : List Y) → length before ≡ length first
      → length behind ≡ length rest
      → ((xs : List X) (ys : List Y) → length xs ≡ length ys → node_count (grow xs) ≡ node_count (other ys))
      → node_count (node_at grow before behind) ≡ node_count (node_at other first rest)
  unfolding node_count
  counts_at grow other before [] first [] same_first same_rest same = refl
  counts_at grow other before (x ∷ behind) first [] same_first same_rest same = absurd (omega arith)
  counts_at grow other before [] first (y ∷ rest) same_first same_rest same = absurd (omega arith)
  counts_at grow other before (x ∷ behind) first (y ∷ rest) same_first same_rest same =
      rw (same before first same_first, same behind rest (omega arith)) refl

  counts_of : (n : ℕ) (xs : List X) (ys : List Y) → length xs ≡ length ys → node_count (tree_of n xs) ≡ node_count (tree_of n ys)
  unfolding tree_of node_count
  counts_of zero xs ys same = refl
  counts_of (suc n) xs ys same =
      let half : ℕ = length xs / 2 in
      let halves : length ys / 2 ≡ half = ap (λ n. n / 2) (sym same) in
      let few_xs = length-take-le half xs (omega arith) in
      let few_ys = length-take-le half ys (omega arith) in
      let more_xs = length-drop half xs in
      let more_ys = length-drop half ys in
      rw (sym same)
      (elim (nat_le (length xs) 3) as (λ b. node_count (if b then Leaf xs else node_at (tree_of n) (take half xs) (drop half xs))
      ≡ node_count (if b then Leaf ys else node_at (tree_of n) (take half ys) (drop half ys))) [
        | true ↦ refl
        | false ↦ counts_at (tree_of n) (tree_of n) (take half xs) (drop half xs) (take half ys) (drop half ys) (omega arith) (omega arith) (counts_of n)
      ])

  pub nodes_alike : (xs : List X) (ys : List Y) → length xs ≡ length ys → node_count (tree xs) ≡ node_count (tree ys)
  nodes_alike xs ys same = counts_of (length xs) xs ys same ∙ ap (λ n. node_count (tree_of n ys)) same
