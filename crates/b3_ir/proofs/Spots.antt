-- Where a node of a procedure stands in the chains.
use Rattle.std.proofs.Common.{◌≡◌, ℕ, zero, suc, ◌+◌, ◌<◌, ◌≤◌, List, [], ◌∷◌, length, map, Option, Some, None, slice_get, slice_index_or, refl, sym, ap, ◌∙◌, inl, inr, arith, add-one, ◌^◌, sum_by, subst, drop, IfSome}
use Rattle.std.proofs.lemmas.List.{get_or_past, length-map}
use Rattle.std.proofs.lemmas.Option.{slice_get_within, get_or_from_slice_get}
use Rattle.std.proofs.lemmas.List.Sums.{get_or-le-sum_by}
use Rattle.std.proofs.lemmas.Bool.{cases_lt}
use Rattle.std.proofs.Math.ListN.{get_or-eq_default}
use Rattle.b3_base.proofs.Lists.{index_map}
use Rattle.ir_arena.specs.Chains.{list_at, Has, IdsDiffer, IsItemOf, next_in, first_id, in_use}
use Rattle.b3_ir.specs.declared.value.Value.{Value}
use Rattle.b3_ir.specs.declared.procedure.Heading.{Heading}
use Rattle.b3_ir.specs.Procedure.{AllFit, Block, no_block, Kept, Procedure, IsAt, IsWhole, total, place_of, values_from, nodes_of, values_of, StandsAt}
use Rattle.b3_ir.specs.Layout.{block_of, ids_of, IsKept}
use Rattle.b3_ir.proofs.Entries.{ids, items, known, item_at, next_at, one_place, place_is, items_from, from_is, first_at}

pub mapped_past : {A B : Type 0} (f : A → B) (xs : List A) (i : ℕ) (d : B) → slice_get xs i ≡ None → slice_index_or (map f xs) i d ≡ d
mapped_past f [] i d h = refl
mapped_past f (y ∷ xs) zero d h = absurd (cc)
mapped_past f (y ∷ xs) (suc i) d h = mapped_past f xs i d h

head_of : {A : Type 0} (xs : List A) (k : ℕ) → slice_get (drop k xs) 0 ≡ slice_get xs k
head_of [] zero = refl
head_of [] (suc k) = refl
head_of (x ∷ xs) zero = refl
head_of (x ∷ xs) (suc k) = head_of xs k

pub rest_of : {A : Type 0} (xs : List A) (k : ℕ) → drop (suc k) xs ≡ drop 1 (drop k xs)
rest_of [] zero = refl
rest_of [] (suc k) = refl
rest_of (x ∷ xs) zero = refl
rest_of (x ∷ xs) (suc k) = rest_of xs k

-- a node that was found stands there
pub some_at : (ns : List ℕ) (k : ℕ) (o : Option ℕ) → o ≡ slice_get ns k → IfSome o (λ node. (place : ℕ) × (slice_get ns place ≡ Some node))
some_at ns k None h = tt
some_at ns k (Some n) h = (k, sym h)

-- the block of a node, and the node's place in its chain
pub record Spot (lists : List (List (ℕ × Value))) (blocks : List Heading) (block place id : ℕ) : Type 0 where
  pub b : Heading
  pub there : slice_get blocks block ≡ Some b
  pub here : slice_get (ids (list_at lists b.chain)) place ≡ Some id

module _ (lists : List (List (ℕ × Value))) (blocks : List Heading) where
  pub spot : (nodes : List (List ℕ)) (block place id : ℕ) → map (ids_of lists) blocks ≡ nodes → slice_get (slice_index_or nodes block []) place ≡ Some id → Spot lists blocks block place id
  spot nodes block place id e h = by_case (slice_get blocks block) refl
    where
      seen : slice_get (slice_index_or (map (ids_of lists) blocks) block []) place ≡ Some id
      seen = rw e h

      by_case : (o : Option Heading) → slice_get blocks block ≡ o → Spot lists blocks block place id
      by_case None is = let none : slice_get (slice_index_or (map (ids_of lists) blocks) block []) place ≡ None = rw (mapped_past (ids_of lists) blocks block [] is) in absurd (cc)
      by_case (Some b) is = record {
        b = b;
        there = is;
        here = rw (index_map (ids_of lists) blocks block b [] is) at seen;
      }

  -- what stands from a place on
  from_block : (block : ℕ) (b : Heading) → slice_get blocks block ≡ Some b → (nodes : List (List ℕ)) (sections : List Block) → map (ids_of lists) blocks ≡ nodes → map (block_of lists) blocks ≡ sections → IdsDiffer lists → (k : ℕ) → items_from (slice_index_or nodes block []) (slice_index_or sections block no_block).values (slice_get (slice_index_or nodes block []) k) ≡ drop k (slice_index_or sections block no_block).values
  from_block block b there nodes sections e f differ k =
      let ns : slice_index_or nodes block [] ≡ ids (list_at lists b.chain) = rw (← e) (index_map (ids_of lists) blocks block b [] there) in
      let vs : (slice_index_or sections block no_block).values ≡ items (list_at lists b.chain) = sym (ap (λ (ss : List Block). (slice_index_or ss block no_block).values) f) ∙ ap (λ (t : Block). t.values) (index_map (block_of lists) blocks block b no_block there) in
      ap (λ (l : List ℕ). items_from l (slice_index_or sections block no_block).values (slice_get l k)) ns
      ∙ ap (λ (l : List Value). items_from (ids (list_at lists b.chain)) l (slice_get (ids (list_at lists b.chain)) k)) vs
      ∙ from_is (list_at lists b.chain) k (differ.within b.chain)
      ∙ ap (λ (l : List Value). drop k l) (sym vs)

  ends : (p : Kept) (block : ℕ) (o : Option ℕ) → values_from p block o ≡ items_from (nodes_of p block) (values_of p.procedure block) o
  ends p block None = refl
  ends p block (Some n) = refl

  -- the first of a block
  pub first_block : (block : ℕ) (b : Heading) → slice_get blocks block ≡ Some b → (p : Kept) (first : Option ℕ) → map (ids_of lists) blocks ≡ p.nodes → map (block_of lists) blocks ≡ p.procedure.blocks → IdsDiffer lists → first ≡ first_id (list_at lists b.chain) → (first ≡ slice_get (nodes_of p block) 0) × (values_from p block first ≡ values_of p.procedure block)
  first_block block b there p first e f differ is =
      let ns : slice_index_or p.nodes block [] ≡ ids (list_at lists b.chain) = rw (← e) (index_map (ids_of lists) blocks block b [] there) in
      let at : first ≡ slice_get (nodes_of p block) 0 = is ∙ first_at (list_at lists b.chain) ∙ ap (λ (l : List ℕ). slice_get l 0) (sym ns) in
      (at, ends p block first ∙ ap (λ (o : Option ℕ). items_from (nodes_of p block) (values_of p.procedure block) o) at ∙ from_block block b there p.nodes p.procedure.blocks e f differ 0)

  module _ (block place id : ℕ) (s : Spot lists blocks block place id) where
    pub has_spot : Has (list_at lists s.b.chain) id
    has_spot = let k = known (list_at lists s.b.chain) place id s.here in rw k.1

    -- it is one of the blocks, and the place one of its values
    pub within_spot : (p : Procedure) → map (block_of lists) blocks ≡ p.blocks → (block < length p.blocks) × (place < length (values_of p block))
    within_spot p e =
        let outer = slice_get_within blocks block s.b s.there in
        let size = length-map blocks (block_of lists) in
        let same = ap length e in
        let inner = slice_get_within (ids (list_at lists s.b.chain)) place id s.here in
        let values : length (values_of p block) ≡ length (items (list_at lists s.b.chain)) =
        rw (← e) (ap (λ (t : Block). length t.values) (index_map (block_of lists) blocks block s.b no_block s.there)) in
        let chain = length-map (list_at lists s.b.chain) (λ (e : ℕ × Value). e.0) in
        let chain' = length-map (list_at lists s.b.chain) (λ (e : ℕ × Value). e.1) in
        (omega (arith, outer, size, same), omega (arith, inner, values, chain, chain'))

    pub next_spot : (nodes : List (List ℕ)) → map (ids_of lists) blocks ≡ nodes → IdsDiffer lists → next_in (list_at lists s.b.chain) id ≡ slice_get (slice_index_or nodes block []) (place + 1)
    next_spot nodes e differ =
        rw (← e, index_map (ids_of lists) blocks block s.b [] s.there, add-one) (next_at (list_at lists s.b.chain) place id (differ.within s.b.chain) s.here)

    pub place_spot : (nodes : List (List ℕ)) (at : Option ℕ) → map (ids_of lists) blocks ≡ nodes → IdsDiffer lists → at ≡ slice_get (slice_index_or nodes block []) (place + 1) → place_of (slice_index_or nodes block []) at ≡ place + 1
    place_spot nodes at e differ is =
        let whole : slice_index_or nodes block [] ≡ ids (list_at lists s.b.chain) = rw (← e) (index_map (ids_of lists) blocks block s.b [] s.there) in
        let within = slice_get_within (ids (list_at lists s.b.chain)) place id s.here in
        rw (is, whole) (place_is (list_at lists s.b.chain) (place + 1) (differ.within s.b.chain) (omega (arith, within)))

    pub head_spot : (p : Kept) (v : Value) → map (ids_of lists) blocks ≡ p.nodes → map (block_of lists) blocks ≡ p.procedure.blocks → IdsDiffer lists → slice_get (nodes_of p block) place ≡ Some id → slice_get (values_of p.procedure block) place ≡ Some v → slice_get (values_from p block (Some id)) 0 ≡ Some v
    head_spot p v e f differ at h =
        let whole : values_from p block (Some id) ≡ drop place (values_of p.procedure block) = ap (λ (o : Option ℕ). items_from (nodes_of p block) (values_of p.procedure block) o) (sym at) ∙ from_block block s.b s.there p.nodes p.procedure.blocks e f differ place in
        ap (λ (l : List Value). slice_get l 0) whole ∙ head_of (values_of p.procedure block) place ∙ h

    pub rest_spot : (p : Kept) (next : Option ℕ) → map (ids_of lists) blocks ≡ p.nodes → map (block_of lists) blocks ≡ p.procedure.blocks → IdsDiffer lists → slice_get (nodes_of p block) place ≡ Some id → next ≡ slice_get (nodes_of p block) (place + 1) → values_from p block next ≡ drop 1 (values_from p block (Some id))
    rest_spot p next e f differ at is =
        let next_is : next ≡ slice_get (nodes_of p block) (suc place) = rw is (rw add-one refl) in
        let now : values_from p block (Some id) ≡ drop place (values_of p.procedure block) = ap (λ (o : Option ℕ). items_from (nodes_of p block) (values_of p.procedure block) o) (sym at) ∙ from_block block s.b s.there p.nodes p.procedure.blocks e f differ place in
        let after : values_from p block next ≡ drop (suc place) (values_of p.procedure block) = ends p block next ∙ ap (λ (o : Option ℕ). items_from (nodes_of p block) (values_of p.procedure block) o) next_is ∙ from_block block s.b s.there p.nodes p.procedure.blocks e f differ (suc place) in
        after ∙ rest_of (values_of p.procedure block) place ∙ ap (λ (l : List Value). drop 1 l) (sym now)

    pub value_spot : (sections : List Block) (v : Value) → map (block_of lists) blocks ≡ sections → IdsDiffer lists → IsItemOf lists id v → slice_get (slice_index_or sections block no_block).values place ≡ Some v
    value_spot sections v e differ is =
        rw (← e, index_map (block_of lists) blocks block s.b no_block s.there) (sym (item_at (list_at lists s.b.chain) place id (differ.within s.b.chain) s.here) ∙ is s.b.chain has_spot)

-- what an index reads is what stands there
pub read : {A : Type 0} (xs : List A) (i : ℕ) (x y : A) → slice_get xs i ≡ Some x → y ≡ slice_index_or xs i y → y ≡ x
read xs i x y h is = is ∙ get_or_from_slice_get xs i x y h

-- a procedure that is kept so is whole
module _ (lists : List (List (ℕ × Value))) (blocks : List Heading) (kept : IsKept lists blocks) (p : Kept) (sections : map (block_of lists) blocks ≡ p.procedure.blocks) (nodes : map (ids_of lists) blocks ≡ p.nodes) (differ : IdsDiffer lists) (few : in_use lists + p.spare ≤ 2 ^ 32) (short : length blocks < 2 ^ 32) (few_slots : length p.procedure.slots < 2 ^ 32) (fit : AllFit (map (block_of lists) blocks)) where
  even : (block : ℕ) → length (nodes_of p block) ≡ length (values_of p.procedure block)
  even block = by_case (slice_get blocks block) refl
    where
      by_case : (o : Option Heading) → slice_get blocks block ≡ o → length (nodes_of p block) ≡ length (values_of p.procedure block)
      by_case None is =
          let n : nodes_of p block ≡ [] = rw (← nodes) (mapped_past (ids_of lists) blocks block [] is) in
          let v : slice_index_or p.procedure.blocks block no_block ≡ no_block = rw (← sections) (mapped_past (block_of lists) blocks block no_block is) in
          ap length n ∙ sym (ap (λ (s : Block). length s.values) v)
      by_case (Some b) is =
          let n : nodes_of p block ≡ ids_of lists b = rw (← nodes) (index_map (ids_of lists) blocks block b [] is) in
          let v : slice_index_or p.procedure.blocks block no_block ≡ block_of lists b = rw (← sections) (index_map (block_of lists) blocks block b no_block is) in
          ap length n ∙ length-map (list_at lists b.chain) (λ (e : ℕ × Value). e.0) ∙ sym (length-map (list_at lists b.chain) (λ (e : ℕ × Value). e.1)) ∙ sym (ap (λ (s : Block). length s.values) v)

  apart : (b c j k node : ℕ) → IsAt p node b j → IsAt p node c k → (b ≡ c) × (j ≡ k)
  apart b c j k node h i =
      let s = spot lists blocks p.nodes b j node nodes h in
      let t = spot lists blocks p.nodes c k node nodes i in
      let chains = differ.across s.b.chain t.b.chain node (has_spot lists blocks b j node s) (has_spot lists blocks c k node t) in
      let there : slice_get (ids (list_at lists t.b.chain)) j ≡ Some node = subst (λ (chain : ℕ). slice_get (ids (list_at lists chain)) j ≡ Some node) chains s.here in
      (kept.apart b c s.b t.b s.there t.there chains, one_place (list_at lists t.b.chain) j k node (differ.within t.b.chain) there t.here)

  places : (block k : ℕ) → k ≤ length (nodes_of p block) → place_of (nodes_of p block) (slice_get (nodes_of p block) k) ≡ k
  places block k le = by_case (slice_get blocks block) refl
    where
      by_case : (o : Option Heading) → slice_get blocks block ≡ o → place_of (nodes_of p block) (slice_get (nodes_of p block) k) ≡ k
      by_case None is =
          let n : nodes_of p block ≡ [] = rw (← nodes) (mapped_past (ids_of lists) blocks block [] is) in
          let none : k ≡ 0 = let size = ap length n in omega arith in
          rw (n, none) refl
      by_case (Some b) is =
          let n : nodes_of p block ≡ ids (list_at lists b.chain) = rw (← nodes) (index_map (ids_of lists) blocks block b [] is) in
          let le' : k ≤ length (ids (list_at lists b.chain)) = rw n at le in
          rw n (place_is (list_at lists b.chain) k (differ.within b.chain) le')

  few_in : (block : ℕ) → length (values_of p.procedure block) ≤ 2 ^ 32
  few_in block =
      elim (cases_lt block (length p.procedure.blocks)) [
        | inl h ↦
            let least = get_or-le-sum_by (λ (s : Block). length s.values) p.procedure.blocks block no_block h in
            let all : in_use lists ≡ sum_by (λ (s : Block). length s.values) p.procedure.blocks = rw (← sections) kept.counted in
            omega (arith, least, all)
        | inr h ↦
            let v : slice_index_or p.procedure.blocks block no_block ≡ no_block = get_or_past p.procedure.blocks block no_block h in
            let none : length (values_of p.procedure block) ≡ 0 = ap (λ (s : Block). length s.values) v in
            omega arith
      ]

  few_blocks : length p.procedure.blocks < 2 ^ 32
  few_blocks = let size = length-map blocks (block_of lists) in let same = ap length sections in omega (arith, size, same, short)

  counted : total p.procedure + p.spare ≤ 2 ^ 32
  counted = let same = kept.counted ∙ ap (sum_by (λ (s : Block). length s.values)) sections in omega (arith, same, few)

  pub whole : IsWhole p
  whole = record { as_many = ap length (sym nodes) ∙ length-map blocks (ids_of lists) ∙ sym (length-map blocks (block_of lists)) ∙ ap length sections; even = even; differ = apart; places = places; few = few_in; counted = counted; few_blocks = few_blocks; few_slots = few_slots; fit = subst AllFit sections fit }

-- a value's block is one of the procedure
pub in_blocks : (p : Procedure) (b j : ℕ) (v : Value) → StandsAt p b j v → b < length p.blocks
in_blocks p b j v there =
    elim (cases_lt b (length p.blocks)) [
      | inl less ↦ less
      | inr past ↦
          let none : values_of p b ≡ [] = ap (λ (x : Block). x.values) (get_or-eq_default p.blocks no_block past) in
          absurd (let e : slice_get [] j ≡ Some v = subst (λ (vs : List Value). slice_get vs j ≡ Some v) none there in cc)
    ]
