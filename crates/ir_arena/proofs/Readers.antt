-- What the nodes tell of the lists that they are laid out for.
use Rattle.std.proofs.Common.{◌≡◌, ℕ, ◌<◌, List, [], length, map, get_or, set, Option, Some, None, slice_get, refl, sym, ap, subst, ◌∙◌, inl, inr, arith}
use Rattle.std.proofs.lemmas.Option.{slice_get_within, slice_get_read}
use Rattle.ir_arena.specs.declared.node.Node.{Node}
use Rattle.ir_arena.specs.declared.links.Ends.{Ends}
use Rattle.ir_arena.specs.Chains.{KeepsOthers, inserted, without, Chains, list_at, item_in, Has, IsInUse, IsItemOf, with_item, first_id, last_id, next_in, before_in}
use Rattle.ir_arena.specs.Layout.{node_in, lists_of, IsLaidOut}
use Rattle.std.proofs.lemmas.Bool.{cases_eq, cases_lt}
use Rattle.std.proofs.lemmas.List.{length-map, get_or-map, get_or_past, get_or-set_same, get_or-set_other}
use Rattle.ir_arena.proofs.ListLemmas.{has_item, item_in-without, item_in-inserted}
use Rattle.ir_arena.proofs.Segments
use Rattle.ir_arena.proofs.Layouts.{ends_at, list_within, in_list, item_laid}

module _ {T : Type 0} where
  -- the invariant, at the value that contracts see
  pub laid_at : (ns : List (Node T)) (ends : List Ends) (free : Option ℕ) (spare : ℕ) (s : Chains T) → record { lists = lists_of ns ends; spare = spare } ≡ s → IsLaidOut ns ends free spare (lists_of ns ends) → IsLaidOut ns ends free s.spare s.lists
  laid_at ns ends free spare s e laid = subst (λ (v : Chains T). IsLaidOut ns ends free v.spare v.lists) e laid

  module _ (ns : List (Node T)) (ends : List Ends) (free : Option ℕ) (spare : ℕ) (lists : List (List (ℕ × T))) (laid : IsLaidOut ns ends free spare lists) where
    pub node_within : (id : ℕ) → IsInUse lists id → id < length ns
    node_within id used =
        let v = has_item (list_at lists used.0) id used.1 in
        let c = ends_at ns ends free spare lists used.0 laid (list_within lists used.0 id v.0 v.1) in
        let node = Segments.used_at (node_in ns) used.0 c.0.first None (list_at lists used.0) c.0.last None id v.0 c.2 v.1 in
        slice_get_within ns id _ node.2

    -- a node of a list holds its item and names its neighbours
    pub record Tells (id : ℕ) (n : Node T) (k : ℕ) : Type 0 where
      pub v : T
      pub item : n.item ≡ Some v
      pub entry : item_in (list_at lists k) id ≡ Some v
      pub chain : n.chain ≡ k
      pub before : n.before ≡ before_in None (list_at lists k) id
      pub next : n.next ≡ next_in (list_at lists k) id

    pub tells : (id : ℕ) (n : Node T) (k : ℕ) → slice_get ns id ≡ Some n → Has (list_at lists k) id → Tells id n k
    tells id n k at_id has =
        let v = has_item (list_at lists k) id has in
        let c = ends_at ns ends free spare lists k laid (list_within lists k id v.0 v.1) in
        let of = in_list ns ends c.0 free spare lists k id n v.0 laid c.1 at_id v.1 in
        record {
          v = v.0;
          item = of.2.item;
          entry = v.1;
          chain = of.2.of_chain;
          before = of.2.before;
          next = of.2.next;
        }

    pub holds_item : (id : ℕ) (n : Node T) (item : T) → slice_get ns id ≡ Some n → n.item ≡ Some item → IsItemOf lists id item
    holds_item id n item at_id is k has =
        let t = tells id n k at_id has in
        t.entry ∙ sym t.item ∙ is

    pub chain_at : (k : ℕ) (e : Ends) → k < length lists → e ≡ get_or ends k e → slice_get ends k ≡ Some e
    chain_at k e h is =
        let counted = laid.counted in
        slice_get_read ends (length ends) k e refl (omega arith) is

    pub first_of : (k : ℕ) (e : Ends) → k < length lists → e ≡ get_or ends k e → e.first ≡ first_id (list_at lists k)
    first_of k e h is = Segments.first_is (node_in ns) k e.first None (list_at lists k) e.last (laid.chained k e (chain_at k e h is))

    pub last_of : (k : ℕ) (e : Ends) → k < length lists → e ≡ get_or ends k e → e.last ≡ last_id None (list_at lists k)
    last_of k e h is = Segments.last_is (node_in ns) k e.first None (list_at lists k) e.last None (laid.chained k e (chain_at k e h is))

    pub items_laid : (id : ℕ) (n : Node T) (w : T) → slice_get ns id ≡ Some n → IsInUse lists id → IsLaidOut (set ns id (record n { item = Some w })) ends free spare (map (with_item id w) lists)
    items_laid id n w at_id used =
        let v = has_item (list_at lists used.0) id used.1 in
        item_laid ns ends free spare lists used.0 id n v.0 w laid at_id v.1

  -- other ids keep their items in every chain
  pub keeps_at_removal : (lists : List (List (ℕ × T))) (id : ℕ) → KeepsOthers lists (map (without id) lists) id
  keeps_at_removal lists id k other ne =
      elim (cases_lt k (length lists)) [
        | inl h ↦
            let is : list_at (map (without id) lists) k ≡ without id (list_at lists k) = get_or-map (without id) lists k [] [] h in
            rw is (item_in-without id (list_at lists k) other ne)
        | inr past ↦
            let long = length-map lists (without id) in
            let none : list_at lists k ≡ [] = get_or_past lists k [] past in
            let none' : list_at (map (without id) lists) k ≡ [] = get_or_past (map (without id) lists) k [] (omega arith) in
            rw (none, none') refl
      ]

  pub keeps_at_insertion : (lists : List (List (ℕ × T))) (chain : ℕ) (after : Option ℕ) (id : ℕ) (v : T) → chain < length lists → KeepsOthers lists (set lists chain (inserted (list_at lists chain) after (id, v))) id
  keeps_at_insertion lists chain after id v h k other ne =
      elim (cases_eq k chain) [
        | inl same ↦
            let is : list_at (set lists chain (inserted (list_at lists chain) after (id, v))) k ≡ inserted (list_at lists chain) after (id, v) = ap (λ (i : ℕ). list_at (set lists chain (inserted (list_at lists chain) after (id, v))) i) same ∙ get_or-set_same lists chain (inserted (list_at lists chain) after (id, v)) [] h in
            rw is (item_in-inserted (list_at lists chain) after (id, v) other ne ∙ ap (λ (i : ℕ). item_in (list_at lists i) other) (sym same))
        | inr apart ↦
            let is : list_at (set lists chain (inserted (list_at lists chain) after (id, v))) k ≡ list_at lists k = get_or-set_other lists chain k (inserted (list_at lists chain) after (id, v)) [] apart in
            rw is refl
      ]
