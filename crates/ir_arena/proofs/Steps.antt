-- The changes of a `Chains`, as its functions make them, over plain variables.
use Rattle.std.proofs.Common.{◌≡◌, ℕ, zero, suc, ◌+◌, ◌-◌, ◌<◌, ◌≤◌, ◌^◌, List, [], ◌∷◌, ◌++◌, length, map, get_or, set, Option, Some, None, IsSome, option_map, slice_get, sym, ap, subst, ◌∙◌, arith, length-set, length-append}
use Rattle.std.proofs.lemmas.List.{get_or_default}
use Rattle.std.proofs.lemmas.Option.{slice_get_within}
use Rattle.ir_arena.specs.declared.node.Node.{Node}
use Rattle.ir_arena.specs.declared.links.Ends.{Ends}
use Rattle.ir_arena.specs.Chains.{list_at, item_in, Has, IsInUse, inserted, without, last_id}
use Rattle.ir_arena.specs.Layout.{used, vacant, IsSegment, IsFree, node_in, IsLaidOut, relinked, relinked_ends, old_unless_none, IsAfter, free_head, free_nodes}
use Rattle.ir_arena.proofs.Free.{length-free_nodes}
use Rattle.ir_arena.proofs.ListLemmas.{has_item, gap_at}
use Rattle.ir_arena.proofs.Segments
use Rattle.ir_arena.proofs.Layouts.{insert_laid, remove_laid, grow_laid, in_list, ends_at, list_within}
use Rattle.ir_arena.proofs.Readers.{chain_at, tells}

-- two reads of one chain's ends
pub same_ends : (ends : List Ends) (k : ℕ) (a b : Ends) → k < length ends → a ≡ get_or ends k a → b ≡ get_or ends k b → a ≡ b
same_ends ends k a b h is_a is_b = is_a ∙ get_or_default ends k a b h ∙ sym is_b

module _ {T : Type 0} where
  -- the nodes on both sides of a place are there
  pub first_within : (ns : List (Node T)) (k : ℕ) (x p : Option ℕ) (es : List (ℕ × T)) (l : Option ℕ) (id : ℕ) → IsSegment (node_in ns) k x p es l None → x ≡ Some id → id < length ns
  first_within ns k x p [] l id s is = let none = s.0 in let clash : None ≡ Some id = sym none ∙ is in absurd (cc)
  first_within ns k x p (e ∷ es) l id s is =
      let one : Some e.0 ≡ Some id = sym s.1 ∙ is in
      let same : e.0 ≡ id = cc in
      slice_get_within ns id (used k p s.0 e.1) (subst (λ (i : ℕ). slice_get ns i ≡ Some (used k p s.0 e.1)) same s.2)

  pub last_within : (ns : List (Node T)) (k : ℕ) (f : Option ℕ) (es : List (ℕ × T)) (q m : Option ℕ) (id : ℕ) → IsSegment (node_in ns) k f None es q m → q ≡ Some id → id < length ns
  last_within ns k f [] q m id s is = let none = s.1 in let clash : None ≡ Some id = sym none ∙ is in absurd (cc)
  last_within ns k f (e ∷ es) q m id s is =
      let node = Segments.last_points (node_in ns) k f None e es q m id s is in
      slice_get_within ns id (used k node.0 m node.1) node.2

  module _ (ns : List (Node T)) (ends : List Ends) (free : Option ℕ) (s : ℕ) (lists : List (List (ℕ × T))) (laid : IsLaidOut ns ends free s lists) where
    pub after_within : (k : ℕ) (e : Ends) (after x : Option ℕ) → k < length lists → e ≡ get_or ends k e → ((a : ℕ) → after ≡ Some a → IsSome (item_in (list_at lists k) a)) → IsAfter (node_in ns) e.first after x → (id : ℕ) → x ≡ Some id → id < length ns
    after_within k e after x h is has is_after id names =
        let seg = laid.chained k e (chain_at ns ends free s lists laid k e h is) in
        let gap = gap_at (list_at lists k) after has in
        let whole : IsSegment (node_in ns) k e.first None (gap.0 ++ gap.1) e.last None = subst (λ (l : List (ℕ × T)). IsSegment (node_in ns) k e.first None l e.last None) gap.2.whole seg in
        let both = Segments.parts (node_in ns) k e.first None gap.0 gap.1 e.last None whole in
        let first : IsSegment (node_in ns) k e.first None gap.0 after both.0 = subst (λ (q : Option ℕ). IsSegment (node_in ns) k e.first None gap.0 q both.0) (sym gap.2.before) both.1 in
        let is_x : both.0 ≡ x = sym (Segments.after_is (node_in ns) k e.first gap.0 after both.0 x first is_after) in
        first_within ns k both.0 (last_id None gap.0) gap.1 e.last id both.2 (is_x ∙ names)

    pub free_within : (new : ℕ) → 0 < s → free ≡ Some new → new < length ns
    free_within new room is = by_count s laid.freed room
      where
        by_count : (n : ℕ) → IsFree (node_in ns) n free → 0 < n → new < length ns
        by_count zero f h = absurd (omega arith)
        by_count (suc n) f h =
            let one : Some f.0 ≡ Some new = sym f.2 ∙ is in
            let same : f.0 ≡ new = cc in
            slice_get_within ns new f.1 (subst (λ (i : ℕ). slice_get ns i ≡ Some f.1) same f.3)

    pub insert_step : (mid ns' : List (Node T)) (e0 e1 e' : Ends) (old : Node T) (k : ℕ) (after x : Option ℕ) (new : ℕ) (v : T) → 0 < s → k < length lists → ((a : ℕ) → after ≡ Some a → IsSome (item_in (list_at lists k) a)) → free ≡ Some new → e0 ≡ get_or ends k e0 → e1 ≡ get_or ends k e1 → slice_get ns new ≡ Some old → mid ≡ set ns new (used k after x v) → IsAfter (node_in ns) e0.first after x → ((i : ℕ) → slice_get ns' i ≡ option_map (relinked after x (Some new) (Some new) i) (slice_get mid i)) → length ns' ≡ length mid → e'.first ≡ old_unless_none after (Some new) e1.first → e'.last ≡ old_unless_none x (Some new) e1.last → IsLaidOut ns' (set ends k e') old.next (s - 1) (set lists k (inserted (list_at lists k) after (new, v))) × ((j : ℕ) → Has (list_at lists j) new → ⊥)
    insert_step mid ns' e0 e1 e' old k after x new v room h has is_free is_e0 is_e1 was put is_after nodes len first last =
        let counted = laid.counted in
        let same = same_ends ends k e0 e1 (omega arith) is_e0 is_e1 in
        let is_after' : IsAfter (node_in ns) e1.first after x = subst (λ (e : Ends). IsAfter (node_in ns) e.first after x) same is_after in
        let ends_are : relinked_ends after x (Some new) (Some new) e1 ≡ e' = ap (λ (f : Option ℕ). record { first = f; last = old_unless_none x (Some new) e1.last }) (sym first) ∙ ap (λ (l : Option ℕ). record { first = e'.first; last = l }) (sym last) in
        let one : s ≡ suc (s - 1) = omega arith in
        let long : length ns' ≡ length ns = len ∙ ap length put ∙ length-set ns new (used k after x v) in
        let anew : (i : ℕ) → slice_get ns' i ≡ option_map (relinked after x (Some new) (Some new) i) (slice_get (set ns new (used k after x v)) i) = λ i. nodes i ∙ ap (λ (l : List (Node T)). option_map (relinked after x (Some new) (Some new) i) (slice_get l i)) put in
        let done = insert_laid ns ns' ends e1 free old s (s - 1) lists k after x new v laid one (chain_at ns ends free s lists laid k e1 h is_e1) has is_free was is_after' anew long in (
          subst (λ (e : Ends). IsLaidOut ns' (set ends k e) old.next (s - 1) (set lists k (inserted (list_at lists k) after (new, v)))) ends_are done.laid,
          done.fresh,
        )

    pub chain_within : (id : ℕ) (n : Node T) → IsInUse lists id → slice_get ns id ≡ Some n → n.chain < length lists
    chain_within id n used at_id =
        let told = tells ns ends free s lists laid id n used.0 at_id used.1 in
        let inside = list_within lists used.0 id told.v told.entry in
        let chain = told.chain in
        omega arith

    pub links_within : (id : ℕ) (n : Node T) → IsInUse lists id → slice_get ns id ≡ Some n → ((i : ℕ) → n.before ≡ Some i → i < length ns) × ((i : ℕ) → n.next ≡ Some i → i < length ns)
    links_within id n used at_id =
        let v = has_item (list_at lists used.0) id used.1 in
        let c = ends_at ns ends free s lists used.0 laid (list_within lists used.0 id v.0 v.1) in
        let of = in_list ns ends c.0 free s lists used.0 id n v.0 laid c.1 at_id v.1 in (
          λ i is. last_within ns used.0 c.0.first of.0 n.before (Some id) i of.2.place.first is,
          λ i is. first_within ns used.0 n.next (Some id) of.1 c.0.last i of.2.place.second is,
        )

    pub remove_step : (mid ns' : List (Node T)) (e1 e' : Ends) (id : ℕ) (n : Node T) → IsInUse lists id → slice_get ns id ≡ Some n → mid ≡ set ns id (vacant free) → e1 ≡ get_or ends n.chain e1 → ((i : ℕ) → slice_get ns' i ≡ option_map (relinked n.before n.next n.next n.before i) (slice_get mid i)) → length ns' ≡ length mid → e'.first ≡ old_unless_none n.before n.next e1.first → e'.last ≡ old_unless_none n.next n.before e1.last → IsLaidOut ns' (set ends n.chain e') (Some id) (s + 1) (map (without id) lists)
    remove_step mid ns' e1 e' id n used was put is_e1 nodes len first last =
        let told = tells ns ends free s lists laid id n used.0 was used.1 in
        let at_c : slice_get ends n.chain ≡ Some e1 = chain_at ns ends free s lists laid n.chain e1 (chain_within id n used was) is_e1 in
        let ends_are : relinked_ends n.before n.next n.next n.before e1 ≡ e' = ap (λ (f : Option ℕ). record { first = f; last = old_unless_none n.next n.before e1.last }) (sym first) ∙ ap (λ (l : Option ℕ). record { first = e'.first; last = l }) (sym last) in
        let one : suc s ≡ s + 1 = omega arith in
        let long : length ns' ≡ length ns = len ∙ ap length put ∙ length-set ns id (vacant free) in
        let anew : (i : ℕ) → slice_get ns' i ≡ option_map (relinked n.before n.next n.next n.before i) (slice_get (set ns id (vacant free)) i) = λ i. nodes i ∙ ap (λ (l : List (Node T)). option_map (relinked n.before n.next n.next n.before i) (slice_get l i)) put in
        let done = remove_laid ns ns' ends e1 free s lists used.0 id n told.v laid at_c was told.entry told.chain anew long in
        subst (λ (c : ℕ). IsLaidOut ns' (set ends n.chain e') (Some id) c (map (without id) lists)) one (subst (λ (e : Ends). IsLaidOut ns' (set ends n.chain e) (Some id) (suc s) (map (without id) lists)) ends_are done.laid)

    pub grow_step : (ns' : List (Node T)) (first : Option ℕ) → ns' ≡ ns ++ free_nodes (length ns) free 64 → first ≡ free_head (length ns) free 64 → length ns' ≤ 2 ^ 32 → IsLaidOut ns' ends first (s + 64) lists
    grow_step ns' first is_ns is_first small =
        let long = length-append ns (free_nodes {T = T} (length ns) free 64) in
        let count = length-free_nodes T (length ns) free 64 in
        let whole = ap length is_ns in
        let sum : 64 + s ≡ s + 64 = omega arith in
        rw (is_ns, is_first, ← sum) (grow_laid ns ends free s lists 64 laid (omega arith))
