-- How each change of the nodes keeps the lists that they hold.
use Rattle.std.proofs.Common.{◌≡◌, ◌⊎◌, ℕ, zero, suc, ◌+◌, ◌<◌, ◌≤◌, ◌^◌, List, [], ◌∷◌, ◌++◌, length, map, get_or, set, Option, Some, None, IsSome, option_map, slice_get, refl, sym, ap, subst, ◌∙◌, inl, inr, arith, length-set, length-append}
use Rattle.std.proofs.lemmas.Bool.{cases_eq, cases_lt}
use Rattle.std.proofs.lemmas.List.{length-map, get_or-map, get_or_default, get_or-set_same, get_or-set_other, get_or_past, same_lists, set-get_or, get_or_push, get_or_append_left}
use Rattle.std.proofs.lemmas.List.Sums.{sum_by-set, sum_by_push, get_or-le-sum_by}
use Rattle.std.proofs.lemmas.Option.{slice_get_within, slice_get-get_or, get_or_from_slice_get, same_Some}
use Rattle.ir_arena.specs.declared.node.Node.{Node}
use Rattle.ir_arena.specs.declared.links.Ends.{Ends}
use Rattle.ir_arena.specs.Chains.{list_at, item_in, Has, inserted, without, with_item, next_in, before_in, Differ, IdsDiffer}
use Rattle.ir_arena.specs.Layout.{NodeAt, used, vacant, IsSegment, IsFree, walk, node_in, lists_of, IsLaidOut, relinked, relinked_ends, IsAfter, free_head, free_nodes}
use Rattle.ir_arena.proofs.ChunkLemmas.{slice_get-append_left, slice_get-set_same, slice_get-set_other, slice_get-push, slice_get-more}
use Rattle.ir_arena.proofs.ListLemmas.{found, split_at, IsSplit, gap_at, has_item, length-insert, absent_left, absent_right, in_more, without-absent, with_item-absent}
use Rattle.ir_arena.proofs.Segments
use Rattle.ir_arena.proofs.Free.{same_count, free_frame, free_more, length-free_nodes}

abbrev pub no_ends : Ends
no_ends = record { first = None; last = None }

module _ {T : Type 0} where
  -- a walk reads a chain that is no longer than its steps
  pub walk_is : (at : NodeAt T) (k : ℕ) (f b : Option ℕ) (es : List (ℕ × T)) (l : Option ℕ) (n : ℕ) → IsSegment at k f b es l None → length es ≤ n → walk at n f ≡ es
  walk_is at k f b [] l zero s h = refl
  walk_is at k f b [] l (suc n) s h = rw s.0
  walk_is at k f b (e ∷ es) l zero s h = absurd (omega arith)
  walk_is at k f b (e ∷ es) l (suc n) s h =
      let rest = walk_is at k s.0 (Some e.0) es l n s.3 (omega arith) in
      rw (s.1, s.2) (ap (λ (t : List (ℕ × T)). (e.0, e.1) ∷ t) rest)

  -- the chain of a list
  pub ends_at : (ns : List (Node T)) (ends : List Ends) (free : Option ℕ) (spare : ℕ) (lists : List (List (ℕ × T))) (k : ℕ) → IsLaidOut ns ends free spare lists → k < length lists → (e : Ends) × (slice_get ends k ≡ Some e) × IsSegment (node_in ns) k e.first None (list_at lists k) e.last None
  ends_at ns ends free spare lists k laid h =
      let counted = laid.counted in
      let there = slice_get-get_or ends k no_ends (omega arith) in
      (get_or ends k no_ends, there, laid.chained k (get_or ends k no_ends) there)

  pub fits : (ns : List (Node T)) (ends : List Ends) (free : Option ℕ) (spare : ℕ) (lists : List (List (ℕ × T))) (k : ℕ) → IsLaidOut ns ends free spare lists → k < length lists → length (list_at lists k) + spare ≤ length ns
  fits ns ends free spare lists k laid h =
      let part = get_or-le-sum_by length lists k [] h in
      let all = laid.all in
      omega arith

  -- the lists that the nodes hold are the ones that they are laid out for
  pub lists_are : (ns : List (Node T)) (ends : List Ends) (free : Option ℕ) (spare : ℕ) (lists : List (List (ℕ × T))) → IsLaidOut ns ends free spare lists → lists_of ns ends ≡ lists
  lists_are ns ends free spare lists laid =
      let counted = laid.counted in
      let read : Ends → List (ℕ × T) = λ e. walk (node_in ns) (length ns) e.first in
      same_lists (map read ends) lists (length-map ends read ∙ sym counted) (λ k d h.
      let within : k < length ends = omega (arith, length-map ends read) in
      let inside : k < length lists = omega arith in
      let c = ends_at ns ends free spare lists k laid inside in
      let room = fits ns ends free spare lists k laid inside in
      get_or-map read ends k c.0 d within
      ∙ ap read (get_or_from_slice_get ends k c.0 c.0 c.1)
      ∙ walk_is (node_in ns) k c.0.first None (list_at lists k) c.0.last (length ns) c.2 (omega arith)
      ∙ get_or_default lists k [] d inside)

  -- so the invariant may be shown at lists of one's own
  pub settled : (ns : List (Node T)) (ends : List Ends) (free : Option ℕ) (spare : ℕ) (lists : List (List (ℕ × T))) → IsLaidOut ns ends free spare lists → IsLaidOut ns ends free spare (lists_of ns ends)
  settled ns ends free spare lists laid = rw (lists_are ns ends free spare lists laid) laid

  -- an id of a list is the id of a node of its chain, and the list is one of those that there are
  pub list_within : (lists : List (List (ℕ × T))) (k id : ℕ) (v : T) → item_in (list_at lists k) id ≡ Some v → k < length lists
  list_within lists k id v h = by_case (found_place lists k)
    where
      found_place : (ls : List (List (ℕ × T))) (j : ℕ) → (j < length ls) ⊎ (list_at ls j ≡ [])
      found_place [] j = inr refl
      found_place (l ∷ ls) zero = inl (omega arith)
      found_place (l ∷ ls) (suc j) =
          elim (found_place ls j) [
            | inl h' ↦ inl (omega arith)
            | inr e ↦ inr e
          ]

      by_case : ((k < length lists) ⊎ (list_at lists k ≡ [])) → k < length lists
      by_case (inl h') = h'
      by_case (inr e) = let none : item_in (list_at lists k) id ≡ None = rw e in absurd (cc)

  -- one list is changed, and its chain, and the others keep theirs
  pub record IsOneChange (ns ns' : List (Node T)) (k : ℕ) (es es' : List (ℕ × T)) (e' : Ends) : Type 0 where
    pub len : length ns' ≡ length ns
    pub chain : IsSegment (node_in ns') k e'.first None es' e'.last None
    pub others : (id j : ℕ) (p n : Option ℕ) (v : T) → (j ≡ k → ⊥) → slice_get ns id ≡ Some (used j p n v) → slice_get ns' id ≡ slice_get ns id

  pub one_change : (ns ns' : List (Node T)) (ends : List Ends) (free free' : Option ℕ) (spare spare' : ℕ) (lists : List (List (ℕ × T))) (k : ℕ) (es' : List (ℕ × T)) (e' : Ends) → IsLaidOut ns ends free spare lists → k < length lists → IsOneChange ns ns' k (list_at lists k) es' e' → IsFree (node_in ns') spare' free' → length es' + spare' ≡ length (list_at lists k) + spare → IsLaidOut ns' (set ends k e') free' spare' (set lists k es')
  one_change ns ns' ends free free' spare spare' lists k es' e' laid h change freed count =
      let counted = laid.counted in
      let all = laid.all in
      let small = laid.small in
      let len = change.len in
      let sums = sum_by-set length lists k es' [] h in
      let long : length (set lists k es') ≡ length lists = length-set lists k es' in
      let long_ends : length (set ends k e') ≡ length ends = length-set ends k e' in
      record {
        counted = omega arith;
        chained = λ j e at_j. elim (cases_eq j k) [
          | inl same ↦
              let within : k < length ends = omega arith in
              let end : e ≡ e' = same_Some e e' (sym at_j ∙ ap (λ (i : ℕ). slice_get (set ends k e') i) same ∙ slice_get-set_same ends k e' within) in
              let list : list_at (set lists k es') j ≡ es' = ap (λ (i : ℕ). list_at (set lists k es') i) same ∙ get_or-set_same lists k es' [] h in
              rw (list, end, same) change.chain
          | inr other ↦
              let at_ends : slice_get ends j ≡ Some e = sym (slice_get-set_other ends k j e' other) ∙ at_j in
              let list : list_at (set lists k es') j ≡ list_at lists j = get_or-set_other lists k j es' [] other in
              let old = laid.chained j e at_ends in
              rw list (Segments.frame (node_in ns) (node_in ns') j e.first None (list_at lists j) e.last None (λ id v there.
              let node = Segments.used_at (node_in ns) j e.first None (list_at lists j) e.last None id v old there in
              change.others id j node.0 node.1 v other node.2) old)
        ];
        freed = freed;
        all = omega arith;
        small = omega arith;
      }

  -- a free node takes an item and is put into a chain
  pub record IsInserted (ns ns' : List (Node T)) (ends : List Ends) (e : Ends) (old : Node T) (spare : ℕ) (lists : List (List (ℕ × T))) (k : ℕ) (after x : Option ℕ) (new : ℕ) (v : T) : Type 0 where
    pub laid : IsLaidOut ns' (set ends k (relinked_ends after x (Some new) (Some new) e)) old.next spare (set lists k (inserted (list_at lists k) after (new, v)))
    pub fresh : (j : ℕ) → Has (list_at lists j) new → ⊥

  pub insert_laid : (ns ns' : List (Node T)) (ends : List Ends) (e : Ends) (free : Option ℕ) (old : Node T) (s spare : ℕ) (lists : List (List (ℕ × T))) (k : ℕ) (after x : Option ℕ) (new : ℕ) (v : T) → IsLaidOut ns ends free s lists → s ≡ suc spare → slice_get ends k ≡ Some e → ((a : ℕ) → after ≡ Some a → IsSome (item_in (list_at lists k) a)) → free ≡ Some new → slice_get ns new ≡ Some old → IsAfter (node_in ns) e.first after x → ((id : ℕ) → slice_get ns' id ≡ option_map (relinked after x (Some new) (Some new) id) (slice_get (set ns new (used k after x v)) id)) → length ns' ≡ length ns → IsInserted ns ns' ends e old spare lists k after x new v
  insert_laid ns ns' ends e free old s spare lists k after x new v laid is_s at_k has is_free at_new is_after anew len =
      let counted = laid.counted in
      let h : k < length lists = let w = slice_get_within ends k e at_k in omega arith in
      let seg = laid.chained k e at_k in
      let freed : IsFree (node_in ns) (suc spare) (Some new) = subst (λ (o : Option ℕ). IsFree (node_in ns) (suc spare) o) is_free (subst (λ (n : ℕ). IsFree (node_in ns) n free) is_s laid.freed) in
      let one : Some new ≡ Some freed.0 = freed.2 in
      let id_is : new ≡ freed.0 = cc in
      let node_is : freed.1 ≡ old = same_Some freed.1 old (sym freed.3 ∙ ap (λ (i : ℕ). slice_get ns i) (sym id_is) ∙ at_new) in
      let vacant_old : old.item ≡ None = subst (λ (n : Node T). n.item ≡ None) node_is freed.4 in
      let freed_rest : IsFree (node_in ns) spare old.next = subst (λ (n : Node T). IsFree (node_in ns) spare n.next) node_is freed.5 in
      let is_used_apart : (id j : ℕ) (p n : Option ℕ) (w : T) → slice_get ns id ≡ Some (used j p n w) → id ≡ new → ⊥ = λ id j p n w at_id same. let both : Some (used j p n w) ≡ Some old = sym at_id ∙ ap (λ (i : ℕ). slice_get ns i) same ∙ at_new in let item : Some w ≡ old.item = ap (λ (m : Node T). m.item) (same_Some (used j p n w) old both) in cc in
      let fresh : (j : ℕ) (w : T) → item_in (list_at lists j) new ≡ Some w → ⊥ = λ j w there. let c = ends_at ns ends free s lists j laid (list_within lists j new w there) in let node = Segments.used_at (node_in ns) j c.0.first None (list_at lists j) c.0.last None new w c.2 there in is_used_apart new j node.0 node.1 w node.2 refl in
      let absent : item_in (list_at lists k) new ≡ None = elim (found (list_at lists k) new) [ inl n ↦ n | inr w ↦ absurd (fresh k w.0 w.1) ] in
      let gap = gap_at (list_at lists k) after has in
      let pre = gap.0 in
      let post = gap.1 in
      let whole : list_at lists k ≡ pre ++ post = gap.2.whole in
      let seg' : IsSegment (node_in ns) k e.first None (pre ++ post) e.last None = subst (λ (l : List (ℕ × T)). IsSegment (node_in ns) k e.first None l e.last None) whole seg in
      let absent' : item_in (pre ++ post) new ≡ None = subst (λ (l : List (ℕ × T)). item_in l new ≡ None) whole absent in
      let ins : Segments.IsInsertion (node_in ns) (node_in ns') k after x new v = record {
        put = anew new ∙ ap (λ (o : Option (Node T)). option_map (relinked after x (Some new) (Some new) new) o) (slice_get-set_same ns new (used k after x v) (slice_get_within ns new old at_new));
        others = λ id other. anew id ∙ ap (λ (o : Option (Node T)). option_map (relinked after x (Some new) (Some new) id) o) (slice_get-set_other ns new id (used k after x v) other);
      } in
      let chain = Segments.insert_chain (node_in ns) (node_in ns') k e.first e.last pre post after x new v seg' gap.2.before is_after absent' ins in
      let keeps : (id : ℕ) → (id ≡ new → ⊥) → item_in (list_at lists k) id ≡ None → slice_get ns' id ≡ slice_get ns id = λ id other off. Segments.insertion_keeps (node_in ns) (node_in ns') k e.first e.last pre post after x new v id seg' gap.2.before is_after ins other (subst (λ (l : List (ℕ × T)). item_in l id ≡ None) whole off) in
      let not_there : (id : ℕ) (n : Node T) → slice_get ns id ≡ Some n → (n.item ≡ None) ⊎ (n.chain ≡ k → ⊥) → item_in (list_at lists k) id ≡ None = λ id n at_id why. elim (found (list_at lists k) id) [ inl a ↦ a | inr w ↦ let node = Segments.used_at (node_in ns) k e.first None (list_at lists k) e.last None id w.0 seg w.1 in let is : n ≡ used k node.0 node.1 w.0 = same_Some n (used k node.0 node.1 w.0) (sym at_id ∙ node.2) in absurd (elim why [ inl none ↦ let some : n.item ≡ Some w.0 = ap (λ (m : Node T). m.item) is in let clash : None ≡ Some w.0 = sym none ∙ some in cc | inr apart ↦ apart (ap (λ (m : Node T). m.chain) is) ]) ] in
      let free' : IsFree (node_in ns') spare old.next = free_frame (node_in ns) (node_in ns') spare old.next (λ i m node below at_i none here. keeps i (λ same. let again : IsFree (node_in ns) (suc m) (Some new) = subst (λ (j : ℕ). IsFree (node_in ns) (suc m) (Some j)) same here in let c = same_count (node_in ns) (suc m) (suc spare) (Some new) again freed in omega arith) (not_there i node at_i (inl none))) freed_rest in
      let list_is : inserted (list_at lists k) after (new, v) ≡ pre ++ (new, v) ∷ post = gap.2.inserts (new, v) in
      let count = length-insert pre post (new, v) in
      let count_whole = ap length whole in
      let count_list = ap length list_is in
      record {
        laid = one_change ns ns' ends free old.next s spare lists k (inserted (list_at lists k) after (new, v)) (relinked_ends after x (Some new) (Some new) e) laid h
            (record {
              len = len;
              chain = rw list_is chain;
              others = λ id j p n w other at_id. keeps id (is_used_apart id j p n w at_id) (not_there id (used j p n w) at_id (inr other));
            })
            free' (omega arith);
        fresh = λ j has'. let w = has_item (list_at lists j) new has' in fresh j w.0 w.1;
      }

  -- a node of a list: what it holds, and where its chain has it
  pub record IsInList (ns : List (Node T)) (e : Ends) (k id : ℕ) (es : List (ℕ × T)) (n : Node T) (v : T) (pre post : List (ℕ × T)) : Type 0 where
    pub split : IsSplit es id v pre post
    pub of_chain : n.chain ≡ k
    pub item : n.item ≡ Some v
    pub place : Segments.IsPlaced (node_in ns) k e.first e.last pre id v post n.before n.next
    pub differs : Differ es
    pub before : n.before ≡ before_in None es id
    pub next : n.next ≡ next_in es id

  pub in_list : (ns : List (Node T)) (ends : List Ends) (e : Ends) (free : Option ℕ) (spare : ℕ) (lists : List (List (ℕ × T))) (k id : ℕ) (n : Node T) (v : T) → IsLaidOut ns ends free spare lists → slice_get ends k ≡ Some e → slice_get ns id ≡ Some n → item_in (list_at lists k) id ≡ Some v → (pre : List (ℕ × T)) × (post : List (ℕ × T)) × IsInList ns e k id (list_at lists k) n v pre post
  in_list ns ends e free spare lists k id n v laid at_k at_id there =
      let seg = laid.chained k e at_k in
      let split = split_at (list_at lists k) id v there in
      let pre = split.0 in
      let post = split.1 in
      let seg' : IsSegment (node_in ns) k e.first None (pre ++ (id, v) ∷ post) e.last None = subst (λ (l : List (ℕ × T)). IsSegment (node_in ns) k e.first None l e.last None) split.2.whole seg in
      let placed = Segments.placed (node_in ns) k e.first e.last pre id v post seg' in
      let is : used k placed.0 placed.1 v ≡ n = same_Some (used k placed.0 placed.1 v) n (sym placed.2.node ∙ at_id) in
      let q_is : placed.0 ≡ n.before = ap (λ (m : Node T). m.before) is in
      let x_is : placed.1 ≡ n.next = ap (λ (m : Node T). m.next) is in (
        pre,
        post,
        record {
          split = split.2;
          of_chain = sym (ap (λ (m : Node T). m.chain) is);
          item = sym (ap (λ (m : Node T). m.item) is);
          place = subst (λ (q : Option ℕ). Segments.IsPlaced (node_in ns) k e.first e.last pre id v post q n.next) q_is (subst (λ (x : Option ℕ). Segments.IsPlaced (node_in ns) k e.first e.last pre id v post placed.0 x) x_is placed.2);
          differs = Segments.differ (node_in ns) k e.first None (list_at lists k) e.last seg;
          before = sym q_is ∙ placed.2.before ∙ sym (split.2.precedes None);
          next = sym x_is ∙ placed.2.next ∙ sym split.2.follows;
        },
      )

  -- an id of one list is in no other
  pub only_in : (ns : List (Node T)) (ends : List Ends) (free : Option ℕ) (spare : ℕ) (lists : List (List (ℕ × T))) (j k id : ℕ) (v w : T) → IsLaidOut ns ends free spare lists → item_in (list_at lists j) id ≡ Some v → item_in (list_at lists k) id ≡ Some w → j ≡ k
  only_in ns ends free spare lists j k id v w laid one two =
      let c = ends_at ns ends free spare lists j laid (list_within lists j id v one) in
      let d = ends_at ns ends free spare lists k laid (list_within lists k id w two) in
      let m = Segments.used_at (node_in ns) j c.0.first None (list_at lists j) c.0.last None id v c.2 one in
      let n = Segments.used_at (node_in ns) k d.0.first None (list_at lists k) d.0.last None id w d.2 two in
      ap (λ (n' : Node T). n'.chain) (same_Some (used j m.0 m.1 v) (used k n.0 n.1 w) (sym m.2 ∙ n.2))

  -- what a change of the entry of an id does to all lists it does to the one that has it
  pub one_list : (g : List (ℕ × T) → List (ℕ × T)) (lists : List (List (ℕ × T))) (k : ℕ) → k < length lists → ((j : ℕ) → (j ≡ k → ⊥) → g (list_at lists j) ≡ list_at lists j) → map g lists ≡ set lists k (g (list_at lists k))
  one_list g lists k h same =
      let long : length (set lists k (g (list_at lists k))) ≡ length lists = length-set lists k (g (list_at lists k)) in
      same_lists (map g lists) (set lists k (g (list_at lists k))) (length-map lists g ∙ sym long) (λ j d below.
      let within : j < length lists = omega (arith, length-map lists g) in
      let read = get_or-map g lists j [] d within in
      elim (cases_eq j k) [
        | inl e ↦ read ∙ ap (λ (i : ℕ). g (list_at lists i)) e ∙ sym (get_or-set_same lists k (g (list_at lists k)) d h) ∙ ap (λ (i : ℕ). get_or (set lists k (g (list_at lists k))) i d) (sym e)
        | inr n ↦ read ∙ same j n ∙ get_or_default lists j [] d within ∙ sym (get_or-set_other lists k j (g (list_at lists k)) d n)
      ])

  -- a node is taken out of its chain, and is free
  pub record IsRemoved (ns ns' : List (Node T)) (ends : List Ends) (e : Ends) (spare : ℕ) (lists : List (List (ℕ × T))) (id : ℕ) (n : Node T) : Type 0 where
    pub laid : IsLaidOut ns' (set ends n.chain (relinked_ends n.before n.next n.next n.before e)) (Some id) (suc spare) (map (without id) lists)

  pub remove_laid : (ns ns' : List (Node T)) (ends : List Ends) (e : Ends) (free : Option ℕ) (spare : ℕ) (lists : List (List (ℕ × T))) (k id : ℕ) (n : Node T) (v : T) → IsLaidOut ns ends free spare lists → slice_get ends n.chain ≡ Some e → slice_get ns id ≡ Some n → item_in (list_at lists k) id ≡ Some v → n.chain ≡ k → ((i : ℕ) → slice_get ns' i ≡ option_map (relinked n.before n.next n.next n.before i) (slice_get (set ns id (vacant free)) i)) → length ns' ≡ length ns → IsRemoved ns ns' ends e spare lists id n
  remove_laid ns ns' ends e free spare lists k id n v laid at_c at_id there is_k anew len =
      let at_k : slice_get ends k ≡ Some e = subst (λ (c : ℕ). slice_get ends c ≡ Some e) is_k at_c in
      let counted = laid.counted in
      let h : k < length lists = list_within lists k id v there in
      let found_in = in_list ns ends e free spare lists k id n v laid at_k at_id there in
      let pre = found_in.0 in
      let post = found_in.1 in
      let of = found_in.2 in
      let q = n.before in
      let x = n.next in
      let seg = laid.chained k e at_k in
      let rem : Segments.IsRemoval (node_in ns) (node_in ns') q x id = record {
        others = λ i other. anew i ∙ ap (λ (o : Option (Node T)). option_map (relinked q x x q i) o) (slice_get-set_other ns id i (vacant free) other);
      } in
      let chain = Segments.remove_chain (node_in ns) (node_in ns') k e.first e.last pre id v post q x of.place rem in
      let list_is : without id (list_at lists k) ≡ pre ++ post = of.split.gone of.differs in
      let in_rest : (i : ℕ) (w : T) → (i ≡ id → ⊥) → item_in (pre ++ post) i ≡ Some w → (w' : T) × (item_in (list_at lists k) i ≡ Some w') = λ i w other h'. (w, rw of.split.whole (in_more pre post (id, v) i w (λ e'. other (sym e')) h')) in
      let not_there : (i : ℕ) (m : Node T) → slice_get ns i ≡ Some m → (m.item ≡ None) ⊎ (m.chain ≡ k → ⊥) → item_in (list_at lists k) i ≡ None = λ i m at_i why. elim (found (list_at lists k) i) [ inl a ↦ a | inr w ↦ let node = Segments.used_at (node_in ns) k e.first None (list_at lists k) e.last None i w.0 seg w.1 in let is : m ≡ used k node.0 node.1 w.0 = same_Some m (used k node.0 node.1 w.0) (sym at_i ∙ node.2) in absurd (elim why [ inl none ↦ let some : m.item ≡ Some w.0 = ap (λ (m' : Node T). m'.item) is in let clash : None ≡ Some w.0 = sym none ∙ some in cc | inr apart ↦ apart (ap (λ (m' : Node T). m'.chain) is) ]) ] in
      let keeps : (i : ℕ) → (i ≡ id → ⊥) → item_in (list_at lists k) i ≡ None → slice_get ns' i ≡ slice_get ns i = λ i other off. Segments.removal_keeps (node_in ns) (node_in ns') k e.first e.last pre id v post q x i of.place rem other (elim (found (pre ++ post) i) [ inl a ↦ a | inr w ↦ let t = in_rest i w.0 other w.1 in absurd (cc) ]) in
      let is_apart : (i : ℕ) (m : Node T) → slice_get ns i ≡ Some m → (m.item ≡ None) ⊎ (m.chain ≡ k → ⊥) → i ≡ id → ⊥ = λ i m at_i why same. let off = not_there i m at_i why in let off' : item_in (list_at lists k) id ≡ None = subst (λ (j : ℕ). item_in (list_at lists k) j ≡ None) same off in cc in
      let free' : IsFree (node_in ns') spare free = free_frame (node_in ns) (node_in ns') spare free (λ i m node below at_i none here. keeps i (is_apart i node at_i (inl none)) (not_there i node at_i (inl none))) laid.freed in
      let within = slice_get_within ns id n at_id in
      let off_q = Segments.off_last (node_in ns) k e.first pre q (Some id) id of.place.first (absent_left pre post id of.place.off) in
      let off_x = Segments.off_first (node_in ns) k x (Some id) post e.last id of.place.second (absent_right pre post id of.place.off) in
      let put : slice_get ns' id ≡ Some (vacant free) = anew id ∙ ap (λ (o : Option (Node T)). option_map (relinked q x x q id) o) (slice_get-set_same ns id (vacant free) within) ∙ Segments.relinked_off q x x q id (Some (vacant free)) off_q off_x in
      let freed : IsFree (node_in ns') (suc spare) (Some id) = (id, vacant free, refl, put, refl, free') in
      let count = length-insert pre post (id, v) in
      let count_whole = ap length of.split.whole in
      let count_list = ap length list_is in
      let all = one_change ns ns' ends free (Some id) spare (suc spare) lists k (without id (list_at lists k)) (relinked_ends q x x q e) laid h
      (record {
        len = len;
        chain = rw list_is chain;
        others = λ i j p n' w other at_i. keeps i (is_apart i (used j p n' w) at_i (inr other)) (not_there i (used j p n' w) at_i (inr other));
      })
      freed (omega arith) in
      let lists_is : map (without id) lists ≡ set lists k (without id (list_at lists k)) = one_list (without id) lists k h (λ j other. without-absent id (list_at lists j) (elim (found (list_at lists j) id) [ inl a ↦ a | inr w ↦ absurd (other (only_in ns ends free spare lists j k id w.0 v laid w.1 there)) ])) in
      record { laid = rw (lists_is, is_k) all }

  -- the item of a node is changed
  pub item_laid : (ns : List (Node T)) (ends : List Ends) (free : Option ℕ) (spare : ℕ) (lists : List (List (ℕ × T))) (k id : ℕ) (n : Node T) (v w : T) → IsLaidOut ns ends free spare lists → slice_get ns id ≡ Some n → item_in (list_at lists k) id ≡ Some v → IsLaidOut (set ns id (record n { item = Some w })) ends free spare (map (with_item id w) lists)
  item_laid ns ends free spare lists k id n v w laid at_id there =
      let h : k < length lists = list_within lists k id v there in
      let c = ends_at ns ends free spare lists k laid h in
      let e = c.0 in
      let found_in = in_list ns ends e free spare lists k id n v laid c.1 at_id there in
      let pre = found_in.0 in
      let post = found_in.1 in
      let of = found_in.2 in
      let ns' : List (Node T) = set ns id (record n { item = Some w }) in
      let within = slice_get_within ns id n at_id in
      let others : (i : ℕ) → (i ≡ id → ⊥) → slice_get ns' i ≡ slice_get ns i = λ i other. slice_get-set_other ns id i (record n { item = Some w }) other in
      let at_new : slice_get ns' id ≡ Some (used k n.before n.next w) = slice_get-set_same ns id (record n { item = Some w }) within ∙ ap (λ (c' : ℕ). Some (used c' n.before n.next w)) of.of_chain in
      let off_pre = absent_left pre post id of.place.off in
      let off_post = absent_right pre post id of.place.off in
      let apart : (es : List (ℕ × T)) → item_in es id ≡ None → (i : ℕ) (u : T) → item_in es i ≡ Some u → slice_get ns' i ≡ slice_get ns i = λ es off i u h'. others i (λ same. let here : item_in es i ≡ None = subst (λ (j : ℕ). item_in es j ≡ None) (sym same) off in cc) in
      let first = Segments.frame (node_in ns) (node_in ns') k e.first None pre n.before (Some id) (apart pre off_pre) of.place.first in
      let second = Segments.frame (node_in ns) (node_in ns') k n.next (Some id) post e.last None (apart post off_post) of.place.second in
      let chain : IsSegment (node_in ns') k e.first None (pre ++ (id, w) ∷ post) e.last None = Segments.join (node_in ns') k e.first None pre ((id, w) ∷ post) n.before (Some id) e.last None first (n.next, refl, at_new, second) in
      let list_is : with_item id w (list_at lists k) ≡ pre ++ (id, w) ∷ post = of.split.changed w of.differs in
      let free' : IsFree (node_in ns') spare free = free_frame (node_in ns) (node_in ns') spare free (λ i m node below at_i none here. others i (λ same. let both : Some node ≡ Some n = sym at_i ∙ ap (λ (j : ℕ). slice_get ns j) same ∙ at_id in let item : node.item ≡ Some v = ap (λ (m' : Node T). m'.item) (same_Some node n both) ∙ of.item in let clash : None ≡ Some v = sym none ∙ item in cc)) laid.freed in
      let one = length-insert pre post (id, v) in
      let two = length-insert pre post (id, w) in
      let count_whole = ap length of.split.whole in
      let count_list = ap length list_is in
      let all = one_change ns ns' ends free free spare spare lists k (with_item id w (list_at lists k)) e laid h
      (record {
        len = length-set ns id (record n { item = Some w });
        chain = rw list_is chain;
        others = λ i j p n' u other at_i. others i (λ same. let both : Some (used j p n' u) ≡ Some n = sym at_i ∙ ap (λ (j' : ℕ). slice_get ns j') same ∙ at_id in other (ap (λ (m' : Node T). m'.chain) (same_Some (used j p n' u) n both) ∙ of.of_chain));
      })
      free' (omega arith) in
      let same_ends : set ends k e ≡ ends = ap (λ (e' : Ends). set ends k e') (sym (get_or_from_slice_get ends k e no_ends c.1)) ∙ set-get_or ends k no_ends in
      let lists_is : map (with_item id w) lists ≡ set lists k (with_item id w (list_at lists k)) = one_list (with_item id w) lists k h (λ j other. with_item-absent id w (list_at lists j) (elim (found (list_at lists j) id) [ inl a ↦ a | inr u ↦ absurd (other (only_in ns ends free spare lists j k id u.0 v laid u.1 there)) ])) in
      rw lists_is (subst (λ (es : List Ends). IsLaidOut ns' es free spare (set lists k (with_item id w (list_at lists k)))) same_ends all)

  -- an empty chain is added at the end
  pub add_laid : (ns : List (Node T)) (ends : List Ends) (free : Option ℕ) (spare : ℕ) (lists : List (List (ℕ × T))) → IsLaidOut ns ends free spare lists → IsLaidOut ns (ends ++ no_ends ∷ []) free spare (lists ++ [] ∷ [])
  add_laid ns ends free spare lists laid =
      let counted = laid.counted in
      let all = laid.all in
      let long = length-append lists ([] ∷ []) in
      let long_ends = length-append ends (no_ends ∷ []) in
      let sums = sum_by_push length lists [] in
      record {
        counted = omega arith;
        chained = λ j e at_j. elim (cases_eq j (length ends)) [
          | inl same ↦
              let end : e ≡ no_ends = same_Some e no_ends (sym at_j ∙ slice_get-push ends no_ends j same) in
              let list : list_at (lists ++ [] ∷ []) j ≡ [] = get_or_push lists [] [] j (omega arith) in
              rw (list, end) (refl, refl)
          | inr other ↦
              let within : j < length ends = let w = slice_get_within (ends ++ no_ends ∷ []) j e at_j in omega arith in
              let at_ends : slice_get ends j ≡ Some e = sym (slice_get-append_left ends (no_ends ∷ []) j within) ∙ at_j in
              let list : list_at (lists ++ [] ∷ []) j ≡ list_at lists j = get_or_append_left lists ([] ∷ []) [] j (omega arith) in
              rw list (laid.chained j e at_ends)
        ];
        freed = laid.freed;
        all = omega arith;
        small = laid.small;
      }

  -- a chunk of free nodes is added at the end
  pub grow_laid : (ns : List (Node T)) (ends : List Ends) (free : Option ℕ) (spare : ℕ) (lists : List (List (ℕ × T))) (n : ℕ) → IsLaidOut ns ends free spare lists → n + length ns ≤ 2 ^ 32 → IsLaidOut (ns ++ free_nodes (length ns) free n) ends (free_head (length ns) free n) (n + spare) lists
  grow_laid ns ends free spare lists n laid small =
      let all = laid.all in
      let long = length-append ns (free_nodes {T = T} (length ns) free n) in
      let count = length-free_nodes T (length ns) free n in
      record {
        counted = laid.counted;
        chained = λ j e at_j. let seg = laid.chained j e at_j in Segments.frame (node_in ns) (node_in (ns ++ free_nodes (length ns) free n)) j e.first None (list_at lists j) e.last None (λ id v there.
            let node = Segments.used_at (node_in ns) j e.first None (list_at lists j) e.last None id v seg there in
            slice_get-more ns (free_nodes (length ns) free n) id (used j node.0 node.1 v) node.2 ∙ sym node.2) seg;
        freed = free_more ns spare free n laid.freed;
        all = omega arith;
        small = omega arith;
      }

  -- no id is in use twice
  pub ids_differ : (ns : List (Node T)) (ends : List Ends) (free : Option ℕ) (spare : ℕ) (lists : List (List (ℕ × T))) → IsLaidOut ns ends free spare lists → IdsDiffer lists
  ids_differ ns ends free spare lists laid = record {
    across = λ j k id one two. let v = has_item (list_at lists j) id one in let w = has_item (list_at lists k) id two in only_in ns ends free spare lists j k id v.0 w.0 laid v.1 w.1;
    within = λ k. elim (cases_lt k (length lists)) [
      | inl h ↦ let c = ends_at ns ends free spare lists k laid h in Segments.differ (node_in ns) k c.0.first None (list_at lists k) c.0.last c.2
      | inr past ↦ let none : list_at lists k ≡ [] = get_or_past lists k [] past in rw none tt
    ];
  }
