-- Segments of chains: which nodes they take, and what stays of them as nodes change.
use Rattle.std.proofs.Common.{◌≡◌, ◌⊎◌, ℕ, suc, ◌<◌, true, false, List, [], ◌∷◌, ◌++◌, length, Option, Some, None, option_map, refl, sym, ap, subst, ◌∙◌, inl, inr, arith, eq-eqb}
use Rattle.std.proofs.lemmas.Option.{same_Some}
use Rattle.ir_arena.specs.declared.node.Node.{Node}
use Rattle.ir_arena.specs.Chains.{item_in, first_id, last_id, Differ}
use Rattle.ir_arena.specs.Layout.{NodeAt, used, IsSegment, names, relinked, old_unless_none, IsAfter}
use Rattle.ir_arena.proofs.ListLemmas.{test_id, other_id, item_in-hit, item_in-miss, item_in-more, is_not_first, last_is_in, item_in-append_left, item_in-append_right, found, Differ-parts, Differ-middle, absent_left, absent_right, apart_back}

module _ {T : Type 0} where
  -- an id of a segment is that of a node of its chain
  pub used_at : (at : NodeAt T) (k : ℕ) (f b : Option ℕ) (es : List (ℕ × T)) (l x : Option ℕ) (id : ℕ) (v : T) → IsSegment at k f b es l x → item_in es id ≡ Some v → (p : Option ℕ) × (n : Option ℕ) × (at id ≡ Some (used k p n v))
  used_at at k f b [] l x id v seg h = absurd (cc)
  used_at at k f b (e ∷ es) l x id v seg h =
      elim (test_id e.0 id) [
        | inl t ↦
            let here : Some e.1 ≡ Some v = sym (item_in-hit e es id t.0) ∙ h in
            let node : at e.0 ≡ Some (used k b seg.0 v) = seg.2 ∙ ap (λ (o : Option T). Some (record { chain = k; before = b; next = seg.0; item = o })) here in
            (b, seg.0, subst (λ (i : ℕ). at i ≡ Some (used k b seg.0 v)) t.0 node)
        | inr t ↦ used_at at k seg.0 (Some e.0) es l x id v seg.3 (sym (item_in-miss e es id t.0) ∙ h)
      ]

  -- two ways from one link to the end are of one length
  pub same_length : (at : NodeAt T) (k k' : ℕ) (f b b' : Option ℕ) (es es' : List (ℕ × T)) (l l' : Option ℕ) → IsSegment at k f b es l None → IsSegment at k' f b' es' l' None → length es ≡ length es'
  same_length at k k' f b b' [] [] l l' s t = refl
  same_length at k k' f b b' [] (e ∷ es) l l' s t = let none = s.0 in let some = t.1 in absurd (cc)
  same_length at k k' f b b' (e ∷ es) [] l l' s t = let some = s.1 in let none = t.0 in absurd (cc)
  same_length at k k' f b b' (e ∷ es) (e' ∷ es') l l' s t =
      let one : Some e'.0 ≡ Some e.0 = sym t.1 ∙ s.1 in
      let id : e'.0 ≡ e.0 = cc in
      let node : at e.0 ≡ Some (used k' b' t.0 e'.1) = subst (λ (i : ℕ). at i ≡ Some (used k' b' t.0 e'.1)) id t.2 in
      let both : Some (used k' b' t.0 e'.1) ≡ Some (used k b s.0 e.1) = sym node ∙ s.2 in
      let next : t.0 ≡ s.0 = ap (λ (n : Node T). n.next) (same_Some (used k' b' t.0 e'.1) (used k b s.0 e.1) both) in
      let rest : IsSegment at k' s.0 (Some e'.0) es' l' None = subst (λ (n : Option ℕ). IsSegment at k' n (Some e'.0) es' l' None) next t.3 in
      ap suc (same_length at k k' s.0 (Some e.0) (Some e'.0) es es' l l' s.3 rest)

  -- a shorter way to the end does not pass a node that has a longer one
  pub off_tail : (at : NodeAt T) (k k' : ℕ) (f b b' : Option ℕ) (es es' : List (ℕ × T)) (l l' : Option ℕ) (id : ℕ) → IsSegment at k f b es l None → IsSegment at k' (Some id) b' es' l' None → length es < length es' → item_in es id ≡ None
  off_tail at k k' f b b' [] es' l l' id s t h = refl
  off_tail at k k' f b b' (e ∷ es) es' l l' id s t h =
      elim (test_id e.0 id) [
        | inl same ↦
            let from : IsSegment at k (Some id) b (e ∷ es) l None = subst (λ (o : Option ℕ). IsSegment at k o b (e ∷ es) l None) (s.1 ∙ ap (λ (i : ℕ). Some i) same.0) s in
            let len = same_length at k k' (Some id) b b' (e ∷ es) es' l l' from t in
            absurd (omega arith)
        | inr other ↦
            item_in-miss e es id other.0 ∙ off_tail at k k' s.0 (Some e.0) b' es es' l l' id s.3 t (omega arith)
      ]

  -- a whole chain has no id twice
  pub differ : (at : NodeAt T) (k : ℕ) (f b : Option ℕ) (es : List (ℕ × T)) (l : Option ℕ) → IsSegment at k f b es l None → Differ es
  differ at k f b [] l s = tt
  differ at k f b (e ∷ es) l s =
      let from : IsSegment at k (Some e.0) b (e ∷ es) l None = subst (λ (o : Option ℕ). IsSegment at k o b (e ∷ es) l None) s.1 s in
      (off_tail at k k s.0 (Some e.0) b es (e ∷ es) l l e.0 s.3 from (omega arith), differ at k s.0 (Some e.0) es l s.3)

  -- a segment stays where its nodes do
  pub frame : (at at' : NodeAt T) (k : ℕ) (f b : Option ℕ) (es : List (ℕ × T)) (l x : Option ℕ) → ((id : ℕ) (v : T) → item_in es id ≡ Some v → at' id ≡ at id) → IsSegment at k f b es l x → IsSegment at' k f b es l x
  frame at at' k f b [] l x same s = s
  frame at at' k f b (e ∷ es) l x same s = (
    s.0,
    s.1,
    same e.0 e.1 (item_in-hit e es e.0 refl) ∙ s.2,
    frame at at' k s.0 (Some e.0) es l x (λ id v h. let more = item_in-more e es id v h in same id more.0 more.1) s.3,
  )

  -- a segment of two parts
  pub parts : (at : NodeAt T) (k : ℕ) (f b : Option ℕ) (pre post : List (ℕ × T)) (l x : Option ℕ) → IsSegment at k f b (pre ++ post) l x → (m : Option ℕ) × IsSegment at k f b pre (last_id b pre) m × IsSegment at k m (last_id b pre) post l x
  parts at k f b [] post l x s = (f, (refl, refl), s)
  parts at k f b (e ∷ pre) post l x s =
      let rest = parts at k s.0 (Some e.0) pre post l x s.3 in
      (rest.0, (s.0, s.1, s.2, rest.1), rest.2)

  pub join : (at : NodeAt T) (k : ℕ) (f b : Option ℕ) (pre post : List (ℕ × T)) (q m l x : Option ℕ) → IsSegment at k f b pre q m → IsSegment at k m q post l x → IsSegment at k f b (pre ++ post) l x
  join at k f b [] post q m l x s t = rw (s.0, ← s.1) t
  join at k f b (e ∷ pre) post q m l x s t = (s.0, s.1, s.2, join at k s.0 (Some e.0) pre post q m l x s.3 t)

  -- a segment ends with its last id
  pub last_is : (at : NodeAt T) (k : ℕ) (f b : Option ℕ) (es : List (ℕ × T)) (l x : Option ℕ) → IsSegment at k f b es l x → l ≡ last_id b es
  last_is at k f b [] l x s = s.1
  last_is at k f b (e ∷ es) l x s = last_is at k s.0 (Some e.0) es l x s.3

  -- and begins with its first
  pub first_is : (at : NodeAt T) (k : ℕ) (f b : Option ℕ) (es : List (ℕ × T)) (l : Option ℕ) → IsSegment at k f b es l None → f ≡ first_id es
  first_is at k f b [] l s = s.0
  first_is at k f b (e ∷ es) l s = s.1

  -- the last node of a segment points to what comes next
  pub last_points : (at : NodeAt T) (k : ℕ) (f b : Option ℕ) (e : ℕ × T) (es : List (ℕ × T)) (l x : Option ℕ) (id : ℕ) → IsSegment at k f b (e ∷ es) l x → l ≡ Some id → (p : Option ℕ) × (v : T) × (at id ≡ Some (used k p x v))
  last_points at k f b e [] l x id s h =
      let one : Some e.0 ≡ Some id = sym s.3.1 ∙ h in
      let same : e.0 ≡ id = cc in
      (b, e.1, subst (λ (i : ℕ). at i ≡ Some (used k b x e.1)) same (s.2 ∙ ap (λ (n : Option ℕ). Some (used k b n e.1)) s.3.0))
  last_points at k f b e (g ∷ es) l x id s h = last_points at k s.0 (Some e.0) g es l x id s.3 h

  -- what is at an id that no link of the place names
  pub relinked_off : (q x fw bk : Option ℕ) (id : ℕ) (o : Option (Node T)) → names q id ≡ false → names x id ≡ false → option_map (relinked q x fw bk id) o ≡ o
  relinked_off q x fw bk id None h g = refl
  relinked_off q x fw bk id (Some n) h g = rw (h, g)

  -- what is at an id once it is linked anew
  pub relinked_at : (at at' : NodeAt T) (q x fw bk : Option ℕ) (id : ℕ) (n n' : Node T) → at' id ≡ option_map (relinked q x fw bk id) (at id) → at id ≡ Some n → relinked q x fw bk id n ≡ n' → at' id ≡ Some n'
  relinked_at at at' q x fw bk id n n' h here same = h ∙ ap (λ (o : Option (Node T)). option_map (relinked q x fw bk id) o) here ∙ ap (λ (m : Node T). Some m) same

  -- a segment whose last node is to point to something else
  pub ends_anew : (at at' : NodeAt T) (k : ℕ) (f b : Option ℕ) (e : ℕ × T) (es : List (ℕ × T)) (q m x fw bk : Option ℕ) → IsSegment at k f b (e ∷ es) q m → Differ (e ∷ es) → ((id : ℕ) (v : T) → item_in (e ∷ es) id ≡ Some v → names x id ≡ false) → ((id : ℕ) (v : T) → item_in (e ∷ es) id ≡ Some v → at' id ≡ option_map (relinked q x fw bk id) (at id)) → IsSegment at' k f b (e ∷ es) q fw
  ends_anew at at' k f b e [] q m x fw bk s d off anew =
      let here = item_in-hit e [] e.0 refl in
      let named : names q e.0 ≡ true = rw s.3.1 (eq-eqb e.0 e.0 refl) in
      let unnamed : names x e.0 ≡ false = off e.0 e.1 here in
      let node = relinked_at at at' q x fw bk e.0 (used k b s.0 e.1) (used k b fw e.1) (anew e.0 e.1 here) s.2 (rw (named, unnamed)) in
      (fw, s.1, node, (refl, s.3.1))
  ends_anew at at' k f b e (g ∷ es) q m x fw bk s d off anew =
      let here = item_in-hit e (g ∷ es) e.0 refl in
      let last = last_is_in (Some e.0) g es in
      let is_last : q ≡ Some last.0 = last_is at k s.0 (Some e.0) (g ∷ es) q m s.3 ∙ last.2 in
      let apart : last.0 ≡ e.0 → ⊥ = λ same. is_not_first e (g ∷ es) last.0 last.1 d.0 last.3 (sym same) in
      let named : names q e.0 ≡ false = rw is_last (other_id last.0 e.0 apart) in
      let unnamed : names x e.0 ≡ false = off e.0 e.1 here in (
        s.0,
        s.1,
        anew e.0 e.1 here ∙ relinked_off q x fw bk e.0 (at e.0) named unnamed ∙ s.2,
        ends_anew at at' k s.0 (Some e.0) g es q m x fw bk s.3 d.1
            (λ id v h. let more = item_in-more e (g ∷ es) id v h in off id more.0 more.1)
            (λ id v h. let more = item_in-more e (g ∷ es) id v h in anew id more.0 more.1),
      )

  -- a segment whose first node is to point back to something else
  pub starts_anew : (at at' : NodeAt T) (k : ℕ) (x p : Option ℕ) (es : List (ℕ × T)) (q l fw bk : Option ℕ) → IsSegment at k x p es l None → Differ es → ((id : ℕ) (v : T) → item_in es id ≡ Some v → names q id ≡ false) → ((id : ℕ) (v : T) → item_in es id ≡ Some v → at' id ≡ option_map (relinked q x fw bk id) (at id)) → IsSegment at' k x bk es (last_id bk es) None
  starts_anew at at' k x p [] q l fw bk s d off anew = (s.0, refl)
  starts_anew at at' k x p (e ∷ es) q l fw bk s d off anew =
      let here = item_in-hit e es e.0 refl in
      let named : names x e.0 ≡ true = rw s.1 (eq-eqb e.0 e.0 refl) in
      let unnamed : names q e.0 ≡ false = off e.0 e.1 here in
      let node = relinked_at at at' q x fw bk e.0 (used k p s.0 e.1) (used k bk s.0 e.1) (anew e.0 e.1 here) s.2 (rw (named, unnamed)) in
      let rest : IsSegment at k s.0 (Some e.0) es (last_id (Some e.0) es) None = subst (λ (o : Option ℕ). IsSegment at k s.0 (Some e.0) es o None) (last_is at k s.0 (Some e.0) es l None s.3) s.3 in (
        s.0,
        s.1,
        node,
        frame at at' k s.0 (Some e.0) es (last_id (Some e.0) es) None
            (λ id v h.
            let more = item_in-more e es id v h in
            let apart : e.0 ≡ id → ⊥ = is_not_first e es id v d.0 h in
            let not_first : names x id ≡ false = rw s.1 (other_id e.0 id apart) in
            anew id more.0 more.1 ∙ relinked_off q x fw bk id (at id) (off id more.0 more.1) not_first)
            rest,
      )

  -- the first and the last id of a segment name none that is not in it
  pub off_first : (at : NodeAt T) (k : ℕ) (x p : Option ℕ) (post : List (ℕ × T)) (l : Option ℕ) (id : ℕ) → IsSegment at k x p post l None → item_in post id ≡ None → names x id ≡ false
  off_first at k x p [] l id s off = rw s.0
  off_first at k x p (e ∷ post) l id s off = rw s.1 (other_id e.0 id (λ same. let hit = item_in-hit e post id same in cc))

  pub off_last : (at : NodeAt T) (k : ℕ) (f : Option ℕ) (pre : List (ℕ × T)) (q m : Option ℕ) (id : ℕ) → IsSegment at k f None pre q m → item_in pre id ≡ None → names q id ≡ false
  off_last at k f [] q m id s off = rw s.1
  off_last at k f (e ∷ pre) q m id s off =
      let last = last_is_in None e pre in
      let is_last : q ≡ Some last.0 = last_is at k f None (e ∷ pre) q m s ∙ last.2 in
      rw is_last (other_id last.0 id (λ same. let there : item_in (e ∷ pre) id ≡ Some last.1 = subst (λ (i : ℕ). item_in (e ∷ pre) i ≡ Some last.1) same last.3 in cc))

  -- the two parts of a chain, once what stands around the place between them is linked anew
  pub spliced : (at at' : NodeAt T) (k : ℕ) (f : Option ℕ) (pre post : List (ℕ × T)) (q m x p l fw bk : Option ℕ) → IsSegment at k f None pre q m → IsSegment at k x p post l None → Differ (pre ++ post) → ((id : ℕ) (v : T) → item_in (pre ++ post) id ≡ Some v → at' id ≡ option_map (relinked q x fw bk id) (at id)) → IsSegment at' k (old_unless_none q fw f) None pre q fw × IsSegment at' k x bk post (old_unless_none x bk l) None
  spliced at at' k f pre post q m x p l fw bk s t d anew =
      let apart = Differ-parts pre post d in (
        first_part pre s apart.0 (λ id v h. off_first at k x p post l id t (apart.2 id v h)) (λ id v h. anew id v (item_in-append_left pre post id v h)),
        second_part post t (starts_anew at at' k x p post q l fw bk t apart.1 (λ id v h. off_last at k f pre q m id s (apart_back pre post id v apart.2 h)) (λ id v h. both id v h (found pre id))),
      )
    where
      first_part : (es : List (ℕ × T)) → IsSegment at k f None es q m → Differ es → ((id : ℕ) (v : T) → item_in es id ≡ Some v → names x id ≡ false) → ((id : ℕ) (v : T) → item_in es id ≡ Some v → at' id ≡ option_map (relinked q x fw bk id) (at id)) → IsSegment at' k (old_unless_none q fw f) None es q fw
      first_part [] s' d' off' anew' = (rw s'.1, s'.1)
      first_part (e ∷ es) s' d' off' anew' =
          let last = last_is_in None e es in
          let is_last : q ≡ Some last.0 = last_is at k f None (e ∷ es) q m s' ∙ last.2 in
          let first : f ≡ old_unless_none q fw f = rw is_last in
          subst (λ (o : Option ℕ). IsSegment at' k o None (e ∷ es) q fw) first (ends_anew at at' k f None e es q m x fw bk s' d' off' anew')

      second_part : (es : List (ℕ × T)) → IsSegment at k x p es l None → IsSegment at' k x bk es (last_id bk es) None → IsSegment at' k x bk es (old_unless_none x bk l) None
      second_part [] t' u = (u.0, rw t'.0)
      second_part (e ∷ es) t' u =
          let last : last_id bk (e ∷ es) ≡ old_unless_none x bk l = rw t'.1 (sym (last_is at k x p (e ∷ es) l None t')) in
          subst (λ (o : Option ℕ). IsSegment at' k x bk (e ∷ es) o None) last u

      both : (id : ℕ) (v : T) → item_in post id ≡ Some v → ((item_in pre id ≡ None) ⊎ ((w : T) × (item_in pre id ≡ Some w))) → at' id ≡ option_map (relinked q x fw bk id) (at id)
      both id v h (inl n) = anew id v (item_in-append_right pre post id n ∙ h)
      both id v h (inr w) = anew id w.0 (item_in-append_left pre post id w.0 w.1)

  pub after_is : (at : NodeAt T) (k : ℕ) (f : Option ℕ) (pre : List (ℕ × T)) (q m x : Option ℕ) → IsSegment at k f None pre q m → IsAfter at f q x → x ≡ m
  after_is at k f [] q m x s after = after.at_start s.1 ∙ s.0
  after_is at k f (e ∷ pre) q m x s after =
      let last = last_is_in None e pre in
      let is_last : q ≡ Some last.0 = last_is at k f None (e ∷ pre) q m s ∙ last.2 in
      let node = last_points at k f None e pre q m last.0 s is_last in
      after.at_node last.0 (used k node.0 m node.1) is_last node.2

  -- what of the nodes stays as one is put into a chain, and as one is taken out
  pub record IsInsertion (at at' : NodeAt T) (k : ℕ) (q x : Option ℕ) (new : ℕ) (v : T) : Type 0 where
    pub put : at' new ≡ Some (relinked q x (Some new) (Some new) new (used k q x v))
    pub others : (id : ℕ) → (id ≡ new → ⊥) → at' id ≡ option_map (relinked q x (Some new) (Some new) id) (at id)

  pub insert_chain : (at at' : NodeAt T) (k : ℕ) (f l : Option ℕ) (pre post : List (ℕ × T)) (q x : Option ℕ) (new : ℕ) (v : T) → IsSegment at k f None (pre ++ post) l None → q ≡ last_id None pre → IsAfter at f q x → item_in (pre ++ post) new ≡ None → IsInsertion at at' k q x new v → IsSegment at' k (old_unless_none q (Some new) f) None (pre ++ (new, v) ∷ post) (old_unless_none x (Some new) l) None
  insert_chain at at' k f l pre post q x new v s is_q after off ins =
      let both = parts at k f None pre post l None s in
      let first : IsSegment at k f None pre q both.0 = rw is_q both.1 in
      let is_x : both.0 ≡ x = sym (after_is at k f pre q both.0 x first after) in
      let second : IsSegment at k x q post l None = rw (is_q, ← is_x) both.2 in
      let d = differ at k f None (pre ++ post) l s in
      let off_q : names q new ≡ false = off_last at k f pre q both.0 new first (absent_left pre post new off) in
      let off_x : names x new ≡ false = off_first at k x q post l new second (absent_right pre post new off) in
      let put : at' new ≡ Some (used k q x v) = ins.put ∙ relinked_off q x (Some new) (Some new) new (Some (used k q x v)) off_q off_x in
      let anew : (id : ℕ) (w : T) → item_in (pre ++ post) id ≡ Some w → at' id ≡ option_map (relinked q x (Some new) (Some new) id) (at id) = λ id w h. ins.others id (λ same. let here : item_in (pre ++ post) id ≡ None = subst (λ (i : ℕ). item_in (pre ++ post) i ≡ None) (sym same) off in cc) in
      let done = spliced at at' k f pre post q both.0 x q l (Some new) (Some new) first second d anew in
      join at' k (old_unless_none q (Some new) f) None pre ((new, v) ∷ post) q (Some new) (old_unless_none x (Some new) l) None done.0 (x, refl, put, done.1)

  -- a node that is not in the chain stays as it was
  pub insertion_keeps : (at at' : NodeAt T) (k : ℕ) (f l : Option ℕ) (pre post : List (ℕ × T)) (q x : Option ℕ) (new : ℕ) (v : T) (id : ℕ) → IsSegment at k f None (pre ++ post) l None → q ≡ last_id None pre → IsAfter at f q x → IsInsertion at at' k q x new v → (id ≡ new → ⊥) → item_in (pre ++ post) id ≡ None → at' id ≡ at id
  insertion_keeps at at' k f l pre post q x new v id s is_q after ins other off =
      let both = parts at k f None pre post l None s in
      let first : IsSegment at k f None pre q both.0 = rw is_q both.1 in
      let is_x : both.0 ≡ x = sym (after_is at k f pre q both.0 x first after) in
      let second : IsSegment at k x q post l None = rw (is_q, ← is_x) both.2 in
      let off_q : names q id ≡ false = off_last at k f pre q both.0 id first (absent_left pre post id off) in
      let off_x : names x id ≡ false = off_first at k x q post l id second (absent_right pre post id off) in
      ins.others id other ∙ relinked_off q x (Some new) (Some new) id (at id) off_q off_x

  -- the node of an entry, where the entry stands in its chain
  pub record IsPlaced (at : NodeAt T) (k : ℕ) (f l : Option ℕ) (pre : List (ℕ × T)) (id : ℕ) (v : T) (post : List (ℕ × T)) (q x : Option ℕ) : Type 0 where
    pub node : at id ≡ Some (used k q x v)
    pub before : q ≡ last_id None pre
    pub next : x ≡ first_id post
    pub first : IsSegment at k f None pre q (Some id)
    pub second : IsSegment at k x (Some id) post l None
    pub off : item_in (pre ++ post) id ≡ None
    pub differs : Differ (pre ++ post)

  pub placed : (at : NodeAt T) (k : ℕ) (f l : Option ℕ) (pre : List (ℕ × T)) (id : ℕ) (v : T) (post : List (ℕ × T)) → IsSegment at k f None (pre ++ (id, v) ∷ post) l None → (q : Option ℕ) × (x : Option ℕ) × IsPlaced at k f l pre id v post q x
  placed at k f l pre id v post s =
      let both = parts at k f None pre ((id, v) ∷ post) l None s in
      let d = Differ-middle pre (id, v) post (differ at k f None (pre ++ (id, v) ∷ post) l s) in (
        last_id None pre,
        both.2.0,
        record {
          node = both.2.2;
          before = refl;
          next = first_is at k both.2.0 (Some id) post l both.2.3;
          first = subst (λ (m : Option ℕ). IsSegment at k f None pre (last_id None pre) m) both.2.1 both.1;
          second = both.2.3;
          off = d.1;
          differs = d.0;
        },
      )

  pub record IsRemoval (at at' : NodeAt T) (q x : Option ℕ) (id : ℕ) : Type 0 where
    pub others : (i : ℕ) → (i ≡ id → ⊥) → at' i ≡ option_map (relinked q x x q i) (at i)

  pub remove_chain : (at at' : NodeAt T) (k : ℕ) (f l : Option ℕ) (pre : List (ℕ × T)) (id : ℕ) (v : T) (post : List (ℕ × T)) (q x : Option ℕ) → IsPlaced at k f l pre id v post q x → IsRemoval at at' q x id → IsSegment at' k (old_unless_none q x f) None (pre ++ post) (old_unless_none x q l) None
  remove_chain at at' k f l pre id v post q x p rem =
      let anew : (i : ℕ) (w : T) → item_in (pre ++ post) i ≡ Some w → at' i ≡ option_map (relinked q x x q i) (at i) = λ i w h. rem.others i (λ same. let here : item_in (pre ++ post) i ≡ None = subst (λ (j : ℕ). item_in (pre ++ post) j ≡ None) (sym same) p.off in cc) in
      let done = spliced at at' k f pre post q (Some id) x (Some id) l x q p.first p.second p.differs anew in
      join at' k (old_unless_none q x f) None pre post q x (old_unless_none x q l) None done.0 done.1

  pub removal_keeps : (at at' : NodeAt T) (k : ℕ) (f l : Option ℕ) (pre : List (ℕ × T)) (id : ℕ) (v : T) (post : List (ℕ × T)) (q x : Option ℕ) (i : ℕ) → IsPlaced at k f l pre id v post q x → IsRemoval at at' q x id → (i ≡ id → ⊥) → item_in (pre ++ post) i ≡ None → at' i ≡ at i
  removal_keeps at at' k f l pre id v post q x i p rem other off =
      rem.others i other ∙ relinked_off q x x q i (at i) (off_last at k f pre q (Some id) i p.first (absent_left pre post i off)) (off_first at k x (Some id) post l i p.second (absent_right pre post i off))
