-- Lists of entries: what finding, inserting and removing by an id do.
use Rattle.std.proofs.Common.{◌≡◌, ◌⊎◌, ℕ, zero, suc, ◌<◌, ◌≤◌, ◌==◌, true, false, List, [], ◌∷◌, ◌++◌, length, Option, Some, None, IsSome, IfSome, refl, sym, ap, subst, ◌∙◌, inl, inr, arith, true≢false, append_assoc, length-append}
use Rattle.std.proofs.lemmas.Bool.{cases_eq}
use Rattle.std.proofs.lemmas.Bool.Decides.{nat_tests}
use Rattle.ir_arena.specs.Chains.{item_in, inserted, without, with_item, last_id, first_id, next_in, before_in, Differ}

-- two ids are one, or are told apart
pub test_id : (a b : ℕ) → ((a ≡ b) × ((a == b) ≡ true)) ⊎ ((a ≡ b → ⊥) × ((a == b) ≡ false))
test_id a b =
    elim (cases_eq a b) [
      | inl e ↦ inl (e, grind (arith, nat_tests))
      | inr n ↦ inr (n, grind (arith, nat_tests))
    ]

pub other_id : (a b : ℕ) → (a ≡ b → ⊥) → (a == b) ≡ false
other_id a b n =
    elim (test_id a b) [
      | inl t ↦ absurd (n t.0)
      | inr t ↦ t.1
    ]

module _ {T : Type 0} where
  pub item_in-hit : (e : ℕ × T) (es : List (ℕ × T)) (id : ℕ) → e.0 ≡ id → item_in (e ∷ es) id ≡ Some e.1
  item_in-hit e es id h =
      elim (test_id e.0 id) [
        | inl t ↦ rw t.1
        | inr t ↦ absurd (t.0 h)
      ]

  pub item_in-miss : (e : ℕ × T) (es : List (ℕ × T)) (id : ℕ) → (e.0 ≡ id → ⊥) → item_in (e ∷ es) id ≡ item_in es id
  item_in-miss e es id h =
      elim (test_id e.0 id) [
        | inl t ↦ absurd (h t.0)
        | inr t ↦ rw t.1
      ]

  -- an id of the rest is one of the whole
  pub item_in-more : (e : ℕ × T) (es : List (ℕ × T)) (id : ℕ) (v : T) → item_in es id ≡ Some v → (w : T) × (item_in (e ∷ es) id ≡ Some w)
  item_in-more e es id v h =
      elim (test_id e.0 id) [
        | inl t ↦ (e.1, item_in-hit e es id t.0)
        | inr t ↦ (v, item_in-miss e es id t.0 ∙ h)
      ]

  -- in a list that begins with an entry of this id nothing else has it
  pub is_not_first : (e : ℕ × T) (es : List (ℕ × T)) (id : ℕ) (v : T) → item_in es e.0 ≡ None → item_in es id ≡ Some v → e.0 ≡ id → ⊥
  is_not_first e es id v off h same = let there : item_in es e.0 ≡ Some v = rw same h in cc

  -- the last id is in the list
  pub last_is_in : (before : Option ℕ) (e : ℕ × T) (es : List (ℕ × T)) → (id : ℕ) × (v : T) × (last_id before (e ∷ es) ≡ Some id) × (item_in (e ∷ es) id ≡ Some v)
  last_is_in before e [] = (e.0, e.1, refl, item_in-hit e [] e.0 refl)
  last_is_in before e (f ∷ es) =
      let rest = last_is_in (Some e.0) f es in
      let more = item_in-more e (f ∷ es) rest.0 rest.1 rest.3 in
      (rest.0, more.0, rest.2, more.1)

  pub item_in-append_left : (pre post : List (ℕ × T)) (id : ℕ) (v : T) → item_in pre id ≡ Some v → item_in (pre ++ post) id ≡ Some v
  item_in-append_left [] post id v h = absurd (cc)
  item_in-append_left (e ∷ pre) post id v h =
      elim (test_id e.0 id) [
        | inl t ↦ item_in-hit e (pre ++ post) id t.0 ∙ sym (item_in-hit e pre id t.0) ∙ h
        | inr t ↦ item_in-miss e (pre ++ post) id t.0 ∙ item_in-append_left pre post id v (sym (item_in-miss e pre id t.0) ∙ h)
      ]

  pub item_in-append_right : (pre post : List (ℕ × T)) (id : ℕ) → item_in pre id ≡ None → item_in (pre ++ post) id ≡ item_in post id
  item_in-append_right [] post id h = refl
  item_in-append_right (e ∷ pre) post id h =
      elim (test_id e.0 id) [
        | inl t ↦ let hit = item_in-hit e pre id t.0 in absurd (cc)
        | inr t ↦ item_in-miss e (pre ++ post) id t.0 ∙ item_in-append_right pre post id (sym (item_in-miss e pre id t.0) ∙ h)
      ]

  -- an id is in a list or not
  pub found : (es : List (ℕ × T)) (id : ℕ) → (item_in es id ≡ None) ⊎ ((v : T) × (item_in es id ≡ Some v))
  found es id = by_case (item_in es id) refl
    where
      by_case : (o : Option T) → item_in es id ≡ o → (item_in es id ≡ None) ⊎ ((v : T) × (item_in es id ≡ Some v))
      by_case None h = inl h
      by_case (Some v) h = inr (v, h)

  -- an id that is not in a list is in no part of it
  pub absent_left : (pre post : List (ℕ × T)) (id : ℕ) → item_in (pre ++ post) id ≡ None → item_in pre id ≡ None
  absent_left pre post id h =
      elim (found pre id) [
        | inl n ↦ n
        | inr s ↦ let there = item_in-append_left pre post id s.0 s.1 in absurd (cc)
      ]

  pub absent_right : (pre post : List (ℕ × T)) (id : ℕ) → item_in (pre ++ post) id ≡ None → item_in post id ≡ None
  absent_right pre post id h = sym (item_in-append_right pre post id (absent_left pre post id h)) ∙ h

  -- two lists that share no id
  abbrev pub IsApart : List (ℕ × T) → List (ℕ × T) → Type 0
  IsApart pre post = (id : ℕ) (v : T) → item_in pre id ≡ Some v → item_in post id ≡ None

  pub apart_back : (pre post : List (ℕ × T)) (id : ℕ) (v : T) → IsApart pre post → item_in post id ≡ Some v → item_in pre id ≡ None
  apart_back pre post id v apart h =
      elim (found pre id) [
        | inl n ↦ n
        | inr s ↦ let none = apart id s.0 s.1 in absurd (cc)
      ]

  pub Differ-parts : (pre post : List (ℕ × T)) → Differ (pre ++ post) → Differ pre × Differ post × IsApart pre post
  Differ-parts [] post d = (tt, d, λ id v h. absurd (cc))
  Differ-parts (e ∷ pre) post d =
      let rest = Differ-parts pre post d.1 in (
        (absent_left pre post e.0 d.0, rest.0),
        rest.1,
        λ id v h. elim (test_id e.0 id) [
          | inl t ↦ subst (λ (i : ℕ). item_in post i ≡ None) t.0 (absent_right pre post e.0 d.0)
          | inr t ↦ rest.2 id v (sym (item_in-miss e pre id t.0) ∙ h)
        ],
      )

  -- a list without the entry of an id that it does not have
  pub without-absent : (id : ℕ) (es : List (ℕ × T)) → item_in es id ≡ None → without id es ≡ es
  without-absent id [] h = refl
  without-absent id (e ∷ es) h =
      elim (test_id e.0 id) [
        | inl t ↦ let hit = item_in-hit e es id t.0 in absurd (cc)
        | inr t ↦ rw t.1 (ap (λ (l : List (ℕ × T)). e ∷ l) (without-absent id es (sym (item_in-miss e es id t.0) ∙ h)))
      ]

  pub with_item-absent : (id : ℕ) (w : T) (es : List (ℕ × T)) → item_in es id ≡ None → with_item id w es ≡ es
  with_item-absent id w [] h = refl
  with_item-absent id w (e ∷ es) h =
      elim (test_id e.0 id) [
        | inl t ↦ let hit = item_in-hit e es id t.0 in absurd (cc)
        | inr t ↦ rw t.1 (ap (λ (l : List (ℕ × T)). e ∷ l) (with_item-absent id w es (sym (item_in-miss e es id t.0) ∙ h)))
      ]

  -- where the entry of an id stands in a list, and what each function on lists does there
  pub record IsSplit (es : List (ℕ × T)) (id : ℕ) (v : T) (pre post : List (ℕ × T)) : Type 0 where
    pub whole : es ≡ pre ++ (id, v) ∷ post
    pub gone : Differ es → without id es ≡ pre ++ post
    pub inserts : (e : ℕ × T) → inserted es (Some id) e ≡ pre ++ (id, v) ∷ e ∷ post
    pub follows : next_in es id ≡ first_id post
    pub precedes : (b : Option ℕ) → before_in b es id ≡ last_id b pre
    pub changed : (w : T) → Differ es → with_item id w es ≡ pre ++ (id, w) ∷ post

  pub split_more : (e : ℕ × T) (es : List (ℕ × T)) (id : ℕ) (v : T) (pre post : List (ℕ × T)) → (e.0 == id) ≡ false → IsSplit es id v pre post → IsSplit (e ∷ es) id v (e ∷ pre) post
  split_more e es id v pre post other rest = record {
    whole = ap (λ (l : List (ℕ × T)). e ∷ l) rest.whole;
    gone = λ d. rw other (ap (λ (l : List (ℕ × T)). e ∷ l) (rest.gone d.1));
    inserts = λ g. rw other (ap (λ (l : List (ℕ × T)). e ∷ l) (rest.inserts g));
    follows = rw other rest.follows;
    precedes = λ b. rw other (rest.precedes (Some e.0));
    changed = λ w d. rw other (ap (λ (l : List (ℕ × T)). e ∷ l) (rest.changed w d.1));
  }

  pub split_at : (es : List (ℕ × T)) (id : ℕ) (v : T) → item_in es id ≡ Some v → (pre : List (ℕ × T)) × (post : List (ℕ × T)) × IsSplit es id v pre post
  split_at [] id v h = absurd (cc)
  split_at (e ∷ es) id v h =
      elim (test_id e.0 id) [
        | inl t ↦
            let hit = item_in-hit e es id t.0 in
            let item : e.1 ≡ v = cc in
            let entry : e ≡ (id, v) = ap (λ (i : ℕ). (i, e.1)) t.0 ∙ ap (λ (w : T). (id, w)) item in (
              [],
              es,
              record {
                whole = ap (λ (g : ℕ × T). g ∷ es) entry;
                gone = λ d. rw t.1 (without-absent id es (subst (λ (i : ℕ). item_in es i ≡ None) t.0 d.0));
                inserts = λ g. rw t.1 (ap (λ (a : ℕ × T). a ∷ g ∷ es) entry);
                follows = rw t.1;
                precedes = λ b. rw t.1;
                changed = λ w d. rw t.1 (ap (λ (l : List (ℕ × T)). (id, w) ∷ l) (with_item-absent id w es (subst (λ (i : ℕ). item_in es i ≡ None) t.0 d.0)));
              },
            )
        | inr t ↦
            let rest = split_at es id v (sym (item_in-miss e es id t.0) ∙ h) in
            (e ∷ rest.0, rest.1, split_more e es id v rest.0 rest.1 t.1 rest.2)
      ]

  -- what differs in a whole differs without one entry, which has an id of its own
  pub Differ-middle : (pre : List (ℕ × T)) (e : ℕ × T) (post : List (ℕ × T)) → Differ (pre ++ e ∷ post) → Differ (pre ++ post) × (item_in (pre ++ post) e.0 ≡ None)
  Differ-middle [] e post d = (d.1, d.0)
  Differ-middle (g ∷ pre) e post d =
      let rest = Differ-middle pre e post d.1 in
      let before = absent_left pre (e ∷ post) g.0 d.0 in
      let after = absent_right pre (e ∷ post) g.0 d.0 in
      let here = item_in-hit e post e.0 refl in
      let apart : e.0 ≡ g.0 → ⊥ = λ same. let hit = item_in-hit e post g.0 same in cc in
      let gone : item_in (pre ++ post) g.0 ≡ None = item_in-append_right pre post g.0 before ∙ sym (item_in-miss e post g.0 apart) ∙ after in
      ((gone, rest.0), item_in-miss g (pre ++ post) e.0 (λ same. apart (sym same)) ∙ rest.1)

  pub last_id-push : (b : Option ℕ) (pre : List (ℕ × T)) (e : ℕ × T) → last_id b (pre ++ e ∷ []) ≡ Some e.0
  last_id-push b [] e = refl
  last_id-push b (g ∷ pre) e = last_id-push (Some g.0) pre e

  -- where an entry goes that is inserted
  pub record IsGap (es : List (ℕ × T)) (after : Option ℕ) (pre post : List (ℕ × T)) : Type 0 where
    pub whole : es ≡ pre ++ post
    pub before : after ≡ last_id None pre
    pub inserts : (e : ℕ × T) → inserted es after e ≡ pre ++ e ∷ post

  pub gap_at : (es : List (ℕ × T)) (after : Option ℕ) → ((a : ℕ) → after ≡ Some a → IsSome (item_in es a)) → (pre : List (ℕ × T)) × (post : List (ℕ × T)) × IsGap es after pre post
  gap_at es None has = ([], es, record { whole = refl; before = refl; inserts = λ e. refl })
  gap_at es (Some a) has =
      elim (found es a) [
        | inl n ↦ let some : IsSome (item_in es a) = has a refl in absurd (true≢false (sym (rw n at some)))
        | inr s ↦
            let split = split_at es a s.0 s.1 in
            let last : List (ℕ × T) = (a, s.0) ∷ [] in (
              split.0 ++ last,
              split.1,
              record {
                whole = split.2.whole ∙ sym (append_assoc split.0 last split.1);
                before = sym (last_id-push None split.0 (a, s.0));
                inserts = λ e. split.2.inserts e ∙ sym (append_assoc split.0 last (e ∷ split.1));
              },
            )
      ]

  -- an id that is said to be in a list is in it
  pub has_item : (es : List (ℕ × T)) (id : ℕ) → IsSome (item_in es id) → (v : T) × (item_in es id ≡ Some v)
  has_item es id has =
      elim (found es id) [
        | inl n ↦ absurd (true≢false (sym (rw n at has)))
        | inr s ↦ s
      ]

  pub length-insert : (pre post : List (ℕ × T)) (e : ℕ × T) → length (pre ++ e ∷ post) ≡ suc (length (pre ++ post))
  length-insert pre post e =
      let one = length-append pre (e ∷ post) in
      let two = length-append pre post in
      omega arith

  -- an id of the rest is one of the whole with one entry more
  pub in_more : (pre post : List (ℕ × T)) (e : ℕ × T) (id : ℕ) (v : T) → (e.0 ≡ id → ⊥) → item_in (pre ++ post) id ≡ Some v → item_in (pre ++ e ∷ post) id ≡ Some v
  in_more pre post e id v other h =
      elim (found pre id) [
        | inl n ↦ item_in-append_right pre (e ∷ post) id n ∙ item_in-miss e post id other ∙ sym (item_in-append_right pre post id n) ∙ h
        | inr s ↦
            let one = item_in-append_left pre post id s.0 s.1 in
            let same : Some s.0 ≡ Some v = sym one ∙ h in
            item_in-append_left pre (e ∷ post) id s.0 s.1 ∙ same
      ]

  pub item_in-same_rest : (e : ℕ × T) (xs ys : List (ℕ × T)) (id : ℕ) → item_in xs id ≡ item_in ys id → item_in (e ∷ xs) id ≡ item_in (e ∷ ys) id
  item_in-same_rest e xs ys id same =
      elim (test_id e.0 id) [
        | inl t ↦ item_in-hit e xs id t.0 ∙ sym (item_in-hit e ys id t.0)
        | inr t ↦ item_in-miss e xs id t.0 ∙ same ∙ sym (item_in-miss e ys id t.0)
      ]

  -- other ids keep their items as an entry goes or comes
  pub item_in-without : (id : ℕ) (es : List (ℕ × T)) (other : ℕ) → (other ≡ id → ⊥) → item_in (without id es) other ≡ item_in es other
  item_in-without id [] other ne = refl
  item_in-without id (e ∷ es) other ne =
      elim (test_id e.0 id) [
        | inl t ↦
            let miss = item_in-miss e es other (λ same. ne (sym same ∙ t.0)) in
            let gone : without id (e ∷ es) ≡ without id es = rw t.1 in
            rw gone (item_in-without id es other ne ∙ sym miss)
        | inr t ↦
            let kept : without id (e ∷ es) ≡ e ∷ without id es = rw t.1 in
            rw kept (item_in-same_rest e (without id es) es other (item_in-without id es other ne))
      ]

  pub item_in-inserted : (es : List (ℕ × T)) (after : Option ℕ) (entry : ℕ × T) (other : ℕ) → (other ≡ entry.0 → ⊥) → item_in (inserted es after entry) other ≡ item_in es other
  item_in-inserted es None entry other ne = item_in-miss entry es other (λ same. ne (sym same))
  item_in-inserted [] (Some after) entry other ne = item_in-miss entry [] other (λ same. ne (sym same))
  item_in-inserted (e ∷ es) (Some after) entry other ne =
      elim (test_id e.0 after) [
        | inl t ↦
            let is : inserted (e ∷ es) (Some after) entry ≡ e ∷ entry ∷ es = rw t.1 in
            rw is (item_in-same_rest e (entry ∷ es) es other (item_in-miss entry es other (λ same. ne (sym same))))
        | inr t ↦
            let is : inserted (e ∷ es) (Some after) entry ≡ e ∷ inserted es (Some after) entry = rw t.1 in
            rw is (item_in-same_rest e (inserted es (Some after) entry) es other (item_in-inserted es (Some after) entry other ne))
      ]

  -- what is found in a list has its item there
  pub has_found : (es : List (ℕ × T)) (id : ℕ) (v : T) → item_in es id ≡ Some v → IsSome (item_in es id)
  has_found es id v h = rw h refl

  pub first_in_list : (es : List (ℕ × T)) (id : ℕ) → first_id es ≡ Some id → IsSome (item_in es id)
  first_in_list [] id h = absurd (cc)
  first_in_list (e ∷ es) id h = let same : e.0 ≡ id = cc in has_found (e ∷ es) id e.1 (item_in-hit e es id same)

  pub last_in_list : (es : List (ℕ × T)) (id : ℕ) → last_id None es ≡ Some id → IsSome (item_in es id)
  last_in_list [] id h = absurd (cc)
  last_in_list (e ∷ es) id h =
      let last = last_is_in None e es in
      let one : Some last.0 ≡ Some id = sym last.2 ∙ h in
      let same : last.0 ≡ id = cc in
      has_found (e ∷ es) id last.1 (subst (λ (i : ℕ). item_in (e ∷ es) i ≡ Some last.1) same last.3)

  pub has_more : (e : ℕ × T) (es : List (ℕ × T)) (id : ℕ) → IsSome (item_in es id) → IsSome (item_in (e ∷ es) id)
  has_more e es id h =
      let v = has_item es id h in
      let w = item_in-more e es id v.0 v.1 in
      has_found (e ∷ es) id w.0 w.1

  pub next_in_list : (es : List (ℕ × T)) (id next : ℕ) → next_in es id ≡ Some next → IsSome (item_in es next)
  next_in_list [] id next h = absurd (cc)
  next_in_list (e ∷ es) id next h =
      elim (test_id e.0 id) [
        | inl t ↦
            let is : next_in (e ∷ es) id ≡ first_id es = rw t.1 in
            has_more e es next (first_in_list es next (sym is ∙ h))
        | inr t ↦
            let is : next_in (e ∷ es) id ≡ next_in es id = rw t.1 in
            has_more e es next (next_in_list es id next (sym is ∙ h))
      ]

  pub before_in_list : (b : Option ℕ) (es : List (ℕ × T)) (id before : ℕ) → before_in b es id ≡ Some before → (b ≡ Some before) ⊎ IsSome (item_in es before)
  before_in_list b [] id before h = absurd (cc)
  before_in_list b (e ∷ es) id before h =
      elim (test_id e.0 id) [
        | inl t ↦
            let is : before_in b (e ∷ es) id ≡ b = rw t.1 in
            inl (sym is ∙ h)
        | inr t ↦
            let is : before_in b (e ∷ es) id ≡ before_in (Some e.0) es id = rw t.1 in
            elim (before_in_list (Some e.0) es id before (sym is ∙ h)) [
              | inl here ↦ let same : e.0 ≡ before = cc in inr (has_found (e ∷ es) before e.1 (item_in-hit e es before same))
              | inr there ↦ inr (has_more e es before there)
            ]
      ]

  -- what comes after an id is another one
  pub next_differs : (es : List (ℕ × T)) (id next : ℕ) → Differ es → next_in es id ≡ Some next → next ≡ id → ⊥
  next_differs [] id next d h same = cc
  next_differs (e ∷ es) id next d h same =
      elim (test_id e.0 id) [
        | inl t ↦
            let is : next_in (e ∷ es) id ≡ first_id es = rw t.1 in
            let there = has_item es next (first_in_list es next (sym is ∙ h)) in
            let off : item_in es next ≡ None = subst (λ (i : ℕ). item_in es i ≡ None) (t.0 ∙ sym same) d.0 in
            cc
        | inr t ↦
            let is : next_in (e ∷ es) id ≡ next_in es id = rw t.1 in
            next_differs es id next d.1 (sym is ∙ h) same
      ]

  -- a fact of the id that a link names
  pub found_by : (link : Option ℕ) (es : List (ℕ × T)) → ((id : ℕ) → link ≡ Some id → IsSome (item_in es id)) → IfSome link (λ id. IsSome (item_in es id))
  found_by None es h = tt
  found_by (Some id) es h = h id refl

  -- what comes before an id in a whole list is in the list
  pub before_in_whole : (es : List (ℕ × T)) (id before : ℕ) → before_in None es id ≡ Some before → IsSome (item_in es before)
  before_in_whole es id before h =
      elim (before_in_list None es id before h) [
        | inl none ↦ absurd (cc)
        | inr there ↦ there
      ]
