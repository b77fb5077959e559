-- What a change of one chain does to the blocks.
use Rattle.std.specs.Prelude.{All}
use Rattle.std.proofs.Common.{◌^◌, ◌≡◌, ℕ, zero, suc, ◌<◌, take, List, [], ◌∷◌, ◌++◌, length, map, sum_by, Option, Some, None, slice_get, slice_index_or, set, insert, remove, refl, sym, ap, subst, ◌∙◌, arith}
use Rattle.std.proofs.lemmas.List.{length-map, length-set, get_or-set_same, get_or-set_other, map-append, map-set}
use Rattle.std.proofs.lemmas.List.Sums.{sum_by-set}
use Rattle.std.proofs.lemmas.Option.{slice_get_within}
use Rattle.b3_base.proofs.Lists.{index_map}
use Rattle.ir_arena.specs.Chains.{list_at, item_in, Has, IdsDiffer, in_use, without, with_item, inserted, before_in, last_id}
use Rattle.b3_ir.specs.declared.value.Value.{Value}
use Rattle.b3_ir.specs.declared.procedure.Heading.{Heading}
use Rattle.b3_ir.specs.declared.procedure.SlotLine.{SlotLine}
use Rattle.b3_ir.specs.Procedure.{AllFit, Block, no_block, Kept, Procedure, values_of, nodes_of}
use Rattle.b3_ir.specs.Fits.{Fits}
use Rattle.b3_ir.specs.declared.procedure.SlotLine.{SlotLine}
use Rattle.b3_ir.specs.Layout.{block_of, ids_of, IsKept, IsHeld, IsSound}
use Rattle.b3_ir.proofs.Fitting.{fit_put}
use Rattle.ir_arena.proofs.ListLemmas.{without-absent, with_item-absent}
use Rattle.b3_ir.proofs.Entries.{ids, items, known, without_at, with_at, pushed_at, inserted_at}

-- a map that differs from another at one place
pub map_changed : {A B : Type 0} (f g : A → B) (xs : List A) (i : ℕ) (x : A) → slice_get xs i ≡ Some x → ((j : ℕ) (y : A) → slice_get xs j ≡ Some y → (j ≡ i → ⊥) → g y ≡ f y) → map g xs ≡ set (map f xs) i (g x)
map_changed f g [] i x h same = absurd (cc)
map_changed {A = A} {B = B} f g (y ∷ xs) zero x h same =
    let e : y ≡ x = cc in
    let rest : map g xs ≡ map f xs = all_same xs (λ j z at. same (suc j) z at (λ (n : suc j ≡ zero). omega arith)) in
    rw (e, rest) refl
  where
    all_same : (zs : List A) → ((j : ℕ) (z : A) → slice_get zs j ≡ Some z → g z ≡ f z) → map g zs ≡ map f zs
    all_same [] h = refl
    all_same (z ∷ zs) h = rw (h zero z refl, all_same zs (λ j w at. h (suc j) w at)) refl
map_changed f g (y ∷ xs) (suc i) x h same =
    rw (same zero y refl (λ (n : zero ≡ suc i). omega arith), map_changed f g xs i x h (λ j z at ne. same (suc j) z at (λ (n : suc j ≡ suc i). ne (omega arith)))) refl

-- a map that leaves all lists but one as they are
pub map_only : {E : Type 0} (f : List E → List E) (lists : List (List E)) (c : ℕ) → c < length lists → ((j : ℕ) → (j ≡ c → ⊥) → f (slice_index_or lists j []) ≡ slice_index_or lists j []) → map f lists ≡ set lists c (f (slice_index_or lists c []))
map_only f [] c h same = absurd (omega arith)
map_only {E = E} f (l ∷ lists) zero h same =
    ap (λ (ls : List (List E)). f l ∷ ls) (all_same lists (λ j. same (suc j) (λ (n : suc j ≡ zero). omega arith)))
  where
    all_same : (ls : List (List E)) → ((j : ℕ) → f (slice_index_or ls j []) ≡ slice_index_or ls j []) → map f ls ≡ ls
    all_same [] h = refl
    all_same (l ∷ ls) h = rw (h zero, all_same ls (λ j. h (suc j))) refl
map_only f (l ∷ lists) (suc c) h same =
    let below : c < length lists = omega arith in
    rw (same zero (λ (n : zero ≡ suc c). omega arith), map_only f lists c below (λ j ne. same (suc j) (λ (n : suc j ≡ suc c). ne (omega arith)))) refl

pub map-insert : {A B : Type 0} (f : A → B) (xs : List A) (i : ℕ) (x : A) → map f (insert xs i x) ≡ insert (map f xs) i (f x)
map-insert f [] zero x = refl
map-insert f [] (suc i) x = refl
map-insert f (y ∷ xs) zero x = refl
map-insert {B = B} f (y ∷ xs) (suc i) x = ap (λ (l : List B). f y ∷ l) (map-insert f xs i x)

pub map-remove : {A B : Type 0} (f : A → B) (xs : List A) (i : ℕ) → map f (remove xs i) ≡ remove (map f xs) i
map-remove f [] zero = refl
map-remove f [] (suc i) = refl
map-remove f (y ∷ xs) zero = refl
map-remove {B = B} f (y ∷ xs) (suc i) = ap (λ (l : List B). f y ∷ l) (map-remove f xs i)

module _ (lists : List (List (ℕ × Value))) (c k id : ℕ) (differ : IdsDiffer lists) (at : slice_get (ids (list_at lists c)) k ≡ Some id) (below : c < length lists) where
  -- the id is in no other chain
  absent : (j : ℕ) → (j ≡ c → ⊥) → item_in (list_at lists j) id ≡ None
  absent j ne = by_case (item_in (list_at lists j) id) refl
    where
      by_case : (o : Option Value) → item_in (list_at lists j) id ≡ o → item_in (list_at lists j) id ≡ None
      by_case None is = is
      by_case (Some v) is =
          let here = known (list_at lists c) k id at in
          let has_j : Has (list_at lists j) id = rw is in
          let has_c : Has (list_at lists c) id = rw here.1 in
          absurd (ne (differ.across j c id has_j has_c))

  pub removed : map (without id) lists ≡ set lists c (remove (list_at lists c) k)
  removed = rw (← without_at (list_at lists c) k id (differ.within c) at) (map_only (without id) lists c below (λ j ne. without-absent id (list_at lists j) (absent j ne)))

  pub replaced : (v : Value) → map (with_item id v) lists ≡ set lists c (set (list_at lists c) k (id, v))
  replaced v = rw (← with_at (list_at lists c) k id v (differ.within c) at) (map_only (with_item id v) lists c below (λ j ne. with_item-absent id v (list_at lists j) (absent j ne)))

module _ (lists : List (List (ℕ × Value))) (blocks : List Heading) (kept : IsKept lists blocks) (block : ℕ) (b : Heading) (there : slice_get blocks block ≡ Some b) (es : List (ℕ × Value)) where
  -- the chain at the block, and the others
  own : list_at (set lists b.chain es) b.chain ≡ es
  own = let below = kept.within block b there in get_or-set_same lists b.chain es [] below

  others : (j : ℕ) (y : Heading) → slice_get blocks j ≡ Some y → (j ≡ block → ⊥) → list_at (set lists b.chain es) y.chain ≡ list_at lists y.chain
  others j y at ne = let apart : y.chain ≡ b.chain → ⊥ = λ same. ne (kept.apart j block y b at there same) in get_or-set_other lists b.chain y.chain es [] apart

  pub blocks_changed : (sections : List Block) (values : List Value) → map (block_of lists) blocks ≡ sections → items es ≡ values → map (block_of (set lists b.chain es)) blocks ≡ set sections block (record (slice_index_or sections block no_block) { values = values })
  blocks_changed sections values e is =
      rw (← e, ← is, index_map (block_of lists) blocks block b no_block there)
      (
      map_changed (block_of lists) (block_of (set lists b.chain es)) blocks block b there (λ j y at ne. rw (others j y at ne))
      ∙ ap (λ (l : List (ℕ × Value)). set (map (block_of lists) blocks) block (record { number = b.number; line = b.line; values = items l })) own
      )

  pub nodes_changed : (nodes : List (List ℕ)) (here : List ℕ) → map (ids_of lists) blocks ≡ nodes → ids es ≡ here → map (ids_of (set lists b.chain es)) blocks ≡ set nodes block here
  nodes_changed nodes here e is =
      rw (← e, ← is)
      (
      map_changed (ids_of lists) (ids_of (set lists b.chain es)) blocks block b there (λ j y at ne. rw (others j y at ne))
      ∙ ap (λ (l : List (ℕ × Value)). set (map (ids_of lists) blocks) block (ids l)) own
      )

  counted_changed : in_use (set lists b.chain es) ≡ sum_by (λ (s : Block). length s.values) (map (block_of (set lists b.chain es)) blocks)
  counted_changed =
      let here : slice_index_or (map (block_of lists) blocks) block no_block ≡ block_of lists b = index_map (block_of lists) blocks block b no_block there in
      let inside : block < length (map (block_of lists) blocks) = rw length-map (slice_get_within blocks block b there) in
      let below = kept.within block b there in
      let chains = sum_by-set length lists b.chain es [] below in
      let sums = sum_by-set (λ (s : Block). length s.values) (map (block_of lists) blocks) block (record (slice_index_or (map (block_of lists) blocks) block no_block) { values = items es }) no_block inside in
      let sums' = rw here at sums in
      let old_size = length-map (list_at lists b.chain) (λ (e : ℕ × Value). e.1) in
      let new_size = length-map es (λ (e : ℕ × Value). e.1) in
      rw (blocks_changed (map (block_of lists) blocks) (items es) refl refl) (rw here (omega (arith, chains, sums', old_size, new_size, kept.counted)))

  pub kept_changed : IsKept (set lists b.chain es) blocks
  kept_changed = record {
    within = λ i c at. rw length-set (kept.within i c at);
    apart = kept.apart;
    counted = counted_changed;
  }

-- what the first of a list have, the list has
pub taken : {A : Type 0} (xs : List A) (n i : ℕ) (x : A) → slice_get (take n xs) i ≡ Some x → (slice_get xs i ≡ Some x) × (i < n)
taken xs zero i x h = absurd (cc)
taken [] (suc n) i x h = absurd (cc)
taken (y ∷ xs) (suc n) zero x h = (h, omega arith)
taken (y ∷ xs) (suc n) (suc i) x h = let r = taken xs n i x h in let lt = r.1 in (r.0, omega arith)

pub taken_back : {A : Type 0} (xs : List A) (n i : ℕ) (x : A) → slice_get xs i ≡ Some x → i < n → slice_get (take n xs) i ≡ Some x
taken_back xs zero i x h lt = absurd (omega arith)
taken_back [] (suc n) i x h lt = absurd (cc)
taken_back (y ∷ xs) (suc n) zero x h lt = h
taken_back (y ∷ xs) (suc n) (suc i) x h lt = taken_back xs n i x h (omega arith)

-- what stands at a place put there again
set_there : {A : Type 0} (xs : List A) (i : ℕ) (x : A) → slice_get xs i ≡ Some x → set xs i x ≡ xs
set_there [] i x h = absurd (cc)
set_there (y ∷ xs) zero x h = let e : y ≡ x = cc in rw e
set_there {A = A} (y ∷ xs) (suc i) x h = ap (λ (l : List A). y ∷ l) (set_there xs i x h)

-- the blocks that wait are as they were
pub held_changed : (lists : List (List (ℕ × Value))) (all : List Heading) (live : ℕ) → IsHeld lists all live → (block : ℕ) (b : Heading) → slice_get (take live all) block ≡ Some b → (es : List (ℕ × Value)) → IsHeld (set lists b.chain es) all live
held_changed lists all live held block b there es =
    let at = taken all live block b there in record {
      kept = kept_changed lists (take live all) held.kept block b there es;
      fits = held.fits;
      as_many = rw length-set held.as_many;
      within = λ i c h. rw length-set (held.within i c h);
      apart = held.apart;
      idle = λ i c past h.
          let ne : c.chain ≡ b.chain → ⊥ = λ same. let e = held.apart i block c b h at.0 same in let lt = at.1 in omega arith in
          rw (get_or-set_other lists b.chain c.chain es [] ne) (held.idle i c past h);
    }

-- the procedure after a change: it is kept as it should be, and one block has other values and ids
pub record Done (lists : List (List (ℕ × Value))) (all : List Heading) (live : ℕ) (old : Kept) (block : ℕ) (values : List Value) (here : List ℕ) : Type 0 where
  pub held : IsHeld lists all live
  pub blocks : map (block_of lists) (take live all) ≡ set old.procedure.blocks block (record (slice_index_or old.procedure.blocks block no_block) { values = values })
  pub nodes : map (ids_of lists) (take live all) ≡ set old.nodes block here

module _ (lists : List (List (ℕ × Value))) (all : List Heading) (live : ℕ) (held : IsHeld lists all live) (old : Kept) (sections : map (block_of lists) (take live all) ≡ old.procedure.blocks) (nodes : map (ids_of lists) (take live all) ≡ old.nodes) (differ : IdsDiffer lists) where
  module _ (block : ℕ) (b : Heading) (there : slice_get (take live all) block ≡ Some b) where
    done : (new : List (List (ℕ × Value))) (es : List (ℕ × Value)) (values : List Value) (here : List ℕ) → new ≡ set lists b.chain es → items es ≡ values → ids es ≡ here → Done new all live old block values here
    done new es values here is v h =
        subst (λ (l : List (List (ℕ × Value))). Done l all live old block values here) (sym is) (
        record {
          held = held_changed lists all live held block b there es;
          blocks = blocks_changed lists (take live all) held.kept block b there es old.procedure.blocks values sections v;
          nodes = nodes_changed lists (take live all) held.kept block b there es old.nodes here nodes h;
        }
        )

    values_are : items (list_at lists b.chain) ≡ values_of old.procedure block
    values_are = sym (ap (λ (s : Block). s.values) (index_map (block_of lists) (take live all) block b no_block there)) ∙ ap (λ (ss : List Block). (slice_index_or ss block no_block).values) sections

    ids_are : ids (list_at lists b.chain) ≡ nodes_of old block
    ids_are = sym (index_map (ids_of lists) (take live all) block b [] there) ∙ ap (λ (ns : List (List ℕ)). slice_index_or ns block []) nodes

    pub push_done : (new : List (List (ℕ × Value))) (id : ℕ) (v : Value) (last : Option ℕ) → last ≡ last_id None (list_at lists b.chain) → new ≡ set lists b.chain (inserted (list_at lists b.chain) last (id, v)) → Done new all live old block (values_of old.procedure block ++ v ∷ []) (nodes_of old block ++ id ∷ [])
    push_done new id v last is made =
        let put : inserted (list_at lists b.chain) last (id, v) ≡ list_at lists b.chain ++ (id, v) ∷ [] = rw is (pushed_at (list_at lists b.chain) (id, v) (differ.within b.chain)) in
        done new (list_at lists b.chain ++ (id, v) ∷ []) (values_of old.procedure block ++ v ∷ []) (nodes_of old block ++ id ∷ []) (made ∙ ap (λ (l : List (ℕ × Value)). set lists b.chain l) put)
        (map-append (λ (e : ℕ × Value). e.1) (list_at lists b.chain) ((id, v) ∷ []) ∙ ap (λ (l : List Value). l ++ v ∷ []) values_are)
        (map-append (λ (e : ℕ × Value). e.0) (list_at lists b.chain) ((id, v) ∷ []) ∙ ap (λ (l : List ℕ). l ++ id ∷ []) ids_are)

    module _ (place at : ℕ) (here : slice_get (nodes_of old block) place ≡ Some at) where
      in_chain : slice_get (ids (list_at lists b.chain)) place ≡ Some at
      in_chain = rw ids_are here

      pub insert_done : (new : List (List (ℕ × Value))) (id : ℕ) (v : Value) (before : Option ℕ) → before ≡ before_in None (list_at lists b.chain) at → new ≡ set lists b.chain (inserted (list_at lists b.chain) before (id, v)) → Done new all live old block (insert (values_of old.procedure block) place v) (insert (nodes_of old block) place id)
      insert_done new id v before is made =
          let put : inserted (list_at lists b.chain) before (id, v) ≡ insert (list_at lists b.chain) place (id, v) = rw is (inserted_at (list_at lists b.chain) place at (id, v) (differ.within b.chain) in_chain) in
          done new (insert (list_at lists b.chain) place (id, v)) (insert (values_of old.procedure block) place v) (insert (nodes_of old block) place id) (made ∙ ap (λ (l : List (ℕ × Value)). set lists b.chain l) put)
          (map-insert (λ (e : ℕ × Value). e.1) (list_at lists b.chain) place (id, v) ∙ ap (λ (l : List Value). insert l place v) values_are)
          (map-insert (λ (e : ℕ × Value). e.0) (list_at lists b.chain) place (id, v) ∙ ap (λ (l : List ℕ). insert l place id) ids_are)

      pub remove_done : (new : List (List (ℕ × Value))) → new ≡ map (without at) lists → Done new all live old block (remove (values_of old.procedure block) place) (remove (nodes_of old block) place)
      remove_done new made =
          done new (remove (list_at lists b.chain) place) (remove (values_of old.procedure block) place) (remove (nodes_of old block) place) (made ∙ removed lists b.chain place at differ in_chain (held.kept.within block b there))
          (map-remove (λ (e : ℕ × Value). e.1) (list_at lists b.chain) place ∙ ap (λ (l : List Value). remove l place) values_are)
          (map-remove (λ (e : ℕ × Value). e.0) (list_at lists b.chain) place ∙ ap (λ (l : List ℕ). remove l place) ids_are)

      pub replace_done : (v : Value) → Done (map (with_item at v) lists) all live old block (set (values_of old.procedure block) place v) (nodes_of old block)
      replace_done v =
          done (map (with_item at v) lists) (set (list_at lists b.chain) place (at, v)) (set (values_of old.procedure block) place v) (nodes_of old block) (replaced lists b.chain place at differ in_chain (held.kept.within block b there) v)
          (map-set (λ (e : ℕ × Value). e.1) (list_at lists b.chain) place (at, v) ∙ ap (λ (l : List Value). set l place v) values_are)
          (map-set (λ (e : ℕ × Value). e.0) (list_at lists b.chain) place (at, v) ∙ set_there (ids (list_at lists b.chain)) place at in_chain ∙ ids_are)

-- a procedure with other blocks
pub by_parts : (old : Procedure) (n : List ℕ) (l : ℕ) (slots : List SlotLine) (bs cs ds : List Block) → (let p : Procedure = record { name = n; line = l; slots = slots; blocks = bs } in p) ≡ old → cs ≡ ds → (let p : Procedure = record { name = n; line = l; slots = slots; blocks = cs } in p) ≡ record old { blocks = ds }
by_parts old n l slots bs cs ds e f = rw (← e, f) refl

-- a change of the values of a block keeps what fits
pub done_sound : (slots : List SlotLine) (lists : List (List (ℕ × Value))) (all : List Heading) (live : ℕ) (old : Kept) (block : ℕ) (values : List Value) (here : List ℕ) → Done lists all live old block values here → length all < 2 ^ 32 → length slots < 2 ^ 32 → AllFit old.procedure.blocks → All Fits values → IsSound slots lists all live
done_sound slots lists all live old block values here d short few fit fits = record { held = d.held; short = short; few_slots = few; fit = rw d.blocks (fit_put old.procedure.blocks block values fit fits) }
