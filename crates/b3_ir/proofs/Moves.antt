-- Blocks that change places, and that are let go.
use Rattle.std.proofs.Common.{◌≡◌, ◌⊎◌, ℕ, zero, suc, ◌<◌, ◌≤◌, List, [], ◌∷◌, length, map, sum_by, take, Some, slice_get, slice_index_or, set, refl, sym, ap, ◌∙◌, inl, inr, arith}
use Rattle.std.proofs.lemmas.Bool.{cases_eq, cases_lt}
use Rattle.std.proofs.lemmas.List.{length-map, length-set, map-set, get_or-set_same, get_or-set_other, length-take-le}
use Rattle.std.proofs.lemmas.List.Sums.{sum_by-set}
use Rattle.std.proofs.lemmas.Option.{slice_get_read}
use Rattle.b3_base.proofs.Lists.{index_map}
use Rattle.ir_arena.specs.Chains.{list_at, in_use}
use Rattle.b3_ir.specs.declared.value.Value.{Value}
use Rattle.b3_ir.specs.declared.procedure.Heading.{Heading}
use Rattle.b3_ir.specs.Procedure.{Block, no_block, Kept, nodes_of}
use Rattle.b3_ir.specs.Layout.{block_of, ids_of, IsHeld}
use Rattle.b3_ir.proofs.Changes.{taken, taken_back}
use Rattle.b3_ir.proofs.Keeping.{total_taken}

pub map_taken : {A B : Type 0} (f : A → B) (xs : List A) (n live : ℕ) → n ≤ live → map f (take n xs) ≡ take n (map f (take live xs))
map_taken f xs zero live le = refl
map_taken f xs (suc n) zero le = absurd (omega arith)
map_taken f [] (suc n) (suc live) le = refl
map_taken {B = B} f (x ∷ xs) (suc n) (suc live) le = ap (λ (l : List B). f x ∷ l) (map_taken f xs n live (omega arith))

take_set : {A : Type 0} (xs : List A) (n i : ℕ) (y : A) → i < n → take n (set xs i y) ≡ set (take n xs) i y
take_set xs zero i y lt = absurd (omega arith)
take_set [] (suc n) zero y lt = refl
take_set [] (suc n) (suc i) y lt = refl
take_set (x ∷ xs) (suc n) zero y lt = refl
take_set {A = A} (x ∷ xs) (suc n) (suc i) y lt = ap (λ (l : List A). x ∷ l) (take_set xs n i y (omega arith))

put_same : {A : Type 0} (xs : List A) (n : ℕ) (x y : A) → slice_get (set xs n y) n ≡ Some x → x ≡ y
put_same [] zero x y h = absurd (cc)
put_same [] (suc n) x y h = absurd (cc)
put_same (z ∷ xs) zero x y h = cc
put_same (z ∷ xs) (suc n) x y h = put_same xs n x y h

put_other : {A : Type 0} (xs : List A) (n i : ℕ) (x y : A) → (i ≡ n → ⊥) → slice_get (set xs n y) i ≡ Some x → slice_get xs i ≡ Some x
put_other [] zero i x y ne h = h
put_other [] (suc n) i x y ne h = h
put_other (z ∷ xs) zero zero x y ne h = absurd (ne refl)
put_other (z ∷ xs) zero (suc i) x y ne h = h
put_other (z ∷ xs) (suc n) zero x y ne h = h
put_other (z ∷ xs) (suc n) (suc i) x y ne h = put_other xs n i x y (λ e. ne (ap suc e)) h

empty_map : (es : List (ℕ × Value)) → map (λ (e : ℕ × Value). e.1) es ≡ [] → es ≡ []
empty_map [] h = refl
empty_map (e ∷ es) h = absurd (cc)

module _ (lists : List (List (ℕ × Value))) (all : List Heading) (live : ℕ) (held : IsHeld lists all live) where
  pub held_fewer : (n : ℕ) → n ≤ live → ((k : ℕ) → n ≤ k → (slice_index_or (map (block_of lists) (take live all)) k no_block).values ≡ []) → IsHeld lists all n
  held_fewer n le empty = record {
    kept = record {
      within = λ i b h. held.within i b (taken all n i b h).0;
      apart = λ i j b c h g e. held.apart i j b c (taken all n i b h).0 (taken all n j c g).0 e;
      counted = rw (map_taken (block_of lists) all n live le) (held.kept.counted ∙ sym (total_taken (map (block_of lists) (take live all)) n empty));
    };
    fits = let fits = held.fits in omega arith;
    as_many = held.as_many;
    within = held.within;
    apart = held.apart;
    idle = λ i b past h. elim (cases_lt i live) [
      | inl lt ↦
          let there = index_map (block_of lists) (take live all) i b no_block (taken_back all live i b h lt) in
          empty_map (list_at lists b.chain) (sym (ap (λ (s : Block). s.values) there) ∙ empty i past)
      | inr after ↦ held.idle i b after h
    ];
  }

  module _ (from to : ℕ) (bf bt c : Heading) (at_from : slice_get all from ≡ Some bf) (at_to : slice_get all to ≡ Some bt) (same : c.chain ≡ bf.chain) (le : to ≤ from) (lt : from < live) where
    -- where the block at a place was before
    origin : (i : ℕ) (x : Heading) → slice_get (set (set all from bt) to c) i ≡ Some x → (o : ℕ) × (w : Heading) × (slice_get all o ≡ Some w) × (x.chain ≡ w.chain) × (((i ≡ to) × (o ≡ from)) ⊎ (((i ≡ to → ⊥) × (i ≡ from) × (o ≡ to)) ⊎ ((i ≡ to → ⊥) × (i ≡ from → ⊥) × (o ≡ i))))
    origin i x h =
        elim (cases_eq i to) [
          | inl e ↦
              let is : x ≡ c = put_same (set all from bt) to x c (rw e at h) in
              (from, bf, at_from, ap (λ (b : Heading). b.chain) is ∙ same, inl (e, refl))
          | inr n ↦
              let g = put_other (set all from bt) to i x c n h in
              elim (cases_eq i from) [
                | inl e ↦
                    let is : x ≡ bt = put_same all from x bt (rw e at g) in
                    (to, bt, at_to, ap (λ (b : Heading). b.chain) is, inr (inl (n, e, refl)))
                | inr m ↦ (i, x, put_other all from i x bt m g, refl, inr (inr (n, m, refl)))
              ]
        ]

    one_origin : (i j : ℕ) (x y : Heading) → slice_get (set (set all from bt) to c) i ≡ Some x → slice_get (set (set all from bt) to c) j ≡ Some y → x.chain ≡ y.chain → i ≡ j
    one_origin i j x y h g e =
        let v = origin i x h in
        let w = origin j y g in
        let o : v.0 ≡ w.0 = held.apart v.0 w.0 v.1 w.1 v.2 w.2 (sym v.3 ∙ e ∙ w.3) in
        elim v.4 [
          | inl s ↦ let s0 = s.0 in let s1 = s.1 in elim w.4 [
            | inl t ↦ s.0 ∙ sym t.0
            | inr t ↦ elim t [
              | inl t ↦ let t0 = t.1 in let t1 = t.2 in let tn = t.0 in absurd (tn (omega arith))
              | inr t ↦ let t0 = t.1 in let t1 = t.2 in absurd (t0 (omega arith))
            ]
          ]
          | inr s ↦ elim s [
            | inl s ↦ let s0 = s.1 in let s1 = s.2 in let sn = s.0 in elim w.4 [
              | inl t ↦ let t0 = t.0 in let t1 = t.1 in absurd (sn (omega arith))
              | inr t ↦ elim t [
                | inl t ↦ s.1 ∙ sym t.1
                | inr t ↦ let t0 = t.0 in let t1 = t.2 in absurd (t0 (omega arith))
              ]
            ]
            | inr s ↦ let s0 = s.0 in let s1 = s.1 in let s2 = s.2 in elim w.4 [
              | inl t ↦ let t0 = t.0 in let t1 = t.1 in absurd (s1 (omega arith))
              | inr t ↦ elim t [
                | inl t ↦ let t0 = t.1 in let t1 = t.2 in absurd (s0 (omega arith))
                | inr t ↦ let t0 = t.2 in omega arith
              ]
            ]
          ]
        ]

    live_are : take live (set (set all from bt) to c) ≡ set (set (take live all) from bt) to c
    live_are = take_set (set all from bt) live to c (omega arith) ∙ ap (λ (l : List Heading). set l to c) (take_set all live from bt lt)

    pub blocks_moved : (ss : List Block) → map (block_of lists) (take live all) ≡ ss → map (block_of lists) (take live (set (set all from bt) to c)) ≡ set (set ss from (slice_index_or ss to no_block)) to (record (slice_index_or ss from no_block) { number = c.number; line = c.line })
    blocks_moved ss e =
        let was_from = index_map (block_of lists) (take live all) from bf no_block (taken_back all live from bf at_from lt) in
        let was_to = index_map (block_of lists) (take live all) to bt no_block (taken_back all live to bt at_to (omega arith)) in
        rw (← e, live_are, map-set, map-set, was_from, was_to, same) refl

    pub nodes_moved : (ns : List (List ℕ)) → map (ids_of lists) (take live all) ≡ ns → map (ids_of lists) (take live (set (set all from bt) to c)) ≡ set (set ns from (slice_index_or ns to [])) to (slice_index_or ns from [])
    nodes_moved ns e =
        let was_from = index_map (ids_of lists) (take live all) from bf [] (taken_back all live from bf at_from lt) in
        let was_to = index_map (ids_of lists) (take live all) to bt [] (taken_back all live to bt at_to (omega arith)) in
        rw (← e, live_are, map-set, map-set, was_from, was_to, same) refl

    counted_moved : in_use lists ≡ sum_by (λ (s : Block). length s.values) (map (block_of lists) (take live (set (set all from bt) to c)))
    counted_moved =
        let ss : List Block = map (block_of lists) (take live all) in
        let size = length-map (take live all) (block_of lists) in
        let size2 = length-take-le live all held.fits in
        let a : Block = slice_index_or (map (block_of lists) (take live all)) to no_block in
        let b : Block = record (slice_index_or (map (block_of lists) (take live all)) from no_block) { number = c.number; line = c.line } in
        let size3 = length-set (map (block_of lists) (take live all)) from a in
        let one = sum_by-set (λ (s : Block). length s.values) (map (block_of lists) (take live all)) from a no_block (omega (arith, size, size2)) in
        let two = sum_by-set (λ (s : Block). length s.values) (set (map (block_of lists) (take live all)) from a) to b no_block (omega (arith, size, size2, size3)) in
        let there : length (slice_index_or (set (map (block_of lists) (take live all)) from a) to no_block).values ≡ length a.values =
        elim (cases_eq to from) [
          | inl e ↦ rw e (ap (λ (t : Block). length t.values) (get_or-set_same (map (block_of lists) (take live all)) from (slice_index_or (map (block_of lists) (take live all)) from no_block) no_block (omega (arith, size, size2))))
          | inr n ↦ ap (λ (t : Block). length t.values) (get_or-set_other (map (block_of lists) (take live all)) from to a no_block n)
        ] in
        let all_of = held.kept.counted in
        rw (blocks_moved (map (block_of lists) (take live all)) refl) (omega (arith, one, two, there, all_of))

    pub held_moved : IsHeld lists (set (set all from bt) to c) live
    held_moved =
        let size = length-set (set all from bt) to c in
        let size2 = length-set all from bt in
        let within : (i : ℕ) (x : Heading) → slice_get (set (set all from bt) to c) i ≡ Some x → x.chain < length lists = λ i x h. let o = origin i x h in rw o.3 (held.within o.0 o.1 o.2) in
        let fits = held.fits in
        record {
          kept = record {
            within = λ i x h. within i x (taken (set (set all from bt) to c) live i x h).0;
            apart = λ i j x y h g e. one_origin i j x y (taken (set (set all from bt) to c) live i x h).0 (taken (set (set all from bt) to c) live j y g).0 e;
            counted = counted_moved;
          };
          fits = omega (arith, size, size2, fits);
          as_many = held.as_many ∙ sym size2 ∙ sym size;
          within = within;
          apart = one_origin;
          idle = λ i x past h.
              let n : i ≡ to → ⊥ = λ e. omega arith in
              let m : i ≡ from → ⊥ = λ e. omega arith in
              held.idle i x past (put_other all from i x bt m (put_other (set all from bt) to i x c n h));
        }

-- a block in the place of an earlier one
pub record Moved (lists : List (List (ℕ × Value))) (all : List Heading) (live : ℕ) (old : Kept) (from to : ℕ) (bt c : Heading) : Type 0 where
  pub held : IsHeld lists (set (set all from bt) to c) live
  pub blocks : map (block_of lists) (take live (set (set all from bt) to c)) ≡ set (set old.procedure.blocks from (slice_index_or old.procedure.blocks to no_block)) to (record (slice_index_or old.procedure.blocks from no_block) { number = to })
  pub nodes : map (ids_of lists) (take live (set (set all from bt) to c)) ≡ set (set old.nodes from (nodes_of old to)) to (nodes_of old from)

pub moved : (lists : List (List (ℕ × Value))) (all : List Heading) (live : ℕ) (held : IsHeld lists all live) (old : Kept) (from to number : ℕ) (bf bt : Heading) → map (block_of lists) (take live all) ≡ old.procedure.blocks → map (ids_of lists) (take live all) ≡ old.nodes → bf ≡ slice_index_or all from bf → bt ≡ slice_index_or all to bt → to ≤ from → from < live → number ≡ to → Moved lists all live old from to bt (record { number = number; line = bf.line; chain = bf.chain })
moved lists all live held old from to number bf bt e f read_from read_to le lt is =
    let fits = held.fits in
    let at_from = slice_get_read all (length all) from bf refl (omega arith) read_from in
    let at_to = slice_get_read all (length all) to bt refl (omega arith) read_to in
    let c : Heading = record { number = number; line = bf.line; chain = bf.chain } in
    let was = index_map (block_of lists) (take live all) from bf no_block (taken_back all live from bf at_from lt) in
    let line : (slice_index_or old.procedure.blocks from no_block).line ≡ bf.line = ap (λ (l : List Block). (slice_index_or l from no_block).line) (sym e) ∙ ap (λ (s : Block). s.line) was in
    record {
      held = held_moved lists all live held from to bf bt c at_from at_to refl le lt;
      blocks = blocks_moved lists all live held from to bf bt c at_from at_to refl le lt old.procedure.blocks e ∙ ap (λ (s : Block). set (set old.procedure.blocks from (slice_index_or old.procedure.blocks to no_block)) to s) (renumbered (slice_index_or old.procedure.blocks from no_block) number to bf.line is line);
      nodes = nodes_moved lists all live held from to bf bt c at_from at_to refl le lt old.nodes f;
    }
  where
    renumbered : (s : Block) (m n l : ℕ) → m ≡ n → s.line ≡ l → (let t : Block = record s { number = m; line = l } in t) ≡ record s { number = n }
    renumbered s m n l e f = rw (e, ← f) refl
