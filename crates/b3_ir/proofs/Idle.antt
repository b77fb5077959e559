-- Blocks that wait to be used again.
use Rattle.std.proofs.Common.{◌≡◌, ◌⊎◌, ℕ, zero, suc, ◌+◌, ◌<◌, ◌≤◌, List, [], ◌∷◌, ◌++◌, length, map, take, Some, slice_get, slice_index_or, set, refl, sym, ap, ◌∙◌, inl, inr, arith, add-one, length-append}
use Rattle.std.proofs.lemmas.List.{length-set, map-append}
use Rattle.std.proofs.lemmas.List.Sums.{sum_by_push}
use Rattle.std.proofs.lemmas.Option.{slice_get_within, slice_get_read}
use Rattle.ir_arena.specs.Chains.{list_at}
use Rattle.b3_ir.specs.declared.value.Value.{Value}
use Rattle.b3_ir.specs.declared.procedure.Heading.{Heading}
use Rattle.b3_ir.specs.Procedure.{Block, empty_block}
use Rattle.b3_ir.specs.Layout.{block_of, ids_of, IsHeld}
use Rattle.b3_ir.proofs.Changes.{taken}

-- the same lists give the same blocks
pub same_blocks : (new old : List (List (ℕ × Value))) → ((j : ℕ) → list_at new j ≡ list_at old j) → (bs : List Heading) → map (block_of new) bs ≡ map (block_of old) bs
same_blocks new old same [] = refl
same_blocks new old same (b ∷ bs) = rw (same b.chain, same_blocks new old same bs) refl

pub same_ids : (new old : List (List (ℕ × Value))) → ((j : ℕ) → list_at new j ≡ list_at old j) → (bs : List Heading) → map (ids_of new) bs ≡ map (ids_of old) bs
same_ids new old same [] = refl
same_ids new old same (b ∷ bs) = rw (same b.chain, same_ids new old same bs) refl

empty_more : (lists : List (List (ℕ × Value))) (j : ℕ) → list_at (lists ++ [] ∷ []) j ≡ list_at lists j
empty_more [] zero = refl
empty_more [] (suc j) = refl
empty_more (l ∷ lists) zero = refl
empty_more (l ∷ lists) (suc j) = empty_more lists j

-- what stands in a longer list
at_more : {A : Type 0} (xs : List A) (y : A) (i : ℕ) (x : A) → slice_get (xs ++ y ∷ []) i ≡ Some x → (slice_get xs i ≡ Some x) ⊎ ((i ≡ length xs) × (x ≡ y))
at_more [] y zero x h = inr (refl, cc)
at_more [] y (suc i) x h = absurd (cc)
at_more (z ∷ xs) y zero x h = inl h
at_more (z ∷ xs) y (suc i) x h =
    elim (at_more xs y i x h) [
      | inl s ↦ inl s
      | inr s ↦ let e = s.0 in inr (omega arith, s.1)
    ]

take_before : {A : Type 0} (xs : List A) (y : A) (n : ℕ) → n ≤ length xs → take n (xs ++ y ∷ []) ≡ take n xs
take_before xs y zero le = refl
take_before [] y (suc n) le = absurd (omega arith)
take_before {A = A} (x ∷ xs) y (suc n) le = ap (λ (l : List A). x ∷ l) (take_before xs y n (omega arith))

-- the items up to a new one
pub take_put : {A : Type 0} (xs : List A) (y : A) (n : ℕ) → n < length xs → take (suc n) (set xs n y) ≡ take n xs ++ y ∷ []
take_put [] y n lt = absurd (omega arith)
take_put (x ∷ xs) y zero lt = refl
take_put {A = A} (x ∷ xs) y (suc n) lt = ap (λ (l : List A). x ∷ l) (take_put xs y n (omega arith))

-- what stands at a place of a list with one item put
at_put : {A : Type 0} (xs : List A) (y : A) (n i : ℕ) (x : A) → slice_get (set xs n y) i ≡ Some x → ((i ≡ n) × (x ≡ y)) ⊎ (slice_get xs i ≡ Some x)
at_put [] y zero i x h = inr h
at_put [] y (suc n) i x h = inr h
at_put (z ∷ xs) y zero zero x h = inl (refl, cc)
at_put (z ∷ xs) y zero (suc i) x h = inr h
at_put (z ∷ xs) y (suc n) zero x h = inr h
at_put (z ∷ xs) y (suc n) (suc i) x h =
    elim (at_put xs y n i x h) [
      | inl s ↦ let e = s.0 in inl (omega arith, s.1)
      | inr s ↦ inr s
    ]

-- the block at a place still has its chain
chain_at : (all : List Heading) (live : ℕ) (b c : Heading) (i : ℕ) (x : Heading) → slice_get all live ≡ Some b → c.chain ≡ b.chain → slice_get (set all live c) i ≡ Some x → (w : Heading) × (slice_get all i ≡ Some w) × (x.chain ≡ w.chain)
chain_at all live b c i x at same h =
    elim (at_put all c live i x h) [
      | inl s ↦ (b, rw s.0 at, rw s.1 same)
      | inr s ↦ (x, s, refl)
    ]

module _ (lists : List (List (ℕ × Value))) (all : List Heading) (live : ℕ) (held : IsHeld lists all live) where
  pub held_used : (b c : Heading) → slice_get all live ≡ Some b → c.chain ≡ b.chain → IsHeld lists (set all live c) (live + 1)
  held_used b c at same =
      let lt = slice_get_within all live b at in
      let live_is : take (live + 1) (set all live c) ≡ take live all ++ c ∷ [] = rw add-one (take_put all c live lt) in
      let size = length-set all live c in
      let within : (i : ℕ) (x : Heading) → slice_get (set all live c) i ≡ Some x → x.chain < length lists = λ i x h. let w = chain_at all live b c i x at same h in rw w.2 (held.within i w.0 w.1) in
      let apart : (i j : ℕ) (x y : Heading) → slice_get (set all live c) i ≡ Some x → slice_get (set all live c) j ≡ Some y → x.chain ≡ y.chain → i ≡ j = λ i j x y h g e. let v = chain_at all live b c i x at same h in let w = chain_at all live b c j y at same g in held.apart i j v.0 w.0 v.1 w.1 (sym v.2 ∙ e ∙ w.2) in
      let empty : list_at lists c.chain ≡ [] = rw same (held.idle live b (omega arith) at) in
      let none : length (block_of lists c).values ≡ 0 = ap (λ (l : List (ℕ × Value)). length (map (λ (e : ℕ × Value). e.1) l)) empty in
      let push = sum_by_push (λ (s : Block). length s.values) (map (block_of lists) (take live all)) (block_of lists c) in
      record {
        kept = record {
          within = λ i x h. within i x (taken (set all live c) (live + 1) i x h).0;
          apart = λ i j x y h g e. apart i j x y (taken (set all live c) (live + 1) i x h).0 (taken (set all live c) (live + 1) j y g).0 e;
          counted = rw (live_is, map-append) (omega (arith, push, none, held.kept.counted));
        };
        fits = omega (arith, size, lt);
        as_many = held.as_many ∙ sym size;
        within = within;
        apart = apart;
        idle = λ i x past h. elim (at_put all c live i x h) [
          | inl s ↦ let e = s.0 in absurd (omega arith)
          | inr s ↦ held.idle i x (omega arith) s
        ];
      }

  pub held_more : (b : Heading) → b.chain ≡ length lists → length all ≤ live → IsHeld (lists ++ [] ∷ []) (all ++ b ∷ []) live
  held_more b is past =
      let fits = held.fits in
      let size = length-append all (b ∷ []) in
      let sizes = length-append lists ([] ∷ []) in
      let live_is = take_before all b live fits in
      let push = sum_by_push length lists [] in
      let within : (i : ℕ) (x : Heading) → slice_get (all ++ b ∷ []) i ≡ Some x → x.chain < length (lists ++ [] ∷ []) = λ i x h. elim (at_more all b i x h) [
        | inl s ↦ let old = held.within i x s in omega (arith, sizes)
        | inr s ↦ let chain = ap (λ (y : Heading). y.chain) s.1 in omega (arith, sizes, chain, is)
      ] in
      let apart : (i j : ℕ) (x y : Heading) → slice_get (all ++ b ∷ []) i ≡ Some x → slice_get (all ++ b ∷ []) j ≡ Some y → x.chain ≡ y.chain → i ≡ j = λ i j x y h g e. elim (at_more all b i x h) [
        | inl s ↦ elim (at_more all b j y g) [
          | inl t ↦ held.apart i j x y s t e
          | inr t ↦ let old = held.within i x s in let chain = ap (λ (z : Heading). z.chain) t.1 in absurd (omega (arith, chain, is))
        ]
        | inr s ↦ elim (at_more all b j y g) [
          | inl t ↦ let old = held.within j y t in let chain = ap (λ (z : Heading). z.chain) s.1 in absurd (omega (arith, chain, is))
          | inr t ↦ s.0 ∙ sym t.0
        ]
      ] in
      record {
        kept = record {
          within = λ i x h. within i x (taken (all ++ b ∷ []) live i x h).0;
          apart = λ i j x y h g e. apart i j x y (taken (all ++ b ∷ []) live i x h).0 (taken (all ++ b ∷ []) live j y g).0 e;
          counted = rw (live_is, same_blocks (lists ++ [] ∷ []) lists (empty_more lists) (take live all)) (omega (arith, push, held.kept.counted));
        };
        fits = omega (arith, size, fits);
        as_many = omega (arith, size, sizes, held.as_many);
        within = within;
        apart = apart;
        idle = λ i x after h. elim (at_more all b i x h) [
          | inl s ↦ let lt = slice_get_within all i x s in absurd (omega arith)
          | inr s ↦ let chain = ap (λ (y : Heading). y.chain) s.1 in empty_more lists x.chain ∙ rw (chain, is) (past_end lists)
        ];
      }
    where
      past_end : (ls : List (List (ℕ × Value))) → list_at ls (length ls) ≡ []
      past_end [] = refl
      past_end (l ∷ ls) = past_end ls

-- the blocks with one more
pub one_more : (new old : List (List (ℕ × Value))) (all all' : List Heading) (live : ℕ) (b : Heading) → ((j : ℕ) → list_at new j ≡ list_at old j) → take live all' ≡ take live all → live < length all' → list_at new b.chain ≡ []
    → (map (block_of new) (take (live + 1) (set all' live b)) ≡ map (block_of old) (take live all) ++ empty_block b.number b.line ∷ []) × (map (ids_of new) (take (live + 1) (set all' live b)) ≡ map (ids_of old) (take live all) ++ [] ∷ [])
one_more new old all all' live b same blocks lt empty =
    let live_is : take (live + 1) (set all' live b) ≡ take live all' ++ b ∷ [] = rw add-one (take_put all' b live lt) in (
      rw (live_is, map-append, blocks, same_blocks new old same (take live all), empty) refl,
      rw (live_is, map-append, blocks, same_ids new old same (take live all), empty) refl,
    )

-- a block that waited is used
pub record Used (new old : List (List (ℕ × Value))) (all all' : List Heading) (live : ℕ) (b : Heading) : Type 0 where
  pub held : IsHeld new (set all' live b) (live + 1)
  pub blocks : map (block_of new) (take (live + 1) (set all' live b)) ≡ map (block_of old) (take live all) ++ empty_block b.number b.line ∷ []
  pub nodes : map (ids_of new) (take (live + 1) (set all' live b)) ≡ map (ids_of old) (take live all) ++ [] ∷ []

pub used : (new old : List (List (ℕ × Value))) (all all' : List Heading) (live number line : ℕ) (b : Heading) → IsHeld new all' live → live < length all' → take live all' ≡ take live all → ((j : ℕ) → list_at new j ≡ list_at old j) → b ≡ slice_index_or all' live b → Used new old all all' live (record { number = number; line = line; chain = b.chain })
used new old all all' live number line b held lt blocks same is =
    let at = slice_get_read all' (length all') live b refl lt is in
    let c : Heading = record { number = number; line = line; chain = b.chain } in
    let empty = held.idle live b (omega arith) at in
    let more = one_more new old all all' live c same blocks lt empty in
    record { held = held_used new all' live held b c at refl; blocks = more.0; nodes = more.1 }
