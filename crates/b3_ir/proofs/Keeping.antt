-- Blocks that are kept, packed to the front.
use Rattle.std.proofs.Common.{◌≡◌, ℕ, zero, suc, ◌+◌, ◌<◌, ◌≤◌, Bool, true, false, List, [], ◌∷◌, ◌++◌, length, sum_by, take, drop, slice_index_or, set, refl, sym, ap, ◌∙◌, inl, inr, arith, add-one}
use Rattle.std.proofs.lemmas.Bool.{cases_eq, cases_lt}
use Rattle.std.proofs.lemmas.List.{length-set, get_or-set_same, get_or-set_other, get_or_past, length-take-le}
use Rattle.std.proofs.lemmas.List.Sums.{sum_by-set, sum_by-cons}
use Rattle.b3_ir.proofs.Idle.{take_put}
use Rattle.b3_ir.proofs.Spots.{rest_of}
use Rattle.b3_ir.specs.Procedure.{Block, no_block, Kept, Procedure, values_of, nodes_of, with_values, total, marked, numbered}

pub record IsPacked (old now : Kept) (keep : List Bool) (from live : ℕ) : Type 0 where
  pub le : live ≤ from
  pub blocks : length now.procedure.blocks ≡ length old.procedure.blocks
  pub nodes : length now.nodes ≡ length old.nodes
  pub as_many : length old.nodes ≡ length old.procedure.blocks
  pub name : now.procedure.name ≡ old.procedure.name
  pub line : now.procedure.line ≡ old.procedure.line
  pub slots : now.procedure.slots ≡ old.procedure.slots
  pub front : take live now.procedure.blocks ≡ numbered 0 (marked (take from keep) old.procedure.blocks)
  pub front_nodes : take live now.nodes ≡ marked (take from keep) old.nodes
  pub back : drop from now.procedure.blocks ≡ drop from old.procedure.blocks
  pub back_nodes : drop from now.nodes ≡ drop from old.nodes
  pub gap : (k : ℕ) → live ≤ k → k < from → values_of now.procedure k ≡ []
  pub spare : now.spare + total now.procedure ≡ old.spare + total old.procedure

-- lists: a write behind what is taken, one before what is dropped, one item more
take_set_past : {A : Type 0} (xs : List A) (n i : ℕ) (y : A) → n ≤ i → take n (set xs i y) ≡ take n xs
take_set_past xs zero i y le = refl
take_set_past [] (suc n) zero y le = refl
take_set_past [] (suc n) (suc i) y le = refl
take_set_past (x ∷ xs) (suc n) zero y le = absurd (omega arith)
take_set_past {A = A} (x ∷ xs) (suc n) (suc i) y le = ap (λ (l : List A). x ∷ l) (take_set_past xs n i y (omega arith))

drop_set_before : {A : Type 0} (xs : List A) (n i : ℕ) (y : A) → i < n → drop n (set xs i y) ≡ drop n xs
drop_set_before xs zero i y lt = absurd (omega arith)
drop_set_before [] (suc n) zero y lt = refl
drop_set_before [] (suc n) (suc i) y lt = refl
drop_set_before (x ∷ xs) (suc n) zero y lt = refl
drop_set_before (x ∷ xs) (suc n) (suc i) y lt = drop_set_before xs n i y (omega arith)

drop_more : {A : Type 0} (xs ys : List A) (n : ℕ) → drop n xs ≡ drop n ys → drop (suc n) xs ≡ drop (suc n) ys
drop_more {A = A} xs ys n h = rest_of xs n ∙ ap (λ (l : List A). drop 1 l) h ∙ sym (rest_of ys n)

get_of_drop : {A : Type 0} (xs ys : List A) (n : ℕ) (d : A) → drop n xs ≡ drop n ys → slice_index_or xs n d ≡ slice_index_or ys n d
get_of_drop {A = A} xs ys n d h = sym (step xs n) ∙ ap (λ (l : List A). slice_index_or l 0 d) h ∙ step ys n
  where
    step : (zs : List A) (k : ℕ) → slice_index_or (drop k zs) 0 d ≡ slice_index_or zs k d
    step [] zero = refl
    step [] (suc k) = refl
    step (z ∷ zs) zero = refl
    step (z ∷ zs) (suc k) = step zs k

marked_more : {A : Type 0} (keep : List Bool) (xs : List A) (n : ℕ) (d : A) (m : Bool) → n < length keep → n < length xs → slice_index_or keep n m ≡ true → marked (take (suc n) keep) xs ≡ marked (take n keep) xs ++ slice_index_or xs n d ∷ []
marked_more [] xs n d m lt lu is = absurd (omega arith)
marked_more (b ∷ keep) [] n d m lt lu is = absurd (omega arith)
marked_more (b ∷ keep) (x ∷ xs) zero d m lt lu is = by_case keep is
  where
    by_case : (ks : List Bool) → b ≡ true → marked (b ∷ []) (x ∷ xs) ≡ x ∷ []
    by_case ks is = rw is refl
marked_more {A = A} (true ∷ keep) (x ∷ xs) (suc n) d m lt lu is = ap (λ (l : List A). x ∷ l) (marked_more keep xs n d m (omega arith) (omega arith) is)
marked_more (false ∷ keep) (x ∷ xs) (suc n) d m lt lu is = marked_more keep xs n d m (omega arith) (omega arith) is

marked_same : {A : Type 0} (keep : List Bool) (xs : List A) (n : ℕ) (m : Bool) → n < length keep → slice_index_or keep n m ≡ false → marked (take (suc n) keep) xs ≡ marked (take n keep) xs
marked_same [] xs n m lt is = absurd (omega arith)
marked_same (b ∷ keep) [] zero m lt is = refl
marked_same (b ∷ keep) [] (suc n) m lt is = refl
marked_same (b ∷ keep) (x ∷ xs) zero m lt is = rw is refl
marked_same {A = A} (true ∷ keep) (x ∷ xs) (suc n) m lt is = ap (λ (l : List A). x ∷ l) (marked_same keep xs n m (omega arith) is)
marked_same (false ∷ keep) (x ∷ xs) (suc n) m lt is = marked_same keep xs n m (omega arith) is

numbered_more : (n : ℕ) (ss : List Block) (s : Block) → numbered n (ss ++ s ∷ []) ≡ numbered n ss ++ record s { number = n + length ss } ∷ []
numbered_more n [] s = ap (λ (k : ℕ). record s { number = k } ∷ []) (omega arith)
numbered_more n (t ∷ ss) s = ap (λ (l : List Block). record t { number = n } ∷ l) (numbered_more (n + 1) ss s ∙ ap (λ (k : ℕ). numbered (n + 1) ss ++ record s { number = k } ∷ []) (omega arith))

numbered_length : (n : ℕ) (ss : List Block) → length (numbered n ss) ≡ length ss
numbered_length n [] = refl
numbered_length n (s ∷ ss) = ap suc (numbered_length (n + 1) ss)

module _ (old now new : Kept) (keep : List Bool) (from live : ℕ) (m : Bool) (p : IsPacked old now keep from live) (lt : from < length keep) (each : length keep ≡ length old.procedure.blocks) where
  pub packed_clear : slice_index_or keep from m ≡ false → new.procedure ≡ with_values now.procedure from [] → new.nodes ≡ set now.nodes from [] → new.spare ≡ now.spare + length (values_of now.procedure from) → IsPacked old new keep (from + 1) live
  packed_clear off procedure nodes spare =
      let le = p.le in
      let size = length-set now.procedure.blocks from (record (slice_index_or now.procedure.blocks from no_block) { values = [] }) in
      let size' = length-set now.nodes from [] in
      let inside : from < length now.procedure.blocks = let b = p.blocks in omega arith in
      let sums = sum_by-set (λ (s : Block). length s.values) now.procedure.blocks from (record (slice_index_or now.procedure.blocks from no_block) { values = [] }) no_block inside in
      let was = p.spare in
      record {
        le = omega arith;
        blocks = ap (λ (q : Procedure). length q.blocks) procedure ∙ size ∙ p.blocks;
        nodes = ap length nodes ∙ size' ∙ p.nodes;
        as_many = p.as_many;
        name = ap (λ (q : Procedure). q.name) procedure ∙ p.name;
        line = ap (λ (q : Procedure). q.line) procedure ∙ p.line;
        slots = ap (λ (q : Procedure). q.slots) procedure ∙ p.slots;
        front = rw (procedure, add-one, marked_same keep old.procedure.blocks from m lt off) (take_set_past now.procedure.blocks live from (record (slice_index_or now.procedure.blocks from no_block) { values = [] }) le ∙ p.front);
        front_nodes = rw (nodes, add-one, marked_same keep old.nodes from m lt off) (take_set_past now.nodes live from [] le ∙ p.front_nodes);
        back = rw (procedure, add-one) (drop_set_before now.procedure.blocks (suc from) from (record (slice_index_or now.procedure.blocks from no_block) { values = [] }) (omega arith) ∙ drop_more now.procedure.blocks old.procedure.blocks from p.back);
        back_nodes = rw (nodes, add-one) (drop_set_before now.nodes (suc from) from [] (omega arith) ∙ drop_more now.nodes old.nodes from p.back_nodes);
        gap = λ k past below. elim (cases_eq k from) [
          | inl same ↦ rw same (ap (λ (q : Procedure). values_of q from) procedure ∙ ap (λ (t : Block). t.values) (get_or-set_same now.procedure.blocks from (record (slice_index_or now.procedure.blocks from no_block) { values = [] }) no_block inside))
          | inr apart ↦ ap (λ (q : Procedure). values_of q k) procedure ∙ ap (λ (t : Block). t.values) (get_or-set_other now.procedure.blocks from k (record (slice_index_or now.procedure.blocks from no_block) { values = [] }) no_block apart) ∙ p.gap k past (omega arith)
        ];
        spare = rw (procedure, spare) (omega (arith, sums, was));
      }

  pub packed_move : slice_index_or keep from m ≡ true
      → new.procedure ≡ record now.procedure { blocks = set (set now.procedure.blocks from (slice_index_or now.procedure.blocks live no_block)) live (record (slice_index_or now.procedure.blocks from no_block) { number = live }) }
      → new.nodes ≡ set (set now.nodes from (nodes_of now live)) live (nodes_of now from)
      → new.spare ≡ now.spare
      → IsPacked old new keep (from + 1) (live + 1)
  packed_move on procedure nodes spare =
      let le = p.le in
      let back_one : Block = slice_index_or now.procedure.blocks live no_block in
      let moved : Block = record (slice_index_or now.procedure.blocks from no_block) { number = live } in
      let many = p.as_many in
      let blocks_is = p.blocks in
      let nodes_is = p.nodes in
      let size = length-set now.procedure.blocks from back_one in
      let size2 = length-set (set now.procedure.blocks from back_one) live moved in
      let nsize = length-set now.nodes from (nodes_of now live) in
      let nsize2 = length-set (set now.nodes from (nodes_of now live)) live (nodes_of now from) in
      let inside : from < length now.procedure.blocks = omega arith in
      let at_live : live < length (set now.procedure.blocks from back_one) = omega (arith, size) in
      let nat_live : live < length (set now.nodes from (nodes_of now live)) = omega (arith, nsize) in
      let in_old : from < length old.procedure.blocks = omega arith in
      let nin_old : from < length old.nodes = omega arith in
      let here = get_of_drop now.procedure.blocks old.procedure.blocks from no_block p.back in
      let nhere = get_of_drop now.nodes old.nodes from [] p.back_nodes in
      let count : length (marked (take from keep) old.procedure.blocks) ≡ live = sym (numbered_length 0 (marked (take from keep) old.procedure.blocks)) ∙ ap length (sym p.front) ∙ length-take-le live now.procedure.blocks (omega arith) in
      record {
        le = omega arith;
        blocks = ap (λ (q : Procedure). length q.blocks) procedure ∙ size2 ∙ size ∙ p.blocks;
        nodes = ap length nodes ∙ nsize2 ∙ nsize ∙ p.nodes;
        as_many = p.as_many;
        name = ap (λ (q : Procedure). q.name) procedure ∙ p.name;
        line = ap (λ (q : Procedure). q.line) procedure ∙ p.line;
        slots = ap (λ (q : Procedure). q.slots) procedure ∙ p.slots;
        front =
            rw (procedure, add-one, add-one, marked_more keep old.procedure.blocks from no_block m lt in_old on)
            (
            take_put (set now.procedure.blocks from back_one) moved live at_live
            ∙ ap (λ (l : List Block). l ++ moved ∷ []) (take_set_past now.procedure.blocks live from back_one le ∙ p.front)
            ∙ ap (λ (t : Block). numbered 0 (marked (take from keep) old.procedure.blocks) ++ (record t { number = live }) ∷ []) here
            ∙ ap (λ (k : ℕ). numbered 0 (marked (take from keep) old.procedure.blocks) ++ (record (slice_index_or old.procedure.blocks from no_block) { number = k }) ∷ []) (omega (arith, count))
            ∙ sym (numbered_more 0 (marked (take from keep) old.procedure.blocks) (slice_index_or old.procedure.blocks from no_block))
            );
        front_nodes =
            rw (nodes, add-one, add-one, marked_more keep old.nodes from [] m lt nin_old on)
            (
            take_put (set now.nodes from (nodes_of now live)) (nodes_of now from) live nat_live
            ∙ ap (λ (l : List (List ℕ)). l ++ nodes_of now from ∷ []) (take_set_past now.nodes live from (nodes_of now live) le ∙ p.front_nodes)
            ∙ ap (λ (t : List ℕ). marked (take from keep) old.nodes ++ t ∷ []) nhere
            );
        back = rw (procedure, add-one) (drop_set_before (set now.procedure.blocks from back_one) (suc from) live moved (omega arith) ∙ drop_set_before now.procedure.blocks (suc from) from back_one (omega arith) ∙ drop_more now.procedure.blocks old.procedure.blocks from p.back);
        back_nodes = rw (nodes, add-one) (drop_set_before (set now.nodes from (nodes_of now live)) (suc from) live (nodes_of now from) (omega arith) ∙ drop_set_before now.nodes (suc from) from (nodes_of now live) (omega arith) ∙ drop_more now.nodes old.nodes from p.back_nodes);
        gap = λ k past below.
            let off_live : k ≡ live → ⊥ = λ e. omega arith in
            ap (λ (q : Procedure). values_of q k) procedure
            ∙ ap (λ (t : Block). t.values) (get_or-set_other (set now.procedure.blocks from back_one) live k moved no_block off_live)
            ∙ elim (cases_eq k from) [
              | inl same ↦ rw same (ap (λ (t : Block). t.values) (get_or-set_same now.procedure.blocks from back_one no_block inside) ∙ p.gap live (omega arith) (omega arith))
              | inr apart ↦ ap (λ (t : Block). t.values) (get_or-set_other now.procedure.blocks from k back_one no_block apart) ∙ p.gap k (omega arith) (omega arith)
            ];
        spare =
            let sums = sum_by-set (λ (s : Block). length s.values) now.procedure.blocks from back_one no_block inside in
            let sums2 = sum_by-set (λ (s : Block). length s.values) (set now.procedure.blocks from back_one) live moved no_block at_live in
            let swap : length (slice_index_or (set now.procedure.blocks from back_one) live no_block).values ≡ length back_one.values =
            elim (cases_eq live from) [
              | inl same ↦ rw same (ap (λ (t : Block). length t.values) (get_or-set_same now.procedure.blocks from (slice_index_or now.procedure.blocks from no_block) no_block inside))
              | inr apart ↦ ap (λ (t : Block). length t.values) (get_or-set_other now.procedure.blocks from live back_one no_block apart)
            ] in
            let was = p.spare in
            rw (procedure, spare) (omega (arith, sums, sums2, swap, was));
      }

-- what comes after the last value counts nothing
nothing_left : (bs : List Block) → ((k : ℕ) → (slice_index_or bs k no_block).values ≡ []) → sum_by (λ (s : Block). length s.values) bs ≡ 0
nothing_left [] h = refl
nothing_left (b ∷ bs) h = let here = ap length (h zero) in omega (arith, sum_by-cons (λ (s : Block). length s.values) b bs, here, nothing_left bs (λ k. h (suc k)))

pub total_taken : (bs : List Block) (n : ℕ) → ((k : ℕ) → n ≤ k → (slice_index_or bs k no_block).values ≡ []) → sum_by (λ (s : Block). length s.values) (take n bs) ≡ sum_by (λ (s : Block). length s.values) bs
total_taken [] zero h = refl
total_taken [] (suc n) h = refl
total_taken (b ∷ bs) zero h = sym (nothing_left (b ∷ bs) (λ k. h k (omega arith)))
total_taken (b ∷ bs) (suc n) h = let rest = total_taken bs n (λ k le. h (suc k) (omega arith)) in omega (arith, sum_by-cons (λ (s : Block). length s.values) b bs, sum_by-cons (λ (s : Block). length s.values) b (take n bs), rest)

pub empty_past : (old now : Kept) (keep : List Bool) (from live : ℕ) → IsPacked old now keep from live → length old.procedure.blocks ≤ from → (k : ℕ) → live ≤ k → values_of now.procedure k ≡ []
empty_past old now keep from live p past k le =
    elim (cases_lt k from) [
      | inl h ↦ p.gap k le h
      | inr h ↦ let b = p.blocks in ap (λ (s : Block). s.values) (get_or_past now.procedure.blocks k no_block (omega arith))
    ]
