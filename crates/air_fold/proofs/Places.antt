-- The places of values in the index of a valid procedure.
use Rattle.std.proofs.Common.{◌≡◌, ◌≢◌, ℕ, zero, suc, ◌+◌, ◌-◌, ◌<◌, ◌≤◌, inl, inr, Bool, true, false, List, [], ◌∷◌, ◌++◌, Some, None, cond, length, map, take, refl, sym, ap, ◌∙◌, subst, arith, nat_eq, eq-eqb, append_assoc, length-append, ⊎_elim}
use Rattle.std.specs.Prelude.{nat_lt, position, slice_get, slice_index_or}
use Rattle.std.specs.List.{list_any, position_or_len}
use Rattle.std.specs.Option.{option_map}
use Rattle.std.proofs.Math.ListN.{get_or-eq_default}
use Rattle.std.proofs.lemmas.Bool.{cases_lt, ltb-false, ne_eqb}
use Rattle.std.proofs.lemmas.Bool.Decides.{eqb_tells}
use Rattle.std.proofs.lemmas.List.{length-map, map-append, take_more}
use Rattle.std.proofs.lemmas.List.Folds.{list_any-append}
use Rattle.std.proofs.lemmas.List.Recursion.{is_position_or_len}
use Rattle.std.proofs.lemmas.Option.{get_or_from_slice_get, slice_get_within, slice_get-map}
use Rattle.std.specs.List.{flat_map}
use Rattle.b3_ir.specs.Naming.{all_values, with_id}
use Rattle.b3_ir.specs.Procedure.{Block, Procedure, StandsAt, no_block, place_among, values_of}
use Rattle.b3_ir.specs.declared.value.Value.{Value}
use Rattle.b3_rules.specs.Valid.{IsValidProcedure, ValueAt}
use Rattle.b3_rules.specs.declared.rule.Rule.TheVariants as rule
use Rattle.air_fold.specs.Indexed.{ids, ids_before}
use Rattle.air_fold.specs.Values.{ids_of, index_of, known, known_from, known_in, place, unknown}

-- ---- lists

pub get_front : {X : Type 0} (a b : List X) (n : ℕ) (x : X) → slice_get a n ≡ Some x → slice_get (a ++ b) n ≡ Some x
get_front [] b n x e = cc
get_front (y ∷ a) b zero x e = e
get_front (y ∷ a) b (suc n) x e = get_front a b n x e

pub get_behind : {X : Type 0} (a b : List X) (n : ℕ) → slice_get (a ++ b) (length a + n) ≡ slice_get b n
get_behind [] b n = ap (slice_get b) (omega arith)
get_behind (x ∷ a) b n =
    let e : length (x ∷ a) + n ≡ suc (length a + n) = omega arith in ap (slice_get (x ∷ (a ++ b))) e ∙ get_behind a b n

pub get_within : {X : Type 0} (a b : List X) (n : ℕ) (x : X) → n < length a → slice_get (a ++ b) n ≡ Some x → slice_get a n ≡ Some x
get_within [] b n x lt e = absurd (omega arith)
get_within (y ∷ a) b zero x lt e = e
get_within (y ∷ a) b (suc n) x lt e = get_within a b n x (omega arith) e

-- an item before a place
get_taken : {X : Type 0} (xs : List X) (k i : ℕ) (x : X) → slice_get (take k xs) i ≡ Some x → (i < k) × (slice_get xs i ≡ Some x)
get_taken xs zero i x e = absurd cc
get_taken [] (suc k) i x e = absurd cc
get_taken (y ∷ xs) (suc k) zero x e = (omega arith, e)
get_taken (y ∷ xs) (suc k) (suc i) x e = let more = get_taken xs k i x e in (omega (arith, more.0), more.1)

-- a list at the place of an item
pub split_at : {X : Type 0} (xs : List X) (j : ℕ) (x : X) → slice_get xs j ≡ Some x
    → (rest : List X) × (xs ≡ take j xs ++ x ∷ rest) × (length (take j xs) ≡ j)
split_at [] j x e = absurd cc
split_at (y ∷ xs) zero x e = let same : y ≡ x = cc in (xs, ap (λ z. z ∷ xs) same, refl)
split_at (y ∷ xs) (suc j) x e = let more = split_at xs j x e in (more.0, ap (λ zs. y ∷ zs) more.1, omega (arith, more.2))

-- an item within a list is there
pub get_some : {X : Type 0} (xs : List X) (k : ℕ) → k < length xs → (x : X) × (slice_get xs k ≡ Some x)
get_some [] k lt = absurd (omega arith)
get_some (x ∷ xs) zero lt = (x, refl)
get_some (x ∷ xs) (suc k) lt = get_some xs k (omega arith)

-- the items up to one, and that item
pub take_item : {X : Type 0} (xs : List X) (at : ℕ) (x : X) → slice_get xs at ≡ Some x → take (at + 1) xs ≡ take at xs ++ x ∷ []
take_item xs at x there =
    take_more xs at x (slice_get_within xs at x there) ∙ ap (λ y. take at xs ++ y ∷ []) (get_or_from_slice_get xs at x x there)

-- what is made of one more item
pub map_item : {X Y : Type 0} (f : X → Y) (xs : List X) (at : ℕ) (x : X) (made made' : List Y) → slice_get xs at ≡ Some x → made ≡ map f (take at xs)
    → made' ≡ made ++ f x ∷ [] → made' ≡ map f (take (at + 1) xs)
map_item f xs at x made made' there so_far more =
    more ∙ ap (λ l. l ++ f x ∷ []) so_far ∙ sym (map-append f (take at xs) (x ∷ [])) ∙ ap (map f) (sym (take_item xs at x there))

-- ---- places in a list

pub place_most : (ns : List ℕ) (id : ℕ) → place_among ns id ≤ length ns
place_most [] id = omega arith
place_most (n ∷ ns) id =
    ⊎_elim
    (λ (yes : (nat_eq n id ≡ true) × (n ≡ id)). rw yes.0 (omega arith))
    (λ (no : (nat_eq n id ≡ false) × (n ≢ id)). rw no.0 (let more = place_most ns id in omega arith))
    (eqb_tells n id)

-- two ids have one place only where they are one
pub same_place : (ns : List ℕ) (i k : ℕ) → place_among ns i ≡ place_among ns k → place_among ns i < length ns → i ≡ k
same_place [] i k e lt = absurd (omega arith)
same_place (n ∷ ns) i k e lt =
    ⊎_elim
    (λ (yes : (nat_eq n i ≡ true) × (n ≡ i)). ⊎_elim
    (λ (also : (nat_eq n k ≡ true) × (n ≡ k)). sym yes.1 ∙ also.1)
    (λ (no : (nat_eq n k ≡ false) × (n ≢ k)). let bad : 0 ≡ suc (place_among ns k) = rw (yes.0, no.0) at e in absurd (omega arith))
    (eqb_tells n k))
    (λ (no : (nat_eq n i ≡ false) × (n ≢ i)). ⊎_elim
    (λ (yes : (nat_eq n k ≡ true) × (n ≡ k)). let bad : suc (place_among ns i) ≡ 0 = rw (no.0, yes.0) at e in absurd (omega arith))
    (λ (also : (nat_eq n k ≡ false) × (n ≢ k)).
    let more : suc (place_among ns i) ≡ suc (place_among ns k) = rw (no.0, also.0) at e in
    let less : suc (place_among ns i) < suc (length ns) = rw no.0 at lt in
    same_place ns i k (omega arith) (omega arith))
    (eqb_tells n k))
    (eqb_tells n i)

-- an id within the list stands at its place
pub at_place : (ns : List ℕ) (id : ℕ) → place_among ns id < length ns → slice_get ns (place_among ns id) ≡ Some id
at_place [] id lt = absurd (omega arith)
at_place (n ∷ ns) id lt =
    ⊎_elim
    (λ (yes : (nat_eq n id ≡ true) × (n ≡ id)). rw yes.0 (ap Some yes.1))
    (λ (no : (nat_eq n id ≡ false) × (n ≢ id)).
    let less : suc (place_among ns id) < suc (length ns) = rw no.0 at lt in
    rw no.0 (at_place ns id (omega arith)))
    (eqb_tells n id)

-- the place of an id behind others
place_behind : (xs ys : List ℕ) (id : ℕ) → list_any (nat_eq id) xs ≡ false → place_among (xs ++ id ∷ ys) id ≡ length xs
place_behind [] ys id none = rw (eq-eqb id id refl) refl
place_behind (n ∷ xs) ys id none =
    ⊎_elim
    (λ (yes : (nat_eq id n ≡ true) × (id ≡ n)). absurd (let bad : true ≡ false = rw yes.0 at none in cc))
    (λ (no : (nat_eq id n ≡ false) × (id ≢ n)).
    let more : list_any (nat_eq id) xs ≡ false = rw no.0 at none in
    rw (ne_eqb n id (λ same. no.1 (sym same))) (ap suc (place_behind xs ys id more)))
    (eqb_tells id n)

-- the place of an id is the first at which the test for it passes
pub place_is_position : (ns : List ℕ) (id : ℕ) → place_among ns id ≡ position_or_len (nat_eq id) ns
place_is_position ns id = is_position_or_len (λ (xs : List ℕ). place_among xs id) (nat_eq id) refl step ns
  where
    step : (x : ℕ) (xs : List ℕ) → place_among (x ∷ xs) id ≡ cond (nat_eq id x) 0 (1 + place_among xs id)
    step x xs =
        ⊎_elim
        (λ (yes : (nat_eq id x ≡ true) × (id ≡ x)). rw (yes.0, eq-eqb x id (sym yes.1)) refl)
        (λ (no : (nat_eq id x ≡ false) × (id ≢ x)). rw (no.0, ne_eqb x id (λ same. no.1 (sym same))) (omega arith))
        (eqb_tells id x)

pub place_found : (ns : List ℕ) (id place : ℕ) → position (nat_eq id) ns ≡ Some place → place ≡ place_among ns id
place_found ns id place e = by (nat_lt (position_or_len (nat_eq id) ns) (length ns)) e ∙ sym (place_is_position ns id)
  where
    by : (b : Bool) → cond b (Some (position_or_len (nat_eq id) ns)) None ≡ Some place → place ≡ position_or_len (nat_eq id) ns
    by true is = cc
    by false is = cc

pub place_missed : (ns : List ℕ) (id : ℕ) → position (nat_eq id) ns ≡ None → length ns ≡ place_among ns id
place_missed ns id e = by (nat_lt (position_or_len (nat_eq id) ns) (length ns)) refl e
  where
    by : (b : Bool) → nat_lt (position_or_len (nat_eq id) ns) (length ns) ≡ b → cond b (Some (position_or_len (nat_eq id) ns)) None ≡ None
        → length ns ≡ place_among ns id
    by true is none = cc
    by false is none = omega (arith, ltb-false (position_or_len (nat_eq id) ns) (length ns) is, place_is_position ns id, place_most ns id)

-- ---- all values in a row

abbrev pub row : List Block → List Value
row blocks = flat_map (λ (b : Block). b.values) blocks

-- how many values stand before this place of a block
abbrev pub number : List Block → ℕ → ℕ → ℕ
number blocks b j = length (row (take b blocks)) + j

abbrev pub values_in : List Block → ℕ → List Value
values_in blocks b = (slice_index_or blocks b no_block).values

pub row_get : (blocks : List Block) (b j : ℕ) (v : Value) → slice_get (values_in blocks b) j ≡ Some v → slice_get (row blocks) (number blocks b j) ≡ Some v
row_get [] b j v e = absurd cc
row_get (x ∷ blocks) zero j v e =
    let same : 0 + j ≡ j = omega arith in ap (slice_get (row (x ∷ blocks))) same ∙ get_front x.values (row blocks) j v e
row_get (x ∷ blocks) (suc b) j v e =
    let far : length (x.values ++ row (take b blocks)) + j ≡ length x.values + number blocks b j =
    omega (arith, length-append x.values (row (take b blocks))) in
    ap (slice_get (row (x ∷ blocks))) far ∙ get_behind x.values (row blocks) (number blocks b j) ∙ row_get blocks b j v e

pub known_get : (n : ℕ) (blocks : List Block) (b j : ℕ) (v : Value) → slice_get (values_in blocks b) j ≡ Some v
    → slice_get (known_from n blocks) (number blocks b j) ≡ Some (known_in (n + b) v)
known_get n [] b j v e = absurd cc
known_get n (x ∷ blocks) zero j v e =
    let same : 0 + j ≡ j = omega arith in
    let here : n ≡ n + 0 = omega arith in
    ap (slice_get (known_from n (x ∷ blocks))) same
    ∙ get_front (map (known_in n) x.values) (known_from (suc n) blocks) j (known_in n v)
    (slice_get-map (known_in n) x.values j ∙ ap (option_map (known_in n)) e)
    ∙ ap (λ m. Some (known_in m v)) here
known_get n (x ∷ blocks) (suc b) j v e =
    let far : length (x.values ++ row (take b blocks)) + j ≡ length (map (known_in n) x.values) + number blocks b j =
    omega (arith, length-append x.values (row (take b blocks)), length-map x.values (known_in n)) in
    let here : suc n + b ≡ n + suc b = omega arith in
    ap (slice_get (known_from n (x ∷ blocks))) far ∙ get_behind (map (known_in n) x.values) (known_from (suc n) blocks) (number blocks b j)
    ∙ known_get (suc n) blocks b j v e ∙ ap (λ m. Some (known_in m v)) here

pub known_length : (n : ℕ) (blocks : List Block) → length (known_from n blocks) ≡ length (row blocks)
known_length n [] = refl
known_length n (x ∷ blocks) =
    length-append (map (known_in n) x.values) (known_from (suc n) blocks)
    ∙ (let long = known_length (suc n) blocks in let one : length (map (known_in n) x.values) ≡ length x.values = length-map x.values (known_in n) in
    let all : length (map (known_in n) x.values) + length (known_from (suc n) blocks) ≡ length x.values + length (row blocks) = omega arith in all)
    ∙ sym (length-append x.values (row blocks))

-- where a value of the row stands
pub record IsFound (blocks : List Block) (k : ℕ) (v : Value) : Type 0 where
  pub block : ℕ
  pub place : ℕ
  pub there : slice_get (values_in blocks block) place ≡ Some v
  pub is : number blocks block place ≡ k

pub row_found : (blocks : List Block) (k : ℕ) (v : Value) → slice_get (row blocks) k ≡ Some v → IsFound blocks k v
row_found [] k v e = absurd cc
row_found (x ∷ blocks) k v e =
    elim (cases_lt k (length x.values)) [
      | inl less ↦ record { block = 0; place = k; there = get_within x.values (row blocks) k v less e; is = omega arith }
      | inr past ↦
          let m : ℕ = k - length x.values in
          let split : length x.values + m ≡ k = omega arith in
          let more = row_found blocks m v (sym (get_behind x.values (row blocks) m) ∙ ap (slice_get (row (x ∷ blocks))) split ∙ e) in
          record {
            block = suc more.block;
            place = more.place;
            there = more.there;
            is = omega (arith, more.is, length-append x.values (row (take more.block blocks)));
          }
    ]

-- ---- no id stands twice

none_in : (id : ℕ) (vs : List Value) → ((j : ℕ) (w : Value) → slice_get vs j ≡ Some w → w.id ≢ id) → list_any (nat_eq id) (ids vs) ≡ false
none_in id [] none = refl
none_in id (w ∷ vs) none = rw (ne_eqb id w.id (λ e. none 0 w refl (sym e))) (none_in id vs (λ j x at. none (suc j) x at))

none_joined : (id : ℕ) (a b : List ℕ) → list_any (nat_eq id) a ≡ false → list_any (nat_eq id) b ≡ false → list_any (nat_eq id) (a ++ b) ≡ false
none_joined id a b no_a no_b = list_any-append (nat_eq id) a b ∙ rw (no_a, no_b) refl

none_in_row : (id : ℕ) (blocks : List Block) (n : ℕ)
    → ((c j : ℕ) (w : Value) → c < n → slice_get (values_in blocks c) j ≡ Some w → w.id ≢ id) → list_any (nat_eq id) (ids (row (take n blocks))) ≡ false
none_in_row id blocks zero none = refl
none_in_row id [] (suc n) none = refl
none_in_row id (x ∷ blocks) (suc n) none =
    ap (list_any (nat_eq id)) (map-append (λ (v : Value). v.id) x.values (row (take n blocks)))
    ∙ none_joined id (ids x.values) (ids (row (take n blocks))) (none_in id x.values (λ j w at. none 0 j w (omega arith) at))
    (none_in_row id blocks n (λ c j w lt at. none (suc c) j w (omega arith) at))

-- the id of a value is none of those before it
pub is_new : (p : Procedure) → IsValidProcedure p → (b j : ℕ) (v : Value) → StandsAt p b j v → list_any (nat_eq v.id) (ids_before p b j) ≡ false
is_new p valid b j v at =
    none_joined v.id (ids (row (take b p.blocks))) (ids (take j (values_of p b)))
    (none_in_row v.id p.blocks b (λ c m w lt there. valid rule.Ids (ValueAt b j v) at c m w there (inl lt)))
    (none_in v.id (take j (values_of p b))
    (λ m w there. let t = get_taken (values_of p b) j m w there in valid rule.Ids (ValueAt b j v) at b m w t.1 (inr (refl, t.0))))

-- a value's block is one of the procedure
pub in_blocks : (blocks : List Block) (b j : ℕ) (v : Value) → slice_get (values_in blocks b) j ≡ Some v → b < length blocks
in_blocks blocks b j v there =
    elim (cases_lt b (length blocks)) [
      | inl less ↦ less
      | inr past ↦
          let none : values_in blocks b ≡ [] = ap (λ (x : Block). x.values) (get_or-eq_default blocks no_block past) in
          absurd (let e : slice_get [] j ≡ Some v = subst (λ (vs : List Value). slice_get vs j ≡ Some v) none there in cc)
    ]

-- all values: those of the blocks before one, its own, and those of the blocks behind it
row_split : (blocks : List Block) (b : ℕ) → b < length blocks → (behind : List Value) × (row blocks ≡ row (take b blocks) ++ (values_in blocks b ++ behind))
row_split [] b lt = absurd (omega arith)
row_split (x ∷ blocks) zero lt = (row blocks, refl)
row_split (x ∷ blocks) (suc b) lt =
    let more = row_split blocks b (omega arith) in
    (more.0, ap (λ vs. x.values ++ vs) more.1 ∙ sym (append_assoc x.values (row (take b blocks)) (values_in blocks b ++ more.0)))

-- the place of a value's id is that of the value
pub place_is : (p : Procedure) → IsValidProcedure p → (b j : ℕ) (v : Value) → StandsAt p b j v → place_among (ids_of p) v.id ≡ number p.blocks b j
place_is p valid b j v at =
    let front = row (take b p.blocks) in
    let here = take j (values_of p b) in
    let whole = row_split p.blocks b (in_blocks p.blocks b j v at) in
    let cut = split_at (values_of p b) j v at in
    let all : row p.blocks ≡ front ++ ((here ++ v ∷ cut.0) ++ whole.0) = whole.1 ∙ ap (λ vs. front ++ (vs ++ whole.0)) cut.1 in
    let all_ids : ids_of p ≡ (ids front ++ ids here) ++ v.id ∷ ids (cut.0 ++ whole.0) =
    ap ids (all ∙ ap (λ vs. front ++ vs) (append_assoc here (v ∷ cut.0) whole.0) ∙ sym (append_assoc front here (v ∷ (cut.0 ++ whole.0))))
    ∙ map-append (λ (x : Value). x.id) (front ++ here) (v ∷ (cut.0 ++ whole.0))
    ∙ ap (λ ns. ns ++ v.id ∷ ids (cut.0 ++ whole.0)) (map-append (λ (x : Value). x.id) front here) in
    let long : length (ids front ++ ids here) ≡ length front + j =
    omega (arith, length-append (ids front) (ids here), length-map front (λ (x : Value). x.id), length-map here (λ (x : Value). x.id), cut.2) in
    ap (λ ns. place_among ns v.id) all_ids ∙ place_behind (ids front ++ ids here) (ids (cut.0 ++ whole.0)) v.id (is_new p valid b j v at) ∙ long

-- the id at a place of the row has this place
pub place_of_row : (p : Procedure) → IsValidProcedure p → (k : ℕ) (v : Value) → slice_get (all_values p) k ≡ Some v → place_among (ids_of p) v.id ≡ k
place_of_row p valid k v at =
    let found = row_found p.blocks k v at in
    place_is p valid found.block found.place v found.there ∙ found.is

-- what is known of a value
pub known_is : (p : Procedure) → IsValidProcedure p → (b j : ℕ) (v : Value) → StandsAt p b j v → known (index_of p) v.id ≡ known_in b v
known_is p valid b j v at =
    ap (λ n. slice_index_or (known_from 0 p.blocks) n unknown) (place_is p valid b j v at)
    ∙ get_or_from_slice_get (known_from 0 p.blocks) (number p.blocks b j) (known_in b v) unknown
    (known_get 0 p.blocks b j v at ∙ ap (λ m. Some (known_in m v)) (same b))
  where
    same : (n : ℕ) → 0 + n ≡ n
    same n = omega arith

-- the value that an id names stands at the id's place
pub record IsNamed (vs : List Value) (id : ℕ) (v : Value) : Type 0 where
  pub place : ℕ
  pub there : slice_get vs place ≡ Some v
  pub its_id : v.id ≡ id
  pub is : place_among (ids vs) id ≡ place

pub named : (id : ℕ) (vs : List Value) (v : Value) → with_id id vs ≡ Some v → IsNamed vs id v
named id [] v e = absurd cc
named id (w ∷ vs) v e =
    ⊎_elim
    (λ (yes : (nat_eq w.id id ≡ true) × (w.id ≡ id)).
    let here : Some w ≡ Some v = rw yes.0 at e in
    let same : w ≡ v = cc in
    record { place = 0; there = here; its_id = ap (λ (x : Value). x.id) (sym same) ∙ yes.1; is = rw yes.0 refl })
    (λ (no : (nat_eq w.id id ≡ false) × (w.id ≢ id)).
    let more = named id vs v (rw no.0 at e) in
    record { place = suc more.place; there = more.there; its_id = more.its_id; is = rw no.0 (ap suc more.is) })
    (eqb_tells w.id id)

-- an id that names no value has no place
pub not_named : (id : ℕ) (vs : List Value) → with_id id vs ≡ None → place_among (ids vs) id ≡ length (ids vs)
not_named id [] e = refl
not_named id (w ∷ vs) e =
    ⊎_elim
    (λ (yes : (nat_eq w.id id ≡ true) × (w.id ≡ id)). absurd (let bad : Some w ≡ None = rw yes.0 at e in cc))
    (λ (no : (nat_eq w.id id ≡ false) × (w.id ≢ id)). rw no.0 (ap suc (not_named id vs (rw no.0 at e))))
    (eqb_tells w.id id)
