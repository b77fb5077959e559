-- What the uses of values add up to, and which values are folded.
use Rattle.std.proofs.Common.{◌≡◌, ◌≢◌, ℕ, zero, suc, ◌+◌, ◌<◌, ◌≤◌, Bool, true, false, ◌&&◌, ◌||◌, List, [], ◌∷◌, ◌++◌, Some, length, map, take, drop, refl, sym, ap, ◌∙◌, subst, arith, nat_eq, get_or, get_or-set_same, get_or-set_other, length-set, ⊎_elim}
use Rattle.std.specs.Prelude.{if◌then◌else◌, nat_lt, slice_get, slice_index_or, slice_set}
use Rattle.std.specs.List.{flat_map, list_all}
use Rattle.std.specs.Option.{option_map}
use Rattle.std.proofs.lemmas.List.{drop_all, drop_more, length-map, map-append, take_all}
use Rattle.std.proofs.lemmas.Bool.{le-ltb, lt-ltb, ltb-false, ltb-true, ne_eqb}
use Rattle.std.proofs.lemmas.Bool.Decides.{eqb_tells}
use Rattle.std.proofs.lemmas.Option.{get_or_from_slice_get, slice_get_within, slice_get-map}
use Rattle.b3_ir.specs.Naming.{all_values}
use Rattle.b3_ir.specs.Procedure.{Block, Procedure, no_block, values_of}
use Rattle.b3_ir.specs.declared.opcode.Opcode.{Opcode}
use Rattle.b3_ir.specs.declared.value.Value.{Value}
use Rattle.b3_rules.specs.Valid.{IsValidProcedure}
use Rattle.air_fold.specs.Foldable.{Use, fits, is_constant, is_folded_by, uses, uses_by, uses_from, uses_in, uses_of}
use Rattle.air_fold.specs.Values.{Index, ids_of, index_of, place, unknown}
use Rattle.air_fold.specs.Tallied.{is_folded, no_use, none, with_all, with_one, with_use}
use Rattle.air_fold.specs.declared.known.Known.{Known}
use Rattle.air_fold.specs.declared.uses.Tally.{Tally}
use Rattle.air_fold.proofs.Places.{get_some, known_length, place_of_row, same_place, take_item}

-- ---- one use after the other

pub with_all-append : (x : Index) (f : List Bool) (ts : List Tally) (us vs : List Use) → with_all x f ts (us ++ vs) ≡ with_all x f (with_all x f ts us) vs
with_all-append x f ts [] vs = refl
with_all-append x f ts (u ∷ us) vs = with_all-append x f (with_one x f ts u) us vs

one_length : (x : Index) (f : List Bool) (ts : List Tally) (u : Use) → length (with_one x f ts u) ≡ length ts
unfolding with_one
one_length x f ts u = by (nat_lt (place x u.id) (length ts))
  where
    by : (b : Bool) → length (if b then slice_set ts (place x u.id) (with_use (slice_index_or ts (place x u.id) no_use) (fits x f u)) else ts) ≡ length ts
    by true = length-set ts (place x u.id) (with_use (slice_index_or ts (place x u.id) no_use) (fits x f u))
    by false = refl

pub all_length : (x : Index) (f : List Bool) (ts : List Tally) (us : List Use) → length (with_all x f ts us) ≡ length ts
all_length x f ts [] = refl
all_length x f ts (u ∷ us) = all_length x f (with_one x f ts u) us ∙ one_length x f ts u

-- ---- the tally of a value

-- what uses of one value add up to
abbrev pub tally_from : Index → List Bool → Tally → List Use → Tally
tally_from x f t [] = t
tally_from x f t (u ∷ us) = tally_from x f (with_use t (fits x f u)) us

-- a use of this value changes its tally
one_here : (x : Index) (f : List Bool) (ts : List Tally) (u : Use) → place x u.id < length ts
    → slice_index_or (with_one x f ts u) (place x u.id) no_use ≡ with_use (slice_index_or ts (place x u.id) no_use) (fits x f u)
unfolding with_one
one_here x f ts u lt =
    rw (lt-ltb (place x u.id) (length ts) lt)
    (get_or-set_same ts (place x u.id) (with_use (slice_index_or ts (place x u.id) no_use) (fits x f u)) no_use lt)

-- and a use of another one does not
one_there : (x : Index) (f : List Bool) (ts : List Tally) (u : Use) (k : ℕ) → k ≢ place x u.id
    → slice_index_or (with_one x f ts u) k no_use ≡ slice_index_or ts k no_use
unfolding with_one
one_there x f ts u k differ = by (nat_lt (place x u.id) (length ts))
  where
    by : (b : Bool)
        → slice_index_or (if b then slice_set ts (place x u.id) (with_use (slice_index_or ts (place x u.id) no_use) (fits x f u)) else ts) k no_use
        ≡ slice_index_or ts k no_use
    by true = get_or-set_other ts (place x u.id) k (with_use (slice_index_or ts (place x u.id) no_use) (fits x f u)) no_use differ
    by false = refl

pub tally_of : (x : Index) (f : List Bool) (ts : List Tally) (us : List Use) (id : ℕ) → length ts ≡ length x.ids → place x id < length x.ids
    → slice_index_or (with_all x f ts us) (place x id) no_use ≡ tally_from x f (slice_index_or ts (place x id) no_use) (uses_of us id)
tally_of x f ts [] id long lt = refl
tally_of x f ts (u ∷ us) id long lt =
    let more = tally_of x f (with_one x f ts u) us id (one_length x f ts u ∙ long) lt in
    ⊎_elim
    (λ (yes : (nat_eq u.id id ≡ true) × (u.id ≡ id)).
    let here : slice_index_or (with_one x f ts u) (place x id) no_use ≡ with_use (slice_index_or ts (place x id) no_use) (fits x f u) =
    subst (λ i. slice_index_or (with_one x f ts u) (place x i) no_use ≡ with_use (slice_index_or ts (place x i) no_use) (fits x f u)) yes.1
    (one_here x f ts u (let same : place x u.id ≡ place x id = ap (place x) yes.1 in omega arith)) in
    rw yes.0 (more ∙ ap (λ t. tally_from x f t (uses_of us id)) here))
    (λ (no : (nat_eq u.id id ≡ false) × (u.id ≢ id)).
    rw no.0 (more ∙ ap (λ t. tally_from x f t (uses_of us id)) (one_there x f ts u (place x id) (λ same. no.1 (sym (same_place x.ids id u.id same lt))))))
    (eqb_tells u.id id)

-- ---- what the tally says

pub fit_of : (x : Index) (f : List Bool) (t : Tally) (us : List Use) → (tally_from x f t us).fit ≡ (t.fit && list_all (fits x f) us)
fit_of x f t [] = and_true t.fit
  where
    and_true : (b : Bool) → b ≡ (b && true)
    and_true true = refl
    and_true false = refl
fit_of x f t (u ∷ us) = fit_of x f (with_use t (fits x f u)) us ∙ and_assoc t.fit (fits x f u) (list_all (fits x f) us)
  where
    and_assoc : (a b c : Bool) → ((a && b) && c) ≡ (a && (b && c))
    and_assoc true b c = refl
    and_assoc false b c = refl

count_most : (t : Tally) (f : Bool) → (with_use t f).count ≤ 2
count_most t f = by (nat_lt t.count 2) refl
  where
    by : (b : Bool) → nat_lt t.count 2 ≡ b → (if b then t.count + 1 else 2) ≤ 2
    by true e = omega (arith, ltb-true t.count 2 e)
    by false e = omega arith

-- more than one counts as two
counts_on : (t : Tally) (f : Bool) (n : ℕ) → t.count ≤ 2 → nat_eq ((with_use t f).count + n) 1 ≡ nat_eq (t.count + suc n) 1
counts_on t f n le = by (nat_lt t.count 2) refl
  where
    by : (b : Bool) → nat_lt t.count 2 ≡ b → nat_eq ((if b then t.count + 1 else 2) + n) 1 ≡ nat_eq (t.count + suc n) 1
    by true e = let same : t.count + 1 + n ≡ t.count + suc n = omega arith in ap (λ m. nat_eq m 1) same
    by false e =
        let most : 2 ≤ t.count = ltb-false t.count 2 e in
        ne_eqb (2 + n) 1 (λ bad. omega arith) ∙ sym (ne_eqb (t.count + suc n) 1 (λ bad. omega arith))

pub count_of : (x : Index) (f : List Bool) (t : Tally) (us : List Use) → t.count ≤ 2 → nat_eq (tally_from x f t us).count 1 ≡ nat_eq (t.count + length us) 1
count_of x f t [] le = let same : t.count ≡ t.count + 0 = omega arith in ap (λ m. nat_eq m 1) same
count_of x f t (u ∷ us) le = count_of x f (with_use t (fits x f u)) us (count_most t (fits x f u)) ∙ counts_on t (fits x f u) (length us) le

none_at : (n k : ℕ) → slice_index_or (none n) k no_use ≡ no_use
none_at zero k = refl
none_at (suc n) zero = refl
none_at (suc n) (suc k) = none_at n k

none_length : (n : ℕ) → length (none n) ≡ n
none_length zero = refl
none_length (suc n) = ap suc (none_length n)

-- a value is folded as its tally says
pub folded_is : (x : Index) (f : List Bool) (us : List Use) (id : ℕ) (k : Known) (n : ℕ) → n ≡ length x.ids → place x id < length x.ids
    → slice_index_or x.known (place x id) unknown ≡ k
    → is_folded k (slice_index_or (with_all x f (none n) us) (place x id) no_use) ≡ is_folded_by x f us id
folded_is x f us id k n long lt is_k =
    let mine = uses_of us id in
    let tally : slice_index_or (with_all x f (none n) us) (place x id) no_use ≡ tally_from x f no_use mine =
    tally_of x f (none n) us id (none_length n ∙ long) lt ∙ ap (λ t. tally_from x f t mine) (none_at n (place x id)) in
    let count : nat_eq (tally_from x f no_use mine).count 1 ≡ nat_eq (length mine) 1 =
    count_of x f no_use mine (omega arith) ∙ ap (λ m. nat_eq m 1) (zero_more (length mine)) in
    ap (is_folded k) tally
    ∙ ap (λ b. b && (is_constant k.opcode || nat_eq (tally_from x f no_use mine).count 1)) (fit_of x f no_use mine)
    ∙ ap (λ b. list_all (fits x f) mine && (is_constant k.opcode || b)) count
    ∙ ap (λ (w : Known). list_all (fits x f) mine && (is_constant w.opcode || nat_eq (length mine) 1)) (sym is_k)
  where
    zero_more : (m : ℕ) → 0 + m ≡ m
    zero_more m = omega arith

-- ---- the uses of blocks

drop_block : (blocks : List Block) (b : ℕ) → b < length blocks → drop b blocks ≡ slice_index_or blocks b no_block ∷ drop (b + 1) blocks
drop_block blocks b lt = drop_more blocks b no_block lt

-- the tallies of the blocks before one, with the uses of those from it on, are those of all uses
pub record AreTallied (x : Index) (f : List Bool) (p : Procedure) (whole ts : List Tally) (block : ℕ) : Type 0 where
  pub all : with_all x f ts (uses_in block (drop block p.blocks)) ≡ with_all x f whole (uses_in 0 p.blocks)
  pub long : length ts ≡ length whole

pub tallied_next : (x : Index) (f : List Bool) (p : Procedure) (whole ts ts' : List Tally) (block : ℕ) → block < length p.blocks
    → AreTallied x f p whole ts block
    → ts' ≡ with_all x f ts (flat_map (uses_by block) (values_of p block)) → AreTallied x f p whole ts' (block + 1)
tallied_next x f p whole ts ts' block lt tallied e =
    let behind = drop (block + 1) p.blocks in
    let here = flat_map (uses_by block) (values_of p block) in
    let step : uses_in block (drop block p.blocks) ≡ here ++ uses_in (block + 1) behind =
    ap (uses_in block) (drop_block p.blocks block lt) ∙ ap (λ n. here ++ uses_in n behind) (next block) in
    record {
      all = ap (λ l. with_all x f l (uses_in (block + 1) behind)) e ∙ sym (with_all-append x f ts here (uses_in (block + 1) behind))
          ∙ ap (with_all x f ts) (sym step) ∙ tallied.all;
      long = ap length e ∙ all_length x f ts here ∙ tallied.long;
    }
  where
    next : (n : ℕ) → suc n ≡ n + 1
    next n = omega arith

pub tallied_all : (x : Index) (f : List Bool) (p : Procedure) (whole ts : List Tally) (block : ℕ) → length p.blocks ≤ block → AreTallied x f p whole ts block
    → ts ≡ with_all x f whole (uses_in 0 p.blocks)
tallied_all x f p whole ts block end tallied =
    subst (λ (bs : List Block). with_all x f ts (uses_in block bs) ≡ with_all x f whole (uses_in 0 p.blocks)) (drop_all block p.blocks end) tallied.all

-- ---- the steps of the loops

-- a use that is noted
pub one_set : (x : Index) (f : List Bool) (ts ts' : List Tally) (u : Use) (k : ℕ) (t t' : Tally) → k ≡ place x u.id → slice_get ts k ≡ Some t
    → t' ≡ with_use t (fits x f u) → ts' ≡ slice_set ts k t' → ts' ≡ with_one x f ts u
unfolding with_one
one_set x f ts ts' u k t t' at there with set =
    let within : nat_lt (place x u.id) (length ts) ≡ true = lt-ltb (place x u.id) (length ts) (omega (arith, slice_get_within ts k t there)) in
    let was : slice_index_or ts k no_use ≡ t = get_or_from_slice_get ts k t no_use there in
    rw within (set ∙ ap (slice_set ts k) (with ∙ ap (λ s. with_use s (fits x f u)) (sym was))
    ∙ ap (λ n. slice_set ts n (with_use (slice_index_or ts n no_use) (fits x f u))) at)

pub one_kept : (x : Index) (f : List Bool) (ts : List Tally) (u : Use) (k : ℕ) → k ≡ place x u.id → length ts ≤ k → ts ≡ with_one x f ts u
unfolding with_one
one_kept x f ts u k at past =
    let without : nat_lt (place x u.id) (length ts) ≡ false = le-ltb (place x u.id) (length ts) (omega arith) in rw without refl

-- the uses by a value, one after the other
pub child_next : (x : Index) (f : List Bool) (block user : ℕ) (op : Opcode) (ts ts' whole : List Tally) (children : List ℕ) (at : ℕ) → at < length children
    → with_all x f ts (uses_from block user op at (drop at children)) ≡ whole
    → ts' ≡ with_one x f ts (record { id = get_or children at 0; block = block; user = user; opcode = op; at = at })
    → with_all x f ts' (uses_from block user op (at + 1) (drop (at + 1) children)) ≡ whole
child_next x f block user op ts ts' whole children at lt all more =
    let step : drop at children ≡ get_or children at 0 ∷ drop (at + 1) children = drop_more children at 0 lt in
    ap (λ l. with_all x f l (uses_from block user op (at + 1) (drop (at + 1) children))) more
    ∙ ap (λ n. with_all x f (with_one x f ts (record { id = get_or children at 0; block = block; user = user; opcode = op; at = at }))
    (uses_from block user op n (drop (at + 1) children))) (next at)
    ∙ sym (ap (λ l. with_all x f ts (uses_from block user op at l)) step) ∙ all
  where
    next : (n : ℕ) → n + 1 ≡ suc n
    next n = omega arith

pub children_end : (x : Index) (f : List Bool) (block user : ℕ) (op : Opcode) (ts whole : List Tally) (children : List ℕ) (at : ℕ) → length children ≤ at
    → with_all x f ts (uses_from block user op at (drop at children)) ≡ whole → ts ≡ whole
children_end x f block user op ts whole children at end all =
    subst (λ (l : List ℕ). with_all x f ts (uses_from block user op at l) ≡ whole) (drop_all at children end) all

-- the values of a block, one after the other
pub value_next : (x : Index) (f : List Bool) (block : ℕ) (ts ts' : List Tally) (v : Value) → ts' ≡ with_all x f ts (uses_by block v)
    → (vs : List Value) → with_all x f ts' (flat_map (uses_by block) vs) ≡ with_all x f ts (flat_map (uses_by block) (v ∷ vs))
value_next x f block ts ts' v more vs =
    ap (λ l. with_all x f l (flat_map (uses_by block) vs)) more ∙ sym (with_all-append x f ts (uses_by block v) (flat_map (uses_by block) vs))

-- ---- which values are folded

pub ids_length : (p : Procedure) → length (index_of p).known ≡ length (ids_of p)
ids_length p = known_length 0 p.blocks ∙ sym (length-map (all_values p) (λ (v : Value). v.id))

pub fold_next : (p : Procedure) → IsValidProcedure p → (x : Index) (f : List Bool) (n at : ℕ) (ts : List Tally) (k : Known) (t : Tally) → x ≡ index_of p
    → n ≡ length x.known → ts ≡ with_all x f (none n) (uses p) → slice_get x.known at ≡ Some k → slice_get ts at ≡ Some t
    → (folds folds' : List Bool) → folds ≡ map (is_folded_by (index_of p) f (uses p)) (take at (ids_of p)) → folds' ≡ folds ++ is_folded k t ∷ []
    → folds' ≡ map (is_folded_by (index_of p) f (uses p)) (take (at + 1) (ids_of p))
fold_next p valid x f n at ts k t is_x is_n is_ts at_k at_t folds folds' so_far more =
    let y = index_of p in
    let size : length x.known ≡ length (all_values p) = ap (λ (z : Index). length z.known) is_x ∙ known_length 0 p.blocks in
    let here = get_some (all_values p) at (omega (arith, slice_get_within x.known at k at_k)) in
    let v : Value = here.0 in
    let place_v : place y v.id ≡ at = place_of_row p valid at v here.1 in
    let id_there : slice_get (ids_of p) at ≡ Some v.id = slice_get-map (λ (w : Value). w.id) (all_values p) at ∙ ap (option_map (λ (w : Value). w.id)) here.1 in
    let long : n ≡ length y.ids = is_n ∙ ap (λ (z : Index). length z.known) is_x ∙ ids_length p in
    let k_there : slice_index_or y.known (place y v.id) unknown ≡ k =
    ap (λ m. slice_index_or y.known m unknown) place_v
    ∙ get_or_from_slice_get y.known at k unknown (subst (λ (z : Index). slice_get z.known at ≡ Some k) is_x at_k) in
    let t_there : slice_index_or (with_all y f (none n) (uses p)) (place y v.id) no_use ≡ t =
    ap (λ m. slice_index_or (with_all y f (none n) (uses p)) m no_use) place_v
    ∙ get_or_from_slice_get (with_all y f (none n) (uses p)) at t no_use
    (subst (λ (l : List Tally). slice_get l at ≡ Some t) (is_ts ∙ ap (λ (z : Index). with_all z f (none n) (uses p)) is_x) at_t) in
    let folded : is_folded k t ≡ is_folded_by (index_of p) f (uses p) v.id =
    ap (is_folded k) (sym t_there) ∙ folded_is y f (uses p) v.id k n long (omega (arith, slice_get_within (ids_of p) at v.id id_there)) k_there in
    more ∙ ap (λ l. l ++ is_folded k t ∷ []) so_far ∙ ap (λ b. map (is_folded_by (index_of p) f (uses p)) (take at (ids_of p)) ++ b ∷ []) folded
    ∙ sym (map-append (is_folded_by (index_of p) f (uses p)) (take at (ids_of p)) (v.id ∷ []))
    ∙ ap (map (is_folded_by (index_of p) f (uses p))) (sym (take_item (ids_of p) at v.id id_there))

pub fold_end : (p : Procedure) (x : Index) (f : List Bool) (at : ℕ) → x ≡ index_of p → length x.known ≤ at
    → (folds : List Bool) → folds ≡ map (is_folded_by (index_of p) f (uses p)) (take at (ids_of p))
    → folds ≡ map (is_folded_by (index_of p) f (uses p)) (ids_of p)
fold_end p x f at is_x end folds so_far =
    so_far ∙ ap (map (is_folded_by (index_of p) f (uses p))) (take_all at (ids_of p) (omega (arith, ap (λ (z : Index). length z.known) is_x, ids_length p)))
