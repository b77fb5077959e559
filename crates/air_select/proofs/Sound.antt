-- What selection looks up of a valid procedure is what the proofs need of it.
use Rattle.std.proofs.Common.{◌≡◌, ◌≢◌, ℕ, zero, suc, ◌+◌, ◌<◌, ◌⊎◌, inl, inr, Bool, true, false, ◌&&◌, ◌||◌, List, [], ◌∷◌, Option, Some, None, length, map, refl, sym, ap, ◌∙◌, subst, arith, nat_eq, ⊎_elim}
use Rattle.std.specs.Prelude.{Contains, not, slice_get, slice_index_or}
use Rattle.std.specs.List.{flat_map, list_all}
use Rattle.std.specs.Option.{option_map}
use Rattle.std.proofs.Math.ListN.{get_or-eq_default}
use Rattle.std.proofs.lemmas.Bool.{cases_lt, eqb-true, or_cases}
use Rattle.std.proofs.lemmas.Bool.Decides.{eqb_tells}
use Rattle.std.proofs.lemmas.List.{length-map}
use Rattle.std.proofs.lemmas.List.Elements.{Contains-append_left, Contains-append_right}
use Rattle.std.proofs.lemmas.Option.{get_or_from_slice_get, slice_get-map, slice_get_within}
use Rattle.b3_base.proofs.Lists.{Contains-none, Contains-first, Contains-later, Contains-cases, place_of}
use Rattle.b3_base.proofs.Booleans.{and_first, and_second}
use Rattle.b3_ir.specs.Naming.{all_values, type_of, type_or_void, value_named}
use Rattle.b3_ir.specs.Procedure.{Block, Procedure, place_among, values_of}
use Rattle.b3_ir.specs.declared.opcode.Opcode.{Opcode}
use Rattle.b3_ir.specs.declared.opcode.Opcode.TheVariants as opcode
use Rattle.b3_ir.specs.declared.value.Value.{Value}
use Rattle.b3_rules.specs.Valid.{IsValidProcedure}
use Rattle.air_fold.specs.Foldable.{Use, access_bytes, first_fits, fits, fits_as, is_add, is_bit_test, is_comparison, is_constant, is_foldable, is_folded_by, is_index, is_pointer, is_shl, is_three, pointer_of, pointers, reaches, second_fits, uses, uses_by, uses_from, uses_in, uses_of, value_fits}
use Rattle.air_select.specs.Selected.{folds, tables}
use Rattle.air_fold.specs.Values.{Index, ids_of, index_of, known, known_from, known_in, unknown}
use Rattle.air_fold.specs.declared.known.Known.{Known}
use Rattle.air_fold.proofs.Places.{at_place, known_get, known_is, known_length, named, not_named, number, place_is, row_found, row_get, same_place, values_in}
use Rattle.air_select.proofs.Setting.{IsKind, IsSound}

-- ---- tests

-- ---- places

named_below : (p : Procedure) (id : ℕ) (v : Value) → value_named p id ≡ Some v → place_among (ids_of p) id < length (ids_of p)
named_below p id v e =
    let n = named id (all_values p) v e in
    omega (arith, n.is, slice_get_within (all_values p) n.place v n.there, length-map (all_values p) (λ (w : Value). w.id))

type_is : (p : Procedure) (id : ℕ) → (known (index_of p) id).ty ≡ type_of p id
type_is p id = by (value_named p id) refl
  where
    zero_more : (n : ℕ) → 0 + n ≡ n
    zero_more n = omega arith

    by : (o : Option Value) → value_named p id ≡ o → (known (index_of p) id).ty ≡ type_or_void o
    by (Some v) e =
        let n = named id (all_values p) v e in
        let f = row_found p.blocks n.place v n.there in
        let there : slice_get (known_from 0 p.blocks) n.place ≡ Some (known_in (0 + f.block) v) =
        ap (slice_get (known_from 0 p.blocks)) (sym f.is) ∙ known_get 0 p.blocks f.block f.place v f.there in
        ap (λ k. (slice_index_or (known_from 0 p.blocks) k unknown).ty) n.is
        ∙ ap (λ (k : Known). k.ty) (get_or_from_slice_get (known_from 0 p.blocks) n.place (known_in (0 + f.block) v) unknown there)
    by None e =
        ap (λ (k : Known). k.ty)
        (get_or-eq_default (known_from 0 p.blocks) unknown
        (omega (arith, not_named id (all_values p) e, known_length 0 p.blocks, length-map (all_values p) (λ (w : Value). w.id))))

-- what is folded is foldable
pub foldable : (p : Procedure) (id : ℕ) → folds (tables p) id ≡ true → is_foldable p id ≡ true
foldable p id e =
    let marks = map (is_foldable p) (ids_of p) in
    let at = place_among (ids_of p) id in
    elim (cases_lt at (length (ids_of p))) [
      | inl less ↦
          sym (get_or_from_slice_get marks at (is_foldable p id) false
          (slice_get-map (is_foldable p) (ids_of p) at ∙ ap (option_map (is_foldable p)) (at_place (ids_of p) id less))) ∙ e
      | inr past ↦
          let none : slice_index_or marks at false ≡ false = get_or-eq_default marks false (omega (arith, length-map (ids_of p) (is_foldable p))) in
          absurd (let bad : true ≡ false = sym e ∙ none in cc)
    ]

-- ---- the uses of a procedure

use_by : (block user : ℕ) (op : Opcode) (at : ℕ) (children : List ℕ) (i id : ℕ) → slice_get children i ≡ Some id
    → Contains (uses_from block user op at children) (record { id = id; block = block; user = user; opcode = op; at = at + i })
use_by block user op at [] i id e = absurd cc
use_by block user op at (c ∷ children) zero id e =
    let same : c ≡ id = cc in
    let here : at ≡ at + 0 = omega arith in
    let rest = uses_from block user op (suc at) children in
    let u : Use = record { id = c; block = block; user = user; opcode = op; at = at } in
    let as_it_is : u ≡ record { id = id; block = block; user = user; opcode = op; at = at + 0 } =
    ap (λ n. record { id = n; block = block; user = user; opcode = op; at = at }) same
    ∙ ap (λ n. record { id = id; block = block; user = user; opcode = op; at = n }) here in
    subst (λ (w : Use). Contains (u ∷ rest) w) as_it_is (Contains-first u rest)
use_by block user op at (c ∷ children) (suc i) id e =
    let next : suc at + i ≡ at + suc i = omega arith in
    Contains-later (record { id = c; block = block; user = user; opcode = op; at = at }) (uses_from block user op (suc at) children)
    (record { id = id; block = block; user = user; opcode = op; at = at + suc i })
    (subst (λ n. Contains (uses_from block user op (suc at) children) (record { id = id; block = block; user = user; opcode = op; at = n })) next
    (use_by block user op (suc at) children i id e))

use_in_block : (block : ℕ) (vs : List Value) (v : Value) (u : Use) → Contains vs v → Contains (uses_by block v) u → Contains (flat_map (uses_by block) vs) u
use_in_block block [] v u has is = absurd (Contains-none v has)
use_in_block block (w ∷ vs) v u has is =
    ⊎_elim
    (λ (same : w ≡ v). Contains-append_left (uses_by block w) (flat_map (uses_by block) vs) u
    (subst (λ (x : Value). Contains (uses_by block x) u) (sym same) is))
    (λ (more : Contains vs v). Contains-append_right (uses_by block w) (flat_map (uses_by block) vs) u (use_in_block block vs v u more is))
    (Contains-cases w vs v has)

use_in : (n : ℕ) (blocks : List Block) (b : ℕ) (v : Value) (u : Use) → Contains (values_in blocks b) v → Contains (uses_by (n + b) v) u
    → Contains (uses_in n blocks) u
use_in n [] b v u has is = absurd (Contains-none v has)
use_in n (x ∷ blocks) zero v u has is =
    let here : n + 0 ≡ n = omega arith in
    Contains-append_left (flat_map (uses_by n) x.values) (uses_in (suc n) blocks) u
    (use_in_block n x.values v u has (subst (λ m. Contains (uses_by m v) u) here is))
use_in n (x ∷ blocks) (suc b) v u has is =
    let next : n + suc b ≡ suc n + b = omega arith in
    Contains-append_right (flat_map (uses_by n) x.values) (uses_in (suc n) blocks) u
    (use_in (suc n) blocks b v u has (subst (λ m. Contains (uses_by m v) u) next is))

-- each use of a value whose uses all pass a test passes it
each_passes : (test : Use → Bool) (us : List Use) (id : ℕ) (u : Use) → list_all test (uses_of us id) ≡ true → Contains us u → u.id ≡ id → test u ≡ true
each_passes test [] id u all has is = absurd (Contains-none u has)
each_passes test (w ∷ us) id u all has is =
    ⊎_elim
    (λ (yes : (nat_eq w.id id ≡ true) × (w.id ≡ id)).
    let now : (test w && list_all test (uses_of us id)) ≡ true = rw yes.0 at all in
    ⊎_elim
    (λ (same : w ≡ u). ap test (sym same) ∙ and_first (test w) (list_all test (uses_of us id)) now)
    (λ (more : Contains us u). each_passes test us id u (and_second (test w) (list_all test (uses_of us id)) now) more is)
    (Contains-cases w us u has))
    (λ (no : (nat_eq w.id id ≡ false) × (w.id ≢ id)).
    let now : list_all test (uses_of us id) ≡ true = rw no.0 at all in
    ⊎_elim
    (λ (same : w ≡ u). absurd (no.1 (ap (λ (x : Use). x.id) same ∙ is)))
    (λ (more : Contains us u). each_passes test us id u now more is)
    (Contains-cases w us u has))
    (eqb_tells w.id id)

-- the uses of a value are of its id
its_id : (us : List Use) (id : ℕ) (u : Use) (rest : List Use) → uses_of us id ≡ u ∷ rest → u.id ≡ id
its_id [] id u rest e = absurd cc
its_id (w ∷ us) id u rest e =
    ⊎_elim
    (λ (yes : (nat_eq w.id id ≡ true) × (w.id ≡ id)).
    let now : w ∷ uses_of us id ≡ u ∷ rest = rw yes.0 at e in
    let same : w ≡ u = cc in
    ap (λ (x : Use). x.id) (sym same) ∙ yes.1)
    (λ (no : (nat_eq w.id id ≡ false) × (w.id ≢ id)). its_id us id u rest (rw no.0 at e))
    (eqb_tells w.id id)

-- what fits as a pointer is a sum
pointer_kind : (x : Index) (user : ℕ) (op : Opcode) (is_word : Bool) (k : Known) → pointer_of x user op is_word k ≡ true → IsKind x k
pointer_kind x user op is_word k e =
    inr (inr (inr (inl (and_first (is_add k.opcode) (reaches (access_bytes x op (known x user)) is_word (known x user).offset (known x k.second)) e))))

-- and what fits as a condition is a comparison or a test of a bit
condition_kind : (x : Index) (k : Known) → (is_comparison k.opcode || is_bit_test x k) ≡ true → IsKind x k
condition_kind x k e = elim (or_cases (is_comparison k.opcode) (is_bit_test x k) e) [
  | inl comparison ↦ inr (inl comparison)
  | inr bit ↦ inr (inr (inl bit))
]

first_kind : (x : Index) (op : Opcode) (user : ℕ) (k : Known) → first_fits x op user k ≡ true → IsKind x k
first_kind x opcode.Branch user k e = condition_kind x k e
first_kind x opcode.Check user k e = condition_kind x k e
first_kind x opcode.Select user k e = inr (inl e)
first_kind x opcode.Load8Z user k e = pointer_kind x user opcode.Load8Z false k e
first_kind x opcode.Load8S user k e = pointer_kind x user opcode.Load8S false k e
first_kind x opcode.Load16Z user k e = pointer_kind x user opcode.Load16Z false k e
first_kind x opcode.Load16S user k e = pointer_kind x user opcode.Load16S false k e
first_kind x opcode.Load user k e = pointer_kind x user opcode.Load true k e
first_kind x _ user k e = absurd cc

second_kind : (x : Index) (f : List Bool) (op : Opcode) (user : ℕ) (k : Known) → second_fits x f op user k ≡ true → IsKind x k
second_kind x f opcode.Store8 user k e = pointer_kind x user opcode.Store8 false k e
second_kind x f opcode.Store16 user k e = pointer_kind x user opcode.Store16 false k e
second_kind x f opcode.Store user k e = pointer_kind x user opcode.Store true k e
second_kind x f opcode.Add user k e =
    inr (inr (inr (inr (and_first (is_shl k.opcode) (is_three (known x k.second) && not (is_constant (known x k.first).opcode))
    (and_second (is_pointer x f user) (is_index x k) e)))))
second_kind x f _ user k e = absurd cc

pub value_kind : (x : Index) (f : List Bool) (op : Opcode) (at user : ℕ) (k : Known) → value_fits x f op at user k ≡ true → IsKind x k
value_kind x f op zero user k e = first_kind x op user k e
value_kind x f op (suc zero) user k e = second_kind x f op user k e
value_kind x f op (suc (suc at)) user k e = absurd cc

-- what fits in a use and is no constant
kind_of_fit : (x : Index) (f : List Bool) (k : Known) (u : Use) → fits_as x f k u ≡ true → IsKind x k
kind_of_fit x f k u e = by (is_constant k.opcode) refl
  where
    by : (b : Bool) → is_constant k.opcode ≡ b → IsKind x k
    by true is = inl is
    by false is =
        let now : (nat_eq u.block k.block && value_fits x f u.opcode u.at u.user k) ≡ true = rw is at e in
        value_kind x f u.opcode u.at u.user k (and_second (nat_eq u.block k.block) (value_fits x f u.opcode u.at u.user k) now)

one_use : (us : List Use) → length us ≡ 1 → (u : Use) × (us ≡ u ∷ [])
one_use [] e = absurd (omega arith)
one_use (u ∷ []) e = (u, refl)
one_use (u ∷ w ∷ us) e = absurd (omega arith)

-- a foldable value is of one of five kinds
pub foldable_kind : (x : Index) (f : List Bool) (us : List Use) (id : ℕ) (k : Known) → known x id ≡ k → is_folded_by x f us id ≡ true → IsKind x k
foldable_kind x f us id k is_k e =
    let mine = uses_of us id in
    let all = and_first (list_all (fits x f) mine) (is_constant (known x id).opcode || nat_eq (length mine) 1) e in
    let kind = and_second (list_all (fits x f) mine) (is_constant (known x id).opcode || nat_eq (length mine) 1) e in
    ⊎_elim
    (λ (constant : is_constant (known x id).opcode ≡ true). inl (ap (λ (w : Known). is_constant w.opcode) (sym is_k) ∙ constant))
    (λ (one : nat_eq (length mine) 1 ≡ true).
    let single = one_use mine (eqb-true (length mine) 1 one) in
    let u : Use = single.0 in
    let pass : (fits x f u && true) ≡ true = subst (λ l. list_all (fits x f) l ≡ true) single.1 all in
    let id_is : u.id ≡ id = its_id us id u [] single.1 in
    let fit : fits_as x f k u ≡ true =
    sym (ap (λ n. fits_as x f (known x n) u) id_is ∙ ap (λ w. fits_as x f w u) is_k) ∙ and_first (fits x f u) true pass in
    kind_of_fit x f k u fit)
    (or_cases (is_constant (known x id).opcode) (nat_eq (length mine) 1) kind)

-- ---- which sums are pointers

-- how a sum fits doesn't ask which sums are pointers
add_value : (x : Index) (f g : List Bool) (op : Opcode) (at user : ℕ) (k : Known) → is_add k.opcode ≡ true
    → value_fits x f op at user k ≡ value_fits x g op at user k
add_value x f g op zero user k e = refl
add_value x f g op (suc (suc at)) user k e = refl
add_value x f g op (suc zero) user k e = by op
  where
    no_shift : (o : Opcode) → is_add o ≡ true → is_shl o ≡ false
    no_shift opcode.Add e = refl
    no_shift _ e = absurd cc

    never : (a b : Bool) → b ≡ false → (a && b) ≡ false
    never true b e = e
    never false b e = refl

    none : (h : List Bool) → (is_pointer x h user && is_index x k) ≡ false
    none h =
        never (is_pointer x h user) (is_index x k)
        (ap (λ b. b && (is_three (known x k.second) && not (is_constant (known x k.first).opcode))) (no_shift k.opcode e))

    by : (o : Opcode) → second_fits x f o user k ≡ second_fits x g o user k
    by opcode.Add = none f ∙ sym (none g)
    by opcode.Store8 = refl
    by _ = refl

add_no_constant : (o : Opcode) → is_add o ≡ true → is_constant o ≡ false
add_no_constant opcode.Add e = refl
add_no_constant _ e = absurd cc

add_fits : (x : Index) (f g : List Bool) (u : Use) → is_add (known x u.id).opcode ≡ true → fits x f u ≡ fits x g u
add_fits x f g u e =
    let none = add_no_constant (known x u.id).opcode e in
    let k = known x u.id in
    let side : (h : List Bool) → fits x h u ≡ (nat_eq u.block k.block && value_fits x h u.opcode u.at u.user k) = λ h. rw none refl in
    side f ∙ ap (λ b. nat_eq u.block k.block && b) (add_value x f g u.opcode u.at u.user k e) ∙ sym (side g)

all_alike : (x : Index) (f g : List Bool) (us : List Use) (id : ℕ) → is_add (known x id).opcode ≡ true
    → list_all (fits x f) (uses_of us id) ≡ list_all (fits x g) (uses_of us id)
all_alike x f g [] id e = refl
all_alike x f g (u ∷ us) id e =
    ⊎_elim
    (λ (yes : (nat_eq u.id id ≡ true) × (u.id ≡ id)).
    let one = add_fits x f g u (subst (λ n. is_add (known x n).opcode ≡ true) (sym yes.1) e) in
    rw yes.0 (ap (λ b. b && list_all (fits x f) (uses_of us id)) one ∙ ap (λ b. fits x g u && b) (all_alike x f g us id e)))
    (λ (no : (nat_eq u.id id ≡ false) × (u.id ≢ id)). rw no.0 (all_alike x f g us id e))
    (eqb_tells u.id id)

folded_alike : (x : Index) (f g : List Bool) (us : List Use) (id : ℕ) → is_add (known x id).opcode ≡ true → is_folded_by x f us id ≡ is_folded_by x g us id
folded_alike x f g us id e =
    ap (λ b. b && (is_constant (known x id).opcode || nat_eq (length (uses_of us id)) 1)) (all_alike x f g us id e)

-- what is marked of an id that names a value
marked : (p : Procedure) (mark : ℕ → Bool) (id : ℕ) → place_among (ids_of p) id < length (ids_of p)
    → slice_index_or (map mark (ids_of p)) (place_among (ids_of p) id) false ≡ mark id
marked p mark id less =
    get_or_from_slice_get (map mark (ids_of p)) (place_among (ids_of p) id) (mark id) false
    (slice_get-map mark (ids_of p) (place_among (ids_of p) id) ∙ ap (option_map mark) (at_place (ids_of p) id less))

-- ---- the whole

pub sound : (p : Procedure) → IsValidProcedure p → IsSound p (tables p)
sound p valid = record {
  apart = λ a b v e same. same_place (ids_of p) a b same (named_below p a v e);
  below = λ a v e. named_below p a v e;
  is_known = known_as;
  types = type_is p;
  pointer = λ b v has add.
      let at = place_of (values_of p b) v has in
      let below : place_among (ids_of p) v.id < length (ids_of p) =
      omega (
        arith,
        place_is p valid b at.0 v at.1,
        slice_get_within (all_values p) (number p.blocks b at.0) v (row_get p.blocks b at.0 v at.1),
        length-map (all_values p) (λ (w : Value). w.id),
      ) in
      let is_add_known : is_add (known (index_of p) v.id).opcode ≡ true = ap (λ (k : Known). is_add k.opcode) (known_as b v has) ∙ add in
      marked p (is_folded_by (index_of p) [] (uses p)) v.id below ∙ folded_alike (index_of p) [] (pointers p) (uses p) v.id is_add_known
      ∙ sym (marked p (is_foldable p) v.id below);
  uses_fit = λ b i id v has e folded.
      let u : Use = record { id = id; block = b; user = v.id; opcode = v.kind.opcode; at = i } in
      let all = foldable p id folded in
      let there : Contains (uses p) u =
      use_in 0 p.blocks b v u has
      (subst (λ n. Contains (uses_by n v) u) (zero_more b)
      (subst (λ n. Contains (uses_by b v) (record { id = id; block = b; user = v.id; opcode = v.kind.opcode; at = n })) (zero_less i)
      (use_by b v.id v.kind.opcode 0 v.children i id e))) in
      each_passes (fits (index_of p) (pointers p)) (uses p) id u
      (and_first (list_all (fits (index_of p) (pointers p)) (uses_of (uses p) id))
      (is_constant (known (index_of p) id).opcode || nat_eq (length (uses_of (uses p) id)) 1) all) there refl;
  kinds = λ b v has folded. foldable_kind (index_of p) (pointers p) (uses p) v.id (known_in b v) (known_as b v has) (foldable p v.id folded);
}
  where
    zero_more : (n : ℕ) → n ≡ 0 + n
    zero_more n = omega arith

    zero_less : (n : ℕ) → 0 + n ≡ n
    zero_less n = omega arith

    known_as : (b : ℕ) (v : Value) → Contains (values_of p b) v → known (index_of p) v.id ≡ known_in b v
    known_as b v has = let at = place_of (values_of p b) v has in known_is p valid b at.0 v at.1
