-- The entries of ids, value after value.
use Rattle.std.proofs.Common.{◌≡◌, ℕ, ◌+◌, ◌⊎◌, inl, inr, Bool, true, false, cond, length, Option, None, Some, refl, sym, ap, subst, ◌∙◌, arith}
use Rattle.std.specs.Prelude.{◌↔◌, IsTrue, is_some, nat_eq}
use Rattle.std.proofs.lemmas.Bool.{cases_Bool, cases_order, eq-eqb, eqb-true, false≢true}
use Rattle.std.proofs.lemmas.Option.{slice_get_within}
use Rattle.b3_ir.specs.Naming.{type_of, type_or_void, value_named}
use Rattle.b3_ir.specs.Procedure.{IsAt, IsWhole, Kept, Procedure, StandsAt, values_of}
use Rattle.b3_ir.specs.declared.opcode.Ty.TheVariants.{Void}
use Rattle.b3_ir.specs.declared.value.Value.{Value}
use Rattle.b3_ir.proofs.Spots.{in_blocks}
use Rattle.b3_rules.specs.Rules.{HasNewId, IsEarlier, IsId}
use Rattle.b3_validate.specs.declared.index.Named.{Named}
use Rattle.b3_validate.specs.Index.{IsNamed, IsNamedAt, IsNamedBefore, NoneBefore, NonePasses, has_id}
use Rattle.b3_validate.proofs.Finding.{named_first, named_none}

-- ---- places

-- a place before the next one of a block is before this one, or it is this one
before_next : (c m b j : ℕ) → IsEarlier c m b (j + 1) → IsEarlier c m b j ⊎ ((c ≡ b) × (m ≡ j))
before_next c m b j earlier =
    elim earlier [
      | inl less ↦ inl (inl less)
      | inr same ↦ elim (cases_order m j) [
        | inl now ↦ inr (same.0, now)
        | inr apart ↦ elim apart [ inl less ↦ inl (inr (same.0, less)) | inr more ↦ absurd (omega arith) ]
      ]
    ]

-- one value more that doesn't pass
pub none_next : (p : Procedure) (test : Value → Bool) (b j : ℕ) (v : Value) → NoneBefore p test b j → StandsAt p b j v → test v ≡ false → NoneBefore p test b (j + 1)
none_next p test b j v none there fails c m w other earlier =
    elim (before_next c m b j earlier) [
      | inl before ↦ none c m w other before
      | inr now ↦
          let moved : StandsAt p b m w = subst (λ (x : ℕ). StandsAt p x m w) now.0 other in
          let here : StandsAt p b j w = subst (λ (x : ℕ). StandsAt p b x w) now.1 moved in
          let same : v ≡ w = cc in
          ap test (sym same) ∙ fails
    ]

-- a block is done
pub none_block : (p : Procedure) (test : Value → Bool) (b : ℕ) → NoneBefore p test b (length (values_of p b)) → NoneBefore p test (b + 1) 0
none_block p test b none c m w there earlier =
    elim earlier [
      | inl less ↦ elim (cases_order c b) [
        | inl now ↦
            let moved : StandsAt p b m w = subst (λ (x : ℕ). StandsAt p x m w) now there in
            none c m w there (inr (now, slice_get_within (values_of p b) m w moved))
        | inr apart ↦ elim apart [ inl before ↦ none c m w there (inl before) | inr after ↦ absurd (omega arith) ]
      ]
      | inr same ↦ absurd (omega arith)
    ]

-- so are all
pub none_all : (p : Procedure) (test : Value → Bool) → NoneBefore p test (length p.blocks) 0 → NonePasses p test
none_all p test none c m w there = none c m w there (inl (in_blocks p c m w there))

-- nothing stands before the first place
pub none_first : (p : Procedure) (test : Value → Bool) → NoneBefore p test 0 0
none_first p test c m w there earlier = elim earlier [ inl less ↦ absurd (omega arith) | inr same ↦ absurd (omega arith) ]

-- ---- entries

module _ (p : Kept) (b j : ℕ) (v : Value) (there : StandsAt p.procedure b j v) where
  -- an id of another value, or one that has its entry
  kept_entry : (id : ℕ) (o : Option Named) → IsNamedBefore p b j id o → (o ≡ None → has_id id v ≡ false) → IsNamedBefore p b (j + 1) id o
  kept_entry id None none other = none_next p.procedure (has_id id) b j v none there (other refl)
  kept_entry id (Some entry) named other = named

  pub id_known : (f : ℕ → Option Named) → ((id : ℕ) → IsNamedBefore p b j id (f id)) → is_some (f v.id) ≡ true → (id : ℕ) → IsNamedBefore p b (j + 1) id (f id)
  id_known f named known id =
      kept_entry id (f id) (named id) (λ none. elim (cases_Bool (has_id id v)) [
        | inl same ↦ absurd (false≢true (sym (ap is_some none) ∙ sym (ap (λ (k : ℕ). is_some (f k)) (eqb-true v.id id same)) ∙ known))
        | inr other ↦ other
      ])

  none_is : (o : Option Named) (id : ℕ) → IsNamedBefore p b j id o → is_some o ≡ false → NoneBefore p.procedure (has_id id) b j
  none_is None id none e = none
  none_is (Some entry) id named e = absurd cc

  pub id_added : (f g : ℕ → Option Named) (entry : Named) → ((id : ℕ) → IsNamedBefore p b j id (f id)) → is_some (f v.id) ≡ false → IsAt p entry.node b j → entry.ty ≡ v.ty → entry.opcode ≡ v.kind.opcode → ((id : ℕ) → g id ≡ cond (nat_eq v.id id) (Some entry) (f id))
      → (id : ℕ) → IsNamedBefore p b (j + 1) id (g id)
  id_added f g entry named absent at ty opcode are id =
      elim (cases_Bool (has_id id v)) [
        | inl same ↦
            let now : g id ≡ Some entry = are id ∙ ap (λ (t : Bool). cond t (Some entry) (f id)) same in
            let absent_here : is_some (f id) ≡ false = sym (ap (λ (k : ℕ). is_some (f k)) (eqb-true v.id id same)) ∙ absent in
            subst (IsNamedBefore p b (j + 1) id) (sym now) (record {
              block = b;
              place = j;
              value = v;
              first = record { there = there; passes = same; first = none_is (f id) id (named id) absent_here };
              node = at;
              ty = ty;
              opcode = opcode;
            })
        | inr other ↦
            let now : g id ≡ f id = are id ∙ ap (λ (t : Bool). cond t (Some entry) (f id)) other in
            subst (IsNamedBefore p b (j + 1) id) (sym now) (kept_entry id (f id) (named id) (λ _. other))
      ]

pub block_noted : (p : Kept) (b : ℕ) (id : ℕ) (o : Option Named) → IsNamedBefore p b (length (values_of p.procedure b)) id o → IsNamedBefore p (b + 1) 0 id o
block_noted p b id None none = none_block p.procedure (has_id id) b none
block_noted p b id (Some entry) named = named

pub all_noted : (p : Kept) (id : ℕ) (o : Option Named) → IsNamedBefore p (length p.procedure.blocks) 0 id o → IsNamed p id o
all_noted p id None none = none_all p.procedure (has_id id) none
all_noted p id (Some entry) named = named

-- ---- what entries tell

pub id_is : (p : Kept) (id : ℕ) (o : Option Named) → IsNamed p id o → IsTrue (is_some o) ↔ IsId p.procedure id
id_is p id None none = (λ e. absurd cc, λ h. absurd (let e : value_named p.procedure id ≡ None = named_none p.procedure id none in let f : value_named p.procedure id ≡ Some h.0 = h.1 in cc))
id_is p id (Some entry) named = (λ e. (named.value, named_first p.procedure id named.block named.place named.value named.first), λ h. refl)

pub type_is : (p : Kept) (id : ℕ) (entry : Named) → IsNamedAt p id entry → entry.ty ≡ type_of p.procedure id
type_is p id entry named = named.ty ∙ sym (ap type_or_void (named_first p.procedure id named.block named.place named.value named.first))

pub void_is : (p : Kept) (id : ℕ) → NonePasses p.procedure (has_id id) → Void ≡ type_of p.procedure id
void_is p id none = sym (ap type_or_void (named_none p.procedure id none))

-- ---- the first value with an id

passes_own : (v : Value) (id : ℕ) → v.id ≡ id → has_id id v ≡ true
passes_own v id e = eq-eqb v.id id e

pub not_none : (p : Kept) (b j : ℕ) (v : Value) (id : ℕ) → NonePasses p.procedure (has_id id) → StandsAt p.procedure b j v → v.id ≡ id → ⊥
not_none p b j v id none there e = false≢true (sym (none b j v there) ∙ passes_own v id e)

pub new_id_from_node : (p : Kept) (b j : ℕ) (v : Value) (id node : ℕ) (entry : Named) → IsWhole p → IsNamedAt p id entry → IsAt p node b j → v.id ≡ id → entry.node ≡ node → HasNewId p.procedure b j v
new_id_from_node p b j v id node entry whole named at own same c m w there earlier clash =
    let at_first : IsAt p node named.block named.place = subst (λ (n : ℕ). IsAt p n named.block named.place) same named.node in
    let one = whole.differ named.block b named.place j node at_first at in
    let before : IsEarlier c m named.block named.place = elim earlier [ inl less ↦ inl (omega arith) | inr inside ↦ inr (inside.0 ∙ sym one.0, omega arith) ] in
    false≢true (sym (named.first.first c m w there before) ∙ passes_own w id (clash ∙ own))

pub node_from_new_id : (p : Kept) (b j : ℕ) (v : Value) (id node : ℕ) (entry : Named) → IsNamedAt p id entry → IsAt p node b j → StandsAt p.procedure b j v → v.id ≡ id → HasNewId p.procedure b j v → entry.node ≡ node
node_from_new_id p b j v id node entry named at there own new =
    let earlier_first : IsEarlier named.block named.place b j → ⊥ = λ earlier. new named.block named.place named.value named.first.there earlier (eqb-true named.value.id id named.first.passes ∙ sym own) in
    let later_first : IsEarlier b j named.block named.place → ⊥ = λ earlier. false≢true (sym (named.first.first b j v there earlier) ∙ passes_own v id own) in
    elim (cases_order named.block b) [
      | inl block ↦ elim (cases_order named.place j) [
        | inl place ↦
            let moved : IsAt p entry.node b named.place = subst (λ (x : ℕ). IsAt p entry.node x named.place) block named.node in
            let here : IsAt p entry.node b j = subst (λ (x : ℕ). IsAt p entry.node b x) place moved in
            cc
        | inr apart ↦ elim apart [ inl less ↦ absurd (earlier_first (inr (block, less))) | inr more ↦ absurd (later_first (inr (sym block, more))) ]
      ]
      | inr apart ↦ elim apart [ inl less ↦ absurd (earlier_first (inl less)) | inr more ↦ absurd (later_first (inl more)) ]
    ]
