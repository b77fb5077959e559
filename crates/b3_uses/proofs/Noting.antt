-- Open uses that are noted step by step.
use Rattle.std.proofs.Common.{◌≡◌, ◌≢◌, ℕ, ◌+◌, ◌<◌, ◌⊎◌, inl, inr, Bool, true, false, List, [], ◌∷◌, ◌++◌, Some, length, refl, sym, ap, ◌∙◌, subst, arith, ⊎_elim, take}
use Rattle.std.proofs.lemmas.Bool.{cases_eq, eq-eqb}
use Rattle.std.proofs.lemmas.List.Elements.{Contains-push, Contains-push_cases, Contains-append_left}
use Rattle.std.proofs.lemmas.List.{take_more}
use Rattle.std.specs.Prelude.{Contains, ◌==◌, ◌||◌, slice_index_or}
use Rattle.b3_ir.specs.Procedure.{Procedure, values_of}
use Rattle.b3_ir.specs.declared.value.Value.{Value}
use Rattle.b3_uses.specs.Open.{Adds, IsAsked, IsAskedHere, IsOneUse, IsOpenIn, IsUse, ListsBelow, has_id, names_in}
use Rattle.b3_uses.specs.Origins.{IsPassed}
use Rattle.b3_uses.specs.Reversed.{HasDefinition}
use Rattle.b3_uses.specs.declared.gather.OpenUse.{OpenUse}
use Rattle.b3_uses.specs.declared.gather.OpenUses.{OpenUses}
use Rattle.b3_uses.proofs.Answering.{eq_is, true_false}
use Rattle.b3_uses.proofs.Contained.{contains_none, contains_head, contains_tail, contains_cases, push_split}

pub notes_nothing : (p : Procedure) (found : OpenUses) (asked : ℕ → ℕ → ℕ → Type 0) → ((b l i : ℕ) → asked b l i → IsPassed p b i)
    → Adds p found found asked
notes_nothing p found asked passed = record {
  names = λ id name is. is;
  kept = λ u has. has;
  added = λ b l i h. inl (passed b l i h);
  only = λ u has. inl has;
}

pub renamed : (old new : OpenUses) → ((id name : ℕ) → names_in old id ≡ Some name → names_in new id ≡ Some name) → (b l i : ℕ) (u : OpenUse)
    → IsUse (names_in old) b l i u → IsUse (names_in new) b l i u
renamed old new grows b l i u is = record { block_is = is.block_is; line_is = is.line_is; name_is = grows i u.name is.name_is }

-- what is asked, said in another way, in two steps
pub notes_both : (p : Procedure) (old mid new : OpenUses) (first second all : ℕ → ℕ → ℕ → Type 0) → Adds p old mid first → Adds p mid new second
    → ((b l i : ℕ) → all b l i → first b l i ⊎ second b l i) → ((b l i : ℕ) → first b l i → all b l i) → ((b l i : ℕ) → second b l i → all b l i)
    → Adds p old new all
notes_both p old mid new first second all one two cut left right = record {
  names = λ id name is. two.names id name (one.names id name is);
  kept = λ u has. two.kept u (one.kept u has);
  added = λ b l i h.
      elim (cut b l i h) [
        | inl f ↦ elim (one.added b l i f) [
          | inl passed ↦ inl passed
          | inr u ↦ inr (u.0, two.kept u.0 u.1, renamed mid new two.names b l i u.0 u.2)
        ]
        | inr s ↦ two.added b l i s
      ];
  only = λ u has.
      elim (two.only u has) [
        | inl before ↦ elim (one.only u before) [
          | inl h ↦ inl h
          | inr h ↦ inr (h.0, h.1, h.2, left h.0 h.1 h.2 h.3, renamed mid new two.names h.0 h.1 h.2 u h.4)
        ]
        | inr h ↦ inr (h.0, h.1, h.2, right h.0 h.1 h.2 h.3, h.4)
      ];
}

-- ---- the children of a value

pub one_more : (items ids : List ℕ) (i : ℕ) → items ≡ ids → i < length items → take (i + 1) ids ≡ take i ids ++ slice_index_or items i 0 ∷ []
one_more items ids i same lt = subst (λ l. take (i + 1) l ≡ take i l ++ slice_index_or items i 0 ∷ []) same (take_more items i 0 lt)

pub children_none : (p : Procedure) (found : OpenUses) (block line : ℕ) (earlier : ℕ → Bool) → Adds p found found (IsAskedHere block line earlier [])
children_none p found block line earlier = notes_nothing p found (IsAskedHere block line earlier []) (λ b l i h. absurd (contains_none i h.2))

pub child_noted : (p : Procedure) (old mid new : OpenUses) (block line : ℕ) (earlier : ℕ → Bool) (ids : List ℕ) (id : ℕ)
    → Adds p old mid (IsAskedHere block line earlier ids)
    → earlier id ≡ false → Adds p mid new (IsOneUse block line id) → Adds p old new (IsAskedHere block line earlier (ids ++ id ∷ []))
child_noted p old mid new block line earlier ids id first unseen second =
    notes_both p old mid new (IsAskedHere block line earlier ids) (IsOneUse block line id) (IsAskedHere block line earlier (ids ++ id ∷ [])) first second
    (λ b l i h. ⊎_elim (λ has. inl (h.0, h.1, has, h.3)) (λ (e : id ≡ i). inr (h.0, h.1, sym e)) (Contains-push_cases ids id i h.2))
    (λ b l i h. (h.0, h.1, Contains-append_left ids (id ∷ []) i h.2, h.3))
    (λ b l i h. (h.0, h.1, subst (λ j. Contains (ids ++ id ∷ []) j) (sym h.2) (Contains-push ids id), subst (λ j. earlier j ≡ false) (sym h.2) unseen))

-- a child that is defined earlier, or above
pub child_seen : (p : Procedure) (old mid : OpenUses) (block line : ℕ) (earlier : ℕ → Bool) (ids : List ℕ) (id : ℕ)
    → Adds p old mid (IsAskedHere block line earlier ids)
    → (earlier id ≡ true) ⊎ IsPassed p block id → Adds p old mid (IsAskedHere block line earlier (ids ++ id ∷ []))
child_seen p old mid block line earlier ids id first seen =
    notes_both p old mid mid (IsAskedHere block line earlier ids) one (IsAskedHere block line earlier (ids ++ id ∷ [])) first
    (notes_nothing p mid one passed)
    (λ b l i h. ⊎_elim (λ has. inl (h.0, h.1, has, h.3)) (λ (e : id ≡ i). inr (h.0, h.1, sym e, h.3)) (Contains-push_cases ids id i h.2))
    (λ b l i h. (h.0, h.1, Contains-append_left ids (id ∷ []) i h.2, h.3))
    (λ b l i h. (h.0, h.1, subst (λ j. Contains (ids ++ id ∷ []) j) (sym h.2) (Contains-push ids id), h.3))
  where
    one : ℕ → ℕ → ℕ → Type 0
    one b l i = (b ≡ block) × (l ≡ line) × (i ≡ id) × (earlier i ≡ false)

    passed : (b l i : ℕ) → one b l i → IsPassed p b i
    passed b l i h =
        elim seen [
          | inl e ↦ true_false (earlier id) e (subst (λ j. earlier j ≡ false) h.2 h.3)
          | inr above ↦ subst (λ c. IsPassed p c i) (sym h.0) (subst (λ j. IsPassed p block j) (sym h.2) above)
        ]

-- ---- the values of a block

pub or_cases : (a b : Bool) → (a || b) ≡ true → (a ≡ true) ⊎ (b ≡ true)
or_cases true b e = inl refl
or_cases false b e = inr e

or_left : (a b : Bool) → a ≡ true → (a || b) ≡ true
or_left true b e = refl
or_left false b e = cc

or_right : (a b : Bool) → b ≡ true → (a || b) ≡ true
or_right true b e = refl
or_right false b e = e

is_eq : (a b : ℕ) → a ≡ b → (a == b) ≡ true
is_eq a b e = eq-eqb a b e

has_defined : (vs : List Value) (id : ℕ) → has_id vs id ≡ true → HasDefinition vs id
has_defined [] id e = cc
has_defined (v ∷ vs) id e =
    elim (or_cases (v.id == id) (has_id vs id) e) [
      | inl here ↦ (v, contains_head v vs, eq_is v.id id here)
      | inr more ↦ let d = has_defined vs id more in (d.0, contains_tail v vs d.0 d.1, d.2)
    ]

defined_has : (vs : List Value) (id : ℕ) → HasDefinition vs id → has_id vs id ≡ true
defined_has [] id d = absurd (contains_none d.0 d.1)
defined_has (v ∷ vs) id d =
    ⊎_elim (λ (e : v ≡ d.0). or_left (v.id == id) (has_id vs id) (is_eq v.id id (ap (λ (w : Value). w.id) e ∙ d.2)))
    (λ more. or_right (v.id == id) (has_id vs id) (defined_has vs id (d.0, more, d.2)))
    (contains_cases v vs d.0 d.1)

unseen_undefined : (vs : List Value) (id : ℕ) (seen : Bool) → seen ≡ has_id vs id → seen ≡ false → HasDefinition vs id → ⊥
unseen_undefined vs id seen is unseen d = true_false seen (is ∙ defined_has vs id d) unseen

undefined_unseen : (vs : List Value) (id : ℕ) (seen : Bool) → seen ≡ has_id vs id → (HasDefinition vs id → ⊥) → seen ≡ false
undefined_unseen vs id true is none = absurd (none (has_defined vs id (sym is)))
undefined_unseen vs id false is none = refl

or-assoc : (a b c : Bool) → (a || (b || c)) ≡ ((a || b) || c)
or-assoc true b c = refl
or-assoc false b c = refl

or-false : (a : Bool) → (a || false) ≡ a
or-false true = refl
or-false false = refl

has_id-push : (vs : List Value) (v : Value) (id : ℕ) → has_id (vs ++ v ∷ []) id ≡ (has_id vs id || (v.id == id))
has_id-push [] v id = or-false (v.id == id)
has_id-push (w ∷ vs) v id = ap (λ t. (w.id == id) || t) (has_id-push vs v id) ∙ or-assoc (w.id == id) (has_id vs id) (v.id == id)

pub seen_more : (old new : ℕ → Bool) (vs : List Value) (v : Value) → ((q : ℕ) → old q ≡ has_id vs q) → ((q : ℕ) → new q ≡ (old q || (v.id == q)))
    → (q : ℕ) → new q ≡ has_id (vs ++ v ∷ []) q
seen_more old new vs v before step q = step q ∙ ap (λ t. t || (v.id == q)) (before q) ∙ sym (has_id-push vs v q)

pub values_none : (p : Procedure) (found : OpenUses) (block : ℕ) → Adds p found found (IsOpenIn block [])
values_none p found block = notes_nothing p found (IsOpenIn block []) (λ b l i h. absurd (nothing l i h.1))
  where
    nothing : (l i : ℕ) → IsAsked [] l i → ⊥
    nothing l i a = split a.before a.split
      where
        split : (before : List Value) → [] ≡ before ++ a.value ∷ a.rest → ⊥
        split [] e = cc
        split (w ∷ before) e = cc

asked_before : (vs : List Value) (v : Value) (l i : ℕ) → IsAsked vs l i → IsAsked (vs ++ v ∷ []) l i
asked_before vs v l i a = record {
  before = a.before;
  value = a.value;
  rest = a.rest ++ v ∷ [];
  split = ap (λ ws. ws ++ v ∷ []) a.split ∙ joined a.before;
  line_is = a.line_is;
  child = a.child;
  undefined = a.undefined;
}
  where
    joined : (ws : List Value) → (ws ++ a.value ∷ a.rest) ++ v ∷ [] ≡ ws ++ a.value ∷ (a.rest ++ v ∷ [])
    joined [] = refl
    joined (w ∷ ws) = ap (λ us. w ∷ us) (joined ws)

pub value_noted : (p : Procedure) (old mid new : OpenUses) (block : ℕ) (earlier : ℕ → Bool) (vs : List Value) (v : Value) → ((q : ℕ) → earlier q ≡ has_id vs q)
    → Adds p old mid (IsOpenIn block vs) → Adds p mid new (IsAskedHere block v.line earlier v.children) → Adds p old new (IsOpenIn block (vs ++ v ∷ []))
value_noted p old mid new block earlier vs v seen first second =
    notes_both p old mid new (IsOpenIn block vs) (IsAskedHere block v.line earlier v.children) (IsOpenIn block (vs ++ v ∷ [])) first second
    (λ b l i h. cut b l i h.0 h.1)
    (λ b l i h. (h.0, asked_before vs v l i h.1))
    (λ b l i h. (
      h.0,
      record {
        before = vs;
        value = v;
        rest = [];
        split = refl;
        line_is = sym h.1;
        child = h.2;
        undefined = unseen_undefined vs i (earlier i) (seen i) h.3;
      },
    ))
  where
    cut : (b l i : ℕ) → b ≡ block → IsAsked (vs ++ v ∷ []) l i → IsOpenIn block vs b l i ⊎ IsAskedHere block v.line earlier v.children b l i
    cut b l i here a =
        elim (push_split vs a.before a.rest v a.value a.split) [
          | inl same ↦
              let child : Contains v.children i = subst (λ (w : Value). Contains w.children i) (sym same.1) a.child in
              let line : l ≡ v.line = sym a.line_is ∙ ap (λ (w : Value). w.line) (sym same.1) in
              let none : HasDefinition vs i → ⊥ = subst (λ ws. HasDefinition ws i → ⊥) (sym same.0) a.undefined in
              inr (here, line, child, undefined_unseen vs i (earlier i) (seen i) none)
          | inr more ↦ inl (
            here,
            record {
              before = a.before;
              value = a.value;
              rest = more.0;
              split = more.1;
              line_is = a.line_is;
              child = a.child;
              undefined = a.undefined;
            },
          )
        ]

-- ---- the blocks

pub lists_none : (p : Procedure) (found : OpenUses) → found.uses ≡ [] → ListsBelow p 0 found
lists_none p found none = record {
  all = λ block line id lt a. absurd (omega (arith, lt));
  only = λ u has. absurd (contains_none u (subst (λ l. Contains l u) none has));
}

pub lists_more : (p : Procedure) (k : ℕ) (old new : OpenUses) → ListsBelow p k old → Adds p old new (IsOpenIn k (values_of p k)) → ListsBelow p (k + 1) new
lists_more p k old new first second = record {
  all = λ block line id lt a.
      ⊎_elim
      (λ (e : block ≡ k). second.added block line id (e, subst (λ b. IsAsked (values_of p b) line id) e a))
      (λ (other : block ≢ k). ⊎_elim (λ passed. inl passed)
      (λ u. inr (u.0, second.kept u.0 u.1, renamed old new second.names block line id u.0 u.2))
      (first.all block line id (omega (arith, lt, other)) a))
      (cases_eq block k);
  only = λ u has.
      elim (second.only u has) [
        | inl before ↦
            let h = first.only u before in
            (omega (arith, h.0), ((h.1).0, (h.1).1, renamed old new second.names u.block u.line (h.1).0 u (h.1).2))
        | inr h ↦
            let is : IsUse (names_in new) h.0 h.1 h.2 u = h.4 in
            let block : u.block ≡ k = is.block_is ∙ (h.3).0 in
            let asked : IsAsked (values_of p u.block) u.line h.2 =
            subst (λ b. IsAsked (values_of p b) u.line h.2) (sym block) (subst (λ l. IsAsked (values_of p k) l h.2) (sym is.line_is) (h.3).1) in
            (omega (arith, block), (h.2, asked, record { block_is = refl; line_is = refl; name_is = is.name_is }))
      ];
}
