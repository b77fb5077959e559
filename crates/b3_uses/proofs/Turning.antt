-- The flow of the tables of a procedure is its reversed flow.
use Rattle.std.proofs.Common.{◌≡◌, ◌≢◌, ℕ, zero, suc, ◌+◌, ◌-◌, ◌<◌, ◌≤◌, ◌⊎◌, inl, inr, Bool, true, false, List, [], Option, Some, length, replicate, refl, sym, ap, ◌∙◌, subst, arith, ⊎_elim}
use Rattle.std.proofs.lemmas.Bool.{eq-eqb, ne_eqb}
use Rattle.std.proofs.lemmas.List.{get_or_default, length-replicate}
use Rattle.std.proofs.lemmas.List.Elements.{Contains-get_or}
use Rattle.std.specs.Prelude.{Contains, ◌==◌, slice_index_or, if◌then◌else◌}
use Rattle.flow_live.specs.Graph.{Graph, Uses, Defines, IsInRange, IsSuccessor as Leads, name_of}
use Rattle.flow_live.specs.declared.touch.Touch.TheVariants.{Use, LateUse, Def}
use Rattle.b3_ir.specs.Procedure.{Procedure, values_of}
use Rattle.b3_rules.specs.Paths.{IsSuccessor, successors_in}
use Rattle.b3_uses.specs.Lists.{AddsTo, list_at}
use Rattle.b3_uses.specs.Names.{IsNumbered}
use Rattle.b3_uses.specs.Reversed.{DefinedBelow, HasDefinition, IsReversed, LedBelow, graph_of, turned}
use Rattle.b3_uses.proofs.Answering.{eq_is, true_false}
use Rattle.b3_uses.proofs.Contained.{contains_none}

-- ---- lists by places

abbrev pub IsAt : List ℕ → ℕ → Type 0
IsAt xs x = (k : ℕ) × (k < length xs) × (slice_index_or xs k 0 ≡ x)

at_contains : (xs : List ℕ) (x : ℕ) → IsAt xs x → Contains xs x
at_contains xs x h = (h.0, h.1, get_or_default xs h.0 x 0 h.1 ∙ h.2)

contains_at : (xs : List ℕ) (x : ℕ) → Contains xs x → IsAt xs x
contains_at xs x h = (h.0, h.1, get_or_default xs h.0 0 x h.1 ∙ h.2)

empty_at : (n at x : ℕ) → Contains (list_at (replicate n []) at) x → ⊥
empty_at zero at x has = contains_none x has
empty_at (suc n) zero x has = contains_none x has
empty_at (suc n) (suc at) x has = empty_at n at x has

-- ---- touches

def_is : (b : Bool) (x k name : ℕ) → (if b then Def x else Use k) ≡ Def name → (b ≡ true) × (x ≡ name)
def_is true x k name e = (refl, (cc))
def_is false x k name e = absurd (cc)

use_is : (b : Bool) (x k name : ℕ) → ((if b then Def x else Use k) ≡ Use name) ⊎ ((if b then Def x else Use k) ≡ LateUse name) → (b ≡ false) × (k ≡ name)
use_is true x k name (inl e) = absurd (cc)
use_is true x k name (inr e) = absurd (cc)
use_is false x k name (inl e) = (refl, (cc))
use_is false x k name (inr e) = absurd (cc)

touched_below : (b : Bool) (x k len count : ℕ) → k < (if b then len else count) → (k < len → x < count) → name_of (if b then Def x else Use k) < count
touched_below true x k len count lt defined = defined lt
touched_below false x k len count lt defined = lt

-- ---- places

some_places : (b : Bool) → 1 ≤ (if b then 2 else 1)
some_places true = omega arith
some_places false = omega arith

second_place : (b : Bool) (place : ℕ) → place ≢ 0 → place < (if b then 2 else 1) → (b ≡ true) × (place + 1 ≡ (if b then 2 else 1))
second_place true place some lt = (refl, omega arith)
second_place false place some lt = absurd (omega arith)

not_eq : (a b : ℕ) → (a == b) ≡ false → a ≢ b
not_eq a b e same = true_false (a == b) (eq-eqb a b same) e

module _ (p : Procedure) (names : ℕ → Option ℕ) (count : ℕ) (sources defined : List (List ℕ)) (numbered : IsNumbered names count)
    (led : AddsTo (replicate (length p.blocks) []) sources (LedBelow p (length p.blocks)))
    (named : AddsTo (replicate (length p.blocks) []) defined (DefinedBelow p names (length p.blocks))) where
  abbrev blocks : ℕ
  blocks = length p.blocks

  abbrev g : Graph
  g = graph_of count sources defined

  many : length sources ≡ blocks
  many = led.as_many ∙ length-replicate blocks []

  led_at : (at source : ℕ) → Contains (list_at sources at) source → LedBelow p blocks at source
  led_at at source has = ⊎_elim (λ h. absurd (empty_at blocks at source h)) (λ h. h) ((led.numbers at source).0 has)

  at_led : (at source : ℕ) → LedBelow p blocks at source → Contains (list_at sources at) source
  at_led at source h = (led.numbers at source).1 (inr h)

  named_at : (at name : ℕ) → Contains (list_at defined at) name → DefinedBelow p names blocks at name
  named_at at name has = ⊎_elim (λ h. absurd (empty_at blocks at name h)) (λ h. h) ((named.numbers at name).0 has)

  at_named : (at name : ℕ) → DefinedBelow p names blocks at name → Contains (list_at defined at) name
  at_named at name h = (named.numbers at name).1 (inr h)

  leads_is : (at next : ℕ) → Leads g at next → IsSuccessor p (turned (length sources) next) (turned (length sources) at)
  leads_is at next leads =
      let h = led_at at next (at_contains (list_at sources at) next leads) in
      let s = h.2.2 in
      let from : h.0 ≡ turned (length sources) next = omega (arith, many, h.1, s.2.2) in
      let to : s.0 ≡ turned (length sources) at = omega (arith, many, s.2.0, s.2.1) in (
        h.2.0,
        subst (λ (b : ℕ). Contains (values_of p b) h.2.0) from h.2.1,
        subst (λ (b : ℕ). Contains (successors_in h.2.0.body) b) to s.1,
      )

  is_leads : (at next : ℕ) → at < length sources → next < length sources → IsSuccessor p (turned (length sources) next) (turned (length sources) at)
      → Leads g at next
  is_leads at next at_lt next_lt leads =
      contains_at (list_at sources at) next (at_led at next (
        turned (length sources) next,
        omega (arith, many),
        (leads.0, leads.1, (turned (length sources) at, leads.2, (omega (arith, many), omega (arith, many), omega (arith, many)))),
      ))

  leads_inside : (at next : ℕ) → Leads g at next → next < length sources
  leads_inside at next leads =
      let h = led_at at next (at_contains (list_at sources at) next leads) in
      omega (arith, many, h.1, h.2.2.2.2)

  abbrev Defined : ℕ → ℕ → Type 0
  Defined at name = (place : ℕ) × Defines g name (record { block = at; place = place })

  defines_is : (at id name : ℕ) → names id ≡ Some name → Defined at name → HasDefinition (values_of p (turned (length sources) at)) id
  defines_is at id name is d =
      let place : ℕ = d.0 in
      let touch = d.1.1 in
      let said = def_is (place == 0) (slice_index_or (list_at defined at) touch.0 0) touch.0 name touch.2 in
      let lt : touch.0 < length (list_at defined at) = subst (λ (b : Bool). touch.0 < (if b then length (list_at defined at) else count)) said.0 touch.1 in
      let h = named_at at name (at_contains (list_at defined at) name (touch.0, lt, said.1)) in
      let here : h.0 ≡ turned (length sources) at = omega (arith, many, h.1, h.2.2.0) in (
        h.2.0,
        subst (λ (b : ℕ). Contains (values_of p b) h.2.0) here h.2.1,
        numbered.apart h.2.0.id id name h.2.2.1 is,
      )

  named_there : (at id name : ℕ) → at < length sources → names id ≡ Some name → HasDefinition (values_of p (turned (length sources) at)) id
      → IsAt (list_at defined at) name
  named_there at id name lt is d =
      let same : names d.0.id ≡ Some name = subst (λ (i : ℕ). names i ≡ Some name) (sym d.2) is in
      contains_at (list_at defined at) name (at_named at name (
        turned (length sources) at,
        omega (arith, many),
        (d.0, d.1, (omega (arith, many), same)),
      ))

  first_place : (at name : ℕ) → IsAt (list_at defined at) name → Defined at name
  first_place at name there = (0, (some_places (at == length sources - 1), (there.0, there.1, ap Def there.2)))

  is_defines : (at id name : ℕ) → at < length sources → names id ≡ Some name → HasDefinition (values_of p (turned (length sources) at)) id → Defined at name
  is_defines at id name lt is d = first_place at name (named_there at id name lt is d)

  last_place : (at place : ℕ) → turned (length sources) at ≡ 0 → at < length sources → place + 1 ≡ g.places at → place ≡ 1
  last_place at place root lt last =
      let is : (at == length sources - 1) ≡ true = eq-eqb at (length sources - 1) (omega arith) in
      let two : place + 1 ≡ 2 = subst (λ (b : Bool). place + 1 ≡ (if b then 2 else 1)) is last in
      omega arith

  uses_is : (at place name : ℕ) → at < length sources → Uses g name (record { block = at; place = place })
      → (turned (length sources) at ≡ 0) × (place + 1 ≡ g.places at)
  uses_is at place name lt u =
      let said = use_is (place == 0) (slice_index_or (list_at defined at) u.1.0 0) u.1.0 name u.1.2 in
      let second = second_place (at == length sources - 1) place (not_eq place 0 said.0) u.0 in
      let last : at ≡ length sources - 1 = eq_is at (length sources - 1) second.0 in
      (omega arith, second.1)

  is_uses : (at place name : ℕ) → at < length sources → name < count → turned (length sources) at ≡ 0 → place + 1 ≡ g.places at
      → Uses g name (record { block = at; place = place })
  is_uses at place name lt named_ root last =
      let one : place ≡ 1 = last_place at place root lt last in
      let clear : (place == 0) ≡ false = ne_eqb place 0 (omega arith) in (
        omega (arith, last),
        (
          name,
          subst (λ (b : Bool). name < (if b then length (list_at defined at) else count)) (sym clear) named_,
          inl (subst (λ (b : Bool). (if b then Def (slice_index_or (list_at defined at) name 0) else Use name) ≡ Use name) (sym clear) refl),
        ),
      )

  entry_clear : (at place name : ℕ) → at < length sources → turned (length sources) at ≡ 0 → place + 1 ≡ g.places at
      → Defines g name (record { block = at; place = place }) → ⊥
  entry_clear at place name lt root last d =
      let one : place ≡ 1 = last_place at place root lt last in
      let said = def_is (place == 0) (slice_index_or (list_at defined at) d.1.0 0) d.1.0 name d.1.2 in
      true_false (place == 0) said.0 (ne_eqb place 0 (omega arith))

  pub reversed_is : IsReversed p names (graph_of count sources defined)
  reversed_is = record {
    blocks = many;
    leads = λ at next lt next_lt. (leads_is at next, is_leads at next lt next_lt);
    inside = λ at next lt leads. leads_inside at next leads;
    defines = λ at id name lt is. (defines_is at id name is, is_defines at id name lt is);
    uses = λ at place name lt named_. (uses_is at place name lt, λ h. is_uses at place name lt named_ h.0 h.1);
    entry = entry_clear;
    some = λ at lt. some_places (at == length sources - 1);
    named = numbered.below;
  }

  pub in_range : IsInRange (graph_of count sources defined)
  in_range = record {
    successor = λ block k lt k_lt. leads_inside block (slice_index_or (list_at sources block) k 0) (k, k_lt, refl);
    name = λ block place k lt place_lt k_lt.
        touched_below (place == 0) (slice_index_or (list_at defined block) k 0) k (length (list_at defined block)) count k_lt
        (λ inside.
        let h = named_at block (slice_index_or (list_at defined block) k 0) (Contains-get_or (list_at defined block) k 0 inside) in
        numbered.below h.2.0.id (slice_index_or (list_at defined block) k 0) h.2.2.1);
  }
