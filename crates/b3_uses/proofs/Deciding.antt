-- Covered uses and the least line of one that isn't, by the open uses that are missed.
use Rattle.std.proofs.Common.{◌≡◌, ℕ, zero, suc, ◌<◌, ◌≤◌, ◌⊎◌, inl, inr, true, List, [], ◌∷◌, ◌++◌, Option, Some, None, length, take, slice_get, refl, sym, ap, ◌∙◌, subst, arith, ⊎_elim}
use Rattle.std.proofs.lemmas.Bool.{cases_lt, ne_eqb}
use Rattle.std.proofs.lemmas.List.Elements.{All-contains, Contains-get_or, Contains-push, Contains-push_cases, Contains-append_left}
use Rattle.std.specs.Prelude.{Contains, IfSome, ◌==◌, min, slice_index_or}
use Rattle.flow_live.specs.Graph.{Graph, LiveOut}
use Rattle.b3_ir.specs.Procedure.{Procedure, StandsAt, values_of}
use Rattle.b3_ir.specs.declared.value.Value.{Value}
use Rattle.b3_rules.specs.Least.{CoversAll, IsFirstUncovered}
use Rattle.b3_rules.specs.Paths.{IsCovered, IsCoveredAt}
use Rattle.b3_rules.specs.Rules.{CoversUses}
use Rattle.b3_uses.specs.Leasts.{IsLeastMissed, IsMissed, lower_of}
use Rattle.b3_uses.specs.Open.{IsAsked, IsUse, ListsBelow, names_in}
use Rattle.b3_uses.specs.Reversed.{IsReversed, turned}
use Rattle.b3_uses.specs.declared.gather.OpenUse.{OpenUse}
use Rattle.b3_uses.specs.declared.gather.OpenUses.{OpenUses}
use Rattle.b3_uses.proofs.Answering.{true_false}
use Rattle.b3_uses.proofs.Contained.{contains_middle, contains_none}
use Rattle.b3_uses.proofs.Covering.{block_in, covered_iff, defined_or_not, passed_covered}

-- ---- the least line

pub least_none : (g : Graph) → IsLeastMissed g [] None
least_none g u has missed = contains_none u has

pub least_missed : (g : Graph) (uses : List OpenUse) (u : OpenUse) (least : Option ℕ) → IsLeastMissed g uses least → IsMissed g u
    → IsLeastMissed g (uses ++ u ∷ []) (Some (lower_of least u.line))
least_missed g uses u None so_far missed = (
  (u, Contains-push uses u, missed, refl),
  λ w has w_missed. ⊎_elim (λ h. absurd (so_far w h w_missed)) (λ (e : u ≡ w). let same : u.line ≡ w.line = ap (λ (x : OpenUse). x.line) e in omega arith)
      (Contains-push_cases uses u w has),
)
least_missed g uses u (Some line) so_far missed = (
  ⊎_elim
      (λ (lt : u.line < line). let e : u.line ≡ min line u.line = omega arith in (u, Contains-push uses u, missed, e))
      (λ (le : line ≤ u.line). let e : line ≡ min line u.line = omega arith in let w = so_far.0 in
      (w.0, Contains-append_left uses (u ∷ []) w.0 w.1, w.2, w.3 ∙ e))
      (cases_lt u.line line),
  λ w has w_missed.
      ⊎_elim
      (λ h. let le : line ≤ w.line = so_far.1 w h w_missed in omega arith)
      (λ (e : u ≡ w). let same : u.line ≡ w.line = ap (λ (x : OpenUse). x.line) e in omega arith)
      (Contains-push_cases uses u w has),
)

pub least_kept : (g : Graph) (uses : List OpenUse) (u : OpenUse) (least : Option ℕ) → IsLeastMissed g uses least → (IsMissed g u → ⊥)
    → IsLeastMissed g (uses ++ u ∷ []) least
least_kept g uses u None so_far kept =
    λ w has missed. ⊎_elim (λ h. so_far w h missed) (λ (e : u ≡ w). kept (subst (λ (x : OpenUse). IsMissed g x) (sym e) missed))
    (Contains-push_cases uses u w has)
least_kept g uses u (Some line) so_far kept = (
  (let w = so_far.0 in (w.0, Contains-append_left uses (u ∷ []) w.0 w.1, w.2, w.3)),
  λ w has missed.
      ⊎_elim (λ h. so_far.1 w h missed) (λ (e : u ≡ w). absurd (kept (subst (λ (x : OpenUse). IsMissed g x) (sym e) missed)))
      (Contains-push_cases uses u w has),
)

-- ---- places

abbrev no_values : List Value
no_values = []

nothing_at : (v : Value) (j : ℕ) → slice_get no_values j ≡ Some v → ⊥
nothing_at v zero e = cc
nothing_at v (suc j) e = cc

cut : (vs : List Value) (j : ℕ) (v : Value) → slice_get vs j ≡ Some v → (rest : List Value) × (vs ≡ take j vs ++ v ∷ rest)
cut [] j v e = absurd (nothing_at v j e)
cut (w ∷ vs) zero v e = let same : w ≡ v = cc in (vs, ap (λ u. u ∷ vs) same)
cut (w ∷ vs) (suc j) v e = let more = cut vs j v e in (more.0, ap (λ us. w ∷ us) more.1)

place_of_middle : (before rest : List Value) (v : Value) → slice_get (before ++ v ∷ rest) (length before) ≡ Some v
place_of_middle [] rest v = refl
place_of_middle (w ∷ before) rest v = place_of_middle before rest v

take_before : (before rest : List Value) → take (length before) (before ++ rest) ≡ before
take_before [] rest = refl
take_before (w ∷ before) rest = ap (λ us. w ∷ us) (take_before before rest)

block_of : (p : Procedure) (b j : ℕ) (v : Value) → StandsAt p b j v → b < length p.blocks
block_of p b j v there =
    let c = cut (values_of p b) j v there in
    block_in p.blocks b v (subst (λ vs. Contains vs v) (sym c.1) (contains_middle (take j (values_of p b)) c.0 v))

none_in : (uses : List OpenUse) (u : OpenUse) → true ≡ (length uses == 0) → Contains uses u → ⊥
none_in uses u empty has =
    let some : has.0 < length uses = has.1 in
    true_false (length uses == 0) (sym empty) (ne_eqb (length uses) 0 (omega arith))

module _ (p : Procedure) (found : OpenUses) (lists : ListsBelow p (length p.blocks) found) where
  abbrev Open : ℕ → List Value → Value → ℕ → Type 0
  Open b before v id = (u : OpenUse) × Contains found.uses u × IsUse (names_in found) b v.line id u

  -- a use is covered, or it is one of the open uses
  decided : (b j : ℕ) (v : Value) → StandsAt p b j v → (id : ℕ) → Contains v.children id
      → IsCoveredAt p b j id ⊎ Open b (take j (values_of p b)) v id
  decided b j v there id child =
      elim (defined_or_not (take j (values_of p b)) id) [
        | inl d ↦ inl (λ passed path. (d.0, d.2, inl d.1))
        | inr none ↦
            let c = cut (values_of p b) j v there in
            ⊎_elim (λ above. inl (passed_covered p b (take j (values_of p b)) id above)) (λ u. inr u)
            (lists.all b v.line id (block_of p b j v there) (record {
              before = take j (values_of p b);
              value = v;
              rest = c.0;
              split = c.1;
              line_is = refl;
              child = child;
              undefined = none;
            }))
      ]

  -- where there are no open uses, all is covered
  pub none_open : (uses : List OpenUse) → uses ≡ found.uses → true ≡ (length uses == 0) → CoversAll p
  none_open uses same empty b j v there k d lt =
      elim (decided b j v there (slice_index_or v.children k d) (Contains-get_or v.children k d lt)) [
        | inl covered ↦ covered
        | inr u ↦ absurd (none_in uses u.0 empty (subst (λ l. Contains l u.0) (sym same) u.1))
      ]

module _ (p : Procedure) (found : OpenUses) (g : Graph) (lists : ListsBelow p (length p.blocks) found) (reversed : IsReversed p (names_in found) g) where
  inside : (b : ℕ) → b < length p.blocks → b < g.blocks
  inside b lt = omega (arith, reversed.blocks)

  -- each open use has a block and a name of the flow
  pub block_within : (u : OpenUse) → Contains found.uses u → u.block < g.blocks
  block_within u has = inside u.block (lists.only u has).0

  pub name_within : (u : OpenUse) → Contains found.uses u → u.name < g.names
  name_within u has = let only = lists.only u has in reversed.named only.1.0 u.name only.1.2.name_is

  -- an open use that isn't missed is covered
  kept_covered : (b j : ℕ) (line id : ℕ) (u : OpenUse) → b < length p.blocks → IsUse (names_in found) b line id u → (IsMissed g u → ⊥) → IsCoveredAt p b j id
  kept_covered b j line id u lt is kept =
      (covered_iff p (names_in found) g reversed id u.name is.name_is b (take j (values_of p b)) (inside b lt)).1 (inr (
        (λ e. kept (inl (is.block_is ∙ e))),
        (λ live. kept (inr (subst (λ (c : ℕ). LiveOut g u.name (turned g.blocks c)) (sym is.block_is) live))),
      ))

  -- a value is covered where no open use of its line is missed
  covers : (b j : ℕ) (v : Value) → StandsAt p b j v → ((u : OpenUse) → Contains found.uses u → u.line ≡ v.line → IsMissed g u → ⊥) → CoversUses p b j v
  covers b j v there none k d lt =
      elim (decided p found lists b j v there (slice_index_or v.children k d) (Contains-get_or v.children k d lt)) [
        | inl covered ↦ covered
        | inr u ↦
            let is : IsUse (names_in found) b v.line (slice_index_or v.children k d) u.0 = u.2 in
            kept_covered b j v.line (slice_index_or v.children k d) u.0 (block_of p b j v there) is (none u.0 u.1 is.line_is)
      ]

  pub all_covered : (least : Option ℕ) → IsLeastMissed g found.uses least → least ≡ None → CoversAll p
  all_covered least is none b j v there = covers b j v there (λ u has same. subst (λ (o : Option ℕ). IsLeastMissed g found.uses o) none is u has)

  first_of : (line : ℕ) → IsLeastMissed g found.uses (Some line) → IsFirstUncovered p line
  first_of line is = record {
    block = u.block;
    place = length asked.before;
    value = asked.value;
    there = subst (λ vs. slice_get vs (length asked.before) ≡ Some asked.value) (sym asked.split) (place_of_middle asked.before asked.rest asked.value);
    on_line = asked.line_is ∙ is.0.3;
    uncovered = uncovered;
    first = first;
  }
    where
      u : OpenUse
      u = is.0.0

      only : (u.block < length p.blocks) × ((id : ℕ) × IsAsked (values_of p u.block) u.line id × IsUse (names_in found) u.block u.line id u)
      only = lists.only u is.0.1

      id : ℕ
      id = only.1.0

      asked : IsAsked (values_of p u.block) u.line id
      asked = only.1.1

      uncovered : CoversUses p u.block (length asked.before) asked.value → ⊥
      uncovered all =
          let here : IsCoveredAt p u.block (length asked.before) id =
          All-contains (IsCoveredAt p u.block (length asked.before)) asked.value.children id all asked.child in
          let same : take (length asked.before) (values_of p u.block) ≡ asked.before = ap (λ vs. take (length asked.before) vs) asked.split
          ∙ take_before asked.before (asked.value ∷ asked.rest) in
          let covered : IsCovered p u.block asked.before id = subst (λ vs. IsCovered p u.block vs id) same here in
          elim ((covered_iff p (names_in found) g reversed id u.name (only.1.2).name_is u.block asked.before (inside u.block only.0)).0 covered) [
            | inl d ↦ asked.undefined d
            | inr h ↦ ⊎_elim h.0 h.1 is.0.2
          ]

      first : (b j : ℕ) (v : Value) → StandsAt p b j v → (CoversUses p b j v → ⊥) → line ≤ v.line
      first b j v there not =
          ⊎_elim
          (λ (lt : v.line < line). absurd (not (covers b j v there (λ w has same missed. let le : line ≤ w.line = is.1 w has missed in absurd (omega arith)))))
          (λ (le : line ≤ v.line). le)
          (cases_lt v.line line)

  pub first_uncovered : (least : Option ℕ) → IsLeastMissed g found.uses least → IfSome least (IsFirstUncovered p)
  first_uncovered None is = tt
  first_uncovered (Some line) is = first_of line is
