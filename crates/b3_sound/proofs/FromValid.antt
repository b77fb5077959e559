-- A valid procedure keeps the rules that a run needs.
use Rattle.std.proofs.Common.{◌≡◌, ℕ, suc, ◌+◌, ◌<◌, ◌≤◌, inl, inr, Bool, true, false, List, [], ◌∷◌, ◌++◌, length, take, Some, slice_index_or, refl, sym, ap, ◌∙◌, subst, arith, ⊎_elim}
use Rattle.std.specs.Prelude.{All, Contains, slice_get}
use Rattle.std.proofs.Math.Seq.{take-append_seam}
use Rattle.std.proofs.lemmas.Bool.{cases_lt}
use Rattle.std.proofs.lemmas.List.Elements.{All-contains, All-get_or, All-weaker}
use Rattle.std.proofs.lemmas.Option.{slice_get-get_or, slice_get_within}
use Rattle.std.proofs.lemmas.List.{get_or_past}
use Rattle.b3_base.proofs.Lists.{Contains-none, Contains-middle}
use Rattle.b3_ir.specs.Fits.{Fits}
use Rattle.b3_ir.specs.Procedure.{Block, Procedure, StandsAt, no_block, values_of, AllFit}
use Rattle.b3_ir.specs.Table.{is_terminal}
use Rattle.b3_ir.specs.declared.value.Body.{Body}
use Rattle.b3_ir.specs.declared.value.Body.TheVariants.{Slot}
use Rattle.b3_ir.specs.declared.value.Value.{Value}
use Rattle.b3_rules.specs.Paths.{IsCovered, successors_in}
use Rattle.b3_rules.specs.Rules.{HasNewId, IsBlockNumber, KnowsSlot}
use Rattle.b3_rules.specs.Valid.{Header, HeadingAt, SlotAt, ValueAt, IsValidProcedure}
use Rattle.b3_rules.specs.declared.rule.Rule.TheVariants as rule
use Rattle.b3_sound.specs.Laws.{StandsAfter}
use Rattle.b3_sound.proofs.Kept.{EndsBlock, HasDistinctIds, IsKept, KeepsRules, NamesSlot}

-- ---- places

get_middle : {X : Type 0} (before rest : List X) (v : X) → slice_get (before ++ v ∷ rest) (length before) ≡ Some v
get_middle [] rest v = refl
get_middle (u ∷ before) rest v = get_middle before rest v

-- the value after these stands at the place of their number
at_place : (p : Procedure) (b : ℕ) (before : List Value) (v : Value) → StandsAfter p b before v → StandsAt p b (length before) v
at_place p b before v at = subst (λ (vs : List Value). slice_get vs (length before) ≡ Some v) (sym at.1) (get_middle before at.0 v)

front : (p : Procedure) (b : ℕ) (before : List Value) (v : Value) → StandsAfter p b before v → take (length before) (values_of p b) ≡ before
front p b before v at = ap (take (length before)) at.1 ∙ take-append_seam before (v ∷ at.0)

-- ---- ends of blocks

ends_of : (vs : List Value) → 0 < length vs → ((j : ℕ) (v : Value) → slice_get vs j ≡ Some v → j + 1 ≡ length vs → is_terminal v.kind.opcode ≡ true)
    → ((j : ℕ) (v : Value) → slice_get vs j ≡ Some v → is_terminal v.kind.opcode ≡ true → j + 1 ≡ length vs) → EndsBlock vs
ends_of [] some last ends = absurd (omega arith)
ends_of (v ∷ []) some last ends = last 0 v refl (omega arith)
ends_of (v ∷ w ∷ vs) some last ends = (
  first (is_terminal v.kind.opcode) refl,
  ends_of (w ∷ vs) (omega arith) (λ j u at e. last (suc j) u at (omega (arith, e))) (λ j u at
      is. let e = ends (suc j) u at is in omega (arith, e)),
)
  where
    first : (b : Bool) → is_terminal v.kind.opcode ≡ b → is_terminal v.kind.opcode ≡ false
    first false e = e
    first true e = absurd (let last_place : 0 + 1 ≡ length (v ∷ w ∷ vs) = ends 0 v refl e in omega (arith, last_place))

module _ (p : Procedure) (valid : IsValidProcedure p) (fit : AllFit p.blocks) where
  ends : (b : ℕ) → b < length p.blocks → EndsBlock (values_of p b)
  ends b lt =
      let there : slice_get p.blocks b ≡ Some (slice_index_or p.blocks b no_block) = slice_get-get_or p.blocks b no_block lt in
      ends_of (values_of p b) (valid rule.Endings (HeadingAt b (slice_index_or p.blocks b no_block)) there)
      (λ j v at. valid rule.Endings (ValueAt b j v) at) (λ j v at. valid rule.Terminals (ValueAt b j v) at)

  -- ---- ids

  new_id : (b j : ℕ) (v : Value) → StandsAt p b j v → HasNewId p b j v
  new_id b j v at = valid rule.Ids (ValueAt b j v) at

  same_place : (b c j m : ℕ) (v w : Value) → StandsAt p b j v → StandsAt p c m w → v.id ≡ w.id → (b ≡ c) × (j ≡ m)
  same_place b c j m v w at_v at_w e = ⊎_elim
      (λ (lt : b < c). absurd (new_id c m w at_w b j v at_v (inl lt) e))
      (λ (ge : c ≤ b). ⊎_elim
      (λ (lt : c < b). absurd (new_id b j v at_v c m w at_w (inl lt) (sym e)))
      (λ (le : b ≤ c). let blocks : b ≡ c = omega arith in (
        blocks,
        ⊎_elim
            (λ (lt : j < m). absurd (new_id c m w at_w b j v at_v (inr (blocks, lt)) e))
            (λ (ge_j : m ≤ j). ⊎_elim
            (λ (lt : m < j). absurd (new_id b j v at_v c m w at_w (inr (sym blocks, lt)) (sym e)))
            (λ (le_j : j ≤ m). let places : j ≡ m = omega arith in places)
            (cases_lt m j))
            (cases_lt j m),
      ))
      (cases_lt c b))
      (cases_lt b c)

  distinct : HasDistinctIds p
  distinct b c before others v w at_v at_w e =
      let same = same_place b c (length before) (length others) v w (at_place p b before v at_v) (at_place p c others w at_w) e in
      let fronts : take (length before) (values_of p b) ≡ take (length others) (values_of p c) =
      ap (λ (d : ℕ). take (length before) (values_of p d)) same.0 ∙ ap (λ (n : ℕ). take n (values_of p c)) same.1 in
      (same.0, sym (front p b before v at_v) ∙ fronts ∙ front p c others w at_w)

  -- ---- values

  slot_named : (body : Body) → KnowsSlot p body → NamesSlot p body
  slot_named (Slot number) (k, slot, there, is) =
      let place : slot.number ≡ k = (valid rule.Slots (SlotAt k slot) there).0 in
      subst (λ (n : ℕ). n < length p.slots) (sym place ∙ is) (slice_get_within p.slots k slot there)
  slot_named _ knows = tt

  block_place : (number : ℕ) → IsBlockNumber p number → number < length p.blocks
  block_place number (k, block, there, is) =
      let place : block.number ≡ k = valid rule.Blocks (HeadingAt k block) there in
      subst (λ (n : ℕ). n < length p.blocks) (sym place ∙ is) (slice_get_within p.blocks k block there)

  fits_here : (b : ℕ) (v : Value) → Contains (values_of p b) v → Fits v
  fits_here b v has = ⊎_elim
      (λ (lt : b < length p.blocks).
      All-contains Fits (values_of p b) v (All-get_or (λ (block : Block). All Fits block.values) p.blocks b no_block lt fit) has)
      (λ (ge : length p.blocks ≤ b). absurd (Contains-none v (subst (λ (block : Block). Contains block.values v) (get_or_past p.blocks b no_block ge) has)))
      (cases_lt b (length p.blocks))

  rules_at : (b : ℕ) (before : List Value) (v : Value) → StandsAfter p b before v → KeepsRules p b before v
  rules_at b before v at =
      let place : StandsAt p b (length before) v = at_place p b before v at in
      record {
        fits = fits_here b v (subst (λ l. Contains l v) (sym at.1) (Contains-middle before at.0 v));
        typed = valid rule.Types (ValueAt b (length before) v) place;
        phi = valid rule.Phis (ValueAt b (length before) v) place;
        slot = slot_named v.body (valid rule.KnownSlots (ValueAt b (length before) v) place);
        successors = All-weaker (IsBlockNumber p) (λ next. next < length p.blocks) block_place (successors_in v.body)
            (valid rule.Successors (ValueAt b (length before) v) place);
        covered = subst (λ (early : List Value). All (IsCovered p b early) v.children) (front p b before v at)
            (valid rule.Uses (ValueAt b (length before) v) place);
      }

  pub is_kept : IsKept p
  is_kept = record { some = valid rule.Endings Header tt; ends = ends; distinct = distinct; rules = rules_at }
