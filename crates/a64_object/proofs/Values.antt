-- What is known of a value of a valid procedure that an id names.
use Rattle.std.proofs.Common.{◌≡◌, ℕ, suc, ◌⊎◌, inl, inr, Bool, true, false, if◌then◌else◌, Some, List, [], ◌∷◌, ◌++◌, refl, sym, ap, ◌∙◌, subst, nat_eq, get_or}
use Rattle.std.specs.Prelude.{All, slice_get}
use Rattle.std.specs.List.{flat_map}
use Rattle.std.proofs.lemmas.Bool.{eqb-true}
use Rattle.std.proofs.lemmas.List.Concat.{flat_map-cons}
use Rattle.std.proofs.lemmas.List.Elements.{All-get_or}
use Rattle.std.proofs.lemmas.Option.{get_or_from_slice_get, slice_get_within}
use Rattle.b3_ir.specs.Fits.{Fits}
use Rattle.b3_ir.specs.Naming.{value_named, with_id}
use Rattle.b3_ir.specs.Procedure.{AllFit, Block, Procedure, StandsAt, no_block}
use Rattle.b3_ir.specs.declared.opcode.Opcode.TheVariants.{Patchpoint}
use Rattle.b3_ir.specs.declared.value.Stackmap.{Stackmap}
use Rattle.b3_ir.specs.declared.value.Value.{Value}
use Rattle.b3_rules.specs.Rules.{HasSize}
use Rattle.b3_rules.specs.Valid.{IsValidProcedure, ValueAt}
use Rattle.b3_rules.specs.declared.rule.Rule.TheVariants as rule
use Rattle.stackmap.specs.Registers.{has_result, stackmap_in}
use Rattle.stackmap.specs.Rules.{IsPlaceable, NamesRegisters}

-- ---- where it stands
-- a value among some, or it is found behind them
Found : ℕ → List Value → List Value → Value → Type 0
Found id vs ws v = ((j : ℕ) × (slice_get vs j ≡ Some v) × (v.id ≡ id)) ⊎ (with_id id ws ≡ Some v)

found_in : (id : ℕ) (vs ws : List Value) (v : Value) → with_id id (vs ++ ws) ≡ Some v → Found id vs ws v
unfolding Found
found_in id [] ws v is = inr is
found_in id (w ∷ vs) ws v is = by (λ later. found_in id vs ws v later) (nat_eq w.id id) refl is
  where
    later : Found id vs ws v → Found id (w ∷ vs) ws v
    later (inl here) = inl (suc here.0, here.1, here.2)
    later (inr there) = inr there

    by : (with_id id (vs ++ ws) ≡ Some v → Found id vs ws v) → (b : Bool) → nat_eq w.id id ≡ b → (if b then Some w else with_id id (vs ++ ws)) ≡ Some v
        → Found id (w ∷ vs) ws v
    by again true same found = let first : w ≡ v = cc in inl (0, ap (λ x. Some x) first, ap (λ (x : Value). x.id) (sym first) ∙ eqb-true w.id id same)
    by again false differ found = later (again found)

-- the value that an id names stands in a block
IsIn : ℕ → List Block → Value → Type 0
IsIn id blocks v = (b : ℕ) × (block : Block) × (j : ℕ) × (slice_get blocks b ≡ Some block) × (slice_get block.values j ≡ Some v) × (v.id ≡ id)

is_in : (id : ℕ) (blocks : List Block) (v : Value) → with_id id (flat_map (λ (b : Block). b.values) blocks) ≡ Some v → IsIn id blocks v
unfolding IsIn Found
is_in id [] v is = absurd cc
is_in id (block ∷ blocks) v is =
    by (λ later. is_in id blocks v later)
    (found_in id block.values (flat_map (λ (b : Block). b.values) blocks) v (ap (with_id id) (sym (flat_map-cons (λ (b : Block). b.values) block blocks)) ∙ is))
  where
    by : (with_id id (flat_map (λ (b : Block). b.values) blocks) ≡ Some v → IsIn id blocks v)
        → Found id block.values (flat_map (λ (b : Block). b.values) blocks) v → IsIn id (block ∷ blocks) v
    by again (inl here) = (0, block, here.0, refl, here.1, here.2)
    by again (inr there) = let rest = again there in (suc rest.0, rest.1, rest.2, rest.3, rest.4, rest.5)

-- ---- what it keeps
pub record IsNamedIn (p : Procedure) (id : ℕ) (v : Value) : Type 0 where
  pub block : ℕ
  pub place : ℕ
  pub there : StandsAt p block place v
  pub id_is : v.id ≡ id
  pub fits : Fits v

pub named_in : (p : Procedure) → AllFit p.blocks → (id : ℕ) (v : Value) → value_named p id ≡ Some v → IsNamedIn p id v
unfolding IsIn
named_in p fit id v is =
    let at = is_in id p.blocks v is in
    let within = slice_get_within p.blocks at.0 at.1 at.3 in
    let block : get_or p.blocks at.0 no_block ≡ at.1 = get_or_from_slice_get p.blocks at.0 at.1 no_block at.3 in
    let values : All Fits at.1.values =
    subst (λ (b : Block). All Fits b.values) block (All-get_or (λ (b : Block). All Fits b.values) p.blocks at.0 no_block within fit) in
    record {
      block = at.0;
      place = at.2;
      there = ap (λ (b : Block). slice_get b.values at.2) block ∙ at.4;
      id_is = at.5;
      fits = subst Fits (get_or_from_slice_get at.1.values at.2 v v at.4)
          (All-get_or Fits at.1.values at.2 v (slice_get_within at.1.values at.2 v at.4) values);
    }

module _ (p : Procedure) (valid : IsValidProcedure p) (block place : ℕ) (v : Value) (there : StandsAt p block place v) (map : Stackmap)
    (carries : stackmap_in v.body ≡ Some map) where
  pub names_registers : NamesRegisters (has_result v) map
  names_registers = valid rule.Registers (ValueAt block place v) there map carries

  pub placeable : IsPlaceable v
  placeable = record {
    stackmap = map;
    carries = carries;
    constraints = valid rule.Constraints (ValueAt block place v) there map carries;
    registers = names_registers;
    apart = valid rule.FixedRegisters (ValueAt block place v) there map carries;
    enough = valid rule.RegisterDemand (ValueAt block place v) there map carries;
  }

  pub has_size : v.kind.opcode ≡ Patchpoint → HasSize map
  has_size is = (valid rule.Sizes (ValueAt block place v) there).1 is map carries
