-- The least broken rule of those on stackmaps and sizes.
use Rattle.std.proofs.Common.{◌≡◌, ℕ, ◌<◌, Bool, Option, Some, None, sym, ap, subst, arith, lit≤}
use Rattle.b3_ir.specs.declared.value.Body.TheVariants.{Map}
use Rattle.b3_ir.specs.declared.value.Stackmap.{Stackmap}
use Rattle.b3_ir.specs.declared.value.Value.{Value}
use Rattle.b3_ir.specs.Procedure.{Procedure}
use Rattle.stackmap.specs.Registers.{has_result, stackmap_in}
use Rattle.stackmap.specs.Rules.{FixesApart, HasRegisters, NamesConstraints, NamesRegisters}
use Rattle.stackmap.proofs.Placed.{same_map}
use Rattle.b3_rules.specs.Least.{IsLeastBroken, IsWithin}
use Rattle.b3_rules.specs.Numbers.{number_of}
use Rattle.b3_rules.specs.Rules.{OfStackmap}
use Rattle.b3_rules.specs.Sites.{MapKeeps}
use Rattle.b3_rules.specs.Valid.{ValueKeeps}
use Rattle.b3_rules.specs.declared.rule.Rule.{Rule}
use Rattle.b3_rules.specs.declared.rule.Rule.TheVariants as rule

-- what holds of each rule on stackmaps
pub of_stackmaps : (P : Rule → Type 0) → P rule.Constraints → P rule.Registers → P rule.FixedRegisters → P rule.RegisterDemand
    → (r : Rule) → IsWithin 15 18 r → P r
of_stackmaps P a b c d rule.Constraints within = a
of_stackmaps P a b c d rule.Registers within = b
of_stackmaps P a b c d rule.FixedRegisters within = c
of_stackmaps P a b c d rule.RegisterDemand within = d
of_stackmaps P a b c d _ within = absurd (let low = within.0 in let high = within.1 in omega (arith, low, high))

module _ (keeps : Rule → Type 0) where
  -- with the rule on sizes, the last
  pub still_least : (r : Rule) → IsLeastBroken 15 18 keeps (Some r) → IsLeastBroken 15 19 keeps (Some r)
  still_least r least =
      let high = least.0.1 in
      ((least.0.0, omega (arith, high)), least.1, λ q within less. least.2 q (within.0, omega (arith, high, less)) less)

-- two ways to keep the same rules
pub least_alike : (low high : ℕ) (keeps holds : Rule → Type 0) → ((r : Rule) → IsWithin low high r → (keeps r → holds r) × (holds r → keeps r))
    → (o : Option Rule) → IsLeastBroken low high keeps o → IsLeastBroken low high holds o
least_alike low high keeps holds same None all = λ r within. (same r within).0 (all r within)
least_alike low high keeps holds same (Some r) least =
    (least.0, (λ h. least.1 ((same r least.0).1 h)), λ q within less. (same q within).0 (least.2 q within less))

-- a value keeps the rules on stackmaps where its stackmap does
of_map : (holds : Bool → Stackmap → Type 0) (v : Value) (map : Stackmap) → v.body ≡ Map map
    → (holds (has_result v) map → OfStackmap holds v) × (OfStackmap holds v → holds (has_result v) map)
of_map holds v map is = (
  (λ h other carries. subst (holds (has_result v)) (sym (same_map v.body map other is carries)) h),
  (λ all. all map (ap stackmap_in is)),
)

pub least_of_map : (v : Value) (map : Stackmap) (o : Option Rule) → v.body ≡ Map map → IsLeastBroken 15 18 (λ r. MapKeeps r (has_result v) map) o
    → (p : Procedure) (b j : ℕ) → IsLeastBroken 15 18 (λ r. ValueKeeps r p b j v) o
least_of_map v map o is least p b j =
    least_alike 15 18 (λ r. MapKeeps r (has_result v) map) (λ r. ValueKeeps r p b j v)
    (of_stackmaps (λ r. (MapKeeps r (has_result v) map → ValueKeeps r p b j v) × (ValueKeeps r p b j v → MapKeeps r (has_result v) map))
    (of_map NamesConstraints v map is) (of_map NamesRegisters v map is) (of_map FixesApart v map is) (of_map HasRegisters v map is)) o least
