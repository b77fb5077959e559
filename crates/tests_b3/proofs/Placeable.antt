-- A value with a stackmap that breaks no rule on it is placeable.
use Rattle.std.proofs.Common.{◌≡◌, ℕ, false, is_some, lit≤, [], Option, Some, None, ap}
use Rattle.b3_ir.specs.Procedure.{Procedure, empty_procedure}
use Rattle.b3_ir.specs.declared.value.Body.TheVariants.{Map}
use Rattle.b3_ir.specs.declared.value.Stackmap.{Stackmap}
use Rattle.b3_ir.specs.declared.value.Value.{Value}
use Rattle.stackmap.specs.Registers.{stackmap_in}
use Rattle.stackmap.specs.Rules.{IsPlaceable}
use Rattle.b3_rules.specs.Least.{IsLeastBroken}
use Rattle.b3_rules.specs.Valid.{ValueKeeps}
use Rattle.b3_rules.specs.declared.rule.Rule.{Rule}
use Rattle.b3_rules.specs.declared.rule.Rule.TheVariants as rule

pub none_broken : (v : Value) (map : Stackmap) → v.body ≡ Map map → (o : Option Rule)
    → ((p : Procedure) (b j : ℕ) → IsLeastBroken 15 19 (λ r. ValueKeeps r p b j v) o) → is_some o ≡ false → IsPlaceable v
none_broken v map e None broken is =
    let kept = broken (empty_procedure [] 0) 0 0 in
    let carries = ap stackmap_in e in
    record {
      stackmap = map;
      carries = carries;
      constraints = kept rule.Constraints (lit≤ tt, lit≤ tt) map carries;
      registers = kept rule.Registers (lit≤ tt, lit≤ tt) map carries;
      apart = kept rule.FixedRegisters (lit≤ tt, lit≤ tt) map carries;
      enough = kept rule.RegisterDemand (lit≤ tt, lit≤ tt) map carries;
    }
none_broken v map e (Some r) broken is = absurd (cc)
