-- The values with a stackmap of valid procedures.
use Rattle.std.proofs.Common.{◌≡◌, ◌∙◌, ℕ, true, false, is_some, lit≤, [], Option, Some, None, length, refl, ap}
use Rattle.b3_ir.specs.Fits.{Fits, IsBody, IsExitBody, IsSiteBody, IsStackmap, reported_count}
use Rattle.b3_ir.specs.Procedure.{Procedure, StandsAt, empty_procedure}
use Rattle.b3_ir.specs.Table.{row_of}
use Rattle.b3_ir.specs.declared.opcode.Opcode.{Opcode}
use Rattle.b3_ir.specs.declared.opcode.Opcode.TheVariants as opcode
use Rattle.b3_ir.specs.declared.value.Body.{Body}
use Rattle.b3_ir.specs.declared.value.Body.TheVariants.{Map}
use Rattle.b3_ir.specs.declared.value.Stackmap.{Stackmap}
use Rattle.b3_ir.specs.declared.value.Value.{Value}
use Rattle.b3_rules.specs.Least.{IsLeastBroken}
use Rattle.b3_rules.specs.Valid.{IsValidProcedure, ValueAt, ValueKeeps}
use Rattle.b3_rules.specs.declared.rule.Rule.{Rule}
use Rattle.b3_rules.specs.declared.rule.Rule.TheVariants as rule
use Rattle.stackmap.specs.Registers.{constraints_in, constraints_of, stackmap_in}
use Rattle.stackmap.specs.Rules.{IsPlaceable}
use Rattle.air_stackmap.specs.Laws.{has_stackmap}

-- a stackmap with a constraint for each reported child
pub record HasItsMap (v : Value) : Type 0 where
  pub stackmap : Stackmap
  pub carries : stackmap_in v.body ≡ Some stackmap
  pub sound : IsStackmap (reported_count v) stackmap

of_site : (v : Value) (body : Body) → v.body ≡ body → IsSiteBody v.ty (reported_count v) body → HasItsMap v
of_site v (Map map) e is = record { stackmap = map; carries = ap stackmap_in e; sound = is.sound }
of_site v _ e is = absurd is

of_exit : (v : Value) (body : Body) → v.body ≡ body → IsExitBody (reported_count v) body → HasItsMap v
of_exit v (Map map) e is = record { stackmap = map; carries = ap stackmap_in e; sound = is.sound }
of_exit v _ e is = absurd is

pub its_map : (v : Value) (o : Opcode) → has_stackmap o ≡ true → IsBody (row_of o).carries v.ty (reported_count v) v.body → HasItsMap v
its_map v opcode.Patchpoint e is = of_site v v.body refl is
its_map v opcode.Check e is = of_exit v v.body refl is
its_map v opcode.CheckAdd e is = of_exit v v.body refl is
its_map v opcode.CheckSub e is = of_exit v v.body refl is
its_map v opcode.CheckMul e is = of_exit v v.body refl is
its_map v _ e is = absurd (cc)

-- the rules on stackmaps place it
pub by_rules : (p : Procedure) (b j : ℕ) (v : Value) (map : Stackmap) → stackmap_in v.body ≡ Some map → ValueKeeps rule.Constraints p b j v
    → ValueKeeps rule.Registers p b j v → ValueKeeps rule.FixedRegisters p b j v → ValueKeeps rule.RegisterDemand p b j v → IsPlaceable v
by_rules p b j v map carries constraints registers fixed demand = record {
  stackmap = map;
  carries = carries;
  constraints = constraints map carries;
  registers = registers map carries;
  apart = fixed map carries;
  enough = demand map carries;
}

pub kept : (p : Procedure) (b j : ℕ) (v : Value) → IsValidProcedure p → StandsAt p b j v → Fits v → has_stackmap v.kind.opcode ≡ true
    → IsPlaceable v × (length (constraints_of v) ≡ reported_count v)
kept p b j v valid stands fits e =
    let m = its_map v v.kind.opcode e fits.body in
    let at = ValueAt b j v in (
      by_rules p b j v m.stackmap m.carries (valid rule.Constraints at stands) (valid rule.Registers at stands) (valid rule.FixedRegisters at stands)
          (valid rule.RegisterDemand at stands),
      ap (λ (o : Option Stackmap). length (constraints_in o)) m.carries ∙ m.sound.count,
    )

-- and so it is placed where none of them is broken
pub none_broken : (v : Value) (map : Stackmap) → v.body ≡ Map map → (o : Option Rule)
    → ((p : Procedure) (b j : ℕ) → IsLeastBroken 15 19 (λ r. ValueKeeps r p b j v) o) → is_some o ≡ false → IsPlaceable v
none_broken v map e None broken is =
    let p : Procedure = empty_procedure [] 0 in
    let kept = broken p 0 0 in
    by_rules p 0 0 v map (ap stackmap_in e) (kept rule.Constraints (lit≤ tt, lit≤ tt)) (kept rule.Registers (lit≤ tt, lit≤ tt))
    (kept rule.FixedRegisters (lit≤ tt, lit≤ tt)) (kept rule.RegisterDemand (lit≤ tt, lit≤ tt))
none_broken v map e (Some r) broken is = absurd (cc)
