use Rattle.std.proofs.Common.{◌≢◌, ◌∙◌, All, subst, sym}
use Rattle.b3_ir.specs.declared.value.Constraint.{Constraint}
use Rattle.b3_ir.specs.declared.value.Constraint.TheVariants.{SomeEarlyRegister}
use Rattle.b3_ir.specs.declared.value.Stackmap.{Stackmap}
use Rattle.stackmap.specs.Registers.{has_result}
use Rattle.stackmap.specs.Rules.{FixesAllocatable, HasRegisters}
use Rattle.stackmap.proofs.Placed.{none_anywhere, same_map}
use Rattle.stackmap.proofs.placing.register_for.Goals as goal

pub child_register-requires-clause-fixed : goal.child_register-requires-clause-fixed
child_register-requires-clause-fixed c =
    subst (λ (m : Stackmap). All FixesAllocatable m.constraints)
    (same_map c.args.value.now.body c.in-Map.map _ c.in-Map.is c.requires.placeable.carries) c.requires.placeable.registers.children

pub child_register-requires-clause-result : goal.child_register-requires-clause-result
child_register-requires-clause-result c typed =
    subst (λ (m : Stackmap). FixesAllocatable m.result)
    (same_map c.args.value.now.body c.in-Map.map _ c.in-Map.is c.requires.placeable.carries)
    (c.requires.placeable.registers.result (sym c.has_result.ensures ∙ typed))

pub returns-in-Map-clause-anywhere : goal.returns-in-Map-clause-anywhere
returns-in-Map-clause-anywhere c =
    let same = same_map c.args.value.now.body c.in-Map.map _ c.in-Map.is c.requires.placeable.carries in
    none_anywhere c.args.value.now c.in-Map.map c.has_result.result c.args.child _ c.in-Map.is c.child_register.ensures
    (rw c.has_result.ensures (subst (λ (m : Stackmap). HasRegisters (has_result c.args.value.now) m) same c.requires.placeable.enough))
    (subst (λ (m : Stackmap). All (λ (x : Constraint). x ≢ SomeEarlyRegister) m.constraints) same c.requires.placeable.constraints.children)
