use Rattle.std.proofs.Common.{◌≡◌, ◌∙◌, All, IfOk, List, Option, ap, subst, sym}
use Rattle.b3_ir.specs.declared.value.Reg.{Reg}
use Rattle.b3_ir.specs.declared.value.Stackmap.{Stackmap}
use Rattle.stackmap.specs.Registers.{stackmap_in}
use Rattle.stackmap.specs.Rules.{FixesAllocatable}
use Rattle.stackmap.proofs.InOrder.{in_order}
use Rattle.stackmap.proofs.Placed.{same_map}
use Rattle.stackmap.proofs.placing.registers_for.Goals as goal

pub children_registers-requires-clause-fixed : goal.children_registers-requires-clause-fixed
children_registers-requires-clause-fixed c =
    subst (λ (m : Stackmap). All FixesAllocatable m.constraints)
    (same_map c.args.value.now.body c.in-Map.map _ c.in-Map.is c.requires.carries) c.requires.registers.children

pub children_registers-requires-clause-result : goal.children_registers-requires-clause-result
children_registers-requires-clause-result c typed =
    subst (λ (m : Stackmap). FixesAllocatable m.result)
    (same_map c.args.value.now.body c.in-Map.map _ c.in-Map.is c.requires.carries)
    (c.requires.registers.result (sym c.has_result.ensures ∙ typed))

pub returns-in-Map : goal.returns-in-Map
returns-in-Map c =
    subst (λ (list : List (Option Reg)). IfOk c.children_registers.result (λ registers. registers ≡ list))
    (in_order c.args.value.now c.in-Map.map c.has_result.result (ap stackmap_in c.in-Map.is) c.has_result.ensures) c.children_registers.ensures
