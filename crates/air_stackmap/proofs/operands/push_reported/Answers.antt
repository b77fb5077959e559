use Rattle.std.proofs.Common.{◌∙◌, ◌++◌, ◌∷◌, [], Option, ap, arith, sym}
use Rattle.b3_ir.specs.declared.value.Stackmap.{Stackmap}
use Rattle.stackmap.specs.Registers.{constraints_in}
use Rattle.air_ir.specs.declared.operand.Operand.{Operand}
use Rattle.air_stackmap.specs.SiteCode.{reports_from}
use Rattle.air_stackmap.proofs.Pushing.{map_count, report_pushed, reports_done}
use Rattle.air_stackmap.proofs.operands.push_reported.Goals as goal

pub get-constraint-requires : goal.get-constraint-requires
get-constraint-requires c =
    let less = c.loop-at-test.true in
    let same = c.requires.children ∙ map_count c.args.v.now c.args.map.now c.args.registers.now c.requires.map c.requires.registers in
    omega (arith, less, same)

pub loop-at-preserved : goal.loop-at-preserved
loop-at-preserved c =
    report_pushed c.args.v.now c.loop-at.operands _ _ c.args.registers.now c.args.map.now.constraints c.args.children.now c.loop-at.at _ _
    c.requires.registers c.requires.children c.loop-at-test.true c.get-constraint.ensures c.loop-at.invariant
    (c.in_ok-push.ensures.ok ∙ ap (λ (o : Operand). c.loop-at.operands ++ o ∷ []) c.report.ensures)

pub returns : goal.returns
returns c =
    let past = c.loop-at-test.false in
    let same = c.requires.children ∙ map_count c.args.v.now c.args.map.now c.args.registers.now c.requires.map c.requires.registers in
    reports_done c.args.v.now c.loop-at.operands _ c.args.map.now.constraints c.args.children.now c.loop-at.at (omega (arith, past, same)) c.loop-at.invariant
    ∙ ap (λ (m : Option Stackmap). c.args.operands.now ++ reports_from c.args.v.now 0 (constraints_in m) c.args.children.now) (sym c.requires.map)
