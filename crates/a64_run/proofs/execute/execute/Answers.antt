-- An instruction that faults or breaks leaves the state as it was.
use Rattle.std.proofs.Common.{◌∙◌, refl, sym, ap}
use Rattle.std.specs.FinMap as map
use Rattle.a64_inst.specs.Registers.{registers_of}
use Rattle.stackmap.specs.declared.site.SiteKind.TheVariants.{Exit}
use Rattle.a64_run.proofs.Stepping.{executes_break, executes_fault, leads_ok, leads_same, stays_same}
use Rattle.a64_run.specs.Kept.{entry_of, state_of}
use Rattle.a64_run.specs.Machine.{State, broken, of_kind, site_at}
use Rattle.a64_run.proofs.execute.execute.Goals as goal

pub returns-in-Fault : goal.returns-in-Fault
returns-in-Fault c =
    let e = entry_of c.args.e.now in
    let s = state_of c.args.st.now in
    let same = stays_same s c.args.inst.now (registers_of c.step.new.state)
    (map.get c.step.new.memory) _ c.in-Fault.ensures.outcome refl c.step.ensures.registers c.step.ensures.memory in
    leads_same e c.faulted.result s _ _ _ same
    (executes_fault e s c.args.inst.now c.in-Fault.address c.touches_empty_at.result c.touches_empty_at.ensures c.if-touches_empty_at.false
    c.in-Fault.ensures.outcome) (c.faulted.ensures s)

pub returns-in-Break : goal.returns-in-Break
returns-in-Break c =
    let e = entry_of c.args.e.now in
    let s = state_of c.args.st.now in
    let same = stays_same s c.args.inst.now (registers_of c.step.new.state)
    (map.get c.step.new.memory) _ c.in-Break.ensures.outcome refl c.step.ensures.registers c.step.ensures.memory in
    leads_ok e c.broken.result _ _ _
    (executes_break e s c.args.inst.now c.in-Break.number c.touches_empty_at.result c.touches_empty_at.ensures c.if-touches_empty_at.false
    c.in-Break.ensures.outcome ∙ ap (λ (t : State). broken e c.in-Break.number t (of_kind Exit (site_at e s.registers.pc))) (sym same)) c.broken.ensures
