use Rattle.std.proofs.Common.{arith, ap, ◌∙◌, subst}
use Rattle.air_ir.specs.declared.assignment.Assignment.{Assignment}
use Rattle.air_ir.specs.declared.procedure.AirProc.{AirProc}
use Rattle.air_graph.specs.Graph.{IsInterferenceOf}
use Rattle.air_select.specs.Contract.{procedure_at}
use Rattle.air_spill.specs.Rewritten.{rewritten}
use Rattle.a64_object.proofs.Emitted.{built_of}
use Rattle.a64_object.proofs.Placed.{placed_of, spills_below}
use Rattle.a64_object.proofs.procedure.placed_procedure.Goals as goal

pub rewrite-requires-clause-named : goal.rewrite-requires-clause-named
rewrite-requires-clause-named c = spills_below 0 56 c.in_ok-selected.selected (omega arith) c.in_ok-selected.ensures.spills

pub returns-clause-placed : goal.returns-clause-placed
returns-clause-placed c =
    let q = c.in_ok-selected.ensures in
    let r = c.in_ok-placed.ensures in
    let selected : AirProc = c.in_ok-selected.selected in
    let placed : AirProc = c.in_ok-placed.placed in
    placed_of (procedure_at c.args.valid.now c.args.proc) c.in_ok-selected.selected c.in_ok-placed.placed c.in_ok-assignment.assignment
    c.keeps_rules.ensures.valid c.keeps_rules.ensures.fit
    c.same_blocks_laws.ensures.onward c.spill_counts.ensures.below c.spill_counts.ensures.named
    q.same q.light q.few q.kept q.returns_32 q.returns_64 (built_of (procedure_at c.args.valid.now c.args.proc) c.keeps_rules.ensures.valid c.keeps_rules.ensures.fit selected placed
    q.expressed r.comes)
    q.made_for q.expressed
    r.is r.same r.well r.no_tmps r.kept r.spills r.lighter q.sites r.sites r.comes

pub returns-clause-coloured : goal.returns-clause-coloured
returns-clause-coloured c =
    let by = c.in_ok-assignment.ensures.coloured in
    let a : Assignment = c.in_ok-assignment.assignment in
    record {
      graph = by.0;
      assignment = a;
      interference = subst (λ (q : AirProc). IsInterferenceOf q by.0) c.in_ok-selected.ensures.is by.1;
      colouring = by.2;
      is = c.in_ok-placed.ensures.is ∙ ap (λ (q : AirProc). rewritten q a) c.in_ok-selected.ensures.is;
    }
