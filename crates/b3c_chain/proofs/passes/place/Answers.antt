use Rattle.std.proofs.Common.{arith}
use Rattle.air_ir.specs.declared.procedure.AirProc.{AirProc}
use Rattle.air_select.specs.Contract.{procedure_at}
use Rattle.a64_object.proofs.Emitted.{built_of}
use Rattle.a64_object.proofs.Placed.{placed_of, spills_below}
use Rattle.b3c_chain.proofs.passes.place.Goals as goal

pub rewrite-requires-clause-named : goal.rewrite-requires-clause-named
rewrite-requires-clause-named c = spills_below 0 56 c.in_ok-selected.selected (omega arith) c.in_ok-selected.ensures.spills

pub returns : goal.returns
returns c =
    let p = procedure_at c.args.valid.now c.args.proc in
    let q = c.in_ok-selected.ensures in
    let r = c.in_ok-placed.ensures in
    let selected : AirProc = c.in_ok-selected.selected in
    let placed : AirProc = c.in_ok-placed.placed in
    placed_of p c.in_ok-selected.selected c.in_ok-placed.placed c.in_ok-assignment.assignment
    c.keeps_rules.ensures.valid c.keeps_rules.ensures.fit
    c.same_blocks_laws.ensures.onward c.spill_counts.ensures.below c.spill_counts.ensures.named
    q.same q.light q.few q.kept q.returns_32 q.returns_64
    (built_of p c.keeps_rules.ensures.valid c.keeps_rules.ensures.fit selected placed q.expressed r.comes)
    q.made_for q.expressed
    r.is r.same r.well r.no_tmps r.kept r.spills r.lighter q.sites r.sites r.comes
