use Rattle.std.proofs.Common.{Result, sym, ◌∙◌, ap, ◌+◌, drop}
use Rattle.std.proofs.lemmas.Result.{err_from_is_err_and}
use Rattle.b3_module.specs.declared.counting.Counts.{Counts}
use Rattle.b3_module.specs.declared.counting.Passed.{Passed}
use Rattle.b3_module.specs.Limits.{parts_of_slots}
use Rattle.b3_module.specs.Counting.{counted_on}
use Rattle.b3_module.proofs.CountLemmas.{halted, slot_next}
use Rattle.b3_module.proofs.counting.slots.Goals as goal

pub returns-in_err-counts : goal.returns-in_err-counts
returns-in_err-counts c =
    let p = err_from_is_err_and c.from_residual.result c.from_residual.ensures.1 in
    let next = slot_next c.args.p.now.procedure.slots c.loop-at.at c.slot-line.result c.loop-at.counts c.slot-line.ensures in
    halted c.from_residual.result _ p.0 c.in_err-counts.field-0.0 (parts_of_slots (drop (c.loop-at.at + 1) c.args.p.now.procedure.slots)) _ p.1 p.2 (sym c.slot.ensures ∙ c.in_err-counts.was) (sym next ∙ c.loop-at.invariant)

pub loop-at-preserved : goal.loop-at-preserved
loop-at-preserved c =
    let rest = parts_of_slots (drop (c.loop-at.at + 1) c.args.p.now.procedure.slots) in
    let next = slot_next c.args.p.now.procedure.slots c.loop-at.at c.slot-line.result c.loop-at.counts c.slot-line.ensures in
    ap (λ (r : Result Counts Passed). counted_on r rest) (sym c.in_ok-counts.was ∙ c.slot.ensures) ∙ sym next ∙ c.loop-at.invariant
