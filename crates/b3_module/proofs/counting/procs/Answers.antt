use Rattle.std.proofs.Common.{Result, sym, ◌∙◌, ap, ◌+◌, drop}
use Rattle.std.proofs.lemmas.Result.{err_from_is_err_and}
use Rattle.b3_ir.specs.Procedure.{procedures}
use Rattle.b3_module.specs.declared.counting.Counts.{Counts}
use Rattle.b3_module.specs.declared.counting.Passed.{Passed}
use Rattle.b3_module.specs.Counting.{counted_all}
use Rattle.b3_module.proofs.CountLemmas.{all_halted, procedure_next}
use Rattle.b3_module.proofs.counting.procs.Goals as goal

pub returns-in_err-counts : goal.returns-in_err-counts
returns-in_err-counts c =
    let p = err_from_is_err_and c.from_residual.result c.from_residual.ensures.1 in
    let next = procedure_next c.args.made.now c.loop-at.at c.proc.result.now c.loop-at.counts c.proc.ensures in
    all_halted c.from_residual.result _ p.0 c.in_err-counts.field-0.0 (procedures (drop (c.loop-at.at + 1) c.args.made.now)) _ p.1 p.2 (sym c.procedure.ensures ∙ c.in_err-counts.was) (sym next ∙ c.loop-at.invariant)

pub loop-at-preserved : goal.loop-at-preserved
loop-at-preserved c =
    let rest = procedures (drop (c.loop-at.at + 1) c.args.made.now) in
    let next = procedure_next c.args.made.now c.loop-at.at c.proc.result.now c.loop-at.counts c.proc.ensures in
    ap (λ (r : Result Counts Passed). counted_all r rest) (sym c.in_ok-counts.was ∙ c.procedure.ensures) ∙ sym next ∙ c.loop-at.invariant
