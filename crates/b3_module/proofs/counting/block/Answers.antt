use Rattle.std.proofs.Common.{Result, sym, ◌∙◌, ap}
use Rattle.std.proofs.lemmas.Result.{err_from_is_err_and}
use Rattle.b3_ir.specs.Procedure.{values_of}
use Rattle.b3_module.specs.declared.counting.Counts.{Counts}
use Rattle.b3_module.specs.declared.counting.Passed.{Passed}
use Rattle.b3_module.specs.Limits.{parts_of_values}
use Rattle.b3_module.specs.Counting.{counted_on}
use Rattle.b3_module.proofs.CountLemmas.{block_counted, halted}
use Rattle.b3_module.proofs.counting.block.Goals as goal

pub returns-in_err-counts : goal.returns-in_err-counts
returns-in_err-counts c b there =
    let p = err_from_is_err_and c.from_residual.result c.from_residual.ensures.1 in
    let next = block_counted c.args.p.now.procedure c.args.at c.block.result.line b c.args.counts there c.block.ensures.line in
    halted c.from_residual.result _ p.0 c.in_err-counts.field-0.0 (parts_of_values (values_of c.args.p.now.procedure c.args.at)) _ p.1 p.2 (sym c.heading.ensures ∙ c.in_err-counts.was) (sym next)

pub returns : goal.returns
returns c b there =
    let next = block_counted c.args.p.now.procedure c.args.at c.block.result.line b c.args.counts there c.block.ensures.line in
    c.values.ensures ∙ ap (λ (r : Result Counts Passed). counted_on r (parts_of_values (values_of c.args.p.now.procedure c.args.at))) (sym c.in_ok-counts.was ∙ c.heading.ensures) ∙ sym next
