use Rattle.std.proofs.Common.{◌∙◌}
use Rattle.b3_print.proofs.TextLemmas.{procedure_next}
use Rattle.b3_print.proofs.printing.print.Goals as goal

pub loop-at-preserved : goal.loop-at-preserved
loop-at-preserved c = procedure_next c.loop-at.out c.put_procedure.new.out c.args.text.now c.loop-at.at c.proc.result.now c.proc.ensures c.in_ok-put_procedure.ensures ∙ c.loop-at.invariant
