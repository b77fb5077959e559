use Rattle.std.proofs.Common.{arith, rules}
use Rattle.b3c_core.proofs.Beginning.{no_name_more, no_procedure_past, procedure_at}
use Rattle.b3c_core.proofs.trying.procedure_named.Goals as goal

pub returns-then-eq-clause-found : goal.returns-then-eq-clause-found
returns-then-eq-clause-found c =
    (c.proc.result.now.procedure, procedure_at c.args.module_.now c.loop-at.at c.proc.result.now c.proc.ensures, search rules)

pub loop-at-preserved : goal.loop-at-preserved
loop-at-preserved c =
    no_name_more c.args.module_.now c.loop-at.at c.proc.result.now c.args.name.now c.proc.ensures (search rules) c.loop-at.invariant

pub returns-clause-none : goal.returns-clause-none
returns-clause-none c = no_procedure_past c.args.module_.now c.loop-at.at c.args.name.now (omega (arith, c.loop-at-test.false, c.procs-at-end.ensures)) c.loop-at.invariant
