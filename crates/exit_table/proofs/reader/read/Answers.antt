use Rattle.std.proofs.Common.{subst, arith}
use Rattle.exit_table.specs.Read.{Tells}
use Rattle.exit_table.proofs.Spelled.{is_found, is_only}
use Rattle.exit_table.proofs.reader.read.Goals as goal

pub returns-clause-found : goal.returns-clause-found
returns-clause-found c = is_found c.args.extents.now c.args.frames.now c.args.exits.now c.located.result c.requires (λ i. omega (arith, c.type_inv.frames i)) (λ i. omega (arith, c.type_inv.exits i)) c.located.ensures

pub returns-clause-only : goal.returns-clause-only
returns-clause-only c = λ tables are. subst (λ r. Tells c.located.result r) (is_only c.args.extents.now c.args.frames.now c.args.exits.now tables c.requires are) c.located.ensures
