use Rattle.std.proofs.Common.{◌≡◌, drop}
use Rattle.b3_ir.specs.Naming.{all_values}
use Rattle.b3_rules.specs.Rules.{first_return}
use Rattle.air_fold.proofs.Places.{row}
use Rattle.air_select.proofs.entry.returns.Given as goal

abbrev pub invariant-loop-block : goal.invariant-loop-block
invariant-loop-block l = first_return (row (drop l.block l.p.procedure.blocks)) ≡ first_return (all_values l.p.procedure)
