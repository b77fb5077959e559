use Rattle.b3_module.proofs.LimitCounts.{few_blocks, few_operands, few_slots, few_values}
use Rattle.b3_module.proofs.laws.limits_are_counted.Goals as goal

pub returns-clause-values : goal.returns-clause-values
returns-clause-values c = few_values

pub returns-clause-operands : goal.returns-clause-operands
returns-clause-operands c = few_operands

pub returns-clause-slots : goal.returns-clause-slots
returns-clause-slots c = few_slots

pub returns-clause-blocks : goal.returns-clause-blocks
returns-clause-blocks c = few_blocks
