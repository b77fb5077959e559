use Rattle.b3_module.specs.Texts.{following}
use Rattle.b3_module.proofs.Reachable.{moved, value_stands}
use Rattle.b3_module.proofs.reading.read_in_block.Goals as goal

pub read_value-requires-clause-value : goal.read_value-requires-clause-value
read_value-requires-clause-value c = moved (following c.in-ValueRow.value.kind.opcode) c.in-ValueRow.value c.args.line (value_stands c.args.row c.in-ValueRow.value c.in-ValueRow.is c.requires.row)
