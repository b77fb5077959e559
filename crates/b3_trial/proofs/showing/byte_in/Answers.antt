use Rattle.std.proofs.Common.{◌∙◌}
use Rattle.std.specs.FinMap as map
use Rattle.b3_base.proofs.OneByte.{read_one}
use Rattle.b3_trial.proofs.ShownLemmas.{is_byte}
use Rattle.b3_trial.proofs.showing.byte_in.Goals as goal

pub returns-clause-is : goal.returns-clause-is
returns-clause-is c = c.read.ensures ∙ read_one (map.get c.args.memory.now) c.args.address c.ranges.address.fits

pub returns-clause-byte : goal.returns-clause-byte
returns-clause-byte c = is_byte (map.get c.args.memory.now) c.args.address c.read.result c.ranged.ensures (c.read.ensures
    ∙ read_one (map.get c.args.memory.now) c.args.address c.ranges.address.fits)
