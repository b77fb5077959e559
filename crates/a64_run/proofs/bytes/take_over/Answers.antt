-- Where there is no byte nothing is taken over.
use Rattle.std.proofs.Common.{◌∙◌, sym, arith}
use Rattle.std.specs.FinMap as map
use Rattle.a64_run.proofs.Taking.{take_one, take_none}
use Rattle.a64_run.proofs.bytes.take_over.Goals as goal

pub returns-in-Some : goal.returns-in-Some
returns-in-Some c =
    let one = take_one (map.get c.args.into.now) (map.get c.args.from.now) c.args.address c.in-Some.byte (sym c.byte_at.ensures ∙ c.in-Some.is) in
    grind (arith, one)

pub returns-in-None : goal.returns-in-None
returns-in-None c = take_none (map.get c.args.into.now) (map.get c.args.from.now) c.args.address (sym c.byte_at.ensures ∙ c.in-None.is)
