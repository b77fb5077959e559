-- A byte is written where one is mapped, and else mapped.
use Rattle.std.proofs.Common.{arith}
use Rattle.std.specs.FinMap as map
use Rattle.a64_run.proofs.Taking.{write_one, map_one}
use Rattle.a64_run.proofs.bytes.put.Goals as goal

pub returns-then-write : goal.returns-then-write
returns-then-write c =
    let one = write_one (map.get c.args.memory.now) c.args.address c.args.byte (omega arith) (omega arith) in
    grind (arith, one)

pub returns-in-Ok : goal.returns-in-Ok
returns-in-Ok c =
    let one = map_one (map.get c.args.memory.now) c.args.address c.args.byte in
    grind (arith, one)
