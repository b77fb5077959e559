use Rattle.std.proofs.Common.{◌<◌, ◌^◌, sym, arith}
use Rattle.std.specs.FinMap as finite
use Rattle.b3_eval.proofs.Written.{byte_at, off_same, put_done, put_nothing}
use Rattle.b3_eval.proofs.calls.put_byte.Goals as goal

pub returns-in-Some : goal.returns-in-Some
returns-in-Some c =
    let small : c.args.address < 2 ^ 64 = omega arith in
    let read = sym c.in-Some.ensures in
    put_done (finite.get c.args.memory.now) (finite.get c.write.new.self) (finite.get c.args.writes.now) c.args.address c.in-Some.byte c.write.result
    small (byte_at (finite.get c.args.writes.now) c.args.address c.in-Some.byte c.ranged.ensures small read) read
    c.write.ensures.told c.write.ensures.written (off_same c.write.result c.write.new.self c.args.memory.now c.write.ensures.unchanged)

pub returns-in-None : goal.returns-in-None
returns-in-None c =
    let small : c.args.address < 2 ^ 64 = omega arith in
    put_nothing (finite.get c.args.memory.now) (finite.get c.args.writes.now) c.args.address small (sym c.in-None.ensures)
