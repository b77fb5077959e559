-- A written byte is put where one stands.
use Rattle.std.proofs.Common.{◌≡◌, ◌∙◌, ◌<◌, ◌^◌, Some, sym, ap, arith}
use Rattle.std.specs.FinMap as map
use Rattle.a64_run.proofs.Left.{off_same, put_one}
use Rattle.a64_run.proofs.leaving.put_byte.Goals as goal

pub returns-in-Some : goal.returns-in-Some
returns-in-Some c =
    let small : c.args.address < 2 ^ 64 = omega arith in
    let byte : c.from.result < 256 = omega arith in
    let is : map.get c.args.writes.now c.args.address ≡ Some c.from.result = sym c.byte_at.ensures ∙ c.in-Some.is ∙ ap Some (sym c.from.ensures) in
    put_one (map.get c.args.memory.now) (map.get c.write.new.self) (map.get c.args.writes.now) c.args.address c.from.result c.write.result small byte is
    c.write.ensures.told c.write.ensures.written (off_same c.write.result c.write.new.self c.args.memory.now c.write.ensures.unchanged)
