-- A word of one byte is the byte that stands there.
use Rattle.std.proofs.Common.{◌≡◌, ◌∙◌, Some, sym, arith}
use Rattle.std.specs.FinMap as map
use Rattle.a64_run.proofs.Taking.{read_one, is_byte}
use Rattle.a64_run.proofs.bytes.byte_at.Goals as goal

stands : (c : goal.In-Some) → map.get c.args.memory.now c.args.address ≡ Some c.in-Some.word
stands c = sym (read_one (map.get c.args.memory.now) c.args.address (omega arith)) ∙ sym c.read.ensures ∙ c.in-Some.is

pub overflow_cast-result : goal.overflow_cast-result
overflow_cast-result c =
    let small = is_byte (map.get c.args.memory.now) c.args.address c.in-Some.word c.ranged.ensures (stands c) in
    omega (arith, small)

pub returns-in-Some : goal.returns-in-Some
returns-in-Some c = sym (stands c)

pub returns-in-None : goal.returns-in-None
returns-in-None c = sym c.in-None.is ∙ c.read.ensures ∙ read_one (map.get c.args.memory.now) c.args.address (omega arith)
