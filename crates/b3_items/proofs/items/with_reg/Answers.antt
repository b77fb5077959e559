use Rattle.std.proofs.Common.{◌≤◌, ◌<◌, ◌*◌, ◌%◌, ◌^◌, bit_or, arith}
use Rattle.std.proofs.Math.Nat.{mod-le}
use Rattle.std.proofs.Math.Pow.{pow_mono}
use Rattle.std.proofs.lemmas.Nat.{or_lt}
use Rattle.b3_items.proofs.items.with_reg.Goals as goal

pub from_bits-requires : goal.from_bits-requires
from_bits-requires c =
    let low : 2 ^ c.args.reg.0 ≤ 2 ^ 30 = pow_mono c.requires.reg in
    let less = mod-le (1 * 2 ^ c.args.reg.0) 4294967296 in
    or_lt 31 c.bits.result (1 * 2 ^ c.args.reg.0 % 4294967296) (omega arith) (omega (arith, low, less))

pub returns-clause-bound : goal.returns-clause-bound
returns-clause-bound c =
    let low : 2 ^ c.args.reg.0 ≤ 2 ^ 30 = pow_mono c.requires.reg in
    let less = mod-le (1 * 2 ^ c.args.reg.0) 4294967296 in
    let small : bit_or c.bits.result (1 * 2 ^ c.args.reg.0 % 4294967296) < 2 ^ 31 = or_lt 31 c.bits.result (1 * 2 ^ c.args.reg.0 % 4294967296)
    (omega arith) (omega (arith, low, less)) in
    omega (arith, small)
