use Rattle.std.proofs.Common.{◌≤◌, ◌*◌, ◌%◌, ◌^◌, arith}
use Rattle.std.proofs.Math.Nat.{mod-le}
use Rattle.std.proofs.Math.Pow.{pow_mono}
use Rattle.std.proofs.lemmas.Nat.{or_lt}
use Rattle.b3_ir.proofs.reg_set.RegSet.insert.Goals as goal

-- the mask has the bit of a register of x0 to x30 alone
pub returns-clause-bound : goal.returns-clause-bound
returns-clause-bound c few =
    let low : 2 ^ c.args.reg.0 ≤ 2 ^ 30 = pow_mono c.requires in
    let less = mod-le (1 * 2 ^ c.args.reg.0) 4294967296 in
    or_lt 31 c.self.inside.bits (1 * 2 ^ c.args.reg.0 % 4294967296) (let same = c.self.view_is in omega (arith, same, few)) (omega (arith, low, less))
