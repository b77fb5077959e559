use Rattle.std.proofs.Common.{◌≤◌, ◌*◌, ◌%◌, ◌^◌, arith}
use Rattle.std.proofs.Math.Nat.{mod-le}
use Rattle.std.proofs.Math.Pow.{pow_mono}
use Rattle.std.proofs.lemmas.Nat.{or_lt}
use Rattle.a64_emit.proofs.sites.with_register.Goals as goal

-- the mask has the bit of a register of x0 to x30 alone
pub returns-then-reg-le30-clause-bound : goal.returns-then-reg-le30-clause-bound
returns-then-reg-le30-clause-bound c =
    let low : 2 ^ c.args.reg ≤ 2 ^ 30 = pow_mono c.if-reg-le30.true in
    let less = mod-le (1 * 2 ^ c.args.reg) 4294967296 in
    or_lt 31 c.args.set (1 * 2 ^ c.args.reg % 4294967296) c.requires (omega (arith, low, less))
