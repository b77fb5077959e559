use Rattle.std.proofs.Common.{sym, ◌∙◌, ◌≡◌, false, nat_lt, arith}
use Rattle.stackmap.proofs.Sets.{has_none_above}
use Rattle.stackmap.proofs.set.is_in.Goals as goal

pub returns-else-r-lt32 : goal.returns-else-r-lt32
returns-else-r-lt32 c =
    let no : nat_lt c.args.r 32 ≡ false = grind arith in
    no ∙ sym (has_none_above c.args.set c.args.r c.ranges.set.fits (omega arith))
