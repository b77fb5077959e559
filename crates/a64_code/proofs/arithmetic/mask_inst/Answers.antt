use Rattle.std.proofs.Common.{ℕ, ap, sym}
use Rattle.b3_base.proofs.MaskSearch.{found}
use Rattle.a64_code.specs.Computing.{logic_with}
use Rattle.a64_code.proofs.arithmetic.mask_inst.Goals as goal

pub returns-in-Some : goal.returns-in-Some
returns-in-Some c =
    let named = c.in-Some.ensures.named in
    let range = c.in-Some.ensures.range in
    ap (λ (t : ℕ × ℕ × ℕ). logic_with c.args.width c.args.op c.args.rd c.args.rn t)
    (sym (found c.args.width c.in-Some.n c.in-Some.immr c.in-Some.imms c.args.word range.0 range.2 named.1 named.0))
