use Rattle.std.proofs.Common.{◌≡◌, IfOk, List, ℕ, subst}
use Rattle.stackmap.proofs.Placed.{allowed_from_literal}
use Rattle.stackmap.proofs.placing.allowed_registers.Goals as goal

pub returns : goal.returns
returns c =
    subst (λ (list : List ℕ). IfOk c.all_outside.result (λ registers. registers ≡ list))
    (allowed_from_literal _ c.args.map.now c.args.typed c.excluded.ensures) c.all_outside.ensures
