use Rattle.std.proofs.Common.{subst, sym}
use Rattle.b3_ir.specs.Procedure.{procedures}
use Rattle.b3_module.specs.Limits.{KeepsLimits}
use Rattle.b3c_chain.proofs.passes.chain.Goals as goal

pub chain_valid-requires : goal.chain_valid-requires
chain_valid-requires c = subst (λ ks. KeepsLimits (procedures ks)) (sym c.in_ok-valid.ensures.same) c.in_ok-module.ensures.within
