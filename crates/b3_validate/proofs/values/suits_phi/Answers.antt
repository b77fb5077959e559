use Rattle.b3_validate.proofs.Judging.{phi_failed, phi_held, phi_none}
use Rattle.b3_validate.proofs.values.suits_phi.Goals as goal

pub returns-then-is_phi : goal.returns-then-is_phi
returns-then-is_phi c p is = rw c.in-Target.is (phi_held p c.in-Target.phi c.args.types.now c.in-Some.first c.is_only.result (c.in-Some.ensures p is) (c.is_phi.ensures.0 c.if-is_phi.true) c.is_only.ensures)

pub returns-else-is_phi : goal.returns-else-is_phi
returns-else-is_phi c p is = rw c.in-Target.is (phi_failed p c.in-Target.phi c.args.types.now c.in-Some.first c.is_phi.result (c.in-Some.ensures p is) c.is_phi.ensures c.if-is_phi.false)

pub returns-in-None : goal.returns-in-None
returns-in-None c p is = rw c.in-Target.is (phi_none p c.in-Target.phi c.args.types.now (c.in-None.ensures p is))
