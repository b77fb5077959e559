use Rattle.b3_validate.proofs.values.names_id.Goals as goal

pub returns-in-Target : goal.returns-in-Target
returns-in-Target c p is = rw c.in-Target.is (c.is_id.ensures p is)
