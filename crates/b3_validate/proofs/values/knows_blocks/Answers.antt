use Rattle.b3_validate.proofs.values.knows_blocks.Goals as goal

pub returns-in-Targets : goal.returns-in-Targets
returns-in-Targets c p is = rw (c.in-Targets.is, ← c.as_slice.ensures) (c.are_blocks.ensures p is)

pub returns-in-Cases : goal.returns-in-Cases
returns-in-Cases c p is = rw (c.in-Cases.is, ← c.as_slice-in-Cases.ensures) (c.are_blocks-in-Cases.ensures p is)
