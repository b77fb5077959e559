use Rattle.b3_validate.proofs.values.knows_slot.Goals as goal

pub returns-in-Slot : goal.returns-in-Slot
returns-in-Slot c p is = rw c.in-Slot.is (c.has_slot.ensures p is)
