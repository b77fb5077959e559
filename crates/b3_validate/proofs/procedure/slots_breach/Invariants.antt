use Rattle.b3_validate.specs.Spots.{IsLeastIn, IsSlotBelow}
use Rattle.b3_validate.proofs.procedure.slots_breach.Given as goal

abbrev pub invariant-loop-place : goal.invariant-loop-place
invariant-loop-place l = IsLeastIn l.p.procedure (IsSlotBelow l.place) l.least
