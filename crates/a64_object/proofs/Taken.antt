-- The procedures that are taken: valid ones within the limits, each of whose values is one that may stand in a procedure.
use Rattle.std.proofs.Common.{List}
use Rattle.std.specs.Prelude.{All}
use Rattle.b3_base.proofs.Lists.{All-from_places}
use Rattle.b3_ir.specs.Procedure.{AllFit, Procedure}
use Rattle.b3_rules.specs.Valid.{IsValid, IsValidProcedure}
use Rattle.air_select.specs.Contract.{IsWithinLimits}
use Rattle.a64_object.specs.Taken.{AreWithinLimits, HasFewSlots}
use Rattle.a64_object.proofs.Lists.{one_in}

pub record IsTaken (p : Procedure) : Type 0 where
  pub valid : IsValidProcedure p
  pub fit : AllFit p.blocks
  pub limits : IsWithinLimits p
  pub slots : HasFewSlots p

pub all_taken : (ps : List Procedure) → IsValid ps → All (λ (p : Procedure). AllFit p.blocks) ps → AreWithinLimits ps → All IsTaken ps
all_taken ps valid fit limits = All-from_places IsTaken ps (λ k p there. record {
  valid = valid.each k p there;
  fit = one_in (λ (q : Procedure). AllFit q.blocks) ps k p there fit;
  limits = one_in IsWithinLimits ps k p there limits.each;
  slots = one_in HasFewSlots ps k p there limits.slots;
})
