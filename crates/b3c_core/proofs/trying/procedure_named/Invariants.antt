use Rattle.std.proofs.Common.{◌≡◌, ◌≢◌, ℕ, ◌<◌, Some}
use Rattle.std.specs.Prelude.{slice_get}
use Rattle.b3_ir.specs.Procedure.{Procedure, procedures}
use Rattle.b3c_core.proofs.trying.procedure_named.Given as goal

abbrev pub invariant-loop-at : goal.invariant-loop-at
invariant-loop-at l = (k : ℕ) (p : Procedure) → slice_get (procedures l.module_) k ≡ Some p → k < l.at → p.name ≢ l.name
