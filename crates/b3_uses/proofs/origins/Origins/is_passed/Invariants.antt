use Rattle.std.proofs.Common.{◌<◌, length}
use Rattle.b3_ir.specs.Procedure.{Procedure}
use Rattle.b3_uses.specs.Origins.{AreOrigins, IsPassed}
use Rattle.b3_uses.proofs.origins.Origins.is_passed.Given as goal

abbrev pub invariant-loop : goal.invariant-loop
invariant-loop l = record {
  within : l.at < length l.self.sources;
  above : (p : Procedure) → AreOrigins p l.self → IsPassed p l.at l.fn.id → IsPassed p l.block l.fn.id;
}
