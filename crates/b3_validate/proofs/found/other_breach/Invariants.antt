use Rattle.b3_ir.specs.Procedure.{procedures}
use Rattle.b3_validate.specs.Firsts.{AreNames, IsFirstBelow, IsOther}
use Rattle.b3_validate.proofs.found.other_breach.Given as goal

abbrev pub invariant-loop-at : goal.invariant-loop-at
invariant-loop-at l = record {
  names : AreNames (procedures l.module_) l.at l.names;
  found : IsFirstBelow IsOther (procedures l.module_) l.at l.found;
}
