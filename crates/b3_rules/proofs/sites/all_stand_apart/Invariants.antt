use Rattle.std.proofs.Common.{All, take}
use Rattle.b3_rules.specs.Sites.{StandsApart}
use Rattle.b3_rules.proofs.sites.all_stand_apart.Given as goal

abbrev pub invariant-loop-constraint : goal.invariant-loop-constraint
invariant-loop-constraint l = All (StandsApart l.typed l.map) (take l.constraint-index l.constraint-items)
