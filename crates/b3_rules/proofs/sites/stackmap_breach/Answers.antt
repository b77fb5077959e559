use Rattle.std.proofs.Common.{Bool, subst}
use Rattle.b3_rules.specs.Least.{IsLeastBroken}
use Rattle.b3_rules.specs.Sites.{MapKeeps}
use Rattle.b3_rules.proofs.LeastOfSites.{least_of_map}
use Rattle.b3_rules.proofs.sites.stackmap_breach.Goals as goal

pub returns-in-Map : goal.returns-in-Map
returns-in-Map c =
    least_of_map c.args.value.now c.in-Map.map c.map_breach.result c.in-Map.is
    (subst (λ (typed : Bool). IsLeastBroken 15 18 (λ r. MapKeeps r typed c.in-Map.map) c.map_breach.result) c.has_result.ensures c.map_breach.ensures)
