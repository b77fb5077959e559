use Rattle.b3_rules.specs.Valid.{ValueKeeps}
use Rattle.b3_rules.proofs.LeastOfSites.{still_least}
use Rattle.b3_rules.proofs.sites.site_breach.Goals as goal

pub returns-in-Some : goal.returns-in-Some
returns-in-Some c p b j = still_least (λ r. ValueKeeps r p b j c.args.value.now) c.in-Some.rule (c.in-Some.ensures p b j)
