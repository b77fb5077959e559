use Rattle.std.proofs.Common.{◌∙◌, ap, not}
use Rattle.tests_b3.proofs.Placeable.{none_broken}
use Rattle.tests_b3.proofs.sites.is_placeable.Goals as goal

pub returns-in-Map : goal.returns-in-Map
returns-in-Map c = λ e.
    none_broken c.args.value.now c.in-Map.field-0 c.in-Map.is c.site_breach.result c.site_breach.ensures (c.is_none.ensures ∙ ap not e)
