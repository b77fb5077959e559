use Rattle.a64_emit.proofs.Fits.{blocks_fit}
use Rattle.a64_emit.proofs.Light.{labels_fit}
use Rattle.a64_emit.proofs.WholeCode.{is_code_of_air}
use Rattle.a64_emit.proofs.procedure.emit.Goals as goal

pub procedure_code-requires-clause-fits : goal.procedure_code-requires-clause-fits
procedure_code-requires-clause-fits c = blocks_fit c.args.p.now c.requires.well

pub procedure_code-requires-clause-labels : goal.procedure_code-requires-clause-labels
procedure_code-requires-clause-labels c = labels_fit c.args.p.now c.requires.well c.requires.short

pub returns : goal.returns
returns c =
    is_code_of_air c.args.p.now c.args.frame.now c.requires.well c.requires.no_tmps c.requires.frame c.requires.short c.requires.built c.requires.one_site
    c.in_ok-sites.ensures.small _ _ c.in_ok-code.ensures c.in_ok-sites.ensures.sites
