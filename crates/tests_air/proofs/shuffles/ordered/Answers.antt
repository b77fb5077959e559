use Rattle.std.proofs.Common.{◌∙◌, sym}
use Rattle.tests_air.proofs.Going.{may}
use Rattle.tests_air.proofs.shuffles.ordered.Goals as goal

pub sequence-requires-clause-sources : goal.sequence-requires-clause-sources
sequence-requires-clause-sources c = (may _ c.args.moves.now (sym c.may_go.ensures ∙ c.if-may_go.true)).sources

pub sequence-requires-clause-differ : goal.sequence-requires-clause-differ
sequence-requires-clause-differ c = (may _ c.args.moves.now (sym c.may_go.ensures ∙ c.if-may_go.true)).differ

pub sequence-requires-clause-apart : goal.sequence-requires-clause-apart
sequence-requires-clause-apart c = (may _ c.args.moves.now (sym c.may_go.ensures ∙ c.if-may_go.true)).apart
