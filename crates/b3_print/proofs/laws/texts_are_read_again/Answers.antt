use Rattle.std.proofs.Common.{ap}
use Rattle.b3_print.specs.Printed.{text_of}
use Rattle.b3_print.proofs.AgainLemmas.{text_again}
use Rattle.b3_print.proofs.laws.texts_are_read_again.Goals as goal

pub returns-clause-spelled : goal.returns-clause-spelled
returns-clause-spelled c bytes m e =
    text_again c.rows_are_read.ensures c.lines_are_cut.ensures c.rows_spell.ensures c.texts_are_listed.ensures.rowed c.texts_are_listed.ensures.rows m
    (c.texts_are_listed.ensures.given bytes m e)

pub returns-clause-text : goal.returns-clause-text
returns-clause-text c =
    text_again c.rows_are_read.ensures c.lines_are_cut.ensures c.rows_spell.ensures c.texts_are_listed.ensures.rowed c.texts_are_listed.ensures.rows

pub returns-clause-same : goal.returns-clause-same
returns-clause-same c m = ap text_of (c.lines_are_free.ensures.rows 1 m)

pub returns-clause-limits : goal.returns-clause-limits
returns-clause-limits c m h = c.lines_are_free.ensures.limits 1 m h
