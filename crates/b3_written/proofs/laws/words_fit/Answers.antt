use Rattle.b3_written.proofs.WordLemmas.{word_of_body, word_read}
use Rattle.b3_written.proofs.laws.words_fit.Goals as goal

pub returns-clause-fit : goal.returns-clause-fit
returns-clause-fit c v h = word_of_body _ v.ty _ v.body h.body

pub returns-clause-read : goal.returns-clause-read
returns-clause-read c line v e = word_read c.lines_fit.ensures line v e
