use Rattle.b3_meaning.proofs.Keeping.{keeps_itself, keeps_through}
use Rattle.b3_meaning.proofs.laws.keeping_laws.Goals as goal

pub returns-clause-itself : goal.returns-clause-itself
returns-clause-itself c = keeps_itself

pub returns-clause-through : goal.returns-clause-through
returns-clause-through c = keeps_through
