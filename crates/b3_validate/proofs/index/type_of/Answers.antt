use Rattle.b3_validate.proofs.Entries.{type_is, void_is}
use Rattle.b3_validate.proofs.index.type_of.Goals as goal

pub returns-in-Some : goal.returns-in-Some
returns-in-Some c p named = type_is p c.args.id c.in-Some.first (rw c.in-Some.is at (c.entry.ensures p named))

pub returns-in-None : goal.returns-in-None
returns-in-None c p named = void_is p c.args.id (rw c.in-None.is at (c.entry.ensures p named))
