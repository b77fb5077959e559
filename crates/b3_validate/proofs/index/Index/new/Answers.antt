use Rattle.std.proofs.Common.{sym, subst}
use Rattle.b3_validate.specs.Index.{AreNamed}
use Rattle.b3_validate.proofs.index.Index.new.Goals as goal

pub returns : goal.returns
returns c = record { ids = subst (AreNamed c.args.p.now) (sym c.ids.view_is) c.in_ok-ids.ensures; slots = c.in_ok-slot_numbers.ensures; blocks = c.in_ok-block_numbers.ensures; returned = c.in_ok-returned.ensures }
