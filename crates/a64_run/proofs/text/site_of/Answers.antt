use Rattle.a64_run.proofs.Sites.{has_registers, in_order}
use Rattle.a64_run.proofs.text.site_of.Goals as goal

pub place_of-requires : goal.place_of-requires
place_of-requires c = rw c.as_slice.ensures (in_order 0 c.args.e.now.object.now.tables.sites c.requires.tables.order)

pub returns-then-is_kind-clause-registers : goal.returns-then-is_kind-clause-registers
returns-then-is_kind-clause-registers c = has_registers c.args.e.now.object.now c.in_ok-at.at c.get-row.result.now c.requires c.get-row.ensures
