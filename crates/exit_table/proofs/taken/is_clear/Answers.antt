use Rattle.std.proofs.Common.{◌∙◌}
use Rattle.exit_table.proofs.TakenLaws.{has_room_is}
use Rattle.exit_table.proofs.taken.is_clear.Goals as goal

pub returns : goal.returns
returns c = c.has_room.ensures ∙ has_room_is c.args.taken.now.entries _ c.requires.stacked
