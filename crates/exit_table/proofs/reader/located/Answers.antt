use Rattle.exit_table.proofs.RoomLaws.{ends_within}
use Rattle.exit_table.proofs.reader.located.Goals as goal

pub frame_section-requires : goal.frame_section-requires
frame_section-requires c = ends_within c.args.extents.now c.requires
