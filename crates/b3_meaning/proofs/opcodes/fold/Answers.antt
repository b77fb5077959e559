use Rattle.b3_meaning.proofs.Foldables.{two_children}
use Rattle.b3_meaning.proofs.opcodes.fold.Goals as goal

pub of_two-requires : goal.of_two-requires
of_two-requires c = two_children c.args.opcode c.args.ty c.args.children.now c.args.child_types.now c.in-2.is c.requires
