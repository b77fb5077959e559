use Rattle.b3_ir.specs.Procedure.{procedures}
use Rattle.b3c_core.proofs.Limits.{within_limits}
use Rattle.b3c_core.proofs.compiler.module_file.Goals as goal

pub module_object-requires-clause-limits : goal.module_object-requires-clause-limits
module_object-requires-clause-limits c = within_limits (procedures c.args.valid.now) c.requires.within
