-- What the types that a row allows say of its children's words.
use Rattle.std.proofs.Common.{◌≡◌, ℕ, true, ◌^◌, ◌<◌, List, [], ◌∷◌, sym, subst, ◌∙◌}
use Rattle.b3_base.specs.Word.{bits}
use Rattle.b3_ir.proofs.Typing.{allowed}
use Rattle.b3_ir.specs.Types.{AreTaken, allows_types, width_of}
use Rattle.b3_ir.specs.declared.opcode.Opcode.{Opcode}
use Rattle.b3_ir.specs.declared.opcode.Opcode.TheVariants.{CheckAdd, CheckSub, CheckMul}
use Rattle.b3_ir.specs.declared.opcode.Ty.{Ty}
use Rattle.b3_ir.specs.declared.table.More.{More}
use Rattle.b3_ir.specs.declared.table.More.TheVariants.{Reported}
use Rattle.b3_ir.specs.declared.table.Takes.TheVariants.{Alike}
use Rattle.b3_meaning.specs.Opcodes.{AreWordsOf}
use Rattle.b3_meaning.specs.Roles.{role_of}
use Rattle.b3_meaning.specs.declared.role.Checked.{Checked}
use Rattle.b3_meaning.specs.declared.role.Role.TheVariants.{CheckedResult}
use Rattle.b3_eval.specs.Signs.{AreSmall}
