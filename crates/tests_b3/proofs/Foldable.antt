-- What a pure opcode may be asked.
use Rattle.std.proofs.Common.{◌≡◌, ℕ, List, true}
use Rattle.b3_ir.proofs.Typing.{allowed}
use Rattle.b3_ir.specs.Types.{AllowsTypes, allows_types}
use Rattle.b3_ir.specs.declared.opcode.Opcode.{Opcode}
use Rattle.b3_ir.specs.declared.opcode.Ty.{Ty}
use Rattle.b3_meaning.specs.Foldable.{IsFoldable}
use Rattle.b3_meaning.specs.Opcodes.{AreWordsOf}
use Rattle.b3_meaning.specs.Roles.{role_of}
use Rattle.b3_meaning.specs.declared.role.Role.TheVariants.{Pure}

pub allowed_by_test : (opcode : Opcode) (ty : Ty) (types : List Ty) → allows_types opcode ty types ≡ true → AllowsTypes opcode ty types
allowed_by_test = allowed

pub foldable : (opcode : Opcode) (ty : Ty) (words : List ℕ) (types : List Ty) → role_of opcode ≡ Pure → AllowsTypes opcode ty types
    → AreWordsOf types words → IsFoldable opcode ty words types
foldable opcode ty words types pure allows fit = record { pure = pure; types = allows; words = fit }
