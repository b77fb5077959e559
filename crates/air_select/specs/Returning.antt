-- No public clause cites this module: which values are Returns.
use Rattle.std.specs.Prelude.{Bool, true, false}
use Rattle.b3_ir.specs.declared.opcode.Opcode.{Opcode}
use Rattle.b3_ir.specs.declared.opcode.Opcode.TheVariants.{Return}

-- whether a value of an opcode is a Return
abbrev pub is_return : Opcode → Bool
is_return Return = true
is_return _ = false
