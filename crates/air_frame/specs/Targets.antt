-- No public clause cites this module.
-- The registers that operands write, one operand after the other.
use Rattle.std.specs.Prelude.{ℕ, Bool, false}
use Rattle.air_ir.specs.Operands.{is_read}
use Rattle.air_ir.specs.declared.operand.Arg.{Arg}
use Rattle.air_ir.specs.declared.operand.Arg.TheVariants.{At}
use Rattle.air_ir.specs.declared.operand.Operand.{Operand}
use Rattle.air_frame.specs.Needs.{is_register}

-- whether what isn't read is this register
abbrev pub arg_writes : Bool → ℕ → Arg → Bool
arg_writes false r (At home) = is_register r home
arg_writes reads r _ = false

-- whether an operand writes or clobbers a register
abbrev pub operand_writes : ℕ → Operand → Bool
operand_writes r o = arg_writes (is_read o.role) r o.arg
