-- No public clause cites this module.
-- How a fault is told.
use Rattle.std.specs.Prelude.{◌≡◌, ◌⊎◌, ℕ}
use Rattle.exit_table.specs.declared.fault.ReadError.{ReadError}
use Rattle.exit_table.specs.declared.fault.ReadError.TheVariants as errors
use Rattle.exit_table.specs.declared.fault.TableFault.{TableFault}
use Rattle.exit_table.specs.declared.fault.TableFault.TheVariants.{NoMemory}
use Rattle.exit_table.specs.Read.{code_of, byte_of}

-- the number and the byte of the fault, or want of memory
abbrev pub IsToldAs : (ℕ → ℕ → TableFault) → ℕ → ReadError → TableFault → Type 0
IsToldAs variant size errors.NoMemory told = told ≡ NoMemory
IsToldAs variant size (errors.Fault fault) told = (told ≡ NoMemory) ⊎ (told ≡ variant (code_of fault) (byte_of size fault))
