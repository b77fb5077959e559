-- No public clause cites this module. The bytes of an answer, put one after the other.
use Rattle.std.specs.Prelude.{ℕ, nat_eq, nat_lt, if◌then◌else◌}
use Rattle.b3_base.specs.Observed.{Memory}
use Rattle.b3_meaning.specs.Run.{with_writes}

-- the memory with the byte at one address
abbrev pub with_byte : Memory → Memory → ℕ → Memory
with_byte memory writes address q = if nat_eq q address then with_writes memory writes q else memory q

-- the memory with the bytes below an address
abbrev pub with_bytes_below : Memory → Memory → ℕ → Memory
with_bytes_below memory writes limit q = if nat_lt q limit then with_writes memory writes q else memory q
