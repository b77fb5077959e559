-- Accesses of one byte.
use Rattle.std.proofs.Common.{◌≡◌, ℕ, ◌^◌, ◌<◌, Option, Some, None, is_some, refl, ap, arith}
use Rattle.b3_base.specs.Memory.{byte_address, byte_of, with_byte_above, is_mapped, read_word, put_byte, write_word}

pub first_address : (address : ℕ) → address < 2 ^ 64 → byte_address address 0 ≡ address
first_address address small = omega arith

pub byte_alone : (byte : Option ℕ) → with_byte_above 0 (Some 0) byte ≡ byte
byte_alone None = refl
byte_alone (Some byte) = ap Some (omega arith)

pub mapped_one : (m : ℕ → Option ℕ) (address : ℕ) → address < 2 ^ 64 → is_mapped m address 1 ≡ is_some (m address)
unfolding is_mapped
mapped_one m address small = rw (first_address address small) refl

pub read_one : (m : ℕ → Option ℕ) (address : ℕ) → address < 2 ^ 64 → read_word m address 1 ≡ m address
unfolding read_word
read_one m address small = rw (first_address address small) (byte_alone (m address))

pub write_one : (m : ℕ → Option ℕ) (address byte : ℕ) → address < 2 ^ 64 → byte < 256 → write_word m address 1 byte ≡ put_byte m address byte
unfolding write_word
write_one m address byte small fits =
    let same : byte_of byte 0 ≡ byte = omega arith in
    rw (first_address address small, same) refl
