-- Single bytes, and bytes that are taken over from one memory into another.
use Rattle.std.proofs.Common.{◌≡◌, ℕ, ◌+◌, ◌-◌, ◌^◌, ◌<◌, Bool, true, [], ◌∷◌, Option, Some, None, refl, ap, ◌∙◌, arith}
use mathlib.Core.Path.{fun_ext}
use Rattle.std.specs.Prelude.{◌&&◌, nat_lt, is_some, if◌then◌else◌}
use Rattle.std.specs.Option.{option_or}
use Rattle.std.proofs.lemmas.Bool.Decides.{nat_tests}
use Rattle.std.proofs.lemmas.Option.{slice_get_past}
use Rattle.b3_base.specs.Memory.{byte_address, byte_of, with_byte_above, read_word, write_word, put_byte, map_bytes, AreBytes}
use Rattle.b3_base.specs.Observed.{Memory}
use Rattle.a64_run.specs.Taking.{with_range}

-- ---- one byte

above_nothing : (byte : Option ℕ) → with_byte_above 0 (Some 0) byte ≡ byte
above_nothing None = refl
above_nothing (Some byte) = ap Some (omega arith)

pub read_one : (m : Memory) (address : ℕ) → address < 2 ^ 64 → read_word m address 1 ≡ m address
unfolding read_word
read_one m address small =
    let e : byte_address address 0 ≡ address = omega arith in
    above_nothing (m (byte_address address 0)) ∙ ap m e

pub is_byte : (m : Memory) (address word : ℕ) → AreBytes m → m address ≡ Some word → word < 256
is_byte m address word are e = let fact = are address in (rw e at fact).1

pub write_one : (m : Memory) (address byte : ℕ) → address < 2 ^ 64 → byte < 256 → write_word m address 1 byte ≡ put_byte m address byte
unfolding write_word
write_one m address byte small fits =
    let a : byte_address address 0 ≡ address = omega arith in
    let b : byte_of byte 0 ≡ byte = omega arith in
    rw (a, b) refl

mapped_at : (m : Memory) (address byte q : ℕ) → map_bytes m address (byte ∷ []) q ≡ put_byte m address byte q
mapped_at m address byte q = grind (arith, nat_tests, slice_get_past)

pub map_one : (m : Memory) (address byte : ℕ) → map_bytes m address (byte ∷ []) ≡ put_byte m address byte
map_one m address byte = fun_ext (mapped_at m address byte)

-- ---- bytes that are taken over

taken_at : (into from : Memory) (address byte q : ℕ) → from address ≡ Some byte → put_byte into address byte q ≡ with_range into from address 1 q
taken_at into from address byte q e = grind (arith, nat_tests)

none_taken_at : (into from : Memory) (address q : ℕ) → from address ≡ None → into q ≡ with_range into from address 1 q
none_taken_at into from address q e = grind (arith, nat_tests)

pub take_one : (into from : Memory) (address byte : ℕ) → from address ≡ Some byte → put_byte into address byte ≡ with_range into from address 1
take_one into from address byte e = fun_ext (λ q. taken_at into from address byte q e)

pub take_none : (into from : Memory) (address : ℕ) → from address ≡ None → into ≡ with_range into from address 1
take_none into from address e = fun_ext (λ q. none_taken_at into from address q e)

pub take_nothing : (into from : Memory) (first : ℕ) → into ≡ with_range into from first 0
take_nothing into from first = fun_ext (λ q. grind (arith, nat_tests))

pub take_more : (into from : Memory) (first n : ℕ) → with_range (with_range into from first n) from (first + n) 1 ≡ with_range into from first (n + 1)
take_more into from first n = fun_ext (λ q. grind (arith, nat_tests))

-- ---- bytes at the addresses of a third memory, from the lowest up to below the next one

abbrev pub is_before : ℕ → Option ℕ → Bool
is_before q None = true
is_before q (Some next) = nat_lt q next

abbrev pub taken_below : Memory → Memory → Memory → Option ℕ → Memory
taken_below into from places next q = if is_some (places q) && is_before q next then option_or (from q) (into q) else into q

-- how far the next address is from the end
abbrev pub left_of : Option ℕ → ℕ
left_of None = 0
left_of (Some next) = 2 ^ 64 - next
