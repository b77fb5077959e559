-- The bytes of an answer, put one after the other.
use Rattle.std.proofs.Common.{◌≡◌, ◌≢◌, ℕ, ◌+◌, ◌^◌, ◌<◌, ◌≤◌, Bool, true, false, Option, Some, None, is_some, IfSome, refl, sym, ap, subst, ⊎_elim, ◌∙◌, arith, if◌then◌else◌}
use mathlib.Core.Path.{fun_ext}
use Rattle.std.specs.Bool.{OnTrue, OnFalse}
use Rattle.std.specs.FinMap as finite
use Rattle.std.specs.FinMap.{FinMap}
use Rattle.std.specs.Ordering.{nat_cmp}
use Rattle.std.specs.Option.{option_or}
use Rattle.std.proofs.lemmas.Bool.{cases_eq, cases_lt, eq-eqb, le-ltb, lt-ltb, ne_eqb}
use Rattle.b3_base.proofs.OneByte.{read_one, mapped_one, write_one}
use Rattle.b3_base.specs.Memory.{AreBytes, IsNextMapped, is_mapped, put_byte, read_word, write_word}
use Rattle.b3_base.specs.Observed.{Memory}
use Rattle.b3_meaning.specs.Run.{with_writes}
use Rattle.b3_eval.specs.Writes.{with_byte, with_bytes_below}

-- ---- one byte

-- what isn't written stays
pub unwritten : (m writes : Memory) (q : ℕ) → writes q ≡ None → with_writes m writes q ≡ m q
unwritten m writes q none = rw none (kept (m q))
  where
    kept : (o : Option ℕ) → (if is_some o then option_or None o else None) ≡ o
    kept (Some byte) = refl
    kept None = refl

pub unmapped : (m writes : Memory) (q : ℕ) → is_some (m q) ≡ false → with_writes m writes q ≡ m q
unmapped m writes q none = rw none (nothing (m q) none)
  where
    nothing : (o : Option ℕ) → is_some o ≡ false → None ≡ o
    nothing (Some byte) e = absurd (cc)
    nothing None e = refl

pub written : (m writes : Memory) (q byte : ℕ) → is_some (m q) ≡ true → writes q ≡ Some byte → with_writes m writes q ≡ Some byte
written m writes q byte some is = rw (some, is) refl

-- a memory that is as another one but for an address, where it has what is written
pub at_one : (m n writes : Memory) (address : ℕ) → n address ≡ with_writes m writes address → ((q : ℕ) → q ≢ address → n q ≡ m q) →
    n ≡ with_byte m writes address
at_one m n writes address same others = fun_ext (λ q. ⊎_elim
    (λ is. rw (eq-eqb q address is) (ap n is ∙ same ∙ ap (with_writes m writes) (sym is)))
    (λ not. rw (ne_eqb q address not) (others q not))
    (cases_eq q address))

put_here : (m : Memory) (address byte : ℕ) → put_byte m address byte address ≡ Some byte
put_here m address byte = rw (eq-eqb address address refl) refl

put_there : (m : Memory) (address byte q : ℕ) → q ≢ address → put_byte m address byte q ≡ m q
put_there m address byte q not = rw (ne_eqb q address not) refl

-- a byte of an answer, put where the memory holds its address
pub put_done : (m n writes : Memory) (address byte : ℕ) (told : Bool) → address < 2 ^ 64 → byte < 256 → read_word writes address 1 ≡ Some byte →
    told ≡ is_mapped m address 1 → OnTrue told (n ≡ write_word m address 1 byte) → OnFalse told (n ≡ m) → n ≡ with_byte m writes address
put_done m n writes address byte true small fits read told done undone =
    let is : writes address ≡ Some byte = sym (read_one writes address small) ∙ read in
    let some : is_some (m address) ≡ true = sym (told ∙ mapped_one m address small) in
    let put : n ≡ put_byte m address byte = done ∙ write_one m address byte small fits in
    at_one m n writes address (ap (λ (k : Memory). k address) put ∙ put_here m address byte ∙ sym (written m writes address byte some is))
    (λ q not. ap (λ (k : Memory). k q) put ∙ put_there m address byte q not)
put_done m n writes address byte false small fits read told done undone =
    let none : is_some (m address) ≡ false = sym (told ∙ mapped_one m address small) in
    at_one m n writes address (ap (λ (k : Memory). k address) undone ∙ sym (unmapped m writes address none)) (λ q not. ap (λ (k : Memory). k q) undone)

pub put_nothing : (m writes : Memory) (address : ℕ) → address < 2 ^ 64 → read_word writes address 1 ≡ None → m ≡ with_byte m writes address
put_nothing m writes address small read =
    let none : writes address ≡ None = sym (read_one writes address small) ∙ read in
    at_one m m writes address (sym (unwritten m writes address none)) (λ q not. refl)

-- the byte at an address of bytes is one
pub byte_at : (m : Memory) (address byte : ℕ) → AreBytes m → address < 2 ^ 64 → read_word m address 1 ≡ Some byte → byte < 256
byte_at m address byte bytes small read =
    let is : m address ≡ Some byte = sym (read_one m address small) ∙ read in
    let P : Option ℕ → Type 0 = λ o. IfSome o (λ b. (address < 2 ^ 64) × (b < 256)) in
    let h : (address < 2 ^ 64) × (byte < 256) = subst P is (bytes address) in
    h.1

-- ---- all bytes

-- memories that are one have the same bytes
pub off_same : (told : Bool) (new old : FinMap nat_cmp ℕ) → OnFalse told (new ≡ old) → OnFalse told (finite.get new ≡ finite.get old)
off_same true new old same = tt
off_same false new old same = ap finite.get same
