-- Accesses of the bytes that the run of Air sees of memory.
use mathlib.Core.Path.{fun_ext}
use Rattle.std.proofs.Common.{◌≡◌, ℕ, zero, suc, ◌<◌, Bool, true, false, None, Some, refl, sym, ap, ◌∙◌, arith, nat_eq, eqb-true}
use Rattle.std.specs.Prelude.{is_some, ◌||◌, if◌then◌else◌}
use Rattle.b3_base.specs.Memory.{AreApart, byte_address, byte_of, is_mapped, put_byte, read_word, write_word}
use Rattle.b3_base.specs.Observed.{Memory, MachineStart}
use Rattle.b3_base.proofs.MemoryLaws.{is_mapped_all, is_mapped_at}
use Rattle.b3_base.proofs.WordLaws.{read_word_same}
use Rattle.exit_table.specs.declared.tables.FrameRow.{FrameRow}
use Rattle.a64_run.specs.Placement.{in_slot, visible}

-- whether a byte is seen: it is the user's or in a slot
abbrev pub is_seen : FrameRow → MachineStart → ℕ → Bool
is_seen row m q = is_some (m.memory q) || in_slot row m q

seen_of : (row : FrameRow) (m : MachineStart) (memory : Memory) (q : ℕ) → is_some (visible row m memory q) ≡ true → is_seen row m q ≡ true
seen_of row m memory q there =
    elim (is_seen row m q) as (λ b. is_some (if b then memory q else None) ≡ true → b ≡ true) [ true ↦ λ e. refl | false ↦ λ e. absurd cc ] there

seen_is : (row : FrameRow) (m : MachineStart) (memory : Memory) (q : ℕ) → is_seen row m q ≡ true → visible row m memory q ≡ memory q
seen_is row m memory q seen = ap (λ b. if b then memory q else None) seen

module _ (row : FrameRow) (m : MachineStart) (memory : Memory) (address n : ℕ) (mapped : is_mapped (visible row m memory) address n ≡ true) where
  -- what is mapped there is seen
  pub bytes_seen : (i : ℕ) → i < n → is_seen row m (byte_address address i) ≡ true
  bytes_seen i lt = seen_of row m memory (byte_address address i) (is_mapped_at (visible row m memory) address n i mapped lt)

  pub read_seen : read_word (visible row m memory) address n ≡ read_word memory address n
  read_seen = read_word_same (visible row m memory) memory address n (λ i lt. seen_is row m memory (byte_address address i) (bytes_seen i lt))

  pub mapped_seen : is_mapped memory address n ≡ true
  mapped_seen = is_mapped_all memory address n (λ i lt.
      ap is_some (sym (seen_is row m memory (byte_address address i) (bytes_seen i lt))) ∙ is_mapped_at (visible row m memory) address n i mapped lt)

  -- bytes that aren't seen are others
  pub hidden_apart : (at k : ℕ) → ((j : ℕ) → j < k → is_seen row m (byte_address at j) ≡ false) → AreApart at k address n
  hidden_apart at k hidden i j lt_i lt_j e =
      let no = hidden i lt_i in
      let yes : is_seen row m (byte_address at i) ≡ true = ap (is_seen row m) e ∙ bytes_seen j lt_j in
      cc

byte_put : (row : FrameRow) (m : MachineStart) (memory : Memory) (a byte q : ℕ) → is_seen row m a ≡ true
    → visible row m (put_byte memory a byte) q ≡ put_byte (visible row m memory) a byte q
byte_put row m memory a byte q seen =
    elim (nat_eq q a) as (λ b. nat_eq q a ≡ b → (if is_seen row m q then (if b then Some byte else memory q) else None)
    ≡ (if b then Some byte else visible row m memory q)) [
      | true ↦ λ same. ap (λ c. if c then Some byte else None) (ap (is_seen row m) (eqb-true q a same) ∙ seen)
      | false ↦ λ other. refl
    ] refl

-- a store to bytes that are seen is the same store to what is seen
pub write_seen : (row : FrameRow) (m : MachineStart) (memory : Memory) (address n word : ℕ) → ((i : ℕ) → i < n → is_seen row m (byte_address address i) ≡ true)
    → visible row m (write_word memory address n word) ≡ write_word (visible row m memory) address n word
unfolding write_word
write_seen row m memory address zero word seen = refl
write_seen row m memory address (suc n) word seen =
    let below = write_seen row m memory address n word (λ i lt. seen i (omega arith)) in
    fun_ext (λ q. byte_put row m (write_word memory address n word) (byte_address address n) (byte_of word n) q (seen n (omega arith)))
    ∙ ap (λ (x : Memory). put_byte x (byte_address address n) (byte_of word n)) below
