-- Bytes that are mapped where nothing is mapped yet.
use Rattle.std.proofs.Common.{◌≡◌, ℕ, zero, suc, ◌+◌, ◌^◌, ◌<◌, ◌≤◌, Bool, true, false, cond, ◌||◌, List, length, Option, Some, None, is_some, IsSome, refl, sym, ap, subst, ◌∙◌, arith, ⊎_elim}
use mathlib.Core.Path.{fun_ext}
use Rattle.std.specs.Prelude.{nat_le, option_and_then}
use Rattle.std.specs.FinMap as map
use Rattle.std.specs.Ordering.{nat_cmp}
use Rattle.std.proofs.lemmas.Bool.{cases_lt, le-leb}
use Rattle.std.proofs.lemmas.Bool.Decides.{nat_tests}
use Rattle.b3_base.specs.Memory.{IsAnyMapped, map_bytes}
use Rattle.b3_base.specs.Observed.{Memory, no_memory}
use Rattle.b3_base.specs.Observed.{Give as GiveAnswer}
use Rattle.b3_trial.specs.declared.line.Piece.{Piece}
use Rattle.b3_trial.specs.Trials.{SoFar, is_any_mapped, with_answer, with_give, with_piece, with_pieces}

either : (a b : Bool) → a || b ≡ false → (a ≡ false) × (b ≡ false)
either true b h = absurd cc
either false true h = absurd cc
either false false h = (refl, refl)

some_is : (o : Option ℕ) → is_some o ≡ false → IsSome o → ⊥
some_is None e some = let bad : false ≡ true = some in absurd cc
some_is (Some x) e some = absurd cc

is_there : (o : Option ℕ) → is_some o ≡ true → IsSome o
is_there None e = absurd cc
is_there (Some x) e = refl

none_any : (m : Memory) (first n : ℕ) → is_any_mapped m first n ≡ false → IsAnyMapped m first n → ⊥
unfolding is_any_mapped
none_any m first zero e (i, low, some) = absurd (omega (arith, low))
none_any m first (suc n) e (i, low, some) =
    let both = either (is_any_mapped m first n) (is_some (m (first + n))) e in
    ⊎_elim
    (λ under. none_any m first n both.0 (i, under, some))
    (λ over. let same : i ≡ n = omega (arith, low) in some_is (m (first + n)) both.1 (subst (λ (k : ℕ). IsSome (m (first + k))) same some))
    (cases_lt i n)

or_cases : (m : Memory) (first n : ℕ) (a b : Bool) → a || b ≡ true → (a ≡ true → IsAnyMapped m first n) → (b ≡ true → IsSome (m (first + n)))
    → IsAnyMapped m first (suc n)
or_cases m first n true b h more here = let any = more refl in (any.0, omega (arith, any.1), any.2)
or_cases m first n false true h more here = (n, omega arith, here refl)
or_cases m first n false false h more here = absurd cc

some_any : (m : Memory) (first n : ℕ) → is_any_mapped m first n ≡ true → IsAnyMapped m first n
unfolding is_any_mapped
some_any m first zero e = absurd cc
some_any m first (suc n) e =
    or_cases m first n (is_any_mapped m first n) (is_some (m (first + n))) e (some_any m first n) (is_there (m (first + n)))

decided : (m : Memory) (first n : ℕ) (x : Bool) → is_any_mapped m first n ≡ x → (IsAnyMapped m first n → ⊥) → is_any_mapped m first n ≡ false
decided m first n true e free = absurd (free (some_any m first n e))
decided m first n false e free = e

decided_true : (m : Memory) (first n : ℕ) (x : Bool) → is_any_mapped m first n ≡ x → IsAnyMapped m first n → is_any_mapped m first n ≡ true
decided_true m first n true e any = e
decided_true m first n false e any = absurd (none_any m first n e any)

-- ---- a piece that is put, and one that isn't

pub piece_put : (m new : Memory) (piece : Piece) → ¬ (2 ^ 64 < piece.address + length piece.bytes)
    → ¬ ((piece.address + length piece.bytes ≤ 2 ^ 64) × IsAnyMapped m piece.address (length piece.bytes)) → new ≡ map_bytes m piece.address piece.bytes
    → with_piece m piece ≡ Some new
unfolding with_piece
piece_put m new piece ends free e =
    let fits : piece.address + length piece.bytes ≤ 2 ^ 64 = grind (arith, ends) in
    let test : nat_le (piece.address + length piece.bytes) (2 ^ 64) ≡ true = le-leb _ _ fits in
    let none = decided m piece.address (length piece.bytes) (is_any_mapped m piece.address (length piece.bytes)) refl (λ any. free (fits, any)) in
    rw (test, none) (ap Some (sym e))

pub piece_wraps : (m : Memory) (piece : Piece) → 2 ^ 64 < piece.address + length piece.bytes → with_piece m piece ≡ None
unfolding with_piece
piece_wraps m piece over =
    let test : nat_le (piece.address + length piece.bytes) (2 ^ 64) ≡ false = grind (arith, nat_tests) in
    rw test refl

pub piece_overlaps : (m : Memory) (piece : Piece) → piece.address + length piece.bytes ≤ 2 ^ 64 → IsAnyMapped m piece.address (length piece.bytes)
    → with_piece m piece ≡ None
unfolding with_piece
piece_overlaps m piece fits any =
    let test : nat_le (piece.address + length piece.bytes) (2 ^ 64) ≡ true = le-leb _ _ fits in
    let some = decided_true m piece.address (length piece.bytes) (is_any_mapped m piece.address (length piece.bytes)) refl any in
    rw (test, some) refl

-- ---- what an answer writes

pub empty_memory : (v : map.FinMap nat_cmp ℕ) → v ≡ map.empty → map.get v ≡ no_memory
empty_memory v e = ap map.get e ∙ fun_ext (λ q. map.get-empty nat_cmp q)

pub give_not : (s : SoFar) (value : ℕ) (pieces : List Piece) (m new : Memory) (good : Bool) → m ≡ no_memory → with_pieces m pieces ≡ cond good (Some new) None
    → good ≡ false → with_give s value pieces ≡ None
give_not s value pieces m new good first e off =
    let none : with_pieces no_memory pieces ≡ None = ap (λ (x : Memory). with_pieces x pieces) (sym first) ∙ e
    ∙ ap (λ (x : Bool). cond x (Some new) None) off in
    ap (option_and_then (λ (x : Memory). with_answer s (GiveAnswer value x))) none

pub give_put : (s : SoFar) (value : ℕ) (pieces : List Piece) (m new : Memory) (good : Bool) → m ≡ no_memory → with_pieces m pieces ≡ cond good (Some new) None
    → good ≡ true → with_give s value pieces ≡ with_answer s (GiveAnswer value new)
give_put s value pieces m new good first e on =
    let some : with_pieces no_memory pieces ≡ Some new = ap (λ (x : Memory). with_pieces x pieces) (sym first) ∙ e
    ∙ ap (λ (x : Bool). cond x (Some new) None) on in
    ap (option_and_then (λ (x : Memory). with_answer s (GiveAnswer value x))) some
