-- What is printed of a memory.
use Rattle.std.proofs.Common.{◌≡◌, ℕ, zero, suc, ◌+◌, ◌-◌, ◌^◌, ◌<◌, ◌≤◌, true, not, List, [], ◌++◌, Option, Some, None, is_some, IfSome, refl, sym, ap, subst, ◌∙◌, add-zero, append_assoc, arith}
use Rattle.std.proofs.lemmas.List.{append-nil}
use Rattle.b3_base.proofs.OneByte.{byte_alone}
use Rattle.b3_base.specs.Memory.{AreBytes, byte_address, read_word}
use Rattle.b3_base.specs.Observed.{Memory}
use Rattle.b3_trial.specs.Shown.{byte_at, memory_below}

-- ---- one byte

pub is_byte : (m : Memory) (address : ℕ) (o : Option ℕ) → AreBytes m → o ≡ m address → IfSome o (λ byte. byte < 256)
is_byte m address None are e = tt
is_byte m address (Some byte) are e =
    let both = subst (λ (o : Option ℕ). IfSome o (λ b. (address < 2 ^ 64) × (b < 256))) (sym e) (are address) in both.1

-- ---- all bytes

pub below_none : (m : Memory) → memory_below m 0 ≡ []
unfolding memory_below
below_none m = refl

below_suc : (m : Memory) (n : ℕ) → memory_below m (suc n) ≡ memory_below m n ++ byte_at m n (m n)
unfolding memory_below
below_suc m n = refl

pub below_more : (m : Memory) (n next : ℕ) → next ≡ n + 1 → memory_below m next ≡ memory_below m n ++ byte_at m n (m n)
below_more m n next e = let same : next ≡ suc n = omega arith in ap (memory_below m) same ∙ below_suc m n

-- addresses that hold nothing add nothing
below_on : (m : Memory) (from k : ℕ) → ((q : ℕ) → from ≤ q → q < from + k → m q ≡ None) → memory_below m (from + k) ≡ memory_below m from
below_on m from zero none = ap (memory_below m) (add-zero from)
below_on m from (suc k) none =
    let here : m (from + k) ≡ None = none (from + k) (omega arith) (omega arith) in
    below_more m (from + k) (from + suc k) (omega arith)
    ∙ ap (λ (o : Option ℕ). memory_below m (from + k) ++ byte_at m (from + k) o) here
    ∙ append-nil (memory_below m (from + k))
    ∙ below_on m from k (λ q low high. none q low (omega arith))

pub below_skipped : (m : Memory) (from next : ℕ) → from ≤ next → ((q : ℕ) → from ≤ q → q < next → m q ≡ None) → memory_below m next ≡ memory_below m from
below_skipped m from next low none =
    let same : next ≡ from + (next - from) = omega arith in
    ap (memory_below m) same ∙ below_on m from (next - from) (λ q a b. none q a (omega arith))

-- one byte more
pub next_byte : (m : Memory) (from address next : ℕ) (first old new : List ℕ) → from ≤ address → ((q : ℕ) → from ≤ q → q < address → m q ≡ None)
    → next ≡ address + 1 → old ≡ first ++ memory_below m from → new ≡ old ++ byte_at m address (m address) → new ≡ first ++ memory_below m next
next_byte m from address next first old new low none e f g =
    g ∙ ap (λ (x : List ℕ). x ++ byte_at m address (m address)) (f ∙ ap (λ (x : List ℕ). first ++ x) (sym (below_skipped m from address low none)))
    ∙ append_assoc first (memory_below m address) (byte_at m address (m address))
    ∙ ap (λ (x : List ℕ). first ++ x) (sym (below_more m address next e))

pub no_more : (m : Memory) (from : ℕ) (first out : List ℕ) → from ≤ 2 ^ 64 → ((q : ℕ) → from ≤ q → m q ≡ None) → out ≡ first ++ memory_below m from
    → out ≡ first ++ memory_below m (2 ^ 64)
no_more m from first out low none e = e ∙ ap (λ (x : List ℕ). first ++ x) (sym (below_skipped m from (2 ^ 64) low (λ q a b. none q a)))
