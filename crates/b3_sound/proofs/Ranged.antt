-- States whose words are words of their types, and how they stay so.
use Rattle.std.proofs.Common.{◌≡◌, ◌≢◌, ℕ, ◌*◌, ◌^◌, ◌<◌, ◌≤◌, Bool, true, false, Option, Some, None, is_some, sym, subst, arith, ⊎_elim, nat_eq}
use Rattle.std.specs.Prelude.{IfSome, if◌then◌else◌}
use Rattle.std.specs.Option.{option_or}
use Rattle.std.proofs.Math.Pow.{pow_mono}
use Rattle.std.proofs.lemmas.Bool.Decides.{eqb_tells}
use Rattle.std.proofs.lemmas.Option.{same_Some}
use Rattle.b3_base.specs.Memory.{AreBytes}
use Rattle.b3_base.specs.Observed.{Memory}
use Rattle.b3_base.specs.declared.word.Width.{Width}
use Rattle.b3_base.specs.declared.word.Width.TheVariants.{W32}
use Rattle.b3_base.specs.Word.{bits}
use Rattle.b3_ir.specs.Naming.{type_of}
use Rattle.b3_ir.specs.Procedure.{Procedure}
use Rattle.b3_meaning.specs.Run.{extended, loaded, with_writes}
use Rattle.b3_sound.proofs.Results.{IsBelow, IsIn, limit_of, low_in, narrow_in}

-- ---- one word more

pub put_ranged : (p : Procedure) (f : ℕ → Option ℕ) (id new : ℕ) → IsIn (type_of p id) new → ((q word : ℕ) → f q ≡ Some word → IsIn (type_of p q) word)
    → (q word : ℕ) → (if nat_eq q id then Some new else f q) ≡ Some word → IsIn (type_of p q) word
put_ranged p f id new small old q word =
    ⊎_elim
    (λ (yes : (nat_eq q id ≡ true) × (q ≡ id)). subst (λ b. (if b then Some new else f q) ≡ Some word → IsIn (type_of p q) word) (sym yes.0)
    (λ (e : Some new ≡ Some word). subst (λ (i : ℕ). IsIn (type_of p i) word) (sym yes.1)
    (subst (λ (w : ℕ). IsIn (type_of p id) w) (same_Some new word e) small)))
    (λ (no : (nat_eq q id ≡ false) × (q ≢ id)). subst (λ b. (if b then Some new else f q) ≡ Some word → IsIn (type_of p q) word) (sym no.0)
    (λ (e : f q ≡ Some word). old q word e))
    (eqb_tells q id)

-- ---- memory

either_byte : (q : ℕ) (write kept : Option ℕ) → IfSome write (λ byte. (q < 2 ^ 64) × (byte < 256)) → IfSome kept (λ byte. (q < 2 ^ 64) × (byte < 256))
    → IfSome (if is_some kept then option_or write kept else None) (λ byte. (q < 2 ^ 64) × (byte < 256))
either_byte q (Some byte) (Some other) first second = first
either_byte q (Some byte) None first second = tt
either_byte q None (Some other) first second = second
either_byte q None None first second = tt

pub writes_bytes : (memory writes : Memory) → AreBytes memory → AreBytes writes → AreBytes (with_writes memory writes)
writes_bytes memory writes kept new q = either_byte q (writes q) (memory q) (new q) (kept q)

-- ---- loads

within : (n m word : ℕ) → n ≤ m → word < 2 ^ n → word < 2 ^ m
within n m word le lt = let more : 2 ^ n ≤ 2 ^ m = pow_mono le in omega (arith, more)

pub loaded_below : (width : Width) (extends : Bool) (bytes : ℕ) (o : Option ℕ) → is_some o ≡ true → IfSome o (λ w. w < 2 ^ (8 * bytes)) → 8 * bytes ≤ bits width
    → IsBelow (limit_of width) (loaded extends bytes o)
loaded_below width true bytes (Some word) some lt le = narrow_in width (extended true bytes word) (low_in W32 _)
loaded_below width false bytes (Some word) some lt le = within (8 * bytes) (bits width) word le lt
loaded_below width extends bytes None some lt le = absurd (cc)
