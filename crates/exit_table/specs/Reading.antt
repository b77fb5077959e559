-- Reading fields of 4 bytes in order, up to the first that is at fault.
use Rattle.std.specs.Prelude.{◌≡◌, ℕ, zero, suc, ◌+◌, ◌*◌, ◌%◌, ◌^◌, Bool, true, false, ◌&&◌, ◌==◌, List, [], ◌∷◌, length, Result, Ok, Err, ⊤}
use Rattle.exit_table.specs.declared.fault.Cause.{Cause}
use Rattle.b3_base.specs.Fields.{fields}
use Rattle.exit_table.specs.declared.fault.Cause.TheVariants.{Mark, Extent, Unlisted}
use Rattle.exit_table.specs.declared.fault.Fault.{Fault}
use Rattle.exit_table.specs.declared.fault.Fault.TheVariants.{Short, At}
use Rattle.exit_table.specs.declared.fault.ReadError.{ReadError}
use Rattle.exit_table.specs.declared.fault.ReadError.TheVariants as errors

-- what is read from the fields that are left, and the fields behind it; or the first fault
abbrev pub Reader : Type 0 → Type 0
Reader A = List ℕ → Result (A × List ℕ) Fault

abbrev pub and_then : {A B : Type 0} → Result A Fault → (A → Result B Fault) → Result B Fault
and_then (Ok x) f = f x
and_then (Err e) f = Err e

-- one after the other
infixl 10 ◌>>=◌
abbrev pub ◌>>=◌ : {A B : Type 0} → Reader A → (A → Reader B) → Reader B
◌>>=◌ reader f fields = and_then (reader fields) (λ x. f x.0 x.1)

-- nothing is read
abbrev pub give : {A : Type 0} → A → Reader A
give x fields = Ok (x, fields)

-- what a number says, if it meets a condition
abbrev pub check : {A : Type 0} → Bool → Cause → A → Result A Cause
check true cause x = Ok x
check false cause x = Err cause

-- a fault of a field stands where so many fields are left, this one among them
abbrev pub placed : {A : Type 0} → ℕ → Result A Cause → Result A Fault
placed left (Ok x) = Ok x
placed left (Err cause) = Err (At cause left)

-- the next number
abbrev pub next : List ℕ → Result (ℕ × List ℕ) Fault
next [] = Err Short
next (n ∷ rest) = Ok (n, rest)

-- a field of 4 bytes, by what its number says
abbrev pub one : {A : Type 0} → (ℕ → Result A Cause) → Reader A
one judge fields = and_then (next fields) (λ n. and_then (placed (length fields) (judge n.0)) (λ x. Ok (x, n.1)))

-- a field of 8 bytes, least word first
abbrev pub two : {A : Type 0} → (ℕ → Result A Cause) → Reader A
two judge fields = and_then (next fields) (λ low. and_then (next low.1) (λ high. and_then (placed (length fields) (judge (low.0 + 2 ^ 32 * high.0))) (λ x. Ok (x, high.1))))

-- a field that may have any number
abbrev pub any : ℕ → Result ℕ Cause
any n = Ok n

-- so many rows, each read in the light of those before it: `after` tells what is known behind a row
unfoldable pub rows : {K A : Type 0} → (K → Reader A) → (K → A → K) → K → ℕ → Reader (List A)
rows row after known zero fields = Ok ([], fields)
rows row after known (suc n) fields = and_then (row known fields) (λ first. and_then (rows row after (after known first.0) n first.1) (λ others. Ok (first.0 ∷ others.0, others.1)))

-- the first fields of a section: its mark and version 1
abbrev pub is_mark : ℕ → ℕ → Result ℕ Cause
is_mark mark n = check (n == mark) Mark n

unfoldable pub mark_at : ℕ → Reader ⊤
mark_at mark = do
  m ← one (is_mark mark)
  v ← one (is_mark 1)
  give tt

-- a field that is always zero
abbrev pub is_zero : ℕ → Result ℕ Cause
is_zero n = check (n == 0) Unlisted n

-- where all is read, no byte is left
abbrev pub ended : List ℕ → List ℕ → Result ⊤ Fault
ended bytes fields = placed (length fields) (check ((length fields == 0) && (length bytes % 4 == 0)) Extent tt)

-- all of the bytes
unfoldable pub whole : {A : Type 0} → Reader A → List ℕ → Result A Fault
whole reader bytes = and_then (reader (fields bytes)) (λ x. and_then (ended bytes x.1) (λ _. Ok x.0))

-- for want of memory anything may be told, otherwise the fault
abbrev pub Fails : {A : Type 0} → ReadError → Result A Fault → Type 0
Fails errors.NoMemory read = ⊤
Fails (errors.Fault fault) read = read ≡ Err fault

-- what a function returned, as `view` shows it, is what is read, unless memory ran out
abbrev pub Gives : {A B : Type 0} → (A → B) → Result A ReadError → Result B Fault → Type 0
Gives view (Ok x) read = read ≡ Ok (view x)
Gives view (Err e) read = Fails e read
