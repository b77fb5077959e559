-- One module is spelled, one line is bad, and one limit is passed first.
use Rattle.std.proofs.Common.{◌≡◌, ℕ, zero, suc, List, inl, inr, Some, None, Result, Ok, Err, refl, sym, ap, subst, ◌∙◌, arith}
use Rattle.std.specs.Prelude.{IfOk, IfErr}
use Rattle.std.proofs.lemmas.Bool.{cases_lt}
use Rattle.b3_ir.specs.Procedure.{Kept, Procedure, procedures}
use Rattle.b3_lines.specs.Lines.{lines_of}
use Rattle.b3_module.specs.declared.fault.LimitName.{LimitName}
use Rattle.b3_module.specs.declared.fault.LimitName.TheVariants as limits
use Rattle.b3_module.specs.declared.fault.TextFault.{TextFault}
use Rattle.b3_module.specs.declared.fault.TextFault.TheVariants.{Syntax, Limit, NoMemory}
use Rattle.b3_module.specs.Limits.{IsFirstLimit, KeepsLimits, Passes, rank}
use Rattle.b3_module.specs.Texts.{BadLine, Spells}
use Rattle.b3_module.specs.declared.counting.Counts.{Counts}
use Rattle.b3_module.specs.declared.counting.Passed.{Passed}
use Rattle.b3_module.specs.Counting.{first_told}
use Rattle.b3_rows.proofs.RangeLemmas.{row_range}
use Rattle.b3_module.specs.TextModules.{IsTextModule}
use Rattle.b3_module.proofs.TextLemmas.{spelled_text}
use Rattle.b3_module.specs.Told.{Gives, IfLimit, IfSyntax}
use Rattle.b3_module.proofs.BadLines.{one_bad_line, text_is_good}

one_module : (bytes : List ℕ) (m n : List Procedure) → Spells bytes m → Spells bytes n → m ≡ n
one_module bytes m n h k = let e = sym h ∙ k in cc

of_rank : ℕ → LimitName
of_rank zero = limits.Procedures
of_rank (suc zero) = limits.Values
of_rank (suc (suc zero)) = limits.Children
of_rank (suc (suc (suc zero))) = limits.ProcedureValues
of_rank (suc (suc (suc (suc zero)))) = limits.ProcedureBlocks
of_rank (suc (suc (suc (suc (suc zero))))) = limits.ProcedureChildren
of_rank (suc (suc (suc (suc (suc (suc zero)))))) = limits.Slots
of_rank (suc (suc (suc (suc (suc (suc (suc n))))))) = limits.SlotBytes

of_its_rank : (w : LimitName) → of_rank (rank w) ≡ w
unfolding of_rank
of_its_rank limits.Procedures = refl
of_its_rank limits.Values = refl
of_its_rank limits.Children = refl
of_its_rank limits.ProcedureValues = refl
of_its_rank limits.ProcedureBlocks = refl
of_its_rank limits.ProcedureChildren = refl
of_its_rank limits.Slots = refl
of_its_rank limits.SlotBytes = refl

same_rank : (v w : LimitName) → rank v ≡ rank w → v ≡ w
same_rank v w e = sym (of_its_rank v) ∙ ap of_rank e ∙ of_its_rank w

same_line : (m : List Procedure) (v w : LimitName) (k n : ℕ) → IsFirstLimit m v k → IsFirstLimit m w n → k ≡ n
same_line m v w k n h i =
    elim (cases_lt k n) [
      | inl below ↦ absurd (i.first v k below h.passes)
      | inr above ↦ elim (cases_lt n k) [
        | inl below ↦ absurd (h.first w n below i.passes)
        | inr same ↦ omega arith
      ]
    ]

same_limit : (m : List Procedure) (v w : LimitName) (n : ℕ) → IsFirstLimit m v n → IsFirstLimit m w n → v ≡ w
same_limit m v w n h i =
    elim (cases_lt (rank v) (rank w)) [
      | inl below ↦ absurd (i.least v below h.passes)
      | inr above ↦ elim (cases_lt (rank w) (rank v)) [
        | inl below ↦ absurd (h.least w below i.passes)
        | inr same ↦ same_rank v w (omega arith)
      ]
    ]

abbrev Found : List ℕ → Result (List Kept) TextFault → Type 0
Found bytes result = IfOk result (λ made. Spells bytes (procedures made))

abbrev Within : Result (List Kept) TextFault → Type 0
Within result = IfOk result (λ made. KeepsLimits (procedures made))

abbrev Bad : List ℕ → Result (List Kept) TextFault → Type 0
Bad bytes result = IfErr result (λ fault. IfSyntax fault (λ line. BadLine bytes line))

abbrev Past : List ℕ → Result (List Kept) TextFault → Type 0
Past bytes result = IfErr result (λ fault. IfLimit fault (λ which line. (m : List Procedure) × Spells bytes m × IsFirstLimit m which line))

pub spelled_is_read : (bytes : List ℕ) (result : Result (List Kept) TextFault) → Found bytes result → Bad bytes result → Past bytes result → (m : List Procedure) → Spells bytes m → KeepsLimits m → Gives result (Ok m)
spelled_is_read bytes (Ok made) found bad past m h keeps = ap Ok (one_module bytes m (procedures made) h found)
spelled_is_read bytes (Err (Syntax line)) found bad past m h keeps = absurd (text_is_good (lines_of bytes) m line h bad)
spelled_is_read bytes (Err (Limit which line)) found bad past m h keeps =
    let same = one_module bytes past.0 m past.1 h in
    absurd (keeps which line (subst (λ (x : List Procedure). Passes which line x) same past.2.passes))
spelled_is_read bytes (Err NoMemory) found bad past m h keeps = tt

pub bad_is_told : (bytes : List ℕ) (result : Result (List Kept) TextFault) → Found bytes result → Bad bytes result → Past bytes result → (line : ℕ) → BadLine bytes line → Gives result (Err (Syntax line))
bad_is_told bytes (Ok made) found bad past line h = absurd (text_is_good (lines_of bytes) (procedures made) line found h)
bad_is_told bytes (Err (Syntax other)) found bad past line h = ap (λ (n : ℕ). Err (Syntax n)) (one_bad_line (lines_of bytes) line other h bad)
bad_is_told bytes (Err (Limit which other)) found bad past line h = absurd (text_is_good (lines_of bytes) past.0 line past.1 h)
bad_is_told bytes (Err NoMemory) found bad past line h = tt

pub limit_is_told : (bytes : List ℕ) (result : Result (List Kept) TextFault) → Found bytes result → Within result → Bad bytes result → Past bytes result → (m : List Procedure) (which : LimitName) (line : ℕ) → Spells bytes m → IsFirstLimit m which line → Gives result (Err (Limit which line))
limit_is_told bytes (Ok made) found within bad past m which line h first =
    let same = one_module bytes m (procedures made) h found in
    absurd (within which line (subst (λ (x : List Procedure). Passes which line x) same first.passes))
limit_is_told bytes (Err (Syntax other)) found within bad past m which line h first = absurd (text_is_good (lines_of bytes) m other h bad)
limit_is_told bytes (Err (Limit w n)) found within bad past m which line h first =
    let same = one_module bytes past.0 m past.1 h in
    let other = subst (λ (x : List Procedure). IsFirstLimit x w n) same past.2 in
    let lines = same_line m which w line n first other in
    let names = same_limit m which w n (subst (λ (k : ℕ). IsFirstLimit m which k) lines first) other in
    ap (λ (k : ℕ). Err (Limit which k)) lines ∙ ap (λ (x : LimitName). Err (Limit x n)) names
limit_is_told bytes (Err NoMemory) found within bad past m which line h first = tt

-- ---- what a count tells

pub none_told : (r : Result Counts Passed) → first_told r ≡ None → (c : Counts) × (r ≡ Ok c)
none_told (Ok c) h = (c, refl)
none_told (Err fault) h = absurd cc

pub some_told : (r : Result Counts Passed) (fault : Passed) → first_told r ≡ Some fault → r ≡ Err fault
some_told (Ok c) fault h = absurd cc
some_told (Err other) fault h = let same : other ≡ fault = cc in ap Err same

pub text_is_read : (bytes : List ℕ) (r : Result (List Kept) TextFault) → IfOk r (λ m. Spells bytes (procedures m)) → IfOk r (λ m. IsTextModule (procedures m))
text_is_read bytes (Ok m) ok = spelled_text row_range bytes (procedures m) ok
text_is_read bytes (Err fault) ok = tt
